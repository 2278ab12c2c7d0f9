-- What is lent to elements, where equal loans are kept once.
--   loan_at       the loan of an element: the encoding that it states, and the Nodes that name it
--   ArePlacesOf   the places of loans in a list of loans
--   lent_by       for each loan the ports that its Nodes lend
--   shared        for each element one of some lists
use Rattle.std.specs.Prelude.{◌≡◌, ◌⊎◌, ℕ, ◌+◌, ◌<◌, ◌^◌, All, ◌&&◌, List, [], ◌∷◌, ◌++◌, cond, None, Some, is_none, map, length, slice_get, slice_index_or}
use Rattle.std.specs.List.{range_with_len}
use Rattle.nml_elements.specs.declared.elements.Element.{Element}
use Rattle.nml_elements.specs.declared.elements.Element.TheVariants as element
use Rattle.alias_merge.specs.Rising.{rising_leads}
use Rattle.circuit_spec.specs.Network.{Topology, Placed, elements_of, ports}
use Rattle.nml_inventory.specs.declared.loans.Loan.{Loan}
use Rattle.nml_inventory.specs.Tables.{lending_nodes, lent_over, rows_from}

abbrev pub no_loan : Loan
no_loan = record { encoding = None; nodes = [] }

-- the loan of the element of this number, by the Nodes that name each element: empty but for a SwitchingService that lists nothing
abbrev pub loan_at : List (List ℕ) → ℕ → Element → Loan
loan_at nodes number (element.Switching s) =
    cond (is_none s.inbound && is_none s.outbound) (record { encoding = s.encoding; nodes = slice_index_or nodes number [] }) no_loan
loan_at nodes number (element.Node n) = no_loan
loan_at nodes number (element.Port p) = no_loan
loan_at nodes number (element.Link l) = no_loan
loan_at nodes number (element.Adaptation a) = no_loan
loan_at nodes number (element.Deadaptation a) = no_loan
loan_at nodes number (element.Conversion c) = no_loan

-- the loans of elements with numbers from n on
abbrev pub loans_from : List (List ℕ) → ℕ → List Placed → List Loan
loans_from nodes n [] = []
loans_from nodes n (e ∷ es) = loan_at nodes n e.element ∷ loans_from nodes (n + 1) es

-- each of the rows is the place of the loan that is wanted there
abbrev pub ArePlacesOf : List Loan → List ℕ → List Loan → Type 0
ArePlacesOf kinds [] [] = Unit {0}
ArePlacesOf kinds [] (l ∷ loans) = ⊥
ArePlacesOf kinds (r ∷ rows) [] = ⊥
ArePlacesOf kinds (r ∷ rows) (l ∷ loans) = (slice_get kinds r ≡ Some l) × ArePlacesOf kinds rows loans

-- the Nodes of the loan have numbers below this
abbrev pub LendWithin : ℕ → Loan → Type 0
LendWithin top l = All (λ n. n < top) l.nodes

-- the loans of all elements, with the place of each
pub record AreLoans (T : Topology) (kinds : List Loan) (rows : List ℕ) : Type 0 where
  pub few : length kinds < 2 ^ 32
  pub within : All (LendWithin (length (elements_of T))) kinds
  pub places : ArePlacesOf kinds rows (loans_from (lending_nodes T) 0 (elements_of T))

-- one more element has the loan, which is among them now
pub record HasLoaned (old_kinds new_kinds : List Loan) (old_rows new_rows : List ℕ) (loan : Loan) : Type 0 where
  pub row : ℕ
  pub rows : new_rows ≡ old_rows ++ row ∷ []
  pub at : slice_get new_kinds row ≡ Some loan
  pub kinds : (new_kinds ≡ old_kinds) ⊎ (new_kinds ≡ old_kinds ++ loan ∷ [])

-- the numbers of loans with those of their ports
abbrev pub lent_arcs : Topology → List (List ℕ) → List Loan → List (ℕ × ℕ)
lent_arcs T listed kinds = rows_from (λ (n : ℕ) (l : Loan). lent_over T listed n l.encoding l.nodes) 0 kinds

abbrev pub lent_by : Topology → List (List ℕ) → List Loan → List (List ℕ)
lent_by T listed kinds = map (rising_leads (length (ports T)) (lent_arcs T listed kinds)) (range_with_len 0 (length kinds))

abbrev pub shared : List (List ℕ) → List ℕ → List (List ℕ)
shared lists rows = map (λ row. slice_index_or lists row []) rows
