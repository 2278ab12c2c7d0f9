-- Loans of elements, numbered one after another.
use Rattle.std.proofs.Common.{◌≡◌, ℕ, suc, ◌+◌, ◌<◌, ◌≤◌, ◌⊎◌, inl, inr, List, [], ◌∷◌, ◌++◌, Bool, true, false, cond, Some, take, length, get_or, sym, ◌∙◌, ap, subst, arith, length-append}
use Rattle.std.specs.Prelude.{slice_get, is_none, ◌&&◌}
use Rattle.std.specs.List.{All}
use Rattle.std.proofs.lemmas.Bool.{cases_lt}
use Rattle.std.proofs.lemmas.List.{length-take-le, take_more}
use Rattle.std.proofs.lemmas.List.Elements.{All-append, All-cons, All-nil}
use Rattle.std.proofs.lemmas.Option.{slice_get_within, get_or_from_slice_get}
use Rattle.ml_base.proofs.Lists.{at_left}
use Rattle.nml_elements.specs.declared.elements.Element.{Element}
use Rattle.nml_elements.specs.declared.elements.Element.TheVariants as element
use Rattle.circuit_spec.specs.Network.{Topology, Placed, elements_of, id_of, names}
use Rattle.nml_inventory.specs.declared.loans.Loan.{Loan}
use Rattle.nml_inventory.specs.Loans.{ArePlacesOf, HasLoaned, LendWithin, loan_at, loans_from, no_loan}
use Rattle.nml_inventory.specs.Tables.{lending_in, lending_nodes}
use Rattle.nml_inventory.proofs.Lending.{is_table, row_below}

-- the loans of the first elements
pub record AreLoansUpTo (T : Topology) (number : ℕ) (kinds : List Loan) (rows : List ℕ) : Type 0 where
  pub few : length kinds ≤ number
  pub within : All (LendWithin (length (elements_of T))) kinds
  pub places : ArePlacesOf kinds rows (loans_from (lending_nodes T) 0 (take number (elements_of T)))

places_stay : (kinds more : List Loan) (rows : List ℕ) (loans : List Loan) → ArePlacesOf kinds rows loans → ArePlacesOf (kinds ++ more) rows loans
places_stay kinds more [] [] are = tt
places_stay kinds more [] (l ∷ loans) are = absurd are
places_stay kinds more (r ∷ rows) [] are = absurd are
places_stay kinds more (r ∷ rows) (l ∷ loans) are = (at_left kinds more r l are.0, places_stay kinds more rows loans are.1)

place_more : (kinds : List Loan) (rows : List ℕ) (loans : List Loan) (row : ℕ) (loan : Loan) → ArePlacesOf kinds rows loans → slice_get kinds row ≡ Some loan → ArePlacesOf kinds (rows ++ row ∷ []) (loans ++ loan ∷ [])
place_more kinds [] [] row loan are at = (at, tt)
place_more kinds [] (l ∷ loans) row loan are at = absurd are
place_more kinds (r ∷ rows) [] row loan are at = absurd are
place_more kinds (r ∷ rows) (l ∷ loans) row loan are at = (are.0, place_more kinds rows loans row loan are.1 at)

loans_push : (nodes : List (List ℕ)) (n : ℕ) (es : List Placed) (e : Placed) → loans_from nodes n (es ++ e ∷ []) ≡ loans_from nodes n es ++ loan_at nodes (n + length es) e.element ∷ []
loans_push nodes n [] e = let k : n ≡ n + 0 = omega arith in ap (λ m. loan_at nodes m e.element ∷ []) k
loans_push nodes n (x ∷ es) e =
    let k : n + 1 + length es ≡ n + suc (length es) = omega arith in
    ap (λ ls. loan_at nodes n x.element ∷ ls) (loans_push nodes (n + 1) es e ∙ ap (λ m. loans_from nodes (n + 1) es ++ loan_at nodes m e.element ∷ []) k)

loans_more : (nodes : List (List ℕ)) (es : List Placed) (i : ℕ) (e : Placed) → slice_get es i ≡ Some e → loans_from nodes 0 (take (i + 1) es) ≡ loans_from nodes 0 (take i es) ++ loan_at nodes i e.element ∷ []
loans_more nodes es i e at =
    let within = slice_get_within es i e at in
    let k : 0 + length (take i es) ≡ i = omega (arith, length-take-le i es (omega arith)) in
    ap (loans_from nodes 0) (take_more es i e within ∙ ap (λ (y : Placed). take i es ++ y ∷ []) (get_or_from_slice_get es i e e at))
    ∙ loans_push nodes 0 (take i es) e ∙ ap (λ m. loans_from nodes 0 (take i es) ++ loan_at nodes m e.element ∷ []) k

-- the Nodes that lend are elements
loan_within : (T : Topology) (n : ℕ) (e : Element) → LendWithin (length (elements_of T)) (loan_at (lending_nodes T) n e)
loan_within T n (element.Switching s) = by (is_none s.inbound && is_none s.outbound)
  where
    by : (b : Bool) → LendWithin (length (elements_of T)) (cond b (record { encoding = s.encoding; nodes = get_or (lending_nodes T) n [] }) no_loan)
    by true = row_below (length (elements_of T)) (length (elements_of T)) (lending_nodes T) n (is_table (λ (x m : Placed). names (lending_in m.element) (id_of x.element)) (elements_of T) (elements_of T)) (cases_lt n (length (lending_nodes T)))
    by false = All-nil (λ m. m < length (elements_of T))
loan_within T n (element.Node x) = All-nil (λ m. m < length (elements_of T))
loan_within T n (element.Port x) = All-nil (λ m. m < length (elements_of T))
loan_within T n (element.Link x) = All-nil (λ m. m < length (elements_of T))
loan_within T n (element.Adaptation x) = All-nil (λ m. m < length (elements_of T))
loan_within T n (element.Deadaptation x) = All-nil (λ m. m < length (elements_of T))
loan_within T n (element.Conversion x) = All-nil (λ m. m < length (elements_of T))

-- one more loan
module _ (T : Topology) (n : ℕ) (e : Placed) (old new : List Loan) (rows later : List ℕ) (at : slice_get (elements_of T) n ≡ Some e) (are : AreLoansUpTo T n old rows) (has : HasLoaned old new rows later (loan_at (lending_nodes T) n e.element)) where
  few_by : (new ≡ old) ⊎ (new ≡ old ++ loan_at (lending_nodes T) n e.element ∷ []) → length new ≤ n + 1
  few_by (inl same) = omega (arith, ap length same, are.few)
  few_by (inr more) = omega (arith, ap length more ∙ length-append old (loan_at (lending_nodes T) n e.element ∷ []), are.few)

  within_by : (new ≡ old) ⊎ (new ≡ old ++ loan_at (lending_nodes T) n e.element ∷ []) → All (LendWithin (length (elements_of T))) new
  within_by (inl same) = subst (λ (ls : List Loan). All (LendWithin (length (elements_of T))) ls) (sym same) are.within
  within_by (inr more) =
      let loan = loan_at (lending_nodes T) n e.element in
      subst (λ (ls : List Loan). All (LendWithin (length (elements_of T))) ls) (sym more)
      (All-append (LendWithin (length (elements_of T))) old (loan ∷ []) are.within
      (All-cons (LendWithin (length (elements_of T))) loan [] (loan_within T n e.element) (All-nil (LendWithin (length (elements_of T))))))

  stay_by : (new ≡ old) ⊎ (new ≡ old ++ loan_at (lending_nodes T) n e.element ∷ []) → ArePlacesOf new rows (loans_from (lending_nodes T) 0 (take n (elements_of T)))
  stay_by (inl same) = subst (λ (ls : List Loan). ArePlacesOf ls rows (loans_from (lending_nodes T) 0 (take n (elements_of T)))) (sym same) are.places
  stay_by (inr more) =
      let loan = loan_at (lending_nodes T) n e.element in
      subst (λ (ls : List Loan). ArePlacesOf ls rows (loans_from (lending_nodes T) 0 (take n (elements_of T)))) (sym more)
      (places_stay old (loan ∷ []) rows (loans_from (lending_nodes T) 0 (take n (elements_of T))) are.places)

  pub one_more : AreLoansUpTo T (n + 1) new later
  one_more =
      let loan = loan_at (lending_nodes T) n e.element in
      let before = loans_from (lending_nodes T) 0 (take n (elements_of T)) in
      record {
        few = few_by has.kinds;
        within = within_by has.kinds;
        places =
            subst (λ (ls : List Loan). ArePlacesOf new later ls) (sym (loans_more (lending_nodes T) (elements_of T) n e at))
            (subst (λ ns. ArePlacesOf new ns (before ++ loan ∷ [])) (sym has.rows) (place_more new rows before has.row loan (stay_by has.kinds) has.at));
      }
