-- The ports that Nodes lend to SwitchingServices, by numbers and by ids; and what the tables say of one element.
use Rattle.std.proofs.Common.{◌≡◌, ℕ, zero, suc, ◌+◌, ◌<◌, ◌≤◌, ◌⊎◌, ◌==◌, inl, inr, List, [], ◌∷◌, Bool, true, false, ◌&&◌, cond, Option, None, Some, map, filter, length, get_or, refl, sym, ◌∙◌, ap, subst, arith}
use Rattle.std.specs.Prelude.{slice_get, option_map, is_none, unwrap_or}
use Rattle.std.specs.List.{list_any, range_with_len, All, enumerate_from}
use Rattle.std.specs.Str.{bytes_eq}
use Rattle.std.proofs.lemmas.Bool.{eqb-true, cases_lt}
use Rattle.std.proofs.lemmas.List.{length-map, get_or_past}
use Rattle.std.proofs.lemmas.Option.{slice_get_within}
use Rattle.std.proofs.lemmas.List.Elements.{All-append, All-filter, All-map, All-nil, All-cons, All-weaker}
use Rattle.std.proofs.Math.Bool.{and-true, and-false}
use Rattle.ml_base.proofs.Lists.{one_of_some, any_filter}
use Rattle.nml_elements.specs.declared.elements.NodeE.{NodeE}
use Rattle.nml_elements.specs.declared.elements.SwitchE.{SwitchE}
use Rattle.nml_elements.specs.declared.elements.Element.{Element}
use Rattle.nml_elements.specs.declared.elements.Element.TheVariants as element
use Rattle.alias_merge.specs.Groups.{ComeFromBelow}
use Rattle.alias_merge.specs.Rising.{LeadBelow, has_arc, holds, rising_leads}
use Rattle.circuit_spec.specs.Network.{Name, Topology, Placed, Port, elements_of, id_of, names, ports}
use Rattle.circuit_spec.specs.Steps.{has_encoding, inbound_of, outbound_of}
use Rattle.nml_inventory.specs.declared.arcs.Listing.{Listing}
use Rattle.nml_inventory.specs.declared.arcs.Listing.TheVariants.{Inbound, Outbound}
use Rattle.nml_inventory.specs.declared.loans.Loan.{Loan}
use Rattle.nml_inventory.specs.Lent.{lends}
use Rattle.nml_inventory.specs.Loans.{ArePlacesOf, lent_arcs, lent_by, loan_at, loans_from, no_loan, shared}
use Rattle.nml_inventory.specs.Relations.{AreNumbersOf, numbers_where}
use Rattle.nml_inventory.specs.Tables.{IsTable, in_element, inbound_in, outbound_in, lending_in, lending_nodes, listed_ports, lent_of, lent_over, lent_ports, lent_to, takes, takes_number}
use Rattle.nml_inventory.proofs.ClassNumbers.{port_id}
use Rattle.nml_inventory.proofs.Distinct.{AreDistinct, has_at}
use Rattle.nml_inventory.proofs.LentPorts.{ports_of_services}
use Rattle.nml_inventory.proofs.Searches.{any_flat, any_same}
use Rattle.nml_inventory.proofs.Tabling.{Arc, any_and, any_numbers, filter_numbers, held_number, numbers_from, row_at, rows_all}
use Rattle.alias_merge.proofs.Sorting.{any_map}

pub mapped_at : {A B : Type 0} (f : A → B) (xs : List A) (i : ℕ) (x : A) (d : B) → slice_get xs i ≡ Some x → get_or (map f xs) i d ≡ f x
mapped_at f [] i x d at = cc
mapped_at f (y ∷ xs) zero x d at = ap f (one_of_some at)
mapped_at f (y ∷ xs) (suc i) x d at = mapped_at f xs i x d at

-- Bounds

below_by : (b : Bool) (top a : ℕ) (rest : List ℕ) → a < top → All (λ n. n < top) rest → All (λ n. n < top) (cond b (a ∷ rest) rest)
below_by true top a rest h all = All-cons (λ n. n < top) a rest h all
below_by false top a rest h all = all

pub numbers_below : {A : Type 0} (test : A → Bool) (top a : ℕ) (xs : List A) → a + length xs ≡ top → All (λ n. n < top) (numbers_from test a xs)
numbers_below test top a [] e = All-nil (λ n. n < top)
numbers_below {A} test top a (x ∷ xs) e =
    let later = numbers_below test top (a + 1) xs (omega (arith, e)) in
    by (test x) later
  where
    by : (b : Bool) → All (λ n. n < top) (numbers_from test (a + 1) xs) → All (λ n. n < top) (map (λ (y : ℕ × A). y.0) (cond b ((a, x) ∷ filter (λ (y : ℕ × A). test y.1) (enumerate_from (a + 1) xs)) (filter (λ (y : ℕ × A). test y.1) (enumerate_from (a + 1) xs))))
    by true all = All-cons (λ n. n < top) a (numbers_from test (a + 1) xs) (omega (arith, e)) all
    by false all = all

pub is_table : {A B : Type 0} (test : B → A → Bool) (ys : List A) (xs : List B) → IsTable (length xs) (length ys) (map (λ x. numbers_where (test x) ys) xs)
is_table {A} {B} test ys xs = record {
  long = length-map xs (λ x. numbers_where (test x) ys);
  below = All-map (λ (g : List ℕ). All (λ n. n < length ys) g) (λ (x : B). numbers_where (test x) ys) xs (λ k d h. numbers_below (test (get_or xs k d)) (length ys) 0 ys (omega arith));
}

-- Arcs of lending

and_parts_of : (a b c d : Bool) → (d ≡ true → a ≡ c) → (a && (b && d)) ≡ ((b && c) && d)
and_parts_of true true c true k = k refl ∙ sym (and-true c)
and_parts_of false true c true k = k refl ∙ sym (and-true c)
and_parts_of true false c true k = refl
and_parts_of false false c true k = refl
and_parts_of true true true false k = refl
and_parts_of true true false false k = refl
and_parts_of true false c false k = refl
and_parts_of false true true false k = refl
and_parts_of false true false false k = refl
and_parts_of false false c false k = refl

and_assoc : (a b c : Bool) → ((a && b) && c) ≡ (a && (b && c))
and_assoc true b c = refl
and_assoc false b c = refl

lent_of_leads : (T : Topology) (service : ℕ) (encoding : Option Name) (found : List ℕ) (i j : ℕ) → has_arc (lent_of T service encoding found) i j ≡ ((service == i) && (takes_number T encoding j && holds found j))
lent_of_leads T service encoding found i j =
    let t : Arc → Bool = λ a. (a.0 == i) && (a.1 == j) in
    let k : ℕ → Bool = takes_number T encoding in
    any_map t (λ (p : ℕ). (service, p)) (filter k found)
    ∙ any_filter (λ (p : ℕ). (service == i) && (p == j)) k found
    ∙ any_same (λ p. k p && ((service == i) && (p == j))) (λ p. ((service == i) && k j) && (p == j)) (λ p. and_parts_of (k p) (service == i) (k j) (p == j) (λ e. ap k (eqb-true p j e))) found
    ∙ any_and ((service == i) && k j) (λ p. p == j) found
    ∙ and_assoc (service == i) (k j) (holds found j)

lent_over_leads : (T : Topology) (listed : List (List ℕ)) (service : ℕ) (encoding : Option Name) (nodes : List ℕ) (i j : ℕ) → has_arc (lent_over T listed service encoding nodes) i j ≡ ((service == i) && (takes_number T encoding j && list_any (λ m. holds (get_or listed m []) j) nodes))
lent_over_leads T listed service encoding nodes i j =
    let k = takes_number T encoding j in
    any_flat (λ (a : Arc). (a.0 == i) && (a.1 == j)) (λ m. lent_of T service encoding (get_or listed m [])) nodes
    ∙ any_same (λ m. has_arc (lent_of T service encoding (get_or listed m [])) i j) (λ m. ((service == i) && k) && holds (get_or listed m []) j)
    (λ m. lent_of_leads T service encoding (get_or listed m []) i j ∙ sym (and_assoc (service == i) k (holds (get_or listed m []) j))) nodes
    ∙ any_and ((service == i) && k) (λ m. holds (get_or listed m []) j) nodes
    ∙ and_assoc (service == i) k (list_any (λ m. holds (get_or listed m []) j) nodes)

-- whether the Nodes of a loan hold the number of a port that has its encoding
abbrev loan_holds : Topology → List (List ℕ) → Loan → ℕ → Bool
loan_holds T listed l j = takes_number T l.encoding j && list_any (λ m. holds (get_or listed m []) j) l.nodes

abbrev pub list_of : Topology → List (List ℕ) → Loan → List ℕ
list_of T listed l = filter (loan_holds T listed l) (range_with_len 0 (length (ports T)))

-- the Nodes of a service hold a port's number where they lend the port
nodes_hold : (T : Topology) (listing : Listing) (i j : ℕ) (e : Placed) (q : Port) → slice_get (elements_of T) i ≡ Some e → slice_get (ports T) j ≡ Some q → list_any (λ m. holds (get_or (listed_ports T listing) m []) j) (get_or (lending_nodes T) i []) ≡ list_any (λ (n : Placed). names (lending_in n.element) (id_of e.element) && names (in_element listing n.element) q.id) (elements_of T)
nodes_hold T listing i j e q at_i at_j =
    let p : ℕ → Bool = λ m. holds (get_or (listed_ports T listing) m []) j in
    ap (list_any p) (mapped_at (λ (x : Placed). numbers_where (λ (n : Placed). names (lending_in n.element) (id_of x.element)) (elements_of T)) (elements_of T) i e [] at_i)
    ∙ any_numbers (λ (n : Placed). names (lending_in n.element) (id_of e.element)) p (λ (n : Placed). names (in_element listing n.element) q.id) 0 (elements_of T)
    (λ m n at.
    let f : 0 + m ≡ m = omega arith in
    let g : j ≡ 0 + j = omega arith in
    ap p f ∙ ap (λ xs. holds xs j) (mapped_at (λ (x : Placed). numbers_where (λ (y : Port). names (in_element listing x.element) y.id) (ports T)) (elements_of T) m n [] at)
    ∙ ap (holds (numbers_where (λ (y : Port). names (in_element listing n.element) y.id) (ports T))) g
    ∙ held_number (λ (y : Port). names (in_element listing n.element) y.id) 0 (ports T) j q at_j)

if_lent : (T : Topology) (listed : List (List ℕ)) (l : Loan) (j : ℕ) (b : Bool) → loan_holds T listed (cond b l no_loan) j ≡ (b && loan_holds T listed l j)
if_lent T listed l j true = refl
if_lent T listed l j false = and-false (takes_number T None j)

loan_lends : (T : Topology) (listing : Listing) (i j : ℕ) (x : Placed) (e : Element) (q : Port) → slice_get (elements_of T) i ≡ Some x → x.element ≡ e → slice_get (ports T) j ≡ Some q → loan_holds T (listed_ports T listing) (loan_at (lending_nodes T) i e) j ≡ lent_to T listing e q
loan_lends T listing i j x (element.Switching s) q at_i is at_j =
    let none = is_none s.inbound && is_none s.outbound in
    if_lent T (listed_ports T listing) (record { encoding = s.encoding; nodes = get_or (lending_nodes T) i [] }) j none
    ∙ ap (λ (o : Option Port). none && (unwrap_or (option_map (takes s.encoding) o) false && list_any (λ m. holds (get_or (listed_ports T listing) m []) j) (get_or (lending_nodes T) i []))) at_j
    ∙ ap (λ b. none && (takes s.encoding q && b)) (nodes_hold T listing i j x q at_i at_j)
    ∙ ap (λ (f : Element). none && (takes s.encoding q && list_any (λ (n : Placed). names (lending_in n.element) (id_of f) && names (in_element listing n.element) q.id) (elements_of T))) is
loan_lends T listing i j x (element.Node y) q at_i is at_j = and-false (takes_number T None j)
loan_lends T listing i j x (element.Port y) q at_i is at_j = and-false (takes_number T None j)
loan_lends T listing i j x (element.Link y) q at_i is at_j = and-false (takes_number T None j)
loan_lends T listing i j x (element.Adaptation y) q at_i is at_j = and-false (takes_number T None j)
loan_lends T listing i j x (element.Deadaptation y) q at_i is at_j = and-false (takes_number T None j)
loan_lends T listing i j x (element.Conversion y) q at_i is at_j = and-false (takes_number T None j)

filter_as : {A : Type 0} (s t : A → Bool) → ((x : A) → s x ≡ t x) → (xs : List A) → filter s xs ≡ filter t xs
filter_as s t same [] = refl
filter_as {A} s t same (x ∷ xs) = ap (λ b. cond b (x ∷ filter s xs) (filter s xs)) (same x) ∙ ap (λ (ys : List A). cond (t x) (x ∷ ys) ys) (filter_as s t same xs)

-- what is made of the numbers of a range, where it is that of the items
ranged : {A B : Type 0} (f : ℕ → B) (g : A → B) (a : ℕ) (xs : List A) → ((i : ℕ) (x : A) → slice_get xs i ≡ Some x → f (a + i) ≡ g x) → map f (range_with_len a (length xs)) ≡ map g xs
ranged f g a [] same = refl
ranged {A} {B} f g a (x ∷ xs) same =
    let e : a ≡ a + 0 = omega arith in
    ap (λ (y : B). y ∷ map f (range_with_len (a + 1) (length xs))) (ap f e ∙ same 0 x refl)
    ∙ ap (λ (ys : List B). g x ∷ ys) (ranged f g (a + 1) xs (λ i y at. let k : a + 1 + i ≡ a + suc i = omega arith in ap f k ∙ same (suc i) y at))

-- the ports of each loan
lists_are : (T : Topology) (listed : List (List ℕ)) (kinds : List Loan) → lent_by T listed kinds ≡ map (list_of T listed) kinds
lists_are T listed kinds =
    let row : ℕ → Loan → List Arc = λ n l. lent_over T listed n l.encoding l.nodes in
    ranged (rising_leads (length (ports T)) (lent_arcs T listed kinds)) (list_of T listed) 0 kinds
    (λ i l at.
    filter_as (has_arc (lent_arcs T listed kinds) (0 + i)) (loan_holds T listed l)
    (λ j. row_at row (λ n k. loan_holds T listed k j) 0 kinds i j l (λ n k m. lent_over_leads T listed n k.encoding k.nodes m j) at)
    (range_with_len 0 (length (ports T))))

-- the lists at the places of loans are those of the loans
at_places : (g : Loan → List ℕ) (kinds : List Loan) (rows : List ℕ) (loans : List Loan) → ArePlacesOf kinds rows loans → shared (map g kinds) rows ≡ map g loans
at_places g kinds [] [] are = refl
at_places g kinds [] (l ∷ loans) are = absurd are
at_places g kinds (r ∷ rows) [] are = absurd are
at_places g kinds (r ∷ rows) (l ∷ loans) are =
    ap (λ ns. ns ∷ shared (map g kinds) rows) (mapped_at g kinds r l [] are.0)
    ∙ ap (λ rest. g l ∷ rest) (at_places g kinds rows loans are.1)

loans_lend : (nodes : List (List ℕ)) (g : Loan → List ℕ) (h : Placed → List ℕ) (a : ℕ) (es : List Placed) → ((i : ℕ) (e : Placed) → slice_get es i ≡ Some e → g (loan_at nodes (a + i) e.element) ≡ h e) → map g (loans_from nodes a es) ≡ map h es
loans_lend nodes g h a [] same = refl
loans_lend nodes g h a (e ∷ es) same =
    let k : a ≡ a + 0 = omega arith in
    ap (λ ns. ns ∷ map g (loans_from nodes (a + 1) es)) (ap (λ n. g (loan_at nodes n e.element)) k ∙ same 0 e refl)
    ∙ ap (λ rest. h e ∷ rest) (loans_lend nodes g h (a + 1) es (λ i x at. let m : a + 1 + i ≡ a + suc i = omega arith in ap (λ n. g (loan_at nodes n x.element)) m ∙ same (suc i) x at))

-- lending by loans is lending by ids
pub lent_are : (T : Topology) (listing : Listing) (kinds : List Loan) (rows : List ℕ) → ArePlacesOf kinds rows (loans_from (lending_nodes T) 0 (elements_of T)) → shared (lent_by T (listed_ports T listing) kinds) rows ≡ lent_ports T listing
lent_are T listing kinds rows are =
    let nodes = lending_nodes T in
    let listed = listed_ports T listing in
    ap (λ lists. shared lists rows) (lists_are T listed kinds)
    ∙ at_places (list_of T listed) kinds rows (loans_from nodes 0 (elements_of T)) are
    ∙ loans_lend nodes (list_of T listed) (λ (e : Placed). numbers_where (lent_to T listing e.element) (ports T)) 0 (elements_of T)
    (λ i e at.
    let f : 0 + i ≡ i = omega arith in
    ap (λ n. list_of T listed (loan_at nodes n e.element)) f
    ∙ filter_numbers (loan_holds T listed (loan_at nodes i e.element)) (lent_to T listing e.element) 0 (ports T)
    (λ j q at_j. let g : 0 + j ≡ j = omega arith in ap (loan_holds T listed (loan_at nodes i e.element)) g ∙ loan_lends T listing i j e e.element q at refl at_j))

-- Bounds of the arcs

pub row_below : (rows top : ℕ) (t : List (List ℕ)) (m : ℕ) → IsTable rows top t → (m < length t) ⊎ (length t ≤ m) → All (λ n. n < top) (get_or t m [])
row_below rows top t m is (inl h) = is.below m [] h
row_below rows top t m is (inr h) = subst (λ (ns : List ℕ). All (λ n. n < top) ns) (sym (get_or_past t m [] h)) (All-nil (λ n. n < top))

module _ (P : Arc → Type 0) (T : Topology) (listed : List (List ℕ)) (is : IsTable (length (elements_of T)) (length (ports T)) listed) where
  over_all : (service : ℕ) (encoding : Option Name) → ((q : ℕ) → q < length (ports T) → P (service, q)) → (nodes : List ℕ) → All P (lent_over T listed service encoding nodes)
  over_all service encoding all [] = All-nil P
  over_all service encoding all (m ∷ nodes) =
      let found = get_or listed m [] in
      All-append P (lent_of T service encoding found) (lent_over T listed service encoding nodes)
      (All-map P (λ (q : ℕ). (service, q)) (filter (takes_number T encoding) found)
      (All-filter (takes_number T encoding) (λ (q : ℕ). P (service, q)) found
      (All-weaker (λ q. q < length (ports T)) (λ q. P (service, q)) all found (row_below (length (elements_of T)) (length (ports T)) listed m is (cases_lt m (length listed))))))
      (over_all service encoding all nodes)

pub lent_from_below : (T : Topology) (kinds : List Loan) (listed : List (List ℕ)) → IsTable (length (elements_of T)) (length (ports T)) listed → ComeFromBelow (length kinds) (lent_arcs T listed kinds)
lent_from_below T kinds listed is =
    let P : Arc → Type 0 = λ a. a.0 < length kinds in
    rows_all (λ (n : ℕ) (l : Loan). lent_over T listed n l.encoding l.nodes) P 0 kinds
    (λ i l h. over_all P T listed is (0 + i) l.encoding (λ q k. omega arith) l.nodes)

pub lent_to_below : (T : Topology) (kinds : List Loan) (listed : List (List ℕ)) → IsTable (length (elements_of T)) (length (ports T)) listed → LeadBelow (length (ports T)) (lent_arcs T listed kinds)
lent_to_below T kinds listed is =
    let P : Arc → Type 0 = λ a. a.1 < length (ports T) in
    rows_all (λ (n : ℕ) (l : Loan). lent_over T listed n l.encoding l.nodes) P 0 kinds
    (λ i l h. over_all P T listed is (0 + i) l.encoding (λ q k. k) l.nodes)

-- the places of loans are within the list
pub places_within : (kinds : List Loan) (rows : List ℕ) (loans : List Loan) → ArePlacesOf kinds rows loans → All (λ r. r < length kinds) rows
places_within kinds [] [] are = All-nil (λ r. r < length kinds)
places_within kinds [] (l ∷ loans) are = absurd are
places_within kinds (r ∷ rows) [] are = absurd are
places_within kinds (r ∷ rows) (l ∷ loans) are = All-cons (λ n. n < length kinds) r rows (slice_get_within kinds r l are.0) (places_within kinds rows loans are.1)

-- One element's ports

same_by : {A : Type 0} (a : ℕ) (x : A) (xs ys : List (ℕ × A)) (b c : Bool) → b ≡ c → map (λ (y : ℕ × A). y.0) xs ≡ map (λ (y : ℕ × A). y.0) ys → map (λ (y : ℕ × A). y.0) (cond b ((a, x) ∷ xs) xs) ≡ map (λ (y : ℕ × A). y.0) (cond c ((a, x) ∷ ys) ys)
same_by {A} a x xs ys true true e rest = ap (λ ns. a ∷ ns) rest
same_by a x xs ys false false e rest = rest
same_by a x xs ys true false e rest = cc
same_by a x xs ys false true e rest = cc

pub numbers_same : {A : Type 0} (s t : A → Bool) (a : ℕ) (xs : List A) → ((i : ℕ) (x : A) → slice_get xs i ≡ Some x → s x ≡ t x) → numbers_from s a xs ≡ numbers_from t a xs
numbers_same s t a [] same = refl
numbers_same {A} s t a (x ∷ xs) same =
    same_by a x (filter (λ (y : ℕ × A). s y.1) (enumerate_from (a + 1) xs)) (filter (λ (y : ℕ × A). t y.1) (enumerate_from (a + 1) xs)) (s x) (t x) (same 0 x refl)
    (numbers_same s t (a + 1) xs (λ i y at. same (suc i) y at))

numbers_none : {A : Type 0} (a : ℕ) (xs : List A) → numbers_from (λ x. false) a xs ≡ []
numbers_none a [] = refl
numbers_none a (x ∷ xs) = numbers_none (a + 1) xs

pub placed_of : (T : Topology) (n : ℕ) (e : Element) (o : Option Placed) → slice_get (elements_of T) n ≡ o → option_map (λ (x : Placed). x.element) o ≡ Some e → (x : Placed) × (slice_get (elements_of T) n ≡ Some x) × (x.element ≡ e)
placed_of T n e None at h = cc
placed_of T n e (Some x) at h = (x, at, one_of_some h)

-- what a table says of an element, in the words of a relation
pub related : (T : Topology) (test : Element → Port → Bool) (by : Placed → Port → Bool) (n : ℕ) (e f : Element) (found : List ℕ) (rows : List (List ℕ)) → option_map (λ (x : Placed). x.element) (slice_get (elements_of T) n) ≡ Some e → e ≡ f → ((x : Placed) → x.element ≡ f → (j : ℕ) (q : Port) → slice_get (ports T) j ≡ Some q → by x q ≡ test f q) → rows ≡ map (λ (x : Placed). numbers_where (by x) (ports T)) (elements_of T) → found ≡ get_or rows n [] → AreNumbersOf T test n found
related T test by n e f found rows at is same table_is read =
    let x = placed_of T n e (slice_get (elements_of T) n) refl at in
    ap (option_map (λ (y : Placed). numbers_where (test y.element) (ports T))) x.1
    ∙ ap Some (ap (λ (g : Element). numbers_where (test g) (ports T)) (x.2 ∙ is)
    ∙ sym (read ∙ ap (λ rs. get_or rs n []) table_is ∙ mapped_at (λ (y : Placed). numbers_where (by y) (ports T)) (elements_of T) n x.0 [] x.1
    ∙ numbers_same (by x.0) (test f) 0 (ports T) (same x.0 (x.2 ∙ is))))

pub unrelated : (T : Topology) (test : Element → Port → Bool) (n : ℕ) (e f : Element) (found : List ℕ) → option_map (λ (x : Placed). x.element) (slice_get (elements_of T) n) ≡ Some e → e ≡ f → ((q : Port) → test f q ≡ false) → found ≡ [] → AreNumbersOf T test n found
unrelated T test n e f found at is none empty =
    let x = placed_of T n e (slice_get (elements_of T) n) refl at in
    ap (option_map (λ (y : Placed). numbers_where (test y.element) (ports T))) x.1
    ∙ ap Some (ap (λ (g : Element). numbers_where (test g) (ports T)) (x.2 ∙ is)
    ∙ numbers_same (test f) (λ q. false) 0 (ports T) (λ i q at_i. none q) ∙ numbers_none 0 (ports T) ∙ sym empty)

-- The ports of a SwitchingService

encoding_as : (T : Topology) (encoding : Option Name) (j : ℕ) (q : Port) → AreDistinct port_id (ports T) → slice_get (ports T) j ≡ Some q → has_encoding T encoding q.id ≡ takes encoding q
encoding_as T None j q d at = refl
encoding_as T (Some encoding) j q d at = has_at port_id (λ (p : Port). bytes_eq p.encoding encoding) (ports T) j q d at

lends_inbound : (service port : Name) (e : Element) → lends (λ (n : NodeE). n.inbound) service port e ≡ (names (lending_in e) service && names (inbound_in e) port)
lends_inbound service port (element.Node n) = refl
lends_inbound service port (element.Port x) = refl
lends_inbound service port (element.Link x) = refl
lends_inbound service port (element.Switching x) = refl
lends_inbound service port (element.Adaptation x) = refl
lends_inbound service port (element.Deadaptation x) = refl
lends_inbound service port (element.Conversion x) = refl

lends_outbound : (service port : Name) (e : Element) → lends (λ (n : NodeE). n.outbound) service port e ≡ (names (lending_in e) service && names (outbound_in e) port)
lends_outbound service port (element.Node n) = refl
lends_outbound service port (element.Port x) = refl
lends_outbound service port (element.Link x) = refl
lends_outbound service port (element.Switching x) = refl
lends_outbound service port (element.Adaptation x) = refl
lends_outbound service port (element.Deadaptation x) = refl
lends_outbound service port (element.Conversion x) = refl

pub lent_inbound : (T : Topology) (s : SwitchE) (j : ℕ) (q : Port) → AreDistinct port_id (ports T) → (is_none s.inbound && is_none s.outbound) ≡ true → slice_get (ports T) j ≡ Some q → lent_to T Inbound (element.Switching s) q ≡ names (inbound_of T s) q.id
lent_inbound T s j q d none at =
    let lent = list_any (λ (n : Placed). names (lending_in n.element) s.id && names (inbound_in n.element) q.id) (elements_of T) in
    let lenders = list_any (λ (n : Placed). lends (λ (m : NodeE). m.inbound) s.id q.id n.element) (elements_of T) in
    let same : lenders ≡ lent = any_same (λ (n : Placed). lends (λ (m : NodeE). m.inbound) s.id q.id n.element) (λ (n : Placed). names (lending_in n.element) s.id && names (inbound_in n.element) q.id) (λ (n : Placed). lends_inbound s.id q.id n.element) (elements_of T) in
    ap (λ b. b && (takes s.encoding q && lent)) none
    ∙ sym ((ports_of_services T s q.id).0 ∙ ap (λ b. cond b (has_encoding T s.encoding q.id && lenders) (names (unwrap_or s.inbound []) q.id)) none
    ∙ ap (λ b. b && lenders) (encoding_as T s.encoding j q d at) ∙ ap (λ b. takes s.encoding q && b) same)

pub lent_outbound : (T : Topology) (s : SwitchE) (j : ℕ) (q : Port) → AreDistinct port_id (ports T) → (is_none s.inbound && is_none s.outbound) ≡ true → slice_get (ports T) j ≡ Some q → lent_to T Outbound (element.Switching s) q ≡ names (outbound_of T s) q.id
lent_outbound T s j q d none at =
    let lent = list_any (λ (n : Placed). names (lending_in n.element) s.id && names (outbound_in n.element) q.id) (elements_of T) in
    let lenders = list_any (λ (n : Placed). lends (λ (m : NodeE). m.outbound) s.id q.id n.element) (elements_of T) in
    let same : lenders ≡ lent = any_same (λ (n : Placed). lends (λ (m : NodeE). m.outbound) s.id q.id n.element) (λ (n : Placed). names (lending_in n.element) s.id && names (outbound_in n.element) q.id) (λ (n : Placed). lends_outbound s.id q.id n.element) (elements_of T) in
    ap (λ b. b && (takes s.encoding q && lent)) none
    ∙ sym ((ports_of_services T s q.id).1 ∙ ap (λ b. cond b (has_encoding T s.encoding q.id && lenders) (names (unwrap_or s.outbound []) q.id)) none
    ∙ ap (λ b. b && lenders) (encoding_as T s.encoding j q d at) ∙ ap (λ b. takes s.encoding q && b) same)

pub own_inbound : (T : Topology) (s : SwitchE) (id : Name) → (is_none s.inbound && is_none s.outbound) ≡ false → names (unwrap_or s.inbound []) id ≡ names (inbound_of T s) id
own_inbound T s id some =
    sym ((ports_of_services T s id).0
    ∙ ap (λ b. cond b (has_encoding T s.encoding id && list_any (λ (n : Placed). lends (λ (m : NodeE). m.inbound) s.id id n.element) (elements_of T)) (names (unwrap_or s.inbound []) id)) some)

pub own_outbound : (T : Topology) (s : SwitchE) (id : Name) → (is_none s.inbound && is_none s.outbound) ≡ false → names (unwrap_or s.outbound []) id ≡ names (outbound_of T s) id
own_outbound T s id some =
    sym ((ports_of_services T s id).1
    ∙ ap (λ b. cond b (has_encoding T s.encoding id && list_any (λ (n : Placed). lends (λ (m : NodeE). m.outbound) s.id id n.element) (elements_of T)) (names (unwrap_or s.outbound []) id)) some)
