-- Rising lists of numbers, searched by halves, and the ports that an inventory lists.
use Rattle.std.specs.List.Sorted.{IsNonDecreasingBy, IsPartitionPoint}
use Rattle.std.proofs.Common.{◌≡◌, ℕ, zero, suc, ◌+◌, ◌<◌, ◌≤◌, ◌==◌, List, [], ◌∷◌, Bool, true, false, ◌&&◌, ◌||◌, cond, Some, map, filter, length, get_or, ltb, refl, sym, ◌∙◌, ap, subst, arith}
use Rattle.std.specs.Prelude.{slice_get, option_map}
use Rattle.std.specs.List.{enumerate_from}
use Rattle.std.proofs.lemmas.Bool.{ne_eqb, ltb-true, ltb-false}
use Rattle.std.proofs.Math.Bool.{or-false}
use Rattle.ml_base.specs.declared.numbers.PortNo.{PortNo}
use Rattle.ml_base.proofs.Lists.{one_of_some}
use Rattle.nml_elements.specs.declared.elements.Element.{Element}
use Rattle.alias_merge.specs.Rising.{holds}
use Rattle.circuit_spec.specs.Network.{Topology, Placed, Port, elements_of, ports}
use Rattle.nml_inventory.specs.Relations.{AreNumbersOf, numbers_where}
use Rattle.nml_inventory.proofs.Tabling.{held_number, numbers_from}
use Rattle.packet_replay.specs.Numbered.{Rises, numbers_in}

-- Numbers of items that pass a test rise

rise_sooner : (a b : ℕ) (ns : List ℕ) → a ≤ b → Rises b ns → Rises a ns
rise_sooner a b [] le rise = tt
rise_sooner a b (n ∷ rest) le rise = (omega (arith, rise.0), rise.1)

rise_by : {A : Type 0} (a : ℕ) (x : A) (ys : List (ℕ × A)) (b : Bool) → Rises (a + 1) (map (λ (y : ℕ × A). y.0) ys) → Rises a (map (λ (y : ℕ × A). y.0) (cond b ((a, x) ∷ ys) ys))
rise_by a x ys true rise = (omega arith, rise)
rise_by {A} a x ys false rise = rise_sooner a (a + 1) (map (λ (y : ℕ × A). y.0) ys) (omega arith) rise

numbers_rise : {A : Type 0} (test : A → Bool) (a : ℕ) (xs : List A) → Rises a (numbers_from test a xs)
numbers_rise test a [] = tt
numbers_rise {A} test a (x ∷ xs) = rise_by a x (filter (λ (y : ℕ × A). test y.1) (enumerate_from (a + 1) xs)) (test x) (numbers_rise test (a + 1) xs)

-- What a search by halves tells

none_below : (first : ℕ) (found : List PortNo) (n : ℕ) → Rises first (numbers_in found) → n < first → holds (numbers_in found) n ≡ false
none_below first [] n rise low = refl
none_below first (p ∷ ps) n rise low =
    ap (λ b. b || holds (numbers_in ps) n) (ne_eqb p.0 n (λ s. omega (arith, rise.0))) ∙ none_below (p.0 + 1) ps n rise.1 (omega (arith, rise.0))

held_at : (first : ℕ) (found : List PortNo) (n i : ℕ) (d : PortNo) → Rises first (numbers_in found) → ((k : ℕ) → k < i → (get_or found k d).0 < n) → i < length found → n ≤ (get_or found i d).0 → (get_or found i d).0 == n ≡ holds (numbers_in found) n
held_at first [] n i d rise below inside above = absurd (omega arith)
held_at first (p ∷ ps) n zero d rise below inside above =
    sym (ap (λ b. (p.0 == n) || b) (none_below (p.0 + 1) ps n rise.1 (omega arith)) ∙ or-false (p.0 == n))
held_at first (p ∷ ps) n (suc i) d rise below inside above =
    let less : p.0 < n = below 0 (omega arith) in
    held_at (p.0 + 1) ps n i d rise.1 (λ k h. below (suc k) (omega arith)) (omega arith) above
    ∙ sym (ap (λ b. b || holds (numbers_in ps) n) (ne_eqb p.0 n (λ s. omega arith)))

held_nowhere : (first : ℕ) (found : List PortNo) (n : ℕ) (d : PortNo) → Rises first (numbers_in found) → ((k : ℕ) → k < length found → (get_or found k d).0 < n) → holds (numbers_in found) n ≡ false
held_nowhere first [] n d rise below = refl
held_nowhere first (p ∷ ps) n d rise below =
    let less : p.0 < n = below 0 (omega arith) in
    ap (λ b. b || holds (numbers_in ps) n) (ne_eqb p.0 n (λ s. omega arith)) ∙ held_nowhere (p.0 + 1) ps n d rise.1 (λ k h. below (suc k) (omega arith))

numbers_above : (first : ℕ) (found : List PortNo) (i : ℕ) (d : PortNo) → Rises first (numbers_in found) → i < length found → first ≤ (get_or found i d).0
numbers_above first [] i d rise h = absurd (omega arith)
numbers_above first (p ∷ ps) zero d rise h = rise.0
numbers_above first (p ∷ ps) (suc i) d rise h = omega (arith, numbers_above (p.0 + 1) ps i d rise.1 (omega arith), rise.0)

pub in_order : (first : ℕ) (found : List PortNo) → Rises first (numbers_in found) → IsNonDecreasingBy (λ (p : PortNo). p.0) found
in_order first [] rise i j d le h = absurd (omega arith)
in_order first (p ∷ ps) rise zero zero d le h = omega arith
in_order first (p ∷ ps) rise zero (suc j) d le h = omega (arith, numbers_above (p.0 + 1) ps j d rise.1 (omega arith))
in_order first (p ∷ ps) rise (suc i) zero d le h = absurd (omega arith)
in_order first (p ∷ ps) rise (suc i) (suc j) d le h = in_order (p.0 + 1) ps rise.1 i j d (omega arith) (omega arith)

pub found_there : (found : List PortNo) (n i : ℕ) (listed : PortNo) → Rises 0 (numbers_in found) → IsPartitionPoint (λ (p : PortNo). ltb p.0 n ≡ true) (λ (p : PortNo). ltb p.0 n ≡ false) found i → i < length found → listed ≡ get_or found i listed
    → (listed.0 == n) ≡ holds (numbers_in found) n
found_there found n i listed rise point h e =
    ap (λ (p : PortNo). p.0 == n) e
    ∙ held_at 0 found n i listed rise (λ k l. ltb-true (get_or found k listed).0 n (point.0 k listed (omega arith) l)) h (ltb-false (get_or found i listed).0 n (point.1 i listed (omega arith) h))

pub found_nowhere : (found : List PortNo) (n i : ℕ) → Rises 0 (numbers_in found) → IsPartitionPoint (λ (p : PortNo). ltb p.0 n ≡ true) (λ (p : PortNo). ltb p.0 n ≡ false) found i → length found ≤ i → holds (numbers_in found) n ≡ false
found_nowhere found n i rise point h =
    let d : PortNo = record { 0 = 0 } in
    held_nowhere 0 found n d rise (λ k l. ltb-true (get_or found k d).0 n (point.0 k d (omega arith) (omega arith)))

-- The ports that an inventory lists

module _ (T : Topology) (test : Element → Port → Bool) (n : ℕ) (found : List PortNo) (e : Placed) (listed : AreNumbersOf T test n (numbers_in found)) (at : slice_get (elements_of T) n ≡ Some e) where
  numbers_are : numbers_where (test e.element) (ports T) ≡ numbers_in found
  numbers_are = one_of_some (sym (ap (option_map (λ (e : Placed). numbers_where (test e.element) (ports T))) at) ∙ listed)

  listed_rise : Rises 0 (numbers_in found)
  listed_rise = subst (Rises 0) numbers_are (numbers_rise (test e.element) 0 (ports T))

  listed_held : (j : ℕ) (p : Port) → slice_get (ports T) j ≡ Some p → holds (numbers_in found) j ≡ test e.element p
  listed_held j p p_at =
      let same : 0 + j ≡ j = omega arith in
      ap (λ l. holds l j) (sym numbers_are) ∙ ap (holds (numbers_where (test e.element) (ports T))) (sym same) ∙ held_number (test e.element) 0 (ports T) j p p_at

-- two listed ports
pub both_listed : (T : Topology) (test test' : Element → Port → Bool) (n i j : ℕ) (ones others : List PortNo) (e : Placed) (p q : Port) (result : Bool)
    → AreNumbersOf T test n (numbers_in ones) → AreNumbersOf T test' n (numbers_in others)
    → (Rises 0 (numbers_in ones) → Rises 0 (numbers_in others) → result ≡ (holds (numbers_in ones) i && holds (numbers_in others) j))
    → slice_get (elements_of T) n ≡ Some e → slice_get (ports T) i ≡ Some p → slice_get (ports T) j ≡ Some q → result ≡ (test e.element p && test' e.element q)
both_listed T test test' n i j ones others e p q result one other is at p_at q_at =
    is (listed_rise T test n ones e one at) (listed_rise T test' n others e other at)
    ∙ ap (λ b. b && holds (numbers_in others) j) (listed_held T test n ones e one at i p p_at)
    ∙ ap (λ b. test e.element p && b) (listed_held T test' n others e other at j q q_at)
