-- The ports that the accessors of an inventory list, each once.
use Rattle.std.proofs.Common.{◌≡◌, ℕ, zero, suc, ◌+◌, ◌<◌, ◌≤◌, inl, inr, List, [], ◌∷◌, Bool, true, false, cond, Option, None, Some, map, length, filter, refl, sym, ◌∙◌, ap, subst, arith}
use Rattle.std.specs.Prelude.{slice_get, option_map}
use Rattle.std.specs.List.{enumerate_from}
use Rattle.std.proofs.lemmas.Option.{slice_get_within}
use Rattle.ml_base.specs.declared.numbers.PortNo.{PortNo}
use Rattle.ml_base.specs.Lists.{IsAmong}
use Rattle.ml_base.proofs.Lists.{one_of_some, place_among, among_place}
use Rattle.nml_elements.specs.declared.elements.Element.{Element}
use Rattle.label_atoms.specs.Alike.{Climbing}
use Rattle.circuit_spec.specs.Network.{Topology, Placed, Port, elements_of, ports}
use Rattle.circuit_spec.proofs.Lists.{among_filter}
use Rattle.nml_inventory.specs.Relations.{AreNumbersOf, numbers_where}
use Rattle.machine_build.proofs.Items.{at_mapped, mapped_at}

among_map : {A B : Type 0} (f : A → B) (xs : List A) (x : A) → IsAmong xs x → IsAmong (map f xs) (f x)
among_map f [] x a = absurd a
among_map f (y ∷ ys) x (inl e) = inl (ap f e)
among_map f (y ∷ ys) x (inr later) = inr (among_map f ys x later)

among_mapped : {A B : Type 0} (f : A → B) (xs : List A) (y : B) → IsAmong (map f xs) y → (x : A) × IsAmong xs x × (y ≡ f x)
among_mapped f [] y a = absurd a
among_mapped f (x ∷ xs) y (inl e) = (x, inl refl, e)
among_mapped f (x ∷ xs) y (inr later) = let p = among_mapped f xs y later in (p.0, inr p.1, p.2)

filtered_by : {A : Type 0} (test : A → Bool) (y : A) (ys : List A) (x : A) (b : Bool) → test y ≡ b → (IsAmong (filter test ys) x → IsAmong ys x × (test x ≡ true)) → IsAmong (cond b (y ∷ filter test ys) (filter test ys)) x
    → IsAmong (y ∷ ys) x × (test x ≡ true)
filtered_by test y ys x true e later (inl same) = (inl same, ap test same ∙ e)
filtered_by test y ys x true e later (inr more) = let p = later more in (inr p.0, p.1)
filtered_by test y ys x false e later more = let p = later more in (inr p.0, p.1)

among_filtered : {A : Type 0} (test : A → Bool) (xs : List A) (x : A) → IsAmong (filter test xs) x → IsAmong xs x × (test x ≡ true)
among_filtered test [] x a = absurd a
among_filtered test (y ∷ ys) x a = filtered_by test y ys x (test y) refl (among_filtered test ys x) a

among_enumerated : {A : Type 0} (n : ℕ) (xs : List A) (i : ℕ) (x : A) → slice_get xs i ≡ Some x → IsAmong (enumerate_from n xs) (n + i, x)
among_enumerated n [] i x at = cc
among_enumerated {A} n (y ∷ ys) zero x at =
    let e : n + 0 ≡ n = omega arith in
    let pair : ℕ → A → ℕ × A = λ a b. (a, b) in
    inl (ap (λ a. pair a x) e ∙ ap (λ b. pair n b) (sym (one_of_some at)))
among_enumerated {A} n (y ∷ ys) (suc i) x at =
    let e : (n + 1) + i ≡ n + suc i = omega arith in
    let pair : ℕ → ℕ × A = λ a. (a, x) in
    inr (subst (λ a. IsAmong (enumerate_from (n + 1) ys) (pair a)) e (among_enumerated (n + 1) ys i x at))

enumerated_at : {A : Type 0} (n : ℕ) (xs : List A) (p : ℕ × A) → IsAmong (enumerate_from n xs) p → (i : ℕ) × (p.0 ≡ n + i) × (slice_get xs i ≡ Some p.1)
enumerated_at n [] p a = absurd a
enumerated_at {A} n (y ∷ ys) p (inl same) =
    let first : p.0 ≡ n = ap (λ (x : ℕ × A). x.0) same in
    let second : p.1 ≡ y = ap (λ (x : ℕ × A). x.1) same in
    (0, omega arith, ap Some (sym second))
enumerated_at n (y ∷ ys) p (inr later) = let q = enumerated_at (n + 1) ys p later in (suc q.0, omega (arith, q.1), q.2)

in_where : {A : Type 0} (test : A → Bool) (xs : List A) (i : ℕ) (x : A) → slice_get xs i ≡ Some x → test x ≡ true → IsAmong (numbers_where test xs) i
in_where {A} test xs i x at t =
    among_map (λ (p : ℕ × A). p.0) (filter (λ (p : ℕ × A). test p.1) (enumerate_from 0 xs)) (i, x)
    (among_filter (λ (p : ℕ × A). test p.1) (enumerate_from 0 xs) (i, x) (let e : 0 + i ≡ i = omega arith in let pair : ℕ → ℕ × A = λ a. (a, x) in subst (λ a. IsAmong (enumerate_from 0 xs) (pair a)) e (among_enumerated 0 xs i x at)) t)

where_in : {A : Type 0} (test : A → Bool) (xs : List A) (i : ℕ) → IsAmong (numbers_where test xs) i → (x : A) × (slice_get xs i ≡ Some x) × (test x ≡ true)
where_in {A} test xs i a =
    let p = among_mapped (λ (p : ℕ × A). p.0) (filter (λ (p : ℕ × A). test p.1) (enumerate_from 0 xs)) i a in
    let q = among_filtered (λ (p : ℕ × A). test p.1) (enumerate_from 0 xs) p.0 p.1 in
    let r = enumerated_at 0 xs p.0 q.0 in
    let e : r.0 ≡ i = omega (arith, r.1, p.2) in
    (p.0.1, subst (λ k. slice_get xs k ≡ Some p.0.1) e r.2, q.1)

-- Rising numbers

climbing_lower : (low high : ℕ) (xs : List ℕ) → low ≤ high → Climbing high xs → Climbing low xs
climbing_lower low high [] l c = tt
climbing_lower low high (x ∷ xs) l c = (omega (arith, l, c.0), c.1)

climbing_by : {A : Type 0} (test : A → Bool) (n : ℕ) (y : A) (ys : List (ℕ × A)) (b : Bool) → Climbing (n + 1) (map (λ (p : ℕ × A). p.0) ys) → Climbing n (map (λ (p : ℕ × A). p.0) (cond b ((n, y) ∷ ys) ys))
climbing_by test n y ys true c = (omega arith, c)
climbing_by {A} test n y ys false c = climbing_lower n (n + 1) (map (λ (p : ℕ × A). p.0) ys) (omega arith) c

climbing_where : {A : Type 0} (test : A → Bool) (n : ℕ) (xs : List A) → Climbing n (map (λ (p : ℕ × A). p.0) (filter (λ (p : ℕ × A). test p.1) (enumerate_from n xs)))
climbing_where test n [] = tt
climbing_where {A} test n (y ∷ ys) = climbing_by test n y (filter (λ (p : ℕ × A). test p.1) (enumerate_from (n + 1) ys)) (test y) (climbing_where test (n + 1) ys)

climbing_above : (low : ℕ) (xs : List ℕ) (i n : ℕ) → Climbing low xs → slice_get xs i ≡ Some n → low ≤ n
climbing_above low [] i n c at = cc
climbing_above low (x ∷ xs) zero n c at = let e : x ≡ n = one_of_some at in omega (arith, c.0, e)
climbing_above low (x ∷ xs) (suc i) n c at = let l = climbing_above (x + 1) xs i n c.1 at in omega (arith, l, c.0)

climbing_once : (low : ℕ) (xs : List ℕ) (i j n : ℕ) → Climbing low xs → slice_get xs i ≡ Some n → slice_get xs j ≡ Some n → i ≡ j
climbing_once low [] i j n c at_i at_j = cc
climbing_once low (x ∷ xs) zero zero n c at_i at_j = refl
climbing_once low (x ∷ xs) zero (suc j) n c at_i at_j = let l = climbing_above (x + 1) xs j n c.1 at_j in let e : x ≡ n = one_of_some at_i in omega (arith, l, e)
climbing_once low (x ∷ xs) (suc i) zero n c at_i at_j = let l = climbing_above (x + 1) xs i n c.1 at_i in let e : x ≡ n = one_of_some at_j in omega (arith, l, e)
climbing_once low (x ∷ xs) (suc i) (suc j) n c at_i at_j = ap suc (climbing_once (x + 1) xs i j n c.1 at_i at_j)

-- Listed ports

module _ (T : Topology) (test : Element → Port → Bool) (number : ℕ) (found : List PortNo) (listed : AreNumbersOf T test number (map (λ (p : PortNo). p.0) found)) where
  placed_by : (o : Option Placed) → slice_get (elements_of T) number ≡ o → (placed : Placed) × (slice_get (elements_of T) number ≡ Some placed)
  placed_by None at = let none = sym (ap (option_map (λ (e : Placed). numbers_where (test e.element) (ports T))) at) ∙ listed in absurd (cc)
  placed_by (Some placed) at = (placed, at)

  placed_there : (placed : Placed) × (slice_get (elements_of T) number ≡ Some placed)
  placed_there = placed_by (slice_get (elements_of T) number) refl

  numbers : (placed : Placed) → slice_get (elements_of T) number ≡ Some placed → numbers_where (test placed.element) (ports T) ≡ map (λ (p : PortNo). p.0) found
  numbers placed at = one_of_some (sym (ap (option_map (λ (e : Placed). numbers_where (test e.element) (ports T))) at) ∙ listed)

  -- each passes the test
  pub listed_at : (j : ℕ) (q : PortNo) → slice_get found j ≡ Some q → (placed : Placed) × (p : Port) × (slice_get (elements_of T) number ≡ Some placed) × (slice_get (ports T) q.0 ≡ Some p) × (test placed.element p ≡ true)
  listed_at j q at =
      let e = placed_there in
      let w = where_in (test e.0.element) (ports T) q.0 (subst (λ l. IsAmong l q.0) (sym (numbers e.0 e.1)) (among_map (λ (p : PortNo). p.0) found q (among_place found j q at))) in
      (e.0, w.0, e.1, w.1, w.2)

  pub port_within : (j : ℕ) (q : PortNo) → slice_get found j ≡ Some q → q.0 < length (ports T)
  port_within j q at = let l = listed_at j q at in slice_get_within (ports T) q.0 l.1 l.3

  -- and each that does is there
  pub at_listed : (q : PortNo) (placed : Placed) (p : Port) → slice_get (elements_of T) number ≡ Some placed → slice_get (ports T) q.0 ≡ Some p → test placed.element p ≡ true → (j : ℕ) × (slice_get found j ≡ Some q)
  at_listed q placed p at here t =
      let a = place_among (numbers_where (test placed.element) (ports T)) q.0 (in_where (test placed.element) (ports T) q.0 p here t) in
      let m = at_mapped (λ (p : PortNo). p.0) found a.0 q.0 (subst (λ l. slice_get l a.0 ≡ Some q.0) (numbers placed at) a.1) in
      let same : m.0 ≡ q = same_number m.0 q (sym m.2) in
      (a.0, m.1 ∙ ap Some same)
    where
      same_number : (a b : PortNo) → a.0 ≡ b.0 → a ≡ b
      same_number a b e = let make : ℕ → PortNo = λ n. record { 0 = n } in ap make e

  -- once
  pub listed_once : (i j : ℕ) (q : PortNo) → slice_get found i ≡ Some q → slice_get found j ≡ Some q → i ≡ j
  listed_once i j q at_i at_j =
      let e = placed_there in
      let climbs : Climbing 0 (map (λ (p : PortNo). p.0) found) = subst (Climbing 0) (numbers e.0 e.1) (climbing_where (test e.0.element) 0 (ports T)) in
      climbing_once 0 (map (λ (p : PortNo). p.0) found) i j q.0 climbs (mapped_at (λ (p : PortNo). p.0) found i q at_i) (mapped_at (λ (p : PortNo). p.0) found j q at_j)
