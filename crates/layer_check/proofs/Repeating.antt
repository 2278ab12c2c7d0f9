-- Services with the same ports and the same stated encoding: one fits where the other does.
use Rattle.std.proofs.Common.{◌≡◌, ℕ, zero, suc, ◌+◌, ◌<◌, ◌≤◌, List, [], ◌∷◌, Bool, true, false, cond, Option, None, Some, map, filter, take, refl, sym, ◌∙◌, ap, subst, arith}
use Rattle.std.specs.Prelude.{◌||◌, slice_get, option_map}
use Rattle.std.specs.Option.{option_and_then}
use Rattle.std.specs.List.{cons_option, enumerate_from, flat_map}
use Rattle.nml_elements.specs.declared.elements.SwitchE.{SwitchE}
use Rattle.nml_elements.specs.declared.elements.Element.{Element}
use Rattle.nml_elements.specs.declared.elements.Element.TheVariants as element
use Rattle.circuit_spec.specs.declared.faults.LayerFault.{LayerFault}
use Rattle.circuit_spec.specs.declared.faults.LayerFault.TheVariants.{SwitchLayer, SwitchLabelType}
use Rattle.circuit_spec.specs.Network.{Name, Topology, Placed, Port, elements_of, names, ports}
use Rattle.circuit_spec.specs.Steps.{inbound_of, outbound_of}
use Rattle.circuit_spec.specs.Faults.{layer_faults, switch_at, switch_faults}
use Rattle.nml_inventory.specs.Relations.{AreNumbersOf, IsTwin, numbers_where, is_inbound, is_outbound}
use Rattle.layer_check.specs.Elements.{IsRepeat, of_option, switch_faults_at, switch_faults_of}
use Rattle.circuit_spec.proofs.Lists.{both_empty}
use Rattle.ml_base.proofs.Lists.{one_of_some}
use Rattle.layer_check.proofs.OfElements.{service_is}

-- Tests that the same numbers pass

abbrev numbers_from : {A : Type 0} → ℕ → (A → Bool) → List A → List ℕ
numbers_from {A} i test xs = map (λ (x : ℕ × A). x.0) (filter (λ (x : ℕ × A). test x.1) (enumerate_from i xs))

abbrev Above : ℕ → List ℕ → Type 0
Above i [] = Unit {0}
Above i (n ∷ ns) = (i ≤ n) × Above i ns

above_less : (i j : ℕ) (ns : List ℕ) → i ≤ j → Above j ns → Above i ns
above_less i j [] le a = tt
above_less i j (n ∷ ns) le a = (omega (arith, le, a.0), above_less i j ns le a.1)

above_by : {A : Type 0} (i : ℕ) (b : Bool) (here : ℕ × A) (rest : List (ℕ × A)) → here.0 ≡ i → Above (i + 1) (map (λ (x : ℕ × A). x.0) rest) → Above i (map (λ (x : ℕ × A). x.0) (cond b (here ∷ rest) rest))
above_by {A} i true here rest at a = (omega (arith, at), above_less i (i + 1) (map (λ (x : ℕ × A). x.0) rest) (omega arith) a)
above_by {A} i false here rest at a = above_less i (i + 1) (map (λ (x : ℕ × A). x.0) rest) (omega arith) a

above_from : {A : Type 0} (i : ℕ) (t : A → Bool) (xs : List A) → Above i (numbers_from i t xs)
above_from i t [] = tt
above_from {A} i t (x ∷ xs) = above_by i (t x) (i, x) (filter (λ (y : ℕ × A). t y.1) (enumerate_from (i + 1) xs)) refl (above_from (i + 1) t xs)

head_above : (i : ℕ) (ns ms : List ℕ) → i ∷ ns ≡ ms → Above (i + 1) ms → ⊥
head_above i ns [] e a = cc
head_above i ns (m ∷ ms) e a = let same : i ≡ m = cc in omega (arith, same, a.0)

-- the first item passes both tests or neither, and so do the others
same_by : {A : Type 0} (i : ℕ) (b c : Bool) (here : ℕ × A) (one other : List (ℕ × A)) → here.0 ≡ i
    → Above (i + 1) (map (λ (x : ℕ × A). x.0) one) → Above (i + 1) (map (λ (x : ℕ × A). x.0) other)
    → map (λ (x : ℕ × A). x.0) (cond b (here ∷ one) one) ≡ map (λ (x : ℕ × A). x.0) (cond c (here ∷ other) other)
    → (b ≡ c) × (map (λ (x : ℕ × A). x.0) one ≡ map (λ (x : ℕ × A). x.0) other)
same_by i true true here one other at a o e = (refl, cc)
same_by {A} i true false here one other at a o e = absurd (head_above i (map (λ (x : ℕ × A). x.0) one) (map (λ (x : ℕ × A). x.0) other) (ap (λ n. n ∷ map (λ (x : ℕ × A). x.0) one) (sym at) ∙ e) o)
same_by {A} i false true here one other at a o e = absurd (head_above i (map (λ (x : ℕ × A). x.0) other) (map (λ (x : ℕ × A). x.0) one) (ap (λ n. n ∷ map (λ (x : ℕ × A). x.0) other) (sym at) ∙ sym e) a)
same_by i false false here one other at a o e = (refl, e)

pub same_tests : {A : Type 0} (i : ℕ) (s t : A → Bool) (xs : List A) → numbers_from i s xs ≡ numbers_from i t xs → (k : ℕ) (x : A) → slice_get xs k ≡ Some x → s x ≡ t x
same_tests i s t [] e k x at = cc
same_tests {A} i s t (y ∷ xs) e zero x at =
    let both = same_by i (s y) (t y) (i, y) (filter (λ (z : ℕ × A). s z.1) (enumerate_from (i + 1) xs)) (filter (λ (z : ℕ × A). t z.1) (enumerate_from (i + 1) xs)) refl (above_from (i + 1) s xs) (above_from (i + 1) t xs) e in
    ap s (sym (one_of_some at)) ∙ both.0 ∙ ap t (one_of_some at)
same_tests {A} i s t (y ∷ xs) e (suc k) x at =
    let both = same_by i (s y) (t y) (i, y) (filter (λ (z : ℕ × A). s z.1) (enumerate_from (i + 1) xs)) (filter (λ (z : ℕ × A). t z.1) (enumerate_from (i + 1) xs)) refl (above_from (i + 1) s xs) (above_from (i + 1) t xs) e in
    same_tests (i + 1) s t xs both.1 k x at

filter_by : {A : Type 0} (b c : Bool) (x : A) (one other : List A) → b ≡ c → one ≡ other → cond b (x ∷ one) one ≡ cond c (x ∷ other) other
filter_by b c x one other same e = ap (λ d. cond d (x ∷ one) one) same ∙ ap (λ ys. cond c (x ∷ ys) ys) e

filter_same : {A : Type 0} (s t : A → Bool) (xs : List A) → ((k : ℕ) (x : A) → slice_get xs k ≡ Some x → s x ≡ t x) → filter s xs ≡ filter t xs
filter_same s t [] same = refl
filter_same s t (x ∷ xs) same = filter_by (s x) (t x) x (filter s xs) (filter t xs) (same 0 x refl) (filter_same s t xs (λ k y at. same (suc k) y at))

-- Faults of services

nothing_named : (f g one two : Port → LayerFault) (p q : Option Port) → cons_option (option_map f p) (cons_option (option_map g q) []) ≡ [] → cons_option (option_map one p) (cons_option (option_map two q) []) ≡ []
nothing_named f g one two None None e = refl
nothing_named f g one two None (Some q) e = cc
nothing_named f g one two (Some p) None e = cc
nothing_named f g one two (Some p) (Some q) e = cc

numbers_at : (T : Topology) (test : Element → Port → Bool) (number : ℕ) (s : SwitchE) (found : List ℕ) (x : Placed) → slice_get (elements_of T) number ≡ Some x → x.element ≡ element.Switching s → AreNumbersOf T test number found → numbers_where (test (element.Switching s)) (ports T) ≡ found
numbers_at T test number s found x at is are =
    ap (λ (e : Element). numbers_where (test e) (ports T)) (sym is) ∙ one_of_some (sym (ap (option_map (λ (p : Placed). numbers_where (test p.element) (ports T))) at) ∙ are)

module _ (T : Topology) (number other : ℕ) (twin : IsTwin T number other) (s earlier : SwitchE) (x y : Placed)
    (x_at : slice_get (elements_of T) number ≡ Some x) (x_is : x.element ≡ element.Switching s)
    (y_at : slice_get (elements_of T) other ≡ Some y) (y_is : y.element ≡ element.Switching earlier) where
  inbound_same : (k : ℕ) (q : Port) → slice_get (ports T) k ≡ Some q → names (inbound_of T earlier) q.id ≡ names (inbound_of T s) q.id
  inbound_same = same_tests 0 (λ (q : Port). names (inbound_of T earlier) q.id) (λ (q : Port). names (inbound_of T s) q.id) (ports T)
      (numbers_at T (is_inbound T) other earlier twin.inbound y y_at y_is twin.inbound_there ∙ sym (numbers_at T (is_inbound T) number s twin.inbound x x_at x_is twin.inbound_here))

  outbound_same : (k : ℕ) (q : Port) → slice_get (ports T) k ≡ Some q → names (outbound_of T earlier) q.id ≡ names (outbound_of T s) q.id
  outbound_same = same_tests 0 (λ (q : Port). names (outbound_of T earlier) q.id) (λ (q : Port). names (outbound_of T s) q.id) (ports T)
      (numbers_at T (is_outbound T) other earlier twin.outbound y y_at y_is twin.outbound_there ∙ sym (numbers_at T (is_outbound T) number s twin.outbound x x_at x_is twin.outbound_here))

  ports_same : filter (λ (p : Port). names (inbound_of T earlier) p.id || names (outbound_of T earlier) p.id) (ports T) ≡ filter (λ (p : Port). names (inbound_of T s) p.id || names (outbound_of T s) p.id) (ports T)
  ports_same = filter_same (λ (p : Port). names (inbound_of T earlier) p.id || names (outbound_of T earlier) p.id) (λ (p : Port). names (inbound_of T s) p.id || names (outbound_of T s) p.id) (ports T)
      (λ k q at. ap (λ b. b || names (outbound_of T earlier) q.id) (inbound_same k q at) ∙ ap (λ b. names (inbound_of T s) q.id || b) (outbound_same k q at))

  pub fits_too : earlier.encoding ≡ s.encoding → switch_faults T earlier ≡ [] → switch_faults T s ≡ []
  fits_too same none = named_too s.encoding (filter (λ (p : Port). names (inbound_of T s) p.id || names (outbound_of T s) p.id) (ports T))
      (subst (λ (ps : List Port). layer_faults SwitchLayer SwitchLabelType earlier.id s.encoding None ps ≡ []) ports_same
      (subst (λ (o : Option Name). layer_faults SwitchLayer SwitchLabelType earlier.id o None (filter (λ (p : Port). names (inbound_of T earlier) p.id || names (outbound_of T earlier) p.id) (ports T)) ≡ []) same none))
    where
      named_too : (encoding : Option Name) (ps : List Port) → layer_faults SwitchLayer SwitchLabelType earlier.id encoding None ps ≡ [] → layer_faults SwitchLayer SwitchLabelType s.id encoding None ps ≡ []
      named_too encoding ps e = nothing_named (λ (p : Port). SwitchLayer earlier.id p.id) (λ (p : Port). SwitchLabelType earlier.id p.id) (λ (p : Port). SwitchLayer s.id p.id) (λ (p : Port). SwitchLabelType s.id p.id) _ _ e

-- what is known of services by their numbers
switching_at : (T : Topology) (number : ℕ) (s : SwitchE) (o : Option Placed) → slice_get (elements_of T) number ≡ o → Some s ≡ option_and_then switch_at (option_map (λ (p : Placed). p.element) o) → (x : Placed) × (slice_get (elements_of T) number ≡ Some x) × (x.element ≡ element.Switching s)
switching_at T number s None at e = cc
switching_at T number s (Some x) at e = (x, at, service_is x.element s e)

faults_by : (T : Topology) (number : ℕ) (s : SwitchE) (x : Placed) → slice_get (elements_of T) number ≡ Some x → x.element ≡ element.Switching s → switch_faults_at T number ≡ switch_faults T s
faults_by T number s x at is = ap (of_option (switch_faults_of T)) at ∙ ap (λ (e : Element). of_option (switch_faults T) (switch_at e)) is

pub repeat : (T : Topology) (number other : ℕ) (s earlier : SwitchE) → IsTwin T number other
    → Some s ≡ option_and_then switch_at (option_map (λ (p : Placed). p.element) (slice_get (elements_of T) number))
    → Some earlier ≡ option_and_then switch_at (option_map (λ (p : Placed). p.element) (slice_get (elements_of T) other)) → earlier.encoding ≡ s.encoding → IsRepeat T number
repeat T number other s earlier twin at before same =
    let x = switching_at T number s (slice_get (elements_of T) number) refl at in
    let y = switching_at T other earlier (slice_get (elements_of T) other) refl before in
    (other, twin.before, λ none. faults_by T number s x.0 x.1 x.2 ∙ fits_too T number other twin s earlier x.0 y.0 x.1 x.2 y.1 y.2 same (sym (faults_by T other earlier y.0 y.1 y.2) ∙ none))

-- no fault before it, so none at an earlier one
none_at : (f : Placed → List LayerFault) (xs : List Placed) (number k : ℕ) → k < number → flat_map f (take number xs) ≡ [] → of_option f (slice_get xs k) ≡ []
none_at f [] number k less none = refl
none_at f (x ∷ xs) zero k less none = absurd (omega (arith, less))
none_at f (x ∷ xs) (suc number) zero less none = (both_empty (f x) (flat_map f (take number xs)) none).0
none_at f (x ∷ xs) (suc number) (suc k) less none = none_at f xs number k (omega (arith, less)) (both_empty (f x) (flat_map f (take number xs)) none).1

pub repeats : (T : Topology) (number : ℕ) → IsRepeat T number → flat_map (switch_faults_of T) (take number (elements_of T)) ≡ [] → switch_faults_at T number ≡ []
repeats T number again none = again.2 (none_at (switch_faults_of T) (elements_of T) number again.0 again.1 none)
