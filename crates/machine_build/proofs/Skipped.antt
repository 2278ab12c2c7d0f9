-- States whose labels an element does not take, and how they are passed over.
use Rattle.std.proofs.Common.{◌≡◌, ℕ, zero, suc, ◌+◌, ◌<◌, ◌≤◌, ◌⊎◌, inl, inr, List, [], ◌∷◌, length, get_or, Bool, true, false, None, Some, ltb, refl, sym, ◌∙◌, ap, subst, arith, Ordering, Less, Equal, Greater}
use Rattle.std.specs.Prelude.{option_map, slice_get}
use Rattle.std.specs.List.Sorted.{IsPartitionPoint}
use Rattle.std.specs.Cmp.{nat_cmp_is}
use Rattle.std.specs.Ordering.{nat_cmp}
use Rattle.std.specs.Option.{option_cmp}
use Rattle.std.proofs.lemmas.Bool.{both_ways, cases_lt, lt-leb, ltb-true}
use Rattle.std.proofs.lemmas.Option.{slice_get-get_or, slice_get_within}
use Rattle.label_sets.specs.Ranges.{AreRanges, RiseFrom, has}
use Rattle.label_sets.proofs.Has.{has_at, has_none}
use Rattle.ml_base.specs.declared.numbers.PortNo.{PortNo}
use Rattle.nml_elements.specs.declared.elements.Element.{Element}
use Rattle.nml_elements.specs.declared.elements.Labels.TheVariants.{Of}
use Rattle.circuit_spec.specs.declared.hops.Frame.{Frame}
use Rattle.circuit_spec.specs.declared.hops.PlaceName.{PlaceName}
use Rattle.circuit_spec.specs.Network.{Name, Tag, Topology, Placed, elements_of}
use Rattle.open_places.specs.declared.span.Span.{Span}
use Rattle.open_places.specs.Places.{IsRising, place_cmp}
use Rattle.open_places.proofs.Ordered.{below_at, labels_below}
use Rattle.machine_build.specs.declared.ways.End.{End}
use Rattle.machine_build.specs.declared.ways.Move.{Move}
use Rattle.machine_build.specs.Adding.{Adds, Between}
use Rattle.machine_build.specs.Frames.{GoesOn}
use Rattle.machine_build.specs.Passing.{AreAlike, AreBounds, AreNotTaken, FollowsBelow, HasNoneBetween, HasNoneFrom, is_below}
use Rattle.machine_build.specs.Ways.{AreFitting, IsDone, IsFrom, Way, carries, takes}
use Rattle.machine_build.proofs.Growing.{adds_none, adds_same, adds_then}
use Rattle.ml_base.proofs.Lists.{one_of_some, same_at}
use Rattle.ml_base.proofs.Comparisons.{below_cases}
use Rattle.machine_build.proofs.Passed.{still_done}

-- The next label of a set

proper_at : (start : ℕ) (rs : List (ℕ × ℕ)) (i : ℕ) (d : ℕ × ℕ) → RiseFrom start rs → i < length rs → (get_or rs i d).0 ≤ (get_or rs i d).1
proper_at start [] i d rise h = absurd (omega arith)
proper_at start (r ∷ rest) zero d rise h = rise.1
proper_at start (r ∷ rest) (suc i) d rise h = proper_at (r.1 + 2) rest i d rise.3 (omega (arith, h))

pub none_between : (rs : List (ℕ × ℕ)) (n i : ℕ) (range : ℕ × ℕ) → AreRanges rs → IsPartitionPoint (λ (r : ℕ × ℕ). ltb r.1 n ≡ true) (λ (r : ℕ × ℕ). ltb r.1 n ≡ false) rs i → i < length rs → range ≡ get_or rs i range → HasNoneBetween rs n range.0
none_between rs n i range rise point h e l low high =
    let under : l < (get_or rs i range).0 = subst (λ (r : ℕ × ℕ). l < r.0) e high in
    let proper = proper_at 0 rs i range rise h in
    has_at 0 rs l i range rise (λ k b. let p = ltb-true (get_or rs k range).1 n (point.0 k range (omega (arith, b, h)) b) in omega (arith, p, low)) h (omega (arith, proper, under))
    ∙ lt-leb (get_or rs i range).0 l under

pub none_from : (rs : List (ℕ × ℕ)) (n i : ℕ) → AreRanges rs → IsPartitionPoint (λ (r : ℕ × ℕ). ltb r.1 n ≡ true) (λ (r : ℕ × ℕ). ltb r.1 n ≡ false) rs i → length rs ≤ i → HasNoneFrom rs n
none_from rs n i rise point h l low = has_none 0 rs l (0, 0) rise (λ k b. let p = ltb-true (get_or rs k (0, 0)).1 n (point.0 k (0, 0) (omega (arith, b)) (omega (arith, b, h))) in omega (arith, p, low))

-- The binary search

pub upper : (places : List PlaceName) (label first end low high middle : ℕ) (place : PlaceName) → AreBounds places label first end low high → slice_get places middle ≡ Some place → is_below place.label label ≡ true → low ≤ middle → middle < high
    → AreBounds places label first end (middle + 1) high
upper places label first end low high middle place b at below from under = record {
  from = omega (arith, b.from, from);
  proper = omega (arith, under);
  to = b.to;
  passed = inr (record { before = middle; place = place; next = refl; at = at; below = below });
}

pub lower : (places : List PlaceName) (label first end low high middle : ℕ) → AreBounds places label first end low high → low ≤ middle → middle ≤ high → AreBounds places label first end low middle
lower places label first end low high middle b from under = record { from = b.from; proper = from; to = omega (arith, b.to, under); passed = b.passed }

pub at_first : (places : List PlaceName) (label first end : ℕ) → first ≤ end → AreBounds places label first end first end
at_first places label first end h = record { from = omega arith; proper = h; to = omega arith; passed = inl refl }

pub met : (places : List PlaceName) (label first end low high : ℕ) → AreBounds places label first end low high → high ≤ low → AreBounds places label first end low low
met places label first end low high b h = record { from = b.from; proper = omega arith; to = omega (arith, b.proper, b.to); passed = b.passed }

-- Labels of a class rise

nat_below : (l m : ℕ) → nat_cmp l m ≡ Less → l ≤ m
nat_below l m e = elim (cases_lt m l) as (λ v. l ≤ m) [
  | inl lt ↦ (let differ : Greater ≡ Less = nat_cmp_is l m Greater lt ∙ e in absurd (cc))
  | inr le ↦ le
]

-- the label is there and this one or above it
abbrev pub IsFromOn : ℕ → Tag → Type 0
IsFromOn l tag = (m : ℕ) × (tag ≡ Some m) × (l ≤ m)

tag_above : (l : ℕ) (tag : Tag) → option_cmp nat_cmp (Some l) tag ≡ Less → IsFromOn l tag
tag_above l None e = cc
tag_above l (Some m) e = (m, refl, nat_below l m e)

labels_rise : (places : List PlaceName) → IsRising places → (i j : ℕ) (p q : PlaceName) (l : ℕ) → slice_get places i ≡ Some p → slice_get places j ≡ Some q → p.class ≡ q.class → i ≤ j → p.label ≡ Some l → IsFromOn l q.label
labels_rise places rise i j p q l at_i at_j same le label = elim (cases_lt i j) as (λ v. IsFromOn l q.label) [
  | inl lt ↦
      (let here : get_or places i p ≡ p = one_of_some (sym (slice_get-get_or places i p (slice_get_within places i p at_i)) ∙ at_i) in
      let there : get_or places j p ≡ q = one_of_some (sym (slice_get-get_or places j p (slice_get_within places j q at_j)) ∙ at_j) in
      let below : place_cmp p q ≡ Less = ap (λ x. place_cmp x q) (sym here) ∙ ap (place_cmp (get_or places i p)) (sym there) ∙ below_at place_cmp places i j p rise lt (slice_get_within places j q at_j) in
      tag_above l q.label (ap (λ t. option_cmp nat_cmp t q.label) (sym label) ∙ labels_below p q below same))
  | inr ge ↦
      (let one : i ≡ j = omega (arith, le, ge) in
      let equal : p ≡ q = same_at places j p q (subst (λ k. slice_get places k ≡ Some p) one at_i) at_j in
      (l, ap (λ (x : PlaceName). x.label) (sym equal) ∙ label, omega arith))
]

-- Up to the next label of a link's set nothing is carried

module _ (places : List PlaceName) (rise : IsRising places) (first end : ℕ) (alike : AreAlike places first end) (set : List (ℕ × ℕ)) (labeltype : Name) (here : PlaceName) (at : slice_get places first ≡ Some here) (label : ℕ) (is : here.label ≡ Some label) where
  above : (k : ℕ) (place : PlaceName) → slice_get places k ≡ Some place → first ≤ k → k < end → IsFromOn label place.label
  above k place at_k low high = labels_rise places rise first k here place label at at_k (alike.1 first here at (omega arith) (omega (arith, low, high)) ∙ sym (alike.1 k place at_k low high)) low is

  not_carried : (tag : Tag) (m : ℕ) → tag ≡ Some m → has set m ≡ false → carries (Of labeltype set) tag ≡ false
  not_carried tag m same none = ap (carries (Of labeltype set)) same ∙ none

  pub none_to_end : HasNoneFrom set label → (k : ℕ) (place : PlaceName) → slice_get places k ≡ Some place → first ≤ k → k < end → carries (Of labeltype set) place.label ≡ false
  none_to_end none k place at_k low high = let m = above k place at_k low high in not_carried place.label m.0 m.1 (none m.0 m.2)

  below_next : (tag : Tag) (m next : ℕ) → IsFromOn m tag → is_below tag next ≡ true → m < next
  below_next None m next f below = cc
  below_next (Some n) m next f below = let same : n ≡ f.0 = one_of_some f.1 in let lt = ltb-true n next below in let le = f.2 in omega (arith, same, lt, le)

  pub none_to_next : (next past : ℕ) → HasNoneBetween set label next → AreBounds places next first end past past → (k : ℕ) (place : PlaceName) → slice_get places k ≡ Some place → first ≤ k → k < past → carries (Of labeltype set) place.label ≡ false
  none_to_next next past none b k place at_k low high = elim b.passed as (λ v. carries (Of labeltype set) place.label ≡ false) [
    | inl e ↦ absurd (omega (arith, e, low, high))
    | inr f ↦ by_one f
  ]
    where
      by_one : FollowsBelow places next past → carries (Of labeltype set) place.label ≡ false
      by_one f =
          let m = above k place at_k low (omega (arith, high, b.to)) in
          let inside : f.before < end = omega (arith, f.next, b.to) in
          let after : first ≤ f.before = omega (arith, low, high, f.next) in
          let up = labels_rise places rise k f.before place f.place m.0 at_k f.at (alike.1 k place at_k low (omega (arith, high, b.to)) ∙ sym (alike.1 f.before f.place f.at after inside)) (omega (arith, high, f.next)) m.1 in
          not_carried place.label m.0 m.1 (none m.0 m.2 (below_next f.place.label m.0 next up f.below))

-- The states of a span are of one class
pub alike_in : (T : Topology) (places : List PlaceName) (port : ℕ) (span : Span) (first : ℕ) → AreFitting T places port true None span → span.first ≤ first → AreAlike places first span.end
alike_in T places port span first fit low = (fit.class.id, λ k place at from under. ((fit.are k place at).1 (omega (arith, low, from), under)).0)

-- No way leaves a state that is passed over

module _ (T : Topology) (places : List PlaceName) (number : ℕ) (port : PortNo) (e : Element) (found : option_map (λ (p : Placed). p.element) (slice_get (elements_of T) number) ≡ Some e) (first next : ℕ) (none : AreNotTaken places e first next) where
  no_way : (k : ℕ) (w : Way) → first ≤ k → k < next → IsFrom T places number port k w → ⊥
  no_way k w low high f =
      let at : slice_get places k ≡ Some f.0.leaves = subst (λ (x : End). slice_get places x.state.0 ≡ Some f.0.leaves) f.2 f.0.near.place_at in
      let there : slice_get (elements_of T) number ≡ Some f.0.placed = subst (λ n. slice_get (elements_of T) n ≡ Some f.0.placed) f.1 f.0.element_at in
      let same : f.0.placed.element ≡ e = one_of_some (sym (ap (option_map (λ (p : Placed). p.element)) there) ∙ found) in
      both_ways (takes e f.0.leaves.label) (none k f.0.leaves at low high) (subst (λ x. takes x f.0.leaves.label ≡ true) same f.0.taken)

  pub passed_all : (S : Move → Type 0) (old : List Move) → Adds (Between first next (IsFrom T places number port)) S old old
  passed_all S old = adds_none (Between first next (IsFrom T places number port)) S old (λ w b. no_way b.0 w b.1 b.2 b.3)

  pub passed_then : (S : Move → Type 0) (old new : List Move) → first ≤ next → Adds (IsFrom T places number port next) S old new → Adds (Between first (next + 1) (IsFrom T places number port)) S old new
  passed_then S old new from a = adds_same (IsFrom T places number port next) (Between first (next + 1) (IsFrom T places number port)) S S old new a
      (λ w b. elim (below_cases b.0 next b.2) as (λ v. IsFrom T places number port next w) [
        | inl l ↦ absurd (no_way b.0 w b.1 l b.3)
        | inr same ↦ subst (λ k. IsFrom T places number port k w) same b.3
      ])
      (λ w r. (next, from, omega arith, r))
      (λ m r s. s)

-- one addition of a loop by more than one number, with more frames
pub done_on : (T : Topology) (places : List PlaceName) (F : ℕ → Way → Type 0) (low n high : ℕ) (frames more : List Frame) (old mid new : List Move) → low ≤ n → n ≤ high → ((j k : ℕ) (w : Way) → F j w → F k w → j ≡ k) → GoesOn frames more
    → Adds (Between low n F) (IsDone T places frames) old mid → Adds (Between n high F) (IsDone T places more) mid new → Adds (Between low high F) (IsDone T places more) old new
done_on T places F low n high frames more old mid new from to apart on a b = adds_then (Between low n F) (Between n high F) (Between low high F) (IsDone T places more) old mid new
    (adds_same (Between low n F) (Between low n F) (IsDone T places frames) (IsDone T places more) old mid a (λ w u. u) (λ w r. r) (λ m r s. still_done T places frames more on m s)) b
    (λ w u. elim (cases_lt u.0 n) as (λ v. Between low n F w ⊎ Between n high F w) [ inl l ↦ inl (u.0, u.1, l, u.3) | inr g ↦ inr (u.0, g, u.2, u.3) ])
    (λ w r. (r.0, r.1, omega (arith, r.2, to), r.3))
    (λ w r. (r.0, omega (arith, r.1, from), r.2, r.3))
    (λ w r q. let same : r.0 ≡ q.0 = apart r.0 q.0 w r.3 q.3 in omega (arith, r.2, q.1, same))
