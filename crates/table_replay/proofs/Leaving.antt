-- Which rules leave from a place, where each rule has one place and one rule has this one.
use Rattle.std.proofs.Common.{◌≡◌, ◌≢◌, ◌⊎◌, inl, inr, ℕ, ◌+◌, ◌<◌, List, [], ◌∷◌, ◌++◌, Bool, true, false, cond, length, map, refl, sym, ◌∙◌, ap, subst, arith, get_or, set}
use Rattle.std.specs.List.{All, Contains, sum_by, swap}
use Rattle.std.specs.List.Sorted.{IsPermutation}
use Rattle.std.proofs.lemmas.List.{get_or-map, length-map, map-set, map-append}
use Rattle.std.proofs.lemmas.List.Elements.{All-head, All-tail, All-contains, Contains-append_left, Contains-append_right, Contains-push_cases, Contains-append_cases, All-weaker, All-contains_itself}
use Rattle.std.proofs.lemmas.List.Sorted.{All-permutation, IsPermutation-keeps, IsPermutation-refl, IsPermutation-swap, IsPermutation-trans, sum_by-IsPermutation}
use Rattle.std.proofs.lemmas.List.Sums.{sum_by-append}
use Rattle.circuit_spec.specs.declared.hops.Hop.{Hop}
use Rattle.circuit_spec.specs.declared.hops.PlaceName.{PlaceName}
use Rattle.circuit_spec.specs.Flags.{same_place}
use Rattle.circuit_spec.specs.Network.{Topology, Port, IsClass, Linked, ports}
use Rattle.circuit_spec.proofs.ClassLemmas.{First-unique}
use Rattle.circuit_spec.proofs.Places.{same_places, place_itself}
use Rattle.device_rules.specs.declared.rules.Rule.{Rule}
use Rattle.table_replay.specs.Forwarding.{AreLeaving, LeavesFrom}
use Rattle.table_replay.proofs.Places.{contains_cases}

-- a hop, and the place that it leaves from
abbrev pub Leaver : Type 0
Leaver = Hop × PlaceName

abbrev pub hop_in : Rule → Hop
hop_in rule = rule.hop

abbrev pub hop_of : Leaver → Hop
hop_of z = z.0

abbrev pub from_of : Leaver → PlaceName
from_of z = z.1

abbrev pub IsFrom : Topology → Leaver → Type 0
IsFrom T z = (class : Port) × IsClass T z.0.from class × (z.1 ≡ record { class = class.id; label = z.0.from_label })

abbrev as_number : Bool → ℕ
as_number true = 1
as_number false = 0

-- one, where the hop leaves from the place
abbrev one_at : PlaceName → Leaver → ℕ
one_at x z = as_number (same_place x z.1)

-- how many hops leave from the place
pub count : PlaceName → List Leaver → ℕ
count x [] = 0
count x (z ∷ zs) = one_at x z + count x zs

counted : (x : PlaceName) (zs : List Leaver) → sum_by (one_at x) zs ≡ count x zs
unfolding count
counted x [] = refl
counted x (z ∷ zs) =
    let one : sum_by (one_at x) (z ∷ []) ≡ one_at x z = omega arith in
    sum_by-append (one_at x) (z ∷ []) zs ∙ ap (λ n. n + sum_by (one_at x) zs) one ∙ ap (λ n. one_at x z + n) (counted x zs)

-- a list in another order has an original in another order
swapped_map : {A B : Type 0} (f : A → B) (xs : List A) (i j : ℕ) → i < length xs → j < length xs → map f (swap xs i j) ≡ swap (map f xs) i j
swapped_map f [] i j below within = refl
swapped_map f (x ∷ xs) i j below within =
    map-set f (set (x ∷ xs) i (get_or (x ∷ xs) j x)) j (get_or (x ∷ xs) i x)
    ∙ ap (λ l. set l j (f (get_or (x ∷ xs) i x))) (map-set f (x ∷ xs) i (get_or (x ∷ xs) j x))
    ∙ ap (λ v. set (set (map f (x ∷ xs)) i v) j (f (get_or (x ∷ xs) i x))) (sym (get_or-map f (x ∷ xs) j x (f x) within))
    ∙ ap (λ v. set (set (map f (x ∷ xs)) i (get_or (map f (x ∷ xs)) j (f x))) j v) (sym (get_or-map f (x ∷ xs) i x (f x) below))

pub lifted : {A B : Type 0} (f : A → B) (xs : List A) (ys : List B) → IsPermutation (map f xs) ys → (zs : List A) × IsPermutation xs zs × (map f zs ≡ ys)
lifted {A} {B} f xs ys moved = IsPermutation-keeps (map f xs) Lifted (xs, IsPermutation-refl xs, refl) step ys moved
  where
    Lifted : List B → Type 0
    Lifted l = (zs : List A) × IsPermutation xs zs × (map f zs ≡ l)

    step : (l : List B) (i j : ℕ) → i < length l → j < length l → Lifted l → Lifted (swap l i j)
    step l i j p q (zs, by, e) =
        let long : length zs ≡ length l = sym (length-map zs f) ∙ ap length e in
        let p' : i < length zs = omega (arith, p, long) in
        let q' : j < length zs = omega (arith, q, long) in
        (swap zs i j, IsPermutation-trans xs zs (swap zs i j) by (IsPermutation-swap zs (swap zs i j) i j p' q' refl), swapped_map f zs i j p' q' ∙ ap (λ m. swap m i j) e)

module _ (T : Topology) (x : PlaceName) where
  -- a rule leaves from the place of its hop alone
  its_place : (z : Leaver) (rule : Rule) → IsFrom T z → z.0 ≡ rule.hop → LeavesFrom T x rule → x ≡ z.1
  its_place z rule (class, is, e) same (other, its, f) =
      let one : class ≡ other = First-unique (λ q. Linked T rule.hop.from q.id) (ports T) class other (subst (λ (h : Hop). IsClass T h.from class) same is) its in
      let P : Hop → Type 0 = λ h. z.1 ≡ record { class = class.id; label = h.from_label } in
      let Q : Port → Type 0 = λ p. z.1 ≡ record { class = p.id; label = rule.hop.from_label } in
      f ∙ sym (subst Q one (subst P same e))

  leaves_there : (z : Leaver) (rule : Rule) → IsFrom T z → z.0 ≡ rule.hop → x ≡ z.1 → LeavesFrom T x rule
  leaves_there z rule (class, is, e) same at =
      let P : Hop → Type 0 = λ h. z.1 ≡ record { class = class.id; label = h.from_label } in
      (class, subst (λ (h : Hop). IsClass T h.from class) same is, at ∙ subst P same e)

  none_leave : (zs : List Leaver) (rules : List Rule) → map hop_of zs ≡ map hop_in rules → All (IsFrom T) zs → count x zs ≡ 0 → AreLeaving T x rules []
  unfolding count
  none_leave [] [] e from none = refl
  none_leave [] (r ∷ rules) e from none = absurd cc
  none_leave (z ∷ zs) [] e from none = absurd cc
  none_leave (z ∷ zs) (r ∷ rules) e from none =
      let hop : z.0 ≡ r.hop = cc in
      let rest : map hop_of zs ≡ map hop_in rules = cc in
      let sum : one_at x z + count x zs ≡ 0 = none in
      let later : count x zs ≡ 0 = omega (arith, sum) in
      let here : one_at x z ≡ 0 = omega (arith, sum) in
      inl (
        λ leaves. let at = its_place z r (All-head (IsFrom T) z zs from) hop leaves in
            let t : same_place x z.1 ≡ true = subst (λ y. same_place x y ≡ true) at (place_itself x) in
            omega (arith, ap as_number t, here),
        none_leave zs rules rest (All-tail (IsFrom T) z zs from) later,
      )

  -- the one rule that leaves from the place has this hop
  abbrev pub OneLeaves : Hop → List Rule → Type 0
  OneLeaves h rules = (rule : Rule) × AreLeaving T x rules (rule ∷ []) × (rule.hop ≡ h)

  one_by : (h : Hop) (z : Leaver) (zs : List Leaver) (r : Rule) (rules : List Rule) → z.0 ≡ r.hop → map hop_of zs ≡ map hop_in rules → IsFrom T z → All (IsFrom T) zs → (z.1 ≡ x → z.0 ≡ h)
      → (b : Bool) → same_place x z.1 ≡ b → as_number b + count x zs ≡ 1 → (count x zs ≡ 1 → OneLeaves h rules) → OneLeaves h (r ∷ rules)
  one_by h z zs r rules hop rest here from its true t one next =
      let at = same_places x z.1 t in
      let later : count x zs ≡ 0 = omega (arith, one) in
      (r, inr (leaves_there z r here hop at, ([], none_leave zs rules rest from later, refl)), sym hop ∙ its (sym at))
  one_by h z zs r rules hop rest here from its false f one next =
      let later : count x zs ≡ 1 = omega (arith, one) in
      let found = next later in
      let apart : LeavesFrom T x r → ⊥ = λ leaves. let at = its_place z r here hop leaves in
      let t : same_place x z.1 ≡ true = subst (λ y. same_place x y ≡ true) at (place_itself x) in
      cc in
      (found.0, inl (apart, found.1), found.2)

  pub one_of : (h : Hop) (zs : List Leaver) (rules : List Rule) → map hop_of zs ≡ map hop_in rules → All (IsFrom T) zs → All (λ (z : Leaver). z.1 ≡ x → z.0 ≡ h) zs → count x zs ≡ 1 → OneLeaves h rules
  unfolding count
  one_of h [] rules e from its one = absurd (omega (arith, one))
  one_of h (z ∷ zs) [] e from its one = absurd cc
  one_of h (z ∷ zs) (r ∷ rules) e from its one =
      let hop : z.0 ≡ r.hop = cc in
      let rest : map hop_of zs ≡ map hop_in rules = cc in
      let here = All-head (IsFrom T) z zs from in
      let behind = All-tail (IsFrom T) z zs from in
      let mine = All-head (λ (w : Leaver). w.1 ≡ x → w.0 ≡ h) z zs its in
      let theirs = All-tail (λ (w : Leaver). w.1 ≡ x → w.0 ≡ h) z zs its in
      one_by h z zs r rules hop rest here behind mine (same_place x z.1) refl one (λ later. one_of h zs rules rest behind theirs later)

  count_none : (zs : List Leaver) → (Contains (map from_of zs) x → ⊥) → count x zs ≡ 0
  unfolding count
  count_none [] none = refl
  count_none (z ∷ zs) none =
      let later : count x zs ≡ 0 = count_none zs (λ held. none (Contains-append_right (z.1 ∷ []) (map from_of zs) x held)) in
      let here : one_at x z ≡ 0 = apart_at z (λ same. none (Contains-append_left (z.1 ∷ []) (map from_of zs) x (0, omega arith, same))) in
      omega (arith, later, here)
    where
      by : (b : Bool) → (b ≡ true → ⊥) → as_number b ≡ 0
      by true f = absurd (f refl)
      by false f = refl

      apart_at : (w : Leaver) → (w.1 ≡ x → ⊥) → one_at x w ≡ 0
      apart_at w apart = by (same_place x w.1) (λ t. apart (sym (same_places x w.1 t)))

  count_alone : (h : Hop) (ps qs : List Leaver) → (Contains (map from_of ps) x → ⊥) → (Contains (map from_of qs) x → ⊥) → count x (ps ++ (h, x) ∷ qs) ≡ 1
  unfolding count
  count_alone h [] qs before behind =
      let later : count x qs ≡ 0 = count_none qs behind in
      let here : one_at x (h, x) ≡ 1 = ap as_number (place_itself x) in
      omega (arith, later, here)
  count_alone h (z ∷ ps) qs before behind =
      let later : count x (ps ++ (h, x) ∷ qs) ≡ 1 = count_alone h ps qs (λ held. before (Contains-append_right (z.1 ∷ []) (map from_of ps) x held)) behind in
      let single : count x (z ∷ []) ≡ 0 = count_none (z ∷ []) (λ held. before (Contains-append_left (z.1 ∷ []) (map from_of ps) x held)) in
      let here : one_at x z ≡ 0 = omega (arith, single) in
      omega (arith, later, here)

  held_mapped : (z : Leaver) (zs : List Leaver) → Contains zs z → Contains (map from_of zs) z.1
  held_mapped z zs (k, below, at) =
      (k, omega (arith, below, length-map zs from_of), get_or-map from_of zs k z z.1 below ∙ ap from_of at)

  -- where one hop leaves from the place, its rule is the one that does, wherever it stands
  pub alone : (h : Hop) (ps qs : List Leaver) (rules : List Rule) → IsPermutation (map hop_of (ps ++ (h, x) ∷ qs)) (map hop_in rules) → All (IsFrom T) (ps ++ (h, x) ∷ qs)
      → (Contains (map from_of ps) x → ⊥) → (Contains (map from_of qs) x → ⊥) → OneLeaves h rules
  alone h ps qs rules moved from before behind =
      let up = lifted hop_of total (map hop_in rules) moved in
      let zs = up.0 in
      let one : count x zs ≡ 1 = sym (counted x zs) ∙ sum_by-IsPermutation (one_at x) total zs up.1 ∙ counted x total ∙ count_alone h ps qs before behind in
      one_of h zs rules up.2 (All-permutation (IsFrom T) total zs up.1 from) (All-permutation Mine total zs up.1 (All-weaker (Contains total) Mine mine total (All-contains_itself total))) one
    where
      total : List Leaver
      total = ps ++ (h, x) ∷ qs

      Mine : Leaver → Type 0
      Mine z = z.1 ≡ x → z.0 ≡ h

      mine : (z : Leaver) → Contains (ps ++ (h, x) ∷ qs) z → z.1 ≡ x → z.0 ≡ h
      mine z held at = elim (Contains-append_cases ps ((h, x) ∷ qs) z held) as (λ v. z.0 ≡ h) [
        | inl c ↦ absurd (before (subst (λ y. Contains (map from_of ps) y) at (held_mapped z ps c)))
        | inr c ↦ elim (contains_cases (h, x) z qs c) as (λ v. z.0 ≡ h) [
          | inl same ↦ sym (ap hop_of same)
          | inr later ↦ absurd (behind (subst (λ y. Contains (map from_of qs) y) at (held_mapped z qs later)))
        ]
      ]
