-- The hops of steps and their flags, one after another.
use Rattle.std.proofs.Common.{◌≡◌, ℕ, suc, ◌<◌, List, [], ◌∷◌, ◌++◌, Option, None, length, nat_eq, replicate, refl, sym, ◌∙◌, ap, subst, arith, add-one, append-nil, append_assoc}
use Rattle.std.specs.List.{AllByRecursion, position}
use Rattle.std.proofs.lemmas.List.{length-append, length-map, map-append}
use Rattle.ml_base.specs.declared.weight.Weight.{Weight}
use Rattle.ml_base.specs.declared.weight.Weight.TheVariants as weight
use Rattle.circuit_spec.specs.declared.hops.Hop.{Hop}
use Rattle.circuit_spec.specs.declared.hops.TheConstants.{HOP_LIMIT}
use Rattle.circuit_spec.specs.Network.{Topology}
use Rattle.route_unfold.specs.Faults.{IsLong}
use Rattle.repeat_flags.specs.Visits.{noted}
use Rattle.machine_build.specs.Built.{BuiltValue, IsHopAt}
use Rattle.machine_lift.specs.Lift.{AreHopsAt}
use Rattle.finder_core.specs.Outcomes.{AddsHop, IsListable}
use Rattle.finder_core.specs.Passing.{AddsFlag, flags_of, repeats_after, state_entered, state_left, states_entered}
use Rattle.finder_core.proofs.Passing.{answer_is, repeats_one, seen, seen_length, seen_one}

-- the hops of the steps before those that are left, and their flags; the states that they pass are visited
pub record IsListing (T : Topology) (b : BuiltValue) (steps left : List ℕ) (hops : List Hop) (flags numbers : List (Option ℕ)) : Type 0 where
  pub first : ℕ
  pub rest : List ℕ
  pub begins : steps ≡ first ∷ rest
  pub done : List ℕ
  pub split : steps ≡ done ++ left
  pub are : AreHopsAt T b done hops
  pub flagged : flags ≡ repeats_after (state_left b.machine.steps first ∷ []) (states_entered b.machine.steps done)
  pub visited : numbers ≡ seen b.machine.states (state_left b.machine.steps first ∷ states_entered b.machine.steps done)

pub hops_more : (T : Topology) (b : BuiltValue) (ks : List ℕ) (hops : List Hop) (k : ℕ) (h : Hop) → AreHopsAt T b ks hops → IsHopAt T b k h → AreHopsAt T b (ks ++ k ∷ []) (hops ++ h ∷ [])
hops_more T b [] hops k h are is = subst (λ hs. AreHopsAt T b (k ∷ []) (hs ++ h ∷ [])) (sym are) (is, refl)
hops_more T b (j ∷ ks) [] k h are is = absurd are
hops_more T b (j ∷ ks) (g ∷ hops) k h are is = (are.0, hops_more T b ks hops k h are.1 is)

hops_counted : (T : Topology) (b : BuiltValue) (ks : List ℕ) (hops : List Hop) → AreHopsAt T b ks hops → length hops ≡ length ks
hops_counted T b [] hops are = ap length are
hops_counted T b (k ∷ ks) [] are = absurd are
hops_counted T b (k ∷ ks) (h ∷ hops) are = ap suc (hops_counted T b ks hops are.1)

-- no step is listed, and the first state is visited
listing_begun : (T : Topology) (b : BuiltValue) (steps : List ℕ) (k : ℕ) (left : List ℕ) (hops : List Hop) (flags numbers : List (Option ℕ)) → steps ≡ k ∷ left → hops ≡ [] → flags ≡ []
    → numbers ≡ noted (replicate b.machine.states None) (state_left b.machine.steps k) 0 → IsListing T b steps steps hops flags numbers
listing_begun T b steps k left hops flags numbers begins none unflagged visited = record {
  first = k;
  rest = left;
  begins = begins;
  done = [];
  split = refl;
  are = none;
  flagged = unflagged;
  visited = visited;
}

-- one step more
pub listing_turn : (T : Topology) (b : BuiltValue) (steps now : List ℕ) (k : ℕ) (left : List ℕ) (hops more : List Hop) (flags flags' numbers numbers' : List (Option ℕ)) → now ≡ k ∷ left
    → IsListing T b steps now hops flags numbers → AddsHop T b k hops more → AddsFlag b.machine.steps k (length more) numbers flags numbers' flags' → IsListing T b steps left more flags' numbers'
listing_turn T b steps now k left hops more flags flags' numbers numbers' same l hop flag =
    let entered : List ℕ → List ℕ = states_entered b.machine.steps in
    let state : ℕ = state_entered b.machine.steps k in
    let start : ℕ = state_left b.machine.steps l.first in
    let passed : List ℕ = start ∷ entered l.done in
    let one : entered (l.done ++ k ∷ []) ≡ entered l.done ++ state ∷ [] = map-append (state_entered b.machine.steps) l.done (k ∷ []) in
    let below : state < b.machine.states = subst (λ n. state < n) (seen_length b.machine.states passed numbers l.visited) flag.within in
    let answer = answer_is b.machine.states passed numbers state l.visited below in
    let counted : length more ≡ length passed =
    ap length hop.added ∙ length-append hops (hop.hop ∷ []) ∙ add-one (length hops) ∙ ap suc (hops_counted T b l.done hops l.are ∙ sym (length-map l.done (state_entered b.machine.steps))) in
    record {
      first = l.first;
      rest = l.rest;
      begins = l.begins;
      done = l.done ++ k ∷ [];
      split = l.split ∙ ap (λ xs. l.done ++ xs) same ∙ sym (append_assoc l.done (k ∷ []) left);
      are = subst (λ hs. AreHopsAt T b (l.done ++ k ∷ []) hs) (sym hop.added) (hops_more T b l.done hops k hop.hop l.are hop.is_hop);
      flagged =
          flag.added ∙ ap (λ f. flags ++ f ∷ []) answer ∙ ap (λ fs. fs ++ position (λ earlier. nat_eq earlier state) passed ∷ []) l.flagged
          ∙ sym (ap (repeats_after (start ∷ [])) one ∙ repeats_one (start ∷ []) (entered l.done) state);
      visited =
          seen_one b.machine.states passed numbers numbers' state (length more) l.visited counted flag.visited
          ∙ ap (λ xs. seen b.machine.states (start ∷ xs)) (sym one);
    }

-- the first step is listed
pub listing_first : (T : Topology) (b : BuiltValue) (steps now : List ℕ) (k : ℕ) (left : List ℕ) (hops more : List Hop) (flags flags' numbers numbers' : List (Option ℕ)) → steps ≡ k ∷ left → now ≡ left → hops ≡ [] → flags ≡ []
    → numbers ≡ noted (replicate b.machine.states None) (state_left b.machine.steps k) 0 → AddsHop T b k hops more → AddsFlag b.machine.steps k (length more) numbers flags numbers' flags' → IsListing T b steps now more flags' numbers'
listing_first T b steps now k left hops more flags flags' numbers numbers' begins same none unflagged visited hop flag =
    listing_turn T b steps steps k now hops more flags flags' numbers numbers' (begins ∙ ap (λ ks. k ∷ ks) (sym same))
    (listing_begun T b steps k left hops flags numbers begins none unflagged visited) hop flag

-- all steps are listed
pub listing_ended : (T : Topology) (b : BuiltValue) (steps left : List ℕ) (hops : List Hop) (flags numbers : List (Option ℕ)) → left ≡ [] → IsListing T b steps left hops flags numbers
    → AreHopsAt T b steps hops × (flags ≡ flags_of b.machine.steps steps)
listing_ended T b steps left hops flags numbers none l =
    let all : steps ≡ l.done = l.split ∙ ap (λ xs. l.done ++ xs) none ∙ append-nil l.done in
    let start : ℕ = state_left b.machine.steps l.first in (
      subst (λ ks. AreHopsAt T b ks hops) (sym all) l.are,
      l.flagged ∙ ap (λ ks. repeats_after (start ∷ []) (states_entered b.machine.steps ks)) (sym all ∙ l.begins) ∙ ap (flags_of b.machine.steps) (sym l.begins),
    )

-- a number for each state
pub listing_room : (T : Topology) (b : BuiltValue) (steps left : List ℕ) (hops : List Hop) (flags numbers : List (Option ℕ)) → IsListing T b steps left hops flags numbers → length numbers ≡ b.machine.states
listing_room T b steps left hops flags numbers l = seen_length b.machine.states (state_left b.machine.steps l.first ∷ states_entered b.machine.steps l.done) numbers l.visited

within_append : (n : ℕ) (xs ys : List ℕ) (k : ℕ) → AllByRecursion (λ j. j < n) (xs ++ k ∷ ys) → k < n
within_append n [] ys k all = all.0
within_append n (x ∷ xs) ys k all = within_append n xs ys k all.1

pub listing_within : (T : Topology) (b : BuiltValue) (n : ℕ) (steps now : List ℕ) (k : ℕ) (left : List ℕ) (hops : List Hop) (flags numbers : List (Option ℕ)) → now ≡ k ∷ left → AllByRecursion (λ j. j < n) steps
    → IsListing T b steps now hops flags numbers → k < n
listing_within T b n steps now k left hops flags numbers same all l = within_append n l.done left k (subst (λ ks. AllByRecursion (λ j. j < n) ks) (l.split ∙ ap (λ xs. l.done ++ xs) same) all)

-- the first of all steps
pub first_within : (n : ℕ) (steps : List ℕ) (k : ℕ) (left : List ℕ) → steps ≡ k ∷ left → AllByRecursion (λ j. j < n) steps → k < n
first_within n steps k left same all = (subst (λ ks. AllByRecursion (λ j. j < n) ks) same all).0

-- a weight within the hop limit is neither past nor long
pub not_past : (w : Weight) → IsListable w → w ≡ weight.Past → ⊥
not_past weight.Past within e = within
not_past (weight.Known cost hops) within e = cc

pub not_long : (w : Weight) (hops : ℕ) → IsListable w → IsLong w HOP_LIMIT hops → ⊥
not_long weight.Past hops within long = within
not_long (weight.Known cost h) hops within long = omega (arith, within, long.1)
