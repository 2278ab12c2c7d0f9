-- Steps have one list of hops, and hops are those of one list of steps.
use Rattle.std.proofs.Common.{◌≡◌, ℕ, ◌+◌, ◌<◌, List, [], ◌∷◌, ◌++◌, get_or, length, take, refl, sym, ◌∙◌, ap, subst}
use Rattle.std.specs.List.{AllZip}
use Rattle.std.proofs.lemmas.List.{take_more}
use Rattle.ml_base.specs.declared.numbers.StepNo.{StepNo}
use Rattle.circuit_spec.specs.declared.hops.Hop.{Hop}
use Rattle.circuit_spec.specs.Network.{Topology}
use Rattle.finder_core.specs.Outcomes.{AddsHop}
use Rattle.finder_core.proofs.Listings.{hops_more}
use Rattle.k_answers.specs.declared.answer.KHops.{KHops}
use Rattle.k_cheapest.specs.declared.found.KWalk.{KWalk}
use Rattle.k_cheapest.specs.KLists.{numbers_of}
use Rattle.k_cheapest.proofs.Numbers.{numbers_of-push}
use Rattle.machine_build.specs.Built.{BuiltValue, IsHopAt}
use Rattle.machine_lift.specs.Lift.{AreHopsAt}
use Rattle.machine_lift.proofs.OneHop.{one_hop}
use Rattle.potential_lift.proofs.Zipped.{zip_more}
use Rattle.k_solver.specs.Walks.{AddsWalk, AreWalksOf, IsWalkOf}

module _ (T : Topology) (b : BuiltValue) where
  pub same_hops : (ks : List ℕ) (gs hs : List Hop) → AreHopsAt T b ks gs → AreHopsAt T b ks hs → gs ≡ hs
  same_hops [] gs hs a c = a ∙ sym c
  same_hops (k ∷ ks) [] hs a c = absurd a
  same_hops (k ∷ ks) (g ∷ gs) [] a c = absurd c
  same_hops (k ∷ ks) (g ∷ gs) (h ∷ hs) a c =
      let first : g ≡ h = one_hop T b k g h a.0 c.0 in
      let rest : gs ≡ hs = same_hops ks gs hs a.1 c.1 in
      cc

  -- where different steps have different hops
  pub same_steps : ((j k : ℕ) (h : Hop) → IsHopAt T b j h → IsHopAt T b k h → j ≡ k) → (js ks : List ℕ) (hops : List Hop) → AreHopsAt T b js hops → AreHopsAt T b ks hops → js ≡ ks
  same_steps once [] [] hops a c = refl
  same_steps once [] (k ∷ ks) [] a c = absurd c
  same_steps once [] (k ∷ ks) (h ∷ hops) a c = absurd (cc)
  same_steps once (j ∷ js) ks [] a c = absurd a
  same_steps once (j ∷ js) [] (h ∷ hops) a c = absurd (cc)
  same_steps once (j ∷ js) (k ∷ ks) (h ∷ hops) a c =
      let first : j ≡ k = once j k h a.0 c.0 in
      let rest : js ≡ ks = same_steps once js ks hops a.1 c.1 in
      cc

  -- the hop of the next step
  pub hop_more : (steps : List StepNo) (i : ℕ) (k : StepNo) (old new : List Hop) → i < length steps → AreHopsAt T b (numbers_of (take i steps)) old
      → AddsHop T b (get_or steps i k).0 old new → AreHopsAt T b (numbers_of (take (i + 1) steps)) new
  hop_more steps i k old new low are adds =
      let next : ℕ = (get_or steps i k).0 in
      let numbers : numbers_of (take (i + 1) steps) ≡ numbers_of (take i steps) ++ next ∷ [] = ap numbers_of (take_more steps i k low) ∙ numbers_of-push (take i steps) (get_or steps i k) in
      subst (λ ks. AreHopsAt T b ks new) (sym numbers)
      (subst (AreHopsAt T b (numbers_of (take i steps) ++ next ∷ [])) (sym adds.added)
      (hops_more T b (numbers_of (take i steps)) old next adds.hop are adds.is_hop))

  -- the next walk
  pub walk_more : (found : List KWalk) (i : ℕ) (v : KWalk) (old new : List KHops) → v ≡ get_or found i v → i < length found → AreWalksOf T b (take i found) old → AddsWalk T b v old new
      → AreWalksOf T b (take (i + 1) found) new
  walk_more found i v old new is low are adds = subst (AreWalksOf T b (take (i + 1) found)) (sym adds.added)
      (zip_more (IsWalkOf T b) found i v old adds.walk low are (subst (λ u. IsWalkOf T b u adds.walk) is adds.is_walk))

-- as many on both sides
pub zip_length : {A B : Type 0} (R : A → B → Type 0) (xs : List A) (ys : List B) → AllZip R xs ys → length ys ≡ length xs
zip_length R [] [] all = refl
zip_length R [] (y ∷ ys) all = absurd all
zip_length R (x ∷ xs) [] all = absurd all
zip_length R (x ∷ xs) (y ∷ ys) all = let rest : length ys ≡ length xs = zip_length R xs ys all.1 in cc
