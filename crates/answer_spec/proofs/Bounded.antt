-- A certificate bounds all walks.
use Rattle.std.proofs.Common.{◌+◌, ◌<◌, ◌≤◌, ◌^◌, ℕ, inl, inr, List, [], ◌∷◌, sym, subst, arith}
use Rattle.std.proofs.lemmas.Grind.{common_steps}
use Rattle.std.proofs.lemmas.List.Elements.{All-contains}
use Rattle.ml_base.specs.declared.weight.Weight.{Weight}
use Rattle.ml_base.specs.declared.weight.Weight.TheVariants.{Known, Past}
use Rattle.ml_base.specs.Weight.{FullWeight, IsAtMost, IsCappedAtMost, cap, capped_total}
use Rattle.ml_base.proofs.Laws.{full, cap-total, at_most-same, at_most-trans, capped_total-at_most}
use Rattle.circuit_spec.specs.declared.hops.Frame.{Frame}
use Rattle.circuit_spec.specs.declared.hops.Hop.{Hop}
use Rattle.circuit_spec.specs.declared.hops.PlaceName.{PlaceName}
use Rattle.circuit_spec.specs.declared.hops.Request.{Request}
use Rattle.circuit_spec.specs.declared.hops.Outcome.{Outcome}
use Rattle.circuit_spec.specs.declared.hops.Outcome.TheVariants as outcome
use Rattle.circuit_spec.specs.declared.hops.TheConstants.{HOP_LIMIT}
use Rattle.circuit_spec.specs.Network.{Topology}
use Rattle.circuit_spec.specs.Steps.{Circuit, Step, Walk, cost_of, unit_at, weight_of}
use Rattle.circuit_spec.specs.Kept.{IsOverKept}
use Rattle.circuit_spec.specs.Keeping.{Keeping, GivesKeepers, kept_hops}
use Rattle.circuit_spec.specs.Faults.{IsSound}
use Rattle.circuit_spec.specs.Segments.{RootPlace, request, entry, unit_in, IsTarget}
use Rattle.circuit_spec.specs.HopRules.{KeepsRules}
use Rattle.circuit_spec.proofs.HopRuns.{place_of, run_over}
use Rattle.circuit_spec.proofs.Generation.{holds_of_segments}
use Rattle.circuit_spec.proofs.KeptRuns.{same_weight, walk_kept}
use Rattle.circuit_spec.proofs.KeptWalks.{walk_segment}
use Rattle.answer_spec.specs.declared.answer.Answer.{Answer}
use Rattle.answer_spec.specs.declared.answer.PotLine.{PotLine}
use Rattle.answer_spec.specs.declared.answer.RootName.{RootName}
use Rattle.answer_spec.specs.declared.answer.RootName.TheVariants as root
use Rattle.answer_spec.specs.WellFormed.{IsWellFormed, IsOutcome}
use Rattle.answer_spec.specs.Potentials.{IsListed, IsListedWithin}
use Rattle.answer_spec.specs.Certificate.{Certificate, hop_weight, Arrives, IsWeighed, RootIsListed, IsExtended, IsOpened, IsNested, IsLeastListed, Agrees}
use Rattle.answer_spec.specs.Bounds.{BoundsWalks}

-- ---- weights

-- a weight that is over past is past
from_past : (w : FullWeight) → IsCappedAtMost Past (cap w) → 2 ^ 64 ≤ w.cost
from_past w le = grind (arith, common_steps)

-- below the cap of hops, the order of capped weights is that of the weights
from_known : (w : FullWeight) (c n : ℕ) → c < 2 ^ 64 → IsCappedAtMost (Known c n) (cap w) → IsAtMost (full c n) w
from_known w c n small le = grind (arith, common_steps)

-- a weight that is at least one over the limit, and costs no more, is over the limit
over : (w : FullWeight) (c n : ℕ) → HOP_LIMIT < n → IsAtMost (full c n) w → w.cost ≤ c → HOP_LIMIT < w.hops
over w c n more (inl less) low = absurd (omega (arith, less, low))
over w c n more (inr same) low = omega (arith, more, same.1)

-- ---- segments

abbrev name_of : RootPlace → RootName
name_of request = root.Request
name_of (entry x) = root.Entry x

module _ (T : Topology) (a : Answer) (certificate : Certificate T a) where
  abbrev Within : RootName → PlaceName → Weight → Type 0
  Within = IsListedWithin a.potentials

  -- the pair of the root and the place is listed with at most this weight
  abbrev Bound : RootPlace → PlaceName → ℕ → ℕ → Type 0
  Bound base place c n = Within (name_of base) place (cap (full c n))

  raised : (name : RootName) (place : PlaceName) (v w : Weight) → IsCappedAtMost v w → Within name place v → Within name place w
  raised name place v w more l = (l.0, l.1, at_most-trans l.0 v w l.2 more)

  -- a sum whose first part is less
  one_more : (v : Weight) (c n : ℕ) (h : Hop) → IsCappedAtMost v (cap (full c n)) → IsCappedAtMost (capped_total v (hop_weight T h)) (cap (full (c + cost_of T h) (n + 1)))
  one_more v c n h low =
      subst (IsCappedAtMost (capped_total v (hop_weight T h))) (sym (cap-total c n (cost_of T h) 1))
      (capped_total-at_most v (cap (full c n)) (hop_weight T h) (hop_weight T h) low (at_most-same (hop_weight T h)))

  extends : (base : RootPlace) (x : PlaceName) (c n : ℕ) → Bound base x c n → (h : Hop) (y : PlaceName) → IsOverKept T a.request h → Step T (unit_in x []) h (unit_in y []) → Bound base y (c + cost_of T h) (n + 1)
  extends base x c n l h y kept step =
      let on = All-contains (IsExtended T a.request a.potentials) a.potentials _ certificate.extends l.1 h y (kept, step) in
      raised (name_of base) y _ _ (one_more l.0 c n h l.2) on

  -- a root that is entered is listed at itself
  entered : (x : PlaceName) (y : PlaceName) (w : Weight) → IsListed a.potentials (root.Entry x) y w → Bound (entry x) x 0 0
  entered x y w l =
      let own = All-contains (λ (p : PotLine). RootIsListed a.potentials p.root) a.potentials (record { root = root.Entry x; place = y; weight = w }) certificate.starts.1 l in
      (Known 0 0, own, at_most-same (Known 0 0))

  opens : (base : RootPlace) (x : PlaceName) (c n : ℕ) → Bound base x c n → (h : Hop) (frame : Frame) (y : PlaceName) → IsOverKept T a.request h → Step T (unit_in x []) h (unit_in y (frame ∷ [])) → Bound (entry y) y 0 0
  opens base x c n l h frame y kept step =
      let some = All-contains (IsOpened T a.request a.potentials) a.potentials _ certificate.opens l.1 h frame y (kept, step) in
      entered y some.0 some.1 some.2

  nests : (base : RootPlace) (x : PlaceName) (c n : ℕ) → Bound base x c n
      → (h : Hop) (frame : Frame) (y : PlaceName) → IsOverKept T a.request h → Step T (unit_in x []) h (unit_in y (frame ∷ []))
      → (z : PlaceName) (e m : ℕ) → Bound (entry y) z e m
      → (d : Hop) (w : PlaceName) → IsOverKept T a.request d → Step T (unit_in z (frame ∷ [])) d (unit_in w [])
      → Bound base w (c + cost_of T h + e + cost_of T d) (n + 1 + m + 1)
  nests base x c n l h frame y kept step z e m inner d w off_kept off =
      let on = All-contains (IsNested T a.request a.potentials) a.potentials _ certificate.nests l.1 h frame y (kept, step) z inner.0 inner.1 d w (off_kept, off) in
      let first = one_more l.0 c n h l.2 in
      let sum = capped_total-at_most (capped_total l.0 (hop_weight T h)) (cap (full (c + cost_of T h) (n + 1))) inner.0 (cap (full e m)) first inner.2 in
      let second = subst (IsCappedAtMost (capped_total (capped_total l.0 (hop_weight T h)) inner.0)) (sym (cap-total (c + cost_of T h) (n + 1) e m)) sum in
      raised (name_of base) w _ _ (one_more (capped_total (capped_total l.0 (hop_weight T h)) inner.0) (c + cost_of T h + e) (n + 1 + m) d second) on

  rules : KeepsRules T a.request Bound
  rules = record {
    begins = λ x is. (Known 0 0, certificate.starts.0 x is, at_most-same (Known 0 0));
    extends = extends;
    opens = opens;
    nests = nests;
  }

  -- a place of TO is listed with at most the weight
  abbrev Reaches : Weight → Type 0
  Reaches most = (place : PlaceName) × IsTarget T a.request place × Within root.Request place most

  -- for each walk, over all labels, a place of TO is listed with at most its weight
  reaches : (keeping : Keeping) → IsSound T → GivesKeepers T a.request keeping → (hops : List Hop) → Walk T a.request hops → Reaches (cap (weight_of T hops))
  reaches keeping sound gives hops walk =
      let to = walk_segment T a.request (kept_hops T keeping hops) (walk_kept T a.request keeping sound gives hops walk) in
      let l = holds_of_segments T a.request Bound rules request (kept_hops T keeping hops) to.0 to.2 in
      (to.0, to.1, subst (λ w. Within root.Request to.0 (cap w)) (same_weight T keeping hops) l)

  least : (w : Weight) → IsLeastListed T a.request a.potentials w → (most : Weight) → Reaches most → IsCappedAtMost w most
  least w is most (place, target, (v, l, low)) = at_most-trans w v most (is.least place v target l) low

-- ---- the outcomes

circuit : (T : Topology) (r : Request) (hops : List Hop) → Walk T r hops → Circuit T r hops
circuit T r hops (ends, run) = (ends, run_over T (place_of (unit_at ends.from ends.from_label [])) (place_of (unit_at ends.to ends.to_label [])) hops run)

shown : (T : Topology) (r : Request) (listed : List PotLine) (o : Outcome) (hops : List Hop) → IsOutcome o → Arrives T r o hops → IsWeighed T o hops → Agrees T r listed o
    → ((w : Weight) → IsLeastListed T r listed w → (others : List Hop) → Walk T r others → IsCappedAtMost w (cap (weight_of T others)))
    → ((others : List Hop) → Walk T r others → (place : PlaceName) × IsTarget T r place × ((w : Weight) × IsListed listed root.Request place w))
    → BoundsWalks T r o hops
shown T r listed (outcome.Found c n) hops small walk weighed agrees bounds reached =
    (circuit T r hops walk, weighed.0, λ others is. from_known (weight_of T others) c n small.0 (bounds (Known c n) agrees others is))
shown T r listed outcome.NoWalk hops small walk weighed none bounds reached = λ others is. let at = reached others is in none at.0 at.2.0 at.1 at.2.1
shown T r listed outcome.Past hops small walk weighed agrees bounds reached = λ others is. from_past (weight_of T others) (bounds Past agrees others is)
shown T r listed (outcome.Long c n) hops small walk more agrees bounds reached = (
  more,
  λ others is. bounds (Known c n) agrees others is,
  λ others is low. over (weight_of T others) c n more (from_known (weight_of T others) c n small.0 (bounds (Known c n) agrees others is)) low,
)

pub bounded : (T : Topology) (a : Answer) (keeping : Keeping) → IsSound T → GivesKeepers T a.request keeping → IsWellFormed a → Certificate T a → BoundsWalks T a.request a.outcome a.hops
bounded T a keeping sound gives formed certificate =
    shown T a.request a.potentials a.outcome a.hops formed.outcome certificate.arrives certificate.weighed certificate.agrees
    (λ w is others walk. least T a certificate w is (cap (weight_of T others)) (reaches T a certificate keeping sound gives others walk))
    (λ others walk. let at = reaches T a certificate keeping sound gives others walk in (at.0, at.1, (at.2.0, at.2.1)))
