-- The answer of a search keeps the rules of the certificate.
use Rattle.std.specs.Prelude.{Contains}
use Rattle.std.specs.List.{All}
use Rattle.std.proofs.Common.{◌≡◌, ◌+◌, ℕ, List, [], ◌∷◌, refl, sym, ◌∙◌, ap, subst, get_or, arith}
use Rattle.std.proofs.lemmas.Grind.{common_steps}
use Rattle.std.proofs.lemmas.List.Elements.{All-contains, Contains-get_or}
use Rattle.ml_base.specs.declared.weight.Weight.{Weight}
use Rattle.ml_base.specs.declared.weight.Weight.TheVariants.{Known, Past}
use Rattle.ml_base.specs.Weight.{IsCappedAtMost, cap, capped_total}
use Rattle.ml_base.proofs.Laws.{full, cap-total, at_most-antisym}
use Rattle.circuit_spec.specs.declared.hops.Frame.{Frame}
use Rattle.circuit_spec.specs.declared.hops.Hop.{Hop}
use Rattle.circuit_spec.specs.declared.hops.PlaceName.{PlaceName}
use Rattle.circuit_spec.specs.declared.hops.Request.{Request}
use Rattle.circuit_spec.specs.declared.hops.Outcome.{Outcome}
use Rattle.circuit_spec.specs.declared.hops.Outcome.TheVariants as outcome
use Rattle.circuit_spec.specs.declared.hops.Unit.{Unit as DataUnit}
use Rattle.circuit_spec.specs.Network.{Topology, IsClass, IsOpen}
use Rattle.circuit_spec.specs.Steps.{IsOutcome, IsLeastCapped, Step, cost_of, weight_of}
use Rattle.circuit_spec.specs.Kept.{HasKept, IsOverKept}
use Rattle.circuit_spec.specs.Keeping.{Keeping, GivesKeepers}
use Rattle.circuit_spec.specs.Faults.{IsSound, IsKnown}
use Rattle.circuit_spec.specs.Segments.{RootPlace, request, entry, unit_in, IsStart, IsTarget, IsLeastOf, IsWalkOverKept, Generated, start, flat, enter, nest}
use Rattle.circuit_spec.specs.HopRules.{HasSegment}
use Rattle.circuit_spec.specs.CappedOutcome.{IsCappedOutcome}
use Rattle.circuit_spec.proofs.ClassLemmas.{class_of_itself}
use Rattle.circuit_spec.proofs.CappedWeights.{capped_outcome}
use Rattle.circuit_spec.proofs.Generation.{reached_is_generated, segments_keep_rules}
use Rattle.circuit_spec.proofs.KeptWalks.{outcome_kept, segment_walk, walk_segment}
use Rattle.answer_spec.specs.declared.answer.Answer.{Answer}
use Rattle.answer_spec.specs.declared.answer.PotLine.{PotLine}
use Rattle.answer_spec.specs.declared.answer.RootName.{RootName}
use Rattle.answer_spec.specs.declared.answer.RootName.TheVariants as root
use Rattle.answer_spec.specs.Potentials.{root_place, IsListed, IsListedWithin, IsPotential, ArePotentials}
use Rattle.answer_spec.specs.Certificate.{Certificate, AreCarried, Arrives, IsWeighed, IsKeptPlace, IsKeptRoot, IsPlaced, hop_weight, StartsAreListed, RootIsListed, IsExtended, IsOpened, IsNested, IsLeastListed, Agrees}
use Rattle.answer_spec.proofs.Carried.{walk_carried}
use Rattle.answer_spec.specs.Exact.{AreHopsOf, IsExactAnswer}

-- what holds of each item that the list contains holds of all
all_of : {A : Type 0} (P : A → Type 0) (xs : List A) → ((x : A) → Contains xs x → P x) → All P xs
all_of P xs each k d within = each (get_or xs k d) (Contains-get_or xs k d within)

-- ---- the hops

none_carried : (T : Topology) (r : Request) (hops : List Hop) → IsKnown T r → hops ≡ [] → AreCarried T r hops
none_carried T r hops known none = subst (AreCarried T r) (sym none) (known.0.0, known.0.1, (_, refl))

carried : (T : Topology) (r : Request) (o : Outcome) (hops : List Hop) → IsKnown T r → AreHopsOf T r o hops → AreCarried T r hops
carried T r (outcome.Found c n) hops known is = walk_carried T r hops is.0
carried T r outcome.NoWalk hops known is = none_carried T r hops known is
carried T r outcome.Past hops known is = none_carried T r hops known is
carried T r (outcome.Long c n) hops known is = none_carried T r hops known is

arrives : (T : Topology) (r : Request) (o : Outcome) (hops : List Hop) → AreHopsOf T r o hops → Arrives T r o hops
arrives T r (outcome.Found c n) hops is = is.0
arrives T r outcome.NoWalk hops is = tt
arrives T r outcome.Past hops is = tt
arrives T r (outcome.Long c n) hops is = tt

weighed : (T : Topology) (r : Request) (o : Outcome) (hops : List Hop) → IsOutcome T r o → AreHopsOf T r o hops → IsWeighed T o hops
weighed T r (outcome.Found c n) hops out is = (is.1, out.2)
weighed T r outcome.NoWalk hops out is = tt
weighed T r outcome.Past hops out is = tt
weighed T r (outcome.Long c n) hops out is = out.1

-- ---- places

-- the place behind a hop over kept labels
place_behind : (T : Topology) (r : Request) (u : DataUnit) (h : Hop) (y : PlaceName) (stack : List Frame) → IsOverKept T r h → Step T u h (unit_in y stack) → IsKeptPlace T r y
place_behind T r u h y stack kept step =
    let label = sym step.after.same_label in
    let own = class_of_itself T h.to step.to step.enters.is_class in
    record {
      class = step.to;
      named = step.after.same_class;
      is_place = record {
        is_class = subst (λ n. IsClass T n step.to) (sym step.after.same_class) own;
        is_open = subst (IsOpen T step.to) label step.enters.is_open;
      };
      kept = subst (HasKept T r step.to) label (kept.to step.to step.enters.is_class);
    }

-- the place where the request starts
start_place : (T : Topology) (r : Request) (x : PlaceName) → IsStart T r x → IsKeptPlace T r x
start_place T r x is =
    let own = class_of_itself T r.from is.class is.allowed.place.is_class in
    record {
      class = is.class;
      named = is.named;
      is_place = record {
        is_class = subst (λ n. IsClass T n is.class) (sym is.named) own;
        is_open = is.allowed.place.is_open;
      };
      kept = is.kept;
    }

-- the place of a reached pair
generated_place : (T : Topology) (r : Request) (base : RootPlace) (place : PlaceName) → Generated T r base place → IsKeptPlace T r place
generated_place T r base place (start is) = start_place T r place is
generated_place T r base place (flat {x} g h kept step) = place_behind T r (unit_in x []) h place [] kept step
generated_place T r base place (enter {x} g h frame kept step) = place_behind T r (unit_in x []) h place (frame ∷ []) kept step
generated_place T r base place (nest {z} g h frame kept step inner d off_kept off) = place_behind T r (unit_in z (frame ∷ [])) d place [] off_kept off

-- its root
abbrev Root-kept : Topology → Request → RootPlace → Type 0
Root-kept T r request = Unit {0}
Root-kept T r (entry x) = IsKeptPlace T r x

generated_root : (T : Topology) (r : Request) (base : RootPlace) (place : PlaceName) → Generated T r base place → Root-kept T r base
generated_root T r base place (start is) = tt
generated_root T r base place (flat {x} g h kept step) = generated_root T r base x g
generated_root T r base place (enter {x} g h frame kept step) = place_behind T r (unit_in x []) h place (frame ∷ []) kept step
generated_root T r base place (nest {x} g h frame kept step inner d off_kept off) = generated_root T r base x g

kept_root : (T : Topology) (r : Request) (name : RootName) → Root-kept T r (root_place name) → IsKeptRoot T r name
kept_root T r root.Request is = tt
kept_root T r (root.Entry x) is = is

-- ---- the potentials

-- zero is least
above_zero : (w : Weight) → IsCappedAtMost (Known 0 0) w
above_zero (Known c n) = grind (arith, common_steps)
above_zero Past = tt

at_zero : (w : Weight) → IsCappedAtMost w (Known 0 0) → w ≡ Known 0 0
at_zero w low = at_most-antisym w (Known 0 0) low (above_zero w)

module _ (T : Topology) (r : Request) (listed : List PotLine) (pots : ArePotentials T r listed) where
  -- what is listed is the least weight of its pair
  least_of : (name : RootName) (place : PlaceName) (w : Weight) → IsListed listed name place w → IsLeastOf T r (root_place name) place w
  least_of name place w l = All-contains (IsPotential T r) listed (record { root = name; place = place; weight = w }) pots.least l

  -- a pair that has a segment is listed with at most its weight
  within : (name : RootName) (place : PlaceName) (c n : ℕ) → HasSegment T r (root_place name) place c n → IsListedWithin listed name place (cap (full c n))
  within name place c n has =
      let w = pots.reached name place (has.segment, has.is_segment) in
      (w.0, w.1, subst (λ x. IsCappedAtMost w.0 (cap x)) has.weight ((least_of name place w.0 w.1).least has.segment has.is_segment))

  -- and a listed pair has a segment of its weight
  abbrev Has-weight : RootName → PlaceName → Weight → Type 0
  Has-weight name place w = (c : ℕ) × (n : ℕ) × HasSegment T r (root_place name) place c n × (cap (full c n) ≡ w)

  has : (name : RootName) (place : PlaceName) (w : Weight) → IsListed listed name place w → Has-weight name place w
  has name place w l =
      let least = least_of name place w l in
      ((weight_of T least.hops).cost, (weight_of T least.hops).hops, record { segment = least.hops; is_segment = least.segment; weight = refl }, least.weight)

  placed : (p : PotLine) → Contains listed p → IsPlaced T r p
  placed p l =
      let least = least_of p.root p.place p.weight l in
      let g = reached_is_generated T r (root_place p.root) p.place (least.hops, least.segment) in
      (generated_place T r (root_place p.root) p.place g, kept_root T r p.root (generated_root T r (root_place p.root) p.place g))

  zero_listed : (name : RootName) (x : PlaceName) → HasSegment T r (root_place name) x 0 0 → IsListed listed name x (Known 0 0)
  zero_listed name x has =
      let l = within name x 0 0 has in
      subst (IsListed listed name x) (at_zero l.0 l.2) l.1

  starts : StartsAreListed T r listed
  starts x is = zero_listed root.Request x ((segments_keep_rules T r).begins x is)

  root_listed : (name : RootName) (place : PlaceName) (w : Weight) → IsListed listed name place w → RootIsListed listed name
  root_listed root.Request place w l = tt
  root_listed (root.Entry x) place w l =
      let least = least_of (root.Entry x) place w l in
      zero_listed (root.Entry x) x (record { segment = []; is_segment = (least.segment.0, record { run = refl; kept = tt }); weight = refl })

  extended : (p : PotLine) → Contains listed p → IsExtended T r listed p
  extended p l h y goes =
      let s = has p.root p.place p.weight l in
      let more = (segments_keep_rules T r).extends (root_place p.root) p.place s.0 s.1 s.2 h y goes.0 goes.1 in
      let sum = cap-total s.0 s.1 (cost_of T h) 1 ∙ ap (λ w. capped_total w (hop_weight T h)) s.3 in
      subst (IsListedWithin listed p.root y) sum (within p.root y (s.0 + cost_of T h) (s.1 + 1) more)

  opened : (p : PotLine) → Contains listed p → IsOpened T r listed p
  opened p l h frame x goes =
      let s = has p.root p.place p.weight l in
      let more = (segments_keep_rules T r).opens (root_place p.root) p.place s.0 s.1 s.2 h frame x goes.0 goes.1 in
      let own = within (root.Entry x) x 0 0 more in
      (x, own.0, own.1)

  nested : (p : PotLine) → Contains listed p → IsNested T r listed p
  nested p l h frame x goes z inner m d y comes =
      let s = has p.root p.place p.weight l in
      let t = has (root.Entry x) z inner m in
      let more = (segments_keep_rules T r).nests (root_place p.root) p.place s.0 s.1 s.2 h frame x goes.0 goes.1 z t.0 t.1 t.2 d y comes.0 comes.1 in
      let first = cap-total s.0 s.1 (cost_of T h) 1 ∙ ap (λ w. capped_total w (hop_weight T h)) s.3 in
      let second = cap-total (s.0 + cost_of T h) (s.1 + 1) t.0 t.1 ∙ ap (λ w. capped_total w (cap (full t.0 t.1))) first ∙ ap (λ w. capped_total (capped_total p.weight (hop_weight T h)) w) t.3 in
      let third = cap-total (s.0 + cost_of T h + t.0) (s.1 + 1 + t.1) (cost_of T d) 1 ∙ ap (λ w. capped_total w (hop_weight T d)) second in
      subst (IsListedWithin listed p.root y) third (within p.root y (s.0 + cost_of T h + t.0 + cost_of T d) (s.1 + 1 + t.1 + 1) more)

  -- ---- the outcome

  -- what is listed at a place of TO is the weight of a walk
  walk_of : (place : PlaceName) (w : Weight) → IsTarget T r place → IsListed listed root.Request place w → (hops : List Hop) × IsWalkOverKept T r hops × (cap (weight_of T hops) ≡ w)
  walk_of place w target l =
      let least = least_of root.Request place w l in
      (least.hops, segment_walk T r least.hops (place, target, least.segment), least.weight)

  least_listed : (w : Weight) → IsLeastCapped T (IsWalkOverKept T r) w → IsLeastListed T r listed w
  least_listed w out =
      let to = walk_segment T r out.hops out.holds in
      let at = pots.reached root.Request to.0 (out.hops, to.2) in
      let low = subst (IsCappedAtMost at.0) out.weight ((least_of root.Request to.0 at.0 at.1).least out.hops to.2) in
      let lowest : (place : PlaceName) (v : Weight) → IsTarget T r place → IsListed listed root.Request place v → IsCappedAtMost w v =
      λ place v target l. let walk = walk_of place v target l in subst (IsCappedAtMost w) walk.2 (out.least walk.0 walk.1) in
      record {
        place = to.0;
        target = to.1;
        is_listed = subst (IsListed listed root.Request to.0) (at_most-antisym at.0 w low (lowest to.0 at.0 to.1 at.1)) at.1;
        least = lowest;
      }

  agrees : (o : Outcome) → IsCappedOutcome T (IsWalkOverKept T r) o → Agrees T r listed o
  agrees outcome.NoWalk out = λ place w target l. let walk = walk_of place w target l in out walk.0 walk.1
  agrees outcome.Past out = least_listed Past out
  agrees (outcome.Found c n) out = least_listed (Known c n) out.0
  agrees (outcome.Long c n) out = least_listed (Known c n) out.0

pub certified : (T : Topology) (a : Answer) (keeping : Keeping) → IsSound T → GivesKeepers T a.request keeping → IsExactAnswer T a → Certificate T a
certified T a keeping sound gives exact =
    let r = a.request in
    let listed = a.potentials in
    let pots = exact.potentials in
    record {
      known = exact.known;
      carried = carried T r a.outcome a.hops exact.known exact.hops;
      arrives = arrives T r a.outcome a.hops exact.hops;
      weighed = weighed T r a.outcome a.hops exact.outcome exact.hops;
      flagged = exact.flags;
      ruled = exact.rules;
      placed = all_of (IsPlaced T r) listed (placed T r listed pots);
      starts = (starts T r listed pots, all_of (λ (p : PotLine). RootIsListed listed p.root) listed (λ p l. root_listed T r listed pots p.root p.place p.weight l));
      extends = all_of (IsExtended T r listed) listed (extended T r listed pots);
      opens = all_of (IsOpened T r listed) listed (opened T r listed pots);
      nests = all_of (IsNested T r listed) listed (nested T r listed pots);
      agrees = agrees T r listed pots a.outcome (outcome_kept T r keeping sound gives a.outcome (capped_outcome T r a.outcome exact.outcome));
    }
