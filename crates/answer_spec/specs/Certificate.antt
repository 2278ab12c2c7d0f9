-- The certificate of an answer: the rules by which its hops are as they say, and its potentials bound all walks.
--     known, carried, arrives, weighed, flagged, ruled      the request and the hops
--     placed, starts, extends, opens, nests      the potentials, among the hops over kept labels
--     agrees      the outcome and the potentials
use Rattle.std.specs.Prelude.{◌≡◌, ◌<◌, ◌≤◌, ℕ, List, [], ◌∷◌, Option, None, Some}
use Rattle.std.specs.List.{All}
use Rattle.ml_base.specs.declared.weight.Weight.{Weight}
use Rattle.ml_base.specs.declared.weight.Weight.TheVariants.{Known}
use Rattle.ml_base.specs.declared.weight.Weight.TheVariants as weight
use Rattle.ml_base.specs.declared.numbers.Wish.{Wish}
use Rattle.ml_base.specs.declared.numbers.Wish.TheVariants.{Any, Value}
use Rattle.ml_base.specs.Weight.{IsCappedAtMost, cap, capped_total}
use Rattle.circuit_spec.specs.declared.hops.Frame.{Frame}
use Rattle.circuit_spec.specs.declared.hops.Hop.{Hop}
use Rattle.circuit_spec.specs.declared.hops.PlaceName.{PlaceName}
use Rattle.circuit_spec.specs.declared.hops.Request.{Request}
use Rattle.circuit_spec.specs.declared.hops.Outcome.{Outcome}
use Rattle.circuit_spec.specs.declared.hops.Outcome.TheVariants.{Found, NoWalk, Past, Long}
use Rattle.circuit_spec.specs.declared.hops.TheConstants.{HOP_LIMIT}
use Rattle.circuit_spec.specs.declared.hops.Unit.{Unit as DataUnit}
use Rattle.circuit_spec.specs.Network.{Tag, Topology, Port, IsClass, IsPlace}
use Rattle.circuit_spec.specs.Steps.{Step, Run, Walk, cost_of, weight_of}
use Rattle.circuit_spec.specs.Flags.{AreFlags}
use Rattle.circuit_spec.specs.Kept.{HasKept, IsOverKept}
use Rattle.circuit_spec.specs.Segments.{unit_in, IsStart, IsTarget}
use Rattle.circuit_spec.specs.Faults.{IsKnown}
use Rattle.device_rules.specs.Numbering.{AreRulesOf}
use Rattle.answer_spec.specs.declared.answer.Answer.{Answer}
use Rattle.answer_spec.specs.declared.answer.PotLine.{PotLine}
use Rattle.answer_spec.specs.declared.answer.RootName.{RootName}
use Rattle.answer_spec.specs.declared.answer.RootName.TheVariants as root
use Rattle.answer_spec.specs.Potentials.{IsListed, IsListedWithin}

-- ---- the hops

-- the label with which hops begin: the stated one, or else that of the first hop
abbrev pub first_label : Wish → List Hop → Tag
first_label (Value label) hops = Some label
first_label Any [] = None
first_label Any (h ∷ hops) = h.from_label

-- the place where hops begin, at the class of FROM
abbrev pub first_place : Port → Request → List Hop → PlaceName
first_place class r hops = record { class = class.id; label = first_label r.from_wish hops }

-- from there, with the empty stack, each hop takes the unit that the hops before it left
abbrev pub AreCarried : Topology → Request → List Hop → Type 0
AreCarried T r hops = (class : Port) × IsClass T r.from class × ((end : DataUnit) × Run T (unit_in (first_place class r hops) []) hops end)

-- what is found is a walk
abbrev pub Arrives : Topology → Request → Outcome → List Hop → Type 0
Arrives T r (Found cost hops) list = Walk T r list
Arrives T r NoWalk list = Unit {0}
Arrives T r Past list = Unit {0}
Arrives T r (Long cost hops) list = Unit {0}

-- what is found has the stated weight, within the hop limit; what is long is over the limit
abbrev pub IsWeighed : Topology → Outcome → List Hop → Type 0
IsWeighed T (Found cost hops) list = (weight_of T list ≡ record { cost = cost; hops = hops }) × (hops ≤ HOP_LIMIT)
IsWeighed T NoWalk list = Unit {0}
IsWeighed T Past list = Unit {0}
IsWeighed T (Long cost hops) list = HOP_LIMIT < hops

-- the flags are those of the hops
abbrev pub AreFlagged : Topology → Request → List Hop → List (Option ℕ) → Type 0
AreFlagged T r hops flags = (class : Port) × IsClass T r.from class × AreFlags T (first_place class r hops) hops flags

-- ---- the potentials

-- the place names its class, is open, and has a kept label or none
pub record IsKeptPlace (T : Topology) (r : Request) (place : PlaceName) : Type 0 where
  pub class : Port
  pub named : place.class ≡ class.id
  pub is_place : IsPlace T place.class place.label class
  pub kept : HasKept T r class place.label

-- the root is the request, or such a place
abbrev pub IsKeptRoot : Topology → Request → RootName → Type 0
IsKeptRoot T r root.Request = Unit {0}
IsKeptRoot T r (root.Entry place) = IsKeptPlace T r place

-- the potential is of such a place and root
abbrev pub IsPlaced : Topology → Request → PotLine → Type 0
IsPlaced T r p = IsKeptPlace T r p.place × IsKeptRoot T r p.root

-- the hop is over kept labels, and leads from the one place to the other with the empty stack at both
abbrev pub Keeps : Topology → Request → PlaceName → Hop → PlaceName → Type 0
Keeps T r x h y = IsOverKept T r h × Step T (unit_in x []) h (unit_in y [])

-- so does this one, and puts the frame on
abbrev pub Puts : Topology → Request → PlaceName → Hop → Frame → PlaceName → Type 0
Puts T r x h frame y = IsOverKept T r h × Step T (unit_in x []) h (unit_in y (frame ∷ []))

-- and this one takes the frame off
abbrev pub Takes : Topology → Request → PlaceName → Hop → Frame → PlaceName → Type 0
Takes T r x h frame y = IsOverKept T r h × Step T (unit_in x (frame ∷ [])) h (unit_in y [])

-- the weight of a hop
abbrev pub hop_weight : Topology → Hop → Weight
hop_weight T h = cap (record { cost = cost_of T h; hops = 1 })

-- each start place is listed under the request with weight zero
abbrev pub StartsAreListed : Topology → Request → List PotLine → Type 0
StartsAreListed T r listed = (x : PlaceName) → IsStart T r x → IsListed listed root.Request x (Known 0 0)

-- the root, if it is a place, is listed at itself with weight zero
abbrev pub RootIsListed : List PotLine → RootName → Type 0
RootIsListed listed root.Request = Unit {0}
RootIsListed listed (root.Entry x) = IsListed listed (root.Entry x) x (Known 0 0)

-- start places and roots are listed with weight zero
abbrev pub BeginAtZero : Topology → Request → List PotLine → Type 0
BeginAtZero T r listed = StartsAreListed T r listed × All (λ (p : PotLine). RootIsListed listed p.root) listed

-- each hop that keeps the stack leads from the potential to a place that is listed with at most the sum
abbrev pub IsExtended : Topology → Request → List PotLine → PotLine → Type 0
IsExtended T r listed p = (h : Hop) (y : PlaceName) → Keeps T r p.place h y → IsListedWithin listed p.root y (capped_total p.weight (hop_weight T h))

-- some pair has the place as its root
abbrev pub IsListedRoot : List PotLine → PlaceName → Type 0
IsListedRoot listed x = (y : PlaceName) × (weight : Weight) × IsListed listed (root.Entry x) y weight

-- each adaptation leads from the potential to a listed root
abbrev pub IsOpened : Topology → Request → List PotLine → PotLine → Type 0
IsOpened T r listed p = (h : Hop) (frame : Frame) (x : PlaceName) → Puts T r p.place h frame x → IsListedRoot listed x

-- Each adaptation, listed pair of the root that it enters and deadaptation that takes the frame off again lead from the potential to
-- a place that is listed with at most the sum of the four weights.
abbrev pub IsNested : Topology → Request → List PotLine → PotLine → Type 0
IsNested T r listed p =
    (h : Hop) (frame : Frame) (x : PlaceName) → Puts T r p.place h frame x
    → (z : PlaceName) (inner : Weight) → IsListed listed (root.Entry x) z inner
    → (d : Hop) (y : PlaceName) → Takes T r z d frame y
    → IsListedWithin listed p.root y (capped_total (capped_total (capped_total p.weight (hop_weight T h)) inner) (hop_weight T d))

-- ---- the outcome and the potentials

-- the least weight that is listed under the request at an allowed place of TO
pub record IsLeastListed (T : Topology) (r : Request) (listed : List PotLine) (w : Weight) : Type 0 where
  pub place : PlaceName
  pub target : IsTarget T r place
  pub is_listed : IsListed listed root.Request place w
  pub least : (other : PlaceName) (weight : Weight) → IsTarget T r other → IsListed listed root.Request other weight → IsCappedAtMost w weight

-- no such place is listed where there is no walk; else the least weight is the stated one, or past
abbrev pub Agrees : Topology → Request → List PotLine → Outcome → Type 0
Agrees T r listed NoWalk = (place : PlaceName) (weight : Weight) → IsTarget T r place → ¬ IsListed listed root.Request place weight
Agrees T r listed Past = IsLeastListed T r listed weight.Past
Agrees T r listed (Found cost hops) = IsLeastListed T r listed (Known cost hops)
Agrees T r listed (Long cost hops) = IsLeastListed T r listed (Known cost hops)

-- ---- the certificate

pub record Certificate (T : Topology) (a : Answer) : Type 0 where
  -- the ends are ports, and their stated labels are there
  pub known : IsKnown T a.request
  -- each hop takes the unit that the hops before it left
  pub carried : AreCarried T a.request a.hops
  -- what is found is a walk
  pub arrives : Arrives T a.request a.outcome a.hops
  -- the stated weight is that of the hops, and the limit is kept
  pub weighed : IsWeighed T a.outcome a.hops
  -- the flags are those of the hops
  pub flagged : AreFlagged T a.request a.hops a.flags
  -- the rules are those of the hops
  pub ruled : AreRulesOf a.hops a.rules
  -- listed places and roots name their classes, are open and have kept labels or none
  pub placed : All (IsPlaced T a.request) a.potentials
  -- start places and roots are listed with weight zero
  pub starts : BeginAtZero T a.request a.potentials
  -- a hop that keeps the stack leads on, with at most the sum
  pub extends : All (IsExtended T a.request a.potentials) a.potentials
  -- an adaptation leads to a listed root
  pub opens : All (IsOpened T a.request a.potentials) a.potentials
  -- an adaptation, what is listed under the root that it enters, and the deadaptation lead on, with at most the sum
  pub nests : All (IsNested T a.request a.potentials) a.potentials
  -- the outcome is the least weight listed at an allowed place of TO
  pub agrees : Agrees T a.request a.potentials a.outcome
