-- Which answers are well formed: the numbers and texts are those of the types, and the lists are in order.
use Rattle.std.specs.Prelude.{◌≡◌, ℕ, suc, ◌<◌, ◌≤◌, ◌^◌, List, [], ◌∷◌, Bool, true, false, ◌&&◌, ◌||◌, IsTrue, Option, Some, None, IfSome}
use Rattle.ml_base.specs.declared.weight.Weight.{Weight}
use Rattle.ml_base.specs.declared.weight.Weight.TheVariants.{Known, Past}
use Rattle.ml_base.specs.declared.numbers.Wish.{Wish}
use Rattle.ml_base.specs.declared.numbers.Wish.TheVariants.{Any, Value}
use Rattle.circuit_spec.specs.declared.hops.Hop.{Hop}
use Rattle.circuit_spec.specs.declared.hops.Request.{Request}
use Rattle.circuit_spec.specs.declared.hops.PlaceName.{PlaceName}
use Rattle.circuit_spec.specs.declared.hops.Outcome.{Outcome}
use Rattle.circuit_spec.specs.declared.hops.Outcome.TheVariants as outcome
use Rattle.place_names.specs.Names.{is_id, IsTag, is_place_below}
use Rattle.circuit_spec.specs.Flags.{same_place}
use Rattle.device_rules.specs.Rules.{Start, AreLaidOut}
use Rattle.answer_spec.specs.declared.answer.Answer.{Answer}
use Rattle.answer_spec.specs.declared.answer.PotLine.{PotLine}
use Rattle.answer_spec.specs.declared.answer.RootName.{RootName}
use Rattle.answer_spec.specs.declared.answer.RootName.TheVariants as root

abbrev pub IsWish : Wish → Type 0
IsWish Any = Unit {0}
IsWish (Value label) = label < 2 ^ 32

-- the cost is below 2 ^ 64, the hops are at most 2 ^ 40
abbrev pub IsWeight : Weight → Type 0
IsWeight (Known cost hops) = (cost < 2 ^ 64) × (hops ≤ 2 ^ 40)
IsWeight Past = Unit {0}

abbrev pub IsId : List ℕ → Type 0
IsId word = IsTrue (is_id word)

pub record IsRequest (r : Request) : Type 0 where
  pub from : IsId r.from
  pub from_wish : IsWish r.from_wish
  pub to : IsId r.to
  pub to_wish : IsWish r.to_wish

abbrev pub IsOutcome : Outcome → Type 0
IsOutcome (outcome.Found cost hops) = (cost < 2 ^ 64) × (hops ≤ 2 ^ 40)
IsOutcome outcome.NoWalk = Unit {0}
IsOutcome outcome.Past = Unit {0}
IsOutcome (outcome.Long cost hops) = (cost < 2 ^ 64) × (hops ≤ 2 ^ 40)

pub record IsHop (n : ℕ) (h : Hop) (flag : Option ℕ) : Type 0 where
  pub number : n < 2 ^ 64
  pub element : IsId h.element
  pub from : IsId h.from
  pub from_label : IsTag h.from_label
  pub to : IsId h.to
  pub to_label : IsTag h.to_label
  pub domain : IsId h.domain
  pub flagged : IfSome flag (λ j. j < 2 ^ 64)

-- one flag per hop
abbrev pub AreHops : ℕ → List Hop → List (Option ℕ) → Type 0
AreHops n [] [] = Unit {0}
AreHops n [] (flag ∷ flags) = ⊥
AreHops n (h ∷ hs) [] = ⊥
AreHops n (h ∷ hs) (flag ∷ flags) = IsHop n h flag × AreHops (suc n) hs flags

abbrev pub IsPlace : PlaceName → Type 0
IsPlace place = IsId place.class × IsTag place.label

abbrev pub IsRoot : RootName → Type 0
IsRoot root.Request = Unit {0}
IsRoot (root.Entry place) = IsPlace place

pub record IsPot (p : PotLine) : Type 0 where
  pub root : IsRoot p.root
  pub place : IsPlace p.place
  pub weight : IsWeight p.weight

-- those of the request first; then by root; then by place
abbrev pub is_pot_below : RootName → PlaceName → RootName → PlaceName → Bool
is_pot_below root.Request p root.Request q = is_place_below p q
is_pot_below root.Request p (root.Entry s) q = true
is_pot_below (root.Entry r) p root.Request q = false
is_pot_below (root.Entry r) p (root.Entry s) q = is_place_below r s || (same_place r s && is_place_below p q)

-- the potential that stands before, if there is one
abbrev pub may_follow_pot : Option PotLine → PotLine → Bool
may_follow_pot None p = true
may_follow_pot (Some last) p = is_pot_below last.root last.place p.root p.place

abbrev pub ArePots : Option PotLine → List PotLine → Type 0
ArePots last [] = Unit {0}
ArePots last (p ∷ ps) = IsPot p × IsTrue (may_follow_pot last p) × ArePots (Some p) ps

-- hops and rules stand only where the outcome is found
abbrev pub IsBody : Outcome → Answer → Type 0
IsBody (outcome.Found cost hops) a = AreHops 1 a.hops a.flags × AreLaidOut Start a.rules × ArePots None a.potentials
IsBody outcome.NoWalk a = (a.hops ≡ []) × (a.flags ≡ []) × (a.rules ≡ []) × ArePots None a.potentials
IsBody outcome.Past a = (a.hops ≡ []) × (a.flags ≡ []) × (a.rules ≡ []) × ArePots None a.potentials
IsBody (outcome.Long cost hops) a = (a.hops ≡ []) × (a.flags ≡ []) × (a.rules ≡ []) × ArePots None a.potentials

pub record IsWellFormed (a : Answer) : Type 0 where
  pub request : IsRequest a.request
  pub outcome : IsOutcome a.outcome
  pub body : IsBody a.outcome a
