-- The lines of the potentials of a machine are the potentials of its request.
use Rattle.std.proofs.Common.{◌≡◌, ◌∙◌, sym, ap, subst, ℕ, ◌+◌, ◌<◌, List, length, get_or, take, arith, Contains}
use Rattle.std.specs.List.{All, AllByRecursion}
use Rattle.std.proofs.lemmas.List.Elements.{All-contains_itself, All-weaker, recursion_from_All}
use Rattle.std.proofs.lemmas.Option.{slice_get-get_or, slice_get_within}
use Rattle.ml_base.specs.Weight.{FullWeight, cap}
use Rattle.ml_base.specs.declared.numbers.Root.{Root}
use Rattle.ml_base.specs.declared.numbers.Root.TheVariants as root
use Rattle.ml_base.specs.declared.weight.Weight.{Weight}
use Rattle.ml_base.specs.declared.weight.Weight.TheVariants.{Known, Past}
use Rattle.ml_base.proofs.Lists.{same_at}
use Rattle.adapt_machine.specs.Walks.{full_weight_of}
use Rattle.segment_grammar.specs.declared.potentials.Pot.{Pot}
use Rattle.segment_grammar.specs.Pots.{IsRising, pot}
use Rattle.segment_grammar.proofs.Places.{at_contains, contains_at}
use Rattle.circuit_spec.specs.declared.hops.PlaceName.{PlaceName}
use Rattle.circuit_spec.specs.declared.hops.Request.{Request}
use Rattle.circuit_spec.specs.Network.{Topology}
use Rattle.circuit_spec.specs.Segments.{RootPlace, request, entry, IsLeastOf, IsReached}
use Rattle.circuit_spec.proofs.CappedWeights.{cap_known}
use Rattle.answer_spec.specs.declared.answer.PotLine.{PotLine}
use Rattle.answer_spec.specs.declared.answer.RootName.{RootName}
use Rattle.answer_spec.specs.Ordered.{IsShort}
use Rattle.answer_spec.specs.Potentials.{root_place, ArePotentials, IsListed, IsPotential}
use Rattle.knuth_search.specs.Derived.{IsPotWithin, IsRootWithin}
use Rattle.knuth_search.specs.Settled.{ArePotentials as AreMachinePotentials}
use Rattle.machine_build.specs.Built.{BuiltValue, IsState}
use Rattle.machine_lift.specs.Lift.{AreLifted, IsMachineOf, IsRootAt}
use Rattle.machine_lift.proofs.Lifted.{lifted, paired}
use Rattle.machine_lift.proofs.Weights.{least, reached_back}
use Rattle.potential_lift.specs.Lines.{AddsLine, AreLinesOf, AreWithin, IsLineOf}
use Rattle.potential_lift.proofs.Below.{in_order, one_root}
use Rattle.potential_lift.proofs.Zipped.{zip_first, zip_more, zip_second}

-- the line of the next pair
pub line_more : (b : BuiltValue) (pots : List Pot) (i : ℕ) (p : Pot) (old new : List PotLine) → i < length pots → AreLinesOf b (take i pots) old → AddsLine b (get_or pots i p) old new → AreLinesOf b (take (i + 1) pots) new
line_more b pots i p old new low are adds = subst (AreLinesOf b (take (i + 1) pots)) (sym adds.added) (zip_more (IsLineOf b) pots i p old adds.line low are adds.is_line)

short : (full : FullWeight) (w : Weight) → cap full ≡ w → IsShort w
short full (Known cost hops) e = let k = cap_known full cost hops e in omega (arith, k.2)
short full Past e = tt

root_within : (b : BuiltValue) (r : Root) (at : RootPlace) → IsRootAt b r at → IsRootWithin (length b.places) r
root_within b root.Request at is = tt
root_within b (root.Entry s) request is = absurd is
root_within b (root.Entry s) (entry place) is = slice_get_within b.places s.0 place is

module _ (T : Topology) (r : Request) (b : BuiltValue) (m : IsMachineOf T r b) (pots : List Pot) (are : AreMachinePotentials b.machine.steps b.starts pots) where
  are_lifted : AreLifted T r b
  are_lifted = lifted T r m.table m.kept b m.built

  pot_within : (p : Pot) → Contains pots p → IsPotWithin (length b.places) p
  pot_within p c =
      let is = are.least p c in
      let on = (paired T r b m).places p.root p.state (is.segment, is.is_segment) in
      record { state = slice_get_within b.places p.state.0 on.1 on.3; root = root_within b p.root on.0 on.2 }

  pub within : AreWithin b pots
  within = All-weaker (Contains pots) (IsPotWithin (length b.places)) pot_within pots (All-contains_itself pots)

  pot_short : (p : Pot) → Contains pots p → IsShort p.weight
  pot_short p c = let is = are.least p c in short (full_weight_of b.machine.steps is.segment) p.weight is.weight

  weights_short : AllByRecursion (λ (p : Pot). IsShort p.weight) pots
  weights_short = recursion_from_All (λ (p : Pot). IsShort p.weight) pots (All-weaker (Contains pots) (λ (p : Pot). IsShort p.weight) pot_short pots (All-contains_itself pots))

  module _ (lines : List PotLine) (lines_are : AreLinesOf b pots lines) where
    line_least : (p : Pot) (l : PotLine) → IsLineOf b p l → Contains pots p → IsPotential T r l
    line_least p l is c =
        subst (λ w. IsLeastOf T r (root_place l.root) l.place w) (sym is.weight) (least T r b are_lifted p.root (root_place l.root) p.state l.place is.root is.place p.weight (are.least p c))

    lines_least : All (IsPotential T r) lines
    lines_least = λ k d low.
        let of = zip_first (IsLineOf b) pots lines k (get_or lines k d) lines_are (slice_get-get_or lines k d low) in
        line_least of.0 (get_or lines k d) of.2 (contains_at pots k of.0 of.1)

    abbrev line_of : RootName → PlaceName → Weight → PotLine
    line_of name place weight = record { root = name; place = place; weight = weight }

    -- the line of a listed pair is that of any root and place at the pair
    line_listed : (p : Pot) → Contains pots p → (name : RootName) (place : PlaceName) → IsRootAt b p.root (root_place name) → IsState b p.state place → (w : Weight) × IsListed lines name place w
    line_listed p c name place root_is place_is =
        let at = at_contains pots p c in
        let line = zip_second (IsLineOf b) pots lines at.0 p lines_are at.2 in
        let same_root = one_root b m.built.rise p.root line.0.root name line.2.root root_is in
        let same_place = same_at b.places p.state.0 line.0.place place line.2.place place_is in
        let same : line.0 ≡ line_of name place line.0.weight = ap (λ n. line_of n line.0.place line.0.weight) same_root ∙ ap (λ x. line_of name x line.0.weight) same_place in
        (line.0.weight, subst (λ l. Contains lines l) same (contains_at lines at.0 line.0 line.1))

    all_reached : (name : RootName) (place : PlaceName) → IsReached T r (root_place name) place → (w : Weight) × IsListed lines name place w
    all_reached name place is =
        let of = (paired T r b m).states (root_place name) place is in
        let back = are.all of.0 of.1 (reached_back T r b are_lifted of.0 (root_place name) of.1 place of.2 of.3 is) in
        line_listed (pot of.0 of.1 back.0) back.1 name place of.2 of.3

    pub listed : IsRising pots → ArePotentials T r lines
    listed rising = record {
      least = lines_least;
      reached = all_reached;
      in_order = in_order b m.built.rise pots lines lines_are rising weights_short;
    }
