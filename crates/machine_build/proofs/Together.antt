-- The machine of a network, put together.
use Rattle.std.proofs.Common.{◌≡◌, ◌≢◌, ℕ, ◌<◌, List, [], Some, map, length, refl, sym, ◌∙◌, ap, subst}
use Rattle.std.specs.Prelude.{slice_get}
use Rattle.std.proofs.Math.ListN.{get_or}
use Rattle.std.proofs.lemmas.Option.{slice_get-get_or, slice_get_within}
use Rattle.nml_elements.specs.declared.elements.Element.{Element}
use Rattle.nml_elements.specs.declared.elements.Element.TheVariants as element
use Rattle.ml_base.specs.declared.numbers.StateNo.{StateNo}
use Rattle.ml_base.proofs.Lists.{contains_at}
use Rattle.circuit_spec.specs.declared.hops.Frame.{Frame}
use Rattle.circuit_spec.specs.declared.hops.PlaceName.{PlaceName}
use Rattle.circuit_spec.specs.declared.hops.Request.{Request}
use Rattle.circuit_spec.specs.Faults.{duplicate_ids}
use Rattle.circuit_spec.specs.Network.{Tag, Topology, Port, IsClass}
use Rattle.kept_table.specs.Table.{KeptOfType}
use Rattle.open_places.specs.Places.{ArePlaces, IsStatePlace, PlacesValue}
use Rattle.adapt_machine.specs.declared.MachineKind.{MachineKind}
use Rattle.adapt_machine.specs.declared.MachineKind.TheVariants.{Flat, Push, Pop}
use Rattle.adapt_machine.specs.declared.MachineStep.{MachineStep}
use Rattle.adapt_machine.specs.Machine.{IsStepWithin, MachineValue}
use Rattle.machine_build.specs.declared.built.Site.{Site}
use Rattle.machine_build.specs.declared.ways.Move.{Move}
use Rattle.machine_build.specs.Adding.{AreMoves}
use Rattle.machine_build.specs.Built.{AreAllowed, IsBuilt}
use Rattle.machine_build.specs.Frames.{AreApart, IsFramed, step_kind}
use Rattle.machine_build.specs.Ways.{AreOpen, HaveSpans, IsDone, IsWay, site_of, step_by, step_of, way_of}
use Rattle.machine_build.proofs.Hops.{a_hop, hop_once, hop_sound, hop_there}
use Rattle.machine_build.proofs.Items.{at_mapped}

-- the places of states are open
pub are_open : (T : Topology) (table : List KeptOfType) (v : PlacesValue) → ArePlaces T table v → AreOpen T v.places
are_open T table v are state place at =
    let s : IsStatePlace T table place = (are.are place).0 (contains_at v.places state place at) in
    (s.class, sym s.named, record { is_class = subst (λ id. IsClass T id s.class) (sym s.named) s.is_class; is_open = s.is_open })

pub have_spans : (T : Topology) (table : List KeptOfType) (v : PlacesValue) → ArePlaces T table v → HaveSpans T v
have_spans T table v are = record { rise = are.rise; long = are.long; spans_are = are.spans_are }

-- The numbers of steps are those of states and frames

frame_within : (frames : List Frame) (e : Element) (class : Port) (label : Tag) (number : ℕ) → step_kind e ≢ Flat → IsFramed frames e class label number → number < length frames
frame_within frames (element.Adaptation a) class label number moves f = slice_get_within frames number _ f
frame_within frames (element.Deadaptation a) class label number moves f = slice_get_within frames number _ f
frame_within frames (element.Link l) class label number moves f = absurd (moves refl)
frame_within frames (element.Switching s) class label number moves f = absurd (moves refl)
frame_within frames (element.Conversion c) class label number moves f = absurd (moves refl)
frame_within frames (element.Node n) class label number moves f = absurd (moves refl)
frame_within frames (element.Port p) class label number moves f = absurd (moves refl)

within_by : (states many : ℕ) (k : MachineKind) (m : Move) → m.effect.kind ≡ k → m.near.state.0 < states → m.far.state.0 < states → (m.effect.kind ≢ Flat → m.effect.frame.0 < many) → IsStepWithin states many (step_by k m)
within_by states many Flat m e near far frame = record { from = near; to = far; frame = λ other. absurd (other refl) }
within_by states many Push m e near far frame = record { from = near; to = far; frame = λ other. frame (λ flat. other (sym e ∙ flat)) }
within_by states many Pop m e near far frame = record { from = far; to = near; frame = λ other. frame (λ flat. other (sym e ∙ flat)) }

pub steps_within : (T : Topology) (places : List PlaceName) (frames : List Frame) (moves : List Move) (states many : ℕ) → AreMoves T places frames moves → states ≡ length places → many ≡ length frames → (steps : List MachineStep) → steps ≡ map step_of moves
    → (k : ℕ) (d : MachineStep) → k < length steps → IsStepWithin states many (get_or steps k d)
steps_within T places frames moves states many adds states_are many_are steps steps_are k d within =
    let found = at_mapped step_of moves k (get_or steps k d) (subst (λ l. slice_get l k ≡ Some (get_or steps k d)) steps_are (slice_get-get_or steps k d within)) in
    let m : Move = found.0 in
    let at : slice_get adds.more k ≡ Some m = subst (λ l. slice_get l k ≡ Some m) adds.whole found.1 in
    let way : IsWay T places (way_of m) = adds.only k m at in
    let does : IsDone T places frames m = adds.done k m at in
    subst (IsStepWithin states many) (sym found.2) (within_by states many m.effect.kind m refl
    (subst (λ n. m.near.state.0 < n) (sym states_are) (slice_get_within places m.near.state.0 way.leaves way.near.place_at))
    (subst (λ n. m.far.state.0 < n) (sym states_are) (slice_get_within places m.far.state.0 way.enters way.far.place_at))
    (λ other. subst (λ n. m.effect.frame.0 < n) (sym many_are) (frame_within frames does.placed.element does.effect.class does.place.label m.effect.frame.0 (λ e. other (does.effect.kind_is ∙ e)) does.effect.framed)))

pub is_built : (T : Topology) (table : List KeptOfType) (r : Request) → duplicate_ids T ≡ [] → (v : PlacesValue) → ArePlaces T table v → (frames : List Frame) → AreApart frames → (moves : List Move) → AreMoves T v.places frames moves
    → (states many : ℕ) → states ≡ length v.places → many ≡ length frames → (machine : MachineValue) (steps : List MachineStep) (sites : List Site) (starts targets : List StateNo) → machine ≡ record { states = states; frames = many; steps = steps } → steps ≡ map step_of moves → sites ≡ map site_of moves
    → AreAllowed T v.places r.from r.from_wish starts → AreAllowed T v.places r.to r.to_wish targets
    → IsBuilt T table r (record { machine = machine; places = v.places; sites = sites; starts = starts; targets = targets })
is_built T table r none v are frames apart moves adds states many states_are many_are machine steps sites starts targets machine_is steps_by sites_are from_are to_are =
    let steps_are = ap (λ (m : MachineValue). m.steps) machine_is ∙ steps_by in
    let opened = are_open T table v are in
    record {
      frames = frames;
      states = ap (λ (m : MachineValue). m.states) machine_is ∙ states_are;
      framed = ap (λ (m : MachineValue). m.frames) machine_is ∙ many_are;
      frames_differ = apart;
      rise = are.rise;
      places_are = are.are;
      hop = a_hop T none v.places are.rise opened frames moves adds machine sites starts targets steps_are sites_are;
      sound = hop_sound T none v.places are.rise opened frames moves adds machine sites starts targets steps_are sites_are;
      complete = λ x y s u h is_x is_y step. hop_there T none v.places are.rise opened frames moves adds machine sites starts targets steps_are sites_are x y s u h ((are.are x).1 is_x) ((are.are y).1 is_y) step;
      once = hop_once T none v.places are.rise opened frames moves adds machine sites starts targets steps_are sites_are;
      starts_are = from_are;
      targets_are = to_are;
    }
