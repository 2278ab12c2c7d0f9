-- Where the hops of a walk begin, and what is a walk by where they end.
use Rattle.std.proofs.Common.{◌≡◌, ℕ, List, [], ◌∷◌, Option, refl, sym, ◌∙◌, ap, subst}
use Rattle.ml_base.specs.declared.numbers.Wish.{Wish}
use Rattle.ml_base.specs.declared.numbers.Wish.TheVariants.{Any, Value}
use Rattle.circuit_spec.specs.declared.hops.Hop.{Hop}
use Rattle.circuit_spec.specs.declared.hops.Request.{Request}
use Rattle.circuit_spec.specs.declared.hops.Unit.{Unit as DataUnit}
use Rattle.circuit_spec.specs.Network.{Name, Tag, Topology, Port, IsClass, IsOpen, Linked, ports}
use Rattle.circuit_spec.specs.Steps.{IsAllowed, IsWished, Ends, Joins, Run, Walk, unit_at}
use Rattle.circuit_spec.specs.Flags.{AreFlags, flags_after}
use Rattle.circuit_spec.specs.Faults.{IsKnown, IsHere, IsKnownEnd}
use Rattle.circuit_spec.specs.Segments.{unit_in}
use Rattle.circuit_spec.proofs.ClassLemmas.{First-unique, same_class}
use Rattle.answer_spec.specs.Certificate.{first_label, AreCarried, AreFlagged}
use Rattle.answer_spec.specs.Arriving.{start_of, EndAllowed}

-- the hops of a walk begin with the label of its start
pub begins_with : (T : Topology) (wish : Wish) (class : Port) (label : Tag) (h : Hop) (hops : List Hop) (end : DataUnit) → IsWished wish label
    → Run T (unit_in (record { class = class.id; label = label }) []) (h ∷ hops) end → label ≡ first_label wish (h ∷ hops)
begins_with T (Value n) class label h hops end wished run = wished
begins_with T Any class label h hops end wished run = run.1.before.same_label

pub walk_carried : (T : Topology) (r : Request) (hops : List Hop) → Walk T r hops → AreCarried T r hops
walk_carried T r [] (ends, run) = (ends.from, ends.from_allowed.place.is_class, (_, refl))
walk_carried T r (h ∷ hops) (ends, run) =
    let end = unit_at ends.to ends.to_label [] in
    let P : Tag → Type 0 = λ label. Run T (unit_at ends.from label []) (h ∷ hops) end in
    let same = begins_with T r.from_wish ends.from ends.from_label h hops end ends.from_allowed.wished run in
    (ends.from, ends.from_allowed.place.is_class, (end, subst P same run))

-- Flags from where a walk begins are those of its hops.
pub walk_flagged : (T : Topology) (r : Request) (hops : List Hop) (flags : List (Option ℕ)) (ends : Ends T r) → Joins ends hops [] → AreFlags T (start_of ends) hops flags → AreFlagged T r hops flags
walk_flagged T r [] flags ends run are =
    (ends.from, ends.from_allowed.place.is_class, ([], refl, are.2 ∙ ap (flags_after (start_of ends ∷ [])) are.1))
walk_flagged T r (h ∷ hops) flags ends run are =
    let P : Tag → Type 0 = λ label. AreFlags T (record { class = ends.from.id; label = label }) (h ∷ hops) flags in
    let same = begins_with T r.from_wish ends.from ends.from_label h hops (unit_at ends.to ends.to_label []) ends.from_allowed.wished run in
    (ends.from, ends.from_allowed.place.is_class, subst P same are)

-- Hops that begin at the first place of a known request and end at an allowed place of TO with the empty stack are a walk.

begins_allowed : (T : Topology) (port : Name) (wish : Wish) (class : Port) (h : Hop) (hops : List Hop) (end : DataUnit) → IsKnownEnd T port wish → IsClass T port class
    → Run T (unit_at class (first_label wish (h ∷ hops)) []) (h ∷ hops) end → IsAllowed T port wish class (first_label wish (h ∷ hops))
begins_allowed T port (Value n) class h hops end known first run =
    let same = First-unique (λ q. Linked T port q.id) (ports T) known.0 class known.1 first in
    record { place = record { is_class = first; is_open = subst (λ c. IsHere T c (Value n)) same known.2 }; wished = refl }
begins_allowed T port Any class h hops end known first run =
    let step = run.1 in
    let same = same_class T h.from port step.from class step.leaves.is_class first (sym step.before.same_class) in
    record { place = record { is_class = first; is_open = subst (λ c. IsOpen T c h.from_label) same step.leaves.is_open }; wished = tt }

pub arrived : (T : Topology) (r : Request) (class : Port) (h : Hop) (hops : List Hop) → IsKnown T r → IsClass T r.from class → EndAllowed T r class (h ∷ hops) → Walk T r (h ∷ hops)
arrived T r class h hops known first (to, label, allowed, run) = (
  record {
    from = class;
    from_label = first_label r.from_wish (h ∷ hops);
    to = to;
    to_label = label;
    from_allowed = begins_allowed T r.from r.from_wish class h hops (unit_at to label []) known.0 first run;
    to_allowed = allowed;
  },
  run,
)

-- And the hops of a walk do so.
pub ends_allowed : (T : Topology) (r : Request) (class : Port) (h : Hop) (hops : List Hop) → IsClass T r.from class → Walk T r (h ∷ hops) → EndAllowed T r class (h ∷ hops)
ends_allowed T r class h hops first (ends, run) =
    let end = unit_at ends.to ends.to_label [] in
    let P : Tag → Type 0 = λ label. Run T (unit_at ends.from label []) (h ∷ hops) end in
    let Q : Port → Type 0 = λ from. Run T (unit_at from (first_label r.from_wish (h ∷ hops)) []) (h ∷ hops) end in
    let label = begins_with T r.from_wish ends.from ends.from_label h hops end ends.from_allowed.wished run in
    let from = First-unique (λ q. Linked T r.from q.id) (ports T) ends.from class ends.from_allowed.place.is_class first in
    (ends.to, ends.to_label, ends.to_allowed, subst Q from (subst P label run))
