use Rattle.std.proofs.Common.{◌<◌, ℕ, refl, sym, subst, length, arith}
use Rattle.circuit_spec.specs.Network.{Topology, Placed, elements_of, ports}
use Rattle.nml_inventory.specs.declared.arcs.Listing.TheVariants.{Outbound}
use Rattle.nml_inventory.specs.Relations.{IsTwin, numbers_where}
use Rattle.nml_inventory.specs.Tables.{lent_to}
use Rattle.nml_inventory.proofs.Answering.{rows_long}
use Rattle.nml_inventory.proofs.Gets.{one_of_some}
use Rattle.nml_inventory.proofs.Twins.{twins}
use Rattle.nml_inventory.proofs.inventory.Inventory.twin_of.Goals as goal

pub is_same-requires-clause-other : goal.is_same-requires-clause-other
is_same-requires-clause-other c =
    let T = c.self.inside.numbered in
    let within : c.args.number < length (elements_of T) = subst (λ (U : Topology). c.args.number < length (elements_of U)) (sym c.self.view_is) c.requires in
    omega (arith, within, (c.in-Some.ensures c.in-Some.other refl).0, rows_long T (λ (e : Placed). numbers_where (lent_to T Outbound e.element) (ports T)) c.self.inside.relations.lent_outbound c.self.invariant.relations_are.lent_outbound_are)

pub at-requires-2 : goal.at-requires-2
at-requires-2 c =
    let T = c.self.inside.numbered in
    let within : c.args.number < length (elements_of T) = subst (λ (U : Topology). c.args.number < length (elements_of U)) (sym c.self.view_is) c.requires in
    omega (arith, within, (c.in-Some.ensures c.in-Some.other refl).0)

pub returns : goal.returns
returns c = λ other is.
    let T = c.self.inside.numbered in
    let before = c.in-Some.ensures c.in-Some.other refl in
    let twin : IsTwin T c.args.number c.in-Some.other =
    twins T c.args.number c.in-Some.other c.at.result.now c.at-2.result.now c.self.inside.relations.lent_inbound c.self.inside.relations.lent_outbound c.self.invariant.once before.0
    c.at.ensures c.at-2.ensures (c.is_lent.ensures c.if-not-is_lent.false) (c.is_lent-2.ensures c.if-not-is_lent-2.false)
    c.self.invariant.relations_are.lent_inbound_are c.self.invariant.relations_are.lent_outbound_are before.1 (c.is_same.ensures c.if-not-is_same.false) in
    subst (λ (n : ℕ). IsTwin c.args.self.now c.args.number n) (one_of_some is) (subst (λ (U : Topology). IsTwin U c.args.number c.in-Some.other) c.self.view_is twin)
