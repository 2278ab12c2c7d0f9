use Rattle.std.proofs.Common.{inl, inr, sym, ◌∙◌, ap}
use Rattle.nml_inventory.specs.Relations.{is_client, is_inbound, is_outbound, is_server, is_sink, is_source}
use Rattle.packet_replay.specs.Numbered.{relates_by}
use Rattle.packet_replay.proofs.Listed.{both_listed}
use Rattle.packet_replay.proofs.relating.relates_by.Goals as goal

pub returns-in-Link : goal.returns-in-Link
returns-in-Link c e p q at p_at q_at =
    both_listed c.args.inventory.now is_source is_sink c.args.numbers.element c.args.numbers.from.port.0 c.args.numbers.to.port.0 c.sources_of.result.now c.sinks_of.result.now e p q _ c.sources_of.ensures c.sinks_of.ensures c.are_listed.ensures at p_at q_at
    ∙ ap (λ k. relates_by c.args.inventory.now k e.element p q) (sym c.in-Link.is)

pub returns-in-Adapt : goal.returns-in-Adapt
returns-in-Adapt c e p q at p_at q_at =
    both_listed c.args.inventory.now is_client is_server c.args.numbers.element c.args.numbers.from.port.0 c.args.numbers.to.port.0 c.clients_of.result.now c.servers_of.result.now e p q _ c.clients_of.ensures c.servers_of.ensures c.are_listed-in-Adapt.ensures at p_at q_at
    ∙ ap (λ k. relates_by c.args.inventory.now k e.element p q) (sym c.in-Adapt.is)

pub returns-in-Deadapt : goal.returns-in-Deadapt
returns-in-Deadapt c e p q at p_at q_at =
    both_listed c.args.inventory.now is_server is_client c.args.numbers.element c.args.numbers.from.port.0 c.args.numbers.to.port.0 c.servers_of-in-Deadapt.result.now c.clients_of-in-Deadapt.result.now e p q _ c.servers_of-in-Deadapt.ensures c.clients_of-in-Deadapt.ensures c.are_listed-in-Deadapt.ensures at p_at q_at
    ∙ ap (λ k. relates_by c.args.inventory.now k e.element p q) (sym c.in-Deadapt.is)

pub returns-in-Cross : goal.returns-in-Cross
returns-in-Cross c e p q at p_at q_at =
    let both = both_listed c.args.inventory.now (is_inbound c.args.inventory.now) (is_outbound c.args.inventory.now) c.args.numbers.element c.args.numbers.from.port.0 c.args.numbers.to.port.0 c.inbound_of.result.now c.outbound_of.result.now e p q _ c.inbound_of.ensures c.outbound_of.ensures c.are_listed-in-Cross.ensures at p_at q_at in
    elim c.in-Cross.is [
      | inl cross ↦ both ∙ ap (λ k. relates_by c.args.inventory.now k e.element p q) (sym cross)
      | inr convert ↦ both ∙ ap (λ k. relates_by c.args.inventory.now k e.element p q) (sym convert)
    ]
