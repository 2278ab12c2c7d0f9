use Rattle.std.proofs.lemmas.Option.{slice_get_within}
use Rattle.packet_replay.proofs.Named.{no_end}
use Rattle.circuit_spec.specs.Network.{ports}
use Rattle.table_replay.proofs.Slots.{place_found}
use Rattle.table_replay.proofs.table.leaving_place.Goals as goal

pub returns-in-None : goal.returns-in-None
returns-in-None c = no_end c.args.inventory.now c.text.result.now c.args.hop.now.from c.text.ensures.text c.in-None.ensures

pub name-requires : goal.name-requires
name-requires c = slice_get_within (ports c.args.inventory.now) c.class.result.0 c.class.ensures.first c.class.ensures.is_first

pub returns-in_ok-share-in-Some : goal.returns-in_ok-share-in-Some
returns-in_ok-share-in-Some c =
    place_found c.args.inventory.now c.text.result.now c.args.hop.now.from c.in-Some.port c.class.result c.args.hop.now.from_label c.name.result.now c.in_ok-share-in-Some.field-0
    c.text.ensures.text c.in-Some.ensures c.class.ensures c.name.ensures c.in_ok-share-in-Some.ensures
