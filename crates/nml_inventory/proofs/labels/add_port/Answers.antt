use Rattle.std.proofs.Common.{ℕ, ◌<◌, refl, length, map, slice_index, arith}
use Rattle.std.proofs.lemmas.List.{length-map}
use Rattle.std.proofs.lemmas.Option.{slice_get_read, slice_get_within}
use Rattle.ml_base.proofs.Lists.{some_at}
use Rattle.circuit_spec.specs.Network.{port_of, ports}
use Rattle.nml_inventory.proofs.Merging.{list_more, parts_first}
use Rattle.nml_inventory.proofs.labels.add_port.Goals as goal

pub returns-then-class-port : goal.returns-then-class-port
returns-then-class-port c =
    let q = some_at (ports c.args.numbered.now) c.args.port c.requires.within in
    parts_first c.args.numbered.now c.args.classes.now c.args.port (map (λ v. v.items) c.args.lists.now.items) q.0 c.requires.before c.if-class-port.true q.1

pub index_mut-requires : goal.index_mut-requires
index_mut-requires c =
    let T = c.args.numbered.now in
    let first = c.requires.numbers.each c.args.port c.requires.within in
    omega (arith, slice_get_within (ports T) (slice_index c.args.classes.now c.args.port) first.first first.is_first, c.requires.before.long, length-map c.args.lists.now.items (λ v. v.items))

pub returns : goal.returns
returns c =
    let T = c.args.numbered.now in
    let k : ℕ = slice_index c.args.classes.now c.args.port in
    let lists = c.args.lists.now.items in
    let first = c.requires.numbers.each c.args.port c.requires.within in
    let within : k < length lists = omega (arith, slice_get_within (ports T) k first.first first.is_first, c.requires.before.long, length-map lists (λ v. v.items)) in
    list_more (λ v. v.items) T c.args.classes.now c.args.port lists k c.index_mut.result.now c.add_labels.new.parts (port_of c.entry.ensures.domain c.entry.result.now) c.requires.before refl
    (slice_get_read lists (length lists) k c.index_mut.result.now refl within c.index_mut.ensures.value) c.entry.ensures.port_is c.in_ok-add_labels.ensures
