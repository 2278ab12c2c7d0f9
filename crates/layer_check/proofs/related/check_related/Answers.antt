use Rattle.std.proofs.Common.{None, Some, filter, sym}
use Rattle.std.specs.Prelude.{option_map}
use Rattle.std.specs.Option.{option_copied}
use Rattle.circuit_spec.specs.Network.{ports}
use Rattle.layer_check.specs.Found.{made_by}
use Rattle.layer_check.proofs.Differing.{encoding_faulty, encoding_is, first_within, no_ports, none_kept, not_faulty, type_faulty, type_is}
use Rattle.layer_check.proofs.related.check_related.Goals as goal

pub returns-in_default-clause-none : goal.returns-in_default-clause-none
returns-in_default-clause-none c = λ test both.
    let T = c.args.inventory.now in
    let r = c.args.related in
    no_ports (made_by r.layer) (made_by r.label_type) r.id.now (option_copied r.encoding) (option_map Some (option_copied r.own_type)) (filter test (ports T)) (none_kept test (ports T) (sym (c.in_default.ensures test both)))

pub encoding_of-requires : goal.encoding_of-requires
encoding_of-requires c = first_within c.args.inventory.now c.requires.0 c.in-Some.first (c.in-Some.ensures c.requires.0 c.requires.1)

pub name-requires : goal.name-requires
name-requires c = first_within c.args.inventory.now _ c.in-Some-other_of_both.port (c.in-Some-other_of_both.ensures c.requires.0 c.requires.1)

pub type_at-requires : goal.type_at-requires
type_at-requires c = first_within c.args.inventory.now c.requires.0 c.in-Some.first (c.in-Some.ensures c.requires.0 c.requires.1)

pub name-requires-in-Some-other_of_both-2 : goal.name-requires-in-Some-other_of_both-2
name-requires-in-Some-other_of_both-2 c = first_within c.args.inventory.now _ c.in-Some-other_of_both-2.port (c.in-Some-other_of_both-2.ensures c.requires.0 c.requires.1)

pub returns-in-Some-other_of_both-clause-fault : goal.returns-in-Some-other_of_both-clause-fault
returns-in-Some-other_of_both-clause-fault c = λ test both.
    let T = c.args.inventory.now in
    let r = c.args.related in
    let e = encoding_is T r test c.in-Some.first c.encoding_of.result.now c.encoding_stated-encoding.result.now (Some c.in-Some-other_of_both.port) (c.in-Some.ensures test both) c.encoding_of.ensures c.encoding_stated-encoding.ensures (c.in-Some-other_of_both.ensures test both) in
    encoding_faulty T r test c.in-Some-other_of_both.port c.name.result.now c.fault_of.result e c.name.ensures c.fault_of.ensures

pub returns-in-Some-other_of_both-2-clause-fault : goal.returns-in-Some-other_of_both-2-clause-fault
returns-in-Some-other_of_both-2-clause-fault c = λ test both.
    let T = c.args.inventory.now in
    let r = c.args.related in
    let e = encoding_is T r test c.in-Some.first c.encoding_of.result.now c.encoding_stated-encoding.result.now None (c.in-Some.ensures test both) c.encoding_of.ensures c.encoding_stated-encoding.ensures (c.in_default-other_of_both.ensures test both) in
    let t = type_is T r test c.in-Some.first (option_copied c.type_at.result) (option_copied c.type_stated-label_type.result) (Some c.in-Some-other_of_both-2.port) (c.in-Some.ensures test both) c.type_at.ensures c.type_stated-label_type.ensures (c.in-Some-other_of_both-2.ensures test both) in
    type_faulty T r test c.in-Some-other_of_both-2.port c.name-in-Some-other_of_both-2.result.now c.fault_of-in-Some-other_of_both-2.result e t c.name-in-Some-other_of_both-2.ensures c.fault_of-in-Some-other_of_both-2.ensures

pub returns-clause-none : goal.returns-clause-none
returns-clause-none c = λ test both.
    let T = c.args.inventory.now in
    let r = c.args.related in
    let e = encoding_is T r test c.in-Some.first c.encoding_of.result.now c.encoding_stated-encoding.result.now None (c.in-Some.ensures test both) c.encoding_of.ensures c.encoding_stated-encoding.ensures (c.in_default-other_of_both.ensures test both) in
    let t = type_is T r test c.in-Some.first (option_copied c.type_at.result) (option_copied c.type_stated-label_type.result) None (c.in-Some.ensures test both) c.type_at.ensures c.type_stated-label_type.ensures (c.in_default-other_of_both-2.ensures test both) in
    not_faulty T r test e t
