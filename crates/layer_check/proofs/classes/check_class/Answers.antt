use Rattle.std.proofs.Common.{None, Some}
use Rattle.std.specs.Option.{option_copied}
use Rattle.layer_check.proofs.Fitting.{by_encoding, by_type, class_within, encoding_fault, member_within, none_unfit, type_fault}
use Rattle.layer_check.proofs.classes.check_class.Goals as goal

pub returns-in-Some-clause-fault : goal.returns-in-Some-clause-fault
returns-in-Some-clause-fault c =
    let T = c.args.inventory.now in
    let found = by_encoding T c.args.class.0 c.requires.first c.encoding_of.result.now (Some c.in-Some.other) c.requires.is_first c.encoding_of.ensures c.in-Some.ensures in
    encoding_fault T c.args.class.0 c.in-Some.other c.requires.first c.name.result.now c.name-in-Some.result.now c.fault_of.result c.requires c.requires.is_first found c.name.ensures c.name-in-Some.ensures c.fault_of.ensures

pub type_at-requires : goal.type_at-requires
type_at-requires c = class_within c.args.inventory.now c.args.class.0 c.args.class.0 c.requires

pub name-requires-in-Some-first_other_member : goal.name-requires-in-Some-first_other_member
name-requires-in-Some-first_other_member c = class_within c.args.inventory.now c.args.class.0 c.args.class.0 c.requires

pub name-requires-in-Some-first_other_member-2 : goal.name-requires-in-Some-first_other_member-2
name-requires-in-Some-first_other_member-2 c = member_within c.args.inventory.now _ c.args.class.0 c.in-Some-first_other_member.other.0 c.in-Some-first_other_member.ensures.0

pub returns-in-Some-first_other_member-clause-fault : goal.returns-in-Some-first_other_member-clause-fault
returns-in-Some-first_other_member-clause-fault c =
    let T = c.args.inventory.now in
    let none = by_encoding T c.args.class.0 c.requires.first c.encoding_of.result.now None c.requires.is_first c.encoding_of.ensures c.in_default.ensures in
    let found = by_type T c.args.class.0 c.requires.first (option_copied c.type_at.result) (Some c.in-Some-first_other_member.other) c.requires.is_first c.type_at.ensures c.in-Some-first_other_member.ensures in
    type_fault T c.args.class.0 c.in-Some-first_other_member.other c.requires.first c.name-in-Some-first_other_member.result.now c.name-in-Some-first_other_member-2.result.now c.fault_of-in-Some-first_other_member.result c.requires c.requires.is_first none found c.name-in-Some-first_other_member.ensures c.name-in-Some-first_other_member-2.ensures c.fault_of-in-Some-first_other_member.ensures

pub returns-clause-fits : goal.returns-clause-fits
returns-clause-fits c =
    let T = c.args.inventory.now in
    let encodings = by_encoding T c.args.class.0 c.requires.first c.encoding_of.result.now None c.requires.is_first c.encoding_of.ensures c.in_default.ensures in
    let types = by_type T c.args.class.0 c.requires.first (option_copied c.type_at.result) None c.requires.is_first c.type_at.ensures c.in_default-first_other_member.ensures in
    none_unfit T c.args.class.0 c.requires.first c.requires.is_first encodings types
