use Rattle.std.proofs.Common.{◌≡◌, None, Some}
use Rattle.std.specs.Option.{option_copied}
use Rattle.layer_check.proofs.PortTypes.{known_port, number_there, placed_there, type_there}
use Rattle.layer_check.proofs.comparing.type_at.Goals as goal

pub returns-in-Some-element : goal.returns-in-Some-element
returns-in-Some-element c =
    let T = c.args.inventory.now in
    let n = c.args.port.0 in
    let name = c.name.result.now in
    let k = known_port T n name c.is_merged.ensures c.name.ensures in
    let e : Some c.in-Some.number ≡ Some k.number = number_there T n name c.text.result.now (Some c.in-Some.number) k c.text.ensures.text c.in-Some.ensures in
    let f : Some c.in-Some-element.element.now ≡ Some k.placed.element = placed_there T n name c.in-Some.number (Some c.in-Some-element.element.now) k e c.in-Some-element.ensures in
    type_there T n name c.in-Some-element.element.now (option_copied c.element_type.result) k f c.element_type.ensures

pub returns-in-None-element : goal.returns-in-None-element
returns-in-None-element c =
    let T = c.args.inventory.now in
    let n = c.args.port.0 in
    let name = c.name.result.now in
    let k = known_port T n name c.is_merged.ensures c.name.ensures in
    let e : Some c.in-Some.number ≡ Some k.number = number_there T n name c.text.result.now (Some c.in-Some.number) k c.text.ensures.text c.in-Some.ensures in
    let f : None ≡ Some k.placed.element = placed_there T n name c.in-Some.number None k e c.in-None-element.ensures in
    cc

pub returns-in-None : goal.returns-in-None
returns-in-None c =
    let T = c.args.inventory.now in
    let n = c.args.port.0 in
    let name = c.name.result.now in
    let k = known_port T n name c.is_merged.ensures c.name.ensures in
    let e : None ≡ Some k.number = number_there T n name c.text.result.now None k c.text.ensures.text c.in-None.ensures in
    cc
