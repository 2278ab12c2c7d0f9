use Rattle.std.proofs.Common.{◌≡◌, ◌∙◌, Some, sym, ap}
use Rattle.circuit_spec.specs.Network.{label_type}
use Rattle.nml_inventory.specs.Numbers.{port_number}
use Rattle.label_atoms.proofs.Names.{ok_then}
use Rattle.kept_table.proofs.Stating.{labels_of_id, number_none, number_some, stated_label, stated_nowhere, stated_unlabelled}
use Rattle.kept_table.proofs.gathering.with_stated.Goals as goal

pub returns-in_default-port : goal.returns-in_default-port
returns-in_default-port c =
    let T = c.args.inventory.now in
    stated_nowhere T c.args.port.now c.args.wish c.args.gathered
    (sym (ap (port_number T) c.text.ensures.text) ∙ number_none (port_number T c.text.result.now) (sym c.port.ensures ∙ c.in_default-port.is))

pub returns-in-Unlabelled : goal.returns-in-Unlabelled
returns-in-Unlabelled c =
    let T = c.args.inventory.now in
    let class = c.requires.known.0 in
    let number : port_number T c.args.port.now ≡ Some c.in-Some.port.0 = sym (ap (port_number T) c.text.ensures.text) ∙ number_some (port_number T c.text.result.now) c.in-Some.port (sym c.port.ensures ∙ c.in-Some.is) in
    let labels = labels_of_id T c.args.port.now c.in-Some.port.0 class c.labels_of.result.now number c.requires.known.1 (c.labels_of.ensures c.requires.fit) in
    stated_unlabelled T c.args.port.now c.args.wish c.args.gathered class c.requires.known.1 (sym labels.typed ∙ ap label_type c.in-Unlabelled.is)

pub returns-in-Of : goal.returns-in-Of
returns-in-Of c =
    let T = c.args.inventory.now in
    let class = c.requires.known.0 in
    let number : port_number T c.args.port.now ≡ Some c.in-Some.port.0 = sym (ap (port_number T) c.text.ensures.text) ∙ number_some (port_number T c.text.result.now) c.in-Some.port (sym c.port.ensures ∙ c.in-Some.is) in
    let labels = labels_of_id T c.args.port.now c.in-Some.port.0 class c.labels_of.result.now number c.requires.known.1 (c.labels_of.ensures c.requires.fit) in
    ok_then _ _ c.with_single.result
    (λ new a. stated_label T c.args.port.now c.args.wish c.in-Value.label c.args.gathered new class c.in-Of.labeltype c.in-Value.is c.requires.known.1 (sym labels.typed ∙ ap label_type c.in-Of.is) a)
    c.with_single.ensures
