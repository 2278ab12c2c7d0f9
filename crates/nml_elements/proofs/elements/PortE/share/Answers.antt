use Rattle.std.proofs.Common.{◌∙◌}
use Rattle.nml_elements.proofs.Copied.{same_parts}
use Rattle.nml_elements.proofs.elements.PortE.share.Goals as goal

pub returns : goal.returns
returns c =
    same_parts c.args.self.now _ _ _ _ _ _ _ c.in_ok-id.ensures c.in_ok-encoding.ensures
    (c.in_ok-sources.ensures ∙ c.as_slice.ensures)
    (c.in_ok-sinks.ensures ∙ c.as_slice-2.ensures)
    (c.in_ok-services.ensures ∙ c.as_slice-3.ensures)
    (c.in_ok-aliases.ensures ∙ c.as_slice-4.ensures)
    c.in_ok-labels.ensures _
