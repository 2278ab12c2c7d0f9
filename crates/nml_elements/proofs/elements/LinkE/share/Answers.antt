use Rattle.nml_elements.proofs.Copied.{same_link}
use Rattle.nml_elements.proofs.elements.LinkE.share.Goals as goal

pub returns : goal.returns
returns c = rw (c.in_ok-id.ensures, c.in_ok-encoding.ensures) (same_link c.args.self.now c.in_ok-labels.labels c.in_ok-labels.ensures _)
