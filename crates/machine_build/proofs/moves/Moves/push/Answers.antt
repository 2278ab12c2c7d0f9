use Rattle.machine_build.proofs.Parts.{moves_more}
use Rattle.machine_build.proofs.moves.Moves.push.Goals as goal

pub returns-clause-ok : goal.returns-clause-ok
returns-clause-ok c = rw (c.in-Ok.ensures.items, c.in-Ok-push.ensures.items, c.step_of.ensures, c.site_of.ensures, ← c.self.view_is) (moves_more c.self.inside.steps.items c.self.inside.sites.items c.args.added c.self.invariant)
