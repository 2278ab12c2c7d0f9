use Rattle.std.proofs.Common.{map, sym, ◌∙◌, ap}
use Rattle.machine_build.specs.Ways.{site_of, step_of}
use Rattle.machine_build.proofs.Parts.{sites_again, steps_again}
use Rattle.machine_build.proofs.moves.Moves.into_parts.Goals as goal

pub returns-clause-steps : goal.returns-clause-steps
returns-clause-steps c = sym (steps_again c.self.inside.steps.items c.self.inside.sites.items c.self.invariant) ∙ ap (map step_of) c.self.view_is

pub returns-clause-sites : goal.returns-clause-sites
returns-clause-sites c = sym (sites_again c.self.inside.steps.items c.self.inside.sites.items c.self.invariant) ∙ ap (map site_of) c.self.view_is
