use Rattle.machine_build.proofs.Fitting.{fits_none, fits_one}
use Rattle.machine_build.proofs.sides.fitting.Goals as goal

pub returns-in-Some : goal.returns-in-Some
returns-in-Some c = record { fitting = fits_one c.args.inventory.now c.args.places.now c.requires.places c.args.port.0 c.class.result.0 c.class.ensures c.span-span.result c.span-span.ensures.span c.args.any c.args.label c.in-Some.state.0 c.if-any.false c.in-Some.ensures }

pub returns-in-None : goal.returns-in-None
returns-in-None c = record { fitting = fits_none c.args.inventory.now c.args.places.now c.requires.places c.args.port.0 c.class.result.0 c.class.ensures c.span-span.result c.span-span.ensures.span c.args.any c.args.label c.if-any.false c.span-span.ensures.within c.in-None.ensures }
