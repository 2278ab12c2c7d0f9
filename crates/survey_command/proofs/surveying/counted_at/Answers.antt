use Rattle.std.proofs.Common.{sym}
use Rattle.circuit_spec.specs.Faults.{is_link, is_service}
use Rattle.circuit_spec.specs.Network.{Placed, elements_of}
use Rattle.survey_command.proofs.Counting.{count-at, count-none, count-within}
use Rattle.survey_command.proofs.surveying.counted_at.Goals as goal

pub counted-requires-clause-links : goal.counted-requires-clause-links
counted-requires-clause-links c = count-within (λ (p : Placed). is_link p.element) (elements_of c.args.inventory.now) c.args.number c.args.counts.links c.requires.fits c.requires.links

pub counted-requires-clause-services : goal.counted-requires-clause-services
counted-requires-clause-services c = count-within (λ (p : Placed). is_service p.element) (elements_of c.args.inventory.now) c.args.number c.args.counts.services c.requires.fits c.requires.services

pub returns-in-Some-clause-links : goal.returns-in-Some-clause-links
returns-in-Some-clause-links c = count-at is_link (elements_of c.args.inventory.now) c.args.number c.args.counts.links c.counted.result.links c.in-Some.element.now
    (sym c.in-Some.ensures) c.requires.links c.counted.ensures.links

pub returns-in-Some-clause-services : goal.returns-in-Some-clause-services
returns-in-Some-clause-services c = count-at is_service (elements_of c.args.inventory.now) c.args.number c.args.counts.services c.counted.result.services c.in-Some.element.now
    (sym c.in-Some.ensures) c.requires.services c.counted.ensures.services

pub returns-in-None-clause-links : goal.returns-in-None-clause-links
returns-in-None-clause-links c = absurd (count-none (elements_of c.args.inventory.now) c.args.number c.requires.within (sym c.in-None.ensures))

pub returns-in-None-clause-services : goal.returns-in-None-clause-services
returns-in-None-clause-services c = absurd (count-none (elements_of c.args.inventory.now) c.args.number c.requires.within (sym c.in-None.ensures))
