use Rattle.hop_check.specs.Visits.{EntersPlace, first_at}
use Rattle.hop_check.proofs.Visited.{due_at, one_entered}
use Rattle.hop_check.proofs.flagging.flag_due.Goals as goal

pub returns : goal.returns
returns c =
    due_at c.visit.result c.args.at c.in_ok-place.place (EntersPlace c.args.inventory.now c.args.hop.now) (first_at c.args.visited.now) (first_at c.visit.new.visited)
    (λ place. one_entered c.args.inventory.now c.args.hop.now c.in_ok-place.place place c.in_ok-place.ensures) c.visit.ensures.first c.visit.ensures.noted
