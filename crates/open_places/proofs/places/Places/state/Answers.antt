use Rattle.std.proofs.Common.{sym, subst}
use Rattle.open_places.specs.Places.{IsRising}
use Rattle.open_places.proofs.Searching.{state_found, state_missed}
use Rattle.open_places.proofs.places.Places.state.Goals as goal

pub returns-in-Ok : goal.returns-in-Ok
returns-in-Ok c = rw (← c.self.view_is, ← c.deref.ensures.value) (state_found _ c.args.place.now c.in-Ok.state c.in-Ok.ensures.bound c.in-Ok.ensures.ok)

pub returns-in-Err : goal.returns-in-Err
returns-in-Err c =
    let rise = subst IsRising (sym c.deref.ensures.value) c.self.invariant.rise in
    rw (← c.self.view_is, ← c.deref.ensures.value) (state_missed _ c.args.place.now c.in-Err.field-0 rise c.in-Err.ensures.position)
