use Rattle.machine_build.proofs.Chosen.{AreUpto}
use Rattle.machine_build.proofs.allowed.states_in.Given as goal

abbrev pub invariant-loop-state : goal.invariant-loop-state
invariant-loop-state l = AreUpto l.initial.state l.state l.states.items
