use Rattle.std.proofs.Common.{arith}
use Rattle.machine_build.proofs.Chosen.{no_states, state_more, state_whole}
use Rattle.machine_build.proofs.allowed.states_in.Goals as goal

pub loop-state-init : goal.loop-state-init
loop-state-init c = no_states c.args.span.first c.new-states.result.items c.new-states.ensures.items

pub loop-state-preserved : goal.loop-state-preserved
loop-state-preserved c = state_more c.args.span.first c.loop-state.state c.loop-state.states.items c.push.new.self.items c.loop-state.auto.state c.in-Ok.ensures.items c.loop-state.invariant

pub returns : goal.returns
returns c = state_whole c.args.span c.loop-state.state c.loop-state.states.items (omega arith) (c.loop-state.auto.state-end c.requires) c.loop-state.invariant
