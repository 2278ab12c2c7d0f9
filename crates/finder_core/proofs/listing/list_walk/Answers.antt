use Rattle.std.proofs.Common.{length, sym, ◌∙◌}
use Rattle.deriv_arena.specs.Derivation.{unfolding_of}
use Rattle.finder_core.proofs.Listings.{listing_ended, listing_first, listing_room, listing_turn, listing_within}
use Rattle.finder_core.proofs.listing.list_walk.Goals as goal

pub loop-step-init : goal.loop-step-init
loop-step-init c = listing_first c.args.inventory.now c.args.built.now (unfolding_of c.args.deriv.now) c.into_iter-step-iterator.result c.in-Some.first.0 c.next.new.self
    c.new.result c.add_step.new.listed.hops c.new-2.result c.add_step.new.listed.flags c.in_ok-visited.visited c.add_step.new.visited
    (sym c.in_ok-steps.ensures ∙ c.in-Some.ensures.steps) c.into_iter-step-iterator.ensures.into_iter_gives c.new.ensures c.new-2.ensures c.in_ok-visited.ensures
    c.in_ok-add_step.ensures.hop c.in_ok-add_step.ensures.flag

pub loop-step-preserved : goal.loop-step-preserved
loop-step-preserved c = listing_turn c.args.inventory.now c.args.built.now (unfolding_of c.args.deriv.now) c.loop-step.step-iterator c.in-Some-step.step.0 c.next-in-loop-step.new.self
    c.loop-step.listed.hops c.add_step-in-loop-step.new.listed.hops c.loop-step.listed.flags c.add_step-in-loop-step.new.listed.flags c.loop-step.visited c.add_step-in-loop-step.new.visited
    c.in-Some-step.ensures.steps c.loop-step.invariant c.in_ok-add_step-2.ensures.hop c.in_ok-add_step-2.ensures.flag

pub add_step-requires-in-loop-step-clause-within : goal.add_step-requires-in-loop-step-clause-within
add_step-requires-in-loop-step-clause-within c = listing_within c.args.inventory.now c.args.built.now (length c.args.built.now.machine.steps) (unfolding_of c.args.deriv.now) c.loop-step.step-iterator c.in-Some-step.step.0 c.next-in-loop-step.new.self
    c.loop-step.listed.hops c.loop-step.listed.flags c.loop-step.visited c.in-Some-step.ensures.steps c.requires.steps c.loop-step.invariant

pub add_step-requires-in-loop-step-clause-room : goal.add_step-requires-in-loop-step-clause-room
add_step-requires-in-loop-step-clause-room c = listing_room c.args.inventory.now c.args.built.now (unfolding_of c.args.deriv.now) c.loop-step.step-iterator c.loop-step.listed.hops c.loop-step.listed.flags c.loop-step.visited c.loop-step.invariant

pub returns-clause-hops : goal.returns-clause-hops
returns-clause-hops c = (listing_ended c.args.inventory.now c.args.built.now (unfolding_of c.args.deriv.now) c.loop-step.step-iterator c.loop-step.listed.hops c.loop-step.listed.flags c.loop-step.visited c.in-None.ensures.steps.0 c.loop-step.invariant).0

pub returns-clause-flags : goal.returns-clause-flags
returns-clause-flags c = (listing_ended c.args.inventory.now c.args.built.now (unfolding_of c.args.deriv.now) c.loop-step.step-iterator c.loop-step.listed.hops c.loop-step.listed.flags c.loop-step.visited c.in-None.ensures.steps.0 c.loop-step.invariant).1
