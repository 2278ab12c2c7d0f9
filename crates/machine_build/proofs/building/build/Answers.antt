use Rattle.machine_build.proofs.Together.{are_open, have_spans, is_built, steps_within}
use Rattle.machine_build.proofs.building.build.Goals as goal
use Rattle.circuit_spec.proofs.Merged.{ids_once}

pub moves_of-requires-clause-places : goal.moves_of-requires-clause-places
moves_of-requires-clause-places c = have_spans c.args.inventory.now c.args.kept.now c.in_ok-places.places c.in_ok-places.ensures

pub of_steps-machine-requires : goal.of_steps-machine-requires
of_steps-machine-requires c = steps_within c.args.inventory.now c.in_ok-places.places.places c.moves_of.new.frames.keys c.in_ok-moves.moves c.len.result c.count_frames.result c.in_ok-moves.ensures c.len.ensures c.count_frames.ensures.counted c.into_parts-steps.result.0.items c.into_parts-steps.ensures.steps

pub allowed-requires-clause-places : goal.allowed-requires-clause-places
allowed-requires-clause-places c = have_spans c.args.inventory.now c.args.kept.now c.in_ok-places.places c.in_ok-places.ensures

pub allowed-requires-clause-all_open : goal.allowed-requires-clause-all_open
allowed-requires-clause-all_open c = are_open c.args.inventory.now c.args.kept.now c.in_ok-places.places c.in_ok-places.ensures

pub allowed-requires-2-clause-places : goal.allowed-requires-2-clause-places
allowed-requires-2-clause-places c = have_spans c.args.inventory.now c.args.kept.now c.in_ok-places.places c.in_ok-places.ensures

pub allowed-requires-2-clause-all_open : goal.allowed-requires-2-clause-all_open
allowed-requires-2-clause-all_open c = are_open c.args.inventory.now c.args.kept.now c.in_ok-places.places c.in_ok-places.ensures

pub returns : goal.returns
returns c = is_built c.args.inventory.now c.args.kept.now c.args.request.now (ids_once c.args.inventory.now c.is_merged.ensures) c.in_ok-places.places c.in_ok-places.ensures c.moves_of.new.frames.keys c.count_frames.ensures.apart
    c.in_ok-moves.moves c.in_ok-moves.ensures c.len.result c.count_frames.result c.len.ensures c.count_frames.ensures.counted c.of_steps-machine.result c.into_parts-steps.result.0.items c.into_parts-steps.result.1.items c.in_ok-starts.starts.items c.in_ok-targets.targets.items
    c.of_steps-machine.ensures c.into_parts-steps.ensures.steps c.into_parts-steps.ensures.sites c.in_ok-starts.ensures c.in_ok-targets.ensures
