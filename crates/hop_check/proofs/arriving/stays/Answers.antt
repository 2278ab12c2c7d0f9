use Rattle.std.proofs.lemmas.Option.{slice_get_within}
use Rattle.circuit_spec.specs.Network.{ports}
use Rattle.hop_check.proofs.Arrived.{apart_no_walk, same_walk, not_true, name_apart, name_same}
use Rattle.hop_check.proofs.arriving.stays.Goals as goal

pub returns-then-ne : goal.returns-then-ne
returns-then-ne c =
    let apart = name_apart c.name.result.now c.name-2.result.now c.ne.result c.ne.ensures c.if-ne.true in
    (λ t. absurd (not_true t), λ walk. absurd (apart_no_walk c.args.inventory.now c.args.request.now c.in-Some.from.0 c.in-Some-class_of.to.0 c.name.result.now c.name-2.result.now c.in-Some.ensures c.in-Some-class_of.ensures c.name.ensures c.name-2.ensures apart walk))

pub serves_both-requires-clause-within : goal.serves_both-requires-clause-within
serves_both-requires-clause-within c = slice_get_within (ports c.args.inventory.now) c.in-Some.from.0 c.in-Some.ensures.class c.in-Some.ensures.at

pub returns : goal.returns
returns c =
    same_walk c.args.inventory.now c.args.request.now c.in-Some.from.0 c.in-Some-class_of.to.0 c.name.result.now c.name-2.result.now c.serves_both.result c.requires.known c.in-Some.ensures c.in-Some-class_of.ensures c.name.ensures c.name-2.ensures
    (name_same c.name.result.now c.name-2.result.now c.ne.result c.ne.ensures c.if-ne.false) c.serves_both.ensures
