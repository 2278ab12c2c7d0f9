use Rattle.std.proofs.Common.{◌∙◌, ap, subst, List, get_or}
use Rattle.device_rules.specs.declared.rules.Rule.{Rule}
use Rattle.table_replay.specs.Tabled.{Moves}
use Rattle.table_replay.specs.Forwarding.{place_of}
use Rattle.table_replay.proofs.Turning.{is_taken, not_taken, still_ready}
use Rattle.table_replay.proofs.way.Way.turn.Goals as goal

pub returns-then-not-branch-2-clause-stops : goal.returns-then-not-branch-2-clause-stops
returns-then-not-branch-2-clause-stops c =
    not_taken c.args.inventory.now c.args.rules.now c.args.target.now c.args.self.now.replay c.args.self.now.table c.args.self.now.met.keys c.meet.new.met.keys c.in_ok-at.at c.in-Some-One.number c.index-as_slice-number.result
    c.take.result c.in-Some-One.field-0 c.in_ok-meet.field-0 (c.in_ok-at.ensures ∙ ap place_of c.unit.ensures) c.requires.away c.requires.ready c.in_ok-meet.ensures c.if-not-branch.false c.take.ensures.slot c.in-Some-One.is c.in-Some-One.field-0-is
    c.take_hop.new.replay c.in_ok-take_hop.field-0 (subst (λ (rs : List Rule). Moves c.args.inventory.now c.args.self.now.replay c.take_hop.new.replay (get_or rs c.in-Some-One.number c.index-as_slice-number.result).hop c.in_ok-take_hop.field-0) c.as_slice.ensures c.in_ok-take_hop.ensures.moves) c.if-not-branch-2.true

pub returns-clause-ready : goal.returns-clause-ready
returns-clause-ready c =
    still_ready c.args.inventory.now c.args.rules.now c.args.target.now c.args.self.now.replay c.args.self.now.table c.args.self.now.met.keys c.meet.new.met.keys c.in_ok-at.at c.in-Some-One.number c.index-as_slice-number.result
    c.take.result c.in-Some-One.field-0 c.in_ok-meet.field-0 (c.in_ok-at.ensures ∙ ap place_of c.unit.ensures) c.requires.away c.requires.ready c.in_ok-meet.ensures c.if-not-branch.false c.take.ensures.slot c.in-Some-One.is c.in-Some-One.field-0-is
    c.take_hop.new.replay c.in_ok-take_hop.field-0 (subst (λ (rs : List Rule). Moves c.args.inventory.now c.args.self.now.replay c.take_hop.new.replay (get_or rs c.in-Some-One.number c.index-as_slice-number.result).hop c.in_ok-take_hop.field-0) c.as_slice.ensures c.in_ok-take_hop.ensures.moves) c.if-not-branch-2.false c.take.new.self c.take.ensures.others c.in-Some-One.ensures.count c.take_hop.ensures.room

pub returns-clause-takes : goal.returns-clause-takes
returns-clause-takes c =
    is_taken c.args.inventory.now c.args.rules.now c.args.target.now c.args.self.now.replay c.args.self.now.table c.args.self.now.met.keys c.meet.new.met.keys c.in_ok-at.at c.in-Some-One.number c.index-as_slice-number.result
    c.take.result c.in-Some-One.field-0 c.in_ok-meet.field-0 (c.in_ok-at.ensures ∙ ap place_of c.unit.ensures) c.requires.away c.requires.ready c.in_ok-meet.ensures c.if-not-branch.false c.take.ensures.slot c.in-Some-One.is c.in-Some-One.field-0-is
    c.take_hop.new.replay c.in_ok-take_hop.field-0 (subst (λ (rs : List Rule). Moves c.args.inventory.now c.args.self.now.replay c.take_hop.new.replay (get_or rs c.in-Some-One.number c.index-as_slice-number.result).hop c.in_ok-take_hop.field-0) c.as_slice.ensures c.in_ok-take_hop.ensures.moves) c.if-not-branch-2.false c.args.self.now.hops c.push.new.self c.in_ok-share.field-0 (c.in_ok-share.ensures ∙ ap (λ (rs : List Rule). (get_or rs c.in-Some-One.number c.index-as_slice-number.result).hop) c.as_slice.ensures) c.in_ok-push.ensures.ok
