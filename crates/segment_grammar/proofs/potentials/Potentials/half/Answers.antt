use Rattle.std.proofs.Common.{arith, ap, subst, ℕ, ◌+◌, ◌-◌, ◌/◌, length}
use Rattle.segment_grammar.specs.Pots.{IsRising}
use Rattle.segment_grammar.specs.declared.potentials.Pot.{Pot}
use Rattle.segment_grammar.proofs.Places.{read_at}
use Rattle.segment_grammar.proofs.Rising.{between_raised, between_lowered, accepted, refuted}
use Rattle.segment_grammar.proofs.potentials.Potentials.half.Goals as goal

pub index-pot-requires : goal.index-pot-requires
index-pot-requires c = omega (arith, c.requires.between.within, ap length c.self.view_is)

pub returns-then-is_below-clause-between : goal.returns-then-is_below-clause-between
returns-then-is_below-clause-between c =
    let middle : ℕ = c.args.low + (c.args.high - c.args.low) / 2 in
    let at : Pot = c.index-pot.result.now in
    between_raised c.args.self.now (subst IsRising c.self.view_is c.self.invariant) c.args.root c.args.state c.args.low c.args.high middle c.requires.between (omega arith) (omega arith) at
    (read_at c.self.inside.items.items c.args.self.now c.self.view_is middle at c.index-pot.ensures (omega (arith, c.requires.between.within)))
    (accepted _ c.is_below.ensures c.if-is_below.true)

pub returns-clause-between : goal.returns-clause-between
returns-clause-between c =
    let middle : ℕ = c.args.low + (c.args.high - c.args.low) / 2 in
    let at : Pot = c.index-pot.result.now in
    between_lowered c.args.self.now (subst IsRising c.self.view_is c.self.invariant) c.args.root c.args.state c.args.low c.args.high middle c.requires.between (omega arith) (omega arith) at
    (read_at c.self.inside.items.items c.args.self.now c.self.view_is middle at c.index-pot.ensures (omega (arith, c.requires.between.within)))
    (refuted _ c.is_below.ensures c.if-is_below.false)
