use Rattle.std.proofs.Common.{◌≡◌, Some, rules}
use Rattle.segment_grammar.specs.FrameRows.{numbered}
use Rattle.segment_grammar.proofs.frame_rows.FrameRows.row.Goals as goal

pub row-requires : goal.row-requires
row-requires c =
    let found : numbered c.self.inside.numbers.entries c.args.state.0 c.args.frame.0 ≡ Some c.in-Some.number.now = search rules in
    c.self.invariant.below c.args.state.0 c.args.frame.0 c.in-Some.number.now found
