use Rattle.label_atoms.specs.declared.pieces.Piece.{Piece}
use Rattle.label_atoms.proofs.Named.{naming_more_at, naming_start, naming_whole}
use Rattle.label_atoms.proofs.spans.ranges_by_name.Goals as goal

pub loop-piece-init : goal.loop-piece-init
loop-piece-init c = λ q. rw c.new-ranges.ensures.empty (naming_start c.args.pieces.now q c.requires)

pub loop-piece-preserved : goal.loop-piece-preserved
loop-piece-preserved c = λ q.
    let d : Piece = record { start = 0; name = 0 } in
    rw (c.in_ok-add_span.ensures q) (naming_more_at _ _ d _ _ _ _ (c.loop-piece.invariant q) c.loop-piece-test.true)

pub returns : goal.returns
returns c = λ q. naming_whole _ _ q _ _ _ _ (c.loop-piece.invariant q) c.loop-piece-test.false (c.in_ok-add_span-2.ensures q)
