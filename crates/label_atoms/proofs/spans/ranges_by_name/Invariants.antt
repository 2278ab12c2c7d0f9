use Rattle.std.proofs.Common.{ℕ, drop}
use Rattle.label_atoms.specs.Spans.{ranges_of}
use Rattle.label_atoms.proofs.Named.{Naming}
use Rattle.label_atoms.proofs.spans.ranges_by_name.Given as goal

abbrev pub invariant-loop-piece : goal.invariant-loop-piece
invariant-loop-piece l = (q : ℕ) → Naming l.pieces (drop l.piece-index l.pieces) q l.start l.last (ranges_of l.ranges q)
