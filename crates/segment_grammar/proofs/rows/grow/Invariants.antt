use Rattle.std.proofs.Common.{◌≡◌, length, map}
use Rattle.segment_grammar.specs.Rows.{IsGrown}
use Rattle.segment_grammar.proofs.rows.grow.Given as goal

abbrev pub invariant-loop : goal.invariant-loop
invariant-loop g l = IsGrown (map (λ v. v.items) l.initial.lists.items) l.count (map (λ v. v.items) l.lists.items) × (l.counter ≡ length l.lists.items)
