use Rattle.std.proofs.Common.{◌≡◌, []}
use Rattle.std.specs.List.{AllWithin}
use Rattle.knuth_search.proofs.queue.first_waiting.Given as goal

abbrev pub invariant-loop-number : goal.invariant-loop-number
invariant-loop-number l = AllWithin (λ lane. lane ≡ []) l.lanes 0 l.number
