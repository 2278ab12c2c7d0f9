use Rattle.std.proofs.Common.{◌≡◌, length}
use Rattle.k_cheapest.proofs.Numbers.{SameBelow}
use Rattle.k_cheapest.proofs.listing.is_same.Given as goal

abbrev pub invariant-loop-place : goal.invariant-loop-place
invariant-loop-place l = record { long : length l.one ≡ length l.other; same : SameBelow l.one l.other l.place }
