use Rattle.std.proofs.Common.{◌≡◌}
use Rattle.deriv_arena.specs.Derivation.{IsOver}
use Rattle.route_unfold.proofs.tests.tower.Given as goal

abbrev pub invariant-levels : goal.invariant-levels
invariant-levels l = record { over : IsOver l.machine.steps l.made; first : l.made.first ≡ record { 0 = 0 }; last : l.made.last ≡ record { 0 = 0 } }
