-- Which walks are asked for, and what they are made of.
use Rattle.std.specs.Prelude.{List, length}
use Rattle.ml_base.specs.declared.numbers.StateNo.{StateNo}
use Rattle.adapt_machine.specs.declared.MachineStep.{MachineStep}
use Rattle.knuth_search.specs.Settled.{ArePotentials}
use Rattle.k_cheapest.specs.Ways.{AreWays}
use Rattle.k_cheapest.specs.declared.setting.Setting.{Setting}

abbrev pub steps_in : Setting → List MachineStep
steps_in s = s.machine.now.steps

abbrev pub starts_in : Setting → List StateNo
starts_in s = s.starts.now

abbrev pub targets_in : Setting → List StateNo
targets_in s = s.targets.now

-- the least weights and the rows are those of the machine and its starts
pub record IsSetting (s : Setting) : Type 0 where
  pub potentials : ArePotentials (steps_in s) (starts_in s) s.potentials.now
  pub ways : AreWays s.machine.now (length (steps_in s)) s.ways.now
