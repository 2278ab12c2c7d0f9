use Rattle.std.proofs.Common.{◌∙◌, ap}
use Rattle.table_replay.specs.Tabled.{slot_at}
use Rattle.table_replay.proofs.Slots.{apart_test}
use Rattle.table_replay.proofs.table.Table.take.Goals as goal

pub returns-clause-others : goal.returns-clause-others
returns-clause-others c = λ other apart. c.remove.ensures.updates.2 other (apart_test c.args.place.now other apart) ∙ ap (λ slots. slot_at slots other) c.self.view_is
