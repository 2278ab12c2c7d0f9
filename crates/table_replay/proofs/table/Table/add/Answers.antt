use Rattle.std.proofs.Common.{◌∙◌, ap, Some}
use Rattle.table_replay.specs.Tabled.{slot_at, slot_with}
use Rattle.table_replay.proofs.Slots.{apart_test}
use Rattle.table_replay.proofs.table.Table.add.Goals as goal

pub returns-clause-adds : goal.returns-clause-adds
returns-clause-adds c = record {
  here = c.in-Ok.ensures.updates.1 ∙ ap (λ s. Some s) (c.slot_with-slot.ensures ∙ ap (λ s. slot_with s c.args.number) (c.get.ensures.value ∙ ap (λ slots. slot_at slots c.args.place) c.self.view_is));
  others = λ other apart. c.in-Ok.ensures.updates.2 other (apart_test c.args.place other apart) ∙ ap (λ slots. slot_at slots other) c.self.view_is;
}
