use Rattle.std.proofs.Common.{◌∙◌, ap}
use Rattle.table_replay.proofs.Places.{make_place}
use Rattle.rule_replay.proofs.Ending.{class_named}
use Rattle.rule_replay.proofs.replaying.first_place.Goals as goal

pub unreachable-requires : goal.unreachable-requires
unreachable-requires c = c.in-None.ensures c.requires.0.0 c.requires.0.1

pub returns : goal.returns
returns c =
    let is = c.in-Some.ensures in (
      is.class,
      is.is_class,
      ap (λ n. make_place n c.first_label.result) (c.in_ok-share-in-Some.ensures ∙ class_named c.args.inventory.now c.args.request.now.from c.in-Some.class.0 is c.name.result.now c.name.ensures)
          ∙ ap (make_place is.class.id) c.first_label.ensures,
    )
