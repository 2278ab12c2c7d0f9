use Rattle.std.proofs.Common.{◌∙◌, map, sym, ap, subst}
use Rattle.std.specs.Rc.{rc_str_bytes}
use Rattle.kept_table.specs.Gathering.{types_of}
use Rattle.kept_table.specs.Rows.{IsTableOf}
use Rattle.kept_table.proofs.TableOf.{rows_are}
use Rattle.kept_table.proofs.building.table_of.Goals as goal

pub new-requires : goal.new-requires
new-requires c =
    rows_are (map rc_str_bytes c.into_types.result.keys) c.tests.result.now c.in_ok-rows.rows.items
    (c.into_types.ensures ∙ ap types_of (sym c.tests.ensures.tests)) c.in_ok-rows.ensures

pub returns : goal.returns
returns c =
    subst (λ all. IsTableOf all c.new.result) c.tests.ensures.tests
    (record {
      rows = c.in_ok-rows.rows.items;
      are_rows = c.in_ok-rows.ensures;
      table_is = c.new.ensures;
      once = c.tests.ensures.once.once;
    })
