use Rattle.label_atoms.proofs.Names.{ok_then}
use Rattle.kept_table.proofs.TableOf.{table_of}
use Rattle.kept_table.proofs.building.kept_of.Goals as goal

pub returns : goal.returns
returns c = ok_then _ _ _ (λ table is. table_of c.args.inventory.now c.args.request.now c.in_ok-gathered.gathered table c.in_ok-gathered.ensures is) c.table_of.ensures
