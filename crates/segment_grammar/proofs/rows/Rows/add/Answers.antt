use Rattle.std.proofs.Common.{arith, ◌≡◌, ◌<◌, ◌∷◌, ◌++◌, [], length}
use Rattle.std.proofs.lemmas.Grind.{common_steps}
use Rattle.segment_grammar.proofs.RowsOf.{item_added, item_refused, same_seen, in_any_case}
use Rattle.segment_grammar.proofs.rows.Rows.add.Goals as goal

pub returns-clause-added : goal.returns-clause-added
returns-clause-added g c =
    let pushed : c.push.new.self.items ≡ c.index_mut.result.now.items ++ c.args.item ∷ [] = grind (arith, common_steps) in
    let there : c.args.row < length c.grow.new.lists.items = omega (arith, c.in_ok-grow.ensures.enough) in
    item_added (λ v. v.items) c.self.inside.lists.items c.grow.new.lists.items c.self.inside.count c.self.invariant c.args.self.now c.self.view_is c.args.row c.requires c.in_ok-grow.ensures.grown
    c.index_mut.result.now c.push.new.self c.args.item there c.index_mut.ensures.value pushed

pub returns-then-is_err-clause-refused : goal.returns-then-is_err-clause-refused
returns-then-is_err-clause-refused g c =
    let same : c.push.new.self.items ≡ c.index_mut.result.now.items = grind (arith, common_steps) in
    item_refused (λ v. v.items) c.self.inside.lists.items c.grow.new.lists.items c.self.inside.count c.self.invariant c.args.self.now c.self.view_is c.args.row c.requires c.in_ok-grow.ensures.grown
    c.index_mut.result.now c.push.new.self c.index_mut.ensures.value same

pub returns-in_err-grow-clause-refused : goal.returns-in_err-grow-clause-refused
returns-in_err-grow-clause-refused g c = in_any_case c.from_residual.result
    (same_seen (λ v. v.items) c.self.inside.lists.items c.grow.new.lists.items c.self.inside.count c.self.invariant c.args.self.now c.self.view_is c.args.row c.requires c.in_err-grow.ensures.grown)
