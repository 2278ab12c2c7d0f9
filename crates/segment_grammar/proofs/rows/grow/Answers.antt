use Rattle.std.proofs.Common.{arith, ◌≡◌, ◌+◌, [], ◌∷◌, ◌++◌, length, map, subst, sym}
use Rattle.std.proofs.lemmas.Grind.{common_steps}
use Rattle.segment_grammar.specs.Rows.{IsGrown}
use Rattle.segment_grammar.proofs.RowsOf.{grown_begun, grown_push}
use Rattle.segment_grammar.proofs.rows.grow.Goals as goal

pub loop-init : goal.loop-init
loop-init g c = (grown_begun (map (λ v. v.items) c.args.lists.now.items) c.args.count, omega (arith, c.len-counter.ensures, c.args.lists.now.ok.0))

pub returns-then-is_err-clause-grown : goal.returns-then-is_err-clause-grown
returns-then-is_err-clause-grown g c =
    let same : c.push.new.self.items ≡ c.loop.lists.items = grind (arith, common_steps) in
    subst (λ l. IsGrown (map (λ v. v.items) c.args.lists.now.items) c.args.count (map (λ v. v.items) l)) (sym same) c.loop.invariant.0

pub loop-preserved : goal.loop-preserved
loop-preserved g c =
    let pushed : c.push.new.self.items ≡ c.loop.lists.items ++ c.new.result ∷ [] = grind (arith, common_steps) in
    let longer : length c.push.new.self.items ≡ length c.loop.lists.items + 1 = grind (arith, common_steps) in (
      grown_push (λ v. v.items) c.args.lists.now.items c.loop.lists.items c.push.new.self.items c.args.count c.loop.counter c.new.result c.new.ensures.items pushed c.loop.invariant.1 (omega arith) c.loop.invariant.0,
      omega (arith, longer, c.loop.invariant.1),
    )

pub returns-clause-grown : goal.returns-clause-grown
returns-clause-grown g c = c.loop.invariant.0

pub returns-clause-enough : goal.returns-clause-enough
returns-clause-enough g c = omega (arith, c.loop.invariant.1)
