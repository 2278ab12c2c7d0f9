use Rattle.std.proofs.Common.{arith, subst, sym, ◌≡◌, ◌++◌, ◌∷◌, []}
use Rattle.std.proofs.lemmas.Grind.{common_steps}
use Rattle.segment_grammar.specs.Pots.{IsRising, IsAboveLast}
use Rattle.segment_grammar.proofs.Rising.{rising_pushed}
use Rattle.segment_grammar.proofs.potentials.Potentials.push.Goals as goal

pub invariant_of-self-2 : goal.invariant_of-self-2
invariant_of-self-2 c =
    let pushed : c.push.new.self.items ≡ c.self.inside.items.items ++ c.args.pot ∷ [] = grind (arith, common_steps) in
    subst IsRising (sym pushed) (rising_pushed c.self.inside.items.items c.args.pot c.self.invariant
    (subst (λ v. IsAboveLast v c.args.pot.root c.args.pot.state) (sym c.self.view_is) c.requires))
