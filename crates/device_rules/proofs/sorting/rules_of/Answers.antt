use Rattle.std.proofs.Common.{◌≡◌, ◌∙◌, ap, subst, sym, List, Result, Ok, Err}
use Rattle.std.specs.Prelude.{IfOk}
use Rattle.std.proofs.lemmas.List.Elements.{recursion_from_All}
use Rattle.std.proofs.lemmas.List.Sorted.{All-permutation}
use Rattle.device_rules.specs.declared.rules.Rule.{Rule}
use Rattle.device_rules.specs.Rules.{Start, IsRule, AreLaidOut}
use Rattle.device_rules.specs.Numbering.{numbered, AreRulesOf}
use Rattle.device_rules.proofs.Ranked.{sorted_are_rules, all_laid_out}
use Rattle.device_rules.proofs.sorting.rules_of.Goals as goal

-- what holds of a list holds of the same list in a result
of_result : {E : Type 0} (P : List Rule → Type 0) (r : Result (List Rule) E) (rs : List Rule) → IfOk r (λ list. list ≡ rs) → P rs → IfOk r P
of_result P (Ok list) rs is p = subst P (sym is) p
of_result P (Err e) rs is p = tt

pub returns-clause-rules : goal.returns-clause-rules
returns-clause-rules c =
    of_result (AreRulesOf c.args.hops.now) c.listed.result _ c.listed.ensures
    (sorted_are_rules c.args.hops.now c.in_ok-rules.rules.items _ (c.in_ok-rules.ensures.numbered ∙ ap (numbered 1) c.as_slice.ensures) c.in_ok-sort_rules.ensures.same c.in_ok-sort_rules.ensures.sorted)

pub returns-clause-laid_out : goal.returns-clause-laid_out
returns-clause-laid_out c =
    let are = sorted_are_rules c.args.hops.now c.in_ok-rules.rules.items _ (c.in_ok-rules.ensures.numbered ∙ ap (numbered 1) c.as_slice.ensures) c.in_ok-sort_rules.ensures.same c.in_ok-sort_rules.ensures.sorted in
    of_result (AreLaidOut Start) c.listed.result _ c.listed.ensures
    (all_laid_out Start _ (recursion_from_All IsRule _ (All-permutation IsRule _ _ c.in_ok-sort_rules.ensures.same c.in_ok-rules.ensures.fit)) are.in_order)
