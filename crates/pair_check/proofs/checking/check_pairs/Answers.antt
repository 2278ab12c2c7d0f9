use Rattle.std.proofs.lemmas.Result.{err_from_is_err_and}
use Rattle.std.specs.List.{All}
use Rattle.ml_base.specs.declared.numbers.StateNo.{StateNo}
use Rattle.std.proofs.Common.{List}
use Rattle.segment_grammar.specs.declared.potentials.Pot.{Pot}
use Rattle.segment_grammar.proofs.Rising.{accepted}
use Rattle.pair_check.specs.Rules.{BeginAtZero, HasRoot, StartsAreListed}
use Rattle.pair_check.proofs.checking.check_pairs.Goals as goal

begun : (starts : List StateNo) (pots : List Pot) → StartsAreListed starts pots → All (HasRoot pots) pots → BeginAtZero starts pots
begun starts pots listed roots = record { starts_listed = listed; roots_listed = roots }

pub returns-in_err-check_roots-clause-err : goal.returns-in_err-check_roots-clause-err
returns-in_err-check_roots-clause-err c =
    let p = err_from_is_err_and c.from_residual.result c.from_residual.ensures.1 in
    let listed = accepted _ c.are_starts_listed.ensures c.if-not-are_starts_listed.false in
    rw (p.1, p.2) (c.in_err-check_roots.ensures.err c.args.machine.now.steps c.args.starts.now listed)

pub returns-in_err-check_extended-clause-err : goal.returns-in_err-check_extended-clause-err
returns-in_err-check_extended-clause-err c =
    let p = err_from_is_err_and c.from_residual-in_err-check_extended.result c.from_residual-in_err-check_extended.ensures.1 in
    let listed = accepted _ c.are_starts_listed.ensures c.if-not-are_starts_listed.false in
    let begins = begun c.args.starts.now c.args.pots.now listed c.in_ok-check_roots.ensures.ok in
    rw (p.1, p.2) (c.in_err-check_extended.ensures.err c.args.starts.now begins)

pub returns-in_err-check_opened-clause-err : goal.returns-in_err-check_opened-clause-err
returns-in_err-check_opened-clause-err c =
    let p = err_from_is_err_and c.from_residual-in_err-check_opened.result c.from_residual-in_err-check_opened.ensures.1 in
    let listed = accepted _ c.are_starts_listed.ensures c.if-not-are_starts_listed.false in
    let begins = begun c.args.starts.now c.args.pots.now listed c.in_ok-check_roots.ensures.ok in
    rw (p.1, p.2) (c.in_err-check_opened.ensures.err c.args.starts.now begins c.in_ok-check_extended.ensures.ok)

pub returns-in_err-check_nested-clause-err : goal.returns-in_err-check_nested-clause-err
returns-in_err-check_nested-clause-err c =
    let p = err_from_is_err_and c.from_residual-in_err-check_nested.result c.from_residual-in_err-check_nested.ensures.1 in
    let listed = accepted _ c.are_starts_listed.ensures c.if-not-are_starts_listed.false in
    let begins = begun c.args.starts.now c.args.pots.now listed c.in_ok-check_roots.ensures.ok in
    rw (p.1, p.2) (c.in_err-check_nested.ensures.err c.args.starts.now begins c.in_ok-check_extended.ensures.ok c.in_ok-check_opened.ensures.ok)

pub returns-clause-ok : goal.returns-clause-ok
returns-clause-ok c =
    let listed = accepted _ c.are_starts_listed.ensures c.if-not-are_starts_listed.false in
    record {
      begins = begun c.args.starts.now c.args.pots.now listed c.in_ok-check_roots.ensures.ok;
      extends = c.in_ok-check_extended.ensures.ok;
      opens = c.in_ok-check_opened.ensures.ok;
      nests = c.in_ok-check_nested.ensures.ok;
    }
