use Rattle.std.proofs.Common.{arith, ap, refl, subst, sym, ◌≡◌, ◌∷◌, ◌++◌, [], slice_get, Some, Contains}
use Rattle.std.specs.Prelude.{true}
use Rattle.std.proofs.lemmas.Grind.{common_steps}
use Rattle.ml_base.specs.declared.numbers.StateNo.{StateNo}
use Rattle.ml_base.specs.declared.numbers.Root.TheVariants.{Entry}
use Rattle.segment_grammar.specs.Rows.{row_of}
use Rattle.knuth_search.specs.Tables.{IsKept, IsAt, AreStored}
use Rattle.knuth_search.proofs.Filed.{files_same, stored_kept, stored_pushed}
use Rattle.knuth_search.proofs.table.Table.put.Goals as goal

pub invariant_of-self : goal.invariant_of-self
invariant_of-self c = stored_kept (record { machine = c.self.inside.machine.now; starts = c.self.inside.starts.now }) c.self.inside.index.now c.self.inside.items.items c.self.inside.by_root c.self.inside.by_state c.self.inside.pops.items c.self.invariant c.args.next (subst (λ t. IsKept t c.args.next) (sym (ap (λ v. v.task) c.self.view_is)) c.requires) c.file_inner.new.rows c.self.inside.by_state c.file_inner.ensures.files (files_same IsAt c.args.next c.self.inside.by_state c.self.inside.by_state refl)

pub invariant_of-self-in_err-file_waiting : goal.invariant_of-self-in_err-file_waiting
invariant_of-self-in_err-file_waiting c = stored_kept (record { machine = c.self.inside.machine.now; starts = c.self.inside.starts.now }) c.self.inside.index.now c.self.inside.items.items c.self.inside.by_root c.self.inside.by_state c.self.inside.pops.items c.self.invariant c.args.next (subst (λ t. IsKept t c.args.next) (sym (ap (λ v. v.task) c.self.view_is)) c.requires) c.file_inner.new.rows c.file_waiting.new.rows c.file_inner.ensures.files c.file_waiting.ensures.files

pub invariant_of-self-then-is_err : goal.invariant_of-self-then-is_err
invariant_of-self-then-is_err c =
    let same : c.push.new.self.items ≡ c.self.inside.items.items = grind (arith, common_steps) in
    subst (λ v. AreStored (record { machine = c.self.inside.machine.now; starts = c.self.inside.starts.now }) c.self.inside.index.now v c.file_inner.new.rows c.file_waiting.new.rows c.self.inside.pops.items) (sym same)
    (stored_kept (record { machine = c.self.inside.machine.now; starts = c.self.inside.starts.now }) c.self.inside.index.now c.self.inside.items.items c.self.inside.by_root c.self.inside.by_state c.self.inside.pops.items c.self.invariant c.args.next (subst (λ t. IsKept t c.args.next) (sym (ap (λ v. v.task) c.self.view_is)) c.requires) c.file_inner.new.rows c.file_waiting.new.rows c.file_inner.ensures.files c.file_waiting.ensures.files)

pub invariant_of-self-2 : goal.invariant_of-self-2
invariant_of-self-2 c =
    let kept : IsKept (record { machine = c.self.inside.machine.now; starts = c.self.inside.starts.now }) c.args.next = subst (λ t. IsKept t c.args.next) (sym (ap (λ v. v.task) c.self.view_is)) c.requires in
    let pushed : c.push.new.self.items ≡ c.self.inside.items.items ++ c.args.next ∷ [] = grind (arith, common_steps) in
    stored_pushed (record { machine = c.self.inside.machine.now; starts = c.self.inside.starts.now }) c.self.inside.index.now c.self.inside.items.items c.file_inner.new.rows c.file_waiting.new.rows c.self.inside.pops.items
    (stored_kept (record { machine = c.self.inside.machine.now; starts = c.self.inside.starts.now }) c.self.inside.index.now c.self.inside.items.items c.self.inside.by_root c.self.inside.by_state c.self.inside.pops.items c.self.invariant c.args.next kept c.file_inner.new.rows c.file_waiting.new.rows c.file_inner.ensures.files c.file_waiting.ensures.files)
    c.args.next kept
    (subst (λ l. slice_get l c.args.next.state.0 ≡ Some true → (x : StateNo) → c.args.next.root ≡ Entry x → Contains (row_of c.file_inner.new.rows x.0) c.args.next) c.as_slice.ensures.value c.in_ok-file_inner.ensures.here)
    (c.in_ok-file_waiting.ensures.here c.self.inside.machine.now c.self.invariant.indexed)
    c.push.new.self.items pushed
