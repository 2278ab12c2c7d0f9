-- A task that is done leaves the same steps, and less to do.
use Rattle.std.proofs.Common.{◌≡◌, ℕ, ◌+◌, ◌<◌, List, [], ◌∷◌, ◌++◌, refl, sym, ◌∙◌, ap, arith, append_assoc, Bor}
use Rattle.std.proofs.lemmas.List.{append-nil}
use Rattle.ml_base.specs.declared.numbers.StepNo.{StepNo}
use Rattle.deriv_arena.specs.declared.Deriv.{Deriv}
use Rattle.deriv_arena.specs.declared.DerivForm.{Root, Flat, Nest}
use Rattle.deriv_arena.specs.Derivation.{form_of, steps_of, unfolding_of}
use Rattle.route_unfold.specs.declared.tasks.Task.{Task}
use Rattle.route_unfold.specs.declared.tasks.Task.TheVariants.{Walk, Step}
use Rattle.route_unfold.specs.Tasks.{steps_of_task, steps_of_tasks, work_of_form, work_of_task, work_of, Does}

pub steps_of_tasks-push : (ts : List Task) (t : Task) → steps_of_tasks (ts ++ t ∷ []) ≡ steps_of_tasks ts ++ steps_of_task t
steps_of_tasks-push [] t = append-nil (steps_of_task t)
steps_of_tasks-push (a ∷ ts) t = ap (λ v. steps_of_task a ++ v) (steps_of_tasks-push ts t) ∙ sym (append_assoc (steps_of_task a) (steps_of_tasks ts) (steps_of_task t))

pub work_of-push : (ts : List Task) (t : Task) → work_of (ts ++ t ∷ []) ≡ work_of ts + work_of_task t
work_of-push [] t = omega arith
work_of-push (a ∷ ts) t = omega (arith, work_of-push ts t)

pub does_step : (tasks : List Task) (out out' : List ℕ) (s : StepNo) → out' ≡ s.0 ∷ out → Does (Step s) tasks out tasks out'
does_step tasks out out' s e = record { steps = ap (λ v. steps_of_tasks tasks ++ v) e; work = refl }

pub does_root : (tasks : List Task) (out : List ℕ) (d : Bor Deriv) → form_of d.now ≡ Root → Does (Walk d) tasks out tasks out
does_root tasks out d e = record {
  steps = ap (λ v. steps_of_tasks tasks ++ (steps_of v ++ out)) (sym e);
  work = ap (λ v. work_of tasks + work_of_form v) (sym e);
}

pub does_flat : (tasks tasks' : List Task) (out out' : List ℕ) (d prev : Bor Deriv) (s : StepNo) → form_of d.now ≡ Flat prev s
    → tasks' ≡ tasks ++ Walk prev ∷ [] → out' ≡ s.0 ∷ out → Does (Walk d) tasks out tasks' out'
does_flat tasks tasks' out out' d prev s form e f = record {
  steps = rw (e, f, form, steps_of_tasks-push tasks (Walk prev)) (simp append_assoc);
  work = rw (e, form) (omega (arith, work_of-push tasks (Walk prev)));
}

pub does_nest : (tasks one two three : List Task) (out out' : List ℕ) (d prev inner : Bor Deriv) (push pop : StepNo) → form_of d.now ≡ Nest prev push inner pop
    → one ≡ tasks ++ Walk prev ∷ [] → two ≡ one ++ Step push ∷ [] → three ≡ two ++ Walk inner ∷ [] → out' ≡ pop.0 ∷ out → Does (Walk d) tasks out three out'
does_nest tasks one two three out out' d prev inner push pop form e f g h = record {
  steps =
      let p : steps_of_tasks three ≡ ((steps_of_tasks tasks ++ unfolding_of prev.now) ++ push.0 ∷ []) ++ unfolding_of inner.now =
      ap steps_of_tasks g ∙ steps_of_tasks-push two (Walk inner) ∙ ap (λ v. v ++ unfolding_of inner.now)
      (ap steps_of_tasks f ∙ steps_of_tasks-push one (Step push) ∙ ap (λ v. v ++ push.0 ∷ []) (ap steps_of_tasks e ∙ steps_of_tasks-push tasks (Walk prev))) in
      rw (p, h, form) (simp append_assoc);
  work =
      let p : work_of three ≡ work_of tasks + work_of_form (form_of prev.now) + 1 + work_of_form (form_of inner.now) =
      ap work_of g ∙ work_of-push two (Walk inner) ∙ ap (λ v. v + work_of_form (form_of inner.now))
      (ap work_of f ∙ work_of-push one (Step push) ∙ ap (λ v. v + 1) (ap work_of e ∙ work_of-push tasks (Walk prev))) in
      rw form (omega (arith, p));
}

-- one turn of the loop: the task was the last
pub done_more : (all out out' : List ℕ) (before rest after : List Task) (task : Task) → before ≡ rest ++ task ∷ [] → Does task rest out after out'
    → steps_of_tasks before ++ out ≡ all → steps_of_tasks after ++ out' ≡ all
done_more all out out' before rest after task e does is =
    does.steps ∙ sym (append_assoc (steps_of_tasks rest) (steps_of_task task) out) ∙ ap (λ v. v ++ out) (sym (steps_of_tasks-push rest task) ∙ ap steps_of_tasks (sym e)) ∙ is

pub work_less : (out out' : List ℕ) (before rest after : List Task) (task : Task) → before ≡ rest ++ task ∷ [] → Does task rest out after out' → work_of after < work_of before
work_less out out' before rest after task e does = rw e (omega (arith, work_of-push rest task, does.work))
