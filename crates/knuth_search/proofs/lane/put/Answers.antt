use Rattle.std.proofs.Common.{◌≡◌, [], ◌∷◌, sym, ◌∙◌, ap, subst}
use Rattle.std.specs.BTreeMap.{insert_entry}
use Rattle.std.specs.List.Sorted.{IsPermutation}
use Rattle.std.proofs.lemmas.Result.{IfOk-weaker, on_err_weaker}
use Rattle.ml_base.specs.contracts.weight.WeightOrd.TheImpl.{ghosts}
use Rattle.knuth_search.specs.declared.lane.Bucket.{Bucket}
use Rattle.knuth_search.specs.Buckets.{bucket_items, waiting_in}
use Rattle.knuth_search.proofs.Buckets.{put_in, kept_in, opened}
use Rattle.knuth_search.proofs.lane.put.Goals as goal

pub returns-in-Some-clause-waiting : goal.returns-in-Some-clause-waiting
returns-in-Some-clause-waiting c = IfOk-weaker c.join.result _ _ (λ _ grown. subst (λ es. IsPermutation (c.args.candidate ∷ waiting_in c.args.buckets.now.entries) (waiting_in es)) (sym (c.get_mut.follows.holds c.join.new.bucket).0)
    (put_in _ c.in-Some.bucket.now c.join.new.bucket c.args.candidate grown c.args.buckets.now.entries (sym c.in-Some.ensures.value))) c.join.ensures.joined

pub returns-in-Some-clause-refused : goal.returns-in-Some-clause-refused
returns-in-Some-clause-refused c = on_err_weaker c.join.result (λ same. ap (λ es. waiting_in es) (c.get_mut.follows.holds c.join.new.bucket).0
    ∙ kept_in _ c.in-Some.bucket.now c.join.new.bucket same c.args.buckets.now.entries (sym c.in-Some.ensures.value)) c.join.ensures.refused

pub returns-in-Ok-clause-waiting : goal.returns-in-Ok-clause-waiting
returns-in-Ok-clause-waiting c =
    let alone : Bucket = record { first = c.args.candidate; more = c.new.result } in
    let one : bucket_items alone ≡ c.args.candidate ∷ [] = ap (λ l. c.args.candidate ∷ l) c.new.ensures.items in
    subst (λ es. IsPermutation (c.args.candidate ∷ waiting_in c.args.buckets.now.entries) (waiting_in es)) (sym c.in-Ok.ensures.entries)
    (subst (λ m. IsPermutation (c.args.candidate ∷ waiting_in c.args.buckets.now.entries) (waiting_in (insert_entry ghosts.cmp m.entries c.args.candidate.weight alone))) (sym c.get_mut.follows.holds-at-none)
    (opened ghosts.cmp c.args.candidate.weight alone c.args.candidate one c.args.buckets.now.entries (sym c.in-None.ensures.value)))
