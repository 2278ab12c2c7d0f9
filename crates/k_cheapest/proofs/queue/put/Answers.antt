use Rattle.std.proofs.Common.{◌≡◌, [], ◌∷◌, sym, ap, subst}
use Rattle.std.specs.BTreeMap.{insert_entry}
use Rattle.std.specs.List.Sorted.{IsPermutation}
use Rattle.std.proofs.lemmas.Result.{IfOk-weaker}
use Rattle.ml_base.specs.contracts.weight.WeightOrd.TheImpl.{ghosts}
use Rattle.k_cheapest.specs.declared.queue.Bucket.{Bucket}
use Rattle.k_cheapest.specs.Buckets.{opens_of, weighing, waiting_in}
use Rattle.k_cheapest.proofs.Buckets.{put_in, opened_alone}
use Rattle.k_cheapest.proofs.queue.put.Goals as goal

pub returns-in-Some : goal.returns-in-Some
returns-in-Some c = IfOk-weaker c.join.result _ _ (λ _ grown. subst (λ es. IsPermutation (weighing c.args.weight c.args.set ∷ waiting_in c.args.buckets.now.entries) (waiting_in es)) (sym (c.get_mut.follows.holds c.join.new.bucket).0)
    (put_in c.args.weight c.in-Some.bucket.now c.join.new.bucket c.args.set grown c.args.buckets.now.entries (sym c.in-Some.ensures.value))) c.join.ensures

pub returns-in-Ok : goal.returns-in-Ok
returns-in-Ok c =
    let alone : Bucket = record { first = c.args.set; more = c.new.result } in
    let one : opens_of alone ≡ c.args.set ∷ [] = ap (λ l. c.args.set ∷ l) c.new.ensures.items in
    subst (λ es. IsPermutation (weighing c.args.weight c.args.set ∷ waiting_in c.args.buckets.now.entries) (waiting_in es)) (sym c.in-Ok.ensures.entries)
    (subst (λ m. IsPermutation (weighing c.args.weight c.args.set ∷ waiting_in c.args.buckets.now.entries) (waiting_in (insert_entry ghosts.cmp m.entries c.args.weight alone))) (sym c.get_mut.follows.holds-at-none)
    (opened_alone c.args.weight alone c.args.set one c.args.buckets.now.entries (sym c.in-None.ensures.value)))
