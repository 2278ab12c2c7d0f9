use Rattle.std.proofs.Common.{◌≡◌, [], ◌∷◌, ◌++◌, sym, ap, subst}
use Rattle.std.specs.List.Sorted.{IsPermutation}
use Rattle.k_cheapest.specs.declared.queue.Bucket.{Bucket}
use Rattle.k_cheapest.specs.Buckets.{opens_of, weighed, waiting_in}
use Rattle.k_cheapest.proofs.Buckets.{opened, taken_last}
use Rattle.k_cheapest.proofs.queue.take.Goals as goal

pub returns-in-Ok : goal.returns-in-Ok
returns-in-Ok c =
    let left : Bucket = record { first = c.args.bucket.first; more = c.pop.new.self } in
    let grown : opens_of c.args.bucket ≡ opens_of left ++ c.in-Some.last ∷ [] = ap (λ l. c.args.bucket.first ∷ l) c.in-Some.ensures.items in
    taken_last c.args.weight c.args.bucket left c.in-Some.last grown c.args.buckets.now.entries c.insert.new.self.entries
    (subst (λ v. IsPermutation (weighed c.args.weight left ++ waiting_in c.args.buckets.now.entries) (waiting_in v)) (sym c.in-Ok.ensures.entries)
    (opened c.args.weight left c.args.buckets.now.entries c.requires))
