use Rattle.std.proofs.Common.{subst, ◌∷◌}
use Rattle.std.specs.List.Sorted.{IsPermutation}
use Rattle.knuth_search.specs.Buckets.{candidates_of}
use Rattle.knuth_search.proofs.Buckets.{out_of_left}
use Rattle.knuth_search.proofs.lane.Lane.pop.Goals as goal

pub returns-in-Some-clause-some : goal.returns-in-Some-clause-some
returns-in-Some-clause-some c = subst (λ l. IsPermutation l (c.in-Some.candidate ∷ candidates_of c.pop.new.self.items c.self.inside.buckets.entries)) c.self.view_is
    (out_of_left c.self.inside.left.items c.pop.new.self.items c.self.inside.buckets.entries c.in-Some.candidate c.in-Some.ensures.items)
