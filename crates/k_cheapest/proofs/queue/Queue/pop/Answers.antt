use Rattle.k_cheapest.proofs.Buckets.{first_taken}
use Rattle.k_cheapest.proofs.queue.Queue.pop.Goals as goal

pub returns-clause-some : goal.returns-clause-some
returns-clause-some c = first_taken c.in-Some.weight c.in-Some.bucket c.args.self.now.buckets.entries c.pop_first.new.self.entries c.take.new.buckets.entries c.in_ok-set.set
    c.in-Some.ensures.removal c.in-Some.ensures.all_above c.in_ok-set.ensures
