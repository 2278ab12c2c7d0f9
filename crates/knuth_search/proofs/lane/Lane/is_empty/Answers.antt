use Rattle.std.proofs.Common.{arith, ◌≡◌, length, vec_len}
use Rattle.knuth_search.proofs.Buckets.{by_buckets, by_left}
use Rattle.knuth_search.proofs.lane.Lane.is_empty.Goals as goal

pub returns-then-is_empty : goal.returns-then-is_empty
returns-then-is_empty c =
    let long : vec_len c.self.inside.left ≡ length c.self.inside.left.items = omega (arith, c.self.inside.left.ok.0) in
    by_buckets c.self.inside.left.items c.self.inside.buckets.entries c.args.self.now c.self.view_is c.is_empty-then-is_empty.result (vec_len c.self.inside.left) long c.if-is_empty.ensures c.is_empty-then-is_empty.ensures

pub returns-else-is_empty : goal.returns-else-is_empty
returns-else-is_empty c =
    let long : vec_len c.self.inside.left ≡ length c.self.inside.left.items = omega (arith, c.self.inside.left.ok.0) in
    by_left c.self.inside.left.items c.self.inside.buckets.entries c.args.self.now c.self.view_is c.is_empty.result (vec_len c.self.inside.left) long c.is_empty.ensures c.if-is_empty.false
