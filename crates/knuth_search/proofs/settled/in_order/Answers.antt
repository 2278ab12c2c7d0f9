use Rattle.std.proofs.Common.{rules}
use Rattle.knuth_search.proofs.Gathering.{item_cmp, item_cases, in_order_from_sort}
use Rattle.knuth_search.proofs.settled.in_order.Goals as goal

pub returns-clause-order : goal.returns-clause-order
returns-clause-order c = in_order_from_sort (λ d. (d.root, d.state, d.weight)) item_cmp _ c.sort_unstable_by_key.ensures.sorted (λ a r q k. search rules) item_cases
