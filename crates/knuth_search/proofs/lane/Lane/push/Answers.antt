use Rattle.std.proofs.Common.{◌∷◌, ◌∙◌, subst}
use Rattle.std.specs.List.Sorted.{IsPermutation}
use Rattle.std.proofs.lemmas.Result.{IfOk-weaker, on_err_weaker}
use Rattle.knuth_search.specs.Buckets.{candidates_of}
use Rattle.knuth_search.proofs.Buckets.{into_lane, lane_kept}
use Rattle.knuth_search.proofs.lane.Lane.push.Goals as goal

pub returns-clause-waiting : goal.returns-clause-waiting
returns-clause-waiting c = IfOk-weaker c.put.result _ _ (λ _ moved. subst (λ l. IsPermutation (c.args.candidate ∷ l) (candidates_of c.self.inside.left.items c.put.new.buckets.entries)) c.self.view_is
    (into_lane c.self.inside.left.items c.self.inside.buckets.entries c.put.new.buckets.entries c.args.candidate moved)) c.put.ensures.waiting

pub returns-clause-refused : goal.returns-clause-refused
returns-clause-refused c = on_err_weaker c.put.result (λ same. lane_kept c.self.inside.left.items c.self.inside.buckets.entries c.put.new.buckets.entries same ∙ c.self.view_is) c.put.ensures.refused
