use Rattle.std.proofs.Common.{arith, ◌≡◌, ◌<◌, ◌≤◌, length, sym, subst}
use Rattle.ml_base.specs.declared.weight.Weight.TheVariants.{Past}
use Rattle.ml_base.specs.declared.ends.KEnd.TheVariants as ends
use Rattle.k_cheapest.specs.Items.{waiting_of, Takes}
use Rattle.k_cheapest.specs.Searching.{IsLight}
use Rattle.k_cheapest.specs.Settings.{steps_in, starts_in, targets_in}
use Rattle.k_cheapest.proofs.Finish.{ended, none_other, ends_past, ends_long}
use Rattle.k_cheapest.proofs.Further.{taken_out}
use Rattle.k_cheapest.proofs.run.turn.Goals as goal

pub returns-then-len-k-clause-ended : goal.returns-then-len-k-clause-ended
returns-then-len-k-clause-ended c =
    let enough : length c.args.walks.now ≡ c.args.k = omega arith in
    ended (steps_in c.args.setting) (starts_in c.args.setting) (targets_in c.args.setting) c.args.setting.limit c.args.walks.now (waiting_of c.args.queue.now) c.requires.searches
    c.args.k ends.Enough c.requires.few enough

pub returns-in_default-clause-ended : goal.returns-in_default-clause-ended
returns-in_default-clause-ended c =
    let fewer : length c.args.walks.now < c.args.k = omega arith in
    let none = rw c.in_default.is at c.in_ok-item.ensures.none in
    ended (steps_in c.args.setting) (starts_in c.args.setting) (targets_in c.args.setting) c.args.setting.limit c.args.walks.now (waiting_of c.args.queue.now) c.requires.searches
    c.args.k ends.NoMore c.requires.few
    (fewer, none_other (steps_in c.args.setting) (starts_in c.args.setting) (targets_in c.args.setting) c.args.setting.limit c.args.walks.now (waiting_of c.args.queue.now) c.requires.searches none)

pub returns-in_default-weight-clause-ended : goal.returns-in_default-weight-clause-ended
returns-in_default-weight-clause-ended c =
    let fewer : length c.args.walks.now < c.args.k = omega arith in
    let some = rw c.in-Some.is at c.in_ok-item.ensures.some in
    let past : c.in-Some.item.weight ≡ Past = c.in_default-weight.is in
    ended (steps_in c.args.setting) (starts_in c.args.setting) (targets_in c.args.setting) c.args.setting.limit c.args.walks.now (waiting_of c.args.queue.now) c.requires.searches
    c.args.k ends.Past c.requires.few
    (ends_past (steps_in c.args.setting) (starts_in c.args.setting) (targets_in c.args.setting) c.args.setting.limit c.args.walks.now (waiting_of c.args.queue.now) c.requires.searches
    c.in-Some.item (waiting_of c.pop.new.self) some c.args.k fewer past)

pub returns-then-hops-setting-clause-ended : goal.returns-then-hops-setting-clause-ended
returns-then-hops-setting-clause-ended c =
    let fewer : length c.args.walks.now < c.args.k = omega arith in
    let some = rw c.in-Some.is at c.in_ok-item.ensures.some in
    let over : c.args.setting.limit < c.in-Known.hops = omega arith in
    ended (steps_in c.args.setting) (starts_in c.args.setting) (targets_in c.args.setting) c.args.setting.limit c.args.walks.now (waiting_of c.args.queue.now) c.requires.searches
    c.args.k (ends.Long c.in-Known.cost c.in-Known.hops) c.requires.few
    (ends_long (steps_in c.args.setting) (starts_in c.args.setting) (targets_in c.args.setting) c.args.setting.limit c.args.walks.now (waiting_of c.args.queue.now) c.requires.searches
    c.in-Some.item (waiting_of c.pop.new.self) some c.args.k c.in-Known.cost c.in-Known.hops fewer c.in-Known.is over)

pub step_further-requires-clause-next : goal.step_further-requires-clause-next
step_further-requires-clause-next c =
    let takes : Takes (waiting_of c.args.queue.now) c.in-Some.item (waiting_of c.pop.new.self) = rw c.in-Some.is at c.in_ok-item.ensures.some in
    let within : c.in-Known.hops ≤ c.args.setting.limit = omega arith in
    record {
      searches = taken_out (steps_in c.args.setting) (starts_in c.args.setting) (targets_in c.args.setting) c.args.setting.limit c.args.walks.now (waiting_of c.args.queue.now)
          (waiting_of c.pop.new.self) c.in-Some.item c.requires.searches takes;
      least = λ j d. takes.least j (takes.only j d);
      light = subst (λ w. IsLight c.args.setting.limit w) (sym c.in-Known.is) within;
    }
