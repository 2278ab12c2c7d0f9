-- The rules carry exactly where their hops are a walk.
use Rattle.std.proofs.Common.{◌≡◌, ℕ, List, Bool, length, sym, ap, subst}
use Rattle.std.specs.Prelude.{◌↔◌}
use Rattle.circuit_spec.specs.declared.hops.Hop.{Hop}
use Rattle.circuit_spec.specs.Network.{Topology}
use Rattle.circuit_spec.specs.Steps.{Walk}
use Rattle.answer_spec.specs.declared.answer.Answer.{Answer}
use Rattle.rule_replay.specs.declared.replayed.Replayed.{Replayed as WhatIsTold}
use Rattle.rule_replay.specs.declared.replayed.Replayed.TheVariants.{Carried, NotCarried}
use Rattle.rule_replay.specs.Laws.{Carries}
use Rattle.rule_replay.specs.Replaying.{AreByNumber, IsAsked, IsReplayed}
use Rattle.rule_replay.proofs.Forwarded.{one_text}
use Rattle.rule_replay.proofs.Single.{walk_carries}

WalkOf : Topology → Answer → Type 0
WalkOf T a = (hops : List Hop) × AreByNumber a.rules hops × Walk T a.request hops

walk_of : (T : Topology) (bytes : List ℕ) (a : Answer) (shown : WhatIsTold) → IsAsked T bytes a → IsReplayed T bytes shown → Carries shown → WalkOf T a
unfolding WalkOf
walk_of T bytes a (Carried n any_order) is (b, hops, so, count, walk, any) carries =
    let same : b ≡ a = one_text b a bytes so.asked.spells is.spells in
    subst (λ (z : Answer). (others : List Hop) × AreByNumber z.rules others × Walk T z.request others) same (hops, so.by_number, walk)
walk_of T bytes a (NotCarried n why) is told carries = absurd carries

pub carried_walks : (T : Topology) (bytes : List ℕ) (a : Answer) (shown : WhatIsTold) → IsAsked T bytes a → IsReplayed T bytes shown → Carries shown ↔ ((hops : List Hop) × AreByNumber a.rules hops × Walk T a.request hops)
unfolding WalkOf
carried_walks T bytes a shown is told = (
  λ carries. walk_of T bytes a shown is told carries,
  λ walk. let found = walk_carries T one_text bytes a walk.0 shown is told walk.1 walk.2 in
      subst Carries (sym found.1) tt,
)
