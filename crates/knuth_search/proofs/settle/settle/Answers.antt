use Rattle.std.proofs.Common.{◌⊎◌, inl, inr}
use Rattle.knuth_search.specs.Following.{FlatBy, PushedBy, Extends, Fills, SomeStep}
use Rattle.knuth_search.specs.Tables.{pot_of}
use Rattle.knuth_search.proofs.Offering.{offers_then}
use Rattle.knuth_search.proofs.Overtaking.{nested_kept, nested_of}
use Rattle.knuth_search.proofs.settle.settle.Goals as goal

pub pushes-requires-clause-nested : goal.pushes-requires-clause-nested
pushes-requires-clause-nested c = nested_kept c.args.setting.machine.now.steps c.args.table.now.pots _ _ _ c.in_ok-flats.ensures.offers
    (nested_of c.args.setting.machine.now.steps c.args.table.now.pots (pot_of c.args.next) _ _ c.requires.closed c.in_ok-fill.ensures.offers)

pub returns-clause-offers : goal.returns-clause-offers
returns-clause-offers c = offers_then (λ p. Fills c.args.setting.machine.now.steps c.args.table.now.pots (pot_of c.args.next) p) (λ p. Extends c.args.setting.machine.now.steps c.args.table.now.pots (pot_of c.args.next) p) (λ p. Extends c.args.setting.machine.now.steps c.args.table.now.pots (pot_of c.args.next) p ⊎ Fills c.args.setting.machine.now.steps c.args.table.now.pots (pot_of c.args.next) p) _ _ _
    c.in_ok-fill.ensures.offers
    (offers_then (λ p. SomeStep (λ k p. FlatBy c.args.setting.machine.now.steps (pot_of c.args.next) k p) p) (λ p. SomeStep (λ k p. PushedBy c.args.setting.machine.now.steps c.args.table.now.pots (pot_of c.args.next) k p) p) (λ p. Extends c.args.setting.machine.now.steps c.args.table.now.pots (pot_of c.args.next) p) _ _ _ c.in_ok-flats.ensures.offers c.in_ok-pushes.ensures.offers (λ p u. u))
    (λ p u. elim u as (λ v. Fills c.args.setting.machine.now.steps c.args.table.now.pots (pot_of c.args.next) p ⊎ Extends c.args.setting.machine.now.steps c.args.table.now.pots (pot_of c.args.next) p) [ inl e ↦ inr e | inr f ↦ inl f ])
