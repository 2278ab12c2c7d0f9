-- Forwarding takes one list of hops and ends in one way.
use Rattle.std.proofs.Common.{◌≡◌, ◌≢◌, ◌⊎◌, inl, inr, ◌<◌, List, [], ◌∷◌, ◌++◌, length, refl, sym, ◌∙◌, ap, subst, arith}
use Rattle.std.specs.List.{Contains}
use Rattle.circuit_spec.specs.declared.hops.Hop.{Hop}
use Rattle.circuit_spec.specs.declared.hops.PlaceName.{PlaceName}
use Rattle.circuit_spec.specs.declared.hops.Unit.{Unit as DataUnit}
use Rattle.circuit_spec.specs.Network.{Topology, Port, Linked, ports}
use Rattle.circuit_spec.specs.Steps.{Step}
use Rattle.circuit_spec.proofs.ClassLemmas.{First-unique}
use Rattle.device_rules.specs.declared.rules.Rule.{Rule}
use Rattle.table_replay.specs.declared.fault.ForwardFault.{ForwardFault}
use Rattle.table_replay.specs.declared.fault.ForwardFault.TheVariants as why
use Rattle.table_replay.specs.Forwarding.{AreLeaving, Ending, EndsBy, Forwards, GoesOn, IsAwayAnew, LeavesFrom, Stops, arrived, place_of, stopped}

-- the rules that leave from a place are one list
pub leaving_one : (T : Topology) (place : PlaceName) (rules one other : List Rule) → AreLeaving T place rules one → AreLeaving T place rules other → one ≡ other
leaving_one T place [] one other a b = a ∙ sym b
leaving_one T place (r ∷ rules) one other (inl a) (inl b) = leaving_one T place rules one other a.1 b.1
leaving_one T place (r ∷ rules) one other (inl a) (inr b) = absurd (a.0 b.0)
leaving_one T place (r ∷ rules) one other (inr a) (inl b) = absurd (b.0 a.0)
leaving_one T place (r ∷ rules) one other (inr (a, (xs, ls, e))) (inr (b, (ys, bs, f))) = e ∙ ap (λ zs. r ∷ zs) (leaving_one T place rules xs ys ls bs) ∙ sym f

none_one : {A : Type 0} (xs : List A) (x : A) → xs ≡ [] → xs ≡ x ∷ [] → ⊥
none_one xs x e f = cc

module _ (T : Topology) (rules : List Rule) (target : PlaceName) (met : List PlaceName) (u : DataUnit) where
  abbrev number : List Rule → List Rule → Type 0
  number xs ys = AreLeaving T (place_of u) rules xs → AreLeaving T (place_of u) rules ys → ⊥

  none_is_not_one : (x : Rule) → number [] (x ∷ [])
  none_is_not_one x a b = let e = leaving_one T (place_of u) rules [] (x ∷ []) a b in cc

  none_is_not_two : (x y : Rule) (zs : List Rule) → number [] (x ∷ y ∷ zs)
  none_is_not_two x y zs a b = let e = leaving_one T (place_of u) rules [] (x ∷ y ∷ zs) a b in cc

  one_is_not_two : (x y z : Rule) (zs : List Rule) → number (x ∷ []) (y ∷ z ∷ zs)
  one_is_not_two x y z zs a b = let e = leaving_one T (place_of u) rules (x ∷ []) (y ∷ z ∷ zs) a b in cc

  one_alone : (x y : Rule) → AreLeaving T (place_of u) rules (x ∷ []) → AreLeaving T (place_of u) rules (y ∷ []) → x ≡ y
  one_alone x y a b = let e = leaving_one T (place_of u) rules (x ∷ []) (y ∷ []) a b in cc

  -- a turn that goes on does not end forwarding
  goes_not_ends : (ending : Ending) (h : Hop) (v : DataUnit) → EndsBy T rules target met u ending → GoesOn T rules target met u h v → ⊥
  goes_not_ends arrived h v e g = g.is_anew.away e.0
  goes_not_ends (stopped (why.Loop at)) h v e g = g.is_anew.anew e.2
  goes_not_ends (stopped (why.NoRule at)) h v e g = none_is_not_one g.rule e.2 g.only
  goes_not_ends (stopped (why.TwoRules at)) h v e g = one_is_not_two g.rule e.2.0 e.2.1 e.2.2 g.only e.2.3
  goes_not_ends (stopped (why.Step at)) h v e g =
      let same = one_alone e.2.0 g.rule e.2.1 g.only in
      e.2.2 v (subst (λ (r : Rule). Step T u r.hop v) (sym same) (subst (λ hop. Step T u hop v) (sym g.hop) g.step))
  goes_not_ends (stopped (why.Left frames)) h v e g = g.is_anew.away e.0
  goes_not_ends (stopped why.NoMemory) h v e g = e

  -- Stopping has one cause.
  stops_one : (f g : ForwardFault) → Stops T rules target met u f → Stops T rules target met u g → f ≡ g
  stops_one (why.Loop a) (why.Loop b) x y = ap (λ p. why.Loop p) (x.0 ∙ sym y.0)
  stops_one (why.Loop a) (why.NoRule b) x y = absurd (y.1.anew x.2)
  stops_one (why.Loop a) (why.TwoRules b) x y = absurd (y.1.anew x.2)
  stops_one (why.Loop a) (why.Step b) x y = absurd (y.1.anew x.2)
  stops_one (why.Loop a) (why.Left n) x y = absurd (x.1 y.0)
  stops_one (why.NoRule a) (why.Loop b) x y = absurd (x.1.anew y.2)
  stops_one (why.NoRule a) (why.NoRule b) x y = ap (λ p. why.NoRule p) (x.0 ∙ sym y.0)
  stops_one (why.NoRule a) (why.TwoRules b) x y = absurd (none_is_not_two y.2.0 y.2.1 y.2.2 x.2 y.2.3)
  stops_one (why.NoRule a) (why.Step b) x y = absurd (none_is_not_one y.2.0 x.2 y.2.1)
  stops_one (why.NoRule a) (why.Left n) x y = absurd (x.1.away y.0)
  stops_one (why.TwoRules a) (why.Loop b) x y = absurd (x.1.anew y.2)
  stops_one (why.TwoRules a) (why.NoRule b) x y = absurd (none_is_not_two x.2.0 x.2.1 x.2.2 y.2 x.2.3)
  stops_one (why.TwoRules a) (why.TwoRules b) x y = ap (λ p. why.TwoRules p) (x.0 ∙ sym y.0)
  stops_one (why.TwoRules a) (why.Step b) x y = absurd (one_is_not_two y.2.0 x.2.0 x.2.1 x.2.2 y.2.1 x.2.3)
  stops_one (why.TwoRules a) (why.Left n) x y = absurd (x.1.away y.0)
  stops_one (why.Step a) (why.Loop b) x y = absurd (x.1.anew y.2)
  stops_one (why.Step a) (why.NoRule b) x y = absurd (none_is_not_one x.2.0 y.2 x.2.1)
  stops_one (why.Step a) (why.TwoRules b) x y = absurd (one_is_not_two x.2.0 y.2.0 y.2.1 y.2.2 x.2.1 y.2.3)
  stops_one (why.Step a) (why.Step b) x y = ap (λ p. why.Step p) (x.0 ∙ sym y.0)
  stops_one (why.Step a) (why.Left n) x y = absurd (x.1.away y.0)
  stops_one (why.Left m) (why.Loop b) x y = absurd (y.1 x.0)
  stops_one (why.Left m) (why.NoRule b) x y = absurd (y.1.away x.0)
  stops_one (why.Left m) (why.TwoRules b) x y = absurd (y.1.away x.0)
  stops_one (why.Left m) (why.Step b) x y = absurd (y.1.away x.0)
  stops_one (why.Left m) (why.Left n) x y = ap (λ k. why.Left k) (x.1 ∙ sym y.1)
  stops_one why.NoMemory g x y = absurd x
  stops_one f why.NoMemory x y = absurd y

  -- at the target with the empty stack nothing stops it
  arrived_not_stopped : (f : ForwardFault) → place_of u ≡ target → u.stack ≡ [] → Stops T rules target met u f → ⊥
  arrived_not_stopped (why.Loop a) at none x = x.1 at
  arrived_not_stopped (why.NoRule a) at none x = x.1.away at
  arrived_not_stopped (why.TwoRules a) at none x = x.1.away at
  arrived_not_stopped (why.Step a) at none x = x.1.away at
  arrived_not_stopped (why.Left n) at none x = let e = ap length none in omega (arith, e, x.1, x.2)
  arrived_not_stopped why.NoMemory at none x = x

  ends_one : (e f : Ending) → EndsBy T rules target met u e → EndsBy T rules target met u f → e ≡ f
  ends_one arrived arrived x y = refl
  ends_one arrived (stopped g) x y = absurd (arrived_not_stopped g x.0 x.1 y)
  ends_one (stopped f) arrived x y = absurd (arrived_not_stopped f y.0 y.1 x)
  ends_one (stopped f) (stopped g) x y = ap (λ k. stopped k) (stops_one f g x y)

module _ (T : Topology) (rules : List Rule) (target : PlaceName) (one_next : (u : DataUnit) (h : Hop) (v w : DataUnit) → Step T u h v → Step T u h w → v ≡ w) where
  -- two turns that go on are one
  goes_one : (met : List PlaceName) (u : DataUnit) (h k : Hop) (v w : DataUnit) → GoesOn T rules target met u h v → GoesOn T rules target met u k w → (h ≡ k) × (v ≡ w)
  goes_one met u h k v w g e =
      let same = one_alone T rules target met u g.rule e.rule g.only e.only in
      let hop : h ≡ k = sym g.hop ∙ ap (λ (r : Rule). r.hop) same ∙ e.hop in
      (hop, one_next u k v w (subst (λ x. Step T u x v) hop g.step) e.step)

  pub one_forwarding : (hops others : List Hop) (met : List PlaceName) (u : DataUnit) (ending other : Ending) → Forwards T rules target met u hops ending → Forwards T rules target met u others other → (hops ≡ others) × (ending ≡ other)
  one_forwarding [] [] met u ending other x y = (refl, ends_one T rules target met u ending other x y)
  one_forwarding [] (k ∷ others) met u ending other x (w, g, y) = absurd (goes_not_ends T rules target met u ending k w x g)
  one_forwarding (h ∷ hops) [] met u ending other (v, g, x) y = absurd (goes_not_ends T rules target met u other h v y g)
  one_forwarding (h ∷ hops) (k ∷ others) met u ending other (v, g, x) (w, e, y) =
      let same = goes_one met u h k v w g e in
      let rest = one_forwarding hops others (met ++ place_of u ∷ []) w ending other (subst (λ z. Forwards T rules target (met ++ place_of u ∷ []) z hops ending) same.1 x) y in
      (ap (λ z. z ∷ hops) same.0 ∙ ap (λ zs. k ∷ zs) rest.0, rest.1)
