-- The rules on the pairs of a machine are those on the potentials of its network.
use Rattle.std.proofs.Common.{◌≡◌, ◌∙◌, ℕ, List, Some, None, refl, sym, ap, subst, Contains}
use Rattle.std.specs.Prelude.{slice_get, Option}
use Rattle.std.proofs.lemmas.List.Elements.{All-contains, All-contains_itself, All-weaker}
use Rattle.ml_base.specs.declared.numbers.Root.{Root}
use Rattle.ml_base.specs.declared.numbers.Root.TheVariants as root
use Rattle.ml_base.specs.declared.numbers.StateNo.{StateNo}
use Rattle.ml_base.specs.declared.weight.Weight.{Weight}
use Rattle.ml_base.specs.declared.weight.Weight.TheVariants as weight
use Rattle.ml_base.specs.Weight.{IsCappedAtMost, cap, capped_total}
use Rattle.ml_base.proofs.Laws.{at_most-antisym}
use Rattle.adapt_machine.specs.declared.MachineStep.{MachineStep}
use Rattle.adapt_machine.specs.Walks.{cost_found, system_of}
use Rattle.segment_grammar.specs.declared.potentials.Pot.{Pot}
use Rattle.segment_grammar.specs.Pots.{pot}
use Rattle.segment_grammar.proofs.Places.{at_contains, contains_at, same_at}
use Rattle.circuit_spec.specs.declared.hops.Hop.{Hop}
use Rattle.circuit_spec.specs.declared.hops.Outcome.{Outcome}
use Rattle.circuit_spec.specs.declared.hops.Outcome.TheVariants.{Found, NoWalk, Past, Long}
use Rattle.circuit_spec.specs.declared.hops.PlaceName.{PlaceName}
use Rattle.circuit_spec.specs.declared.hops.Request.{Request}
use Rattle.circuit_spec.specs.Network.{Topology}
use Rattle.circuit_spec.specs.Segments.{IsStart, IsTarget}
use Rattle.circuit_spec.specs.Steps.{cost_of}
use Rattle.circuit_spec.proofs.HopSegments.{kept_system}
use Rattle.kept_table.specs.Table.{IsKeptTable, KeptOfType}
use Rattle.machine_build.specs.Built.{BuiltValue, IsBuilt, IsState}
use Rattle.machine_lift.specs.Lift.{AreStatesOf, IsRootAt}
use Rattle.machine_lift.proofs.Doing.{down, machine_does, network_does, up}
use Rattle.machine_lift.proofs.Lifted.{lifted}
use Rattle.machine_lift.proofs.Simulations.{Simulates}
use Rattle.answer_spec.specs.declared.answer.PotLine.{PotLine}
use Rattle.answer_spec.specs.declared.answer.RootName.{RootName}
use Rattle.answer_spec.specs.declared.answer.RootName.TheVariants as name
use Rattle.answer_spec.specs.Certificate as net
use Rattle.answer_spec.specs.Potentials as listed
use Rattle.pair_check.specs.Least.{IsLeastAt, IsLeastOf, NoneIsListed}
use Rattle.pair_check.specs.Rules as pair
use Rattle.potential_check.specs.Pairs.{ArePairsOf, IsOutcomeOf, IsPairOf}
use Rattle.potential_check.proofs.Zipped.{zip_first, zip_second}
use Rattle.open_places.proofs.Ordered.{states_once}

abbrev line_of : RootName → PlaceName → Weight → PotLine
line_of name place weight = record { root = name; place = place; weight = weight }

abbrev as_state : ℕ → StateNo
as_state n = record { 0 = n }

-- ---- weights

abbrev one_hop : ℕ → Weight
one_hop cost = cap (record { cost = cost; hops = 1 })

module _ (T : Topology) (steps : List MachineStep) (k : ℕ) (t : MachineStep) (found : slice_get steps k ≡ Some t) (h : Hop) where
  same_weight : cost_of T h ≡ (system_of steps).cost k → pair.step_weight t ≡ net.hop_weight T h
  same_weight e = let cost : t.cost ≡ cost_of T h = ap cost_found (sym found) ∙ sym e in ap one_hop cost

module _ (T : Topology) (r : Request) (table : List KeptOfType) (kept : IsKeptTable T r table) (b : BuiltValue) (built : IsBuilt T table r b) where
  machine : Simulates (kept_system T r) (system_of b.machine.steps) (up T r table kept b built) (IsStart T r) (λ a. Contains b.starts a)
  machine = machine_does T r table kept b built

  network : Simulates (system_of b.machine.steps) (kept_system T r) (down T r table kept b built) (λ a. Contains b.starts a) (IsStart T r)
  network = network_does T r table kept b built

  -- ---- roots and states

  one_name : (s : Root) (m n : RootName) → IsRootAt b s (listed.root_place m) → IsRootAt b s (listed.root_place n) → m ≡ n
  one_name root.Request name.Request name.Request p q = refl
  one_name root.Request name.Request (name.Entry e) p q = absurd q
  one_name root.Request (name.Entry d) n p q = absurd p
  one_name (root.Entry s) name.Request n p q = absurd p
  one_name (root.Entry s) (name.Entry d) name.Request p q = absurd q
  one_name (root.Entry s) (name.Entry d) (name.Entry e) p q = ap name.Entry (same_at b.places s.0 d e p q)

  one_state : (place : PlaceName) (x y : StateNo) → IsState b x place → IsState b y place → x ≡ y
  one_state place x y p q = let same : x.0 ≡ y.0 = states_once b.places x.0 y.0 place built.rise p q in ap (λ n. as_state n) same

  one_root : (n : RootName) (s q : Root) → IsRootAt b s (listed.root_place n) → IsRootAt b q (listed.root_place n) → s ≡ q
  one_root name.Request root.Request root.Request x y = refl
  one_root name.Request root.Request (root.Entry t) x y = absurd y
  one_root name.Request (root.Entry s) q x y = absurd x
  one_root (name.Entry e) root.Request q x y = absurd x
  one_root (name.Entry e) (root.Entry s) root.Request x y = absurd y
  one_root (name.Entry e) (root.Entry s) (root.Entry t) x y = ap root.Entry (one_state e s t x y)

  module _ (lines : List PotLine) (pots : List Pot) (are : ArePairsOf b lines pots) where
    -- ---- what is listed

    -- the potential of a listed pair
    line_at : (s : Root) (state : StateNo) (w : Weight) → Contains pots (pot s state w) → (line : PotLine) × Contains lines line × IsPairOf b line (pot s state w)
    line_at s state w c =
        let at = at_contains pots (pot s state w) c in
        let line = zip_first (IsPairOf b) lines pots at.0 (pot s state w) are at.2 in
        (line.0, contains_at lines at.0 line.0 line.1, line.2)

    -- the pair of a listed potential
    pair_at : (n : RootName) (place : PlaceName) (w : Weight) → listed.IsListed lines n place w → (p : Pot) × Contains pots p × IsPairOf b (line_of n place w) p
    pair_at n place w c =
        let at = at_contains lines (line_of n place w) c in
        let p = zip_second (IsPairOf b) lines pots at.0 (line_of n place w) are at.2 in
        (p.0, contains_at pots at.0 p.0 p.1, p.2)

    module _ (s : Root) (n : RootName) (state : StateNo) (place : PlaceName) (root_is : IsRootAt b s (listed.root_place n)) (place_is : IsState b state place) where
      listed_up : (w : Weight) → Contains pots (pot s state w) → listed.IsListed lines n place w
      listed_up w c =
          let of = line_at s state w c in
          let line = of.0 in
          let is = of.2 in
          let root_same : line.root ≡ n = one_name s line.root n is.root root_is in
          let place_same : line.place ≡ place = same_at b.places state.0 line.place place is.place place_is in
          let by_root : line ≡ line_of n line.place line.weight = ap (λ m. line_of m line.place line.weight) root_same in
          let by_place : line_of n line.place line.weight ≡ line_of n place line.weight = ap (λ x. line_of n x line.weight) place_same in
          let same : line ≡ line_of n place w = by_root ∙ by_place ∙ ap (λ v. line_of n place v) is.weight in
          subst (λ l. Contains lines l) same of.1

      listed_down : (w : Weight) → listed.IsListed lines n place w → Contains pots (pot s state w)
      listed_down w c =
          let of = pair_at n place w c in
          let p = of.0 in
          let is = of.2 in
          let root_same : p.root ≡ s = one_root n p.root s is.root root_is in
          let state_same : p.state ≡ state = one_state place p.state state is.place place_is in
          let same : p ≡ pot s state w = ap (λ q. pot q p.state p.weight) root_same ∙ ap (λ x. pot s x p.weight) state_same ∙ ap (λ v. pot s state v) (sym is.weight) in
          subst (λ q. Contains pots q) same of.1

      within_up : (most more : Weight) → most ≡ more → pair.IsListedWithin pots s state most → listed.IsListedWithin lines n place more
      within_up most more same l = (l.0, listed_up l.0 l.1, subst (λ v. IsCappedAtMost l.0 v) same l.2)

      within_down : (most more : Weight) → most ≡ more → listed.IsListedWithin lines n place more → pair.IsListedWithin pots s state most
      within_down most more same l = (l.0, listed_down l.0 l.1, subst (λ v. IsCappedAtMost l.0 v) (sym same) l.2)

    -- ---- starts and roots

    pub starts_up : pair.StartsAreListed b.starts pots → net.StartsAreListed T r lines
    starts_up all x is =
        let s = machine.starts x is in
        listed_up root.Request name.Request s.0 x tt s.1 (weight.Known 0 0) (All-contains (pair.IsListedAtZero pots root.Request) b.starts s.0 all s.2)

    pub starts_down : net.StartsAreListed T r lines → pair.StartsAreListed b.starts pots
    starts_down all = All-weaker (Contains b.starts) (pair.IsListedAtZero pots root.Request)
        (λ a c. let s = network.starts a c in listed_down root.Request name.Request a s.0 tt s.1 (weight.Known 0 0) (all s.0 s.2)) b.starts (All-contains_itself b.starts)

    root_up : (s : Root) (n : RootName) → IsRootAt b s (listed.root_place n) → pair.RootIsListed pots s → net.RootIsListed lines n
    root_up root.Request name.Request at l = tt
    root_up root.Request (name.Entry x) at l = absurd at
    root_up (root.Entry s) name.Request at l = absurd at
    root_up (root.Entry s) (name.Entry x) at l = listed_up (root.Entry s) (name.Entry x) s x at at (weight.Known 0 0) l

    root_down : (s : Root) (n : RootName) → IsRootAt b s (listed.root_place n) → net.RootIsListed lines n → pair.RootIsListed pots s
    root_down root.Request name.Request at l = tt
    root_down root.Request (name.Entry x) at l = absurd at
    root_down (root.Entry s) name.Request at l = absurd at
    root_down (root.Entry s) (name.Entry x) at l = listed_down (root.Entry s) (name.Entry x) s x at at (weight.Known 0 0) l

    module _ (line : PotLine) (p : Pot) (is : IsPairOf b line p) where
      pub has_root_up : pair.HasRoot pots p → net.RootIsListed lines line.root
      has_root_up l = root_up p.root line.root is.root l

      pub has_root_down : net.RootIsListed lines line.root → pair.HasRoot pots p
      has_root_down l = root_down p.root line.root is.root l

      -- the weight of the pair and more
      plus : (v w : Weight) → v ≡ w → capped_total p.weight v ≡ capped_total line.weight w
      plus v w e = ap (λ u. capped_total u v) (sym is.weight) ∙ ap (capped_total line.weight) e

      -- ---- flat steps

      pub extended_up : pair.IsExtended b.machine.steps pots p → net.IsExtended T r lines line
      extended_up extends h y keeps =
          let d = machine.keeps line.place h y p.state keeps is.place in
          let t = d.does.0 in
          let s = d.does.1 in
          let weights = plus (pair.step_weight t) (net.hop_weight T h) (same_weight T b.machine.steps d.step t s.found h (sym d.cost)) in
          let at = subst (λ z. IsState b z y) (sym s.enters) d.same_to in
          within_up p.root line.root t.to y is.root at (capped_total p.weight (pair.step_weight t)) (capped_total line.weight (net.hop_weight T h))
          weights (extends t (contains_at b.machine.steps d.step t s.found) (s.is_kind, s.leaves))

      pub extended_down : net.IsExtended T r lines line → pair.IsExtended b.machine.steps pots p
      extended_down extends t c flat =
          let at = at_contains b.machine.steps t c in
          let d = network.keeps p.state at.0 t.to line.place (t, record { found = at.2; is_kind = flat.0; leaves = flat.1; enters = refl }) is.place in
          let weights = plus (pair.step_weight t) (net.hop_weight T d.step) (same_weight T b.machine.steps at.0 t at.2 d.step d.cost) in
          within_down p.root line.root t.to d.to is.root d.same_to (capped_total p.weight (pair.step_weight t))
          (capped_total line.weight (net.hop_weight T d.step)) weights (extends d.step d.to d.does)

      -- ---- pushes

      pub opened_up : pair.IsOpened b.machine.steps pots p → net.IsOpened T r lines line
      opened_up opens h frame x puts =
          let d = machine.pushes line.place h frame x p.state puts is.place in
          let t = d.does.2.0 in
          let s = d.does.2.1 in
          let at = subst (λ z. IsState b z x) (sym s.enters) d.same_to in
          let o = opens t (contains_at b.machine.steps d.step t s.found) (s.is_kind, s.leaves) in
          let of = line_at (root.Entry t.to) o.0 o.1 o.2 in
          (of.0.place, o.1, listed_up (root.Entry t.to) (name.Entry x) o.0 of.0.place at of.2.place o.1 o.2)

      pub opened_down : net.IsOpened T r lines line → pair.IsOpened b.machine.steps pots p
      opened_down opens t c push =
          let at = at_contains b.machine.steps t c in
          let d = network.pushes p.state at.0 t.frame t.to line.place (t, record { found = at.2; is_kind = push.0; leaves = push.1; enters = refl }, refl) is.place in
          let o = opens d.step d.does.0 d.to d.does.2 in
          let of = pair_at (name.Entry d.to) o.0 o.1 o.2 in
          (of.0.state, o.1, listed_down (root.Entry t.to) (name.Entry d.to) of.0.state o.0 d.same_to of.2.place o.1 o.2)

      -- ---- nests

      plus_nest : (v w inner x y : Weight) → v ≡ w → x ≡ y → capped_total (capped_total (capped_total p.weight v) inner) x ≡ capped_total (capped_total (capped_total line.weight w) inner) y
      plus_nest v w inner x y e f = ap (λ u. capped_total (capped_total u inner) x) (plus v w e) ∙ ap (capped_total (capped_total (capped_total line.weight w) inner)) f

      pub nested_up : pair.IsNested b.machine.steps pots p → net.IsNested T r lines line
      nested_up nests h frame x puts z inner listed_z g y takes =
          let d = machine.pushes line.place h frame x p.state puts is.place in
          let f = d.does.0 in
          let t = d.does.2.0 in
          let s = d.does.2.1 in
          let at = subst (λ q. IsState b q x) (sym s.enters) d.same_to in
          let of = pair_at (name.Entry x) z inner listed_z in
          let inside = listed_down (root.Entry t.to) (name.Entry x) of.0.state z at of.2.place inner listed_z in
          let e = machine.pops z g frame y of.0.state f takes of.2.place d.does.1 in
          let u = e.does.0 in
          let q = e.does.1 in
          let end = subst (λ q. IsState b q y) (sym q.enters) e.same_to in
          let weights = plus_nest (pair.step_weight t) (net.hop_weight T h) inner (pair.step_weight u) (net.hop_weight T g)
          (same_weight T b.machine.steps d.step t s.found h (sym d.cost)) (same_weight T b.machine.steps e.step u q.found g (sym e.cost)) in
          let leads = nests t (contains_at b.machine.steps d.step t s.found) (s.is_kind, s.leaves) of.0.state inner inside u
          (contains_at b.machine.steps e.step u q.found) (q.is_kind, q.leaves, e.does.2 ∙ sym d.does.2.2) in
          within_up p.root line.root u.to y is.root end _ _ weights leads

      pub nested_down : net.IsNested T r lines line → pair.IsNested b.machine.steps pots p
      nested_down nests t c push z inner listed_z u taken pops =
          let at = at_contains b.machine.steps t c in
          let d = network.pushes p.state at.0 t.frame t.to line.place (t, record { found = at.2; is_kind = push.0; leaves = push.1; enters = refl }, refl) is.place in
          let frame = d.does.0 in
          let of = line_at (root.Entry t.to) z inner listed_z in
          let inside = listed_up (root.Entry t.to) (name.Entry d.to) z of.0.place d.same_to of.2.place inner listed_z in
          let out = at_contains b.machine.steps u taken in
          let e = network.pops z out.0 t.frame u.to of.0.place frame (u, record { found = out.2; is_kind = pops.0; leaves = pops.1; enters = refl }, pops.2) of.2.place d.does.1 in
          let weights = plus_nest (pair.step_weight t) (net.hop_weight T d.step) inner (pair.step_weight u) (net.hop_weight T e.step)
          (same_weight T b.machine.steps at.0 t at.2 d.step d.cost) (same_weight T b.machine.steps out.0 u out.2 e.step e.cost) in
          within_down p.root line.root u.to e.to is.root e.same_to _ _ weights (nests d.step frame d.to d.does.2 of.0.place inner inside e.step e.to e.does)

    -- ---- the outcome

    targets : AreStatesOf b (IsTarget T r) b.targets
    targets = (lifted T r table kept b built).targets

    none_up : NoneIsListed b.targets pots → (place : PlaceName) (w : Weight) → IsTarget T r place → ¬ listed.IsListed lines name.Request place w
    none_up none place w is l =
        let s = targets.all place is in
        none s.0 w s.2 (listed_down root.Request name.Request s.0 place tt s.1 w l)

    least_up : (w : Weight) → IsLeastAt b.targets pots w → net.IsLeastListed T r lines w
    least_up w is =
        let s = targets.only is.state is.among in
        record {
          place = s.0;
          target = s.2;
          is_listed = listed_up root.Request name.Request is.state s.0 tt s.1 w is.listed;
          least = λ other v o l. let q = targets.all other o in is.least q.0 v q.2 (listed_down root.Request name.Request q.0 other tt q.1 v l);
        }

    pub outcome_up : (least : Option Weight) (outcome : Outcome) → IsLeastOf b.targets pots least → IsOutcomeOf least outcome → net.Agrees T r lines outcome
    outcome_up least NoWalk is e = none_up (subst (IsLeastOf b.targets pots) e is)
    outcome_up least Past is e = least_up weight.Past (subst (IsLeastOf b.targets pots) e is)
    outcome_up least (Found cost hops) is e = least_up (weight.Known cost hops) (subst (IsLeastOf b.targets pots) e is)
    outcome_up least (Long cost hops) is e = least_up (weight.Known cost hops) (subst (IsLeastOf b.targets pots) e is)

    -- the least weight of the potentials is that of the pairs
    one_least : (w : Weight) (least : Option Weight) → IsLeastOf b.targets pots least → net.IsLeastListed T r lines w → least ≡ Some w
    one_least w None none is = absurd (none_up none is.place w is.target is.is_listed)
    one_least w (Some v) at is =
        let on = least_up v at in
        ap Some (at_most-antisym v w (on.least is.place w is.target is.is_listed) (is.least on.place v on.target on.is_listed))

    none_down : (least : Option Weight) → IsLeastOf b.targets pots least → net.Agrees T r lines NoWalk → least ≡ None
    none_down None none agrees = refl
    none_down (Some v) at agrees = let on = least_up v at in absurd (agrees on.place v on.target on.is_listed)

    pub outcome_down : (least : Option Weight) (outcome : Outcome) → IsLeastOf b.targets pots least → net.Agrees T r lines outcome → IsOutcomeOf least outcome
    outcome_down least NoWalk is agrees = none_down least is agrees
    outcome_down least Past is agrees = one_least weight.Past least is agrees
    outcome_down least (Found cost hops) is agrees = one_least (weight.Known cost hops) least is agrees
    outcome_down least (Long cost hops) is agrees = one_least (weight.Known cost hops) least is agrees
