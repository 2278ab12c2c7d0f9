-- What was offered, when one more pair is put into it.
use Rattle.std.proofs.Common.{◌≡◌, ◌≢◌, ℕ, ◌<◌, List, [], length, map, refl, ◌∙◌, ap, subst, sym, arith, Some, Option, inl, inr, ◌⊎◌}
use Rattle.std.proofs.Math.ListN.{set, get_or}
use Rattle.std.specs.Prelude.{true, false, ◌&&◌, nat_eq, Bool, Contains}
use Rattle.std.proofs.lemmas.Grind.{common_steps}
use Rattle.std.proofs.lemmas.Bool.{cases_eq}
use Rattle.std.proofs.lemmas.List.{map-set, get_or-map, length-map, get_or-set_same, get_or-set_other}
use Rattle.ml_base.specs.declared.numbers.StateNo.{StateNo}
use Rattle.ml_base.specs.declared.numbers.Root.{Root}
use Rattle.ml_base.specs.declared.numbers.Root.TheVariants.{Request, Entry}
use Rattle.ml_base.specs.declared.weight.Weight.{Weight}
use Rattle.ml_base.specs.Weight.{IsCappedAtMost}
use Rattle.ml_base.proofs.Laws.{at_most-same, at_most-trans}
use Rattle.root_order.specs.Plan.{PlanValue, lane_of}
use Rattle.segment_grammar.specs.declared.potentials.Pot.{Pot}
use Rattle.segment_grammar.specs.Pots.{pot, IsOfPair}
use Rattle.segment_grammar.proofs.Numbering.{bool_cases}
use Rattle.knuth_search.specs.Offered.{OfferedValue, weight_in, offered_at, Puts}
use Rattle.knuth_search.specs.Tables.{Queued}
use Rattle.knuth_search.specs.Following.{IsCovered, IsOffered, IsNoHeavier, Offers}

abbrev is_key : StateNo → StateNo → ℕ × ℕ → Bool
is_key entry state key = nat_eq entry.0 key.0 && nat_eq state.0 key.1

pub state_same : (a b : StateNo) → a.0 ≡ b.0 → a ≡ b
state_same a b e = let make : ℕ → StateNo = λ n. record { 0 = n } in ap make e

same_key : (a b c d : ℕ) → (nat_eq a c && nat_eq b d) ≡ true → (a ≡ c) × (b ≡ d)
same_key a b c d e =
    let s : a ≡ c = grind (arith, common_steps) in
    let t : b ≡ d = grind (arith, common_steps) in
    (s, t)

-- a pair of an entered state is put into the map of its lane
module _ {M : Type 0} (entries : M → List ((ℕ × ℕ) × Weight)) (plan : PlanValue) (request : List (Option Weight)) (maps : List M) (value : OfferedValue) (seen : record { plan = plan; request = request; maps = map entries maps } ≡ value)
    (x : Pot) (entry : StateNo) (entered : x.root ≡ Entry entry) (lane : ℕ) (its : lane ≡ lane_of plan x.root) (below : lane < length maps) (old new : M) (at : old ≡ get_or maps lane old)
    (here : weight_in (entries new) entry.0 x.state.0 ≡ Some x.weight) (others : (key : ℕ × ℕ) → is_key entry x.state key ≡ false → weight_in (entries new) key.0 key.1 ≡ weight_in (entries old) key.0 key.1) where
  abbrev before : OfferedValue
  before = record { plan = plan; request = request; maps = map entries maps }

  abbrev mapped : OfferedValue
  mapped = record { plan = plan; request = request; maps = map entries (set maps lane new) }

  maps_after : map entries (set maps lane new) ≡ set (map entries maps) lane (entries new)
  maps_after = map-set entries maps lane new

  maps_below : lane < length (map entries maps)
  maps_below = omega (arith, below, length-map maps entries)

  is_there : (e y : StateNo) → lane_of plan (Entry e) ≡ lane → offered_at mapped (Entry e) y ≡ weight_in (entries new) e.0 y.0
  is_there e y same = ap (λ m. weight_in m e.0 y.0) (ap (λ l. get_or l (lane_of plan (Entry e)) []) maps_after ∙ ap (λ n. get_or (set (map entries maps) lane (entries new)) n []) same ∙ get_or-set_same (map entries maps) lane (entries new) [] maps_below)

  was_there : (e y : StateNo) → lane_of plan (Entry e) ≡ lane → offered_at before (Entry e) y ≡ weight_in (entries old) e.0 y.0
  was_there e y same = ap (λ m. weight_in m e.0 y.0) (ap (λ n. get_or (map entries maps) n []) same ∙ get_or-map entries maps lane old [] below ∙ ap entries (sym at))

  elsewhere : (e y : StateNo) → (lane_of plan (Entry e) ≢ lane) → offered_at mapped (Entry e) y ≡ offered_at before (Entry e) y
  elsewhere e y apart = ap (λ m. weight_in m e.0 y.0) (ap (λ l. get_or l (lane_of plan (Entry e)) []) maps_after ∙ get_or-set_other (map entries maps) lane (lane_of plan (Entry e)) (entries new) [] apart)

  others_mapped : (root : Root) (y : StateNo) → IsOfPair (pot (Entry entry) x.state x.weight) root y ⊎ (offered_at mapped root y ≡ offered_at before root y)
  others_mapped Request y = inr refl
  others_mapped (Entry e) y = elim (cases_eq (lane_of plan (Entry e)) lane) as (λ v. IsOfPair (pot (Entry entry) x.state x.weight) (Entry e) y ⊎ (offered_at mapped (Entry e) y ≡ offered_at before (Entry e) y)) [
    | inl same ↦ elim (bool_cases (is_key entry x.state (e.0, y.0))) as (λ v. IsOfPair (pot (Entry entry) x.state x.weight) (Entry e) y ⊎ (offered_at mapped (Entry e) y ≡ offered_at before (Entry e) y)) [
      | inl t ↦ let s : (entry.0 ≡ e.0) × (x.state.0 ≡ y.0) = same_key entry.0 x.state.0 e.0 y.0 t in inl (ap (λ a. Entry a) (state_same entry e s.0), state_same x.state y s.1)
      | inr f ↦ inr (is_there e y same ∙ others (e.0, y.0) f ∙ sym (was_there e y same))
    ]
    | inr apart ↦ inr (elsewhere e y apart)
  ]

  pub puts_mapped : Puts value x mapped
  puts_mapped = subst (λ r. Puts value (pot r x.state x.weight) mapped) (sym entered)
      (subst (λ o. Puts o (pot (Entry entry) x.state x.weight) mapped) seen (record { here = is_there entry x.state (sym (its ∙ ap (λ r. lane_of plan r) entered)) ∙ here; others = others_mapped }))

same_weight : (m : Option Weight) (u w : Weight) → m ≡ Some u → m ≡ Some w → u ≡ w
same_weight m u w a b = cc

-- an offer that waits, and is no heavier than what was offered of its pair
module _ (old new : Queued) (x : Pot) (puts : Puts old.offered x new.offered)
    (waits : (p : Pot) → Contains old.waiting p → Contains new.waiting p) (waits_here : Contains new.waiting x) (lighter : IsNoHeavier old x) where
  at_pair : (p : Pot) → IsOfPair x p.root p.state → offered_at new.offered p.root p.state ≡ Some x.weight
  at_pair p s = subst (λ r. offered_at new.offered r p.state ≡ Some x.weight) s.0 (subst (λ y. offered_at new.offered x.root y ≡ Some x.weight) s.1 puts.here)

  was_heavier : (p : Pot) → IsOfPair x p.root p.state → (o : IsOffered old p) → IsCappedAtMost x.weight o.weight
  was_heavier p s o = lighter o.weight (subst (λ r. offered_at old.offered r x.state ≡ Some o.weight) (sym s.0) (subst (λ y. offered_at old.offered p.root y ≡ Some o.weight) (sym s.1) o.found))

  pub offers_it : Offers (λ p. p ≡ x) old new
  offers_it = record {
    kept = λ p o. elim (puts.others p.root p.state) as (λ v. IsOffered new p) [
      | inl s ↦ record { weight = x.weight; found = at_pair p s; at_most = at_most-trans x.weight o.weight p.weight (was_heavier p s o) o.at_most }
      | inr e ↦ record { weight = o.weight; found = e ∙ o.found; at_most = o.at_most }
    ];
    waits = waits;
    held = λ p o. elim (puts.others p.root p.state) as (λ v. IsOffered old p ⊎ IsCovered new.waiting p) [
      | inl s ↦ inr (record {
        weight = x.weight;
        listed = subst (λ r. Contains new.waiting (pot r p.state x.weight)) s.0 (subst (λ y. Contains new.waiting (pot x.root y x.weight)) s.1 waits_here);
        at_most = subst (λ w. IsCappedAtMost w p.weight) (same_weight (offered_at new.offered p.root p.state) o.weight x.weight o.found (at_pair p s)) o.at_most;
      })
      | inr e ↦ inl (record { weight = o.weight; found = sym e ∙ o.found; at_most = o.at_most })
    ];
    all = λ p e. subst (λ v. IsOffered new v) (sym e) (record { weight = x.weight; found = puts.here; at_most = at_most-same x.weight });
  }
