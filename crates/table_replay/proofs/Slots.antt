-- What the slots of places say when one rule more is put to them.
use Rattle.std.proofs.Common.{◌≡◌, ◌≢◌, ◌⊎◌, inl, inr, ℕ, ◌+◌, ◌<◌, List, [], ◌∷◌, ◌++◌, Bool, true, false, Option, None, Some, length, take, refl, sym, ◌∙◌, ap, subst}
use Rattle.std.specs.Prelude.{option_map, slice_get}
use Rattle.ml_base.specs.declared.numbers.PortNo.{PortNo}
use Rattle.ml_base.proofs.Lists.{one_of_some, at_left, at_end}
use Rattle.circuit_spec.specs.declared.hops.Hop.{Hop}
use Rattle.circuit_spec.specs.declared.hops.PlaceName.{PlaceName}
use Rattle.circuit_spec.specs.Flags.{same_place}
use Rattle.circuit_spec.specs.Network.{Name, Tag, Topology, Port, IsClass, Linked, ports}
use Rattle.circuit_spec.proofs.ClassLemmas.{First-unique}
use Rattle.circuit_spec.proofs.Places.{same_places, place_itself}
use Rattle.nml_inventory.specs.Aliases.{IsClassNumber}
use Rattle.nml_inventory.specs.Numbers.{port_number}
use Rattle.packet_replay.proofs.Named.{end_found}
use Rattle.device_rules.specs.declared.rules.Rule.{Rule}
use Rattle.table_replay.specs.declared.table.Slot.{Slot}
use Rattle.table_replay.specs.declared.table.Slot.TheVariants.{One, Several}
use Rattle.table_replay.specs.Forwarding.{AreLeaving, LeavesFrom}
use Rattle.table_replay.specs.Tabled.{AddsRule, AreSlots, Tells, slot_at, slot_with}
use Rattle.table_replay.proofs.Places.{make_place}

-- two places that are not the same are told apart
pub apart_test : (x y : PlaceName) → (y ≢ x) → same_place x y ≡ false
apart_test x y apart = by (same_place x y) refl
  where
    by : (b : Bool) → same_place x y ≡ b → same_place x y ≡ false
    by true t = absurd (apart (sym (same_places x y t)))
    by false f = f

-- the place of a port's class
pub place_found : (T : Topology) (text id : Name) (port class : PortNo) (label : Tag) (name shared : Name) → text ≡ id → Some port ≡ option_map (λ (n : ℕ). record { 0 = n }) (port_number T text) → IsClassNumber T port.0 class.0
    → option_map (λ (p : Port). p.id) (slice_get (ports T) class.0) ≡ Some name → shared ≡ name → (first : Port) × IsClass T id first × (make_place shared label ≡ make_place first.id label)
place_found T text id port class label name shared same e c named is =
    let found = end_found T text id port class same e c in
    let other : Some found.0.id ≡ Some name = sym (ap (option_map (λ (p : Port). p.id)) found.1.class_at) ∙ named in
    (found.0, found.1.is_class, ap (λ n. make_place n label) (is ∙ sym (one_of_some other)))

module _ (T : Topology) where
  one_place : (rule : Rule) (x y : PlaceName) → LeavesFrom T x rule → LeavesFrom T y rule → x ≡ y
  one_place rule x y (class, is, e) (other, its, f) =
      let one = First-unique (λ q. Linked T rule.hop.from q.id) (ports T) class other is its in
      e ∙ ap (λ (p : Port). make_place p.id rule.hop.from_label) one ∙ sym f

  leaving_more : (x : PlaceName) (r : Rule) (rules leaving : List Rule) → LeavesFrom T x r → AreLeaving T x rules leaving → AreLeaving T x (rules ++ r ∷ []) (leaving ++ r ∷ [])
  leaving_more x r [] leaving here are = inr (here, ([], refl, ap (λ l. l ++ r ∷ []) are))
  leaving_more x r (y ∷ rules) leaving here (inl are) = inl (are.0, leaving_more x r rules leaving here are.1)
  leaving_more x r (y ∷ rules) leaving here (inr (leaves, (others, are, e))) = inr (leaves, (others ++ r ∷ [], leaving_more x r rules others here are, ap (λ l. l ++ r ∷ []) e))

  leaving_same : (x : PlaceName) (r : Rule) (rules leaving : List Rule) → (LeavesFrom T x r → ⊥) → AreLeaving T x rules leaving → AreLeaving T x (rules ++ r ∷ []) leaving
  leaving_same x r [] leaving apart are = inl (apart, are)
  leaving_same x r (y ∷ rules) leaving apart (inl are) = inl (are.0, leaving_same x r rules leaving apart are.1)
  leaving_same x r (y ∷ rules) leaving apart (inr (leaves, (others, are, e))) = inr (leaves, (others, leaving_same x r rules others apart are, e))

  told_more : (x : PlaceName) (r : Rule) (rules : List Rule) (n : ℕ) (s : Option Slot) → n ≡ length rules → LeavesFrom T x r → Tells T rules x s → Tells T (rules ++ r ∷ []) x (Some (slot_with s n))
  told_more x r rules n None e here are = (r, at_end rules r n e, leaving_more x r rules [] here are)
  told_more x r rules n (Some (One m)) e here (one, at, are) = (one, r, [], leaving_more x r rules (one ∷ []) here are)
  told_more x r rules n (Some Several) e here (one, other, more, are) = (one, other, more ++ r ∷ [], leaving_more x r rules (one ∷ other ∷ more) here are)

  told_same : (x : PlaceName) (r : Rule) (rules : List Rule) (s : Option Slot) → (LeavesFrom T x r → ⊥) → Tells T rules x s → Tells T (rules ++ r ∷ []) x s
  told_same x r rules None apart are = leaving_same x r rules [] apart are
  told_same x r rules (Some (One m)) apart (one, at, are) = (one, at_left rules (r ∷ []) m one at, leaving_same x r rules (one ∷ []) apart are)
  told_same x r rules (Some Several) apart (one, other, more, are) = (one, other, more, leaving_same x r rules (one ∷ other ∷ more) apart are)

  pub slots_more : (rules all : List Rule) (r : Rule) (old new : List (PlaceName × Slot)) (place : PlaceName) (n : ℕ) → all ≡ rules ++ r ∷ [] → n ≡ length rules → LeavesFrom T place r → AreSlots T rules old → AddsRule old new place n → AreSlots T all new
  slots_more rules all r old new place n list e here tells adds =
      subst (λ l. AreSlots T l new) (sym list) (λ x. by x (same_place x place) refl)
    where
      by : (x : PlaceName) (b : Bool) → same_place x place ≡ b → Tells T (rules ++ r ∷ []) x (slot_at new x)
      by x true t =
          let same : place ≡ x = sym (same_places x place t) in
          subst (λ y. Tells T (rules ++ r ∷ []) y (slot_at new y)) same (subst (λ s. Tells T (rules ++ r ∷ []) place s) (sym adds.here) (told_more place r rules n (slot_at old place) e here (tells place)))
      by x false f =
          let apart : x ≡ place → ⊥ = λ same. let t : same_place x place ≡ true = subst (λ y. same_place x y ≡ true) same (place_itself x) in cc in
          subst (λ s. Tells T (rules ++ r ∷ []) x s) (sym (adds.others x apart)) (told_same x r rules (slot_at old x) (λ leaves. apart (one_place r x place leaves here)) (tells x))

  pub slots_same : (rules all : List Rule) (r : Rule) (slots : List (PlaceName × Slot)) → all ≡ rules ++ r ∷ [] → ((class : Port) → ¬ IsClass T r.hop.from class) → AreSlots T rules slots → AreSlots T all slots
  slots_same rules all r slots list none tells = subst (λ l. AreSlots T l slots) (sym list) (λ x. told_same x r rules (slot_at slots x) (λ leaves. none leaves.0 leaves.1) (tells x))
