-- Each relation of a generated network names elements that it may name.
use Rattle.std.specs.Prelude.{nat_lt}
use Rattle.std.proofs.Common.{◌≡◌, ℕ, zero, suc, ◌+◌, ◌<◌, ◌≤◌, inl, inr, List, [], ◌∷◌, Bool, true, false, Some, codes, map, refl, sym, subst, ap, arith}
use Rattle.std.specs.List.{flat_map, AllByRecursion}
use Rattle.std.proofs.lemmas.Bool.{cond_both, ltb-true}
use Rattle.ml_base.specs.Lists.{IsAmong}
use Rattle.nml_elements.specs.declared.elements.Element.{Element}
use Rattle.circuit_spec.specs.declared.faults.Spot.{Spot}
use Rattle.circuit_spec.specs.declared.faults.Member.{Member}
use Rattle.circuit_spec.specs.declared.faults.Member.TheVariants as member
use Rattle.circuit_spec.specs.declared.faults.MergeFault.TheVariants.{WrongKind}
use Rattle.circuit_spec.specs.Network.{Name, Topology, Placed, element_named, id_of, placed_in}
use Rattle.circuit_spec.specs.Faults.{Located, located, is_port, is_link, is_adapting, is_wrong, relation, relations_of, wrong_targets, wrong_kinds}
use Rattle.topo_gen.specs.Tunnels.{named, port, link, adaptation, deadaptation, services_above, first_port, last_port, link_ids, ground, tunnel, generated_domains}
use Rattle.topo_gen.proofs.Each.{all_weaker, all_before_map, none_passes, all_empty}
use Rattle.topo_gen.proofs.Places.{upper, elements_in, located_elements}
use Rattle.topo_gen.proofs.Found.{among_level, among_ground, is_named}

module _ (T : Topology) where
  -- all that the element names it may name
  abbrev pub IsRight : Element → Type 0
  IsRight e = (spot : Spot) → flat_map (wrong_targets T spot) (relations_of e) ≡ []

  -- the targets may all be named
  abbrev pub AreRight : (Element → Bool) → List Name → Type 0
  AreRight may targets = AllByRecursion (λ target. is_wrong T may target ≡ false) targets

  right_target : (may : Element → Bool) (target : Name) (p : Placed) → element_named T target ≡ Some p → may p.element ≡ true → is_wrong T may target ≡ false
  right_target may target p held right = rw (held, right) refl

  none_wrong : (spot : Spot) (m : Member) (may : Element → Bool) (targets : List Name) → AreRight may targets → wrong_targets T spot (relation m may targets) ≡ []
  none_wrong spot m may targets right = ap (λ ids. map (λ target. WrongKind spot m target) ids) (none_passes (is_wrong T may) targets right)

  port_right : (id : Name) (sources sinks services : List Name) → AreRight is_link sources → AreRight is_link sinks → AreRight is_adapting services → IsRight (port id sources sinks services)
  port_right id sources sinks services a b c = λ spot.
      rw (none_wrong spot member.IsSource is_link sources a, none_wrong spot member.IsSink is_link sinks b, none_wrong spot member.HasService is_adapting services c) refl

  adaptation_right : (id function client : Name) → is_wrong T is_port client ≡ false → IsRight (adaptation id function client)
  adaptation_right id function client right = λ spot. rw right refl

  deadaptation_right : (id function client : Name) → is_wrong T is_port client ≡ false → IsRight (deadaptation id function client)
  deadaptation_right id function client right = λ spot. rw right refl

  above_right : (levels k : ℕ) (first second : Name)
      → (k < levels → is_wrong T is_adapting (named first (k + 1)) ≡ false) → (k < levels → is_wrong T is_adapting (named second (k + 1)) ≡ false)
      → AreRight is_adapting (services_above levels k first second)
  above_right levels k first second a b =
      cond_both (nat_lt k levels) (named first (k + 1) ∷ named second (k + 1) ∷ []) [] (AreRight is_adapting)
      (λ e. let below = ltb-true k levels e in (a below, (b below, tt))) (λ _. tt)

  pub all_right : AllByRecursion IsRight (elements_in T) → wrong_kinds T ≡ []
  all_right all =
      let spotted = all_before_map IsRight (λ (e : Located). e.element) (located T) (subst (AllByRecursion IsRight) (sym (located_elements 1 T)) all) in
      all_empty (λ (e : Located). flat_map (wrong_targets T e.spot) (relations_of e.element)) (located T)
      (all_weaker (λ (e : Located). IsRight e.element) (λ (e : Located). flat_map (wrong_targets T e.spot) (relations_of e.element) ≡ []) (λ e right. right e.spot) (located T) spotted)

module _ (levels : ℕ) (small : levels ≤ 4096) where
  abbrev T : Topology
  T = generated_domains levels

  abbrev at : ℕ → Element → Placed
  at k e = record { domain = tunnel levels k; element = e }

  in_level : (may : Element → Bool) (k : ℕ) (e : Element) → 1 ≤ k → k ≤ levels → IsAmong (placed_in (tunnel levels k)) (at k e) → may e ≡ true → is_wrong T may (id_of e) ≡ false
  in_level may k e low high h right = right_target T may (id_of e) (at k e) (is_named levels (at k e) small (among_level levels k (at k e) low high h)) right

  in_ground : (may : Element → Bool) (e : Element) → IsAmong (placed_in (ground levels)) (record { domain = ground levels; element = e }) → may e ≡ true → is_wrong T may (id_of e) ≡ false
  in_ground may e h right =
      let p : Placed = record { domain = ground levels; element = e } in
      right_target T may (id_of e) p (is_named levels p small (among_ground levels p h)) right

  entering : (k : ℕ) → AreRight T is_adapting (services_above levels k (codes "a") (codes "b"))
  unfolding tunnel
  entering k = above_right T levels k (codes "a") (codes "b")
      (λ below. in_level is_adapting (k + 1) (adaptation (named (codes "a") (k + 1)) (named (codes "F") (k + 1)) (named (codes "x") (k + 1))) (omega arith) (omega (arith, below)) (inr (inr (inr (inl refl)))) refl)
      (λ below. in_level is_adapting (k + 1) (adaptation (named (codes "b") (k + 1)) (named (codes "G") (k + 1)) (named (codes "m") (k + 1))) (omega arith) (omega (arith, below)) (inr (inr (inr (inr (inl refl))))) refl)

  leaving : (k : ℕ) → AreRight T is_adapting (services_above levels k (codes "u") (codes "v"))
  unfolding tunnel
  leaving k = above_right T levels k (codes "u") (codes "v")
      (λ below. in_level is_adapting (k + 1) (deadaptation (named (codes "u") (k + 1)) (named (codes "F") (k + 1)) (named (codes "m") (k + 1))) (omega arith) (omega (arith, below)) (inr (inr (inr (inr (inr (inl refl)))))) refl)
      (λ below. in_level is_adapting (k + 1) (deadaptation (named (codes "v") (k + 1)) (named (codes "G") (k + 1)) (named (codes "y") (k + 1))) (omega arith) (omega (arith, below)) (inr (inr (inr (inr (inr (inr (inl refl))))))) refl)

  x_right : (k : ℕ) → 1 ≤ k → k ≤ levels → is_wrong T is_port (named (codes "x") k) ≡ false
  unfolding tunnel
  x_right k low high = in_level is_port k (first_port levels k []) low high (inl refl) refl

  m_right : (k : ℕ) → 1 ≤ k → k ≤ levels → is_wrong T is_port (named (codes "m") k) ≡ false
  unfolding tunnel
  m_right k low high = in_level is_port k (port (named (codes "m") k) [] [] []) low high (inr (inl refl)) refl

  y_right : (k : ℕ) → 1 ≤ k → k ≤ levels → is_wrong T is_port (named (codes "y") k) ≡ false
  unfolding tunnel
  y_right k low high = in_level is_port k (last_port levels k []) low high (inr (inr (inl refl))) refl

  upper_right : (from count : ℕ) → 1 ≤ from → from + count ≤ levels + 1 → AllByRecursion (IsRight T) (elements_in (upper levels from count))
  unfolding tunnel
  upper_right from zero low high = tt
  upper_right from (suc count) low high =
      let inside : from ≤ levels = omega (arith, high) in (
        port_right T (named (codes "x") from) [] [] (services_above levels from (codes "a") (codes "b")) tt tt (entering from),
        (
          port_right T (named (codes "m") from) [] [] [] tt tt tt,
          (
            port_right T (named (codes "y") from) [] [] (services_above levels from (codes "u") (codes "v")) tt tt (leaving from),
            (
              adaptation_right T (named (codes "a") from) (named (codes "F") from) (named (codes "x") from) (x_right from low inside),
              (
                adaptation_right T (named (codes "b") from) (named (codes "G") from) (named (codes "m") from) (m_right from low inside),
                (
                  deadaptation_right T (named (codes "u") from) (named (codes "F") from) (named (codes "m") from) (m_right from low inside),
                  (
                    deadaptation_right T (named (codes "v") from) (named (codes "G") from) (named (codes "y") from) (y_right from low inside),
                    upper_right (from + 1) count (omega (arith, low)) (omega (arith, high)),
                  ),
                ),
              ),
            ),
          ),
        ),
      )

  links_right : AreRight T is_link link_ids
  unfolding ground
  links_right = (
    in_ground is_link (link (named (codes "l") 1) 1) (inr (inr (inl refl))) refl,
    (
      in_ground is_link (link (named (codes "l") 2) 2) (inr (inr (inr (inl refl)))) refl,
      (
        in_ground is_link (link (named (codes "l") 3) 3) (inr (inr (inr (inr (inl refl))))) refl,
        (
          in_ground is_link (link (named (codes "l") 4) 4) (inr (inr (inr (inr (inr (inl refl)))))) refl,
          (
            in_ground is_link (link (named (codes "l") 5) 5) (inr (inr (inr (inr (inr (inr (inl refl))))))) refl,
            (
              in_ground is_link (link (named (codes "l") 6) 6) (inr (inr (inr (inr (inr (inr (inr (inl refl)))))))) refl,
              (
                in_ground is_link (link (named (codes "l") 7) 7) (inr (inr (inr (inr (inr (inr (inr (inr (inl refl))))))))) refl,
                (in_ground is_link (link (named (codes "l") 8) 8) (inr (inr (inr (inr (inr (inr (inr (inr (inr (inl refl)))))))))) refl, tt),
              ),
            ),
          ),
        ),
      ),
    ),
  )

  ground_right : AllByRecursion (IsRight T) (elements_in T)
  unfolding ground
  ground_right = (
    port_right T (named (codes "x") 0) link_ids [] (services_above levels 0 (codes "a") (codes "b")) links_right tt (entering 0),
    (
      port_right T (named (codes "y") 0) [] link_ids (services_above levels 0 (codes "u") (codes "v")) tt links_right (leaving 0),
      (λ _. refl, (λ _. refl, (λ _. refl, (λ _. refl, (λ _. refl, (λ _. refl, (λ _. refl, (λ _. refl, upper_right 1 levels (omega arith) (omega arith))))))))),
    ),
  )

  -- nothing is named wrongly
  pub no_wrong_kinds : wrong_kinds T ≡ []
  no_wrong_kinds = all_right T ground_right
