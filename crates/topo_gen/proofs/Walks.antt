-- A generated request has a walk: through each level, one that runs twice through the level below.
use Rattle.std.proofs.Common.{◌≡◌, ℕ, zero, suc, ◌+◌, ◌-◌, ◌*◌, ◌^◌, ◌<◌, ◌≤◌, inl, inr, List, [], ◌∷◌, ◌++◌, true, None, Some, codes, map, length, sum_by, length-append, refl, sym, ◌∙◌, subst, ap, add-one, arith}
use Rattle.std.proofs.Math.Nat.{pow-succ'}
use Rattle.std.proofs.lemmas.List.Sums.{sum_by-append, sum_by-cons}
use Rattle.ml_base.specs.Weight.{FullWeight}
use Rattle.ml_base.specs.Lists.{IsAmong}
use Rattle.std.specs.List.{range_with_len}
use Rattle.nml_elements.specs.declared.elements.Domain.{Domain}
use Rattle.nml_elements.specs.declared.elements.Element.{Element}
use Rattle.circuit_spec.specs.declared.hops.Frame.{Frame}
use Rattle.circuit_spec.specs.declared.hops.Hop.{Hop}
use Rattle.circuit_spec.specs.declared.hops.HopKind.{HopKind}
use Rattle.circuit_spec.specs.declared.hops.HopKind.TheVariants as kind
use Rattle.circuit_spec.specs.declared.hops.Unit.{Unit as DataUnit}
use Rattle.circuit_spec.specs.Network.{Name, Topology, Placed, Port, element_named, id_of, names, placed_in, serves}
use Rattle.circuit_spec.specs.Steps.{Rule, Run, Step, Walk, cost_of, cost_of_element, frame_of, weight_of}
use Rattle.topo_gen.specs.Tunnels.{named, link, adaptation, deadaptation, link_ids, ground, tunnel, generated_domains, generated_request, generated_weight}
use Rattle.topo_gen.proofs.Found.{among_level, among_ground, is_named}
use Rattle.topo_gen.proofs.Plain.{IsPlainPort}
use Rattle.topo_gen.proofs.Ports.{HasPort, names_first, passes, has_port, x, m, y, x_ground, y_ground, some_x, some_y, m_level, has_x, has_y, first_above, second_above}

-- a unit at the port of this id, without a label
abbrev pub at : Name → List Frame → DataUnit
at id stack = record { class = id; label = None; stack = stack }

-- the frame of a function, from a port without a label or an encoding
abbrev pub frame : Name → Frame
frame function = record { function = function; encoding = codes "none"; labeltype = None; label = None }

plain_frame : (function : Name) (p : Port) → IsPlainPort p → frame_of function p None ≡ frame function
plain_frame function p plain = rw (plain.encoding, plain.labels) refl

-- a hop without labels
abbrev pub hop_of : HopKind → Placed → Name → Name → Hop
hop_of kind p from to = record { kind = kind; element = id_of p.element; from = from; from_label = None; to = to; to_label = None; domain = p.domain.id }

step_of : (T : Topology) (kind : HopKind) (p : Placed) (from to : Name) (a : HasPort T from) (b : HasPort T to) (old new : List Frame)
    → element_named T (id_of p.element) ≡ Some p → Rule T (hop_of kind p from to) a.port b.port p.element old new
    → Step T (at from old) (hop_of kind p from to) (at to new)
step_of T kind p from to a b old new held rule = record {
  placed = p;
  from = a.port;
  to = b.port;
  element = held;
  domain = refl;
  leaves = record { is_class = a.is_class; is_open = a.plain.labels };
  enters = record { is_class = b.is_class; is_open = b.plain.labels };
  before = record { same_class = sym a.same; same_label = refl };
  after = record { same_class = sym b.same; same_label = refl };
  rule = rule;
}

wrap : (T : Topology) (d : Domain) (id function client server : Name) (a : HasPort T client) (b : HasPort T server) (stack : List Frame)
    → element_named T id ≡ Some (record { domain = d; element = adaptation id function client }) → serves T server id ≡ true
    → Step T (at client stack) (hop_of kind.Adapt (record { domain = d; element = adaptation id function client }) client server) (at server (stack ++ frame function ∷ []))
wrap T d id function client server a b stack held served =
    step_of T kind.Adapt (record { domain = d; element = adaptation id function client }) client server a b stack (stack ++ frame function ∷ []) held
    (refl, names_first client [], served, ap (λ f. stack ++ f ∷ []) (sym (plain_frame function a.port a.plain)))

unwrap : (T : Topology) (d : Domain) (id function client server : Name) (a : HasPort T server) (b : HasPort T client) (stack : List Frame)
    → element_named T id ≡ Some (record { domain = d; element = deadaptation id function client }) → serves T server id ≡ true
    → Step T (at server (stack ++ frame function ∷ [])) (hop_of kind.Deadapt (record { domain = d; element = deadaptation id function client }) server client) (at client stack)
unwrap T d id function client server a b stack held served =
    step_of T kind.Deadapt (record { domain = d; element = deadaptation id function client }) server client a b (stack ++ frame function ∷ []) stack held
    (refl, served, names_first client [], ap (λ f. stack ++ f ∷ []) (sym (plain_frame function b.port b.plain)))

then_run : (T : Topology) (u : DataUnit) (xs : List Hop) (v : DataUnit) (ys : List Hop) (w : DataUnit) → Run T u xs v → Run T v ys w → Run T u (xs ++ ys) w
then_run T u [] v ys w first second = subst (λ z. Run T z ys w) first second
then_run T u (h ∷ xs) v ys w (mid, step, rest) second = (mid, step, then_run T mid xs v ys w rest second)

-- hops that lead through a level, over every stack
record Through (T : Topology) (k : ℕ) : Type 0 where
  hops : List Hop
  run : (stack : List Frame) → Run T (at (named (codes "x") k) stack) hops (at (named (codes "y") k) stack)
  cost : sum_by (cost_of T) hops + 4 ≡ 5 * 2 ^ k
  count : length hops + 4 ≡ 5 * 2 ^ k

cost_held : (T : Topology) (kind : HopKind) (p : Placed) (from to : Name) → element_named T (id_of p.element) ≡ Some p → cost_of T (hop_of kind p from to) ≡ cost_of_element p.element
cost_held T kind p from to held = rw held refl

-- a sum over hops twice, with four single hops
doubled : (f : Hop → ℕ) (a u b v : Hop) (hops : List Hop) → f a ≡ 1 → f u ≡ 1 → f b ≡ 1 → f v ≡ 1
    → sum_by f (a ∷ hops ++ u ∷ (b ∷ hops ++ v ∷ [])) ≡ 2 * sum_by f hops + 4
doubled f a u b v hops ea eu eb ev =
    omega (
      arith,
      sum_by-cons f a (hops ++ u ∷ (b ∷ hops ++ v ∷ [])),
      sum_by-append f hops (u ∷ (b ∷ hops ++ v ∷ [])),
      sum_by-cons f u (b ∷ hops ++ v ∷ []),
      sum_by-cons f b (hops ++ v ∷ []),
      sum_by-append f hops (v ∷ []),
      sum_by-cons f v [],
    )

power : (k : ℕ) → 2 ^ (k + 1) ≡ 2 * 2 ^ k
power k = ap (λ n. 2 ^ n) (add-one k) ∙ pow-succ' 2 k

module _ (levels : ℕ) (small : levels ≤ 4096) where
  abbrev T : Topology
  T = generated_domains levels

  abbrev l1 : Placed
  l1 = record { domain = ground levels; element = link (named (codes "l") 1) 1 }

  abbrev other_links : List Name
  other_links = map (named (codes "l")) (range_with_len 2 7)

  abbrev along_l1 : Hop
  along_l1 = hop_of kind.Link l1 (named (codes "x") 0) (named (codes "y") 0)

  l1_held : element_named T (named (codes "l") 1) ≡ Some l1
  unfolding ground
  l1_held = is_named levels l1 small (among_ground levels l1 (inr (inr (inl refl))))

  along : (stack : List Frame) → Step T (at (named (codes "x") 0) stack) along_l1 (at (named (codes "y") 0) stack)
  unfolding ground
  along stack =
      step_of T kind.Link l1 (named (codes "x") 0) (named (codes "y") 0) (has_x levels 0 (omega arith)) (has_y levels 0 (omega arith)) stack stack
      l1_held (
        refl,
        passes T (x levels 0 link_ids) (λ p. names p.sources (named (codes "l") 1)) (x_ground levels) (names_first (named (codes "l") 1) other_links),
        passes T (y levels 0 link_ids) (λ p. names p.sinks (named (codes "l") 1)) (y_ground levels) (names_first (named (codes "l") 1) other_links),
        refl,
        tt,
        refl,
      )

  -- a hop into the level below, and one out of it
  module _ (k : ℕ) (inside : k < levels) where
    x_serves : (id : Name) → names ((x levels k []).services) id ≡ true → serves T (named (codes "x") k) id ≡ true
    x_serves id named_there = let some = some_x levels k (omega (arith, inside)) in passes T (x levels k some.0) (λ p. names p.services id) some.1 named_there

    y_serves : (id : Name) → names ((y levels k []).services) id ≡ true → serves T (named (codes "y") k) id ≡ true
    y_serves id named_there = let some = some_y levels k (omega (arith, inside)) in passes T (y levels k some.0) (λ p. names p.services id) some.1 named_there

    abbrev above : Element → Placed
    above e = record { domain = tunnel levels (k + 1); element = e }

    held : (e : Element) → IsAmong (placed_in (tunnel levels (k + 1))) (above e) → element_named T (id_of e) ≡ Some (above e)
    held e h = is_named levels (above e) small (among_level levels (k + 1) (above e) (omega arith) (omega (arith, inside)) h)

    upper_x : HasPort T (named (codes "x") (k + 1))
    upper_x = has_x levels (k + 1) (omega (arith, inside))

    upper_m : HasPort T (named (codes "m") (k + 1))
    upper_m = has_port levels (m levels (k + 1)) (m_level levels (k + 1) (omega arith) (omega (arith, inside)))

    upper_y : HasPort T (named (codes "y") (k + 1))
    upper_y = has_y levels (k + 1) (omega (arith, inside))

    lower_x : HasPort T (named (codes "x") k)
    lower_x = has_x levels k (omega (arith, inside))

    lower_y : HasPort T (named (codes "y") k)
    lower_y = has_y levels k (omega (arith, inside))

    twice : Through T k → Through T (k + 1)
    unfolding tunnel
    twice lower =
        let hops = lower.hops in
        let run = lower.run in
        let d = tunnel levels (k + 1) in
        let xk = named (codes "x") k in
        let yk = named (codes "y") k in
        let xn = named (codes "x") (k + 1) in
        let mn = named (codes "m") (k + 1) in
        let yn = named (codes "y") (k + 1) in
        let F = named (codes "F") (k + 1) in
        let G = named (codes "G") (k + 1) in
        let a = named (codes "a") (k + 1) in
        let b = named (codes "b") (k + 1) in
        let u = named (codes "u") (k + 1) in
        let v = named (codes "v") (k + 1) in
        let by_a = hop_of kind.Adapt (above (adaptation a F xn)) xn xk in
        let by_u = hop_of kind.Deadapt (above (deadaptation u F mn)) yk mn in
        let by_b = hop_of kind.Adapt (above (adaptation b G mn)) mn xk in
        let by_v = hop_of kind.Deadapt (above (deadaptation v G yn)) yk yn in
        let second = by_b ∷ hops ++ by_v ∷ [] in
        let held_a = held (adaptation a F xn) (inr (inr (inr (inl refl)))) in
        let held_u = held (deadaptation u F mn) (inr (inr (inr (inr (inr (inl refl)))))) in
        let held_b = held (adaptation b G mn) (inr (inr (inr (inr (inl refl))))) in
        let held_v = held (deadaptation v G yn) (inr (inr (inr (inr (inr (inr (inl refl))))))) in
        record {
          hops = by_a ∷ hops ++ by_u ∷ second;
          run = λ stack.
              let wrapped : List Frame = stack ++ frame F ∷ [] in
              let again : List Frame = stack ++ frame G ∷ [] in
              let at_a = wrap T d a F xn xk upper_x lower_x stack held_a (x_serves a (first_above levels k (codes "a") (codes "b") inside)) in
              let at_u = unwrap T d u F mn yk lower_y upper_m stack held_u (y_serves u (first_above levels k (codes "u") (codes "v") inside)) in
              let at_b = wrap T d b G mn xk upper_m lower_x stack held_b (x_serves b (second_above levels k (codes "a") (codes "b") inside)) in
              let at_v = unwrap T d v G yn yk lower_y upper_y stack held_v (y_serves v (second_above levels k (codes "u") (codes "v") inside)) in
              let behind : Run T (at xk again) (hops ++ by_v ∷ []) (at yn stack) = then_run T (at xk again) hops (at yk again) (by_v ∷ []) (at yn stack) (run again) (at yn stack, at_v, refl) in (
                at xk wrapped,
                at_a,
                then_run T (at xk wrapped) hops (at yk wrapped) (by_u ∷ second) (at yn stack) (run wrapped) (at mn stack, at_u, (at xk again, at_b, behind)),
              );
          cost = omega (
            arith,
            lower.cost,
            power k,
            doubled (cost_of T) by_a by_u by_b by_v hops
                (cost_held T kind.Adapt (above (adaptation a F xn)) xn xk held_a) (cost_held T kind.Deadapt (above (deadaptation u F mn)) yk mn held_u)
                (cost_held T kind.Adapt (above (adaptation b G mn)) mn xk held_b) (cost_held T kind.Deadapt (above (deadaptation v G yn)) yk yn held_v),
          );
          count = omega (arith, lower.count, power k, length-append hops (by_u ∷ second), length-append hops (by_v ∷ []));
        }

  through : (k : ℕ) → k ≤ levels → Through T k
  through zero high = record {
    hops = along_l1 ∷ [];
    run = λ stack. (at (named (codes "y") 0) stack, along stack, refl);
    cost = omega (arith, sum_by-cons (cost_of T) along_l1 [], cost_held T kind.Link l1 (named (codes "x") 0) (named (codes "y") 0) l1_held);
    count = refl;
  }
  through (suc k) high = subst (Through T) (add-one k) (twice k (omega (arith, high)) (through k (omega (arith, high))))

same_weight : (cost hops n : ℕ) → cost + 4 ≡ n → hops + 4 ≡ n → ◌≡◌ {A = FullWeight} (record { cost = cost; hops = hops }) (record { cost = n - 4; hops = n - 4 })
same_weight cost hops n a b =
    let c : cost ≡ n - 4 = omega (arith, a) in
    let h : hops ≡ n - 4 = omega (arith, b) in
    cc

-- a generated request has a walk of the generated weight
pub walk : (levels : ℕ) → levels ≤ 4096 → (hops : List Hop) × Walk (generated_domains levels) (generated_request levels) hops × (weight_of (generated_domains levels) hops ≡ generated_weight levels)
walk levels small =
    let T = generated_domains levels in
    let from = has_x levels levels (omega arith) in
    let to = has_y levels levels (omega arith) in
    let whole = through levels small levels (omega arith) in (
      whole.hops,
      (
        record {
          from = from.port;
          from_label = None;
          to = to.port;
          to_label = None;
          from_allowed = record { place = record { is_class = from.is_class; is_open = from.plain.labels }; wished = tt };
          to_allowed = record { place = record { is_class = to.is_class; is_open = to.plain.labels }; wished = tt };
        },
        subst (λ id. Run T (at id []) whole.hops (at to.port.id [])) (sym from.same) (subst (λ id. Run T (at (named (codes "x") levels) []) whole.hops (at id [])) (sym to.same) (whole.run [])),
      ),
      same_weight (sum_by (cost_of T) whole.hops) (length whole.hops) (5 * 2 ^ levels) whole.cost whole.count,
    )
