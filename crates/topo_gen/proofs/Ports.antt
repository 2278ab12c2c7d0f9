-- The ports of a generated network, each a class of its own.
use Rattle.std.proofs.Common.{◌≡◌, ℕ, zero, suc, ◌+◌, ◌<◌, ◌≤◌, inl, inr, List, [], ◌∷◌, Bool, true, false, ◌&&◌, Some, codes, refl, arith}
use Rattle.std.specs.List.{find}
use Rattle.std.specs.Str.{bytes_eq}
use Rattle.std.proofs.lemmas.Bool.{and_from, or_left, or_right, lt-ltb}
use Rattle.std.proofs.lemmas.Slice.Eq.{bytes_eq-Decides}
use Rattle.ml_base.proofs.Lists.{any_among, all_among, among_filter_map}
use Rattle.ml_base.specs.Lists.{IsAmong}
use Rattle.ml_base.proofs.Comparisons.{bytes_itself}
use Rattle.circuit_spec.specs.Network.{Name, Topology, Placed, Port, IsClass, elements_of, names, port_at, port_has, ports}
use Rattle.circuit_spec.specs.Faults.{IsKnown}
use Rattle.circuit_spec.proofs.Among.{among_find}
use Rattle.circuit_spec.proofs.Alone.{alone_class}
use Rattle.circuit_spec.proofs.Plain.{read_port}
use Rattle.topo_gen.specs.Tunnels.{named, services_above, link_ids, ground, tunnel, generated_domains, generated_request}
use Rattle.topo_gen.proofs.Found.{among_ground, among_level}
use Rattle.topo_gen.proofs.Plain.{IsPlainPort, no_aliases, ports_plain}

pub names_first : (x : Name) (xs : List Name) → names (x ∷ xs) x ≡ true
names_first x xs = or_left (bytes_eq x x) (names xs x) (bytes_itself x)

pub names_second : (x y : Name) (xs : List Name) → names (y ∷ x ∷ xs) x ≡ true
names_second x y xs = or_right (bytes_eq y x) (names (x ∷ xs) x) (names_first x xs)

found_by : {A : Type 0} (test : A → Bool) (b : Bool) (y : A) (ys : List A) → test y ≡ b → ((z : A) × (find test ys ≡ Some z)) → (z : A) × (find test (y ∷ ys) ≡ Some z)
found_by test true y ys is later = (y, rw is refl)
found_by test false y ys is later = (later.0, rw is later.1)

-- a search for what an item passes finds some item
found_some : {A : Type 0} (test : A → Bool) (xs : List A) (x : A) → IsAmong xs x → test x ≡ true → (z : A) × (find test xs ≡ Some z)
found_some test [] x h t = absurd h
found_some test (y ∷ ys) x (inl e) t = let passes : test y ≡ true = cc in (y, rw passes refl)
found_some test (y ∷ ys) x (inr later) t = found_by test (test y) y ys refl (found_some test ys x later t)

-- a port of this id is the class of the id
pub record HasPort (T : Topology) (id : Name) : Type 0 where
  pub port : Port
  pub is_class : IsClass T id port
  pub same : port.id ≡ id
  pub plain : IsPlainPort port

-- a port of the network passes the test
pub passes : (T : Topology) (q : Port) (test : Port → Bool) → IsAmong (ports T) q → test q ≡ true → port_has T q.id test ≡ true
passes T q test h t = any_among (λ p. bytes_eq p.id q.id && test p) (ports T) q h (and_from (bytes_eq q.id q.id) (test q) (bytes_itself q.id) t)

module _ (levels : ℕ) where
  abbrev T : Topology
  T = generated_domains levels

  pub has_port : (q : Port) → IsAmong (ports T) q → HasPort T q.id
  has_port q h =
      let some = found_some (λ p. bytes_eq p.id q.id) (ports T) q h (bytes_itself q.id) in
      let among = among_find (λ (p : Port). bytes_eq p.id q.id) (ports T) some.0 some.1 in
      record {
        port = some.0;
        is_class = alone_class T q.id some.0 (no_aliases levels) some.1;
        same = (bytes_eq-Decides some.0.id q.id).0 among.1;
        plain = all_among IsPlainPort (ports T) some.0 (ports_plain levels) among.0;
      }

  among_ports : (p : Placed) (q : Port) → IsAmong (elements_of T) p → port_at p.domain p.element ≡ Some q → IsAmong (ports T) q
  among_ports p q h is = among_filter_map (λ (r : Placed). port_at r.domain r.element) (elements_of T) p q h is

  -- the ports of a level: the first, the middle one, the last
  abbrev pub x : ℕ → List Name → Port
  x k sources = read_port (named (codes "x") k) (codes "none") sources [] (services_above levels k (codes "a") (codes "b"))

  abbrev pub m : ℕ → Port
  m k = read_port (named (codes "m") k) (codes "none") [] [] []

  abbrev pub y : ℕ → List Name → Port
  y k sinks = read_port (named (codes "y") k) (codes "none") [] sinks (services_above levels k (codes "u") (codes "v"))

  pub x_ground : IsAmong (ports T) (x 0 link_ids)
  unfolding ground
  x_ground = among_ports _ (x 0 link_ids) (among_ground levels _ (inl refl)) refl

  pub y_ground : IsAmong (ports T) (y 0 link_ids)
  unfolding ground
  y_ground = among_ports _ (y 0 link_ids) (among_ground levels _ (inr (inl refl))) refl

  pub x_level : (k : ℕ) → 1 ≤ k → k ≤ levels → IsAmong (ports T) (x k [])
  unfolding tunnel
  x_level k low high = among_ports _ (x k []) (among_level levels k _ low high (inl refl)) refl

  pub m_level : (k : ℕ) → 1 ≤ k → k ≤ levels → IsAmong (ports T) (m k)
  unfolding tunnel
  m_level k low high = among_ports _ (m k) (among_level levels k _ low high (inr (inl refl))) refl

  pub y_level : (k : ℕ) → 1 ≤ k → k ≤ levels → IsAmong (ports T) (y k [])
  unfolding tunnel
  y_level k low high = among_ports _ (y k []) (among_level levels k _ low high (inr (inr (inl refl)))) refl

  -- at every level
  pub some_x : (k : ℕ) → k ≤ levels → (sources : List Name) × IsAmong (ports T) (x k sources)
  some_x zero high = (link_ids, x_ground)
  some_x (suc k) high = ([], x_level (suc k) (omega arith) high)

  pub some_y : (k : ℕ) → k ≤ levels → (sinks : List Name) × IsAmong (ports T) (y k sinks)
  some_y zero high = (link_ids, y_ground)
  some_y (suc k) high = ([], y_level (suc k) (omega arith) high)

  pub has_x : (k : ℕ) → k ≤ levels → HasPort T (named (codes "x") k)
  has_x k high = let some = some_x k high in has_port (x k some.0) some.1

  pub has_y : (k : ℕ) → k ≤ levels → HasPort T (named (codes "y") k)
  has_y k high = let some = some_y k high in has_port (y k some.0) some.1

  pub known : IsKnown T (generated_request levels)
  known =
      let from = has_x levels (omega arith) in
      let to = has_y levels (omega arith) in
      ((from.port, from.is_class, tt), (to.port, to.is_class, tt))

-- the services of the level above
pub first_above : (levels k : ℕ) (first second : Name) → k < levels → names (services_above levels k first second) (named first (k + 1)) ≡ true
first_above levels k first second below = rw (lt-ltb k levels below) (names_first (named first (k + 1)) (named second (k + 1) ∷ []))

pub second_above : (levels k : ℕ) (first second : Name) → k < levels → names (services_above levels k first second) (named second (k + 1)) ≡ true
second_above levels k first second below = rw (lt-ltb k levels below) (names_second (named second (k + 1)) (named first (k + 1)) [])
