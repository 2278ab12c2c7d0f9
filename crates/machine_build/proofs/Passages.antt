-- The ways through elements in the direction of their hops, and the rules of the hops.
use Rattle.std.proofs.Common.{◌≡◌, ℕ, ◌⊎◌, inl, inr, List, [], ◌∷◌, Bool, true, false, ◌&&◌, None, Some, refl, sym, ◌∙◌, ap}
use Rattle.std.specs.Prelude.{slice_get}
use Rattle.std.specs.Str.{bytes_eq}
use Rattle.std.proofs.lemmas.Slice.Eq.{bytes_eq-Decides}
use Rattle.std.proofs.lemmas.Bool.{and_from}
use Rattle.ml_base.proofs.Lists.{any_among, one_of_some}
use Rattle.ml_base.specs.Lists.{IsAmong}
use Rattle.nml_elements.specs.declared.elements.Element.{Element}
use Rattle.nml_elements.specs.declared.elements.Element.TheVariants as element
use Rattle.nml_elements.specs.declared.elements.Labels.{Labels}
use Rattle.nml_elements.specs.declared.elements.Labels.TheVariants.{Unlabelled, Of}
use Rattle.circuit_spec.specs.declared.hops.Frame.{Frame}
use Rattle.circuit_spec.specs.declared.hops.Hop.{Hop}
use Rattle.circuit_spec.specs.declared.hops.HopKind.{HopKind}
use Rattle.circuit_spec.specs.declared.hops.HopKind.TheVariants as kind
use Rattle.circuit_spec.specs.declared.hops.PlaceName.{PlaceName}
use Rattle.circuit_spec.specs.Network.{Name, Tag, Topology, Port, IsClass, names, port_has, ports}
use Rattle.circuit_spec.specs.Segments.{unit_in}
use Rattle.circuit_spec.specs.Steps.{IsCarried, Rule, Step, frame_of, inbound_of, outbound_of}
use Rattle.circuit_spec.proofs.Alone.{found_port}
use Rattle.circuit_spec.proofs.Types.{port_of_class}
use Rattle.adapt_machine.specs.declared.MachineKind.{MachineKind}
use Rattle.adapt_machine.specs.declared.MachineKind.TheVariants.{Flat, Push, Pop}
use Rattle.machine_build.specs.declared.ways.End.{End}
use Rattle.machine_build.specs.declared.ways.Move.{Move}
use Rattle.machine_build.specs.Built.{MovesBy, kind_of}
use Rattle.machine_build.specs.Frames.{IsFramed, step_kind}
use Rattle.machine_build.specs.Ways.{IsEnd, Lets, carries, changes, far_by, from_of, is_far, is_near, near_by, site_by, step_by, takes, to_of}

-- what the element asks of the ports and labels of its hops
abbrev pub Passes : Topology → Element → Port → Tag → Port → Tag → Type 0
Passes T (element.Link l) p x q y = (names p.sources l.id ≡ true) × (names q.sinks l.id ≡ true) × (carries l.labels x ≡ true) × (y ≡ x)
Passes T (element.Switching s) p x q y = (names (inbound_of T s) p.id ≡ true) × (names (outbound_of T s) q.id ≡ true) × ((s.swapping ≡ true) ⊎ (y ≡ x))
Passes T (element.Adaptation a) p x q y = (names a.ports p.id ≡ true) × (names q.services a.id ≡ true)
Passes T (element.Deadaptation a) p x q y = (names p.services a.id ≡ true) × (names a.ports q.id ≡ true)
Passes T (element.Conversion c) p x q y = (names c.inbound p.id ≡ true) × (names c.outbound q.id ≡ true)
Passes T (element.Node n) p x q y = ⊥
Passes T (element.Port o) p x q y = ⊥

-- the frame of the number is that of the place that an adaptation leaves, or that a deadaptation enters
abbrev pub IsFramedBy : List Frame → Element → Port → Tag → Port → Tag → ℕ → Type 0
IsFramedBy frames (element.Adaptation a) from x to y number = slice_get frames number ≡ Some (frame_of a.function from x)
IsFramedBy frames (element.Deadaptation a) from x to y number = slice_get frames number ≡ Some (frame_of a.function to y)
IsFramedBy frames (element.Link l) from x to y number = Unit {0}
IsFramedBy frames (element.Switching s) from x to y number = Unit {0}
IsFramedBy frames (element.Conversion c) from x to y number = Unit {0}
IsFramedBy frames (element.Node n) from x to y number = Unit {0}
IsFramedBy frames (element.Port p) from x to y number = Unit {0}

-- Directions

pub near_is : (k : MachineKind) (m : Move) → m.near ≡ near_by k (from_of (step_by k m) (site_by k m)) (to_of (step_by k m) (site_by k m))
near_is Flat m = refl
near_is Push m = refl
near_is Pop m = refl

pub far_is : (k : MachineKind) (m : Move) → m.far ≡ far_by k (from_of (step_by k m) (site_by k m)) (to_of (step_by k m) (site_by k m))
far_is Flat m = refl
far_is Push m = refl
far_is Pop m = refl

pub from_is : (k : MachineKind) (m : Move) (from to : End) → m.near ≡ near_by k from to → m.far ≡ far_by k from to → from_of (step_by k m) (site_by k m) ≡ from
from_is Flat m from to n f = n
from_is Push m from to n f = n
from_is Pop m from to n f = f

pub to_is : (k : MachineKind) (m : Move) (from to : End) → m.near ≡ near_by k from to → m.far ≡ far_by k from to → to_of (step_by k m) (site_by k m) ≡ to
to_is Flat m from to n f = f
to_is Push m from to n f = f
to_is Pop m from to n f = n

pub site_element : (k : MachineKind) (m : Move) → (site_by k m).element ≡ m.element
site_element Flat m = refl
site_element Push m = refl
site_element Pop m = refl

pub step_cost : (k : MachineKind) (m : Move) → (step_by k m).cost ≡ m.effect.cost
step_cost Flat m = refl
step_cost Push m = refl
step_cost Pop m = refl

pub kind_is : (k : MachineKind) (m : Move) → (step_by k m).kind ≡ k
kind_is Flat m = refl
kind_is Push m = refl
kind_is Pop m = refl

-- From the sides of an element to the direction of its hops, and back

module _ (T : Topology) (places : List PlaceName) (frames : List Frame) where
  pub record Passage (e : Element) (from to : End) (number : ℕ) : Type 0 where
    pub p : Port
    pub q : Port
    pub leaves : PlaceName
    pub enters : PlaceName
    pub from_end : IsEnd T places from p leaves
    pub to_end : IsEnd T places to q enters
    pub passes : Passes T e p leaves.label q enters.label
    pub framed : IsFramedBy frames e from_end.class leaves.label to_end.class enters.label number

  one_way : (b : Bool) → b ≡ false → {A : Type 0} → (b ≡ true) ⊎ A → A
  one_way b f (inl t) = absurd (cc)
  one_way b f (inr a) = a

  -- a way with its frame is a passage
  pub passage : (e : Element) (m : Move) (near far : Port) (x y : PlaceName) (near_end : IsEnd T places m.near near x) (far_end : IsEnd T places m.far far y)
      → is_near T e near ≡ true → is_far T e far ≡ true → takes e x.label ≡ true → Lets (changes e) x.label y.label → IsFramed frames e near_end.class x.label m.effect.frame.0
      → Passage e (from_of (step_by (step_kind e) m) (site_by (step_kind e) m)) (to_of (step_by (step_kind e) m) (site_by (step_kind e) m)) (step_by (step_kind e) m).frame.0
  passage (element.Link l) m near far x y near_end far_end n f t lets fr = record { p = near; q = far; leaves = x; enters = y; from_end = near_end; to_end = far_end; passes = (n, f, t, one_way false refl lets); framed = tt }
  passage (element.Switching s) m near far x y near_end far_end n f t lets fr = record { p = near; q = far; leaves = x; enters = y; from_end = near_end; to_end = far_end; passes = (n, f, lets); framed = tt }
  passage (element.Conversion c) m near far x y near_end far_end n f t lets fr = record { p = near; q = far; leaves = x; enters = y; from_end = near_end; to_end = far_end; passes = (n, f); framed = tt }
  passage (element.Adaptation a) m near far x y near_end far_end n f t lets fr = record { p = near; q = far; leaves = x; enters = y; from_end = near_end; to_end = far_end; passes = (n, f); framed = fr }
  passage (element.Deadaptation a) m near far x y near_end far_end n f t lets fr = record { p = far; q = near; leaves = y; enters = x; from_end = far_end; to_end = near_end; passes = (f, n); framed = fr }
  passage (element.Node o) m near far x y near_end far_end n f t lets fr = absurd (cc)
  passage (element.Port o) m near far x y near_end far_end n f t lets fr = absurd (cc)

  -- the sides of a passage
  pub record Sides (e : Element) (near far : End) : Type 0 where
    pub p : Port
    pub q : Port
    pub x : PlaceName
    pub y : PlaceName
    pub near_end : IsEnd T places near p x
    pub far_end : IsEnd T places far q y
    pub at_near : is_near T e p ≡ true
    pub at_far : is_far T e q ≡ true
    pub taken : takes e x.label ≡ true
    pub lets : Lets (changes e) x.label y.label

  pub sides : (e : Element) (from to : End) (p q : Port) (x y : PlaceName) → IsEnd T places from p x → IsEnd T places to q y → Passes T e p x.label q y.label → Sides e (near_by (step_kind e) from to) (far_by (step_kind e) from to)
  sides (element.Link l) from to p q x y f t r = record { p = p; q = q; x = x; y = y; near_end = f; far_end = t; at_near = r.0; at_far = r.1; taken = r.2; lets = inr r.3 }
  sides (element.Switching s) from to p q x y f t r = record { p = p; q = q; x = x; y = y; near_end = f; far_end = t; at_near = r.0; at_far = r.1; taken = refl; lets = r.2 }
  sides (element.Conversion c) from to p q x y f t r = record { p = p; q = q; x = x; y = y; near_end = f; far_end = t; at_near = r.0; at_far = r.1; taken = refl; lets = inl refl }
  sides (element.Adaptation a) from to p q x y f t r = record { p = p; q = q; x = x; y = y; near_end = f; far_end = t; at_near = r.0; at_far = r.1; taken = refl; lets = inl refl }
  sides (element.Deadaptation a) from to p q x y f t r = record { p = q; q = p; x = y; y = x; near_end = t; far_end = f; at_near = r.1; at_far = r.0; taken = refl; lets = inl refl }
  sides (element.Node n) from to p q x y f t r = absurd r
  sides (element.Port o) from to p q x y f t r = absurd r

-- From a passage to a rule

carried : (labels : Labels) (label : Tag) → carries labels label ≡ true → IsCarried labels label
carried Unlabelled label e = tt
carried (Of labeltype set) None e = absurd (cc)
carried (Of labeltype set) (Some label) e = e

has_port : (T : Topology) (id : Name) (p : Port) (test : Port → Bool) → IsAmong (ports T) p → id ≡ p.id → test p ≡ true → port_has T id test ≡ true
has_port T id p test among same t =
    any_among (λ x. bytes_eq x.id id && test x) (ports T) p among (and_from (bytes_eq p.id id) (test p) ((bytes_eq-Decides p.id id).1 (sym same)) t)

pub makes_hops : (T : Topology) (e : Element) (p q : Port) (x y : Tag) → Passes T e p x q y → (k : HopKind) × (kind_of e ≡ Some k)
makes_hops T (element.Link l) p q x y r = (kind.Link, refl)
makes_hops T (element.Switching s) p q x y r = (kind.Cross, refl)
makes_hops T (element.Conversion c) p q x y r = (kind.Convert, refl)
makes_hops T (element.Adaptation a) p q x y r = (kind.Adapt, refl)
makes_hops T (element.Deadaptation a) p q x y r = (kind.Deadapt, refl)
makes_hops T (element.Node n) p q x y r = absurd r
makes_hops T (element.Port o) p q x y r = absurd r

module _ (T : Topology) (frames : List Frame) (h : Hop) (from to p q : Port) (p_in : IsAmong (ports T) p) (q_in : IsAmong (ports T) q) (from_id : h.from ≡ p.id) (to_id : h.to ≡ q.id) (x y : PlaceName) where
  named_in : (ids : List Name) (id other : Name) → id ≡ other → names ids other ≡ true → names ids id ≡ true
  named_in ids id other same n = ap (names ids) same ∙ n

  -- a passage does what its step does, where each rule of the element is a step of the network
  pub moved : (e : Element) (number : ℕ) → ((old new : List Frame) → Rule T h from to e old new → Step T (unit_in x old) h (unit_in y new)) → kind_of e ≡ Some h.kind
      → Passes T e p h.from_label q h.to_label → IsFramedBy frames e from h.from_label to h.to_label number → MovesBy T frames x y h number (step_kind e)
  moved (element.Link l) number step k r fr =
      step [] [] (sym (one_of_some k), has_port T h.from p (λ o. names o.sources l.id) p_in from_id r.0, has_port T h.to q (λ o. names o.sinks l.id) q_in to_id r.1, r.3, carried l.labels h.from_label r.2, refl)
  moved (element.Switching s) number step k r fr =
      step [] [] (sym (one_of_some k), named_in (inbound_of T s) h.from p.id from_id r.0, named_in (outbound_of T s) h.to q.id to_id r.1, r.2, refl)
  moved (element.Conversion c) number step k r fr =
      step [] [] (sym (one_of_some k), named_in c.inbound h.from p.id from_id r.0, named_in c.outbound h.to q.id to_id r.1, refl)
  moved (element.Adaptation a) number step k r fr =
      (frame_of a.function from h.from_label, fr, step [] (frame_of a.function from h.from_label ∷ []) (sym (one_of_some k), named_in a.ports h.from p.id from_id r.0, has_port T h.to q (λ o. names o.services a.id) q_in to_id r.1, refl))
  moved (element.Deadaptation a) number step k r fr =
      (frame_of a.function to h.to_label, fr, step (frame_of a.function to h.to_label ∷ []) [] (sym (one_of_some k), has_port T h.from p (λ o. names o.services a.id) p_in from_id r.0, named_in a.ports h.to q.id to_id r.1, refl))
  moved (element.Node n) number step k r fr = absurd r
  moved (element.Port o) number step k r fr = absurd r

-- From a rule to a passage

carries_it : (labels : Labels) (label : Tag) → IsCarried labels label → carries labels label ≡ true
carries_it Unlabelled label c = refl
carries_it (Of labeltype set) None c = absurd c
carries_it (Of labeltype set) (Some label) c = c

pub record Related (T : Topology) (h : Hop) (e : Element) : Type 0 where
  pub p : Port
  pub q : Port
  pub p_in : IsAmong (ports T) p
  pub q_in : IsAmong (ports T) q
  pub p_id : p.id ≡ h.from
  pub q_id : q.id ≡ h.to
  pub passes : Passes T e p h.from_label q h.to_label
  pub is_kind : kind_of e ≡ Some h.kind

pub rule_related : (T : Topology) (h : Hop) (from to : Port) (e : Element) (old new : List Frame) → IsClass T h.from from → IsClass T h.to to → Rule T h from to e old new → Related T h e
rule_related T h from to (element.Link l) old new f t r =
    let p = found_port T h.from (λ x. names x.sources l.id) r.1 in
    let q = found_port T h.to (λ x. names x.sinks l.id) r.2 in
    record { p = p.0; q = q.0; p_in = p.1; q_in = q.1; p_id = p.2; q_id = q.2; passes = (p.3, q.3, carries_it l.labels h.from_label r.4, r.3); is_kind = ap Some (sym r.0) }
rule_related T h from to (element.Switching s) old new f t r =
    let p = port_of_class T h.from from f in
    let q = port_of_class T h.to to t in
    record { p = p.0; q = q.0; p_in = p.1; q_in = q.1; p_id = p.2; q_id = q.2; passes = (ap (names (inbound_of T s)) p.2 ∙ r.1, ap (names (outbound_of T s)) q.2 ∙ r.2, r.3); is_kind = ap Some (sym r.0) }
rule_related T h from to (element.Conversion c) old new f t r =
    let p = port_of_class T h.from from f in
    let q = port_of_class T h.to to t in
    record { p = p.0; q = q.0; p_in = p.1; q_in = q.1; p_id = p.2; q_id = q.2; passes = (ap (names c.inbound) p.2 ∙ r.1, ap (names c.outbound) q.2 ∙ r.2); is_kind = ap Some (sym r.0) }
rule_related T h from to (element.Adaptation a) old new f t r =
    let p = port_of_class T h.from from f in
    let q = found_port T h.to (λ x. names x.services a.id) r.2 in
    record { p = p.0; q = q.0; p_in = p.1; q_in = q.1; p_id = p.2; q_id = q.2; passes = (ap (names a.ports) p.2 ∙ r.1, q.3); is_kind = ap Some (sym r.0) }
rule_related T h from to (element.Deadaptation a) old new f t r =
    let p = found_port T h.from (λ x. names x.services a.id) r.1 in
    let q = port_of_class T h.to to t in
    record { p = p.0; q = q.0; p_in = p.1; q_in = q.1; p_id = p.2; q_id = q.2; passes = (p.3, ap (names a.ports) q.2 ∙ r.2); is_kind = ap Some (sym r.0) }
rule_related T h from to (element.Node n) old new f t r = absurd r
rule_related T h from to (element.Port o) old new f t r = absurd r
