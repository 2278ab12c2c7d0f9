-- A run with each label in the place of its keeper is a run.
use Rattle.std.proofs.Common.{◌≡◌, ◌⊎◌, ◌≤◌, ℕ, inl, inr, List, [], ◌∷◌, ◌++◌, true, Option, None, Some, length, ◌+◌, sum_by, refl, sym, ◌∙◌, ap, subst, arith, map, IsTrue}
use Rattle.std.specs.Str.{bytes_eq}
use Rattle.std.proofs.lemmas.Bool.{or_left, or_right}
use Rattle.std.proofs.lemmas.List.{map-append, length-map}
use Rattle.std.proofs.lemmas.List.Sums.{sum_by-cons}
use Rattle.ml_base.specs.Weight.{FullWeight}
use Rattle.ml_base.specs.declared.numbers.Wish.{Wish}
use Rattle.ml_base.specs.declared.numbers.Wish.TheVariants.{Any, Value}
use Rattle.ml_base.proofs.Lists.{among_filter_map, contains_among}
use Rattle.ml_base.specs.Lists.{IsAmong}
use Rattle.nml_elements.specs.declared.elements.Labels.{Labels}
use Rattle.nml_elements.specs.declared.elements.Labels.TheVariants.{Unlabelled, Of}
use Rattle.nml_elements.specs.declared.elements.LinkE.{LinkE}
use Rattle.nml_elements.specs.declared.elements.SwitchE.{SwitchE}
use Rattle.nml_elements.specs.declared.elements.Element.{Element}
use Rattle.nml_elements.specs.declared.elements.Element.TheVariants as element
use Rattle.nml_elements.specs.Labels.{is_among}
use Rattle.label_sets.specs.Ranges.{has}
use Rattle.circuit_spec.specs.declared.hops.Frame.{Frame}
use Rattle.circuit_spec.specs.declared.hops.Hop.{Hop}
use Rattle.circuit_spec.specs.declared.hops.Request.{Request}
use Rattle.circuit_spec.specs.declared.hops.Unit.{Unit as DataUnit}
use Rattle.circuit_spec.specs.Network.{Name, Tag, Topology, Placed, Port, IsClass, IsOpen, IsPlace, IsInClassSet, Linked, label_type, ports, elements_of, id_of, names, sends_into, takes_from}
use Rattle.circuit_spec.specs.Steps.{Rule, Step, Run, Walk, IsAllowed, IsWished, unit_at, IsCarried, inbound_of, outbound_of, frame_of, weight_of, cost_of}
use Rattle.circuit_spec.specs.Kept.{StatesAt, IsClassOfType, IsLinkOfType, AreAlike, IsInSomeSet, IsKept, HasKept, IsOverKept, AreOverKept, IsStated, links, link_at}
use Rattle.circuit_spec.specs.Segments.{IsWalkOverKept}
use Rattle.circuit_spec.specs.Keeping.{Keeping, GivesKeepers, kept_tag, type_at, kept_hop, kept_frame, kept_unit, kept_hops}
use Rattle.circuit_spec.specs.Faults.{IsSound, own_type, switch_at}
use Rattle.circuit_spec.proofs.Among.{among_first, among_find}
use Rattle.circuit_spec.proofs.Alone.{found_port, All-among}
use Rattle.circuit_spec.proofs.ClassLemmas.{First-unique, class_of_itself}
use Rattle.circuit_spec.proofs.Types.{type_at_port, type_at_class, OneType, link_type, switch_type, port_of_class}

-- an unlabelled class has no label in its set
no_label : (T : Topology) (port : Name) (class : Port) (label : ℕ) (A : Type 0) → IsClass T port class → label_type class.labels ≡ None → IsInClassSet T class label → A
no_label T port class label A first none h =
    let among = (among_first (λ q. Linked T port q.id) (ports T) class first).0 in
    let own = All-among (λ q. Linked T class.id q.id → IsTrue (is_among q.labels label)) (ports T) class h among ([], refl) in
    unlabelled class.labels none own where
      unlabelled : (labels : Labels) → label_type labels ≡ None → is_among labels label ≡ true → A
      unlabelled Unlabelled e t = cc
      unlabelled (Of labeltype set) e t = cc

-- a place stays open, and has a kept label or none
record Stays (T : Topology) (r : Request) (class : Port) (label : Tag) : Type 0 where
  is_open : IsOpen T class label
  has_kept : HasKept T r class label

stays : (T : Topology) (r : Request) (keeping : Keeping) → GivesKeepers T r keeping → (port : Name) (class : Port) → IsClass T port class → (t : Option Name) → label_type class.labels ≡ t → (label : Tag) → IsOpen T class label → Stays T r class (kept_tag keeping t label)
stays T r keeping gives port class first None e None h = record { is_open = h; has_kept = tt }
stays T r keeping gives port class first (Some t) e None h = record { is_open = h; has_kept = tt }
stays T r keeping gives port class first None e (Some label) h = no_label T port class label _ first e h
stays T r keeping gives port class first (Some t) e (Some label) h =
    let typed : IsClassOfType T t class = record { first = class_of_itself T port class first; typed = e } in
    let keeper = gives t label (inl (class, typed, h)) in
    record { is_open = (keeper.alike.classes class typed).1 h; has_kept = (t, e, keeper.kept) }

place_stays : (T : Topology) (r : Request) (keeping : Keeping) → IsSound T → GivesKeepers T r keeping → (port : Name) (label : Tag) (class : Port) → IsPlace T port label class → Stays T r class (kept_tag keeping (type_at T port) label)
place_stays T r keeping sound gives port label class place =
    let P : Option Name → Type 0 = λ t. Stays T r class (kept_tag keeping t label) in
    subst P (sym (type_at_class T port class sound place.is_class)) (stays T r keeping gives port class place.is_class (label_type class.labels) refl label place.is_open)

-- the label stays in the link's own set
carried : (T : Topology) (r : Request) (keeping : Keeping) → GivesKeepers T r keeping → (l : LinkE) → IsAmong (links T) l → (labels : Labels) → l.labels ≡ labels → (t : Option Name) → ((own : Option Name) → own_type labels ≡ Some own → t ≡ own) → (label : Tag) → IsCarried labels label → IsCarried labels (kept_tag keeping t label)
carried T r keeping gives l held Unlabelled e t own label h = tt
carried T r keeping gives l held (Of labeltype set) e t own None h = absurd h
carried T r keeping gives l held (Of labeltype set) e t own (Some label) h =
    let typed : IsLinkOfType T labeltype l = record { held = contains_among (links T) l held; typed = ap label_type e } in
    let is_in : IsTrue (is_among l.labels label) = ap (λ x. is_among x label) e ∙ h in
    let keeper = gives labeltype label (inr (l, typed, is_in)) in
    let stays_in : has set (keeping labeltype label) ≡ true = ap (λ x. is_among x (keeping labeltype label)) (sym e) ∙ (keeper.alike.links l typed).1 is_in in
    let P : Option Name → Type 0 = λ x. IsCarried (Of labeltype set) (kept_tag keeping x (Some label)) in
    subst P (sym (own (Some labeltype) refl)) stays_in

-- Both ends of a hop have one label type, where its element relates ports of one.
record Typed (T : Topology) (stated : Option (Option Name)) (from to : Name) : Type 0 where
  same : type_at T to ≡ type_at T from
  own : (t : Option Name) → stated ≡ Some t → type_at T from ≡ t

typed_by : (T : Topology) (stated : Option (Option Name)) (from to : Name) (p q : Port) → IsSound T → IsAmong (ports T) p → p.id ≡ from → IsAmong (ports T) q → q.id ≡ to → OneType stated p q → Typed T stated from to
typed_by T stated from to p q sound at_p is_from at_q is_to one =
    let at_from = type_at_port T from p sound at_p is_from in
    let at_to = type_at_port T to q sound at_q is_to in
    record { same = at_to ∙ sym one.same ∙ sym at_from; own = λ t e. at_from ∙ one.own t e }

link_ends : (T : Topology) (placed : Placed) (l : LinkE) (from to : Name) → IsSound T → IsAmong (elements_of T) placed → link_at placed.element ≡ Some l → sends_into T from l.id ≡ true → takes_from T to l.id ≡ true → Typed T (own_type l.labels) from to
link_ends T placed l from to sound held is sends takes =
    let p = found_port T from (λ x. names x.sources l.id) sends in
    let q = found_port T to (λ x. names x.sinks l.id) takes in
    typed_by T (own_type l.labels) from to p.0 q.0 sound p.1 p.2 q.1 q.2
    (link_type T placed l p.0 q.0 sound held is p.1 (or_left (names p.0.sources l.id) (names p.0.sinks l.id) p.3) q.1 (or_right (names q.0.sources l.id) (names q.0.sinks l.id) q.3))

switch_ends : (T : Topology) (placed : Placed) (s : SwitchE) (from to : Name) (from_class to_class : Port) → IsSound T → IsAmong (elements_of T) placed → switch_at placed.element ≡ Some s → IsClass T from from_class → IsClass T to to_class → names (inbound_of T s) from ≡ true → names (outbound_of T s) to ≡ true → Typed T None from to
switch_ends T placed s from to from_class to_class sound held is first_from first_to goes_in goes_out =
    let p = port_of_class T from from_class first_from in
    let q = port_of_class T to to_class first_to in
    let in_p : names (inbound_of T s) p.0.id ≡ true = ap (names (inbound_of T s)) p.2 ∙ goes_in in
    let out_q : names (outbound_of T s) q.0.id ≡ true = ap (names (outbound_of T s)) q.2 ∙ goes_out in
    typed_by T None from to p.0 q.0 sound p.1 p.2 q.1 q.2
    (switch_type T placed s p.0 q.0 sound held is p.1 (or_left (names (inbound_of T s) p.0.id) (names (outbound_of T s) p.0.id) in_p) q.1 (or_right (names (inbound_of T s) q.0.id) (names (outbound_of T s) q.0.id) out_q))

-- the labels that are equal stay so
same_kept : (T : Topology) (keeping : Keeping) (from to : Name) (from_label to_label : Tag) → type_at T to ≡ type_at T from → to_label ≡ from_label → kept_tag keeping (type_at T to) to_label ≡ kept_tag keeping (type_at T from) from_label
same_kept T keeping from to from_label to_label types labels = ap (λ t. kept_tag keeping t to_label) types ∙ ap (λ x. kept_tag keeping (type_at T from) x) labels

-- the stacks, with each frame as it is kept
pushed : (T : Topology) (keeping : Keeping) (function port : Name) (class : Port) (label : Tag) (low high : List Frame) → type_at T port ≡ label_type class.labels → high ≡ low ++ frame_of function class label ∷ [] → map (kept_frame keeping) high ≡ map (kept_frame keeping) low ++ frame_of function class (kept_tag keeping (type_at T port) label) ∷ []
pushed T keeping function port class label low high typed e =
    ap (map (kept_frame keeping)) e
    ∙ map-append (kept_frame keeping) low (frame_of function class label ∷ [])
    ∙ ap (λ t. map (kept_frame keeping) low ++ frame_of function class (kept_tag keeping t label) ∷ []) (sym typed)

Rule-kept : (T : Topology) (r : Request) (keeping : Keeping) → IsSound T → GivesKeepers T r keeping → (h : Hop) (from to : Port) (placed : Placed) (e : Element) → placed.element ≡ e → IsAmong (elements_of T) placed → IsClass T h.from from → IsClass T h.to to → (old new : List Frame)
    → Rule T h from to e old new → Rule T (kept_hop T keeping h) from to e (map (kept_frame keeping) old) (map (kept_frame keeping) new)
Rule-kept T r keeping sound gives h from to placed (element.Link l) is held first_from first_to old new rule =
    let at_link : link_at placed.element ≡ Some l = ap link_at is in
    let ends = link_ends T placed l h.from h.to sound held at_link rule.1 rule.2 in
    let is_held = among_filter_map (λ (x : Placed). link_at x.element) (elements_of T) placed l held at_link in (
      rule.0,
      rule.1,
      rule.2,
      same_kept T keeping h.from h.to h.from_label h.to_label ends.same rule.3,
      carried T r keeping gives l is_held l.labels refl (type_at T h.from) ends.own h.from_label rule.4,
      ap (map (kept_frame keeping)) rule.5,
    )
Rule-kept T r keeping sound gives h from to placed (element.Switching s) is held first_from first_to old new rule =
    let ends = switch_ends T placed s h.from h.to from to sound held (ap switch_at is) first_from first_to rule.1 rule.2 in
    (rule.0, rule.1, rule.2, labels ends rule.3, ap (map (kept_frame keeping)) rule.4) where
      labels : Typed T None h.from h.to → IsTrue s.swapping ⊎ (h.to_label ≡ h.from_label) → IsTrue s.swapping ⊎ (kept_tag keeping (type_at T h.to) h.to_label ≡ kept_tag keeping (type_at T h.from) h.from_label)
      labels ends (inl swaps) = inl swaps
      labels ends (inr same) = inr (same_kept T keeping h.from h.to h.from_label h.to_label ends.same same)
Rule-kept T r keeping sound gives h from to placed (element.Adaptation a) is held first_from first_to old new rule =
    (rule.0, rule.1, rule.2, pushed T keeping a.function h.from from h.from_label old new (type_at_class T h.from from sound first_from) rule.3)
Rule-kept T r keeping sound gives h from to placed (element.Deadaptation a) is held first_from first_to old new rule =
    (rule.0, rule.1, rule.2, pushed T keeping a.function h.to to h.to_label new old (type_at_class T h.to to sound first_to) rule.3)
Rule-kept T r keeping sound gives h from to placed (element.Conversion c) is held first_from first_to old new rule =
    (rule.0, rule.1, rule.2, ap (map (kept_frame keeping)) rule.3)
Rule-kept T r keeping sound gives h from to placed (element.Node n) is held first_from first_to old new rule = absurd rule
Rule-kept T r keeping sound gives h from to placed (element.Port p) is held first_from first_to old new rule = absurd rule

-- the unit's label, as it is kept, is that of the hop
unit_label : (T : Topology) (keeping : Keeping) (port : Name) (class : Port) (name : Name) (label hop_label : Tag) → IsSound T → IsClass T port class → name ≡ class.id → label ≡ hop_label → kept_tag keeping (type_at T name) label ≡ kept_tag keeping (type_at T port) hop_label
unit_label T keeping port class name label hop_label sound first named same =
    let at_name : type_at T name ≡ type_at T port = ap (type_at T) named ∙ type_at_class T class.id class sound (class_of_itself T port class first) ∙ sym (type_at_class T port class sound first) in
    ap (λ t. kept_tag keeping t label) at_name ∙ ap (λ x. kept_tag keeping (type_at T port) x) same

pub Step-kept : (T : Topology) (r : Request) (keeping : Keeping) → IsSound T → GivesKeepers T r keeping → (u : DataUnit) (h : Hop) (v : DataUnit) → Step T u h v → Step T (kept_unit T keeping u) (kept_hop T keeping h) (kept_unit T keeping v)
Step-kept T r keeping sound gives u h v s =
    let held = (among_find (λ (p : Placed). bytes_eq (id_of p.element) h.element) (elements_of T) s.placed s.element).0 in
    record {
      placed = s.placed;
      from = s.from;
      to = s.to;
      element = s.element;
      domain = s.domain;
      leaves = record { is_class = s.leaves.is_class; is_open = (place_stays T r keeping sound gives h.from h.from_label s.from s.leaves).is_open };
      enters = record { is_class = s.enters.is_class; is_open = (place_stays T r keeping sound gives h.to h.to_label s.to s.enters).is_open };
      before = record { same_class = s.before.same_class; same_label = unit_label T keeping h.from s.from u.class u.label h.from_label sound s.leaves.is_class s.before.same_class s.before.same_label };
      after = record { same_class = s.after.same_class; same_label = unit_label T keeping h.to s.to v.class v.label h.to_label sound s.enters.is_class s.after.same_class s.after.same_label };
      rule = Rule-kept T r keeping sound gives h s.from s.to s.placed s.placed.element refl held s.leaves.is_class s.enters.is_class u.stack v.stack s.rule;
    }

pub Run-kept : (T : Topology) (r : Request) (keeping : Keeping) → IsSound T → GivesKeepers T r keeping → (u : DataUnit) (hops : List Hop) (v : DataUnit) → Run T u hops v → Run T (kept_unit T keeping u) (kept_hops T keeping hops) (kept_unit T keeping v)
Run-kept T r keeping sound gives u [] v run = ap (kept_unit T keeping) run
Run-kept T r keeping sound gives u (h ∷ hops) v run =
    (kept_unit T keeping run.0, Step-kept T r keeping sound gives u h run.0 run.1, Run-kept T r keeping sound gives run.0 hops v run.2)

-- the hops are over kept labels
hop_over_kept : (T : Topology) (r : Request) (keeping : Keeping) → IsSound T → GivesKeepers T r keeping → (u : DataUnit) (h : Hop) (v : DataUnit) → Step T u h v → IsOverKept T r (kept_hop T keeping h)
hop_over_kept T r keeping sound gives u h v s = record {
  from = λ class first.
      let P : Port → Type 0 = λ c. HasKept T r c (kept_tag keeping (type_at T h.from) h.from_label) in
      subst P (First-unique (λ q. Linked T h.from q.id) (ports T) s.from class s.leaves.is_class first) (place_stays T r keeping sound gives h.from h.from_label s.from s.leaves).has_kept;
  to = λ class first.
      let P : Port → Type 0 = λ c. HasKept T r c (kept_tag keeping (type_at T h.to) h.to_label) in
      subst P (First-unique (λ q. Linked T h.to q.id) (ports T) s.to class s.enters.is_class first) (place_stays T r keeping sound gives h.to h.to_label s.to s.enters).has_kept;
}

pub run_over_kept : (T : Topology) (r : Request) (keeping : Keeping) → IsSound T → GivesKeepers T r keeping → (u : DataUnit) (hops : List Hop) (v : DataUnit) → Run T u hops v → AreOverKept T r (kept_hops T keeping hops)
run_over_kept T r keeping sound gives u [] v run = tt
run_over_kept T r keeping sound gives u (h ∷ hops) v run =
    (hop_over_kept T r keeping sound gives u h run.0 run.1, run_over_kept T r keeping sound gives run.0 hops v run.2)

-- the weight stays
same_cost : (T : Topology) (keeping : Keeping) (hops : List Hop) → sum_by (cost_of T) (kept_hops T keeping hops) ≡ sum_by (cost_of T) hops
same_cost T keeping [] = refl
same_cost T keeping (h ∷ hops) =
    sum_by-cons (cost_of T) (kept_hop T keeping h) (kept_hops T keeping hops) ∙ ap (λ n. cost_of T h + n) (same_cost T keeping hops) ∙ sym (sum_by-cons (cost_of T) h hops)

pub same_weight : (T : Topology) (keeping : Keeping) (hops : List Hop) → weight_of T (kept_hops T keeping hops) ≡ weight_of T hops
same_weight T keeping hops =
    let F : ℕ → ℕ → FullWeight = λ c n. record { cost = c; hops = n } in
    ap (λ c. F c (length (kept_hops T keeping hops))) (same_cost T keeping hops) ∙ ap (λ n. F (sum_by (cost_of T) hops) n) (length-map hops (kept_hop T keeping))

-- Alike labels are so both ways, and a kept label is its own keeper.
alike_back : (T : Topology) (r : Request) (t : Name) (m n : ℕ) → AreAlike T r t m n → AreAlike T r t n m
alike_back T r t m n a = record {
  classes = λ class typed. let x = a.classes class typed in (x.1, x.0);
  links = λ link typed. let x = a.links link typed in (x.1, x.0);
  stated = λ label stated. let x = a.stated label stated in (x.1, x.0);
}

pub kept_stays : (T : Topology) (r : Request) (keeping : Keeping) → GivesKeepers T r keeping → (t : Name) (label : ℕ) → IsKept T r t label → keeping t label ≡ label
kept_stays T r keeping gives t label kept =
    let keeper = gives t label kept.meets in
    let low : keeping t label ≤ label = keeper.kept.least label keeper.alike in
    let high : label ≤ keeping t label = kept.least (keeping t label) (alike_back T r t (keeping t label) label keeper.alike) in
    omega arith

pub stated_stays : (T : Topology) (r : Request) (keeping : Keeping) → GivesKeepers T r keeping → (t : Name) (label : ℕ) → IsInSomeSet T t label → IsStated T r t label → keeping t label ≡ label
stated_stays T r keeping gives t label meets stated = ((gives t label meets).alike.stated label stated).1 refl

-- An allowed place stays allowed.
still_wished : (T : Topology) (r : Request) (keeping : Keeping) → GivesKeepers T r keeping → (port : Name) (wish : Wish) (class : Port) (t : Option Name) → label_type class.labels ≡ t → (label : Tag) → IsPlace T port label class
    → ((labeltype : Name) (n : ℕ) → StatesAt T port wish labeltype n → IsStated T r labeltype n) → IsWished wish label → IsWished wish (kept_tag keeping t label)
still_wished T r keeping gives port Any class t e label place stated w = tt
still_wished T r keeping gives port (Value n) class None e label place stated w = w
still_wished T r keeping gives port (Value n) class (Some t) e None place stated w = cc
still_wished T r keeping gives port (Value n) class (Some t) e (Some label) place stated w =
    let same : label ≡ n = cc in
    let typed : IsClassOfType T t class = record { first = class_of_itself T port class place.is_class; typed = e } in
    let Q : ℕ → Type 0 = λ x. StatesAt T port (Value n) t x in
    let says : IsStated T r t label = stated t label (subst Q (sym same) (refl, (class, place.is_class, e))) in
    ap Some (stated_stays T r keeping gives t label (inl (class, typed, place.is_open)) says ∙ same)

allowed_stays : (T : Topology) (r : Request) (keeping : Keeping) → IsSound T → GivesKeepers T r keeping → (port : Name) (wish : Wish) (class : Port) (label : Tag)
    → ((labeltype : Name) (n : ℕ) → StatesAt T port wish labeltype n → IsStated T r labeltype n) → IsAllowed T port wish class label → IsAllowed T port wish class (kept_tag keeping (type_at T class.id) label)
allowed_stays T r keeping sound gives port wish class label stated allowed =
    let first = allowed.place.is_class in
    let at_class = type_at_class T class.id class sound (class_of_itself T port class first) in
    let P : Option Name → Type 0 = λ t. IsAllowed T port wish class (kept_tag keeping t label) in
    subst P (sym at_class) (record {
      place = record { is_class = first; is_open = (stays T r keeping gives port class first (label_type class.labels) refl label allowed.place.is_open).is_open };
      wished = still_wished T r keeping gives port wish class (label_type class.labels) refl label allowed.place stated allowed.wished;
    })

-- its label is kept
allowed_has_kept : (T : Topology) (r : Request) (keeping : Keeping) → IsSound T → GivesKeepers T r keeping → (port : Name) (wish : Wish) (class : Port) (label : Tag) → IsAllowed T port wish class label → HasKept T r class (kept_tag keeping (type_at T class.id) label)
allowed_has_kept T r keeping sound gives port wish class label allowed =
    let first = allowed.place.is_class in
    let P : Option Name → Type 0 = λ t. HasKept T r class (kept_tag keeping t label) in
    subst P (sym (type_at_class T class.id class sound (class_of_itself T port class first))) (stays T r keeping gives port class first (label_type class.labels) refl label allowed.place.is_open).has_kept

pub walk_kept : (T : Topology) (r : Request) (keeping : Keeping) → IsSound T → GivesKeepers T r keeping → (hops : List Hop) → Walk T r hops → IsWalkOverKept T r (kept_hops T keeping hops)
walk_kept T r keeping sound gives hops (ends, run) = record {
  ends = record {
    from = ends.from;
    from_label = kept_tag keeping (type_at T ends.from.id) ends.from_label;
    to = ends.to;
    to_label = kept_tag keeping (type_at T ends.to.id) ends.to_label;
    from_allowed = allowed_stays T r keeping sound gives r.from r.from_wish ends.from ends.from_label (λ t n s. inl s) ends.from_allowed;
    to_allowed = allowed_stays T r keeping sound gives r.to r.to_wish ends.to ends.to_label (λ t n s. inr s) ends.to_allowed;
  };
  joins = Run-kept T r keeping sound gives (unit_at ends.from ends.from_label []) hops (unit_at ends.to ends.to_label []) run;
  from_kept = allowed_has_kept T r keeping sound gives r.from r.from_wish ends.from ends.from_label ends.from_allowed;
  to_kept = allowed_has_kept T r keeping sound gives r.to r.to_wish ends.to ends.to_label ends.to_allowed;
  kept = run_over_kept T r keeping sound gives (unit_at ends.from ends.from_label []) hops (unit_at ends.to ends.to_label []) run;
}
