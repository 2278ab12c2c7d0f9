-- What is a walk by where its hops end.
use Rattle.std.proofs.Common.{◌≡◌, ◌↔◌, ℕ, List, [], ◌∷◌, length, Bool, true, false, not, Some, refl, sym, ◌∙◌, ap, subst}
use Rattle.std.specs.Prelude.{slice_get, option_map}
use Rattle.std.specs.Str.{bytes_eq}
use Rattle.std.proofs.lemmas.Bool.{both_ways, not-false}
use Rattle.std.proofs.lemmas.List.{nil_from_length}
use Rattle.std.proofs.lemmas.Slice.Eq.{bytes_eq-Decides}
use Rattle.ml_base.specs.declared.numbers.Wish.{Wish}
use Rattle.ml_base.specs.declared.numbers.Wish.TheVariants.{Any, Value}
use Rattle.nml_elements.specs.declared.elements.Labels.{Labels}
use Rattle.circuit_spec.specs.declared.hops.Frame.{Frame}
use Rattle.circuit_spec.specs.declared.hops.Hop.{Hop}
use Rattle.circuit_spec.specs.declared.hops.Request.{Request}
use Rattle.circuit_spec.specs.declared.hops.Unit.{Unit as DataUnit}
use Rattle.circuit_spec.specs.Faults.{IsHere, IsKnown, IsKnownEnd}
use Rattle.circuit_spec.specs.Network.{Name, Tag, Topology, Port, IsClass, IsOpen, ports}
use Rattle.circuit_spec.specs.Segments.{unit_in}
use Rattle.circuit_spec.specs.Steps.{IsWished, Run, Walk, unit_at}
use Rattle.circuit_spec.proofs.ClassLemmas.{class_of_itself, one_class, same_class}
use Rattle.nml_inventory.specs.Relations.{AreClassLabels}
use Rattle.packet_replay.specs.Carried.{admits}
use Rattle.packet_replay.proofs.Opened.{opened}
use Rattle.answer_spec.specs.declared.answer.Answer.{Answer}
use Rattle.answer_spec.specs.Certificate.{first_place}
use Rattle.answer_spec.proofs.Carried.{arrived, ends_allowed}
use Rattle.verdict.proofs.Stuck.{one_run}
use Rattle.hop_check.specs.Arriving.{EndsWell, IsSomewhere, ServesBoth}
use Rattle.hop_check.specs.Carrying.{Leads}
use Rattle.hop_check.specs.Deciding.{IsClassNo}
use Rattle.hop_check.proofs.Named.{class_named}

-- ---- no hops

-- what serves both ends, by which of them are stated
pub any_serves : (T : Topology) (class : Port) (labels : Labels) (r : Bool) → AreClassLabels T class labels → (r ≡ true) ↔ ((label : Tag) × (admits labels label ≡ true)) → (r ≡ true) ↔ ServesBoth T class Any Any
any_serves T class labels r are some = (
  λ t. let l = some.0 t in record { label = l.0; is_open = (opened T class labels l.0 are).0 l.1; from_wished = tt; to_wished = tt },
  λ s. some.1 (s.label, (opened T class labels s.label are).1 s.is_open),
)

pub stated_serves : (T : Topology) (class : Port) (m n : ℕ) (r : Bool) → IsHere T class (Value m) → (r ≡ true) ↔ (m ≡ n) → (r ≡ true) ↔ ServesBoth T class (Value m) (Value n)
stated_serves T class m n r here same = (
  λ t. record { label = Some m; is_open = here; from_wished = refl; to_wished = ap Some (same.0 t) },
  λ s. same.1 (let e : Some m ≡ Some n = sym s.from_wished ∙ s.to_wished in cc),
)

pub from_serves : (T : Topology) (class : Port) (m : ℕ) → IsHere T class (Value m) → ServesBoth T class (Value m) Any
from_serves T class m here = record { label = Some m; is_open = here; from_wished = refl; to_wished = tt }

pub to_serves : (T : Topology) (class : Port) (n : ℕ) → IsHere T class (Value n) → ServesBoth T class Any (Value n)
to_serves T class n here = record { label = Some n; is_open = here; from_wished = tt; to_wished = refl }

here_at : (T : Topology) (id : Name) (wish : Wish) (class : Port) → IsKnownEnd T id wish → IsClass T id class → IsHere T class wish
here_at T id wish class known first = subst (λ (c : Port). IsHere T c wish) (one_class T id known.0 class known.1 first) known.2

-- a request whose ends have different classes is not served by no hops
pub apart_no_walk : (T : Topology) (r : Request) (m n : ℕ) (from to : Name) → IsClassNo T r.from m → IsClassNo T r.to n
    → option_map (λ (p : Port). p.id) (slice_get (ports T) m) ≡ Some from → option_map (λ (p : Port). p.id) (slice_get (ports T) n) ≡ Some to
    → (from ≡ to → ⊥) → Walk T r [] → ⊥
apart_no_walk T r m n from to f g named named' apart (ends, there) =
    let first = class_named T r.from m from f named ends.from ends.from_allowed.place.is_class in
    let last = class_named T r.to n to g named' ends.to ends.to_allowed.place.is_class in
    apart (first ∙ sym (ap (λ (u : DataUnit). u.class) there) ∙ sym last)

-- and one whose ends have the same class is where a place serves both
pub same_walk : (T : Topology) (r : Request) (m n : ℕ) (from to : Name) (b : Bool) → IsKnown T r → (f : IsClassNo T r.from m) → IsClassNo T r.to n
    → option_map (λ (p : Port). p.id) (slice_get (ports T) m) ≡ Some from → option_map (λ (p : Port). p.id) (slice_get (ports T) n) ≡ Some to
    → from ≡ to
    → ((port : Port) → slice_get (ports T) m ≡ Some port → IsClass T port.id port → IsHere T port r.from_wish → IsHere T port r.to_wish → (b ≡ true) ↔ ServesBoth T port r.from_wish r.to_wish)
    → (b ≡ true) ↔ Walk T r []
same_walk T r m n from to b known f g named named' same serves =
    let first = class_named T r.from m from f named f.class f.is_class in
    let last = class_named T r.to n to g named' g.class g.is_class in
    let one : f.class ≡ g.class = same_class T r.from r.to f.class g.class f.is_class g.is_class (sym first ∙ same ∙ last) in
    let there : IsClass T r.to f.class = subst (IsClass T r.to) (sym one) g.is_class in
    let tells = serves f.class f.at (class_of_itself T r.from f.class f.is_class) (here_at T r.from r.from_wish f.class known.0 f.is_class) (here_at T r.to r.to_wish f.class known.1 there) in (
      λ t.
          let s = tells.0 t in (
            record {
              from = f.class;
              from_label = s.label;
              to = f.class;
              to_label = s.label;
              from_allowed = record { place = record { is_class = f.is_class; is_open = s.is_open }; wished = s.from_wished };
              to_allowed = record { place = record { is_class = there; is_open = s.is_open }; wished = s.to_wished };
            },
            refl,
          ),
      λ (ends, at).
          let is : ends.from ≡ f.class = one_class T r.from ends.from f.class ends.from_allowed.place.is_class f.is_class in
          let label : ends.to_label ≡ ends.from_label = ap (λ (u : DataUnit). u.label) at in
          tells.1 record {
            label = ends.from_label;
            is_open = subst (λ (c : Port). IsOpen T c ends.from_label) is ends.from_allowed.place.is_open;
            from_wished = ends.from_allowed.wished;
            to_wished = subst (IsWished r.to_wish) label ends.to_allowed.wished;
          },
    )

-- ---- hops

unit_with : Name → Tag → List Frame → DataUnit
unit_with class label stack = record { class = class; label = label; stack = stack }

unit_is : (u : DataUnit) (class : Name) (stack : List Frame) → u.class ≡ class → u.stack ≡ stack → u ≡ record { class = class; label = u.label; stack = stack }
unfolding unit_with
unit_is u class stack e f = ap (λ (c : Name). unit_with c u.label u.stack) e ∙ ap (unit_with class u.label) f

-- a unit at an open place of another class does not end well
pub elsewhere : (T : Topology) (r : Request) (u : DataUnit) (n : ℕ) (name : Name) → IsClassNo T r.to n → option_map (λ (p : Port). p.id) (slice_get (ports T) n) ≡ Some name → (u.class ≡ name → ⊥) → EndsWell T r u → ⊥
elsewhere T r u n name held named apart e =
    apart (ap (λ (x : DataUnit). x.class) e.there ∙ sym (class_named T r.to n name held named e.to e.allowed.place.is_class))

-- one at an open place of the class of TO does where its label is as wished and its stack is empty
pub ends_there : (T : Topology) (r : Request) (u : DataUnit) (n : ℕ) (name : Name) → IsSomewhere T u → IsClassNo T r.to n → option_map (λ (p : Port). p.id) (slice_get (ports T) n) ≡ Some name → u.class ≡ name → IsWished r.to_wish u.label → length u.stack ≡ 0 → EndsWell T r u
ends_there T r u n name at held named same wished empty =
    let is : u.class ≡ held.class.id = same ∙ class_named T r.to n name held named held.class held.is_class in
    let one : at.class ≡ held.class = same_class T at.port r.to at.class held.class at.place.is_class held.is_class (sym at.named ∙ is) in
    record {
      to = held.class;
      label = u.label;
      allowed = record { place = record { is_class = held.is_class; is_open = subst (λ (c : Port). IsOpen T c u.label) one at.place.is_open }; wished = wished };
      there = unit_is u held.class.id [] is (nil_from_length u.stack empty);
    }

pub wished_there : (T : Topology) (r : Request) (u : DataUnit) → EndsWell T r u → IsWished r.to_wish u.label × (length u.stack ≡ 0)
wished_there T r u e = (
  subst (IsWished r.to_wish) (sym (ap (λ (x : DataUnit). x.label) e.there)) e.allowed.wished,
  ap (λ (x : DataUnit). length x.stack) e.there,
)

-- hops that lead to a unit are a walk exactly where the unit ends well
pub hops_walk : (T : Topology) (a : Answer) (u : DataUnit) (h : Hop) (hops : List Hop) → IsKnown T a.request → Leads T a a.hops u → a.hops ≡ h ∷ hops → EndsWell T a.request u ↔ Walk T a.request a.hops
hops_walk T a u h hops known led are =
    let class : Port = known.0.0 in
    let first : IsClass T a.request.from class = known.0.1 in
    let start : DataUnit = unit_in (first_place class a.request (h ∷ hops)) [] in
    let run : Run T start (h ∷ hops) u = subst (λ (hs : List Hop). Run T (unit_in (first_place class a.request hs) []) hs u) are (led class first) in (
      λ e. subst (Walk T a.request) (sym are) (arrived T a.request class h hops known first (e.to, e.label, e.allowed, subst (Run T start (h ∷ hops)) e.there run)),
      λ walk.
          let end = ends_allowed T a.request class h hops first (subst (Walk T a.request) are walk) in
          record { to = end.0; label = end.1; allowed = end.2; there = one_run T start (h ∷ hops) u (unit_at end.0 end.1 []) run end.3 },
    )

-- ---- tests

pub not_true : false ≡ true → ⊥
not_true e = absurd cc

turned : (t : Bool) → not t ≡ true → t ≡ false
turned true e = cc
turned false e = refl

pub name_apart : (a b : Name) (r : Bool) → r ≡ not (bytes_eq a b) → r ≡ true → a ≡ b → ⊥
name_apart a b r is told same = both_ways (bytes_eq a b) (turned (bytes_eq a b) (sym is ∙ told)) ((bytes_eq-Decides a b).1 same)

pub name_same : (a b : Name) (r : Bool) → r ≡ not (bytes_eq a b) → r ≡ false → a ≡ b
name_same a b r is none = (bytes_eq-Decides a b).0 (not-false (bytes_eq a b) (sym is ∙ none))

-- a list that is not empty has a first item
pub some_first : {A : Type 0} (xs : List A) (n : ℕ) → n ≡ length xs → (n ≡ 0 → ⊥) → (x : A) × (rest : List A) × (xs ≡ x ∷ rest)
some_first [] n e none = absurd (none e)
some_first (x ∷ xs) n e none = (x, xs, refl)
