-- What is gathered grows by the sets of classes and of links and by stated labels.
use Rattle.std.proofs.Common.{◌≡◌, ◌<◌, ◌+◌, ◌⊎◌, ◌↔◌, ℕ, inl, inr, List, [], ◌∷◌, ◌++◌, Bool, true, false, ◌||◌, cond, Option, None, Some, refl, sym, ◌∙◌, ap, subst, arith}
use Rattle.std.specs.Prelude.{slice_get}
use Rattle.std.specs.Option.{MatchOption, option_and_then}
use Rattle.std.specs.Str.{bytes_eq}
use Rattle.std.proofs.lemmas.Bool.{cases_lt, or_cases}
use Rattle.label_sets.specs.Ranges.{has}
use Rattle.label_atoms.specs.Pieces.{IsAmong}
use Rattle.ml_base.specs.declared.numbers.Wish.{Wish}
use Rattle.ml_base.proofs.Lists.{among_filter_map, contains_among, one_of_some, among_left, among_right, among_place}
use Rattle.ml_base.proofs.Comparisons.{bytes_itself, same_bytes}
use Rattle.nml_elements.specs.declared.elements.Labels.{Labels}
use Rattle.nml_elements.specs.declared.elements.Labels.TheVariants.{Unlabelled, Of}
use Rattle.nml_elements.specs.declared.elements.LinkE.{LinkE}
use Rattle.nml_elements.specs.Labels.{is_among}
use Rattle.circuit_spec.specs.declared.hops.Request.{Request}
use Rattle.circuit_spec.specs.Network.{Name, Topology, Placed, Port, IsClass, IsInClassSet, elements_of, label_type, names, ports}
use Rattle.circuit_spec.specs.Kept.{IsStated, StatesAt, link_at, links}
use Rattle.circuit_spec.proofs.Among.{IsAmong as IsItem}
use Rattle.circuit_spec.proofs.ClassLemmas.{class_of_itself}
use Rattle.nml_inventory.specs.Relations.{AreClassLabels}
use Rattle.kept_table.specs.declared.gathered.TypeTests.{TypeTests}
use Rattle.kept_table.specs.Table.{IsTypeOfSome}
use Rattle.kept_table.specs.Gathering.{AddsClassAt, AddsLabels, AddsLinkAt, AddsSet, AddsSingle, AddsStated, HasSet, IsGathered, IsSetOfType, link_numbered, sets_of, singles_of, types_of}

-- nothing is gathered at first
pub gathered_none : (T : Topology) (r : Request) → IsGathered T r 0 0 0 []
gathered_none T r = record {
  only_sets = λ u set among. absurd among;
  only_singles = λ u n among. absurd among;
  only_types = λ u h. cc;
  class_sets = λ n p u less. absurd (omega arith);
  link_sets = λ n link u less. absurd (omega arith);
  from_single = λ u n less. absurd (omega arith);
  to_single = λ u n less. absurd (omega arith);
}

-- what is in a list that one item was put behind, where the label type is that of the item
split_more : {A : Type 0} (xs : List A) (y x : A) (t u : Name) (b : Bool) → bytes_eq t u ≡ b → IsAmong (xs ++ cond b (y ∷ []) []) x → IsAmong xs x ⊎ ((x ≡ y) × (t ≡ u))
split_more [] y x t u true e (inl same) = inr (same, same_bytes t u e)
split_more [] y x t u true e (inr none) = absurd none
split_more [] y x t u false e none = absurd none
split_more (z ∷ zs) y x t u b e (inl same) = inl (inl same)
split_more (z ∷ zs) y x t u b e (inr later) = elim (split_more zs y x t u b e later) [ inl a ↦ inl (inr a) | inr s ↦ inr s ]

behind : {A : Type 0} (xs : List A) (y : A) (t : Name) → IsAmong (xs ++ cond (bytes_eq t t) (y ∷ []) []) y
behind {A} xs y t = subst (λ b. IsAmong (xs ++ cond b (y ∷ []) []) y) (sym (bytes_itself t)) (among_right xs (y ∷ []) y (inl refl))

-- a set of its label type has been put in
pub set_there : (old new : List TypeTests) (t : Name) (set : List (ℕ × ℕ)) → AddsSet old t set new → IsAmong (sets_of new t) set
set_there old new t set a = subst (λ (xs : List (List (ℕ × ℕ))). IsAmong xs set) (sym (a.sets t)) (behind (sets_of old t) set t)

has_kept : (old new : List TypeTests) (u : Name) (P : ℕ → Type 0) → ((set : List (ℕ × ℕ)) → IsAmong (sets_of old u) set → IsAmong (sets_of new u) set) → HasSet old u P → HasSet new u P
has_kept old new u P more h = (h.0, more h.0 h.1, h.2)

type_of_set : (T : Topology) (t : Name) (set : List (ℕ × ℕ)) → IsSetOfType T t set → IsTypeOfSome T t
type_of_set T t set (inl c) = inl (c.0, c.1)
type_of_set T t set (inr l) = inr (l.0, l.1)

types_grown : (T : Topology) (t u : Name) (b : Bool) → bytes_eq t u ≡ b → IsTypeOfSome T t → (before : Bool) → (before ≡ true → IsTypeOfSome T u) → (before || b) ≡ true → IsTypeOfSome T u
types_grown T t u b e added before was h =
    elim (or_cases before b h) [
      | inl there ↦ was there
      | inr here ↦ subst (IsTypeOfSome T) (same_bytes t u (e ∙ here)) added
    ]

pub gathered_set : (T : Topology) (r : Request) (c k e : ℕ) (old new : List TypeTests) (t : Name) (set : List (ℕ × ℕ)) → IsGathered T r c k e old → AddsSet old t set new → IsSetOfType T t set → IsGathered T r c k e new
gathered_set T r c k e old new t set g a is = record {
  only_sets = λ u s among.
      elim (split_more (sets_of old u) set s t u (bytes_eq t u) refl (subst (λ (xs : List (List (ℕ × ℕ))). IsAmong xs s) (a.sets u) among)) [
        | inl before ↦ g.only_sets u s before
        | inr same ↦ subst (λ (w : Name). IsSetOfType T w s) same.1 (subst (IsSetOfType T t) (sym same.0) is)
      ];
  only_singles = λ u n among. g.only_singles u n (subst (λ (xs : List ℕ). IsAmong xs n) (a.singles u) among);
  only_types = λ u h. types_grown T t u (bytes_eq t u) refl (type_of_set T t set is) (names (types_of old) u) (g.only_types u) (sym (a.types_more u) ∙ h);
  class_sets = λ n p u less at is_class typed. has_kept old new u (IsInClassSet T p) (more u) (g.class_sets n p u less at is_class typed);
  link_sets = λ n link u less at typed. has_kept old new u (λ m. is_among link.labels m ≡ true) (more u) (g.link_sets n link u less at typed);
  from_single = λ u n less states. subst (λ (xs : List ℕ). IsAmong xs n) (sym (a.singles u)) (g.from_single u n less states);
  to_single = λ u n less states. subst (λ (xs : List ℕ). IsAmong xs n) (sym (a.singles u)) (g.to_single u n less states);
} where
  more : (u : Name) (s : List (ℕ × ℕ)) → IsAmong (sets_of old u) s → IsAmong (sets_of new u) s
  more u s among = subst (λ (xs : List (List (ℕ × ℕ))). IsAmong xs s) (sym (a.sets u)) (among_left (sets_of old u) (cond (bytes_eq t u) (set ∷ []) []) s among)

-- the labels are those of a class or a link: whatever set has just their labels is one of their label type
abbrev pub AreOfType : Topology → Labels → Type 0
AreOfType T labels = (t : Name) (set : List (ℕ × ℕ)) → label_type labels ≡ Some t → ((n : ℕ) → has set n ≡ is_among labels n) → IsSetOfType T t set

-- gathered with the set of some labels
pub record IsWith (T : Topology) (r : Request) (c k e : ℕ) (labels : Labels) (new : List TypeTests) : Type 0 where
  pub gathered : IsGathered T r c k e new
  pub there : (u : Name) → label_type labels ≡ Some u → HasSet new u (λ m. is_among labels m ≡ true)

same_labels : (a b : Bool) → a ≡ b → (a ≡ true) ↔ (b ≡ true)
same_labels a b e = ((λ h. sym e ∙ h), (λ h. e ∙ h))

pub gathered_labels : (T : Topology) (r : Request) (c k e : ℕ) (old new : List TypeTests) (labels : Labels) → IsGathered T r c k e old → AreOfType T labels → AddsLabels labels old new → IsWith T r c k e labels new
gathered_labels T r c k e old new Unlabelled g of a = record { gathered = subst (IsGathered T r c k e) (sym a) g; there = λ u typed. cc }
gathered_labels T r c k e old new (Of t set) g of a = record {
  gathered = gathered_set T r c k e old new t a.0 g a.2 (of t a.0 refl a.1);
  there = λ u typed.
      subst (λ (w : Name). HasSet new w (λ m. has set m ≡ true)) (one_of_some typed)
      (a.0, set_there old new t a.0 a.2, (λ n. same_labels (has a.0 n) (has set n) (a.1 n)));
}

-- Classes

class_of_type : (T : Topology) (p : Port) (labels : Labels) → IsClass T p.id p → AreClassLabels T p labels → AreOfType T labels
class_of_type T p labels own are t set typed same =
    inl (p, record { first = own; typed = sym are.typed ∙ typed }, (λ n. ((λ h. (are.each n).0 (sym (same n) ∙ h)), (λ h. same n ∙ (are.each n).1 h))))

upto_more : (n m : ℕ) → m < n + 1 → (m < n) ⊎ (m ≡ n)
upto_more n m less = elim (cases_lt m n) [ inl below ↦ inl below | inr above ↦ inr (omega arith) ]

one_port_more : (T : Topology) (r : Request) (n : ℕ) (p : Port) (new : List TypeTests) → slice_get (ports T) n ≡ Some p → ((u : Name) → IsClass T p.id p → label_type p.labels ≡ Some u → HasSet new u (IsInClassSet T p)) → IsGathered T r n 0 0 new → IsGathered T r (n + 1) 0 0 new
one_port_more T r n p new at here g = record {
  only_sets = g.only_sets;
  only_singles = g.only_singles;
  only_types = g.only_types;
  link_sets = g.link_sets;
  from_single = g.from_single;
  to_single = g.to_single;
  class_sets = λ m q u less there own typed.
      elim (upto_more n m less) [
        | inl below ↦ g.class_sets m q u below there own typed
        | inr same ↦
            let one : p ≡ q = one_of_some (sym at ∙ ap (slice_get (ports T)) (sym same) ∙ there) in
            subst (λ (x : Port). IsClass T x.id x → label_type x.labels ≡ Some u → HasSet new u (IsInClassSet T x)) one (here u) own typed
      ];
}

pub class_step : (T : Topology) (r : Request) (n : ℕ) (old new : List TypeTests) → IsGathered T r n 0 0 old → AddsClassAt T n old new → IsGathered T r (n + 1) 0 0 new
class_step T r n old new g (p, at, inl first) =
    let w = gathered_labels T r n 0 0 old new first.1.0 g (class_of_type T p first.1.0 first.0 first.1.1) first.1.2 in
    one_port_more T r n p new at
    (λ u own typed.
    let h = w.there u (first.1.1.typed ∙ typed) in
    (h.0, h.1, (λ m. ((λ x. (first.1.1.each m).0 ((h.2 m).0 x)), (λ x. (h.2 m).1 ((first.1.1.each m).1 x))))))
    w.gathered
class_step T r n old new g (p, at, inr other) =
    one_port_more T r n p new at (λ u own typed. absurd (other.0 own)) (subst (IsGathered T r n 0 0) (sym other.1) g)

-- Links

link_of_type : (T : Topology) (link : LinkE) → IsItem (links T) link → AreOfType T link.labels
link_of_type T link among t set typed same = inr (link, record { held = contains_among (links T) link among; typed = typed }, (λ n. same_labels (has set n) (is_among link.labels n) (same n)))

-- the link of a number is one of all
numbered_among : (T : Topology) (n : ℕ) (link : LinkE) (o : Option Placed) → slice_get (elements_of T) n ≡ o → option_and_then (λ (p : Placed). link_at p.element) o ≡ Some link → IsItem (links T) link
numbered_among T n link None at is = cc
numbered_among T n link (Some p) at is = among_filter_map (λ (x : Placed). link_at x.element) (elements_of T) p link (among_place (elements_of T) n p at) is

one_element_more : (T : Topology) (r : Request) (c n : ℕ) (new : List TypeTests) → ((link : LinkE) (u : Name) → link_numbered T n ≡ Some link → label_type link.labels ≡ Some u → HasSet new u (λ m. is_among link.labels m ≡ true)) → IsGathered T r c n 0 new → IsGathered T r c (n + 1) 0 new
one_element_more T r c n new here g = record {
  only_sets = g.only_sets;
  only_singles = g.only_singles;
  only_types = g.only_types;
  class_sets = g.class_sets;
  from_single = g.from_single;
  to_single = g.to_single;
  link_sets = λ m link u less there typed.
      elim (upto_more n m less) [
        | inl below ↦ g.link_sets m link u below there typed
        | inr same ↦ here link u (ap (link_numbered T) (sym same) ∙ there) typed
      ];
}

link_by : (T : Topology) (r : Request) (c n : ℕ) (old new : List TypeTests) (o : Option LinkE) → link_numbered T n ≡ o → IsGathered T r c n 0 old → MatchOption o (new ≡ old) (λ link. AddsLabels link.labels old new) → IsGathered T r c (n + 1) 0 new
link_by T r c n old new None is g a = one_element_more T r c n new (λ link u there typed. cc) (subst (IsGathered T r c n 0) (sym a) g)
link_by T r c n old new (Some link) is g a =
    let w = gathered_labels T r c n 0 old new link.labels g (link_of_type T link (numbered_among T n link (slice_get (elements_of T) n) refl is)) a in
    one_element_more T r c n new
    (λ other u there typed.
    subst (λ (x : LinkE). label_type x.labels ≡ Some u → HasSet new u (λ m. is_among x.labels m ≡ true)) (one_of_some (sym is ∙ there)) (w.there u) typed)
    w.gathered

pub link_step : (T : Topology) (r : Request) (c n : ℕ) (old new : List TypeTests) → IsGathered T r c n 0 old → AddsLinkAt T n old new → IsGathered T r c (n + 1) 0 new
link_step T r c n old new g a = link_by T r c n old new (link_numbered T n) refl g a

-- Stated labels

type_stated : (T : Topology) (port : Name) (wish : Wish) (u : Name) (n : ℕ) → StatesAt T port wish u n → IsTypeOfSome T u
type_stated T port wish u n s = inl (s.1.0, record { first = class_of_itself T port s.1.0 s.1.1; typed = s.1.2 })

-- all that is gathered but what the ends need
pub record IsGrown (T : Topology) (r : Request) (c k : ℕ) (old new : List TypeTests) : Type 0 where
  pub gathered : IsGathered T r c k 0 new
  pub kept : (u : Name) (n : ℕ) → IsAmong (singles_of old u) n → IsAmong (singles_of new u) n

no_ends : (T : Topology) (r : Request) (c k e : ℕ) (all : List TypeTests) → IsGathered T r c k e all → IsGathered T r c k 0 all
no_ends T r c k e all g = record {
  only_sets = g.only_sets;
  only_singles = g.only_singles;
  only_types = g.only_types;
  class_sets = g.class_sets;
  link_sets = g.link_sets;
  from_single = λ u n less. absurd (omega arith);
  to_single = λ u n less. absurd (omega arith);
}

gathered_single : (T : Topology) (r : Request) (c k e : ℕ) (old new : List TypeTests) (t : Name) (label : ℕ) → IsGathered T r c k e old → AddsSingle old t label new → IsStated T r t label → IsTypeOfSome T t → IsGrown T r c k old new
gathered_single T r c k e old new t label g a stated typed_by = record {
  kept = λ u n among. subst (λ (xs : List ℕ). IsAmong xs n) (sym (a.singles u)) (among_left (singles_of old u) (cond (bytes_eq t u) (label ∷ []) []) n among);
  gathered = record {
    only_sets = λ u s among. g.only_sets u s (subst (λ (xs : List (List (ℕ × ℕ))). IsAmong xs s) (a.sets u) among);
    only_singles = λ u n among.
        elim (split_more (singles_of old u) label n t u (bytes_eq t u) refl (subst (λ (xs : List ℕ). IsAmong xs n) (a.singles u) among)) [
          | inl before ↦ g.only_singles u n before
          | inr same ↦ subst (λ (w : Name). IsStated T r w n) same.1 (subst (IsStated T r t) (sym same.0) stated)
        ];
    only_types = λ u h. types_grown T t u (bytes_eq t u) refl typed_by (names (types_of old) u) (g.only_types u) (sym (a.types_more u) ∙ h);
    class_sets = λ n p u less at is_class typed. has_kept old new u (IsInClassSet T p) (more u) (g.class_sets n p u less at is_class typed);
    link_sets = λ n link u less at typed. has_kept old new u (λ m. is_among link.labels m ≡ true) (more u) (g.link_sets n link u less at typed);
    from_single = λ u n less. absurd (omega arith);
    to_single = λ u n less. absurd (omega arith);
  };
} where
  more : (u : Name) (s : List (ℕ × ℕ)) → IsAmong (sets_of old u) s → IsAmong (sets_of new u) s
  more u s among = subst (λ (xs : List (List (ℕ × ℕ))). IsAmong xs s) (sym (a.sets u)) among

single_there : (old new : List TypeTests) (t : Name) (label : ℕ) → AddsSingle old t label new → IsAmong (singles_of new t) label
single_there old new t label a = subst (λ (xs : List ℕ). IsAmong xs label) (sym (a.singles t)) (behind (singles_of old t) label t)

-- grown by what is stated at an end
pub record IsWithEnd (T : Topology) (r : Request) (c k : ℕ) (port : Name) (wish : Wish) (old new : List TypeTests) : Type 0 where
  pub grown : IsGrown T r c k old new
  pub there : (u : Name) (n : ℕ) → StatesAt T port wish u n → IsAmong (singles_of new u) n

gathered_end : (T : Topology) (r : Request) (c k e : ℕ) (port : Name) (wish : Wish) (old new : List TypeTests) → IsGathered T r c k e old → ((u : Name) (n : ℕ) → StatesAt T port wish u n → IsStated T r u n) → AddsStated T port wish old new → IsWithEnd T r c k port wish old new
gathered_end T r c k e port wish old new g stated (inl none) = record {
  grown = record {
    gathered = no_ends T r c k e new (subst (IsGathered T r c k e) (sym none.0) g);
    kept = λ u n among. subst (λ (all : List TypeTests). IsAmong (singles_of all u) n) (sym none.0) among;
  };
  there = λ u n s. absurd (none.1 u n s);
}
gathered_end T r c k e port wish old new g stated (inr (t, label, a, states, only)) = record {
  grown = gathered_single T r c k e old new t label g a (stated t label states) (type_stated T port wish t label states);
  there = λ u n s.
      let same = only u n s in
      subst (λ (w : Name). IsAmong (singles_of new w) n) (sym same.0) (subst (IsAmong (singles_of new t)) (sym same.1) (single_there old new t label a));
}

pub from_step : (T : Topology) (r : Request) (c k : ℕ) (old new : List TypeTests) → IsGathered T r c k 0 old → AddsStated T r.from r.from_wish old new → IsGathered T r c k 1 new
from_step T r c k old new g a =
    let w = gathered_end T r c k 0 r.from r.from_wish old new g (λ u n s. inl s) a in
    record {
      only_sets = w.grown.gathered.only_sets;
      only_singles = w.grown.gathered.only_singles;
      only_types = w.grown.gathered.only_types;
      class_sets = w.grown.gathered.class_sets;
      link_sets = w.grown.gathered.link_sets;
      from_single = λ u n less s. w.there u n s;
      to_single = λ u n less. absurd (omega arith);
    }

pub to_step : (T : Topology) (r : Request) (c k : ℕ) (old new : List TypeTests) → IsGathered T r c k 1 old → AddsStated T r.to r.to_wish old new → IsGathered T r c k 2 new
to_step T r c k old new g a =
    let w = gathered_end T r c k 1 r.to r.to_wish old new g (λ u n s. inr s) a in
    record {
      only_sets = w.grown.gathered.only_sets;
      only_singles = w.grown.gathered.only_singles;
      only_types = w.grown.gathered.only_types;
      class_sets = w.grown.gathered.class_sets;
      link_sets = w.grown.gathered.link_sets;
      from_single = λ u n less s. w.grown.kept u n (g.from_single u n (omega arith) s);
      to_single = λ u n less s. w.there u n s;
    }
