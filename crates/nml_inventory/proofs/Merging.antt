-- The labels of classes: what meeting the sets of their ports in parts gives.
use Rattle.std.proofs.Common.{◌≡◌, ◌≢◌, ◌⊎◌, ℕ, zero, suc, ◌+◌, ◌<◌, ◌==◌, inl, inr, List, [], ◌∷◌, ◌++◌, Bool, true, false, ◌&&◌, ◌||◌, not, Option, Some, map, set, length, get_or, refl, sym, ◌∙◌, ap, subst, arith}
use Rattle.std.specs.Prelude.{slice_get, option_map, unwrap_or, IsTrue}
use Rattle.std.specs.List.{list_all, range_with_len, AllByRecursion}
use Rattle.std.proofs.lemmas.Bool.{eq-eqb, eqb-true, eqb-false, ne_eqb, and_parts, and_from}
use Rattle.std.proofs.lemmas.List.{length-set, map-set}
use Rattle.std.proofs.lemmas.List.Folds.{list_all-append}
use Rattle.std.proofs.lemmas.Option.{slice_get-map, slice_get_within}
use Rattle.std.proofs.Math.Bool.{and-true}
use Rattle.ml_base.proofs.Lists.{one_of_some, some_at, range_more, all_from_places, all_at}
use Rattle.nml_elements.specs.declared.elements.Labels.{Labels}
use Rattle.nml_elements.specs.declared.elements.Labels.TheVariants.{Unlabelled, Of}
use Rattle.nml_elements.specs.Labels.{is_among}
use Rattle.label_sets.specs.Ranges.{has}
use Rattle.circuit_spec.specs.Faults.{ClassesFit, duplicate_ids, type_of}
use Rattle.circuit_spec.specs.Network.{Topology, Port, IsClass, IsInClassSet, Linked, label_type, ports}
use Rattle.circuit_spec.proofs.Among.{among_first}
use Rattle.circuit_spec.proofs.ClassLemmas.{First-unique, class_of_itself, class_of_linked, linked_back, linked_to_itself}
use Rattle.nml_inventory.specs.Aliases.{IsClassNumber}
use Rattle.nml_inventory.specs.ClassSets.{admits, admits_at, all_admit, all_have, AreMerged, AreNarrowed, AreParts, ArePartsOf, HasAdded, HasNarrowed, IsNarrowed}
use Rattle.nml_inventory.specs.declared.labels.Part.{Part}
use Rattle.nml_inventory.specs.Relations.{AreClassLabels}
use Rattle.nml_inventory.proofs.ClassNumbers.{port_id}
use Rattle.nml_inventory.proofs.Distinct.{same_place}
use Rattle.nml_inventory.proofs.PortNumbers.{distinct_ports}

and_self : (b : Bool) → (b && b) ≡ b
and_self true = refl
and_self false = refl

own_admits : (l : Labels) (label : ℕ) → (is_among l label && admits l label) ≡ (is_among l label && true)
own_admits Unlabelled label = refl
own_admits (Of labeltype s) label = and_self (has s label) ∙ sym (and-true (has s label))

-- The labels of the first ports

pub record IsFirst (T : Topology) (lists : List (List Part)) (number : ℕ) (labels : Labels) : Type 0 where
  pub port : Port
  pub parts : List Part
  pub at : slice_get (ports T) number ≡ Some port
  pub parts_at : slice_get lists number ≡ Some parts
  pub narrowed : HasNarrowed port.labels parts labels

pub record AreFirst (T : Topology) (lists : List (List Part)) (count : ℕ) (labels : List Labels) : Type 0 where
  pub long : length labels ≡ count
  pub each : (number : ℕ) (found : Labels) → slice_get labels number ≡ Some found → IsFirst T lists number found

push_cases : {A : Type 0} (xs : List A) (x : A) (n : ℕ) (y : A) → slice_get (xs ++ x ∷ []) n ≡ Some y → (slice_get xs n ≡ Some y) ⊎ ((n ≡ length xs) × (x ≡ y))
push_cases [] x zero y at = inr (refl, one_of_some at)
push_cases [] x (suc n) y at = cc
push_cases (z ∷ xs) x zero y at = inl at
push_cases (z ∷ xs) x (suc n) y at = elim (push_cases xs x n y at) [ inl e ↦ inl e | inr p ↦ inr (ap suc p.0, p.1) ]

pub first_more : (T : Topology) (count : ℕ) (labels : List Labels) (lists : List (List Part)) (parts : List Part) (q : Port) (new : Labels) → AreFirst T lists count labels → slice_get lists count ≡ Some parts → slice_get (ports T) count ≡ Some q → HasNarrowed q.labels parts new → AreFirst T lists (count + 1) (labels ++ new ∷ [])
first_more T count labels lists parts q new a parts_at at n = record {
  long = omega (arith, long_by labels new, a.long);
  each = λ number found found_at. one number found (push_cases labels new number found found_at);
}
  where
    long_by : {A : Type 0} (xs : List A) (x : A) → length (xs ++ x ∷ []) ≡ length xs + 1
    long_by [] x = refl
    long_by (y ∷ xs) x = omega (arith, long_by xs x)

    here : IsFirst T lists count new
    here = record { port = q; parts = parts; at = at; parts_at = parts_at; narrowed = n }

    one : (number : ℕ) (found : Labels) → (slice_get labels number ≡ Some found) ⊎ ((number ≡ length labels) × (new ≡ found)) → IsFirst T lists number found
    one number found (inl before) = a.each number found before
    one number found (inr p) = subst (λ m. IsFirst T lists m found) (sym (p.0 ∙ a.long)) (subst (λ (l : Labels). IsFirst T lists count l) p.1 here)

pub all_first : (T : Topology) (classes : List ℕ) (count : ℕ) (labels : List Labels) (lists : List (List Part)) → count ≡ length (ports T) → AreFirst T lists count labels → AreParts T classes (length (ports T)) lists → AreNarrowed T classes (length (ports T)) labels
all_first T classes count labels lists e a all = record {
  long = a.long ∙ e;
  each = λ number found found_at.
      let f = a.each number found found_at in record {
        port = f.port;
        at = f.at;
        typed = f.narrowed.typed;
        each = λ label. f.narrowed.each label ∙ (all.each number f.parts f.parts_at).each f.port label f.at;
      };
}

-- One more port

set_cases : {A : Type 0} (xs : List A) (k : ℕ) (v : A) (n : ℕ) (y : A) → slice_get (set xs k v) n ≡ Some y → ((n ≡ k) × (v ≡ y)) ⊎ ((n ≢ k) × (slice_get xs n ≡ Some y))
set_cases [] k v n y at = cc
set_cases (x ∷ xs) zero v zero y at = inl (refl, one_of_some at)
set_cases (x ∷ xs) zero v (suc n) y at = inr ((λ e. omega arith), at)
set_cases (x ∷ xs) (suc k) v zero y at = inr ((λ e. omega arith), at)
set_cases (x ∷ xs) (suc k) v (suc n) y at = elim (set_cases xs k v n y at) [ inl p ↦ inl (ap suc p.0, p.1) | inr p ↦ inr ((λ e. p.0 (omega (arith, e))), p.1) ]

all_more : (T : Topology) (classes : List ℕ) (count class label : ℕ) → all_admit T classes (count + 1) class label ≡ (all_admit T classes count class label && (not (get_or classes count 0 == class) || admits_at T count label))
all_more T classes count class label =
    let t : ℕ → Bool = λ n. not (get_or classes n 0 == class) || admits_at T n label in
    let e : 0 + count ≡ count = omega arith in
    ap (list_all t) (range_more 0 count) ∙ list_all-append t (range_with_len 0 count) ((0 + count) ∷ [])
    ∙ ap (λ b. list_all t (range_with_len 0 count) && b) (and-true (t (0 + count)) ∙ ap t e)

and_step : (a p f t : Bool) → (a && p) ≡ (a && f) → (a && (p && t)) ≡ (a && (f && t))
and_step true p f t e = ap (λ b. b && t) e
and_step false p f t e = refl

and_absorb : (a f t : Bool) → (a && t) ≡ (a && true) → (a && f) ≡ (a && (f && t))
and_absorb true f t e = sym (ap (λ b. f && b) e ∙ and-true f)
and_absorb false f t e = refl

-- what one more port asks of the labels of its class
here_admits : (T : Topology) (classes : List ℕ) (count k : ℕ) (q : Port) (label : ℕ) → k ≡ get_or classes count 0 → slice_get (ports T) count ≡ Some q → all_admit T classes (count + 1) k label ≡ (all_admit T classes count k label && admits q.labels label)
here_admits T classes count k q label is at =
    all_more T classes count k label
    ∙ ap (λ b. all_admit T classes count k label && b)
    (ap (λ b. not b || admits_at T count label) (eq-eqb (get_or classes count 0) k (sym is))
    ∙ ap (λ (o : Option Port). unwrap_or (option_map (λ (p : Port). admits p.labels label) o) true) at)

elsewhere_admits : (T : Topology) (classes : List ℕ) (count k number label : ℕ) → k ≡ get_or classes count 0 → number ≢ k → all_admit T classes (count + 1) number label ≡ all_admit T classes count number label
elsewhere_admits T classes count k number label is apart =
    all_more T classes count number label
    ∙ ap (λ b. all_admit T classes count number label && (not b || admits_at T count label)) (ne_eqb (get_or classes count 0) number (λ e. apart (sym e ∙ sym is)))
    ∙ and-true (all_admit T classes count number label)

kept_parts : (T : Topology) (classes : List ℕ) (count k number : ℕ) (parts : List Part) → k ≡ get_or classes count 0 → number ≢ k → ArePartsOf T classes count number parts → ArePartsOf T classes (count + 1) number parts
kept_parts T classes count k number parts is apart a = record {
  each = λ p label p_at. a.each p label p_at ∙ ap (λ b. is_among p.labels label && b) (sym (elsewhere_admits T classes count k number label is apart));
}

pub parts_more : (T : Topology) (classes : List ℕ) (count : ℕ) (lists : List (List Part)) (k : ℕ) (old new : List Part) (q : Port) → AreParts T classes count lists → k ≡ get_or classes count 0 → slice_get lists k ≡ Some old → slice_get (ports T) count ≡ Some q → HasAdded old (admits q.labels) new → AreParts T classes (count + 1) (set lists k new)
parts_more T classes count lists k old new q a is old_at at h = record {
  long = length-set lists k new ∙ a.long;
  each = λ number found found_at. one number found (set_cases lists k new number found found_at);
}
  where
    here : ArePartsOf T classes (count + 1) k new
    here = record {
      each = λ p label p_at.
          ap (λ b. is_among p.labels label && b) (h.each label)
          ∙ and_step (is_among p.labels label) (all_have old label) (all_admit T classes count k label) (admits q.labels label) ((a.each k old old_at).each p label p_at)
          ∙ ap (λ b. is_among p.labels label && b) (sym (here_admits T classes count k q label is at));
    }

    one : (number : ℕ) (found : List Part) → ((number ≡ k) × (new ≡ found)) ⊎ ((number ≢ k) × (slice_get lists number ≡ Some found)) → ArePartsOf T classes (count + 1) number found
    one number found (inl p) =
        subst (λ m. ArePartsOf T classes (count + 1) m found) (sym p.0) (subst (λ (ps : List Part). ArePartsOf T classes (count + 1) k ps) p.1 here)
    one number found (inr p) = kept_parts T classes count k number found is p.0 (a.each number found p.1)

-- the first port of a class adds nothing to its parts
pub parts_first : (T : Topology) (classes : List ℕ) (count : ℕ) (lists : List (List Part)) (q : Port) → AreParts T classes count lists → get_or classes count 0 ≡ count → slice_get (ports T) count ≡ Some q → AreParts T classes (count + 1) lists
parts_first T classes count lists q a is at = record {
  long = a.long;
  each = λ number found found_at. one number found found_at (number == count) refl;
}
  where
    one : (number : ℕ) (found : List Part) → slice_get lists number ≡ Some found → (b : Bool) → (number == count) ≡ b → ArePartsOf T classes (count + 1) number found
    one number found found_at true e = record {
      each = λ p label p_at.
          let here : number ≡ count = eqb-true number count e in
          let same : p ≡ q = one_of_some (sym p_at ∙ ap (slice_get (ports T)) here ∙ at) in
          (a.each number found found_at).each p label p_at
          ∙ and_absorb (is_among p.labels label) (all_admit T classes count number label) (admits q.labels label)
          (ap (λ (x : Port). is_among p.labels label && admits x.labels label) (sym same) ∙ own_admits p.labels label)
          ∙ ap (λ b. is_among p.labels label && b) (sym (here_admits T classes count number q label (here ∙ sym is) at));
    }
    one number found found_at false e = kept_parts T classes count count number found (sym is) (eqb-false number count e) (a.each number found found_at)

-- where the parts stand in lists of some kind
pub view_at : {V : Type 0} (f : V → List Part) (lists : List V) (k : ℕ) (v : V) → slice_get lists k ≡ Some v → slice_get (map f lists) k ≡ Some (f v)
view_at f lists k v at = slice_get-map f lists k ∙ ap (option_map f) at

pub list_more : {V : Type 0} (f : V → List Part) (T : Topology) (classes : List ℕ) (count : ℕ) (lists : List V) (k : ℕ) (old new : V) (q : Port) → AreParts T classes count (map f lists) → k ≡ get_or classes count 0 → slice_get lists k ≡ Some old → slice_get (ports T) count ≡ Some q → HasAdded (f old) (admits q.labels) (f new) → AreParts T classes (count + 1) (map f (set lists k new))
list_more f T classes count lists k old new q a is old_at at h =
    subst (λ (ls : List (List Part)). AreParts T classes (count + 1) ls) (sym (map-set f lists k new))
    (parts_more T classes count (map f lists) k (f old) (f new) q a is (view_at f lists k old old_at) at h)

-- What the labels of a class are

all_range : (t : ℕ → Bool) (a n : ℕ) → list_all t (range_with_len a n) ≡ true → (j : ℕ) → j < n → t (a + j) ≡ true
all_range t a zero h j l = absurd (omega arith)
all_range t a (suc n) h zero l = let e : a + 0 ≡ a = omega arith in ap t e ∙ (and_parts (t a) (list_all t (range_with_len (a + 1) n)) h).0
all_range t a (suc n) h (suc j) l =
    let e : a + suc j ≡ a + 1 + j = omega arith in
    ap t e ∙ all_range t (a + 1) n (and_parts (t a) (list_all t (range_with_len (a + 1) n)) h).1 j (omega (arith, l))

from_range : (t : ℕ → Bool) (a n : ℕ) → ((j : ℕ) → j < n → t (a + j) ≡ true) → list_all t (range_with_len a n) ≡ true
from_range t a zero all = refl
from_range t a (suc n) all =
    let e : a ≡ a + 0 = omega arith in
    and_from (t a) (list_all t (range_with_len (a + 1) n)) (ap t e ∙ all 0 (omega arith))
    (from_range t (a + 1) n (λ j l. let f : a + 1 + j ≡ a + suc j = omega arith in ap t f ∙ all (suc j) (omega (arith, l))))

to_among : (l class : Labels) (label : ℕ) → admits l label ≡ true → is_among class label ≡ true → label_type l ≡ label_type class → is_among l label ≡ true
to_among (Of labeltype s) class label h c e = h
to_among Unlabelled Unlabelled label h c e = c
to_among Unlabelled (Of labeltype s) label h c e = cc

admits_from : (l : Labels) (label : ℕ) → is_among l label ≡ true → admits l label ≡ true
admits_from Unlabelled label h = refl
admits_from (Of labeltype s) label h = h

-- the port of a number and the first of its class
record AreOfClass (T : Topology) (j k : ℕ) (q class : Port) : Type 0 where
  is : IsClass T q.id class
  first_at : slice_get (ports T) k ≡ Some class

of_class : (T : Topology) (j k : ℕ) (q : Port) → IsClassNumber T j k → slice_get (ports T) j ≡ Some q → (class : Port) × AreOfClass T j k q class
of_class T j k q n at =
    let same : n.port ≡ q = one_of_some (sym n.is_port ∙ at) in
    (n.first, record { is = subst (λ (p : Port). IsClass T p.id n.first) same n.is_class; first_at = n.is_first })

pub merged_labels : (T : Topology) (labels : List Labels) (number k : ℕ) (found : Labels) → duplicate_ids T ≡ [] → AreMerged T labels → IsClassNumber T number k → slice_get labels k ≡ Some found → ClassesFit T → (p class : Port) → slice_get (ports T) number ≡ Some p → IsClass T p.id class → AreClassLabels T class found
merged_labels T labels number k found once m n found_at fit p class at is_class = record {
  typed = narrow.typed ∙ ap (λ (q : Port). label_type q.labels) is_first;
  each = λ label. (forth label, back label);
}
  where
    narrow : IsNarrowed T m.classes (length (ports T)) k found
    narrow = m.narrowed.each k found found_at

    mine : (c : Port) × AreOfClass T number k p c
    mine = of_class T number k p n at

    same_class : mine.0 ≡ class
    same_class = First-unique (λ (q : Port). Linked T p.id q.id) (ports T) mine.0 class mine.1.is is_class

    class_at : slice_get (ports T) k ≡ Some class
    class_at = mine.1.first_at ∙ ap Some same_class

    is_first : narrow.port ≡ class
    is_first = one_of_some (sym narrow.at ∙ class_at)

    itself : IsClass T class.id class
    itself = class_of_itself T p.id class is_class

    -- a linked port has the class's number
    numbered : (j : ℕ) (q : Port) → slice_get (ports T) j ≡ Some q → Linked T class.id q.id → get_or m.classes j 0 ≡ k
    numbered j q q_at l =
        let theirs = of_class T j (get_or m.classes j 0) q (m.numbered.each j (slice_get_within (ports T) j q q_at)) q_at in
        let same : theirs.0 ≡ class = First-unique (λ (x : Port). Linked T q.id x.id) (ports T) theirs.0 class theirs.1.is (class_of_linked T class.id q.id class l itself) in
        same_place port_id (ports T) (get_or m.classes j 0) k theirs.0 class (distinct_ports T once) theirs.1.first_at class_at (ap port_id same)

    -- and a port of the number is linked
    linked : (j : ℕ) (q : Port) → slice_get (ports T) j ≡ Some q → get_or m.classes j 0 ≡ k → Linked T class.id q.id
    linked j q q_at e =
        let theirs = of_class T j (get_or m.classes j 0) q (m.numbered.each j (slice_get_within (ports T) j q q_at)) q_at in
        let same : theirs.0 ≡ class = one_of_some (sym theirs.1.first_at ∙ ap (slice_get (ports T)) e ∙ class_at) in
        linked_back T q.id class.id (subst (λ (x : Port). Linked T q.id x.id) same (among_first (λ (x : Port). Linked T q.id x.id) (ports T) theirs.0 theirs.1.is).1)

    admitted : (j label : ℕ) (q : Port) → slice_get (ports T) j ≡ Some q → admits_at T j label ≡ admits q.labels label
    admitted j label q q_at = ap (λ (o : Option Port). unwrap_or (option_map (λ (x : Port). admits x.labels label) o) true) q_at

    forth : (label : ℕ) → IsTrue (is_among found label) → IsInClassSet T class label
    forth label h =
        let parts = and_parts (is_among narrow.port.labels label) (all_admit T m.classes (length (ports T)) k label) (sym (narrow.each label) ∙ h) in
        let own : is_among class.labels label ≡ true = ap (λ (q : Port). is_among q.labels label) (sym is_first) ∙ parts.0 in
        all_from_places (λ (q : Port). Linked T class.id q.id → IsTrue (is_among q.labels label)) (ports T)
        (λ j q q_at l.
        let e = numbered j q q_at l in
        let f : j ≡ 0 + j = omega arith in
        let t : ℕ → Bool = λ i. not (get_or m.classes i 0 == k) || admits_at T i label in
        let yes : t j ≡ true = ap t f ∙ all_range t 0 (length (ports T)) parts.1 j (slice_get_within (ports T) j q q_at) in
        let admits_it : admits q.labels label ≡ true = sym (admitted j label q q_at) ∙ sym (ap (λ b. not b || admits_at T j label) (eq-eqb (get_or m.classes j 0) k e)) ∙ yes in
        let fits = all_at (λ (x : Port). Linked T class.id x.id → (x.encoding ≡ class.encoding) × (type_of x ≡ type_of class)) (ports T) j q
        (all_at (λ (y : Port). AllByRecursion (λ (x : Port). Linked T y.id x.id → (x.encoding ≡ y.encoding) × (type_of x ≡ type_of y)) (ports T)) (ports T) k class fit class_at) q_at in
        to_among q.labels class.labels label admits_it own (fits l).1)

    back : (label : ℕ) → IsInClassSet T class label → IsTrue (is_among found label)
    back label all =
        let member : (j : ℕ) (q : Port) → slice_get (ports T) j ≡ Some q → Linked T class.id q.id → is_among q.labels label ≡ true =
        λ j q q_at l. all_at (λ (x : Port). Linked T class.id x.id → IsTrue (is_among x.labels label)) (ports T) j q all q_at l in
        let own : is_among narrow.port.labels label ≡ true = ap (λ (q : Port). is_among q.labels label) is_first ∙ member k class class_at (linked_to_itself T class.id) in
        let each : all_admit T m.classes (length (ports T)) k label ≡ true =
        from_range (λ i. not (get_or m.classes i 0 == k) || admits_at T i label) 0 (length (ports T))
        (λ j l.
        let f : 0 + j ≡ j = omega arith in
        let q = some_at (ports T) j l in
        ap (λ i. not (get_or m.classes i 0 == k) || admits_at T i label) f
        ∙ one j q.0 q.1 (member j q.0 q.1) (get_or m.classes j 0 == k) refl) in
        narrow.each label ∙ and_from (is_among narrow.port.labels label) (all_admit T m.classes (length (ports T)) k label) own each
      where
        one : (j : ℕ) (q : Port) → slice_get (ports T) j ≡ Some q → (Linked T class.id q.id → is_among q.labels label ≡ true) → (b : Bool) → (get_or m.classes j 0 == k) ≡ b → (not (get_or m.classes j 0 == k) || admits_at T j label) ≡ true
        one j q q_at member true e =
            ap (λ b. not b || admits_at T j label) e ∙ admitted j label q q_at ∙ admits_from q.labels label (member (linked j q q_at (eqb-true (get_or m.classes j 0) k e)))
        one j q q_at member false e = ap (λ b. not b || admits_at T j label) e
