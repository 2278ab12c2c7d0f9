-- Open references: names counted once.
use Rattle.std.proofs.Common.{◌≡◌, ℕ, ◌+◌, ◌<◌, List, [], ◌∷◌, ◌++◌, Bool, true, false, ◌||◌, cond, Option, None, Some, map, filter, take, length, get_or, refl, sym, ◌∙◌, ap, arith, append-nil, append_assoc}
use Rattle.std.specs.Prelude.{slice_get, is_none, option_map, unwrap_or, sum_by}
use Rattle.std.specs.List.{list_any}
use Rattle.std.specs.Str.{bytes_eq}
use Rattle.std.specs.Option.{option_and_then}
use Rattle.std.proofs.lemmas.List.{take_all, take_more, map-append}
use Rattle.std.proofs.lemmas.List.Elements.{filter_more}
use Rattle.std.proofs.lemmas.List.Folds.{list_any-append}
use Rattle.std.proofs.lemmas.List.Sums.{sum_by-cons, sum_by-append}
use Rattle.std.proofs.lemmas.Option.{slice_get_within, get_or_from_slice_get}
use Rattle.std.proofs.lemmas.Slice.Eq.{bytes_eq-Decides}
use Rattle.std.proofs.Math.Bool.{or_assoc}
use Rattle.nml_elements.specs.declared.elements.Element.{Element}
use Rattle.nml_elements.specs.declared.elements.Element.TheVariants as element
use Rattle.circuit_spec.specs.Faults.{Relation, relations_of}
use Rattle.circuit_spec.specs.Network.{Name, Topology, Placed, element_named, elements_of, id_of, names}
use Rattle.nml_inventory.specs.Numbers.{element_number}
use Rattle.nml_inventory.specs.Relations.{once_behind, open_count, open_in, open_names, with_name}
use Rattle.nml_inventory.proofs.First.{none_at}
use Rattle.nml_inventory.proofs.Members.{named_number}
use Rattle.nml_inventory.proofs.PortNumbers.{number_found}

-- Names once

once_push : (before xs : List Name) (x : Name) → once_behind before (xs ++ x ∷ []) ≡ once_behind before xs ++ cond (names (before ++ xs) x) [] (x ∷ [])
once_push before [] x = ap (λ (ys : List Name). cond (names ys x) [] (x ∷ [])) (sym (append-nil before))
once_push before (y ∷ xs) x =
    let more = once_push (before ++ y ∷ []) xs x in
    let here : names ((before ++ y ∷ []) ++ xs) x ≡ names (before ++ y ∷ xs) x = ap (λ (ys : List Name). names ys x) (append_assoc before (y ∷ []) xs) in
    one (names before y) (more ∙ ap (λ b. once_behind (before ++ y ∷ []) xs ++ cond b [] (x ∷ [])) here)
  where
    one : (b : Bool) → once_behind (before ++ y ∷ []) (xs ++ x ∷ []) ≡ once_behind (before ++ y ∷ []) xs ++ cond (names (before ++ y ∷ xs) x) [] (x ∷ []) → cond b (once_behind (before ++ y ∷ []) (xs ++ x ∷ [])) (y ∷ once_behind (before ++ y ∷ []) (xs ++ x ∷ [])) ≡ cond b (once_behind (before ++ y ∷ []) xs) (y ∷ once_behind (before ++ y ∷ []) xs) ++ cond (names (before ++ y ∷ xs) x) [] (x ∷ [])
    one true e = e
    one false e = ap (λ (ys : List Name). y ∷ ys) e

named_before : (before : List Name) (y x : Name) (b : Bool) → bytes_eq y x ≡ b → names before y ≡ true → (names before x || b) ≡ names before x
named_before before y x true e h =
    let same : y ≡ x = (bytes_eq-Decides y x).0 e in
    let yes : names before x ≡ true = ap (names before) (sym same) ∙ h in
    ap (λ c. c || true) yes ∙ sym yes
named_before before y x false e h = or_false (names before x)
  where
    or_false : (b : Bool) → (b || false) ≡ b
    or_false true = refl
    or_false false = refl

once_names : (before xs : List Name) (x : Name) → (names before x || names (once_behind before xs) x) ≡ names (before ++ xs) x
once_names before [] x = or_false (names before x) ∙ ap (λ (ys : List Name). names ys x) (sym (append-nil before))
  where
    or_false : (b : Bool) → (b || false) ≡ b
    or_false true = refl
    or_false false = refl
once_names before (y ∷ xs) x =
    let rest = once_behind (before ++ y ∷ []) xs in
    let later : (names (before ++ y ∷ []) x || names rest x) ≡ names (before ++ y ∷ xs) x = once_names (before ++ y ∷ []) xs x ∙ ap (λ (ys : List Name). names ys x) (append_assoc before (y ∷ []) xs) in
    let added : names (before ++ y ∷ []) x ≡ (names before x || bytes_eq y x) = list_any-append (λ z. bytes_eq z x) before (y ∷ []) ∙ ap (λ b. names before x || b) (or_false (bytes_eq y x)) in
    one rest (names before y) refl added later
  where
    or_false : (b : Bool) → (b || false) ≡ b
    or_false true = refl
    or_false false = refl

    one : (rest : List Name) (b : Bool) → names before y ≡ b → names (before ++ y ∷ []) x ≡ (names before x || bytes_eq y x) → (names (before ++ y ∷ []) x || names rest x) ≡ names (before ++ y ∷ xs) x → (names before x || names (cond b rest (y ∷ rest)) x) ≡ names (before ++ y ∷ xs) x
    one rest true h added later = ap (λ b. b || names rest x) (sym (named_before before y x (bytes_eq y x) refl h)) ∙ ap (λ b. b || names rest x) (sym added) ∙ later
    one rest false h added later = sym (or_assoc (names before x) (bytes_eq y x) (names rest x)) ∙ ap (λ b. b || names rest x) (sym added) ∙ later

with_once : (xs : List Name) (x : Name) → with_name (once_behind [] xs) x ≡ once_behind [] (xs ++ x ∷ [])
with_once xs x = ap (λ b. cond b (once_behind [] xs) (once_behind [] xs ++ x ∷ [])) (once_names [] xs x) ∙ by (names xs x) ∙ sym (once_push [] xs x)
  where
    by : (b : Bool) → cond b (once_behind [] xs) (once_behind [] xs ++ x ∷ []) ≡ once_behind [] xs ++ cond b [] (x ∷ [])
    by true = sym (append-nil (once_behind [] xs))
    by false = refl

-- one more target, which is open or not
pub open_more : (T : Topology) (targets : List Name) (i : ℕ) (x : Name) (old new : List Name) → i < length targets → x ≡ get_or targets i x → is_none (element_named T x) ≡ true → old ≡ open_names T (take i targets) → new ≡ with_name old x → new ≡ open_names T (take (i + 1) targets)
open_more T targets i x old new h at is_open is put =
    let t : Name → Bool = λ id. is_none (element_named T id) in
    put ∙ ap (λ (xs : List Name). with_name xs x) is ∙ with_once (filter t (take i targets)) x
    ∙ ap (once_behind []) (sym (filter_more t targets i x h
    ∙ ap (λ (y : Name). filter t (take i targets) ++ cond (t y) (y ∷ []) []) (sym at) ∙ ap (λ b. filter t (take i targets) ++ cond b (x ∷ []) []) is_open))

pub named_more : (T : Topology) (targets : List Name) (i : ℕ) (x : Name) (old : List Name) → i < length targets → x ≡ get_or targets i x → is_none (element_named T x) ≡ false → old ≡ open_names T (take i targets) → old ≡ open_names T (take (i + 1) targets)
named_more T targets i x old h at is_named is =
    let t : Name → Bool = λ id. is_none (element_named T id) in
    is ∙ ap (once_behind []) (sym (filter_more t targets i x h
    ∙ ap (λ (y : Name). filter t (take i targets) ++ cond (t y) (y ∷ []) []) (sym at) ∙ ap (λ b. filter t (take i targets) ++ cond b (x ∷ []) []) is_named
    ∙ append-nil (filter t (take i targets))))

-- a set that holds one more key
pub key_more : {A : Type 0} (f : A → Name) (e : A → A → Bool) → ((x y : A) → e x y ≡ bytes_eq (f x) (f y)) → (old new : List A) (k : A) (id : Name) → f k ≡ id → new ≡ cond (list_any (e k) old) old (old ++ k ∷ []) → map f new ≡ with_name (map f old) id
key_more {A} f e same old new k id named put =
    ap (map f) put ∙ by (list_any (e k) old) ∙ ap (λ b. cond b (map f old) (map f old ++ id ∷ [])) (any_key old)
  where
    by : (b : Bool) → map f (cond b old (old ++ k ∷ [])) ≡ cond b (map f old) (map f old ++ id ∷ [])
    by true = refl
    by false = map-append f old (k ∷ []) ∙ ap (λ (x : Name). map f old ++ x ∷ []) named

    back : (a b : Name) (x y : Bool) → bytes_eq a b ≡ x → bytes_eq b a ≡ y → x ≡ y
    back a b true true p q = refl
    back a b false false p q = refl
    back a b true false p q = let s : bytes_eq b a ≡ true = (bytes_eq-Decides b a).1 (sym ((bytes_eq-Decides a b).0 p)) in cc
    back a b false true p q = let s : bytes_eq a b ≡ true = (bytes_eq-Decides a b).1 (sym ((bytes_eq-Decides b a).0 q)) in cc

    any_key : (xs : List A) → list_any (e k) xs ≡ names (map f xs) id
    any_key [] = refl
    any_key (x ∷ xs) =
        ap (λ b. b || list_any (e k) xs) (same k x ∙ ap (λ (y : Name). bytes_eq y (f x)) named ∙ back id (f x) (bytes_eq id (f x)) (bytes_eq (f x) id) refl refl)
        ∙ ap (λ b. bytes_eq (f x) id || b) (any_key xs)

-- Whether an element has the id

pub open_by : (T : Topology) (id : Name) (o : Option ℕ) → element_number T id ≡ o → is_none (element_named T id) ≡ is_none o
open_by T id None e = ap is_none (named_number T id ∙ ap (option_and_then (λ n. slice_get (elements_of T) n)) e)
open_by T id (Some n) e =
    let f = number_found (λ (p : Placed). id_of p.element) (elements_of T) n id e in
    ap is_none (named_number T id ∙ ap (option_and_then (λ k. slice_get (elements_of T) k)) e ∙ f.1)

-- Sums

pub sum_more : {A : Type 0} (f : A → ℕ) (xs : List A) (i : ℕ) (x : A) → slice_get xs i ≡ Some x → sum_by f (take (i + 1) xs) ≡ sum_by f (take i xs) + f x
sum_more {A} f xs i x at =
    ap (sum_by f) (take_more xs i x (slice_get_within xs i x at) ∙ ap (λ (y : A). take i xs ++ y ∷ []) (get_or_from_slice_get xs i x x at))
    ∙ sum_by-append f (take i xs) (x ∷ []) ∙ ap (λ n. sum_by f (take i xs) + n) (sum_by-cons f x [] ∙ omega arith)

open_by_place : (T : Topology) (e : Element) (place : ℕ) (o : Option Relation) → slice_get (relations_of e) place ≡ o → sum_by (open_count T) (take (place + 1) (relations_of e)) ≡ sum_by (open_count T) (take place (relations_of e)) + unwrap_or (option_map (open_count T) o) 0
open_by_place T e place (Some r) at = sum_more (open_count T) (relations_of e) place r at
open_by_place T e place None at =
    let past = none_at (relations_of e) place at in
    ap (sum_by (open_count T)) (take_all (place + 1) (relations_of e) (omega arith) ∙ sym (take_all place (relations_of e) past)) ∙ omega arith

pub open_in_more : (T : Topology) (e : Element) (place : ℕ) → sum_by (open_count T) (take (place + 1) (relations_of e)) ≡ sum_by (open_count T) (take place (relations_of e)) + open_in T e place
open_in_more T e place = open_by_place T e place (slice_get (relations_of e) place) refl

pub all_relations : (e : Element) → take 4 (relations_of e) ≡ relations_of e
all_relations (element.Node n) = refl
all_relations (element.Port p) = refl
all_relations (element.Link l) = refl
all_relations (element.Switching s) = refl
all_relations (element.Adaptation a) = refl
all_relations (element.Deadaptation a) = refl
all_relations (element.Conversion c) = refl
