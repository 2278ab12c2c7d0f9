-- The place of a label type: the one that it has, or the one behind the others.
use Rattle.std.proofs.Common.{◌≡◌, ◌<◌, ◌+◌, ℕ, List, [], ◌∷◌, ◌++◌, Bool, true, false, ◌||◌, cond, Option, None, Some, map, length, refl, sym, ◌∙◌, ap, subst, arith}
use Rattle.std.specs.Prelude.{option_map, unwrap_or}
use Rattle.std.specs.Option.{option_or}
use Rattle.std.specs.List.{find, list_any, position_or_len}
use Rattle.std.specs.Str.{bytes_eq}
use Rattle.std.proofs.Math.Dec.{eqb}
use Rattle.std.proofs.lemmas.Bool.{eqb-true}
use Rattle.std.proofs.lemmas.List.{length-map, map-append}
use Rattle.std.proofs.lemmas.List.Folds.{find-append, list_any-append, position_or_len_push}
use Rattle.std.proofs.lemmas.Slice.Eq.{bytes_eq-Decides}
use Rattle.std.proofs.Math.Bool.{or-false}
use Rattle.ml_base.proofs.Comparisons.{bytes_itself, same_bytes}
use Rattle.circuit_spec.specs.Network.{Name, names}
use Rattle.nml_inventory.specs.Numbers.{is_name}
use Rattle.nml_inventory.proofs.Names.{place_by}
use Rattle.kept_table.specs.declared.gathered.TypeTests.{TypeTests}
use Rattle.kept_table.specs.Table.{AreOnce}
use Rattle.kept_table.specs.Gathering.{AreByType, HasPlace, is_type, types_of}

abbrev pub type_in : TypeTests → Name
type_in tests = tests.labeltype

-- a label type of which nothing is gathered
abbrev pub fresh : Name → TypeTests
fresh t = record { labeltype = t; sets = []; singles = [] }

-- Searches by a key that is as the label type

pub any_by : {A : Type 0} (key : A → Name) (test : A → Bool) (t : Name) → ((x : A) → test x ≡ is_name t (key x)) → (xs : List A) → list_any test xs ≡ names (map key xs) t
any_by key test t same [] = refl
any_by key test t same (x ∷ xs) = ap (λ b. b || list_any test xs) (same x) ∙ ap (λ b. bytes_eq (key x) t || b) (any_by key test t same xs)

-- the place among the ids is that among what is gathered
pub place_in : (ids : List Name) (all : List TypeTests) (t : Name) → ids ≡ types_of all → position_or_len (is_name t) ids ≡ position_or_len (is_type t) all
place_in ids all t e = ap (position_or_len (is_name t)) e ∙ sym (place_by type_in (is_type t) t (λ x. refl) all)

-- A label type that is there

known_name : (ids : List Name) (t u : Name) (b : Bool) → names ids t ≡ true → bytes_eq t u ≡ b → names ids u ≡ (names ids u || b)
known_name ids t u false there e = sym (or-false (names ids u))
known_name ids t u true there e =
    let here : names ids u ≡ true = ap (names ids) (sym (same_bytes t u e)) ∙ there in
    here ∙ sym (ap (λ b. b || true) here)

pub place_there : (ids : List Name) (all : List TypeTests) (t : Name) (n : ℕ) → AreByType ids all → names ids t ≡ true → n ≡ position_or_len (is_name t) ids → n < length ids → HasPlace ids all all t n
place_there ids all t n by_type there at within =
    let long : length ids ≡ length all = ap length by_type.types_are ∙ length-map all type_in in
    record {
      by_type = by_type;
      at = at ∙ place_in ids all t by_type.types_are;
      within = omega arith;
      sets = λ u. refl;
      singles = λ u. refl;
      types_more = λ u. known_name (types_of all) t u (bytes_eq t u) (ap (λ (xs : List Name). names xs t) (sym by_type.types_are) ∙ there) refl;
    }

-- A label type that is new

once_pushed : (ids : List Name) (t : Name) → AreOnce ids → names ids t ≡ false → AreOnce (ids ++ t ∷ [])
once_pushed [] t once none = (refl, tt)
once_pushed (x ∷ ids) t once none = (not_behind, once_pushed ids t once.1 (later (bytes_eq x t) none))
  where
    later : (b : Bool) → (b || names ids t) ≡ false → names ids t ≡ false
    later true e = cc
    later false e = e

    turned : (b c : Bool) → bytes_eq x t ≡ b → bytes_eq t x ≡ c → (b || names ids t) ≡ false → c ≡ false
    turned true c e f h = cc
    turned false true e f h = absurd (cc (e, (bytes_eq-Decides x t).1 (sym (same_bytes t x f))))
    turned false false e f h = refl

    not_behind : names (ids ++ t ∷ []) x ≡ false
    not_behind =
        list_any-append (λ y. bytes_eq y x) ids (t ∷ [])
        ∙ ap (λ b. b || (bytes_eq t x || false)) once.0
        ∙ or-false (bytes_eq t x)
        ∙ turned (bytes_eq x t) (bytes_eq t x) refl refl none

pushed_place : (p : TypeTests → Bool) (all : List TypeTests) (y : TypeTests) → p y ≡ true → position_or_len p (all ++ y ∷ []) ≡ position_or_len p all
pushed_place p all y passes = position_or_len_push p all y ∙ by (eqb (position_or_len p all) (length all)) refl
  where
    by : (b : Bool) → eqb (position_or_len p all) (length all) ≡ b → cond b (length all + cond (p y) 0 1) (position_or_len p all) ≡ position_or_len p all
    by false e = refl
    by true e =
        let same : position_or_len p all ≡ length all = eqb-true (position_or_len p all) (length all) e in
        let none : ◌≡◌ {A = ℕ} (cond {A = ℕ} (p y) 0 1) 0 = ap (λ (b : Bool). cond {A = ℕ} b 0 1) passes in
        omega arith

-- what nothing is gathered of changes no search
found_fresh : {A : Type 0} (f : TypeTests → List A) (all : List TypeTests) (t u : Name) → f (fresh t) ≡ [] → unwrap_or (option_map f (find (is_type u) (all ++ fresh t ∷ []))) [] ≡ unwrap_or (option_map f (find (is_type u) all)) []
found_fresh {A} f all t u none = ap (λ (o : Option TypeTests). unwrap_or (option_map f o) []) (find-append (is_type u) all (fresh t ∷ [])) ∙ by (find (is_type u) all)
  where
    last : (b : Bool) → unwrap_or (option_map f (cond b (Some (fresh t)) None)) [] ≡ []
    last true = none
    last false = refl

    by : (o : Option TypeTests) → unwrap_or (option_map f (option_or o (find (is_type u) (fresh t ∷ [])))) [] ≡ unwrap_or (option_map f o) []
    by (Some x) = refl
    by None = last (bytes_eq t u)

pub place_new : (ids more : List Name) (all new : List TypeTests) (t : Name) (n : ℕ) → AreByType ids all → more ≡ ids ++ t ∷ [] → names ids t ≡ false → n ≡ position_or_len (is_name t) ids → n < length more → new ≡ all ++ fresh t ∷ [] → HasPlace more all new t n
place_new ids more all new t n by_type behind none at within put =
    subst (λ (xs : List TypeTests). HasPlace more all xs t n) (sym put)
    (record {
      by_type = record {
        types_are = types_more;
        once = subst AreOnce (sym (map-append type_in all (fresh t ∷ []))) (once_pushed (types_of all) t by_type.once (ap (λ (xs : List Name). names xs t) (sym by_type.types_are) ∙ none));
      };
      at = at ∙ place_in ids all t by_type.types_are ∙ sym (pushed_place (is_type t) all (fresh t) (bytes_itself t));
      within = omega (arith, ap length types_more, length-map (all ++ fresh t ∷ []) type_in);
      sets = λ u. found_fresh (λ (x : TypeTests). x.sets) all t u refl;
      singles = λ u. found_fresh (λ (x : TypeTests). x.singles) all t u refl;
      types_more = λ u. ap (λ (xs : List Name). names xs u) (map-append type_in all (fresh t ∷ [])) ∙ list_any-append (λ y. bytes_eq y u) (types_of all) (t ∷ []) ∙ ap (λ b. names (types_of all) u || b) (or-false (bytes_eq t u));
    })
  where
    types_more : more ≡ types_of (all ++ fresh t ∷ [])
    types_more = behind ∙ ap (λ (xs : List Name). xs ++ t ∷ []) by_type.types_are ∙ sym (map-append type_in all (fresh t ∷ []))
