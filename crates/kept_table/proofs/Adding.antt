-- One set, or one stated label, more at the place of a label type.
use Rattle.std.proofs.Common.{◌≡◌, ℕ, zero, suc, List, [], ◌∷◌, ◌++◌, Bool, true, false, cond, Option, Some, slice_set, refl, sym, ◌∙◌, ap, subst, append-nil}
use Rattle.std.specs.Prelude.{slice_get, option_map, unwrap_or}
use Rattle.std.specs.List.{find, position_or_len}
use Rattle.std.specs.Str.{bytes_eq}
use Rattle.std.proofs.lemmas.List.Folds.{find-set, find_at, find_past}
use Rattle.std.proofs.lemmas.Option.{slice_get_within, get_or_from_slice_get}
use Rattle.ml_base.proofs.Lists.{one_of_some}
use Rattle.ml_base.proofs.Comparisons.{same_bytes}
use Rattle.circuit_spec.specs.Network.{Name, names}
use Rattle.circuit_spec.proofs.Among.{among_find}
use Rattle.kept_table.specs.declared.gathered.TypeTests.{TypeTests}
use Rattle.kept_table.specs.Table.{AreOnce}
use Rattle.kept_table.specs.Gathering.{AddsSet, AddsSingle, AreByType, HasPlace, is_type, sets_of, singles_of, types_of}

-- the label types stay where what stands at a place changes, and not its label type
types_set : (all : List TypeTests) (n : ℕ) (at y : TypeTests) → slice_get all n ≡ Some at → y.labeltype ≡ at.labeltype → types_of (slice_set all n y) ≡ types_of all
types_set [] n at y is same = cc
types_set (x ∷ all) zero at y is same = let e : at ≡ x = one_of_some (sym is) in ap (λ (t : Name). t ∷ types_of all) (same ∙ ap (λ (z : TypeTests). z.labeltype) e)
types_set (x ∷ all) (suc n) at y is same = ap (λ (ts : List Name). x.labeltype ∷ ts) (types_set all n at y is same)

-- what stands at the place of a label type
pub record StandsAt (all : List TypeTests) (t : Name) (n : ℕ) (at : TypeTests) : Type 0 where
  pub here : slice_get all n ≡ Some at
  pub found : find (is_type t) all ≡ Some at
  pub typed : at.labeltype ≡ t

pub stands_at : (ids : List Name) (old all : List TypeTests) (t : Name) (n : ℕ) (at : TypeTests) → HasPlace ids old all t n → slice_get all n ≡ Some at → StandsAt all t n at
stands_at ids old all t n at place here =
    let found : find (is_type t) all ≡ Some at = find_at (is_type t) all ∙ ap (slice_get all) (sym place.at) ∙ here in
    record { here = here; found = found; typed = same_bytes at.labeltype t (among_find (is_type t) all at found).1 }

-- a search after the change
changed : (all : List TypeTests) (t u : Name) (n : ℕ) (at y : TypeTests) (b : Bool) → n ≡ position_or_len (is_type t) all → StandsAt all t n at → y.labeltype ≡ t → bytes_eq t u ≡ b → find (is_type u) (slice_set all n y) ≡ cond b (Some y) (find (is_type u) all)
changed all t u n at y true place stands typed e =
    subst (λ (w : Name). find (is_type w) (slice_set all n y) ≡ Some y) (same_bytes t u e)
    (find-set (is_type t) all n y place (slice_get_within all n at stands.here) (ap (λ (w : Name). bytes_eq w t) typed ∙ ap (λ (w : Name). bytes_eq w t) (same_bytes t u e) ∙ back))
  where
    back : bytes_eq u t ≡ true
    back = ap (λ (w : Name). bytes_eq w t) (sym (same_bytes t u e)) ∙ ap (bytes_eq t) (same_bytes t u e) ∙ e
changed all t u n at y false place stands typed e =
    find_past (is_type u) all n y at
    (ap (is_type u) (get_or_from_slice_get all n at at stands.here) ∙ ap (λ (w : Name). bytes_eq w u) stands.typed ∙ e)
    (ap (λ (w : Name). bytes_eq w u) typed ∙ e)

-- the list that a search gives after the change
listed : {A : Type 0} (f : TypeTests → List A) (all : List TypeTests) (t u : Name) (n : ℕ) (at y : TypeTests) (more : List A) (b : Bool) → n ≡ position_or_len (is_type t) all → StandsAt all t n at → y.labeltype ≡ t → f y ≡ f at ++ more → bytes_eq t u ≡ b → unwrap_or (option_map f (find (is_type u) (slice_set all n y))) [] ≡ unwrap_or (option_map f (find (is_type u) all)) [] ++ cond b more []
listed f all t u n at y more true place stands typed grown e =
    let before : find (is_type u) all ≡ Some at = ap (λ (w : Name). find (is_type w) all) (sym (same_bytes t u e)) ∙ stands.found in
    ap (λ (o : Option TypeTests). unwrap_or (option_map f o) []) (changed all t u n at y true place stands typed e)
    ∙ grown
    ∙ ap (λ (o : Option TypeTests). unwrap_or (option_map f o) [] ++ more) (sym before)
listed f all t u n at y more false place stands typed grown e =
    ap (λ (o : Option TypeTests). unwrap_or (option_map f o) []) (changed all t u n at y false place stands typed e)
    ∙ sym (append-nil (unwrap_or (option_map f (find (is_type u) all)) []))

nothing_more : {A : Type 0} (xs : List A) (b : Bool) → xs ++ cond b [] [] ≡ xs
nothing_more xs true = append-nil xs
nothing_more xs false = append-nil xs

pub by_type_set : (ids : List Name) (old mid : List TypeTests) (t : Name) (n : ℕ) (at y : TypeTests) → HasPlace ids old mid t n → slice_get mid n ≡ Some at → y.labeltype ≡ at.labeltype → AreByType ids (slice_set mid n y)
by_type_set ids old mid t n at y place here same =
    let kept = types_set mid n at y here same in
    record { types_are = place.by_type.types_are ∙ sym kept; once = subst AreOnce (sym kept) place.by_type.once }

-- one set more
pub set_added : (ids : List Name) (old mid : List TypeTests) (t : Name) (n : ℕ) (at : TypeTests) (set : List (ℕ × ℕ)) → HasPlace ids old mid t n → slice_get mid n ≡ Some at → AddsSet old t set (slice_set mid n (record at { sets = at.sets ++ set ∷ [] }))
set_added ids old mid t n at set place here =
    let y : TypeTests = record at { sets = at.sets ++ set ∷ [] } in
    let stands = stands_at ids old mid t n at place here in
    record {
      sets = λ u. listed (λ (x : TypeTests). x.sets) mid t u n at y (set ∷ []) (bytes_eq t u) place.at stands stands.typed refl refl ∙ ap (λ (xs : List (List (ℕ × ℕ))). xs ++ cond (bytes_eq t u) (set ∷ []) []) (place.sets u);
      singles = λ u. listed (λ (x : TypeTests). x.singles) mid t u n at y [] (bytes_eq t u) place.at stands stands.typed (sym (append-nil at.singles)) refl ∙ nothing_more (singles_of mid u) (bytes_eq t u) ∙ place.singles u;
      types_more = λ u. ap (λ (ts : List Name). names ts u) (types_set mid n at y here refl) ∙ place.types_more u;
    }

-- one stated label more
pub single_added : (ids : List Name) (old mid : List TypeTests) (t : Name) (n : ℕ) (at : TypeTests) (label : ℕ) → HasPlace ids old mid t n → slice_get mid n ≡ Some at → AddsSingle old t label (slice_set mid n (record at { singles = at.singles ++ label ∷ [] }))
single_added ids old mid t n at label place here =
    let y : TypeTests = record at { singles = at.singles ++ label ∷ [] } in
    let stands = stands_at ids old mid t n at place here in
    record {
      sets = λ u. listed (λ (x : TypeTests). x.sets) mid t u n at y [] (bytes_eq t u) place.at stands stands.typed (sym (append-nil at.sets)) refl ∙ nothing_more (sets_of mid u) (bytes_eq t u) ∙ place.sets u;
      singles = λ u. listed (λ (x : TypeTests). x.singles) mid t u n at y (label ∷ []) (bytes_eq t u) place.at stands stands.typed refl refl ∙ ap (λ (xs : List ℕ). xs ++ cond (bytes_eq t u) (label ∷ []) []) (place.singles u);
      types_more = λ u. ap (λ (ts : List Name). names ts u) (types_set mid n at y here refl) ∙ place.types_more u;
    }
