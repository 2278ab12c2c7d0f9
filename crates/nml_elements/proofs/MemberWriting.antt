-- A member that is written is read again.
use Rattle.std.proofs.Common.{◌≡◌, ◌≢◌, ℕ, ◌<◌, ◌^◌, List, [], ◌∷◌, Bool, true, false, IsTrue, codes, Option, Some, None, Ok, refl, sym, ap, ◌∙◌, arith}
use Rattle.std.proofs.lemmas.Bool.{lt-ltb, eqb-true}
use Rattle.serde_json.specs.Data.{array, string}
use Rattle.ml_base.specs.Text.{IsIdText}
use Rattle.label_sets.specs.Ranges.{AreRanges}
use Rattle.label_sets.specs.GroupText.{written}
use Rattle.label_sets.proofs.Canonical.{written_text}
use Rattle.label_sets.proofs.GroupSet.{spelt_set}
use Rattle.nml_elements.specs.declared.elements.Labels.{Labels}
use Rattle.nml_elements.specs.declared.elements.Labels.TheVariants.{Unlabelled, Of}
use Rattle.nml_elements.specs.Kept.{AreIds, MayBeId, MayBeIds, AreLabels}
use Rattle.nml_elements.specs.Labels.{fits_group}
use Rattle.nml_elements.specs.MemberReading.{present, id_at, required_from, required_id, optional_from, optional_id, ids_at, array_at, relation_from, relation, optional_relation_from, optional_relation, cost_at, swapping_from, swapping_at}
use Rattle.nml_elements.specs.LabelReading.{label_from, label_at, set_at, group_label_from, group_label_at, labels_at}
use Rattle.nml_elements.specs.ElementWriting.{Part, object_of, text_part, optional_text_part, number_part, swapping_part, texts, relation_part, optional_relation_part, labels_key, set_part, labels_part}
use Rattle.nml_elements.proofs.IdTest.{text_id}
use Rattle.nml_elements.proofs.Fitting.{fitted_by}
use Rattle.nml_elements.proofs.Parts.{looked_up, part_is}

id_string : (rule : ℕ) (id : List ℕ) → IsIdText id → id_at rule (string id) ≡ Ok id
unfolding id_at
id_string rule id is = rw (text_id id is) refl

pub id_written : (rule : ℕ) (key : List ℕ) (ps : List Part) (id : List ℕ) → looked_up key ps ≡ text_part id → IsIdText id → required_id rule key (object_of ps) ≡ Ok id
unfolding required_id
id_written rule key ps id here is = ap (required_from rule) (part_is key ps (text_part id) here) ∙ id_string rule id is

optional_by : (rule : ℕ) (o : Option (List ℕ)) → MayBeId o → optional_from rule (present (optional_text_part o)) ≡ Ok o
optional_by rule None is = refl
optional_by rule (Some id) is = rw (id_string rule id is) refl

pub optional_id_written : (rule : ℕ) (key : List ℕ) (ps : List Part) (o : Option (List ℕ)) → looked_up key ps ≡ optional_text_part o → MayBeId o → optional_id rule key (object_of ps) ≡ Ok o
unfolding optional_id
optional_id_written rule key ps o here is = ap (optional_from rule) (part_is key ps (optional_text_part o) here) ∙ optional_by rule o is

ids_written : (ids : List (List ℕ)) → AreIds ids → ids_at (texts ids) ≡ Ok ids
unfolding ids_at
ids_written [] are = refl
ids_written (id ∷ ids) are = rw (id_string 9 id are.0, ids_written ids are.1) refl

list_written : (ids : List (List ℕ)) → AreIds ids → array_at (array (texts ids)) ≡ Ok ids
unfolding array_at
list_written ids are = ids_written ids are

relation_by : (ids : List (List ℕ)) → AreIds ids → relation_from (present (relation_part ids)) ≡ Ok ids
relation_by [] are = refl
relation_by (id ∷ ids) are = list_written (id ∷ ids) are

pub relation_written : (key : List ℕ) (ps : List Part) (ids : List (List ℕ)) → looked_up key ps ≡ relation_part ids → AreIds ids → relation key (object_of ps) ≡ Ok ids
unfolding relation
relation_written key ps ids here are = ap relation_from (part_is key ps (relation_part ids) here) ∙ relation_by ids are

optional_relation_by : (o : Option (List (List ℕ))) → MayBeIds o → optional_relation_from (present (optional_relation_part o)) ≡ Ok o
optional_relation_by None are = refl
optional_relation_by (Some ids) are = rw (list_written ids are) refl

pub optional_relation_written : (key : List ℕ) (ps : List Part) (o : Option (List (List ℕ))) → looked_up key ps ≡ optional_relation_part o → MayBeIds o → optional_relation key (object_of ps) ≡ Ok o
unfolding optional_relation
optional_relation_written key ps o here are = ap optional_relation_from (part_is key ps (optional_relation_part o) here) ∙ optional_relation_by o are

pub cost_written : (ps : List Part) (cost : ℕ) → looked_up (codes "cost") ps ≡ number_part cost → cost_at (object_of ps) ≡ Ok cost
unfolding cost_at
cost_written ps cost here = rw (part_is (codes "cost") ps (number_part cost) here) refl

swapping_by : (b : Bool) → swapping_from (present (swapping_part b)) ≡ Ok b
swapping_by true = refl
swapping_by false = refl

pub swapping_written : (ps : List Part) (b : Bool) → looked_up (codes "labelSwapping") ps ≡ swapping_part b → swapping_at (object_of ps) ≡ Ok b
unfolding swapping_at
swapping_written ps b here = ap swapping_from (part_is (codes "labelSwapping") ps (swapping_part b) here) ∙ swapping_by b

-- ---- labels

abbrev object_parts : Bool → List ℕ → List (ℕ × ℕ) → List Part
object_parts group labeltype set = (codes "labeltype", text_part labeltype) ∷ set_part group set ∷ []

pub present_object : (ps : List Part) → present (Some (object_of ps)) ≡ Some (object_of ps)
unfolding object_of
present_object ps = refl

one_by : (labeltype : List ℕ) (n m : ℕ) (fits : IsTrue (fits_group false (Of labeltype ((n, m) ∷ [])))) → IsIdText labeltype → n < 2 ^ 32
    → label_from (Some (object_of (object_parts false labeltype ((n, m) ∷ [])))) ≡ Ok (record { group = false; labels = Of labeltype ((n, m) ∷ []); labelled = fits })
one_by labeltype n m fits is small =
    let same : n ≡ m = eqb-true n m fits in
    let labeltype_is = id_written 13 (codes "labeltype") (object_parts false labeltype ((n, m) ∷ [])) labeltype refl is in
    let value_is = part_is (codes "value") (object_parts false labeltype ((n, m) ∷ [])) (number_part n) refl in
    rw (labeltype_is, value_is, lt-ltb n (2 ^ 32) small) (ap Ok (fitted_by false _ _ (ap (λ (k : ℕ). Of labeltype ((n, k) ∷ [])) same) _ fits))

group_by : (labeltype : List ℕ) (r : ℕ × ℕ) (rest : List (ℕ × ℕ)) (fits : IsTrue (fits_group true (Of labeltype (r ∷ rest)))) → IsIdText labeltype → AreRanges (r ∷ rest)
    → group_label_from (Some (object_of (object_parts true labeltype (r ∷ rest)))) ≡ Ok (record { group = true; labels = Of labeltype (r ∷ rest); labelled = fits })
unfolding set_at
group_by labeltype r rest fits is up =
    let some : (r ∷ rest) ≢ [] = λ e. cc in
    let spelt = spelt_set (written (r ∷ rest)) (r ∷ rest) (written_text (r ∷ rest) up some) in
    let labeltype_is = id_written 14 (codes "labeltype") (object_parts true labeltype (r ∷ rest)) labeltype refl is in
    let values_is = part_is (codes "values") (object_parts true labeltype (r ∷ rest)) (text_part (written (r ∷ rest))) refl in
    rw (labeltype_is, values_is, spelt.1) (ap Ok (fitted_by true _ _ (ap (Of labeltype) (sym spelt.2)) _ fits))

labels_by : (group : Bool) (labels : Labels) (fits : IsTrue (fits_group group labels)) → AreLabels labels → (ps : List Part) → looked_up (labels_key group) ps ≡ labels_part group labels
    → labels_at group (object_of ps) ≡ Ok (record { group = group; labels = labels; labelled = fits })
unfolding labels_at label_at group_label_at
labels_by true Unlabelled fits are ps here = rw (part_is (codes "hasLabelGroup") ps None here) (ap Ok (fitted_by true _ _ refl _ fits))
labels_by false Unlabelled fits are ps here = rw (part_is (codes "hasLabel") ps None here) (ap Ok (fitted_by false _ _ refl _ fits))
labels_by true (Of labeltype []) fits are ps here = absurd (cc)
labels_by false (Of labeltype []) fits are ps here = absurd (cc)
labels_by true (Of labeltype (r ∷ rest)) fits are ps here =
    ap group_label_from (part_is (codes "hasLabelGroup") ps _ here ∙ present_object (object_parts true labeltype (r ∷ rest))) ∙ group_by labeltype r rest fits are.0 are.1
labels_by false (Of labeltype (r ∷ [])) fits are ps here =
    ap label_from (part_is (codes "hasLabel") ps _ here ∙ present_object (object_parts false labeltype (r ∷ []))) ∙ one_by labeltype r.0 r.1 fits are.0 (omega (arith, are.1.1, are.1.2))
labels_by false (Of labeltype (r ∷ s ∷ rest)) fits are ps here = absurd (cc)

pub labels_written : (group : Bool) (labels : Labels) (fits : IsTrue (fits_group group labels)) → AreLabels labels → (ps : List Part) → looked_up (labels_key group) ps ≡ labels_part group labels
    → labels_at group (object_of ps) ≡ Ok (record { group = group; labels = labels; labelled = fits })
labels_written = labels_by
