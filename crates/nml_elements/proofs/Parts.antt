-- What is written under a name is found there.
use Rattle.std.proofs.Common.{◌≡◌, ℕ, List, [], ◌∷◌, Bool, true, false, cond, Option, Some, None, is_some, refl, sym, ap, ◌∙◌, subst, bytes_eq}
use Rattle.std.proofs.lemmas.Slice.Eq.{bytes_eq-Decides}
use Rattle.std.proofs.lemmas.Bool.{false≢true}
use Rattle.serde_json.proofs.Views.{get_member-put, get_member-put_other}
use Rattle.serde_json.specs.Data.{Data, Members, no_members, put}
use Rattle.serde_json.specs.Find.{as_object, get_member}
use Rattle.nml_elements.specs.MemberReading.{present, part}
use Rattle.nml_elements.specs.ElementWriting.{Part, with_part, with_parts, object_of}

abbrev pub first_some : Option Data → Option Data → Option Data
first_some None rest = rest
first_some (Some d) rest = Some d

abbrev pub looked_up : List ℕ → List Part → Option Data
looked_up key [] = None
looked_up key (p ∷ ps) = cond (bytes_eq key p.0) (first_some (looked_up key ps) p.1) (looked_up key ps)

cond_same : {A : Type 0} (b : Bool) (x : A) → x ≡ cond b x x
cond_same true x = refl
cond_same false x = refl

get_by : (key k : List ℕ) (d : Data) (ms : Members) (b : Bool) → bytes_eq key k ≡ b → get_member key (put k d ms) ≡ cond b (Some d) (get_member key ms)
get_by key k d ms true e =
    let same : k ≡ key = sym ((bytes_eq-Decides key k).0 e) in
    subst (λ l. get_member key (put l d ms) ≡ Some d) (sym same) (get_member-put key d ms)
get_by key k d ms false e = get_member-put_other key k d ms (λ same. false≢true (sym e ∙ (bytes_eq-Decides key k).1 same))

get_part : (key k : List ℕ) (o : Option Data) (ms : Members) → get_member key (with_part k o ms) ≡ cond (bytes_eq key k) (first_some o (get_member key ms)) (get_member key ms)
get_part key k None ms = cond_same (bytes_eq key k) (get_member key ms)
get_part key k (Some d) ms = get_by key k d ms (bytes_eq key k) refl

regroup : (later : Option Data) (b : Bool) (o before : Option Data) → first_some later (cond b (first_some o before) before) ≡ first_some (cond b (first_some later o) later) before
regroup None true o before = refl
regroup None false o before = refl
regroup (Some d) true o before = refl
regroup (Some d) false o before = refl

get_parts : (key : List ℕ) (ms : Members) (ps : List Part) → get_member key (with_parts ms ps) ≡ first_some (looked_up key ps) (get_member key ms)
get_parts key ms [] = refl
get_parts key ms (p ∷ ps) =
    get_parts key (with_part p.0 p.1 ms) ps
    ∙ ap (first_some (looked_up key ps)) (get_part key p.0 p.1 ms)
    ∙ regroup (looked_up key ps) (bytes_eq key p.0) p.1 (get_member key ms)

alone : (o : Option Data) → first_some o None ≡ o
alone None = refl
alone (Some d) = refl

pub part_written : (key : List ℕ) (ps : List Part) → part key (object_of ps) ≡ present (looked_up key ps)
unfolding part object_of
part_written key ps = ap present (get_parts key no_members ps ∙ alone (looked_up key ps))

pub part_is : (key : List ℕ) (ps : List Part) (o : Option Data) → looked_up key ps ≡ o → part key (object_of ps) ≡ present o
part_is key ps o is = part_written key ps ∙ ap present is

pub is_object : (ps : List Part) → is_some (as_object (object_of ps)) ≡ true
unfolding object_of
is_object ps = refl
