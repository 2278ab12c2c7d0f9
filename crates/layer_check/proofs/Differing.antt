-- The faults of the ports of one element.
use Rattle.std.proofs.Common.{◌≡◌, ℕ, suc, ◌+◌, ◌<◌, inl, inr, List, [], ◌∷◌, Bool, true, false, cond, Option, None, Some, filter, length, refl, sym, ◌∙◌, ap, subst, arith}
use Rattle.std.specs.Prelude.{◌&&◌, slice_get, option_map, unwrap_or}
use Rattle.std.specs.Option.{option_and_then, option_copied}
use Rattle.std.specs.List.{cons_option, find}
use Rattle.std.specs.Str.{bytes_eq}
use Rattle.std.proofs.lemmas.Option.{slice_get_within}
use Rattle.ml_base.specs.declared.numbers.PortNo.{PortNo}
use Rattle.ml_base.proofs.Lists.{one_of_some}
use Rattle.circuit_spec.specs.declared.faults.LayerFault.{LayerFault}
use Rattle.circuit_spec.specs.Network.{Name, Topology, Port, ports}
use Rattle.circuit_spec.specs.Faults.{first_other, has_other, layer_faults, same_type, type_of, IsFirstOf}
use Rattle.layer_check.specs.declared.related.Related.{Related}
use Rattle.layer_check.specs.Found.{IsFaultIn, IsNamed, UnlessNoMemory, made_by}
use Rattle.layer_check.specs.Places.{first_place, number_of}
use Rattle.layer_check.specs.Related.{related_faults}
use Rattle.layer_check.proofs.Answering.{unless}
use Rattle.layer_check.proofs.FirstPlaces.{find_kept, place_finds}

none_by : {A : Type 0} (b : Bool) (x : A) (kept : List A) (p : Option ℕ) → (p ≡ None → kept ≡ []) → cond b (Some 0) (option_map (λ k. k + 1) p) ≡ None → cond b (x ∷ kept) kept ≡ []
none_by true x kept p later e = cc
none_by false x kept None later e = later refl
none_by false x kept (Some k) later e = cc

pub none_kept : {A : Type 0} (test : A → Bool) (xs : List A) → first_place test xs ≡ None → filter test xs ≡ []
none_kept test [] e = refl
none_kept test (x ∷ xs) e = none_by (test x) x (filter test xs) (first_place test xs) (none_kept test xs) e

-- the first of the items that are kept
record KeptHead {A : Type 0} (test : A → Bool) (xs : List A) (n : ℕ) : Type 0 where
  pub head : A
  pub rest : List A
  pub at : slice_get xs n ≡ Some head
  pub kept : filter test xs ≡ head ∷ rest

head_by : {A : Type 0} (test : A → Bool) (x : A) (xs : List A) (n : ℕ) (b : Bool) (p : Option ℕ) → test x ≡ b → ((m : ℕ) → p ≡ Some m → KeptHead test xs m) → cond b (Some 0) (option_map (λ k. k + 1) p) ≡ Some n → KeptHead test (x ∷ xs) n
head_by {A} test x xs n true p t later e =
    let z : 0 ≡ n = one_of_some e in
    record { head = x; rest = filter test xs; at = ap (slice_get (x ∷ xs)) (sym z); kept = ap (λ b. cond b (x ∷ filter test xs) (filter test xs)) t }
head_by test x xs n false None t later e = cc
head_by {A} test x xs n false (Some k) t later e =
    let z : k + 1 ≡ n = one_of_some e in
    let next : n ≡ suc k = omega arith in
    let h = later k refl in
    record { head = h.head; rest = h.rest; at = ap (slice_get (x ∷ xs)) next ∙ h.at; kept = ap (λ b. cond b (x ∷ filter test xs) (filter test xs)) t ∙ h.kept }

head_kept : {A : Type 0} (test : A → Bool) (xs : List A) (n : ℕ) → first_place test xs ≡ Some n → KeptHead test xs n
head_kept test [] n e = cc
head_kept test (x ∷ xs) n e = head_by test x xs n (test x) (first_place test xs) refl (head_kept test xs) e

-- the first port that differs from the reference, which is stated or that of the first port
pub other_found : {A : Type 0} (same : A → A → Bool) (value : Port → A) (stated : Option A) (test : Port → Bool) (ps : List Port) (n : ℕ) (own e : A) (r : Option PortNo) → first_place test ps ≡ Some n → option_map value (slice_get ps n) ≡ Some own → e ≡ unwrap_or stated own → number_of r ≡ first_place (λ x. test x && has_other same value e x) ps → first_other same value stated (filter test ps) ≡ option_and_then (λ k. slice_get ps k) (number_of r)
other_found {A} same value stated test ps n own e r first is reference found =
    let h = head_kept test ps n first in
    let head : own ≡ value h.head = one_of_some (sym is ∙ ap (option_map value) h.at) in
    let by : e ≡ unwrap_or stated (value h.head) = reference ∙ ap (λ x. unwrap_or stated x) head in
    ap (first_other same value stated) h.kept
    ∙ ap (λ x. find (has_other same value x) (h.head ∷ h.rest)) (sym by)
    ∙ ap (find (has_other same value e)) (sym h.kept)
    ∙ find_kept test (has_other same value e) ps
    ∙ place_finds (λ x. test x && has_other same value e x) ps
    ∙ ap (λ o. option_and_then (λ k. slice_get ps k) o) (sym found)

named_option : (o : Option Port) (make : Name → LayerFault) (name : Name) → option_map (λ (p : Port). p.id) o ≡ Some name → option_map (λ (p : Port). make p.id) o ≡ Some (make name)
named_option None make name e = cc
named_option (Some p) make name e = ap (λ (id : Name). Some (make id)) (one_of_some e)

-- the fault of a port that is found is the first
pub head_fault : (make : Name → Name → LayerFault) (id name : Name) (found o : Option Port) (rest : List LayerFault) (fault : LayerFault) → found ≡ o → option_map (λ (p : Port). p.id) o ≡ Some name → IsNamed make id name fault → IsFaultIn (cons_option (option_map (λ (p : Port). make id p.id) found) rest) fault
head_fault make id name found o rest fault is named (inl none) =
    subst (UnlessNoMemory (IsFirstOf (cons_option (option_map (λ (p : Port). make id p.id) found) rest))) (sym none) tt
head_fault make id name found o rest fault is named (inr made) =
    let faults : List LayerFault = cons_option (option_map (λ (p : Port). make id p.id) found) rest in
    let first : faults ≡ make id name ∷ rest = ap (λ x. cons_option x rest) (ap (option_map (λ (p : Port). make id p.id)) is ∙ named_option o (make id) name named) in
    subst (UnlessNoMemory (IsFirstOf faults)) (sym made) (unless (IsFirstOf faults) (make id name) (rest, first))

-- with no fault before it
pub next_fault : (before : Port → LayerFault) (none : Option Port) (faults : List LayerFault) (fault : LayerFault) → none ≡ None → IsFaultIn faults fault → IsFaultIn (cons_option (option_map before none) faults) fault
next_fault before none faults fault is found = subst (λ (o : Option Port). IsFaultIn (cons_option (option_map before o) faults) fault) (sym is) found

pub no_fault : (one other : Port → LayerFault) (x y : Option Port) → x ≡ None → y ≡ None → cons_option (option_map one x) (cons_option (option_map other y) []) ≡ []
no_fault one other x y ex ey = ap (λ o. cons_option (option_map one o) (cons_option (option_map other y) [])) ex ∙ ap (λ o. cons_option (option_map other o) []) ey

pub no_ports : (layer label : Name → Name → LayerFault) (id : Name) (encoding : Option Name) (labeltype : Option (Option Name)) (ps : List Port) → ps ≡ [] → layer_faults layer label id encoding labeltype ps ≡ []
no_ports layer label id encoding labeltype ps none = ap (layer_faults layer label id encoding labeltype) none

-- One element of a topology

abbrev pub encoding_found : Topology → Related → (Port → Bool) → Option Port
encoding_found T r test = first_other bytes_eq (λ (p : Port). p.encoding) (option_copied r.encoding) (filter test (ports T))

abbrev pub type_found : Topology → Related → (Port → Bool) → Option Port
type_found T r test = first_other same_type type_of (option_map Some (option_copied r.own_type)) (filter test (ports T))

pub encoding_is : (T : Topology) (r : Related) (test : Port → Bool) (first : PortNo) (own e : Name) (o : Option PortNo) → number_of (Some first) ≡ first_place test (ports T) → option_map (λ (p : Port). p.encoding) (slice_get (ports T) first.0) ≡ Some own → e ≡ unwrap_or (option_copied r.encoding) own → number_of o ≡ first_place (λ q. test q && has_other bytes_eq (λ (p : Port). p.encoding) e q) (ports T) → encoding_found T r test ≡ option_and_then (λ k. slice_get (ports T) k) (number_of o)
encoding_is T r test first own e o at is reference found =
    other_found bytes_eq (λ (p : Port). p.encoding) (option_copied r.encoding) test (ports T) first.0 own e o (sym at) is reference found

pub type_is : (T : Topology) (r : Related) (test : Port → Bool) (first : PortNo) (own t : Option Name) (o : Option PortNo) → number_of (Some first) ≡ first_place test (ports T) → option_map type_of (slice_get (ports T) first.0) ≡ Some own → t ≡ unwrap_or (option_map Some (option_copied r.own_type)) own → number_of o ≡ first_place (λ q. test q && has_other same_type type_of t q) (ports T) → type_found T r test ≡ option_and_then (λ k. slice_get (ports T) k) (number_of o)
type_is T r test first own t o at is reference found =
    other_found same_type type_of (option_map Some (option_copied r.own_type)) test (ports T) first.0 own t o (sym at) is reference found

pub encoding_faulty : (T : Topology) (r : Related) (test : Port → Bool) (port : PortNo) (name : Name) (fault : LayerFault) → encoding_found T r test ≡ slice_get (ports T) port.0 → option_map (λ (p : Port). p.id) (slice_get (ports T) port.0) ≡ Some name → IsNamed (made_by r.layer) r.id.now name fault → IsFaultIn (related_faults T r test) fault
encoding_faulty T r test port name fault is named made =
    head_fault (made_by r.layer) r.id.now name (encoding_found T r test) (slice_get (ports T) port.0) _ fault is named made

pub type_faulty : (T : Topology) (r : Related) (test : Port → Bool) (port : PortNo) (name : Name) (fault : LayerFault) → encoding_found T r test ≡ None → type_found T r test ≡ slice_get (ports T) port.0 → option_map (λ (p : Port). p.id) (slice_get (ports T) port.0) ≡ Some name → IsNamed (made_by r.label_type) r.id.now name fault → IsFaultIn (related_faults T r test) fault
type_faulty T r test port name fault none is named made =
    next_fault (λ (p : Port). made_by r.layer r.id.now p.id) (encoding_found T r test) _ fault none
    (head_fault (made_by r.label_type) r.id.now name (type_found T r test) (slice_get (ports T) port.0) [] fault is named made)

pub not_faulty : (T : Topology) (r : Related) (test : Port → Bool) → encoding_found T r test ≡ None → type_found T r test ≡ None → related_faults T r test ≡ []
not_faulty T r test x y = no_fault (λ (p : Port). made_by r.layer r.id.now p.id) (λ (p : Port). made_by r.label_type r.id.now p.id) (encoding_found T r test) (type_found T r test) x y

-- the first port has a number
pub first_within : (T : Topology) (test : Port → Bool) (first : PortNo) → number_of (Some first) ≡ first_place test (ports T) → first.0 < length (ports T)
first_within T test first at = let h = head_kept test (ports T) first.0 (sym at) in slice_get_within (ports T) first.0 h.head h.at
