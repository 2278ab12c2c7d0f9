-- What is gathered of a label type tells labels apart just as the classes, the links and the request do.
use Rattle.std.proofs.Common.{◌≡◌, ◌↔◌, ℕ, inl, inr, List, [], ◌∷◌, Bool, true, false, Some, length, eqb, refl, sym, ◌∙◌, ap, arith}
use Rattle.std.specs.Prelude.{slice_get}
use Rattle.std.specs.Option.{option_and_then}
use Rattle.std.specs.List.{AllByRecursion}
use Rattle.std.proofs.lemmas.Bool.{eq-eqb, eqb-true}
use Rattle.std.proofs.lemmas.Option.{slice_get-get_or, slice_get_within}
use Rattle.ml_base.proofs.Lists.{kept_from, all_among, among_any, any_among}
use Rattle.label_sets.specs.Ranges.{has}
use Rattle.label_atoms.specs.Alike as atoms
use Rattle.label_atoms.specs.Alike.{AreTogether, in_some}
use Rattle.label_atoms.specs.Pieces.{IsAmong}
use Rattle.nml_elements.specs.declared.elements.LinkE.{LinkE}
use Rattle.nml_elements.specs.Labels.{is_among}
use Rattle.circuit_spec.specs.declared.hops.Request.{Request}
use Rattle.circuit_spec.specs.Network.{Name, Topology, Placed, Port, IsInClassSet, Linked, elements_of, ports}
use Rattle.circuit_spec.specs.Kept.{AreAlike, IsClassOfType, IsInSomeSet, IsKept, IsKeeper, IsLinkOfType, IsStated, link_at, links}
use Rattle.circuit_spec.proofs.Among.{first_stands}
use Rattle.kept_table.specs.declared.gathered.TypeTests.{TypeTests}
use Rattle.kept_table.specs.Gathering.{HasSet, IsGathered, IsSetOfType, sets_of, singles_of}

-- all is gathered
abbrev pub IsAll : Topology → Request → List TypeTests → Type 0
IsAll T r all = IsGathered T r (length (ports T)) (length (elements_of T)) 2 all

-- Lists

all_from : {A : Type 0} (P : A → Type 0) (xs : List A) → ((x : A) → IsAmong xs x → P x) → AllByRecursion P xs
all_from P [] h = tt
all_from P (x ∷ xs) h = (h x (inl refl), all_from P xs (λ y among. h y (inr among)))

-- The sets of classes and links

pub class_set : (T : Topology) (r : Request) (all : List TypeTests) (u : Name) (class : Port) → IsAll T r all → IsClassOfType T u class → HasSet all u (IsInClassSet T class)
class_set T r all u class g is =
    let at = first_stands (λ (q : Port). Linked T class.id q.id) (ports T) class is.first in
    g.class_sets at.0 class u (slice_get_within (ports T) at.0 class at.1) at.1 is.first is.typed

pub link_set : (T : Topology) (r : Request) (all : List TypeTests) (u : Name) (link : LinkE) → IsAll T r all → IsLinkOfType T u link → HasSet all u (λ m. is_among link.labels m ≡ true)
link_set T r all u link g is =
    let here : slice_get (links T) is.held.0 ≡ Some link = slice_get-get_or (links T) is.held.0 link is.held.1 ∙ ap Some is.held.2 in
    let at = kept_from (λ (p : Placed). link_at p.element) (elements_of T) is.held.0 link here in
    g.link_sets at.0 link u (slice_get_within (elements_of T) at.0 at.1 at.2) (ap (option_and_then (λ (p : Placed). link_at p.element)) at.2 ∙ at.3) is.typed

stated_single : (T : Topology) (r : Request) (all : List TypeTests) (u : Name) (n : ℕ) → IsAll T r all → IsStated T r u n → IsAmong (singles_of all u) n
stated_single T r all u n g (inl from) = g.from_single u n (omega arith) from
stated_single T r all u n g (inr to) = g.to_single u n (omega arith) to

-- A label in a set

pub some_to : (T : Topology) (r : Request) (all : List TypeTests) (u : Name) (n : ℕ) → IsAll T r all → in_some (sets_of all u) n ≡ true → IsInSomeSet T u n
some_to T r all u n g h = let s = among_any (λ set. has set n) (sets_of all u) h in by s.0 s.2 (g.only_sets u s.0 s.1)
  where
    by : (set : List (ℕ × ℕ)) → has set n ≡ true → IsSetOfType T u set → IsInSomeSet T u n
    by set here (inl (class, is, tells)) = inl (class, is, (tells n).0 here)
    by set here (inr (link, is, tells)) = inr (link, is, (tells n).0 here)

has_some : (all : List TypeTests) (u : Name) (P : ℕ → Type 0) (n : ℕ) → HasSet all u P → P n → in_some (sets_of all u) n ≡ true
has_some all u P n (set, among, tells) p = any_among (λ s. has s n) (sets_of all u) set among ((tells n).1 p)

pub some_from : (T : Topology) (r : Request) (all : List TypeTests) (u : Name) (n : ℕ) → IsAll T r all → IsInSomeSet T u n → in_some (sets_of all u) n ≡ true
some_from T r all u n g (inl (class, is, here)) = has_some all u (IsInClassSet T class) n (class_set T r all u class g is) here
some_from T r all u n g (inr (link, is, here)) = has_some all u (λ m. is_among link.labels m ≡ true) n (link_set T r all u link g is) here

-- Labels that are alike

same_in : (all : List TypeTests) (u : Name) (P : ℕ → Type 0) (m n : ℕ) → AreTogether (sets_of all u) m n → HasSet all u P → P m ↔ P n
same_in all u P m n together (set, among, tells) =
    let e : has set m ≡ has set n = all_among (λ (s : List (ℕ × ℕ)). has s m ≡ has s n) (sets_of all u) set together among in
    ((λ p. (tells n).0 (sym e ∙ (tells m).1 p)), (λ p. (tells m).0 (e ∙ (tells n).1 p)))

same_number : (m n k : ℕ) → eqb m k ≡ eqb n k → (m ≡ k) ↔ (n ≡ k)
same_number m n k e = ((λ h. eqb-true n k (sym e ∙ eq-eqb m k h)), (λ h. eqb-true m k (e ∙ eq-eqb n k h)))

pub alike_to : (T : Topology) (r : Request) (all : List TypeTests) (u : Name) (m n : ℕ) → IsAll T r all → atoms.AreAlike (sets_of all u) (singles_of all u) m n → AreAlike T r u m n
alike_to T r all u m n g a = record {
  classes = λ class is. same_in all u (IsInClassSet T class) m n a.together (class_set T r all u class g is);
  links = λ link is. same_in all u (λ k. is_among link.labels k ≡ true) m n a.together (link_set T r all u link g is);
  stated = λ k s. same_number m n k (all_among (λ (single : ℕ). eqb m single ≡ eqb n single) (singles_of all u) k a.stated (stated_single T r all u k g s));
}

both_true : (a b : Bool) → (a ≡ true) ↔ (b ≡ true) → a ≡ b
both_true true b h = sym (h.0 refl)
both_true false true h = h.1 refl
both_true false false h = refl

both_equal : (m n k : ℕ) → (m ≡ k) ↔ (n ≡ k) → eqb m k ≡ eqb n k
both_equal m n k h = both_true (eqb m k) (eqb n k) ((λ e. eq-eqb n k (h.0 (eqb-true m k e))), (λ e. eq-eqb m k (h.1 (eqb-true n k e))))

set_told : (set : List (ℕ × ℕ)) (P : ℕ → Type 0) (m n : ℕ) → ((k : ℕ) → (has set k ≡ true) ↔ P k) → P m ↔ P n → has set m ≡ has set n
set_told set P m n tells h = both_true (has set m) (has set n) ((λ e. (tells n).1 (h.0 ((tells m).0 e))), (λ e. (tells m).1 (h.1 ((tells n).0 e))))

pub alike_from : (T : Topology) (r : Request) (all : List TypeTests) (u : Name) (m n : ℕ) → IsAll T r all → AreAlike T r u m n → atoms.AreAlike (sets_of all u) (singles_of all u) m n
alike_from T r all u m n g a = record {
  together = all_from (λ (set : List (ℕ × ℕ)). has set m ≡ has set n) (sets_of all u) (λ set among. by set (g.only_sets u set among));
  stated = all_from (λ (single : ℕ). eqb m single ≡ eqb n single) (singles_of all u) (λ k among. both_equal m n k (a.stated k (g.only_singles u k among)));
} where
  by : (set : List (ℕ × ℕ)) → IsSetOfType T u set → has set m ≡ has set n
  by set (inl (class, is, tells)) = set_told set (IsInClassSet T class) m n tells (a.classes class is)
  by set (inr (link, is, tells)) = set_told set (λ k. is_among link.labels k ≡ true) m n tells (a.links link is)

-- Kept labels and keepers

pub kept_to : (T : Topology) (r : Request) (all : List TypeTests) (u : Name) (n : ℕ) → IsAll T r all → atoms.IsKept (sets_of all u) (singles_of all u) n → IsKept T r u n
kept_to T r all u n g k = record { meets = some_to T r all u n g k.meets; least = λ other a. k.least other (alike_from T r all u n other g a) }

pub kept_from_spec : (T : Topology) (r : Request) (all : List TypeTests) (u : Name) (n : ℕ) → IsAll T r all → IsKept T r u n → atoms.IsKept (sets_of all u) (singles_of all u) n
kept_from_spec T r all u n g k = record { meets = some_from T r all u n g k.meets; least = λ other a. k.least other (alike_to T r all u n other g a) }

pub keeper_to : (T : Topology) (r : Request) (all : List TypeTests) (u : Name) (n keeper : ℕ) → IsAll T r all → atoms.IsKeeper (sets_of all u) (singles_of all u) n keeper → IsKeeper T r u n keeper
keeper_to T r all u n keeper g k = record { kept = kept_to T r all u keeper g k.kept; alike = alike_to T r all u keeper n g k.alike }
