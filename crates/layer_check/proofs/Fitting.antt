-- Classes whose ports fit, and the first that one does not fit.
use Rattle.std.proofs.Common.{◌≡◌, ◌≢◌, ℕ, zero, suc, ◌+◌, ◌<◌, ◌≤◌, ◌⊎◌, inl, inr, List, [], ◌∷◌, Bool, true, false, Option, None, Some, length, refl, sym, ◌∙◌, ap, subst, arith, min}
use Rattle.std.specs.Prelude.{slice_get, option_map}
use Rattle.std.specs.List.{AllByRecursion}
use Rattle.std.proofs.lemmas.Bool.{both_ways, eqb-true, eq-eqb, or_left, or_right, or_cases, or_parts}
use Rattle.std.proofs.lemmas.Option.{slice_get_within}
use Rattle.ml_base.specs.declared.numbers.PortNo.{PortNo}
use Rattle.ml_base.proofs.Lists.{one_of_some, all_from_places}
use Rattle.ml_base.proofs.Comparisons.{below_cases}
use Rattle.circuit_spec.specs.declared.faults.LayerFault.{LayerFault}
use Rattle.circuit_spec.specs.declared.faults.LayerFault.TheVariants.{AliasEncoding, AliasLabelType, LinkLayer, LinkLabelType, SwitchLayer, SwitchLabelType, NoMemory}
use Rattle.circuit_spec.specs.Network.{Name, Topology, Port, IsClass, Linked, ports}
use Rattle.circuit_spec.specs.Faults.{AliasFinds, ClassesFit, FirstFound, FirstMember, has_other, merge_faults, same_type, type_of}
use Rattle.circuit_spec.proofs.ClassLemmas.{First-at, class_of_linked}
use Rattle.nml_inventory.specs.Aliases.{IsClassNumber}
use Rattle.std.specs.Str.{bytes_eq}
use Rattle.std.proofs.Math.Dec.{eqb}
use Rattle.layer_check.specs.Comparing.{other_encoding, other_type, passes_at}
use Rattle.layer_check.specs.Classes.{is_other, IsFit, IsUnfit, IsUnfitClass, IsLeastUnfit, IsMemberThat, IsFirstMember}
use Rattle.layer_check.specs.Places.{lesser_of, number_of}
use Rattle.layer_check.specs.Found.{UnlessNoMemory, IsClassFault, IsAliasFault, IsNamed}
use Rattle.layer_check.proofs.Answering.{unless, unless_map}
use Rattle.layer_check.proofs.Once.{class_once, class_leads, linked_member, member_linked, first_stands}
use Rattle.layer_check.proofs.Tests.{differing_encodings, differing_types, encoding_other, encoding_same, type_fits, type_other, is_false, passes_there}

-- a port that fits its class fits each
fit_unfit : (T : Topology) (n c : ℕ) → merge_faults T ≡ [] → IsFit T n → IsUnfit T n c → ⊥
fit_unfit T n c merged fit unfit =
    let same : fit.class_number ≡ c = class_once T n fit.class_number c merged fit.member unfit.member in
    let port : fit.member.port ≡ unfit.member.port = one_of_some (sym fit.member.is_port ∙ unfit.member.is_port) in
    let first : fit.member.first ≡ unfit.member.first = one_of_some (sym fit.member.is_first ∙ ap (slice_get (ports T)) same ∙ unfit.member.is_first) in
    both_ways (is_other unfit.member.first unfit.member.port) (sym (ap (λ (f : Port). is_other f fit.member.port) first ∙ ap (is_other unfit.member.first) port) ∙ fit.fits) unfit.differs

unfit_once : (T : Topology) (n c d : ℕ) → merge_faults T ≡ [] → IsUnfit T n c → IsUnfit T n d → c ≡ d
unfit_once T n c d merged x y = class_once T n c d merged x.member y.member

number_is : (new : PortNo) (m : ℕ) → number_of (Some new) ≡ Some m → new.0 ≡ m
number_is new m e = one_of_some e

-- one more port
least_from : (T : Topology) (k : ℕ) (old here new : Option PortNo) → merge_faults T ≡ [] → IsLeastUnfit T k old → IsUnfitClass T k here → number_of new ≡ lesser_of (number_of old) (number_of here) → IsLeastUnfit T (k + 1) new
least_from T k None None None merged before fit e = λ n below. elim (below_cases n k below) [ inl less ↦ before n less | inr same ↦ subst (λ (m : ℕ). IsFit T m) (sym same) fit ]
least_from T k None None (Some c) merged before fit e = cc
least_from T k None (Some h) None merged before unfit e = cc
least_from T k None (Some h) (Some c) merged before unfit e =
    let same : c.0 ≡ h.0 = one_of_some e in (
      (k, subst (λ (m : ℕ). IsUnfit T k m) (sym same) unfit),
      λ n below d other. elim (below_cases n k below) [
        | inl less ↦ absurd (fit_unfit T n d merged (before n less) other)
        | inr at ↦ let one : h.0 ≡ d = unfit_once T k h.0 d merged unfit (subst (λ (m : ℕ). IsUnfit T m d) at other) in omega arith
      ],
    )
least_from T k (Some o) None None merged before fit e = cc
least_from T k (Some o) None (Some c) merged before fit e =
    let same : c.0 ≡ o.0 = one_of_some e in (
      (before.0.0, subst (λ (m : ℕ). IsUnfit T before.0.0 m) (sym same) before.0.1),
      λ n below d other. elim (below_cases n k below) [
        | inl less ↦ let l = before.1 n less d other in omega arith
        | inr at ↦ absurd (fit_unfit T k d merged fit (subst (λ (m : ℕ). IsUnfit T m d) at other))
      ],
    )
least_from T k (Some o) (Some h) None merged before unfit e = cc
least_from T k (Some o) (Some h) (Some c) merged before unfit e =
    let same : c.0 ≡ min o.0 h.0 = one_of_some e in
    let which : (c.0 ≡ o.0) ⊎ (c.0 ≡ h.0) = grind arith in (
      elim which [
        | inl x ↦ (before.0.0, subst (λ (m : ℕ). IsUnfit T before.0.0 m) (sym x) before.0.1)
        | inr x ↦ (k, subst (λ (m : ℕ). IsUnfit T k m) (sym x) unfit)
      ],
      λ n below d other. elim (below_cases n k below) [
        | inl less ↦ let l = before.1 n less d other in omega arith
        | inr at ↦ let one : h.0 ≡ d = unfit_once T k h.0 d merged unfit (subst (λ (m : ℕ). IsUnfit T m d) at other) in omega arith
      ],
    )

pub least_more : (T : Topology) (k : ℕ) (old here new : Option PortNo) → merge_faults T ≡ [] → IsLeastUnfit T k old → IsUnfitClass T k here → number_of new ≡ lesser_of (number_of old) (number_of here) → IsLeastUnfit T (k + 1) new
least_more T k old here new merged before at e = least_from T k old here new merged before at e

-- Whole classes

fits_first : (T : Topology) (n : ℕ) (p : Port) (fit : IsFit T n) → slice_get (ports T) n ≡ Some p → (p.encoding ≡ fit.member.first.encoding) × (type_of p ≡ type_of fit.member.first)
fits_first T n p fit at =
    let same : fit.member.port ≡ p = one_of_some (sym fit.member.is_port ∙ at) in
    let parts = or_parts (other_encoding fit.member.first fit.member.port) (other_type fit.member.first fit.member.port) fit.fits in (
      ap (λ (x : Port). x.encoding) (sym same) ∙ encoding_same fit.member.first fit.member.port parts.0,
      ap type_of (sym same) ∙ type_fits fit.member.first fit.member.port parts.1,
    )

-- the first port of the class of a linked port is the same
linked_first : (T : Topology) (i j : ℕ) (p q : Port) (x : IsFit T i) (y : IsFit T j) → merge_faults T ≡ [] → slice_get (ports T) i ≡ Some p → slice_get (ports T) j ≡ Some q → Linked T p.id q.id → x.member.first ≡ y.member.first
linked_first T i j p q x y merged at_i at_j linked =
    let port_i : x.member.port ≡ p = one_of_some (sym x.member.is_port ∙ at_i) in
    let is_class : IsClass T q.id x.member.first = class_of_linked T p.id q.id x.member.first linked (subst (λ (z : Port). IsClass T z.id x.member.first) port_i x.member.is_class) in
    let m : IsClassNumber T j x.class_number = record { port = q; first = x.member.first; is_port = at_j; is_first = x.member.is_first; is_class = is_class } in
    let same = class_once T j x.class_number y.class_number merged m y.member in
    one_of_some (sym x.member.is_first ∙ ap (slice_get (ports T)) same ∙ y.member.is_first)

pub classes_fit : (T : Topology) → merge_faults T ≡ [] → ((n : ℕ) → n < length (ports T) → IsFit T n) → ClassesFit T
classes_fit T merged fit =
    all_from_places _ (ports T) (λ i p at_i. all_from_places _ (ports T) (λ j q at_j linked.
    let x = fit i (slice_get_within (ports T) i p at_i) in
    let y = fit j (slice_get_within (ports T) j q at_j) in
    let same = linked_first T i j p q x y merged at_i at_j linked in
    let of_p = fits_first T i p x at_i in
    let of_q = fits_first T j q y at_j in
    (of_q.0 ∙ ap (λ (z : Port). z.encoding) (sym same) ∙ sym of_p.0, of_q.1 ∙ ap type_of (sym same) ∙ sym of_p.1)))

-- what is found of a class is found of a port that does not fit it
unfit_by : (T : Topology) (j : ℕ) (y : Port) (P : Port → Type 0) (q : Port) → slice_get (ports T) j ≡ Some y → IsClass T y.id y → ((z : Port) → P z → is_other y z ≡ true) → FirstMember T y P q → (n : ℕ) × IsUnfit T n j
unfit_by T j y P q at leads other first =
    let s = first_stands (λ z. Linked T y.id z.id × P z) (ports T) q first in
    let own : IsClassNumber T j j = record { port = y; first = y; is_port = at; is_first = at; is_class = leads } in
    let w = linked_member T s.0 j q own s.1 s.2.0 in
    let port : w.port ≡ q = one_of_some (sym w.is_port ∙ s.1) in
    let lead : w.first ≡ y = one_of_some (sym w.is_first ∙ at) in
    (s.0, record { member = w; differs = ap (λ (x : Port). is_other x w.port) lead ∙ ap (is_other y) port ∙ other q s.2.1 })

finds_unfit : (T : Topology) (j : ℕ) (y : Port) (g : LayerFault) → slice_get (ports T) j ≡ Some y → AliasFinds T y g → (n : ℕ) × IsUnfit T n j
finds_unfit T j y (AliasEncoding a b) at x =
    unfit_by T j y (λ q. q.encoding ≢ y.encoding) x.2.0 at x.0 (λ z e. or_left (other_encoding y z) (other_type y z) (differing_encodings y z e)) x.2.1
finds_unfit T j y (AliasLabelType a b) at x =
    unfit_by T j y (λ q. type_of q ≢ type_of y) x.3.0 at x.0 (λ z e. or_right (other_encoding y z) (other_type y z) (differing_types y z e)) x.3.1
finds_unfit T j y (LinkLayer a b) at x = absurd x
finds_unfit T j y (LinkLabelType a b) at x = absurd x
finds_unfit T j y (SwitchLayer a b) at x = absurd x
finds_unfit T j y (SwitchLabelType a b) at x = absurd x
finds_unfit T j y NoMemory at x = absurd x

-- the fault of an item is the first, where no item before has one
found_at : {A F : Type 0} (finds : A → F → Type 0) (xs : List A) (k : ℕ) (x : A) (f : F) → slice_get xs k ≡ Some x → finds x f → ((j : ℕ) (y : A) → j < k → slice_get xs j ≡ Some y → (g : F) → ¬ finds y g) → FirstFound finds xs f
found_at finds [] k x f at here before = cc
found_at {A} {F} finds (y ∷ ys) zero x f at here before = inl (subst (λ (z : A). finds z f) (one_of_some (sym at)) here)
found_at finds (y ∷ ys) (suc k) x f at here before =
    inr (before 0 y (omega arith) refl, found_at finds ys k x f at here (λ j z less there. before (suc j) z (omega (arith, less)) there))

-- the fault of the least class that does not fit
pub least_class_fault : (T : Topology) (c : PortNo) (f : LayerFault) → merge_faults T ≡ [] → IsLeastUnfit T (length (ports T)) (Some c) → IsClassFault T c.0 f → IsAliasFault T f
least_class_fault T c f merged least fault =
    let m = least.0.1.member in
    unless_map (AliasFinds T m.first) (λ g. FirstFound (AliasFinds T) (ports T) g) f
    (λ g here. found_at (AliasFinds T) (ports T) c.0 m.first g m.is_first here (λ j y less at other finds.
    let u = finds_unfit T j y other at finds in
    let w = slice_get_within (ports T) u.0 u.1.member.port u.1.member.is_port in
    let l = least.1 u.0 w j u.1 in
    omega (arith, l, less)))
    (fault m.first m.is_first)

-- the class that some port does not fit names itself
pub unfit_leads : (T : Topology) (c : PortNo) (k : ℕ) → IsLeastUnfit T k (Some c) → IsClassNumber T c.0 c.0
unfit_leads T c k least = class_leads T least.0.0 c.0 least.0.1.member

-- One class

-- the test of the one function is that of the other
pub member_as : (T : Topology) (s t : Port → Bool) (class : ℕ) (o : Option PortNo) → ((q : Port) → s q ≡ t q) → IsFirstMember T s class o → IsFirstMember T t class o
member_as T s t class None same none = λ n m. none n (record { member = m.member; passes = same m.member.port ∙ m.passes })
member_as T s t class (Some k) same first = (
  record { member = first.0.member; passes = sym (same first.0.member.port) ∙ first.0.passes },
  λ n less m. first.1 n less (record { member = m.member; passes = same m.member.port ∙ m.passes }),
)

-- the first port of a class that passes a test
first_member : (T : Topology) (p : Port) (test : Port → Bool) (P : Port → Type 0) (class : ℕ) (k : PortNo) → IsClassNumber T class class → slice_get (ports T) class ≡ Some p → ((q : Port) → test q ≡ true → P q) → ((q : Port) → P q → test q ≡ true) → IsFirstMember T test class (Some k) → (q : Port) × FirstMember T p P q × (slice_get (ports T) k.0 ≡ Some q)
first_member T p test P class k leads at to back first =
    let m = first.0.member in
    let same : m.first ≡ p = one_of_some (sym m.is_first ∙ at) in
    let lead : leads.first ≡ p = one_of_some (sym leads.is_first ∙ at) in
    let linked : Linked T p.id m.port.id = subst (λ (x : Port). Linked T x.id m.port.id) same (member_linked T k.0 class m) in (
      m.port,
      First-at (λ q. Linked T p.id q.id × P q) (ports T) k.0 m.port m.is_port (linked, to m.port first.0.passes)
          (λ j y less there other.
          let l : Linked T leads.first.id y.id = subst (λ (x : Port). Linked T x.id y.id) (sym lead) other.0 in
          let w = linked_member T j class y leads there l in
          first.1 j less (record { member = w; passes = ap test (one_of_some (sym w.is_port ∙ there)) ∙ back y other.1 })),
      m.is_port,
    )

named_by : (make : Name → Name → LayerFault) (P : LayerFault → Type 0) (a b : Name) (f : LayerFault) → IsNamed make a b f → P (make a b) → ((g : LayerFault) → P g → UnlessNoMemory P g) → UnlessNoMemory P f
named_by make P a b f (inl none) here to = subst (UnlessNoMemory P) (sym none) tt
named_by make P a b f (inr is) here to = subst (UnlessNoMemory P) (sym is) (to (make a b) here)

-- the id of the port of a number
id_at : (T : Topology) (n : ℕ) (p : Port) (id : Name) → slice_get (ports T) n ≡ Some p → option_map (λ (q : Port). q.id) (slice_get (ports T) n) ≡ Some id → id ≡ p.id
id_at T n p id at named = one_of_some (sym named ∙ ap (option_map (λ (q : Port). q.id)) at)

-- the class's own port is its first
leads_itself : (T : Topology) (class : ℕ) (p : Port) → IsClassNumber T class class → slice_get (ports T) class ≡ Some p → IsClass T p.id p
leads_itself T class p leads at =
    let port : leads.port ≡ p = one_of_some (sym leads.is_port ∙ at) in
    let first : leads.first ≡ p = one_of_some (sym leads.is_first ∙ at) in
    subst (λ (x : Port). IsClass T x.id p) port (subst (λ (x : Port). IsClass T leads.port.id x) first leads.is_class)

pub encoding_fault : (T : Topology) (class : ℕ) (k : PortNo) (first : Port) (a b : Name) (f : LayerFault) → IsClassNumber T class class → slice_get (ports T) class ≡ Some first → IsFirstMember T (other_encoding first) class (Some k) → option_map (λ (q : Port). q.id) (slice_get (ports T) class) ≡ Some a → option_map (λ (q : Port). q.id) (slice_get (ports T) k.0) ≡ Some b → IsNamed AliasEncoding a b f → IsClassFault T class f
encoding_fault T class k first a b f leads at_first found named_a named_b names p at =
    let same : first ≡ p = one_of_some (sym at_first ∙ at) in
    let there = subst (λ (x : Port). IsFirstMember T (other_encoding x) class (Some k)) same found in
    let m = first_member T p (other_encoding p) (λ q. q.encoding ≢ p.encoding) class k leads at (λ q h. encoding_other p q h) (λ q h. differing_encodings p q h) there in
    named_by AliasEncoding (AliasFinds T p) a b f names
    (leads_itself T class p leads at, id_at T class p a at named_a, (m.0, m.1, id_at T k.0 m.0 b m.2 named_b))
    (unless (AliasFinds T p))

none_differs : (T : Topology) (class : ℕ) (p : Port) → IsClassNumber T class class → slice_get (ports T) class ≡ Some p → IsFirstMember T (other_encoding p) class None → AllByRecursion (λ q. Linked T p.id q.id → q.encoding ≡ p.encoding) (ports T)
none_differs T class p leads at none =
    let lead : leads.first ≡ p = one_of_some (sym leads.is_first ∙ at) in
    all_from_places _ (ports T) (λ j q there linked.
    let l : Linked T leads.first.id q.id = subst (λ (x : Port). Linked T x.id q.id) (sym lead) linked in
    let w = linked_member T j class q leads there l in
    encoding_same p q (is_false (other_encoding p q) (λ h. none j (record { member = w; passes = ap (other_encoding p) (one_of_some (sym w.is_port ∙ there)) ∙ h }))))

pub type_fault : (T : Topology) (class : ℕ) (k : PortNo) (first : Port) (a b : Name) (f : LayerFault) → IsClassNumber T class class → slice_get (ports T) class ≡ Some first → IsFirstMember T (other_encoding first) class None → IsFirstMember T (other_type first) class (Some k) → option_map (λ (q : Port). q.id) (slice_get (ports T) class) ≡ Some a → option_map (λ (q : Port). q.id) (slice_get (ports T) k.0) ≡ Some b → IsNamed AliasLabelType a b f → IsClassFault T class f
type_fault T class k first a b f leads at_first alike found named_a named_b names p at =
    let same : first ≡ p = one_of_some (sym at_first ∙ at) in
    let there = subst (λ (x : Port). IsFirstMember T (other_type x) class (Some k)) same found in
    let none = subst (λ (x : Port). IsFirstMember T (other_encoding x) class None) same alike in
    let m = first_member T p (other_type p) (λ q. type_of q ≢ type_of p) class k leads at (λ q h. type_other p q h) (λ q h. differing_types p q h) there in
    named_by AliasLabelType (AliasFinds T p) a b f names
    (leads_itself T class p leads at, id_at T class p a at named_a, none_differs T class p leads at none, (m.0, m.1, id_at T k.0 m.0 b m.2 named_b))
    (unless (AliasFinds T p))

-- a class of which no port differs
pub none_unfit : (T : Topology) (class : ℕ) (first : Port) → slice_get (ports T) class ≡ Some first → IsFirstMember T (other_encoding first) class None → IsFirstMember T (other_type first) class None → (n : ℕ) → ¬ IsUnfit T n class
none_unfit T class first at encodings types n u =
    let same : u.member.first ≡ first = one_of_some (sym u.member.is_first ∙ at) in
    elim (or_cases (other_encoding u.member.first u.member.port) (other_type u.member.first u.member.port) u.differs) [
      | inl e ↦ encodings n (record { member = u.member; passes = ap (λ (x : Port). other_encoding x u.member.port) (sym same) ∙ e })
      | inr e ↦ types n (record { member = u.member; passes = ap (λ (x : Port). other_type x u.member.port) (sym same) ∙ e })
    ]

-- What the calls give

pub unfit_here : (T : Topology) (n c : ℕ) (r : Bool) → IsClassNumber T n c → ((p q : Port) → slice_get (ports T) c ≡ Some p → slice_get (ports T) n ≡ Some q → r ≡ is_other p q) → r ≡ true → IsUnfit T n c
unfit_here T n c r m is e = record { member = m; differs = sym (is m.first m.port m.is_first m.is_port) ∙ e }

pub fit_here : (T : Topology) (n c : ℕ) (r : Bool) → IsClassNumber T n c → ((p q : Port) → slice_get (ports T) c ≡ Some p → slice_get (ports T) n ≡ Some q → r ≡ is_other p q) → r ≡ false → IsFit T n
fit_here T n c r m is e = record { class_number = c; member = m; fits = sym (is m.first m.port m.is_first m.is_port) ∙ e }

pub member_iff : (T : Topology) (test : Port → Bool) (n : ℕ) (found wanted : ℕ) (r : Bool) → IsClassNumber T n found → eqb found wanted ≡ true → r ≡ passes_at T test n → (r ≡ true → IsMemberThat T test wanted n) × (IsMemberThat T test wanted n → r ≡ true)
member_iff T test n found wanted r m same is =
    let w : IsClassNumber T n wanted = subst (λ (x : ℕ). IsClassNumber T n x) (eqb-true found wanted same) m in (
      λ h. record { member = w; passes = sym (passes_there T test n w.port w.is_port) ∙ sym is ∙ h },
      λ x. is ∙ passes_there T test n x.member.port x.member.is_port ∙ x.passes,
    )

pub no_member : (T : Topology) (test : Port → Bool) (n found wanted : ℕ) (r : Bool) → merge_faults T ≡ [] → IsClassNumber T n found → r ≡ eqb found wanted → r ≡ false → (r ≡ true → IsMemberThat T test wanted n) × (IsMemberThat T test wanted n → r ≡ true)
no_member T test n found wanted r merged m is other = (
  λ h. absurd (both_ways r other h),
  λ x. is ∙ eq-eqb found wanted (class_once T n found wanted merged m x.member),
)

-- one more port that is no such member
pub none_more : (T : Topology) (test : Port → Bool) (class k : ℕ) (r : Bool) → ((n : ℕ) → n < k → ¬ IsMemberThat T test class n) → (IsMemberThat T test class k → r ≡ true) → r ≡ false → (n : ℕ) → n < k + 1 → ¬ IsMemberThat T test class n
none_more T test class k r before is other n below m = elim (below_cases n k below) [
  | inl less ↦ before n less m
  | inr at ↦ both_ways r other (is (subst (λ (x : ℕ). IsMemberThat T test class x) at m))
]

pub none_at_all : (T : Topology) (test : Port → Bool) (class k : ℕ) → length (ports T) ≤ k → ((n : ℕ) → n < k → ¬ IsMemberThat T test class n) → (n : ℕ) → ¬ IsMemberThat T test class n
none_at_all T test class k long none n m = let w = slice_get_within (ports T) n m.member.port m.member.is_port in none n (omega arith) m

pub class_within : (T : Topology) (n c : ℕ) → IsClassNumber T n c → c < length (ports T)
class_within T n c m = slice_get_within (ports T) c m.first m.is_first

pub member_within : (T : Topology) (test : Port → Bool) (class n : ℕ) → IsMemberThat T test class n → n < length (ports T)
member_within T test class n m = slice_get_within (ports T) n m.member.port m.member.is_port

-- compared with the encoding, or the label type, of the class's first port
pub by_encoding : (T : Topology) (class : ℕ) (first : Port) (e : Name) (o : Option PortNo) → slice_get (ports T) class ≡ Some first → option_map (λ (p : Port). p.encoding) (slice_get (ports T) class) ≡ Some e → IsFirstMember T (λ q. has_other bytes_eq (λ (p : Port). p.encoding) e q) class o → IsFirstMember T (other_encoding first) class o
by_encoding T class first e o at is found =
    let same : e ≡ first.encoding = one_of_some (sym is ∙ ap (option_map (λ (p : Port). p.encoding)) at) in
    member_as T (λ q. has_other bytes_eq (λ (p : Port). p.encoding) e q) (other_encoding first) class o (λ q. ap (λ (x : Name). has_other bytes_eq (λ (p : Port). p.encoding) x q) same) found

pub by_type : (T : Topology) (class : ℕ) (first : Port) (t : Option Name) (o : Option PortNo) → slice_get (ports T) class ≡ Some first → option_map type_of (slice_get (ports T) class) ≡ Some t → IsFirstMember T (λ q. has_other same_type type_of t q) class o → IsFirstMember T (other_type first) class o
by_type T class first t o at is found =
    let same : t ≡ type_of first = one_of_some (sym is ∙ ap (option_map type_of) at) in
    member_as T (λ q. has_other same_type type_of t q) (other_type first) class o (λ q. ap (λ (x : Option Name). has_other same_type type_of x q) same) found

-- a class of which no port differs is not one that some port does not fit
pub fits_after_all : (T : Topology) (c : PortNo) (k : ℕ) (A : Type 0) → IsLeastUnfit T k (Some c) → ((n : ℕ) → ¬ IsUnfit T n c.0) → A
fits_after_all T c k A least none = absurd (none least.0.0 least.0.1)
