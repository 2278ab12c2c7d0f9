-- The faults of all elements, one by one.
use Rattle.std.proofs.Common.{◌≡◌, ℕ, ◌+◌, ◌<◌, ◌≤◌, List, [], ◌∷◌, ◌++◌, Bool, Option, None, Some, map, filter, take, drop, length, refl, sym, ◌∙◌, ap, subst}
use Rattle.std.specs.Prelude.{◌||◌, slice_get, option_map}
use Rattle.std.specs.List.{cons_option, filter_map, flat_map}
use Rattle.std.proofs.lemmas.List.{take_all, take-append-drop, drop_more}
use Rattle.std.proofs.lemmas.Option.{get_or_from_slice_get, slice_get_within}
use Rattle.ml_base.specs.declared.numbers.PortNo.{PortNo}
use Rattle.ml_base.proofs.Lists.{one_of_some, some_at}
use Rattle.nml_elements.specs.declared.elements.LinkE.{LinkE}
use Rattle.nml_elements.specs.declared.elements.SwitchE.{SwitchE}
use Rattle.nml_elements.specs.declared.elements.Element.{Element}
use Rattle.nml_elements.specs.declared.elements.Element.TheVariants as element
use Rattle.circuit_spec.specs.declared.faults.LayerFault.{LayerFault}
use Rattle.circuit_spec.specs.declared.faults.LayerFault.TheVariants.{LinkLayer, LinkLabelType, SwitchLayer, SwitchLabelType}
use Rattle.circuit_spec.specs.Network.{Name, Topology, Placed, Port, elements_of, label_type, names, ports}
use Rattle.circuit_spec.specs.Kept.{link_at}
use Rattle.circuit_spec.specs.Steps.{inbound_of, outbound_of}
use Rattle.circuit_spec.specs.Faults.{IsFirstOf, layer_faults, link_faults, switch_at, switch_faults}
use Rattle.nml_inventory.specs.Relations.{AreNumbersOf, numbers_where, is_source, is_sink, is_inbound, is_outbound}
use Rattle.nml_inventory.proofs.First.{flat_joined, flat_more}
use Rattle.layer_check.specs.Elements.{of_option}
use Rattle.layer_check.specs.Found.{IsFaultIn}
use Rattle.layer_check.specs.Related.{AreTogether}
use Rattle.layer_check.proofs.Answering.{unless_map}

flat_by : {A : Type 0} (f : A → List LayerFault) (o : Option A) (ys : List A) (rest : List LayerFault) → flat_map f ys ≡ rest → flat_map f (cons_option o ys) ≡ of_option f o ++ rest
flat_by f None ys rest e = e
flat_by f (Some y) ys rest e = ap (λ zs. f y ++ zs) e

-- the faults of what some items give
pub flat_given : {A B : Type 0} (h : B → Option A) (f : A → List LayerFault) (xs : List B) → flat_map f (filter_map h xs) ≡ flat_map (λ x. of_option f (h x)) xs
flat_given h f [] = refl
flat_given h f (x ∷ xs) = flat_by f (h x) (filter_map h xs) (flat_map (λ y. of_option f (h y)) xs) (flat_given h f xs)

first_ahead : (xs ys : List LayerFault) (f : LayerFault) → IsFaultIn xs f → IsFaultIn (xs ++ ys) f
first_ahead xs ys f fault = unless_map (IsFirstOf xs) (IsFirstOf (xs ++ ys)) f (λ g first. (first.0 ++ ys, ap (λ zs. zs ++ ys) first.1)) fault

-- the first fault of an item behind such without faults
pub flat_found : {A : Type 0} (f : A → List LayerFault) (xs : List A) (k : ℕ) (x : A) (fault : LayerFault) → slice_get xs k ≡ Some x → flat_map f (take k xs) ≡ [] → IsFaultIn (f x) fault → IsFaultIn (flat_map f xs) fault
flat_found {A} f xs k x fault at before first =
    let split : xs ≡ take k xs ++ x ∷ drop (k + 1) xs =
    sym (take-append-drop k xs) ∙ ap (λ ys. take k xs ++ ys) (drop_more xs k x (slice_get_within xs k x at))
    ∙ ap (λ (y : A). take k xs ++ y ∷ drop (k + 1) xs) (get_or_from_slice_get xs k x x at) in
    let all : flat_map f xs ≡ f x ++ flat_map f (drop (k + 1) xs) =
    ap (flat_map f) split ∙ flat_joined f (take k xs) (x ∷ drop (k + 1) xs) ∙ ap (λ zs. zs ++ (f x ++ flat_map f (drop (k + 1) xs))) before in
    subst (λ (zs : List LayerFault). IsFaultIn zs fault) (sym all) (first_ahead (f x) (flat_map f (drop (k + 1) xs)) fault first)

-- one more element
pub more_elements : (T : Topology) (f : Placed → List LayerFault) (k : ℕ) → k < length (elements_of T) → flat_map f (take k (elements_of T)) ≡ [] → of_option f (slice_get (elements_of T) k) ≡ [] → flat_map f (take (k + 1) (elements_of T)) ≡ []
more_elements T f k within before none =
    let x = some_at (elements_of T) k within in
    flat_more f (elements_of T) k x.0 x.1 before (sym (ap (of_option f) x.1) ∙ none)

pub found_element : {A : Type 0} (T : Topology) (h : Placed → Option A) (f : A → List LayerFault) (k : ℕ) (fault : LayerFault) → k < length (elements_of T) → flat_map (λ x. of_option f (h x)) (take k (elements_of T)) ≡ [] → IsFaultIn (of_option (λ x. of_option f (h x)) (slice_get (elements_of T) k)) fault → IsFaultIn (flat_map f (filter_map h (elements_of T))) fault
found_element T h f k fault within before found =
    let x = some_at (elements_of T) k within in
    subst (λ (fs : List LayerFault). IsFaultIn fs fault) (sym (flat_given h f (elements_of T)))
    (flat_found (λ y. of_option f (h y)) (elements_of T) k x.0 fault x.1 before
    (subst (λ (o : Option Placed). IsFaultIn (of_option (λ y. of_option f (h y)) o) fault) x.1 found))

pub no_element : {A : Type 0} (T : Topology) (h : Placed → Option A) (f : A → List LayerFault) (k : ℕ) → length (elements_of T) ≤ k → flat_map (λ x. of_option f (h x)) (take k (elements_of T)) ≡ [] → flat_map f (filter_map h (elements_of T)) ≡ []
no_element T h f k past none =
    flat_given h f (elements_of T) ∙ ap (flat_map (λ x. of_option f (h x))) (sym (take_all k (elements_of T) past)) ∙ none

-- The element of a number

pub link_is : (e : Element) (l : LinkE) → Some l ≡ link_at e → e ≡ element.Link l
link_is (element.Link x) l h = ap element.Link (one_of_some (sym h))
link_is (element.Node x) l h = cc
link_is (element.Port x) l h = cc
link_is (element.Switching x) l h = cc
link_is (element.Adaptation x) l h = cc
link_is (element.Deadaptation x) l h = cc
link_is (element.Conversion x) l h = cc

pub service_is : (e : Element) (s : SwitchE) → Some s ≡ switch_at e → e ≡ element.Switching s
service_is (element.Switching x) s h = ap element.Switching (one_of_some (sym h))
service_is (element.Node x) s h = cc
service_is (element.Port x) s h = cc
service_is (element.Link x) s h = cc
service_is (element.Adaptation x) s h = cc
service_is (element.Deadaptation x) s h = cc
service_is (element.Conversion x) s h = cc

placed_by : (o : Option Placed) (e : Element) → option_map (λ (p : Placed). p.element) o ≡ Some e → (x : Placed) × (o ≡ Some x) × (x.element ≡ e)
placed_by None e h = cc
placed_by (Some x) e h = (x, refl, one_of_some h)

-- the faults of the element of a number, by those of what it is
pub faults_there : {A : Type 0} (T : Topology) (h : Element → Option A) (f : A → List LayerFault) (number : ℕ) (e : Element) (o : Option A) → Some e ≡ option_map (λ (p : Placed). p.element) (slice_get (elements_of T) number) → o ≡ h e → of_option (λ (p : Placed). of_option f (h p.element)) (slice_get (elements_of T) number) ≡ of_option f o
faults_there T h f number e o at is =
    let x = placed_by (slice_get (elements_of T) number) e (sym at) in
    ap (of_option (λ (p : Placed). of_option f (h p.element))) x.1 ∙ ap (of_option f) (ap h x.2 ∙ sym is)

pub nothing_there : (T : Topology) (f : Placed → List LayerFault) (number : ℕ) → None ≡ option_map (λ (p : Placed). p.element) (slice_get (elements_of T) number) → of_option f (slice_get (elements_of T) number) ≡ []
nothing_there T f number h = by (slice_get (elements_of T) number) h
  where
    by : (o : Option Placed) → None ≡ option_map (λ (p : Placed). p.element) o → of_option f o ≡ []
    by None e = refl
    by (Some x) e = cc

-- the ports of the relations of an element
pub numbers_known : (T : Topology) (kind : Element → Port → Bool) (number : ℕ) (e : Element) (numbers : List PortNo) → option_map (λ (p : Placed). p.element) (slice_get (elements_of T) number) ≡ Some e → AreNumbersOf T kind number (map (λ (p : PortNo). p.0) numbers) → map (λ (p : PortNo). p.0) numbers ≡ numbers_where (kind e) (ports T)
numbers_known T kind number e numbers at are =
    let x = placed_by (slice_get (elements_of T) number) e at in
    one_of_some (sym are ∙ ap (option_map (λ (p : Placed). numbers_where (kind p.element) (ports T))) x.1) ∙ ap (λ (y : Element). numbers_where (kind y) (ports T)) x.2

pub link_together : (T : Topology) (number : ℕ) (l : LinkE) (sources sinks : List PortNo) → option_map (λ (p : Placed). p.element) (slice_get (elements_of T) number) ≡ Some (element.Link l) → AreNumbersOf T is_source number (map (λ (p : PortNo). p.0) sources) → AreNumbersOf T is_sink number (map (λ (p : PortNo). p.0) sinks) → AreTogether T (λ (p : Port). names p.sources l.id || names p.sinks l.id) sources sinks
link_together T number l sources sinks at a b = record {
  of_one = λ (p : Port). names p.sources l.id;
  of_other = λ (p : Port). names p.sinks l.id;
  ones = numbers_known T is_source number (element.Link l) sources at a;
  others = numbers_known T is_sink number (element.Link l) sinks at b;
  either = λ q. refl;
}

pub service_together : (T : Topology) (number : ℕ) (s : SwitchE) (inbound outbound : List PortNo) → option_map (λ (p : Placed). p.element) (slice_get (elements_of T) number) ≡ Some (element.Switching s) → AreNumbersOf T (is_inbound T) number (map (λ (p : PortNo). p.0) inbound) → AreNumbersOf T (is_outbound T) number (map (λ (p : PortNo). p.0) outbound) → AreTogether T (λ (p : Port). names (inbound_of T s) p.id || names (outbound_of T s) p.id) inbound outbound
service_together T number s inbound outbound at a b = record {
  of_one = λ (p : Port). names (inbound_of T s) p.id;
  of_other = λ (p : Port). names (outbound_of T s) p.id;
  ones = numbers_known T (is_inbound T) number (element.Switching s) inbound at a;
  others = numbers_known T (is_outbound T) number (element.Switching s) outbound at b;
  either = λ q. refl;
}

-- what is stated of a link, and of a service
pub link_stated : (T : Topology) (l : LinkE) (encoding labeltype : Option Name) → encoding ≡ l.encoding → labeltype ≡ label_type l.labels → layer_faults LinkLayer LinkLabelType l.id encoding (option_map Some labeltype) (filter (λ (p : Port). names p.sources l.id || names p.sinks l.id) (ports T)) ≡ link_faults T l
link_stated T l encoding labeltype e t =
    ap (λ (x : Option Name). layer_faults LinkLayer LinkLabelType l.id x (option_map Some labeltype) (filter (λ (p : Port). names p.sources l.id || names p.sinks l.id) (ports T))) e
    ∙ ap (λ (x : Option Name). layer_faults LinkLayer LinkLabelType l.id l.encoding (option_map Some x) (filter (λ (p : Port). names p.sources l.id || names p.sinks l.id) (ports T))) t

pub service_stated : (T : Topology) (s : SwitchE) (encoding : Option Name) → encoding ≡ s.encoding → layer_faults SwitchLayer SwitchLabelType s.id encoding None (filter (λ (p : Port). names (inbound_of T s) p.id || names (outbound_of T s) p.id) (ports T)) ≡ switch_faults T s
service_stated T s encoding e =
    ap (λ (x : Option Name). layer_faults SwitchLayer SwitchLabelType s.id x None (filter (λ (p : Port). names (inbound_of T s) p.id || names (outbound_of T s) p.id) (ports T))) e
