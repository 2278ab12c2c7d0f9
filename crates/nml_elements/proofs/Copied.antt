-- Equal lists, ports and links, as they are copied.
use Rattle.std.proofs.Common.{◌≡◌, ℕ, ◌+◌, ◌<◌, ◌≤◌, List, [], ◌∷◌, ◌++◌, IsTrue, Option, length, take, get_or, filter, refl, sym, ap, ◌∙◌, subst}
use Rattle.std.proofs.lemmas.List.{take_more, take_all}
use Rattle.std.proofs.lemmas.List.Elements.{filter-append}
use Rattle.nml_elements.specs.declared.elements.Labels.{Labels}
use Rattle.nml_elements.specs.declared.elements.PortE.{PortE}
use Rattle.nml_elements.specs.declared.elements.LinkE.{LinkE}
use Rattle.nml_elements.specs.declared.elements.Entry.{Entry}
use Rattle.nml_elements.specs.Labels.{fits_group}
use Rattle.nml_elements.specs.Lifetimes.{Interval}
use Rattle.nml_elements.specs.During.{stays}
use Rattle.nml_elements.proofs.Fitting.{fits_once}

pub copied_more : {A : Type 0} (copies items : List A) (i : ℕ) (copy item : A) → copies ≡ take i items → i < length items → item ≡ get_or items i item → copy ≡ item → copies ++ copy ∷ [] ≡ take (i + 1) items
copied_more copies items i copy item so_far h e same =
    ap (λ xs. xs ++ copy ∷ []) so_far ∙ ap (λ x. take i items ++ x ∷ []) (same ∙ e) ∙ sym (take_more items i item h)

pub copied_all : {A : Type 0} (copies items : List A) (i : ℕ) → copies ≡ take i items → length items ≤ i → copies ≡ items
copied_all copies items i so_far h = so_far ∙ take_all i items h

-- ---- those that stay

pub staying_more : (w : Interval) (entries : List Entry) (i : ℕ) (entry : Entry) (staying : List Entry) → staying ≡ filter (stays w) (take i entries) → i < length entries → entry ≡ get_or entries i entry
    → staying ++ filter (stays w) (entry ∷ []) ≡ filter (stays w) (take (i + 1) entries)
staying_more w entries i entry staying so_far h e =
    let next = take_more entries i entry h ∙ ap (λ x. take i entries ++ x ∷ []) (sym e) in
    ap (λ (xs : List Entry). xs ++ filter (stays w) (entry ∷ [])) so_far ∙ sym (filter-append (stays w) (take i entries) (entry ∷ [])) ∙ ap (filter (stays w)) (sym next)

pub staying_all : (w : Interval) (entries : List Entry) (i : ℕ) (staying : List Entry) → staying ≡ filter (stays w) (take i entries) → length entries ≤ i → staying ≡ filter (stays w) entries
staying_all w entries i staying so_far h = so_far ∙ ap (filter (stays w)) (take_all i entries h)

-- ---- what has labels that fit

abbrev port_with : (p : PortE) (labels : Labels) → IsTrue (fits_group p.group labels) → PortE
port_with p labels fits = record {
  id = p.id;
  group = p.group;
  encoding = p.encoding;
  labels = labels;
  sources = p.sources;
  sinks = p.sinks;
  services = p.services;
  aliases = p.aliases;
  labelled = fits;
}

pub same_port : (p : PortE) (labels : Labels) → labels ≡ p.labels → (fits : IsTrue (fits_group p.group labels)) → port_with p labels fits ≡ p
same_port p labels e =
    subst (λ (xs : Labels). (fits : IsTrue (fits_group p.group xs)) → port_with p xs fits ≡ p) (sym e)
    (λ fits. ap (port_with p p.labels) (fits_once p.group p.labels fits p.labelled))

abbrev port_of_parts : (p : PortE) → List ℕ → Option (List ℕ) → List (List ℕ) → List (List ℕ) → List (List ℕ) → List (List ℕ) → (labels : Labels) → IsTrue (fits_group p.group labels) → PortE
port_of_parts p id encoding sources sinks services aliases labels fits = record {
  id = id;
  group = p.group;
  encoding = encoding;
  labels = labels;
  sources = sources;
  sinks = sinks;
  services = services;
  aliases = aliases;
  labelled = fits;
}

pub same_parts : (p : PortE) (id : List ℕ) (encoding : Option (List ℕ)) (sources sinks services aliases : List (List ℕ)) (labels : Labels)
    → id ≡ p.id → encoding ≡ p.encoding → sources ≡ p.sources → sinks ≡ p.sinks → services ≡ p.services → aliases ≡ p.aliases → labels ≡ p.labels
    → (fits : IsTrue (fits_group p.group labels)) → port_of_parts p id encoding sources sinks services aliases labels fits ≡ p
same_parts p id encoding sources sinks services aliases labels e-id e-encoding e-sources e-sinks e-services e-aliases e-labels fits =
    ap (λ x. port_of_parts p x encoding sources sinks services aliases labels fits) e-id
    ∙ ap (λ x. port_of_parts p p.id x sources sinks services aliases labels fits) e-encoding
    ∙ ap (λ x. port_of_parts p p.id p.encoding x sinks services aliases labels fits) e-sources
    ∙ ap (λ x. port_of_parts p p.id p.encoding p.sources x services aliases labels fits) e-sinks
    ∙ ap (λ x. port_of_parts p p.id p.encoding p.sources p.sinks x aliases labels fits) e-services
    ∙ ap (λ x. port_of_parts p p.id p.encoding p.sources p.sinks p.services x labels fits) e-aliases
    ∙ same_port p labels e-labels fits

abbrev link_with : (l : LinkE) (labels : Labels) → IsTrue (fits_group l.group labels) → LinkE
link_with l labels fits = record { id = l.id; group = l.group; encoding = l.encoding; labels = labels; cost = l.cost; labelled = fits }

pub same_link : (l : LinkE) (labels : Labels) → labels ≡ l.labels → (fits : IsTrue (fits_group l.group labels)) → link_with l labels fits ≡ l
same_link l labels e =
    subst (λ (xs : Labels). (fits : IsTrue (fits_group l.group xs)) → link_with l xs fits ≡ l) (sym e)
    (λ fits. ap (link_with l l.labels) (fits_once l.group l.labels fits l.labelled))
