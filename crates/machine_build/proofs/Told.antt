-- The hop that is told of a step.
use Rattle.std.proofs.Common.{◌≡◌, ℕ, List, Some, sym, ◌∙◌, ap, subst}
use Rattle.std.specs.Prelude.{slice_get, option_map}
use Rattle.ml_base.proofs.Lists.{one_of_some, same_at}
use Rattle.nml_elements.specs.declared.elements.Element.{Element}
use Rattle.circuit_spec.specs.declared.hops.Hop.{Hop}
use Rattle.circuit_spec.specs.declared.hops.PlaceName.{PlaceName}
use Rattle.circuit_spec.specs.Network.{Topology, Placed, Port, elements_of, id_of, ports}
use Rattle.adapt_machine.specs.declared.MachineStep.{MachineStep}
use Rattle.machine_build.specs.declared.built.Site.{Site}
use Rattle.machine_build.specs.Built.{BuiltValue, IsHopAt, kind_of}

field_at : {A B : Type 0} (f : A → B) (xs : List A) (n : ℕ) (x : A) (y : B) → slice_get xs n ≡ Some x → option_map f (slice_get xs n) ≡ Some y → y ≡ f x
field_at f xs n x y at is = sym (one_of_some (sym (ap (option_map f) at) ∙ is))

module _ (T : Topology) (b : BuiltValue) (k : ℕ) (other : Hop) (hop : IsHopAt T b k other) (h : Hop) (step : MachineStep) (site : Site) (leaves enters : PlaceName) (e : Element)
    (step_at : slice_get b.machine.steps k ≡ Some step) (site_at : slice_get b.sites k ≡ Some site) (leaves_at : slice_get b.places step.from.0 ≡ Some leaves) (enters_at : slice_get b.places step.to.0 ≡ Some enters) where
  site_is : hop.site ≡ site
  site_is = same_at b.sites k hop.site site hop.site_at site_at

  element_at : slice_get (elements_of T) site.element ≡ Some hop.placed
  element_at = subst (λ (s : Site). slice_get (elements_of T) s.element ≡ Some hop.placed) site_is hop.element_at

  from_at : slice_get (ports T) site.from.0 ≡ Some hop.from
  from_at = subst (λ (s : Site). slice_get (ports T) s.from.0 ≡ Some hop.from) site_is hop.from_at

  to_at : slice_get (ports T) site.to.0 ≡ Some hop.to
  to_at = subst (λ (s : Site). slice_get (ports T) s.to.0 ≡ Some hop.to) site_is hop.to_at

  pub hop_told : option_map (λ (p : Placed). p.element) (slice_get (elements_of T) site.element) ≡ Some e → kind_of e ≡ Some h.kind → h.element ≡ id_of e
      → option_map (λ (p : Port). p.id) (slice_get (ports T) site.from.0) ≡ Some h.from → option_map (λ (p : Port). p.id) (slice_get (ports T) site.to.0) ≡ Some h.to
      → option_map (λ (p : Placed). p.domain.id) (slice_get (elements_of T) site.element) ≡ Some h.domain → h.from_label ≡ leaves.label → h.to_label ≡ enters.label → IsHopAt T b k h
  hop_told e_is kind_is id_is from_is to_is domain_is from_label_is to_label_is =
      let same : e ≡ hop.placed.element = field_at (λ (p : Placed). p.element) (elements_of T) site.element hop.placed e element_at e_is in
      record {
        step = step;
        site = site;
        placed = hop.placed;
        from = hop.from;
        to = hop.to;
        leaves = leaves;
        enters = enters;
        step_at = step_at;
        site_at = site_at;
        element_at = element_at;
        from_at = from_at;
        to_at = to_at;
        leaves_at = leaves_at;
        enters_at = enters_at;
        same_kind = ap kind_of (sym same) ∙ kind_is;
        same_element = id_is ∙ ap id_of same;
        same_from = field_at (λ (p : Port). p.id) (ports T) site.from.0 hop.from h.from from_at from_is;
        from_label = from_label_is;
        same_to = field_at (λ (p : Port). p.id) (ports T) site.to.0 hop.to h.to to_at to_is;
        to_label = to_label_is;
        same_domain = field_at (λ (p : Placed). p.domain.id) (elements_of T) site.element hop.placed h.domain element_at domain_is;
      }
