-- The ports and links of a generated network have no labels, no encoding of their own and no aliases, and nothing in it switches.
use Rattle.std.proofs.Common.{◌≡◌, ℕ, zero, suc, ◌+◌, List, [], ◌∷◌, Bool, true, None, codes, refl, sym, ◌∙◌, ap}
use Rattle.std.specs.List.{find, filter_map, flat_map, AllByRecursion}
use Rattle.std.specs.Str.{bytes_eq}
use Rattle.std.proofs.lemmas.Slice.Eq.{bytes_eq-Decides}
use Rattle.nml_elements.specs.declared.elements.Domain.{Domain}
use Rattle.nml_elements.specs.declared.elements.Labels.TheVariants.{Unlabelled}
use Rattle.nml_elements.specs.declared.elements.LinkE.{LinkE}
use Rattle.circuit_spec.specs.declared.faults.LayerFault.{LayerFault}
use Rattle.circuit_spec.specs.declared.faults.LayerFault.TheVariants.{LinkLayer, LinkLabelType}
use Rattle.circuit_spec.specs.Network.{Name, Topology, Placed, Port, Linked, elements_of, port_at, ports}
use Rattle.circuit_spec.specs.Kept.{link_at, links}
use Rattle.circuit_spec.specs.Faults.{ClassesFit, IsSound, has_other, first_other, layer_faults, link_faults, same_type, switch_at, switch_faults, type_of}
use Rattle.circuit_spec.proofs.Alone.{NoAliases}
use Rattle.topo_gen.specs.Tunnels.{port, link, adaptation, deadaptation, ground, tunnel, generated_domains}
use Rattle.topo_gen.proofs.Each.{MayBe, all_empty, all_filtered, all_some, all_weaker}
use Rattle.topo_gen.proofs.Places.{upper}

-- a port as it is read
pub record IsPlainPort (p : Port) : Type 0 where
  pub encoding : p.encoding ≡ codes "none"
  pub labels : type_of p ≡ None
  pub aliases : p.aliases ≡ []

pub record IsPlainLink (l : LinkE) : Type 0 where
  pub encoding : l.encoding ≡ None
  pub labels : l.labels ≡ Unlabelled

pub record IsPlain (p : Placed) : Type 0 where
  pub as_port : MayBe IsPlainPort (port_at p.domain p.element)
  pub as_link : MayBe IsPlainLink (link_at p.element)
  pub as_switch : switch_at p.element ≡ None

-- of each kind, in a domain without an encoding

plain_port : (d : Domain) (id : Name) (sources sinks services : List Name) → d.encoding ≡ None → IsPlain (record { domain = d; element = port id sources sinks services })
plain_port d id sources sinks services none = record { as_port = record { encoding = rw none refl; labels = refl; aliases = refl }; as_link = tt; as_switch = refl }

plain_link : (d : Domain) (id : Name) (cost : ℕ) → IsPlain (record { domain = d; element = link id cost })
plain_link d id cost = record { as_port = tt; as_link = record { encoding = refl; labels = refl }; as_switch = refl }

plain_adaptation : (d : Domain) (id function client : Name) → IsPlain (record { domain = d; element = adaptation id function client })
plain_adaptation d id function client = record { as_port = tt; as_link = tt; as_switch = refl }

plain_deadaptation : (d : Domain) (id function client : Name) → IsPlain (record { domain = d; element = deadaptation id function client })
plain_deadaptation d id function client = record { as_port = tt; as_link = tt; as_switch = refl }

abbrev ArePlain : Topology → Type 0
ArePlain T = AllByRecursion IsPlain (elements_of T)

upper_plain : (levels from count : ℕ) → ArePlain (upper levels from count)
unfolding tunnel
upper_plain levels from zero = tt
upper_plain levels from (suc count) =
    let d = tunnel levels from in (
      plain_port d _ _ _ _ refl,
      (
        plain_port d _ _ _ _ refl,
        (
          plain_port d _ _ _ _ refl,
          (plain_adaptation d _ _ _, (plain_adaptation d _ _ _, (plain_deadaptation d _ _ _, (plain_deadaptation d _ _ _, upper_plain levels (from + 1) count)))),
        ),
      ),
    )

all_plain : (levels : ℕ) → ArePlain (generated_domains levels)
unfolding ground
all_plain levels =
    let d = ground levels in (
      plain_port d _ _ _ _ refl,
      (
        plain_port d _ _ _ _ refl,
        (plain_link d _ _, (plain_link d _ _, (plain_link d _ _, (plain_link d _ _, (plain_link d _ _, (plain_link d _ _, (plain_link d _ _, (plain_link d _ _, upper_plain levels 1 levels)))))))),
      ),
    )

pub ports_plain : (levels : ℕ) → AllByRecursion IsPlainPort (ports (generated_domains levels))
ports_plain levels =
    let T = generated_domains levels in
    all_some IsPlainPort (λ (p : Placed). port_at p.domain p.element) (elements_of T)
    (all_weaker IsPlain (λ (p : Placed). MayBe IsPlainPort (port_at p.domain p.element)) (λ p plain. plain.as_port) (elements_of T) (all_plain levels))

links_plain : (levels : ℕ) → AllByRecursion IsPlainLink (links (generated_domains levels))
links_plain levels =
    let T = generated_domains levels in
    all_some IsPlainLink (λ (p : Placed). link_at p.element) (elements_of T)
    (all_weaker IsPlain (λ (p : Placed). MayBe IsPlainLink (link_at p.element)) (λ p plain. plain.as_link) (elements_of T) (all_plain levels))

no_switches : (ps : List Placed) → AllByRecursion IsPlain ps → filter_map (λ (p : Placed). switch_at p.element) ps ≡ []
no_switches [] all = refl
no_switches (p ∷ ps) all = rw all.0.as_switch (no_switches ps all.1)

pub no_aliases : (levels : ℕ) → NoAliases (ports (generated_domains levels))
no_aliases levels = all_weaker IsPlainPort (λ (p : Port). p.aliases ≡ []) (λ p plain. plain.aliases) (ports (generated_domains levels)) (ports_plain levels)

-- Layers

classes_fit : (T : Topology) → AllByRecursion IsPlainPort (ports T) → ClassesFit T
classes_fit T all =
    all_weaker IsPlainPort (λ p. AllByRecursion (λ q. Linked T p.id q.id → (q.encoding ≡ p.encoding) × (type_of q ≡ type_of p)) (ports T))
    (λ p plain. all_weaker IsPlainPort (λ q. Linked T p.id q.id → (q.encoding ≡ p.encoding) × (type_of q ≡ type_of p))
    (λ q other _. (other.encoding ∙ sym plain.encoding, other.labels ∙ sym plain.labels)) (ports T) all)
    (ports T) all

-- where a value is the same at all ports, none differs from the first
none_other : {A : Type 0} (same : A → A → Bool) (value : Port → A) (reference : A) (ps : List Port) → AllByRecursion (λ p. same (value p) reference ≡ true) ps → find (has_other same value reference) ps ≡ None
none_other same value reference [] all = refl
none_other same value reference (p ∷ ps) all = rw all.0 (none_other same value reference ps all.1)

first_encoding : (ps : List Port) → AllByRecursion IsPlainPort ps → first_other bytes_eq (λ (p : Port). p.encoding) None ps ≡ None
first_encoding [] all = refl
first_encoding (p ∷ ps) all =
    none_other bytes_eq (λ (q : Port). q.encoding) p.encoding (p ∷ ps)
    (all_weaker IsPlainPort (λ q. bytes_eq q.encoding p.encoding ≡ true) (λ q plain. (bytes_eq-Decides q.encoding p.encoding).1 (plain.encoding ∙ sym all.0.encoding)) (p ∷ ps) all)

first_type : (ps : List Port) → AllByRecursion IsPlainPort ps → first_other same_type type_of None ps ≡ None
first_type [] all = refl
first_type (p ∷ ps) all =
    none_other same_type type_of (type_of p) (p ∷ ps)
    (all_weaker IsPlainPort (λ q. same_type (type_of q) (type_of p) ≡ true) (λ q plain. rw (plain.labels, all.0.labels) refl) (p ∷ ps) all)

plain_layers : (layer label : Name → Name → LayerFault) (id : Name) (ps : List Port) → AllByRecursion IsPlainPort ps → layer_faults layer label id None None ps ≡ []
plain_layers layer label id ps all = rw (first_encoding ps all, first_type ps all) refl

plain_link_faults : (T : Topology) (l : LinkE) → AllByRecursion IsPlainPort (ports T) → IsPlainLink l → link_faults T l ≡ []
plain_link_faults T l all plain =
    rw (plain.encoding, plain.labels)
    (plain_layers LinkLayer LinkLabelType l.id _ (all_filtered IsPlainPort _ (ports T) all))

-- nothing is wrong with the layers
pub sound : (levels : ℕ) → IsSound (generated_domains levels)
sound levels =
    let T = generated_domains levels in
    let all = ports_plain levels in
    let of_links = all_empty (link_faults T) (links T) (all_weaker IsPlainLink (λ l. link_faults T l ≡ []) (λ l plain. plain_link_faults T l all plain) (links T) (links_plain levels)) in
    let of_switches = ap (λ ss. flat_map (switch_faults T) ss) (no_switches (elements_of T) (all_plain levels)) in
    record { classes = classes_fit T all; relating = rw (of_links, of_switches) refl }
