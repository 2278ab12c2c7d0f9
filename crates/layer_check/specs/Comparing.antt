-- What ports are compared with.
use Rattle.std.specs.Prelude.{ℕ, Bool, false, Option, None, option_map, unwrap_or, slice_get}
use Rattle.std.specs.Option.{option_copied}
use Rattle.std.specs.Str.{bytes_eq}
use Rattle.nml_elements.specs.declared.elements.Element.{Element}
use Rattle.nml_elements.specs.declared.elements.Element.TheVariants as element
use Rattle.circuit_spec.specs.Network.{Name, Topology, Port, label_type, ports}
use Rattle.circuit_spec.specs.Faults.{has_other, same_type, type_of}
use Rattle.layer_check.specs.declared.comparing.Reference.{Reference}
use Rattle.layer_check.specs.declared.comparing.Reference.TheVariants.{Encoding, LabelType}

-- the port has another encoding, or another label type, than the reference
abbrev pub differs_from : Reference → Port → Bool
differs_from (Encoding encoding) q = has_other bytes_eq (λ (p : Port). p.encoding) encoding.now q
differs_from (LabelType labeltype) q = has_other same_type type_of (option_copied labeltype) q

-- the port of the number passes the test
abbrev pub passes_at : Topology → (Port → Bool) → ℕ → Bool
passes_at T test n = unwrap_or (option_map test (slice_get (ports T) n)) false

-- the second port has another encoding, or another label type, than the first
abbrev pub other_encoding : Port → Port → Bool
other_encoding first q = has_other bytes_eq (λ (p : Port). p.encoding) first.encoding q

abbrev pub other_type : Port → Port → Bool
other_type first q = has_other same_type type_of (type_of first) q

-- the label type of an element that is a port
abbrev pub element_type : Element → Option Name
element_type (element.Port p) = label_type p.labels
element_type (element.Node n) = None
element_type (element.Link l) = None
element_type (element.Switching s) = None
element_type (element.Adaptation a) = None
element_type (element.Deadaptation a) = None
element_type (element.Conversion c) = None
