-- Services to which the same Nodes lend their ports.
use Rattle.std.proofs.Common.{◌≡◌, ℕ, ◌<◌, List, [], Some, get_or, refl, sym, ap, ◌∙◌}
use Rattle.std.specs.Prelude.{slice_get, option_map}
use Rattle.nml_elements.specs.declared.elements.Element.{Element}
use Rattle.circuit_spec.specs.Faults.{duplicate_ids}
use Rattle.circuit_spec.specs.Network.{Topology, Placed, Port, elements_of}
use Rattle.nml_inventory.specs.declared.arcs.Listing.TheVariants.{Inbound, Outbound}
use Rattle.nml_inventory.specs.declared.lent.Holding.TheVariants.{Lent}
use Rattle.nml_inventory.specs.Relations.{AreNumbersOf, IsTwin, is_inbound, is_outbound}
use Rattle.nml_inventory.specs.Tables.{held_by, lent_ports, lent_to}
use Rattle.nml_inventory.proofs.Answering.{inbound_lent, outbound_lent}
use Rattle.nml_inventory.proofs.Lending.{related}

module _ (T : Topology) (once : duplicate_ids T ≡ []) (n : ℕ) (e : Element) (at : option_map (λ (x : Placed). x.element) (slice_get (elements_of T) n) ≡ Some e) (lent : held_by e ≡ Lent) where
  inbound_by : (found : List ℕ) (rows : List (List ℕ)) → rows ≡ lent_ports T Inbound → found ≡ get_or rows n [] → AreNumbersOf T (is_inbound T) n found
  inbound_by found rows are read = related T (is_inbound T) (λ (x : Placed) (q : Port). lent_to T Inbound x.element q) n e e found rows at refl
      (λ x is j q q_at. ap (λ (y : Element). lent_to T Inbound y q) is ∙ inbound_lent T e j q once lent q_at) are read

  outbound_by : (found : List ℕ) (rows : List (List ℕ)) → rows ≡ lent_ports T Outbound → found ≡ get_or rows n [] → AreNumbersOf T (is_outbound T) n found
  outbound_by found rows are read = related T (is_outbound T) (λ (x : Placed) (q : Port). lent_to T Outbound x.element q) n e e found rows at refl
      (λ x is j q q_at. ap (λ (y : Element). lent_to T Outbound y q) is ∙ outbound_lent T e j q once lent q_at) are read

pub twins : (T : Topology) (n m : ℕ) (e f : Element) (inbound outbound : List (List ℕ)) → duplicate_ids T ≡ [] → m < n
    → option_map (λ (x : Placed). x.element) (slice_get (elements_of T) n) ≡ Some e → option_map (λ (x : Placed). x.element) (slice_get (elements_of T) m) ≡ Some f
    → held_by e ≡ Lent → held_by f ≡ Lent → inbound ≡ lent_ports T Inbound → outbound ≡ lent_ports T Outbound
    → get_or inbound m [] ≡ get_or inbound n [] → get_or outbound m [] ≡ get_or outbound n [] → IsTwin T n m
twins T n m e f inbound outbound once less e_at f_at e_lent f_lent inbound_are outbound_are same_in same_out = record {
  inbound = get_or inbound n [];
  outbound = get_or outbound n [];
  before = less;
  inbound_here = inbound_by T once n e e_at e_lent (get_or inbound n []) inbound inbound_are refl;
  inbound_there = inbound_by T once m f f_at f_lent (get_or inbound n []) inbound inbound_are (sym same_in);
  outbound_here = outbound_by T once n e e_at e_lent (get_or outbound n []) outbound outbound_are refl;
  outbound_there = outbound_by T once m f f_at f_lent (get_or outbound n []) outbound outbound_are (sym same_out);
}
