use Rattle.std.proofs.Common.{◌∙◌, List, ℕ, ap, subst, sym, length}
use Rattle.circuit_spec.specs.Network.{Placed, Port, elements_of, names, ports}
use Rattle.nml_inventory.specs.declared.arcs.Listing.TheVariants.{Inbound, Outbound}
use Rattle.nml_inventory.specs.Loans.{lent_by, shared}
use Rattle.nml_inventory.specs.Tables.{IsTable, in_element}
use Rattle.nml_inventory.proofs.Lending.{is_table, lent_are}
use Rattle.nml_inventory.proofs.relations.Relations.new.Goals as goal

pub lent_ports-requires-clause-listed : goal.lent_ports-requires-clause-listed
lent_ports-requires-clause-listed c =
    let T = c.args.numbered.now in
    subst (λ (t : List (List ℕ)). IsTable (length (elements_of T)) (length (ports T)) t) (sym c.in_ok-inbound.ensures)
    (is_table (λ (e : Placed) (q : Port). names (in_element Inbound e.element) q.id) (ports T) (elements_of T))

pub lent_ports-requires-2-clause-listed : goal.lent_ports-requires-2-clause-listed
lent_ports-requires-2-clause-listed c =
    let T = c.args.numbered.now in
    subst (λ (t : List (List ℕ)). IsTable (length (elements_of T)) (length (ports T)) t) (sym c.in_ok-outbound.ensures)
    (is_table (λ (e : Placed) (q : Port). names (in_element Outbound e.element) q.id) (ports T) (elements_of T))

pub returns : goal.returns
returns c =
    let T = c.args.numbered.now in
    let kinds = c.in_ok-loans.loans.kinds.keys in
    let rows = c.in_ok-loans.loans.rows.items in
    record {
      sources_are = c.in_ok-sources.ensures;
      sinks_are = c.in_ok-sinks.ensures;
      servers_are = c.in_ok-servers.ensures;
      clients_are = c.in_ok-clients.ensures;
      inbound_are = c.in_ok-inbound.ensures;
      outbound_are = c.in_ok-outbound.ensures;
      lent_inbound_are = c.in_ok-lent_inbound.ensures ∙ ap (λ t. shared (lent_by T t kinds) rows) c.in_ok-inbound.ensures ∙ lent_are T Inbound kinds rows c.in_ok-loans.ensures.places;
      lent_outbound_are = c.in_ok-lent_outbound.ensures ∙ ap (λ t. shared (lent_by T t kinds) rows) c.in_ok-outbound.ensures ∙ lent_are T Outbound kinds rows c.in_ok-loans.ensures.places;
    }
