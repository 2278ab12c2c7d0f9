use Rattle.std.proofs.Common.{◌≡◌, ◌∙◌, ◌<◌, ℕ, List, All, ap, length, map, subst, sym}
use Rattle.std.specs.Prelude.{IfOk}
use Rattle.std.specs.List.{range_with_len}
use Rattle.alias_merge.specs.Groups.{ComeFromBelow}
use Rattle.alias_merge.specs.Rising.{LeadBelow, rising_leads}
use Rattle.alias_merge.proofs.Sorting.{rising_long}
use Rattle.circuit_spec.specs.Network.{elements_of, ports}
use Rattle.nml_inventory.specs.declared.loans.Loan.{Loan}
use Rattle.nml_inventory.specs.Loans.{lent_arcs, lent_by, loans_from, shared}
use Rattle.nml_inventory.specs.Tables.{lending_nodes}
use Rattle.nml_inventory.proofs.Lending.{lent_from_below, lent_to_below, places_within}
use Rattle.nml_inventory.proofs.Tabling.{Arc}
use Rattle.nml_inventory.proofs.lent.lent_ports.Goals as goal

pub rising_groups-requires-clause-from : goal.rising_groups-requires-clause-from
rising_groups-requires-clause-from c =
    let T = c.args.numbered.now in
    let kinds = c.as_slice-kinds.result.now in
    let is : c.deref.result.now ≡ lent_arcs T c.args.listed.now kinds = c.deref.ensures.value ∙ c.in-Ok.ensures in
    subst (λ (cs : List Arc). ComeFromBelow (length kinds) cs) (sym is) (lent_from_below T kinds c.args.listed.now c.requires.listed)

pub rising_groups-requires-clause-to : goal.rising_groups-requires-clause-to
rising_groups-requires-clause-to c =
    let T = c.args.numbered.now in
    let kinds = c.as_slice-kinds.result.now in
    let is : c.deref.result.now ≡ lent_arcs T c.args.listed.now kinds = c.deref.ensures.value ∙ c.in-Ok.ensures in
    subst (λ (cs : List Arc). LeadBelow c.ports.result cs) (sym is)
    (subst (λ n. LeadBelow n (lent_arcs T c.args.listed.now kinds)) (sym c.ports.ensures) (lent_to_below T kinds c.args.listed.now c.requires.listed))

pub new-requires : goal.new-requires
new-requires c = ap length c.in_ok-groups-in-Ok.ensures ∙ rising_long c.ports.result c.deref.result.now (length c.as_slice-kinds.result.now)

pub new-requires-in-Ok : goal.new-requires-in-Ok
new-requires-in-Ok c =
    let T = c.args.numbered.now in
    let kinds = c.args.loans.now.kinds.keys in
    let rows = c.args.loans.now.rows.items in
    let long : length c.in_ok-lists-in-Ok.lists ≡ length kinds =
    ap length (c.in_ok-lists-in-Ok.ensures ∙ c.in_ok-groups-in-Ok.ensures) ∙ rising_long c.ports.result c.deref.result.now (length c.as_slice-kinds.result.now) ∙ ap (λ (ls : List Loan). length ls) c.as_slice-kinds.ensures.keys in
    subst (λ (ns : List ℕ). All (λ row. row < length c.in_ok-lists-in-Ok.lists) ns) (sym c.as_slice.ensures.value)
    (subst (λ n. All (λ row. row < n) rows) (sym long) (places_within kinds rows (loans_from (lending_nodes T) 0 (elements_of T)) c.requires.loans.places))

pub returns-in_ok-lists-in-Ok : goal.returns-in_ok-lists-in-Ok
returns-in_ok-lists-in-Ok c =
    let T = c.args.numbered.now in
    let listed = c.args.listed.now in
    let kinds = c.as_slice-kinds.result.now in
    let arcs : c.deref.result.now ≡ lent_arcs T listed kinds = c.deref.ensures.value ∙ c.in-Ok.ensures in
    let lists : c.in_ok-lists-in-Ok.lists ≡ lent_by T listed c.args.loans.now.kinds.keys =
    c.in_ok-lists-in-Ok.ensures ∙ c.in_ok-groups-in-Ok.ensures
    ∙ ap (λ n. map (rising_leads n c.deref.result.now) (range_with_len 0 (length kinds))) c.ports.ensures
    ∙ ap (λ (cs : List Arc). map (rising_leads (length (ports T)) cs) (range_with_len 0 (length kinds))) arcs
    ∙ ap (λ (ls : List Loan). lent_by T listed ls) c.as_slice-kinds.ensures.keys in
    subst (λ (t : List (List ℕ)). IfOk c.new-in-Ok.result (λ table. table ≡ t))
    (ap (λ (ns : List ℕ). shared c.in_ok-lists-in-Ok.lists ns) c.as_slice.ensures.value ∙ ap (λ (t : List (List ℕ)). shared t c.args.loans.now.rows.items) lists)
    c.new-in-Ok.ensures
