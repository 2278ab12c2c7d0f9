use Rattle.std.proofs.Common.{◌≡◌, ◌∙◌, ℕ, List, refl, sym, ap, subst}
use Rattle.std.specs.Prelude.{option_map, slice_get}
use Rattle.circuit_spec.specs.Network.{Placed, elements_of}
use Rattle.nml_elements.specs.declared.elements.Element.{Element}
use Rattle.nml_inventory.specs.declared.loans.Loan.{Loan}
use Rattle.nml_inventory.specs.Loans.{HasLoaned, loan_at}
use Rattle.nml_inventory.specs.Tables.{lending_nodes}
use Rattle.nml_inventory.proofs.EqualLoans.{one_more}
use Rattle.nml_inventory.proofs.Lending.{placed_of}
use Rattle.nml_inventory.proofs.loans.loans_of.Goals as goal

pub loop-number-preserved : goal.loop-number-preserved
loop-number-preserved c =
    let T = c.args.numbered.now in
    let n = c.loop-number.number in
    let e = placed_of T n c.at.result.now (slice_get (elements_of T) n) refl (ap (λ k. option_map (λ (y : Placed). y.element) (slice_get (elements_of T) k)) (sym c.from.ensures) ∙ c.at.ensures) in
    let is : c.in_ok-loan.loan ≡ loan_at (lending_nodes T) n e.0.element =
    c.in_ok-loan.ensures ∙ ap (λ (t : List (List ℕ)). loan_at t n c.at.result.now) c.requires ∙ ap (λ (x : Element). loan_at (lending_nodes T) n x) (sym e.2) in
    one_more T n e.0 c.loop-number.kinds.keys c.add_loan.new.kinds.keys c.loop-number.rows.items c.add_loan.new.rows.items e.1 c.loop-number.invariant
    (subst (λ (loan : Loan). HasLoaned c.loop-number.kinds.keys c.add_loan.new.kinds.keys c.loop-number.rows.items c.add_loan.new.rows.items loan) is c.in_ok-add_loan.ensures)
