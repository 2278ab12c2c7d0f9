use Rattle.std.proofs.Common.{◌≡◌, ◌↔◌, true, refl, sym, subst, arith}
use Rattle.std.proofs.lemmas.Bool.Decides.{nat_tests}
use Rattle.std.specs.Prelude.{nat_eq}
use Rattle.ml_base.specs.declared.numbers.Wish.TheVariants.{Any, Value}
use Rattle.circuit_spec.specs.Faults.{IsHere}
use Rattle.hop_check.specs.Arriving.{ServesBoth}
use Rattle.hop_check.proofs.Arrived.{any_serves, from_serves, to_serves, stated_serves}
use Rattle.hop_check.proofs.arriving.serves_both.Goals as goal

pub returns-in-Any-Any : goal.returns-in-Any-Any
returns-in-Any-Any c port at first from to =
    let T = c.args.inventory.now in
    let b = c.has_some.result in
    let serves = any_serves T port c.labels_of.result.now b (c.labels_of.ensures c.requires.sound.classes port port at first) c.has_some.ensures in
    subst (λ w. (b ≡ true) ↔ ServesBoth T port w c.args.to) (sym c.in-Any-Any.is-0) (subst (λ w. (b ≡ true) ↔ ServesBoth T port Any w) (sym c.in-Any-Any.is-1) serves)

pub returns-in-Any-Value : goal.returns-in-Any-Value
returns-in-Any-Value c port at first from to =
    let T = c.args.inventory.now in
    let s = to_serves T port c.in-Any-Value.field-0-1 (subst (IsHere T port) c.in-Any-Value.is-1 to) in
    let moved = subst (λ w. ServesBoth T port w c.args.to) (sym c.in-Any-Value.is-0) (subst (λ w. ServesBoth T port Any w) (sym c.in-Any-Value.is-1) s) in
    (λ t. moved, λ _. refl)

pub returns-in-Value-Any : goal.returns-in-Value-Any
returns-in-Value-Any c port at first from to =
    let T = c.args.inventory.now in
    let n = c.in-Value-Any.field-0-0 in
    let s = from_serves T port n (subst (IsHere T port) c.in-Value-Any.is-0 from) in
    let moved = subst (λ w. ServesBoth T port w c.args.to) (sym c.in-Value-Any.is-0) (subst (λ w. ServesBoth T port (Value n) w) (sym c.in-Value-Any.is-1) s) in
    (λ t. moved, λ _. refl)

pub returns-in-Value-Value : goal.returns-in-Value-Value
returns-in-Value-Value c port at first from to =
    let T = c.args.inventory.now in
    let m = c.in-Value-Value.from in
    let n = c.in-Value-Value.to in
    let b = nat_eq m n in
    let serves = stated_serves T port m n b (subst (IsHere T port) c.in-Value-Value.is-0 from) (λ t. grind (arith, nat_tests, t), λ e. grind (arith, nat_tests, e)) in
    subst (λ w. (b ≡ true) ↔ ServesBoth T port w c.args.to) (sym c.in-Value-Value.is-0) (subst (λ w. (b ≡ true) ↔ ServesBoth T port (Value m) w) (sym c.in-Value-Value.is-1) serves)
