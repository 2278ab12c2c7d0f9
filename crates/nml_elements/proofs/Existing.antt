-- The test of lifetimes passes exactly what exists throughout the window.
use Rattle.std.proofs.Common.{◌≡◌, ℕ, ◌&&◌, true, leb, Option, Some, None, refl}
use Rattle.std.proofs.lemmas.Bool.{and_parts, and_from, le-leb, leb-true}
use Rattle.nml_elements.specs.Lifetimes.{Lifespan, Interval, IsUpTo, is_up_to, ExistsThroughout, exists_throughout}

up_to : (time : ℕ) (end : Option ℕ) → is_up_to time end ≡ true → IsUpTo time end
up_to time None h = tt
up_to time (Some end) h = leb-true time end h

up_to_test : (time : ℕ) (end : Option ℕ) → IsUpTo time end → is_up_to time end ≡ true
up_to_test time None h = refl
up_to_test time (Some end) h = le-leb time end h

pub test_exists : (window : Interval) (life : Option Lifespan) → exists_throughout window life ≡ true → ExistsThroughout window life
test_exists window None h = tt
test_exists window (Some life) h =
    let parts = and_parts (leb life.start window.from) (is_up_to window.to life.end) h in
    (leb-true life.start window.from parts.0, up_to window.to life.end parts.1)

pub exists_test : (window : Interval) (life : Option Lifespan) → ExistsThroughout window life → exists_throughout window life ≡ true
exists_test window None h = refl
exists_test window (Some life) h = and_from (leb life.start window.from) (is_up_to window.to life.end) (le-leb life.start window.from h.0) (up_to_test window.to life.end h.1)
