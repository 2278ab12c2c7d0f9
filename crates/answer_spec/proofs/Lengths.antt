-- Hops and their flags.
use Rattle.std.proofs.Common.{◌≡◌, refl, ap, ℕ, suc, List, [], ◌∷◌, length, Option}
use Rattle.circuit_spec.specs.declared.hops.Hop.{Hop}
use Rattle.answer_spec.specs.WellFormed.{AreHops}

pub same_length : (n : ℕ) (hs : List Hop) (flags : List (Option ℕ)) → AreHops n hs flags → length hs ≡ length flags
same_length n [] [] h = refl
same_length n [] (flag ∷ flags) h = absurd h
same_length n (x ∷ hs) [] h = absurd h
same_length n (x ∷ hs) (flag ∷ flags) h = ap suc (same_length (suc n) hs flags h.1)
