-- A flag for each place, and a place for each hop.
use Rattle.std.proofs.Common.{◌≡◌, suc, List, [], ◌∷◌, ◌++◌, length, refl, sym, ap}
use Rattle.circuit_spec.specs.declared.hops.Hop.{Hop}
use Rattle.circuit_spec.specs.declared.hops.PlaceName.{PlaceName}
use Rattle.circuit_spec.specs.Flags.{Enters, flags_after}
use Rattle.circuit_spec.specs.Network.{Topology}

pub length-flags_after : (before places : List PlaceName) → length (flags_after before places) ≡ length places
length-flags_after before [] = refl
length-flags_after before (p ∷ places) = ap suc (length-flags_after (before ++ p ∷ []) places)

pub length-enters : (T : Topology) (hops : List Hop) (places : List PlaceName) → Enters T hops places → length hops ≡ length places
length-enters T [] places e = sym (ap length e)
length-enters T (h ∷ hops) [] e = absurd e
length-enters T (h ∷ hops) (p ∷ places) e = ap suc (length-enters T hops places e.1)
