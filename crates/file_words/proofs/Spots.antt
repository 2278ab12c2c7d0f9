-- Where the element of an id stands, by the number of the element.
use Rattle.std.proofs.Common.{◌≡◌, ◌∙◌, sym, ap, ℕ, List, Option, Some, None, slice_get, option_map}
use Rattle.std.specs.Prelude.{find, unwrap_or}
use Rattle.std.specs.Option.{option_and_then}
use Rattle.std.specs.Str.{bytes_eq}
use Rattle.circuit_spec.specs.declared.faults.Spot.{Spot}
use Rattle.circuit_spec.specs.Network.{Name, Topology, id_of}
use Rattle.circuit_spec.specs.Faults.{Located, located}
use Rattle.nml_inventory.specs.Numbers.{element_number, number_in}
use Rattle.nml_inventory.proofs.Names.{find_number}
use Rattle.nml_inventory.proofs.Stands.{ids_are}
use Rattle.file_words.specs.Lines.{spot_of}

abbrev id_at : Located → Name
id_at l = id_of l.element

abbrev nowhere : Spot
nowhere = record { file = 0; element = 0 }

found_at : (T : Topology) (id : Name) → find (λ (l : Located). bytes_eq (id_of l.element) id) (located T) ≡ option_and_then (λ n. slice_get (located T) n) (element_number T id)
found_at T id = find_number id_at (located T) id ∙ ap (λ (ids : List Name). option_and_then (λ n. slice_get (located T) n) (number_in ids id)) (sym (ids_are T))

pub spot_is : (T : Topology) (id : Name) (n : ℕ) (s : Spot) → Some n ≡ element_number T id → option_map (λ (l : Located). l.spot) (slice_get (located T) n) ≡ Some s → s ≡ spot_of T id
spot_is T id n s number spot =
    let found : find (λ (l : Located). bytes_eq (id_of l.element) id) (located T) ≡ slice_get (located T) n = found_at T id ∙ ap (option_and_then (λ k. slice_get (located T) k)) (sym number) in
    sym (ap (λ (o : Option Located). unwrap_or (option_map (λ (l : Located). l.spot) o) nowhere) found ∙ ap (λ (o : Option Spot). unwrap_or o nowhere) spot)

pub spot_nowhere : (T : Topology) (id : Name) → None ≡ element_number T id → nowhere ≡ spot_of T id
spot_nowhere T id none =
    sym (ap (λ (o : Option Located). unwrap_or (option_map (λ (l : Located). l.spot) o) nowhere) (found_at T id ∙ ap (option_and_then (λ k. slice_get (located T) k)) (sym none)))
