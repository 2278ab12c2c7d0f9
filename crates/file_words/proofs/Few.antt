-- How many elements the domains of files have.
use Rattle.std.proofs.Common.{◌≡◌, ◌∙◌, ap, ℕ, ◌+◌, ◌*◌, ◌≤◌, List, [], ◌∷◌, ◌++◌, length, arith, length-append, append-nil}
use Rattle.std.proofs.lemmas.List.{length-map}
use Rattle.std.proofs.lemmas.Grind.{flat_map-append}
use Rattle.nml_elements.specs.declared.elements.Domain.{Domain}
use Rattle.nml_elements.specs.declared.elements.Entry.{Entry}
use Rattle.circuit_spec.specs.Network.{Topology, Placed, placed_in, elements_of}

placed_in-long : (d : Domain) → length (placed_in d) ≡ length d.elements
placed_in-long d = length-map d.elements (λ (e : Entry). record { domain = d; element = e.element })

elements-snoc : (T : Topology) (d : Domain) → elements_of (T ++ d ∷ []) ≡ elements_of T ++ placed_in d
elements-snoc T d = flat_map-append placed_in T (d ∷ []) ∙ ap (λ (xs : List Placed). elements_of T ++ xs) (append-nil (placed_in d))

-- one more domain of so many elements at most
pub few-more : (T : Topology) (d : Domain) (i : ℕ) → length (elements_of T) ≤ 16777216 * i → length d.elements ≤ 16777216 → length (elements_of (T ++ d ∷ [])) ≤ 16777216 * (i + 1)
few-more T d i many more = omega (arith, ap length (elements-snoc T d), length-append (elements_of T) (placed_in d), placed_in-long d)
