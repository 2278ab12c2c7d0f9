-- What the labels of a port or a link are.
use Rattle.std.specs.Prelude.{ℕ, List, [], ◌∷◌, Bool, true, false, nat_eq}
use Rattle.nml_elements.specs.declared.elements.Labels.{Labels}
use Rattle.nml_elements.specs.declared.elements.Labels.TheVariants.{Unlabelled, Of}
use Rattle.label_sets.specs.Ranges.{has}

-- one label where it is no group, and at least one where it is
abbrev pub fits_set : Bool → List (ℕ × ℕ) → Bool
fits_set group [] = false
fits_set true (r ∷ rest) = true
fits_set false (r ∷ []) = nat_eq r.0 r.1
fits_set false (r ∷ s ∷ rest) = false

abbrev pub fits_group : Bool → Labels → Bool
fits_group group Unlabelled = true
fits_group group (Of labeltype set) = fits_set group set

-- whether the label is among them
abbrev pub is_among : Labels → ℕ → Bool
is_among Unlabelled label = false
is_among (Of labeltype set) label = has set label
