-- Labels that fit are told by their group and themselves, whatever shows that they fit.
use Rattle.std.proofs.Common.{◌≡◌, Bool, true, IsTrue, ap, subst}
use Rattle.std.proofs.Math.Bool.{Bool-set}
use Rattle.nml_elements.specs.declared.elements.Labels.{Labels}
use Rattle.nml_elements.specs.declared.fitted_labels.FittedLabels.{FittedLabels}
use Rattle.nml_elements.specs.Labels.{fits_group}

pub fits_once : (group : Bool) (labels : Labels) (a b : IsTrue (fits_group group labels)) → a ≡ b
fits_once group labels a b = Bool-set (fits_group group labels) true a b

pub fitted_by : (group : Bool) (xs ys : Labels) → xs ≡ ys → (a : IsTrue (fits_group group xs)) (b : IsTrue (fits_group group ys))
    → ◌≡◌ {A = FittedLabels} (record { group = group; labels = xs; labelled = a }) (record { group = group; labels = ys; labelled = b })
fitted_by group xs ys e a b =
    subst (λ (zs : Labels). (c : IsTrue (fits_group group zs)) → ◌≡◌ {A = FittedLabels} (record { group = group; labels = xs; labelled = a }) (record { group = group; labels = zs; labelled = c })) e
    (λ c. ap (λ (d : IsTrue (fits_group group xs)). record { group = group; labels = xs; labelled = d }) (fits_once group xs a c)) b
