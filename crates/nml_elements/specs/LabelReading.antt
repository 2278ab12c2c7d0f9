-- What labels a port or a link states, and that they fit it.
use Rattle.std.specs.Prelude.{ℕ, ◌^◌, List, [], ◌∷◌, Bool, true, false, codes, nat_lt, Option, Some, None, option_and_then, Result, Ok, Err, if◌then◌else◌, refl}
use Rattle.std.proofs.lemmas.Bool.{eq-eqb}
use Rattle.serde_json.specs.Data.{Data}
use Rattle.serde_json.specs.Find.{as_str}
use Rattle.label_sets.specs.GroupSet.{SomeRanges, all_of, group_of}
use Rattle.nml_elements.specs.declared.elements.Labels.TheVariants.{Unlabelled, Of}
use Rattle.nml_elements.specs.declared.fault.MemberFault.{MemberFault}
use Rattle.nml_elements.specs.declared.fault.MemberFault.TheVariants.{Rule, Label}
use Rattle.nml_elements.specs.declared.fitted_labels.FittedLabels.{FittedLabels}
use Rattle.nml_elements.specs.Gives.{◌>>=◌}
use Rattle.nml_elements.specs.MemberReading.{part, whole, required_id}

abbrev pub unlabelled : Bool → FittedLabels
unlabelled group = record { group = group; labels = Unlabelled; labelled = refl }

-- ---- one label

abbrev pub one_label : List ℕ → ℕ → FittedLabels
one_label labeltype label = record { group = false; labels = Of labeltype ((label, label) ∷ []); labelled = eq-eqb label label refl }

abbrev pub label_number : Option ℕ → Result ℕ MemberFault
label_number None = Err (Rule 13)
label_number (Some n) = if nat_lt n (2 ^ 32) then Ok n else Err (Rule 13)

abbrev pub value_part : Data → Option ℕ
value_part d = option_and_then whole (part (codes "value") d)

abbrev pub label_from : Option Data → Result FittedLabels MemberFault
label_from None = Ok (unlabelled false)
label_from (Some d) = do
  labeltype ← required_id 13 (codes "labeltype") d
  label ← label_number (value_part d)
  Ok (one_label labeltype label)

unfoldable pub label_at : Data → Result FittedLabels MemberFault
label_at d = label_from (part (codes "hasLabel") d)

-- ---- a group of labels

abbrev pub some_labels : List ℕ → SomeRanges → FittedLabels
some_labels labeltype set = record { group = true; labels = Of labeltype (all_of set); labelled = refl }

abbrev pub group_fault : Result SomeRanges ℕ → Result SomeRanges MemberFault
group_fault (Ok set) = Ok set
group_fault (Err at) = Err (Label at)

-- the set of a group text, or the place where the text is refused
unfoldable pub set_at : List ℕ → Result SomeRanges MemberFault
set_at text = group_fault (group_of text)

abbrev pub set_from : Option (List ℕ) → Result SomeRanges MemberFault
set_from None = Err (Rule 14)
set_from (Some text) = set_at text

abbrev pub values_part : Data → Option (List ℕ)
values_part d = option_and_then as_str (part (codes "values") d)

abbrev pub group_label_from : Option Data → Result FittedLabels MemberFault
group_label_from None = Ok (unlabelled true)
group_label_from (Some d) = do
  labeltype ← required_id 14 (codes "labeltype") d
  set ← set_from (values_part d)
  Ok (some_labels labeltype set)

unfoldable pub group_label_at : Data → Result FittedLabels MemberFault
group_label_at d = group_label_from (part (codes "hasLabelGroup") d)

unfoldable pub labels_at : Bool → Data → Result FittedLabels MemberFault
labels_at true d = group_label_at d
labels_at false d = label_at d
