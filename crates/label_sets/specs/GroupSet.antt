-- What a group text gives, as a function of the text.
use Rattle.std.specs.Prelude.{◌≡◌, ℕ, zero, suc, ◌+◌, List, [], ◌∷◌, length, take, min, max, nat_lt, Option, None, Some, Result, Ok, Err, if◌then◌else◌}
use Rattle.label_sets.specs.GroupText.{IsRefusedAt, IsSetOfText}
use Rattle.label_sets.specs.Reading.{fresh, range_of, run, accepts}

-- ranges of which there is at least one
pub record SomeRanges : Type 0 where
  pub first : ℕ × ℕ
  pub others : List (ℕ × ℕ)

abbrev pub all_of : SomeRanges → List (ℕ × ℕ)
all_of some = some.first ∷ some.others

-- the set with the labels of one more range, which takes in each range that it meets or is next to
unfoldable pub with_range : ℕ × ℕ → List (ℕ × ℕ) → SomeRanges
with_range r [] = record { first = r; others = [] }
with_range r (s ∷ rest) =
    if nat_lt (r.1 + 1) s.0 then record { first = r; others = s ∷ rest }
    else (if nat_lt (s.1 + 1) r.0 then record { first = s; others = all_of (with_range r rest) }
    else with_range (min r.0 s.0, max r.1 s.1) rest)

-- the set of the labels of these items
unfoldable pub set_of : List (ℕ × ℕ) → List (ℕ × ℕ)
set_of [] = []
set_of (r ∷ rest) = all_of (with_range r (set_of rest))

-- the length of the longest prefix, of at most this many bytes, that is a group text, or 0
unfoldable pub longest_within : ℕ → List ℕ → ℕ
longest_within zero text = 0
longest_within (suc k) text = if accepts (take (suc k) text) then suc k else longest_within k text

abbrev pub group_from : List ℕ → Option (ℕ × ℕ) → Result SomeRanges ℕ
group_from text None = Err (longest_within (length text) text)
group_from text (Some last) = Ok (with_range last (set_of (run fresh text).ranges))

-- the set of a group text, or where the text is refused
unfoldable pub group_of : List ℕ → Result SomeRanges ℕ
group_of text = group_from text (range_of (run fresh text).state)

-- the function gives a set exactly where the text spells it
pub record GivesSets : Type 0 where
  pub given : (text : List ℕ) (some : SomeRanges) → group_of text ≡ Ok some → IsSetOfText text (all_of some)
  pub spelt : (text : List ℕ) (set : List (ℕ × ℕ)) → IsSetOfText text set → (some : SomeRanges) × (group_of text ≡ Ok some) × (set ≡ all_of some)

-- it refuses a text exactly where the text is refused, at the same place
pub record GivesRefusals : Type 0 where
  pub given : (text : List ℕ) (at : ℕ) → group_of text ≡ Err at → IsRefusedAt text at
  pub refused : (text : List ℕ) (at : ℕ) → IsRefusedAt text at → group_of text ≡ Err at
