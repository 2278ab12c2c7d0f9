-- The places of potentials are states of the machine exactly where they are open and have kept labels or none.
use Rattle.std.proofs.Common.{◌≡◌, ◌∙◌, ℕ, ◌<◌, List, None, Some, length, get_or, take, ap, subst, sym, Contains}
use Rattle.std.proofs.lemmas.Option.{slice_get-get_or}
use Rattle.ml_base.specs.declared.numbers.Root.{Root}
use Rattle.ml_base.specs.declared.numbers.Root.TheVariants as root
use Rattle.segment_grammar.specs.declared.potentials.Pot.{Pot}
use Rattle.segment_grammar.proofs.Places.{contains_at}
use Rattle.circuit_spec.specs.declared.hops.PlaceName.{PlaceName}
use Rattle.circuit_spec.specs.declared.hops.Request.{Request}
use Rattle.circuit_spec.specs.Kept.{HasKept}
use Rattle.circuit_spec.specs.Network.{Port, Tag, Topology}
use Rattle.kept_table.specs.Table.{IsKeptTable, KeptOfType}
use Rattle.open_places.specs.Places.{IsListed}
use Rattle.machine_build.specs.Built.{BuiltValue, IsBuilt}
use Rattle.answer_spec.specs.declared.answer.PotLine.{PotLine}
use Rattle.answer_spec.specs.declared.answer.RootName.{RootName}
use Rattle.answer_spec.specs.declared.answer.RootName.TheVariants as name
use Rattle.machine_lift.specs.Lift.{IsRootAt}
use Rattle.answer_spec.specs.Potentials.{root_place}
use Rattle.answer_spec.specs.Certificate.{IsKeptPlace, IsKeptRoot, IsPlaced}
use Rattle.verdict.specs.First.{IsFirstFailing}
use Rattle.potential_check.specs.Pairs.{ArePairsOf, HasPair, IsPairOf, IsRootOfState}
use Rattle.potential_check.proofs.Zipped.{zip_all}

-- ---- potentials of pairs

root_of_state : (b : BuiltValue) (s : Root) (n : RootName) → IsRootAt b s (root_place n) → IsRootOfState b n
root_of_state b s name.Request at = tt
root_of_state b root.Request (name.Entry place) at = absurd at
root_of_state b (root.Entry s) (name.Entry place) at = contains_at b.places s.0 place at

pub pair_within : (b : BuiltValue) (line : PotLine) (p : Pot) → IsPairOf b line p → HasPair b line
pair_within b line p is = record { root = root_of_state b p.root line.root is.root; place = contains_at b.places p.state.0 line.place is.place }

-- the first potential that has no pair
pub first_unplaced : (b : BuiltValue) (list lines : List PotLine) (pots : List Pot) → list ≡ lines → (i : ℕ) (line : PotLine) → i < length list
    → line ≡ get_or list i line → ¬ HasPair b line → ArePairsOf b (take i list) pots
    → IsFirstFailing (HasPair b) lines i
first_unplaced b list lines pots same i line low is not before = subst (λ l. IsFirstFailing (HasPair b) l i) same (record {
  item = line;
  at = slice_get-get_or list i line low ∙ ap Some (sym is);
  fails = not;
  before = zip_all (IsPairOf b) (λ (p : Pot). Unit {0}) (HasPair b) (λ l p of t. pair_within b l p of) (take i list) pots before (λ k d l. tt);
})

-- ---- places

module _ (T : Topology) (r : Request) (table : List KeptOfType) (kept : IsKeptTable T r table) where
  listed_kept : (class : Port) (label : Tag) → IsListed table class label → HasKept T r class label
  listed_kept class None l = tt
  listed_kept class (Some label) l = (l.0, l.1, (kept.labels_are l.0 label).0 l.2)

  kept_listed : (class : Port) (label : Tag) → HasKept T r class label → IsListed table class label
  kept_listed class None h = tt
  kept_listed class (Some label) h = (h.0, h.1, (kept.labels_are h.0 label).1 h.2)

  module _ (b : BuiltValue) (built : IsBuilt T table r b) where
    place_up : (place : PlaceName) → Contains b.places place → IsKeptPlace T r place
    place_up place c =
        let is = (built.places_are place).0 c in
        record { class = is.class; named = sym is.named; is_place = record { is_class = is.is_class; is_open = is.is_open }; kept = listed_kept is.class place.label is.listed }

    place_down : (place : PlaceName) → IsKeptPlace T r place → Contains b.places place
    place_down place is = (built.places_are place).1 (record {
      class = is.class;
      named = sym is.named;
      is_class = is.is_place.is_class;
      is_open = is.is_place.is_open;
      listed = kept_listed is.class place.label is.kept;
    })

    root_up : (n : RootName) → IsRootOfState b n → IsKeptRoot T r n
    root_up name.Request is = tt
    root_up (name.Entry place) is = place_up place is

    root_down : (n : RootName) → IsKeptRoot T r n → IsRootOfState b n
    root_down name.Request is = tt
    root_down (name.Entry place) is = place_down place is

    pub placed : (line : PotLine) → HasPair b line → IsPlaced T r line
    placed line is = (place_up line.place is.place, root_up line.root is.root)

    pub has_pair : (line : PotLine) → IsPlaced T r line → HasPair b line
    has_pair line is = record { root = root_down line.root is.1; place = place_down line.place is.0 }
