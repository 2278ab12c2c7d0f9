-- The answers of visits of states are the first of the states before them that are the same.
use Rattle.std.proofs.Common.{◌≡◌, ◌∙◌, sym, ap, refl, ◌<◌, ◌+◌, ℕ, suc, List, [], ◌∷◌, ◌++◌, Bool, Option, None, Some, cond, nat_eq, length, replicate, slice_index_or, append-nil, append_assoc, arith}
use Rattle.std.specs.List.{position, position_from}
use Rattle.std.proofs.lemmas.Iterator.Adapters.{position_from-zero}
use Rattle.std.proofs.lemmas.List.{length-set, length-replicate}
use Rattle.repeat_flags.specs.Visits.{Visit, after, first_at, kept, noted}
use Rattle.repeat_flags.proofs.First.{behind_all}
use Rattle.finder_core.specs.Passing.{repeats_after, visits_from}

abbrev same_as : ℕ → ℕ → Bool
same_as state earlier = nat_eq earlier state

abbrev visit : ℕ → ℕ → Visit
visit state at = record { state = state; at = at }

first_numbered : (n : ℕ) (states : List ℕ) (state : ℕ) → first_at (visits_from n states) state ≡ position_from (same_as state) n states
first_numbered n [] state = refl
first_numbered n (earlier ∷ states) state = ap (cond (nat_eq earlier state) (Some n)) (first_numbered (n + 1) states state)

-- the numbers of states behind visits of all that were seen
abbrev pub seen : ℕ → List ℕ → List (Option ℕ)
seen count states = after (replicate count None) (visits_from 0 states)

-- the answer of a visit
pub answer_is : (count : ℕ) (states : List ℕ) (numbers : List (Option ℕ)) (state : ℕ) → numbers ≡ seen count states → state < count → slice_index_or numbers state None ≡ position (same_as state) states
answer_is count states numbers state same below =
    ap (λ (ns : List (Option ℕ)). slice_index_or ns state None) same
    ∙ behind_all count (visits_from 0 states) state below
    ∙ first_numbered 0 states state
    ∙ sym (position_from-zero (same_as state) states)

-- One state more

after_one : (numbers : List (Option ℕ)) (visits : List Visit) (v : Visit) → after numbers (visits ++ v ∷ []) ≡ noted (after numbers visits) v.state v.at
after_one numbers [] v = refl
after_one numbers (w ∷ visits) v = after_one (noted numbers w.state w.at) visits v

visits_one : (n : ℕ) (states : List ℕ) (state : ℕ) → visits_from n (states ++ state ∷ []) ≡ visits_from n states ++ visit state (n + length states) ∷ []
visits_one n [] state = let e : n ≡ n + 0 = omega arith in ap (λ at. visit state at ∷ []) e
visits_one n (s ∷ states) state =
    let e : n + 1 + length states ≡ n + suc (length states) = omega arith in
    ap (λ vs. visit s n ∷ vs) (visits_one (n + 1) states state ∙ ap (λ at. visits_from (n + 1) states ++ visit state at ∷ []) e)

-- the numbers behind a visit of one state more
pub seen_one : (count : ℕ) (states : List ℕ) (numbers more : List (Option ℕ)) (state at : ℕ) → numbers ≡ seen count states → at ≡ length states → more ≡ noted numbers state at → more ≡ seen count (states ++ state ∷ [])
seen_one count states numbers more state at same number is =
    let last : at ≡ 0 + length states = omega (arith, number) in
    is ∙ ap (λ (ns : List (Option ℕ)). noted ns state at) same
    ∙ sym (after_one (replicate count None) (visits_from 0 states) (visit state at))
    ∙ ap (after (replicate count None)) (ap (λ n. visits_from 0 states ++ visit state n ∷ []) last ∙ sym (visits_one 0 states state))

-- the flags of one state more
pub repeats_one : (before states : List ℕ) (state : ℕ) → repeats_after before (states ++ state ∷ []) ≡ repeats_after before states ++ position (same_as state) (before ++ states) ∷ []
repeats_one before [] state = ap (λ (xs : List ℕ). position (same_as state) xs ∷ []) (sym (append-nil before))
repeats_one before (s ∷ states) state =
    ap (λ fs. position (same_as s) before ∷ fs)
    (repeats_one (before ++ s ∷ []) states state
    ∙ ap (λ (xs : List ℕ). repeats_after (before ++ s ∷ []) states ++ position (same_as state) xs ∷ []) (append_assoc before (s ∷ []) states))

-- a number for each state
length_after : (numbers : List (Option ℕ)) (visits : List Visit) → length (after numbers visits) ≡ length numbers
length_after numbers [] = refl
length_after numbers (v ∷ visits) =
    length_after (noted numbers v.state v.at) visits ∙ length-set numbers v.state (kept (slice_index_or numbers v.state None) v.at)

pub seen_length : (count : ℕ) (states : List ℕ) (numbers : List (Option ℕ)) → numbers ≡ seen count states → length numbers ≡ count
seen_length count states numbers same = ap length same ∙ length_after (replicate count None) (visits_from 0 states) ∙ length-replicate count None
