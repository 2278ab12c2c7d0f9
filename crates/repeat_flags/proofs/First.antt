-- What the number of a state is behind visits.
use Rattle.std.proofs.Common.{◌≡◌, ◌∙◌, sym, ap, refl, subst, ◌<◌, ℕ, List, [], ◌∷◌, Option, None, Some, ◌⊎◌, inl, inr, length, replicate, slice_index_or, nat_eq, cond}
use Rattle.std.proofs.lemmas.Bool.{cases_eq, eq-eqb, ne_eqb}
use Rattle.std.proofs.lemmas.List.{get_or-set_same, get_or-set_other, get_or-replicate, length-set, length-replicate}
use Rattle.repeat_flags.specs.Visits.{Visit, after, first_at, kept, noted}

-- the first, where there is one, and else the second
abbrev either : Option ℕ → Option ℕ → Option ℕ
either None other = other
either (Some first) other = Some first

either-none : (x : Option ℕ) → x ≡ either x None
either-none None = refl
either-none (Some first) = refl

either-kept : (x : Option ℕ) (at : ℕ) (other : Option ℕ) → either (kept x at) other ≡ either x (Some at)
either-kept None at other = refl
either-kept (Some first) at other = refl

number : List (Option ℕ) → ℕ → Option ℕ
number numbers state = slice_index_or numbers state None

-- one visit more
behind-one : (numbers : List (Option ℕ)) (v : Visit) (state : ℕ) (later : Option ℕ) → state < length numbers
    → either (number (noted numbers v.state v.at) state) later ≡ either (number numbers state) (cond (nat_eq v.state state) (Some v.at) later)
unfolding number
behind-one numbers v state later below = go (cases_eq v.state state) where
  go : (v.state ≡ state) ⊎ (v.state ≡ state → ⊥) → either (number (noted numbers v.state v.at) state) later ≡ either (number numbers state) (cond (nat_eq v.state state) (Some v.at) later)
  go (inl same) =
      let here : number (noted numbers v.state v.at) v.state ≡ kept (number numbers v.state) v.at =
      get_or-set_same numbers v.state (kept (number numbers v.state) v.at) None (subst (λ s. s < length numbers) (sym same) below) in
      subst (λ s. either (number (noted numbers v.state v.at) s) later ≡ either (number numbers s) (cond (nat_eq v.state s) (Some v.at) later)) same
      (ap (λ x. either x later) here ∙ either-kept (number numbers v.state) v.at later
      ∙ ap (λ b. either (number numbers v.state) (cond b (Some v.at) later)) (sym (eq-eqb v.state v.state refl)))
  go (inr other) =
      ap (λ x. either x later) (get_or-set_other numbers v.state state (kept (number numbers v.state) v.at) None (λ e. other (sym e)))
      ∙ ap (λ b. either (number numbers state) (cond b (Some v.at) later)) (sym (ne_eqb v.state state other))

behind : (numbers : List (Option ℕ)) (visits : List Visit) (state : ℕ) → state < length numbers → number (after numbers visits) state ≡ either (number numbers state) (first_at visits state)
behind numbers [] state below = either-none (number numbers state)
behind numbers (v ∷ rest) state below =
    behind (noted numbers v.state v.at) rest state
    (subst (λ n. state < n) (sym (length-set numbers v.state (kept (slice_index_or numbers v.state None) v.at))) below)
    ∙ behind-one numbers v state (first_at rest state) below

pub behind_all : (states : ℕ) (visits : List Visit) (state : ℕ) → state < states → slice_index_or (after (replicate states None) visits) state None ≡ first_at visits state
unfolding number
behind_all states visits state below =
    behind (replicate states None) visits state (subst (λ n. state < n) (sym (length-replicate states None)) below)
    ∙ ap (λ x. either x (first_at visits state)) (get_or-replicate states state None None below)
