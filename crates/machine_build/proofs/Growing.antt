-- Lists of moves that grow, one addition after another.
use Rattle.std.proofs.Common.{◌≡◌, ℕ, zero, suc, ◌+◌, ◌≤◌, ◌⊎◌, inl, inr, List, [], ◌∷◌, ◌++◌, Some, length, refl, sym, ◌∙◌, ap, subst, arith}
use Rattle.std.specs.Prelude.{slice_get}
use Rattle.std.proofs.lemmas.List.{append_assoc, append-nil}
use Rattle.ml_base.proofs.Lists.{one_of_some, at_left}
use Rattle.ml_base.proofs.Comparisons.{below_cases}
use Rattle.machine_build.specs.declared.ways.End.{End}
use Rattle.machine_build.specs.declared.ways.Move.{Move}
use Rattle.machine_build.specs.Adding.{Adds, Between, HasWay}
use Rattle.machine_build.specs.Ways.{Way, way_of}
use Rattle.machine_build.proofs.Items.{IsBehind, at_cases, at_right}

pub adds_none : (R : Way → Type 0) (S : Move → Type 0) (xs : List Move) → ((w : Way) → R w → ⊥) → Adds R S xs xs
adds_none R S xs none = record {
  more = [];
  whole = sym (append-nil xs);
  all = λ w r. absurd (none w r);
  only = λ k m at. absurd (cc);
  done = λ k m at. absurd (cc);
  once = λ i j m n at_i at_j same. absurd (cc);
}

only_one : (m : Move) (k : ℕ) (n : Move) → slice_get (m ∷ []) k ≡ Some n → (n ≡ m) × (k ≡ 0)
only_one m zero n at = (sym (one_of_some at), refl)
only_one m (suc k) n at = absurd (cc)

pub adds_one : (R : Way → Type 0) (S : Move → Type 0) (xs new : List Move) (m : Move) → new ≡ xs ++ m ∷ [] → R (way_of m) → S m → ((w : Way) → R w → way_of m ≡ w) → Adds R S xs new
adds_one R S xs new m pushed related does alone = record {
  more = m ∷ [];
  whole = pushed;
  all = λ w r. record { place = 0; move = m; at = refl; is = alone w r };
  only = λ k n at. subst (λ x. R (way_of x)) (sym (only_one m k n at).0) related;
  done = λ k n at. subst S (sym (only_one m k n at).0) does;
  once = λ i j n o at_i at_j same. (only_one m i n at_i).1 ∙ sym (only_one m j o at_j).1;
}

-- one addition after another, of other ways
module _ (R Q U : Way → Type 0) (S : Move → Type 0) (old mid new : List Move) (a : Adds R S old mid) (b : Adds Q S mid new)
    (back : (w : Way) → U w → R w ⊎ Q w) (on_a : (w : Way) → R w → U w) (on_b : (w : Way) → Q w → U w) (apart : (w : Way) → R w → Q w → ⊥) where
  has_left : (w : Way) → HasWay a.more w → HasWay (a.more ++ b.more) w
  has_left w h = record { place = h.place; move = h.move; at = at_left a.more b.more h.place h.move h.at; is = h.is }

  has_right : (w : Way) → HasWay b.more w → HasWay (a.more ++ b.more) w
  has_right w h = record { place = length a.more + h.place; move = h.move; at = at_right a.more b.more h.place h.move (length a.more + h.place) refl h.at; is = h.is }

  other : (i j : ℕ) (m n : Move) → slice_get a.more i ≡ Some m → slice_get b.more j ≡ Some n → way_of m ≡ way_of n → ⊥
  other i j m n at_i at_j same = apart (way_of n) (subst R same (a.only i m at_i)) (b.only j n at_j)

  one_place : (i j : ℕ) (m n : Move) → way_of m ≡ way_of n → (slice_get a.more i ≡ Some m) ⊎ IsBehind b.more (length a.more) i m → (slice_get a.more j ≡ Some n) ⊎ IsBehind b.more (length a.more) j n → i ≡ j
  one_place i j m n same (inl x) (inl y) = a.once i j m n x y same
  one_place i j m n same (inl x) (inr y) = absurd (other i y.0 m n x y.2 same)
  one_place i j m n same (inr x) (inl y) = absurd (other j x.0 n m y x.2 (sym same))
  one_place i j m n same (inr x) (inr y) = x.1 ∙ ap (λ k. length a.more + k) (b.once x.0 y.0 m n x.2 y.2 same) ∙ sym y.1

  pub adds_then : Adds U S old new
  adds_then = record {
    more = a.more ++ b.more;
    whole = b.whole ∙ ap (λ l. l ++ b.more) a.whole ∙ append_assoc old a.more b.more;
    all = λ w u. elim (back w u) as (λ v. HasWay (a.more ++ b.more) w) [ inl r ↦ has_left w (a.all w r) | inr q ↦ has_right w (b.all w q) ];
    only = λ k m at. elim (at_cases a.more b.more k m at) as (λ v. U (way_of m)) [ inl x ↦ on_a (way_of m) (a.only k m x) | inr y ↦ on_b (way_of m) (b.only y.0 m y.2) ];
    done = λ k m at. elim (at_cases a.more b.more k m at) as (λ v. S m) [ inl x ↦ a.done k m x | inr y ↦ b.done y.0 m y.2 ];
    once = λ i j m n at_i at_j same. one_place i j m n same (at_cases a.more b.more i m at_i) (at_cases a.more b.more j n at_j);
  }

-- the same told otherwise
pub adds_same : (R U : Way → Type 0) (S V : Move → Type 0) (old new : List Move) → Adds R S old new → ((w : Way) → U w → R w) → ((w : Way) → R w → U w) → ((m : Move) → R (way_of m) → S m → V m) → Adds U V old new
adds_same R U S V old new a back on does = record {
  more = a.more;
  whole = a.whole;
  all = λ w u. a.all w (back w u);
  only = λ k m at. on (way_of m) (a.only k m at);
  done = λ k m at. does m (a.only k m at) (a.done k m at);
  once = a.once;
}

-- Loops

pub adds_first : (F : ℕ → Way → Type 0) (S : Move → Type 0) (low : ℕ) (xs : List Move) → Adds (Between low low F) S xs xs
adds_first F S low xs = adds_none (Between low low F) S xs (λ w r. omega (arith, r.1, r.2))

between_cases : (F : ℕ → Way → Type 0) (low n : ℕ) (w : Way) → Between low (n + 1) F w → Between low n F w ⊎ F n w
between_cases F low n w b = elim (below_cases b.0 n b.2) as (λ v. Between low n F w ⊎ F n w) [
  | inl l ↦ inl (b.0, b.1, l, b.3)
  | inr e ↦ inr (subst (λ k. F k w) e b.3)
]

pub adds_next : (F : ℕ → Way → Type 0) (S : Move → Type 0) (low n : ℕ) (old mid new : List Move) → low ≤ n → ((j k : ℕ) (w : Way) → F j w → F k w → j ≡ k)
    → Adds (Between low n F) S old mid → Adds (F n) S mid new → Adds (Between low (n + 1) F) S old new
adds_next F S low n old mid new from apart a b = adds_then (Between low n F) (F n) (Between low (n + 1) F) S old mid new a b
    (between_cases F low n)
    (λ w r. (r.0, r.1, omega (arith, r.2), r.3))
    (λ w f. (n, from, omega arith, f))
    (λ w r f. let same : r.0 ≡ n = apart r.0 n w r.3 f in omega (arith, r.2, same))

pub one_way : (w : Way) (number : ℕ) (near far : End) → w.element ≡ number → w.near ≡ near → w.far ≡ far → record { element = number; near = near; far = far } ≡ w
one_way w number near far a b c =
    let make : ℕ → End → End → Way = λ n x y. record { element = n; near = x; far = y } in
    ap (λ n. make n near far) (sym a) ∙ ap (λ x. make w.element x far) (sym b) ∙ ap (λ y. make w.element w.near y) (sym c)
