-- The rows of a table when a pair is added.
use Rattle.std.proofs.Common.{◌≡◌, ◌≢◌, ℕ, ◌<◌, ◌⊎◌, List, [], ◌∷◌, ◌++◌, length, map, refl, sym, ◌∙◌, subst, inl, inr, Contains, Some, slice_get}
use Rattle.std.specs.Prelude.{Bool, true, false, IsTrue, ◌↔◌}
use Rattle.std.proofs.Math.ListN.{length-set}
use Rattle.std.proofs.lemmas.Bool.{cases_eq}
use Rattle.std.proofs.lemmas.List.{get_or-set_same, get_or-set_other, map-append}
use Rattle.std.proofs.lemmas.List.Elements.{Contains-push_cases, Contains-push, Contains-append_left, All-append, All-cons, All-nil}
use Rattle.ml_base.specs.declared.numbers.StateNo.{StateNo}
use Rattle.ml_base.specs.declared.weight.Weight.{Weight}
use Rattle.ml_base.specs.Weight.{IsCappedAtMost}
use Rattle.ml_base.proofs.Laws.{at_most-same, at_most-either}
use Rattle.adapt_machine.specs.declared.MachineKind.{MachineKind}
use Rattle.adapt_machine.specs.declared.MachineKind.TheVariants.{Push, Pop}
use Rattle.segment_grammar.specs.declared.potentials.Pot.{Pot}
use Rattle.segment_grammar.specs.Index.{IndexValue}
use Rattle.segment_grammar.specs.Rows.{row_of, with_item}
use Rattle.segment_grammar.proofs.Rising.{refuted}
use Rattle.knuth_search.specs.declared.derived.Derived.{Derived}
use Rattle.knuth_search.specs.Derived.{Task}
use Rattle.knuth_search.specs.Following.{IsCovered}
use Rattle.knuth_search.specs.Tables.{IsLeftBy, HasPot, IsUnder, IsAt, AreFiled, AreStored, Files, IsKept, pot_of}

-- a row after an item was put into it
pub row_here : (rows : List (List Derived)) (y x : ℕ) (d : Derived) → y < length rows → x ≡ y → row_of (with_item rows y d) x ≡ row_of rows x ++ d ∷ []
row_here rows y x d l e = subst (λ v. row_of (with_item rows y d) v ≡ row_of rows v ++ d ∷ []) (sym e) (get_or-set_same rows y (row_of rows y ++ d ∷ []) [] l)

pub added_here : (rows : List (List Derived)) (y : ℕ) (d : Derived) → y < length rows → Contains (row_of (with_item rows y d) y) d
added_here rows y d l = subst (λ v. Contains v d) (sym (row_here rows y y d l refl)) (Contains-push (row_of rows y) d)

-- no row changes, or one has the item more
module _ (belongs : StateNo → Pot → Type 0) (item : Derived) where
  pub files_same : (old new : List (List Derived)) → new ≡ old → Files belongs item old new
  files_same old new e = subst (λ v. Files belongs item old v) (sym e) (record { rooms = refl; kept = λ x d c. c; only = λ x d c. inl c })

  module _ (rows : List (List Derived)) (y : StateNo) (l : y.0 < length rows) (b : belongs y (pot_of item)) where
    apart : (x : StateNo) → x.0 ≢ y.0 → row_of (with_item rows y.0 item) x.0 ≡ row_of rows x.0
    apart x n = get_or-set_other rows y.0 x.0 (row_of rows y.0 ++ item ∷ []) [] n

    kept_more : (x : StateNo) (d : Derived) → Contains (row_of rows x.0) d → (x.0 ≡ y.0) ⊎ (x.0 ≢ y.0) → Contains (row_of (with_item rows y.0 item) x.0) d
    kept_more x d c (inl e) = subst (λ v. Contains v d) (sym (row_here rows y.0 x.0 item l e)) (Contains-append_left (row_of rows x.0) (item ∷ []) d c)
    kept_more x d c (inr n) = subst (λ v. Contains v d) (sym (apart x n)) c

    at_most_one : (x : StateNo) (d : Derived) → Contains (row_of (with_item rows y.0 item) x.0) d → (x.0 ≡ y.0) ⊎ (x.0 ≢ y.0) → Contains (row_of rows x.0) d ⊎ ((item ≡ d) × belongs x (pot_of d))
    at_most_one x d c (inl e) = elim (Contains-push_cases (row_of rows x.0) item d (subst (λ v. Contains v d) (row_here rows y.0 x.0 item l e) c)) as (λ v. Contains (row_of rows x.0) d ⊎ ((item ≡ d) × belongs x (pot_of d))) [
      | inl o ↦ inl o
      | inr s ↦ inr (s, subst (λ v. belongs x (pot_of v)) s (subst (λ n. belongs (record { 0 = n }) (pot_of item)) (sym e) b))
    ]
    at_most_one x d c (inr n) = inl (subst (λ v. Contains v d) (apart x n) c)

    pub files_added : Files belongs item rows (with_item rows y.0 item)
    files_added = record { rooms = length-set rows y.0 (row_of rows y.0 ++ item ∷ []); kept = λ x d c. kept_more x d c (cases_eq x.0 y.0); only = λ x d c. at_most_one x d c (cases_eq x.0 y.0) }

-- rows of a table whose pair is filed before it is added
module _ (task : Task) (pots : List Pot) (kind : MachineKind) (belongs : StateNo → Pot → Type 0) (next : Derived) where
  pub filed_kept : (old new : List (List Derived)) → AreFiled task pots kind belongs old → IsKept task next → Files belongs next old new → AreFiled task pots kind belongs new
  filed_kept old new is kept files = record {
    rooms = files.rooms ∙ is.rooms;
    lists = λ x b. record {
      all = λ p c t e. there x p ((is.lists x b).all p c t e);
      kept = λ d c. elim (files.only x d c) as (λ v. IsKept task d) [ inl o ↦ (is.lists x b).kept d o | inr n ↦ subst (λ v. IsKept task v) n.0 kept ];
      pass = λ d c. elim (files.only x d c) as (λ v. belongs x (pot_of d)) [ inl o ↦ (is.lists x b).pass d o | inr n ↦ n.1 ];
    };
  }
    where
      there : (x : StateNo) (p : Pot) → HasPot (row_of old x.0) p → HasPot (row_of new x.0) p
      there x p h = record { item = h.item; listed = files.kept x h.item h.listed; is = h.is }

  pub filed_pushed : (rows : List (List Derived)) → AreFiled task pots kind belongs rows
      → (IsLeftBy task.machine.steps kind next.state → (x : StateNo) → belongs x (pot_of next) → Contains (row_of rows x.0) next) → AreFiled task (pots ++ pot_of next ∷ []) kind belongs rows
  filed_pushed rows is here = record {
    rooms = is.rooms;
    lists = λ x b. record {
      all = λ p c t e. elim (Contains-push_cases pots (pot_of next) p c) as (λ v. HasPot (row_of rows x.0) p) [
        | inl o ↦ (is.lists x b).all p o t e
        | inr s ↦ record { item = next; listed = here (subst (λ v. IsLeftBy task.machine.steps kind v.state) (sym s) e) x (subst (λ v. belongs x v) (sym s) t); is = s }
      ];
      kept = (is.lists x b).kept;
      pass = (is.lists x b).pass;
    };
  }

-- what is listed is covered
pub covered_itself : (list : List Pot) (p : Pot) → Contains list p → IsCovered list p
covered_itself list p c = record { weight = p.weight; listed = c; at_most = at_most-same p.weight }

-- what is stored when a pair is filed, and when it is added
module _ (task : Task) (index : IndexValue) (items : List Derived) (r s : List (List Derived)) (pops : List Bool) (is : AreStored task index items r s pops) (next : Derived) (kept : IsKept task next) where
  pub stored_kept : (r' s' : List (List Derived)) → Files IsUnder next r r' → Files IsAt next s s' → AreStored task index items r' s' pops
  stored_kept r' s' k l = record {
    under = filed_kept task (map pot_of items) Pop IsUnder next r r' is.under kept k;
    at = filed_kept task (map pot_of items) Push IsAt next s s' is.at kept l;
    kept = is.kept;
    popping = is.popping;
    indexed = is.indexed;
  }

  pub stored_pushed : (slice_get pops next.state.0 ≡ Some true → (x : StateNo) → IsUnder x (pot_of next) → Contains (row_of r x.0) next)
      → (IsLeftBy task.machine.steps Push next.state → Contains (row_of s next.state.0) next) → (items' : List Derived) → items' ≡ items ++ next ∷ [] → AreStored task index items' r s pops
  stored_pushed under at items' pushed =
      subst (λ v. AreStored task index v r s pops) (sym pushed) (record {
        under = subst (λ v. AreFiled task v Pop IsUnder r) (sym (map-append pot_of items (next ∷ [])))
            (filed_pushed task (map pot_of items) Pop IsUnder next r is.under (λ e. under (is.popping.all next.state e)));
        at = subst (λ v. AreFiled task v Push IsAt s) (sym (map-append pot_of items (next ∷ [])))
            (filed_pushed task (map pot_of items) Push IsAt next s is.at (λ e x here. subst (λ y. Contains (row_of s y.0) next) here (at e)));
        kept = All-append (IsKept task) items (next ∷ []) is.kept (All-cons (IsKept task) next [] kept (All-nil (IsKept task)));
        popping = is.popping;
        indexed = is.indexed;
      })

pub heavier : (b : Bool) (u v : Weight) → IsTrue b ↔ IsCappedAtMost u v → b ≡ false → IsCappedAtMost v u
heavier b u v says false_is = elim (at_most-either v u) as (λ w. IsCappedAtMost v u) [ inl a ↦ a | inr a ↦ absurd (refuted b says false_is a) ]
