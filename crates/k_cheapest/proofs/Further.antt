-- How the search goes on: an item is taken out, taken apart or listed.
use Rattle.std.proofs.Common.{◌≡◌, ◌⊎◌, ℕ, ◌<◌, ◌≤◌, ◌^◌, List, [], ◌∷◌, ◌++◌, length, sym, ◌∙◌, ap, subst, inl, inr, arith, length-append, Contains, Some, slice_get}
use Rattle.std.proofs.lemmas.List.Elements.{Contains-push_cases, Contains-push, Contains-append_left}
use Rattle.ml_base.specs.declared.numbers.StateNo.{StateNo}
use Rattle.ml_base.specs.declared.weight.Weight.{Weight}
use Rattle.ml_base.specs.declared.weight.Weight.TheVariants.{Known, Past}
use Rattle.ml_base.specs.Weight.{IsCappedAtMost}
use Rattle.ml_base.proofs.Laws.{at_most-trans}
use Rattle.adapt_machine.specs.declared.MachineStep.{MachineStep}
use Rattle.adapt_machine.specs.Walks.{weight_of}
use Rattle.segment_grammar.proofs.Places.{slice_get-below, contains_at, pushed_at}
use Rattle.k_cheapest.specs.declared.found.KWalk.{KWalk}
use Rattle.k_cheapest.specs.declared.item.Item.{Item}
use Rattle.k_cheapest.specs.declared.todo.TodoForm.{Done}
use Rattle.k_cheapest.specs.Givens.{given_steps}
use Rattle.k_cheapest.specs.KLists.{IsWalk, IsListed, IsListable, numbers_of}
use Rattle.k_cheapest.specs.Items.{IsItem, Has, HasBefore, IsCovered, Takes, Adds}
use Rattle.k_cheapest.specs.Searching.{IsSearching, IsLight, Lists}
use Rattle.k_cheapest.proofs.Heads.{first_in, later_in, cons_cases}
use Rattle.k_cheapest.proofs.Leasts.{LeastOf, item_least}
use Rattle.k_cheapest.proofs.Capping.{known_costs, light_steps}

module _ (steps : List MachineStep) (starts targets : List StateNo) (limit : ℕ) where
  abbrev Searching : List KWalk → List Item → Type 0
  Searching walks waiting = IsSearching steps starts targets limit walks waiting

  -- what waits, with the item that is taken out in front
  pub taken_out : (walks : List KWalk) (old new : List Item) (i : Item) → Searching walks old → Takes old i new → Searching walks (i ∷ new)
  taken_out walks old new i is takes = record {
    listed = is.listed;
    items = λ j c. is.items j (back j c);
    sound = λ j c. is.sound j (back j c);
    covered = λ ks w. elim (is.covered ks w) [ inl l ↦ inl l | inr v ↦ inr (v.0, there v.0 v.1, v.2) ];
    above = λ j c. is.above j (back j c);
  } where
    back : (j : Item) → Contains (i ∷ new) j → Contains old j
    back j c = elim (cons_cases i new j c) [ inl e ↦ subst (λ v. Contains old v) e takes.waited | inr d ↦ takes.only j d ]

    there : (j : Item) → Contains old j → Contains (i ∷ new) j
    there j c = elim (takes.rest j c) [ inl e ↦ subst (λ v. Contains (i ∷ new) v) e (first_in i new) | inr d ↦ later_in i new j d ]

  module _ (walks : List KWalk) (i : Item) (rest : List Item) (is : Searching walks (i ∷ rest)) where
    own_least : LeastOf steps (Has steps starts i) i.weight
    own_least = item_least steps starts i (is.items i (first_in i rest))

    -- the item is taken apart
    pub taken_apart : (new : List Item) → Adds steps starts (Has steps starts i) rest new → Searching walks new
    taken_apart new adds = record {
      listed = is.listed;
      items = λ j c. elim (adds.only j c) as (λ v. IsItem steps starts j) [ inl o ↦ is.items j (later_in i rest j o) | inr n ↦ n.0 ];
      sound = λ j c ks h. elim (adds.only j c) as (λ v. IsWalk steps starts targets ks) [ inl o ↦ is.sound j (later_in i rest j o) ks h | inr n ↦ is.sound i (first_in i rest) ks (n.1 ks h) ];
      covered = λ ks w. elim (is.covered ks w) as (λ v. IsListed walks ks ⊎ IsCovered steps starts new ks) [ inl l ↦ inl l | inr v ↦ inr (covered ks v) ];
      above = λ j c w d. elim (adds.only j c) as (λ v. IsCappedAtMost w.weight j.weight) [ inl o ↦ is.above j (later_in i rest j o) w d | inr n ↦ heavier j n.0 n.1 w d ];
    } where
      covered : (ks : List ℕ) → IsCovered steps starts (i ∷ rest) ks → IsCovered steps starts new ks
      covered ks v = elim (cons_cases i rest v.0 v.1) [
        | inl e ↦ adds.covered ks (subst (λ u. Has steps starts u ks) (sym e) v.2)
        | inr d ↦ (v.0, adds.kept v.0 d, v.2)
      ]

      heavier : (j : Item) → IsItem steps starts j → ((ks : List ℕ) → Has steps starts j ks → Has steps starts i ks) → (w : KWalk) → Contains walks w → IsCappedAtMost w.weight j.weight
      heavier j item part w d =
          let least : LeastOf steps (Has steps starts j) j.weight = item_least steps starts j item in
          at_most-trans w.weight i.weight j.weight (is.above i (first_in i rest) w d)
          (subst (λ v. IsCappedAtMost i.weight v) least.weight (own_least.least least.lightest (part least.lightest least.is)))

    -- The item has one walk, and it is listed.

    module _ (done : i.todo.now.form ≡ Done) where
      only_walk : (ks : List ℕ) → Has steps starts i ks → ks ≡ given_steps i.given
      only_walk ks has =
          let h : HasBefore steps starts Done i.given ks = subst (λ f. HasBefore steps starts f i.given ks) done has in
          h.2 ∙ ap (λ v. v ++ given_steps i.given) h.1

      tail_weight : weight_of steps (given_steps i.given) ≡ i.weight
      tail_weight = ap (λ v. weight_of steps v) (sym (only_walk own_least.lightest own_least.is)) ∙ own_least.weight

      tail_walk : IsWalk steps starts targets (given_steps i.given)
      tail_walk = subst (λ v. IsWalk steps starts targets v) (only_walk own_least.lightest own_least.is) (is.sound i (first_in i rest) own_least.lightest own_least.is)

      covered_rest : (after : List KWalk) → ((ks : List ℕ) → IsListed walks ks → IsListed after ks) → IsListed after (given_steps i.given)
          → (ks : List ℕ) → IsWalk steps starts targets ks → IsListed after ks ⊎ IsCovered steps starts rest ks
      covered_rest after kept own ks w = elim (is.covered ks w) as (λ v. IsListed after ks ⊎ IsCovered steps starts rest ks) [
        | inl l ↦ inl (kept ks l)
        | inr v ↦ elim (cons_cases i rest v.0 v.1) as (λ u. IsListed after ks ⊎ IsCovered steps starts rest ks) [
          | inl e ↦ inl (subst (λ u. IsListed after u) (sym (only_walk ks (subst (λ u. Has steps starts u ks) (sym e) v.2))) own)
          | inr d ↦ inr (v.0, d, v.2)
        ]
      ]

      -- it was listed
      pub listed_before : IsListed walks (given_steps i.given) → Searching walks rest
      listed_before own = record {
        listed = is.listed;
        items = λ j c. is.items j (later_in i rest j c);
        sound = λ j c. is.sound j (later_in i rest j c);
        covered = covered_rest walks (λ ks l. l) own;
        above = λ j c. is.above j (later_in i rest j c);
      }

      module _ (walk : KWalk) (are : numbers_of walk.steps ≡ given_steps i.given) (weight : walk.weight ≡ i.weight) (unlisted : IsListed walks (given_steps i.given) → ⊥)
          (least : (j : Item) → Contains rest j → IsCappedAtMost i.weight j.weight) (light : IsLight limit i.weight) (small : limit < 2 ^ 40) where
        light_walk : (w : Weight) → weight_of steps (numbers_of walk.steps) ≡ w → IsLight limit w → IsListable steps starts targets limit walk
        light_walk Past e l = absurd l
        light_walk (Known c h) e l = record {
          is_walk = subst (λ v. IsWalk steps starts targets v) (sym are) tail_walk;
          weight = weight ∙ sym tail_weight ∙ ap (λ v. weight_of steps v) (sym are);
          cost = known_costs steps (numbers_of walk.steps) c h e;
          hops = light_steps steps (numbers_of walk.steps) c h limit e l small;
        }

        listable : (w : KWalk) → Contains walks w ⊎ (walk ≡ w) → IsListable steps starts targets limit w
        listable w (inl o) = is.listed.listable w o
        listable w (inr e) = subst (λ v. IsListable steps starts targets limit v) e (light_walk i.weight (ap (λ v. weight_of steps v) are ∙ tail_weight) light)

        -- a walk of the old list, by its place
        was : (a : ℕ) (v : KWalk) → slice_get walks a ≡ Some v → Contains walks v
        was a v at = contains_at walks a v at

        apart : (a b : ℕ) (v w : KWalk) → a < b → (slice_get walks a ≡ Some v) ⊎ (a ≡ length walks) × (v ≡ walk) → (slice_get walks b ≡ Some w) ⊎ (b ≡ length walks) × (w ≡ walk)
            → (b ≤ length walks) → v.steps ≡ w.steps → ⊥
        apart a b v w early (inl p) (inl q) within e = is.listed.once a b v w early p q e
        apart a b v w early (inl p) (inr q) within e =
            unlisted (v, was a v p, ap numbers_of e ∙ ap (λ u. numbers_of u.steps) q.1 ∙ are)
        apart a b v w early (inr p) q within e = omega arith

        rises : (a b : ℕ) (v w : KWalk) → a < b → (slice_get walks a ≡ Some v) ⊎ (a ≡ length walks) × (v ≡ walk) → (slice_get walks b ≡ Some w) ⊎ (b ≡ length walks) × (w ≡ walk)
            → (b ≤ length walks) → IsCappedAtMost v.weight w.weight
        rises a b v w early (inl p) (inl q) within = is.listed.rising a b v w early p q
        rises a b v w early (inl p) (inr q) within =
            subst (λ u. IsCappedAtMost v.weight u) (sym (ap (λ u. u.weight) q.1 ∙ weight)) (is.above i (first_in i rest) v (was a v p))
        rises a b v w early (inr p) q within = absurd (omega arith)

        place_within : (b : ℕ) (w : KWalk) → slice_get (walks ++ walk ∷ []) b ≡ Some w → b ≤ length walks
        place_within b w at = let below : b < length (walks ++ walk ∷ []) = slice_get-below (walks ++ walk ∷ []) b w at in omega (arith, length-append walks (walk ∷ []))

        pub listed_now : Searching (walks ++ walk ∷ []) rest
        listed_now = record {
          listed = record {
            listable = λ w c. listable w (Contains-push_cases walks walk w c);
            once = λ a b v w early p q. apart a b v w early (pushed_at walks walk a v p) (pushed_at walks walk b w q) (place_within b w q);
            rising = λ a b v w early p q. rises a b v w early (pushed_at walks walk a v p) (pushed_at walks walk b w q) (place_within b w q);
          };
          items = λ j c. is.items j (later_in i rest j c);
          sound = λ j c. is.sound j (later_in i rest j c);
          covered = covered_rest (walks ++ walk ∷ []) (λ ks l. (l.0, Contains-append_left walks (walk ∷ []) l.0 l.1, l.2)) (walk, Contains-push walks walk, are);
          above = λ j c w d. elim (Contains-push_cases walks walk w d) as (λ v. IsCappedAtMost w.weight j.weight) [
            | inl o ↦ is.above j (later_in i rest j c) w o
            | inr e ↦ subst (λ v. IsCappedAtMost v j.weight) (sym weight ∙ ap (λ v. v.weight) e) (least j c)
          ];
        }

      -- listed, in either case
      pub listed_further : (new : List KWalk) → Lists (given_steps i.given) i walks new → ((j : Item) → Contains rest j → IsCappedAtMost i.weight j.weight) → IsLight limit i.weight → limit < 2 ^ 40
          → Searching new rest
      listed_further new lists least light small = by_case lists.listed where
        by_case : (IsListed walks (given_steps i.given) × (new ≡ walks)) ⊎ ((IsListed walks (given_steps i.given) → ⊥) × (new ≡ walks ++ lists.walk ∷ [])) → Searching new rest
        by_case (inl old) = subst (λ v. Searching v rest) (sym old.1) (listed_before old.0)
        by_case (inr next) = subst (λ v. Searching v rest) (sym next.1) (listed_now lists.walk lists.are lists.weight next.0 least light small)
