-- How many rules have a number, and what the slots of numbers say when one rule more is noted.
use Rattle.std.proofs.Common.{◌≡◌, ◌≢◌, ◌⊎◌, inl, inr, ℕ, zero, suc, ◌+◌, ◌-◌, ◌<◌, ◌≤◌, List, [], ◌∷◌, ◌++◌, Bool, true, false, cond, Some, length, refl, sym, ◌∙◌, ap, subst, arith, replicate, nat_eq, set, get_or}
use Rattle.std.specs.Prelude.{slice_get, slice_set}
use Rattle.std.specs.List.{Contains, sum_by}
use Rattle.std.proofs.lemmas.Bool.{cases_eq, eq-eqb, ne_eqb}
use Rattle.std.proofs.lemmas.List.{length-set, get_or-set_same, get_or-set_other, length-replicate, get_or-replicate}
use Rattle.std.proofs.lemmas.List.Sums.{sum_by-append}
use Rattle.std.proofs.lemmas.Option.{slice_get_within, get_or_from_slice_get, slice_get-get_or}
use Rattle.ml_base.proofs.Lists.{at_left, at_end}
use Rattle.circuit_spec.specs.declared.hops.Hop.{Hop}
use Rattle.device_rules.specs.declared.rules.Rule.{Rule}
use Rattle.rule_replay.specs.declared.slots.Slot.{Slot}
use Rattle.rule_replay.specs.declared.slots.Slot.TheVariants.{Missing, One, Several}
use Rattle.rule_replay.specs.Replaying.{IsFirstMisnumbered, count_of}
use Rattle.rule_replay.specs.Slots.{AddsHop, AreFirstByNumber, AreNoted, HasRule, Notes, slot_with}

has_number : ℕ → Rule → ℕ
has_number n rule = cond (nat_eq rule.number n) 1 0

pub count_more : (rules : List Rule) (r : Rule) (n : ℕ) → count_of (rules ++ r ∷ []) n ≡ count_of rules n + cond (nat_eq r.number n) 1 0
count_more rules r n = sum_by-append (λ (rule : Rule). cond (nat_eq rule.number n) 1 0) rules (r ∷ []) ∙ ap (λ m. count_of rules n + m) (omega arith)

count_yes : (rules : List Rule) (r : Rule) (n : ℕ) → r.number ≡ n → count_of (rules ++ r ∷ []) n ≡ count_of rules n + 1
count_yes rules r n e = count_more rules r n ∙ ap (λ (b : Bool). count_of rules n + cond b 1 0) (eq-eqb r.number n e)

count_no : (rules : List Rule) (r : Rule) (n : ℕ) → (r.number ≢ n) → count_of (rules ++ r ∷ []) n ≡ count_of rules n
count_no rules r n e = count_more rules r n ∙ ap (λ (b : Bool). count_of rules n + cond b 1 0) (ne_eqb r.number n e) ∙ omega arith

notes_same : (rules : List Rule) (r : Rule) (n : ℕ) (slot : Slot) → (r.number ≢ n) → Notes rules n slot → Notes (rules ++ r ∷ []) n slot
notes_same rules r n Missing e notes = count_no rules r n e ∙ notes
notes_same rules r n (One place) e (once, (rule, at, is)) = (count_no rules r n e ∙ once, (rule, at_left rules (r ∷ []) place rule at, is))
notes_same rules r n Several e notes = let same = count_no rules r n e in omega (arith, same, notes)

notes_more : (rules : List Rule) (r : Rule) (n place : ℕ) (slot : Slot) → r.number ≡ n → place ≡ length rules → Notes rules n slot → Notes (rules ++ r ∷ []) n (slot_with slot place)
notes_more rules r n place Missing e here notes = let more = count_yes rules r n e in (omega (arith, more, notes), (r, at_end rules r place here, e))
notes_more rules r n place (One other) e here notes = let more = count_yes rules r n e in let once = notes.0 in omega (arith, more, once)
notes_more rules r n place Several e here notes = let more = count_yes rules r n e in omega (arith, more, notes)

-- a rule whose number has no slot
pub noted_out : (rules all : List Rule) (r : Rule) (slots : List Slot) (count : ℕ) → all ≡ rules ++ r ∷ [] → ((n : ℕ) → n < count → r.number ≢ n + 1) → AreNoted rules slots count → AreNoted all slots count
noted_out rules all r slots count list out noted = subst (λ l. AreNoted l slots count) (sym list) (record {
  counted = noted.counted;
  each = λ n slot at. let within = slice_get_within slots n slot at in let long = noted.counted in notes_same rules r (n + 1) slot (out n (omega (arith, within, long))) (noted.each n slot at);
})

-- a rule that is put into the slot of its number
pub noted_in : (rules all : List Rule) (r : Rule) (slots : List Slot) (old d : Slot) (count at place : ℕ) → all ≡ rules ++ r ∷ [] → place ≡ length rules → r.number ≡ at + 1 → at < count → old ≡ get_or slots at d → AreNoted rules slots count
    → AreNoted all (set slots at (slot_with old place)) count
noted_in rules all r slots old d count at place list here number within is noted = subst (λ l. AreNoted l (set slots at (slot_with old place)) count) (sym list) (record {
  counted = length-set slots at (slot_with old place) ∙ noted.counted;
  each = λ n slot found. each n slot found (cases_eq n at);
})
  where
    put : List Slot
    put = set slots at (slot_with old place)

    below : at < length slots
    below = let long = noted.counted in omega (arith, within, long)

    old_at : slice_get slots at ≡ Some old
    old_at = slice_get-get_or slots at d below ∙ ap (λ s. Some s) (sym is)

    each : (n : ℕ) (slot : Slot) → slice_get (set slots at (slot_with old place)) n ≡ Some slot → (n ≡ at) ⊎ (n ≡ at → ⊥) → Notes (rules ++ r ∷ []) (n + 1) slot
    each n slot found (inl same) =
        let is_put : slot ≡ slot_with old place = sym (get_or_from_slice_get (set slots at (slot_with old place)) n slot slot found) ∙ ap (λ k. get_or (set slots at (slot_with old place)) k slot) same ∙ get_or-set_same slots at (slot_with old place) slot below in
        subst (λ s. Notes (rules ++ r ∷ []) (n + 1) s) (sym is_put) (subst (λ k. Notes (rules ++ r ∷ []) (k + 1) (slot_with old place)) (sym same) (notes_more rules r (at + 1) place old number here (noted.each at old old_at)))
    each n slot found (inr other) =
        let inside = slice_get_within (set slots at (slot_with old place)) n slot found in
        let long = length-set slots at (slot_with old place) in
        let was : slice_get slots n ≡ Some slot = slice_get-get_or slots n slot (omega (arith, inside, long)) ∙ ap (λ s. Some s) (sym (get_or-set_other slots at n (slot_with old place) slot other) ∙ get_or_from_slice_get (set slots at (slot_with old place)) n slot slot found) in
        notes_same rules r (n + 1) slot (λ e. other (omega (arith, e, number))) (noted.each n slot was)

-- no rule is noted
pub none_noted : (slots : List Slot) (count : ℕ) → slots ≡ replicate count Missing → AreNoted [] slots count
none_noted slots count e = subst (λ s. AreNoted [] s count) (sym e) (record {
  counted = length-replicate count Missing;
  each = λ n slot at.
      let within = slice_get_within (replicate count Missing) n slot at in
      let long = length-replicate count Missing in
      let is : slot ≡ Missing = sym (get_or_from_slice_get (replicate count Missing) n slot slot at) ∙ get_or-replicate count n Missing slot (omega (arith, within, long)) in
      subst (λ s. Notes [] (n + 1) s) (sym is) (omega arith);
})

-- ---- the hops in the order of their numbers

rule_made : ℕ → Hop → Rule
rule_made n hop = record { number = n; hop = hop }

has_rule : (rules : List Rule) (n place : ℕ) (rule : Rule) → slice_get rules place ≡ Some rule → rule.number ≡ n → HasRule rules n rule.hop
unfolding rule_made
has_rule rules n place rule at number =
    subst (Contains rules) (ap (λ m. rule_made m rule.hop) number) (place, slice_get_within rules place rule at, get_or_from_slice_get rules place rule rule at)

pub none_first : (rules : List Rule) (hops : List Hop) → hops ≡ [] → AreFirstByNumber rules hops 0
none_first rules hops e = record { counted = ap length e; once = λ m above below. absurd (omega (arith, above, below)); each = λ k hop at. absurd (let f = ap (λ hs. slice_get hs k) (sym e) ∙ at in cc) }

hop_cases : (hops : List Hop) (h : Hop) (k : ℕ) (hop : Hop) → slice_get (hops ++ h ∷ []) k ≡ Some hop → (slice_get hops k ≡ Some hop) ⊎ ((k ≡ length hops) × (h ≡ hop))
hop_cases [] h zero hop at = inr (refl, cc)
hop_cases [] h (suc k) hop at = absurd (cc)
hop_cases (x ∷ hops) h zero hop at = inl at
hop_cases (x ∷ hops) h (suc k) hop at = elim (hop_cases hops h k hop at) as (λ v. (slice_get (x ∷ hops) (suc k) ≡ Some hop) ⊎ ((suc k ≡ suc (length hops)) × (h ≡ hop))) [ inl a ↦ inl a | inr b ↦ inr (ap suc b.0, b.1) ]

number_cases : (m n : ℕ) → m < n + 1 + 1 → (m < n + 1) ⊎ (m ≡ n + 1)
number_cases m n below = elim (cases_eq m (n + 1)) as (λ v. (m < n + 1) ⊎ (m ≡ n + 1)) [ inl e ↦ inr e | inr ne ↦ inl (omega (arith, below, ne)) ]

pub one_more : (rules : List Rule) (slots : List Slot) (count n : ℕ) (slot d : Slot) (hops after : List Hop) (b : Bool) → AreNoted rules slots count → slot ≡ get_or slots n d → n < length slots → AddsHop rules slot hops after b → b ≡ true → AreFirstByNumber rules hops n → AreFirstByNumber rules after (n + 1)
one_more rules slots count n slot d hops after false noted is within adds found_one first = absurd (cc)
one_more rules slots count n slot d hops after true noted is within (place, rule, one, at, grown) found_one first =
    subst (λ hs. AreFirstByNumber rules hs (n + 1)) (sym grown) (record {
      counted = let long = first.counted in longer hops rule.hop ∙ ap (λ m. m + 1) long;
      once = λ m above below. elim (number_cases m n below) as (λ v. count_of rules m ≡ 1) [ inl l ↦ first.once m above l | inr e ↦ subst (λ k. count_of rules k ≡ 1) (sym e) told.0 ];
      each = λ k hop found. elim (hop_cases hops rule.hop k hop found) as (λ v. HasRule rules (k + 1) hop) [
        | inl f ↦ first.each k hop f
        | inr l ↦ subst (λ h. HasRule rules (k + 1) h) l.1 (subst (λ i. HasRule rules (i + 1) rule.hop) (sym (l.0 ∙ first.counted)) (has_rule rules (n + 1) place rule at numbered_so))
      ];
    })
  where
    slot_at : slice_get slots n ≡ Some (One place)
    slot_at = slice_get-get_or slots n d within ∙ ap (λ s. Some s) (sym is ∙ one)

    told : Notes rules (n + 1) (One place)
    told = noted.each n (One place) slot_at

    longer : (hs : List Hop) (h : Hop) → length (hs ++ h ∷ []) ≡ length hs + 1
    longer [] h = refl
    longer (x ∷ hs) h = let e = longer hs h in omega (arith, e)

    same_rule : (x y : Rule) → slice_get rules place ≡ Some x → slice_get rules place ≡ Some y → x ≡ y
    same_rule x y e f = cc

    numbered_so : rule.number ≡ n + 1
    numbered_so = ap (λ (r : Rule). r.number) (same_rule rule told.1.0 at told.1.1) ∙ told.1.2

-- a slot without one rule
not_once : (rules : List Rule) (n : ℕ) (slot : Slot) → Notes rules n slot → ((place : ℕ) → slot ≢ One place) → count_of rules n ≢ 1
not_once rules n Missing notes none e = omega (arith, notes, e)
not_once rules n (One place) notes none e = none place refl
not_once rules n Several notes none e = omega (arith, notes, e)

pub misnumbered : (rules : List Rule) (slots : List Slot) (n : ℕ) (slot d : Slot) (hops after : List Hop) (b : Bool) → AreNoted rules slots (length rules) → slot ≡ get_or slots n d → n < length slots → AddsHop rules slot hops after b → b ≡ false → AreFirstByNumber rules hops n → IsFirstMisnumbered rules (n + 1)
misnumbered rules slots n slot d hops after true noted is within adds no_ first = absurd (cc)
misnumbered rules slots n slot d hops after false noted is within none no_ first =
    let slot_at : slice_get slots n ≡ Some slot = slice_get-get_or slots n d within ∙ ap (λ s. Some s) (sym is) in
    let long = noted.counted in
    record {
      above = omega arith;
      within = omega (arith, within, long);
      fails = not_once rules (n + 1) slot (noted.each n slot slot_at) none;
      before = λ m above below. first.once m above below;
    }

pub noted_at : (rules : List Rule) (slots : List Slot) (count n : ℕ) (slot d : Slot) → AreNoted rules slots count → slot ≡ get_or slots n d → n < length slots → (m : ℕ) × Notes rules m slot
noted_at rules slots count n slot d noted is within = (n + 1, noted.each n slot (slice_get-get_or slots n d within ∙ ap (λ s. Some s) (sym is)))
