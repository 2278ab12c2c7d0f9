-- What is carried in any order is forwarded too, and the answer of a search is carried.
use Rattle.std.proofs.Common.{◌≡◌, ◌≢◌, ◌⊎◌, inl, inr, ℕ, List, [], ◌∷◌, ◌++◌, Bool, true, false, ◌&&◌, Option, None, Some, Ok, length, map, refl, sym, ◌∙◌, ap, subst}
use Rattle.std.specs.Prelude.{◌↔◌, IsTrue, is_none}
use Rattle.std.specs.List.{All}
use Rattle.std.specs.List.Sorted.{IsPermutation}
use Rattle.std.proofs.lemmas.Bool.{and_parts}
use Rattle.std.proofs.lemmas.List.Elements.{All-cons, All-head, All-nil, All-tail}
use Rattle.std.proofs.lemmas.List.Sorted.{IsPermutation-map, IsPermutation-trans}
use Rattle.ml_base.proofs.Lists.{one_ok}
use Rattle.circuit_spec.specs.declared.hops.Hop.{Hop}
use Rattle.circuit_spec.specs.declared.hops.Outcome.{Outcome}
use Rattle.circuit_spec.specs.declared.hops.Outcome.TheVariants.{Found, NoWalk, Past, Long}
use Rattle.circuit_spec.specs.declared.hops.PlaceName.{PlaceName}
use Rattle.circuit_spec.specs.declared.hops.Request.{Request}
use Rattle.circuit_spec.specs.Flags.{flags_after}
use Rattle.circuit_spec.specs.Network.{Topology, Port}
use Rattle.circuit_spec.specs.Steps.{Ends, Joins, Walk, unit_at}
use Rattle.circuit_spec.proofs.ClassLemmas.{one_class}
use Rattle.device_rules.specs.declared.rules.Rule.{Rule}
use Rattle.line_text.specs.Lines.{text_of}
use Rattle.device_rules.specs.Numbering.{numbered}
use Rattle.line_text.proofs.LineLaws.{text_read}
use Rattle.table_replay.specs.Forwarding.{ForwardsFrom, arrived}
use Rattle.table_replay.specs.Walked.{AreRulesInAnyOrder, AreUnflagged, AreUnset}
use Rattle.table_replay.proofs.Places.{make_place}
use Rattle.table_replay.proofs.Plain.{plain_forwarded}
use Rattle.answer_spec.specs.declared.answer.Answer.{Answer}
use Rattle.answer_spec.specs.Arriving.{start_of}
use Rattle.answer_spec.specs.Certificate.{AreFlagged, first_place}
use Rattle.answer_text.specs.Document.{answer_in}
use Rattle.answer_spec.specs.Exact.{AreHopsOf, IsExactAnswer}
use Rattle.answer_text.specs.Reading.{Nothing, answer_step, answer_end}
use Rattle.answer_spec.specs.WellFormed.{IsWellFormed}
use Rattle.answer_text.specs.Spelling.{lines_of}
use Rattle.answer_text.proofs.AnswerLaws.{document_only, lines_whole}
use Rattle.answer_spec.proofs.Carried.{begins_with}
use Rattle.rule_replay.specs.declared.replayed.Replayed.TheVariants.{Carried}
use Rattle.rule_replay.specs.Laws.{IsForwardedToo, are_unset, end_of}
use Rattle.rule_replay.specs.Replaying.{AreByNumber, IsFound, IsReplayed, IsUnflagged, Spells}
use Rattle.rule_replay.proofs.Numbers.{hops_numbered}
use Rattle.rule_replay.proofs.Running.{one_entry}

-- a text spells one answer

read_again : (a : Answer) → IsWellFormed a → answer_in (text_of (lines_of a)) ≡ Ok a
read_again a w = text_read answer_step answer_end Nothing (lines_of a) a (lines_whole a w) (document_only a w)

pub one_text : (a b : Answer) (bytes : List ℕ) → Spells bytes a → Spells bytes b → a ≡ b
one_text a b bytes (w, e) (v, f) = one_ok (answer_in bytes) a b (ap answer_in e ∙ read_again a w) (ap answer_in f ∙ read_again b v)

-- forwarding

start_unflagged : (T : Topology) (r : Request) (hops : List Hop) (ends : Ends T r) → Joins ends hops [] → IsUnflagged T r hops → AreUnflagged T (start_of ends) hops
start_unflagged T r [] ends joins is = ([], ([], refl, refl), All-nil (λ (flag : Option ℕ). flag ≡ None))
start_unflagged T r (h ∷ hops) ends joins (class, is, unflagged) =
    let one = one_class T r.from class ends.from is ends.from_allowed.place.is_class in
    let label = begins_with T r.from_wish ends.from ends.from_label h hops (unit_at ends.to ends.to_label []) ends.from_allowed.wished joins in
    let place : first_place class r (h ∷ hops) ≡ start_of ends = ap (λ (p : Port). first_place p r (h ∷ hops)) one ∙ ap (make_place ends.from.id) (sym label) in
    subst (λ p. AreUnflagged T p (h ∷ hops)) place unflagged

any_order : (hops : List Hop) (rules others : List Rule) → AreByNumber rules hops → IsPermutation rules others → AreRulesInAnyOrder hops others
any_order hops rules others by moved =
    subst (λ l. IsPermutation l (map (λ (rule : Rule). rule.hop) others)) (hops_numbered hops 1)
    (IsPermutation-map (λ (rule : Rule). rule.hop) (numbered 1 hops) others (IsPermutation-trans (numbered 1 hops) rules others by moved))

pub carried_forward : (T : Topology) (bytes : List ℕ) (n : ℕ) → IsReplayed T bytes (Carried n true) → IsForwardedToo T bytes
carried_forward T bytes n (a, hops, is, count, (ends, joins), any) = record {
  answer = a;
  hops = hops;
  ordered = is;
  ends = ends;
  walk = joins;
  forwards = λ rules moved. plain_forwarded T rules (end_of ends) (start_of ends) hops (record { run = joins; unflagged = start_unflagged T a.request hops ends joins (any.0 refl) }) (any_order hops a.rules rules is.by_number moved);
}

-- the answer of a search

found_walk : (T : Topology) (r : Request) (outcome : Outcome) (hops : List Hop) → AreHopsOf T r outcome hops → IsFound outcome → Walk T r hops
found_walk T r (Found cost count) hops are found = are.0
found_walk T r NoWalk hops are found = absurd found
found_walk T r Past hops are found = absurd found
found_walk T r (Long cost count) hops are found = absurd found

unset_all : (flags : List (Option ℕ)) → are_unset flags ≡ true → AreUnset flags
unset_all [] t = All-nil (λ (flag : Option ℕ). flag ≡ None)
unset_all (None ∷ flags) t = All-cons (λ (flag : Option ℕ). flag ≡ None) None flags refl (unset_all flags t)
unset_all (Some j ∷ flags) t = absurd (cc)

all_unset : (flags : List (Option ℕ)) → AreUnset flags → are_unset flags ≡ true
all_unset [] all = refl
all_unset (None ∷ flags) all = all_unset flags (All-tail (λ (flag : Option ℕ). flag ≡ None) None flags all)
all_unset (Some j ∷ flags) all = absurd (let e = All-head (λ (flag : Option ℕ). flag ≡ None) (Some j) flags all in cc)

flags_say : (T : Topology) (r : Request) (hops : List Hop) (flags : List (Option ℕ)) → AreFlagged T r hops flags → IsTrue (are_unset flags) ↔ IsUnflagged T r hops
flags_say T r hops flags (class, is, (places, enters, e)) = (λ t. (class, is, (flags, (places, enters, e), unset_all flags t)), back)
  where
    back : IsUnflagged T r hops → IsTrue (are_unset flags)
    back (other, its, (theirs, (entered, they_enter, f), none)) =
        let one = one_class T r.from other class its is in
        let same = one_entry T hops entered places they_enter enters in
        let list : theirs ≡ flags = f ∙ ap (λ (p : Port). flags_after (first_place p r hops ∷ []) entered) one ∙ ap (flags_after (first_place class r hops ∷ [])) same ∙ sym e in
        all_unset flags (subst AreUnset list none)

pub exact_carried : (T : Topology) (a : Answer) → IsExactAnswer T a → IsWellFormed a → IsFound a.outcome → IsReplayed T (text_of (lines_of a)) (Carried (length a.hops) (are_unset a.flags))
exact_carried T a exact well found = (
  a,
  a.hops,
  record { asked = record { spells = (well, refl); found = found; known = exact.known }; by_number = exact.rules.same },
  refl,
  found_walk T a.request a.outcome a.hops exact.hops found,
  flags_say T a.request a.hops a.flags exact.flags,
)
