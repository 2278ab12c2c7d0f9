-- An answer to which a line adds.
use Rattle.std.proofs.Common.{◌≡◌, ◌∙◌, refl, sym, ap, subst, ◌+◌, ◌-◌, List, [], ◌∷◌, ◌++◌, length, append_assoc, Option, Some, Result, arith}
use Rattle.std.specs.Prelude.{slice_get}
use Rattle.std.proofs.lemmas.Option.{slice_get_read}
use Rattle.std.proofs.lemmas.List.{length-append}
use Rattle.std.proofs.Math.Seq.{get_or-append_seam}
use Rattle.line_text.specs.declared.reading.Refused.{Refused}
use Rattle.line_text.specs.Cursor.{Gives}
use Rattle.line_text.specs.Lines.{Line}
use Rattle.device_rules.specs.declared.rules.Rule.{Rule}
use Rattle.device_rules.specs.Rules.{At, Start, In}
use Rattle.domain_config.specs.Saying.{rule_added}
use Rattle.answer_spec.specs.declared.answer.Answer.{Answer}
use Rattle.answer_spec.specs.declared.answer.PotLine.{PotLine}
use Rattle.answer_text.specs.declared.body.BodyLine.{BodyLine}
use Rattle.answer_text.specs.declared.reader.Stage.{Stage}
use Rattle.answer_text.specs.declared.reader.Stage.TheVariants as seen
use Rattle.answer_text.specs.declared.reader.BodyReader.{BodyReader}
use Rattle.answer_text.specs.Leading.{line_step}
use Rattle.answer_text.specs.Reading.{Phase, Rules, Pots, add_rules, add_pot, pots_step, answer_step}
use Rattle.answer_text.specs.Taking.{last_of, phase_at, phase_of, at_in, behind_answer, Takes}

-- what was added is the last
pub last_added : (ps : List PotLine) (p : PotLine) → last_of (ps ++ p ∷ []) ≡ Some p
last_added ps p =
    let one : length (ps ++ p ∷ []) ≡ length ps + 1 = length-append ps (p ∷ []) in
    let place : length (ps ++ p ∷ []) - 1 ≡ length ps = omega (arith, one) in
    ap (slice_get (ps ++ p ∷ [])) place ∙ slice_get_read (ps ++ p ∷ []) (length ps + 1) (length ps) p (sym one) (omega arith) (sym (get_or-append_seam ps p [] p))

-- one more of a list, and then the others
pub one_more : {A : Type 0} (old new later : List A) (x : A) → new ≡ old ++ x ∷ [] → old ++ x ∷ later ≡ new ++ later
one_more {A} old new later x pushed = sym (ap (λ (xs : List A). xs ++ later) pushed ∙ append_assoc old (x ∷ []) later)

abbrev pub with_pots : Answer → List PotLine → Answer
with_pots a pots = record { request = a.request; outcome = a.outcome; hops = a.hops; flags = a.flags; rules = a.rules; potentials = pots }

pub pot_taken : (old : BodyReader) (pots : List PotLine) (p : PotLine) → pots ≡ old.answer.potentials ++ p ∷ [] → Takes old (record { stage = seen.Pots; answer = with_pots old.answer pots }) (Some (Pots (Some p), add_pot p))
pot_taken old pots p pushed = record {
  add = add_pot p;
  leads = ap (λ (last : Option PotLine). Some (Pots last, add_pot p)) (sym (ap last_of pushed ∙ last_added old.answer.potentials p));
  added = λ later. ap (λ (ps : List PotLine). with_pots (behind_answer old.answer later) ps) (one_more old.answer.potentials pots later.potentials p pushed);
}

rule_first : (at : At) (r : Rule) (rs : List Rule) → (rule_added at r).1 rs ≡ r ∷ rs
rule_first Start r rs = refl
rule_first (In domain last) r rs = refl

abbrev pub with_rules : Answer → List Rule → Answer
with_rules a rs = record { request = a.request; outcome = a.outcome; hops = a.hops; flags = a.flags; rules = rs; potentials = a.potentials }

pub rule_taken : (old : BodyReader) (stage : Stage) (rs : List Rule) (r : Rule) → ((pots : List PotLine) → phase_at stage pots ≡ Rules (rule_added (at_in old.stage) r).0) → rs ≡ old.answer.rules ++ r ∷ []
    → Takes old (record { stage = stage; answer = with_rules old.answer rs }) (Some (Rules (rule_added (at_in old.stage) r).0, add_rules (rule_added (at_in old.stage) r).1))
rule_taken old stage rs r leads pushed = record {
  add = add_rules (rule_added (at_in old.stage) r).1;
  leads = ap (λ (t : Phase). Some (t, add_rules (rule_added (at_in old.stage) r).1)) (sym (leads old.answer.potentials));
  added = λ later. ap (λ (qs : List Rule). with_rules (behind_answer old.answer later) qs)
      (ap (λ (qs : List Rule). old.answer.rules ++ qs) (rule_first (at_in old.stage) r later.rules) ∙ one_more old.answer.rules rs later.rules r pushed);
}

-- what a line says behind potentials
pub pots_at : (reader : BodyReader) (result : Result BodyLine Refused) (line : Line) (last : Option PotLine) → reader.stage ≡ seen.Pots → last ≡ last_of reader.answer.potentials
    → Gives (line_step Start) result (pots_step last line) → Gives (line_step (at_in reader.stage)) result (answer_step (phase_of reader) line)
pots_at reader result line last is same given =
    subst (λ (s : Stage). Gives (line_step (at_in s)) result (answer_step (phase_at s reader.answer.potentials) line)) (sym is)
    (subst (λ (l : Option PotLine). Gives (line_step Start) result (pots_step l line)) same given)
