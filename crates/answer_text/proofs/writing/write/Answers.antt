use Rattle.std.proofs.Common.{◌≡◌, ◌∙◌, refl, ℕ, List, [], ◌∷◌, ◌++◌, map, sym, ap, subst, Option}
use Rattle.std.specs.Prelude.{codes}
use Rattle.std.specs.Io.KnownBytes.{Appends}
use Rattle.circuit_spec.specs.declared.hops.Hop.{Hop}
use Rattle.line_text.specs.Lines.{text_of}
use Rattle.device_rules.specs.Rules.{Start}
use Rattle.domain_config.specs.Rules.{rule_lines}
use Rattle.line_text.proofs.Writes.{Told, IsUnderway, begun, same_left, one_more, made_cut, all_written}
use Rattle.answer_spec.specs.declared.answer.Answer.{Answer}
use Rattle.answer_spec.specs.declared.answer.PotLine.{PotLine}
use Rattle.answer_text.specs.Spelling.{heading_lines, hop_lines, pot_line, lines_of}
use Rattle.answer_spec.specs.WellFormed.{AreHops, IsWellFormed}
use Rattle.answer_text.proofs.Written.{whole_text, hops_fit, rules_fit}
use Rattle.answer_text.proofs.writing.write.Goals as goal

abbrev heading : Answer → List ℕ
heading a = text_of (heading_lines a)

abbrev hops : Answer → List ℕ
hops a = text_of (hop_lines 1 a.hops a.flags)

abbrev rules_text : Answer → List ℕ
rules_text a = text_of (rule_lines Start a.rules)

abbrev pots : Answer → List ℕ
pots a = text_of (map pot_line a.potentials)

abbrev end : List ℕ
end = codes "end" ++ 10 ∷ []

-- what is left behind each part
abbrev after_pots : List ℕ
after_pots = end ++ []

abbrev after_rules : Answer → List ℕ
after_rules a = pots a ++ after_pots

abbrev after_hops : Answer → List ℕ
after_hops a = rules_text a ++ after_rules a

abbrev after_heading : Answer → List ℕ
after_heading a = hops a ++ after_hops a

abbrev IsLeft : Answer → Told → Told → List ℕ → Type 0
IsLeft a start now left = IsUnderway start now (text_of (lines_of a)) left

at_start : (a : Answer) (start : Told) → IsLeft a start start (heading a ++ after_heading a)
at_start a start = same_left start start (text_of (lines_of a)) _ _ (whole_text a) (begun start (text_of (lines_of a)))

with_heading : (a : Answer) (s t : Told) → Appends s t (heading a) → IsLeft a s t (after_heading a)
with_heading a s t p = one_more s s t (text_of (lines_of a)) (heading a) (after_heading a) (at_start a s) p

with_hops : (a : Answer) (s t u : Told) → Appends s t (heading a) → Appends t u (hops a) → IsLeft a s u (after_hops a)
with_hops a s t u p q = one_more s t u (text_of (lines_of a)) (hops a) (after_hops a) (with_heading a s t p) q

with_rules : (a : Answer) (s t u v : Told) → Appends s t (heading a) → Appends t u (hops a) → Appends u v (rules_text a) → IsLeft a s v (after_rules a)
with_rules a s t u v p q r = one_more s u v (text_of (lines_of a)) (rules_text a) (after_rules a) (with_hops a s t u p q) r

with_pots : (a : Answer) (s t u v w : Told) → Appends s t (heading a) → Appends t u (hops a) → Appends u v (rules_text a) → Appends v w (pots a) → IsLeft a s w after_pots
with_pots a s t u v w p q r o = one_more s v w (text_of (lines_of a)) (pots a) after_pots (with_rules a s t u v p q r) o

-- the lists as slices
hops_are : (a : Answer) (hs : List Hop) (fs : List (Option ℕ)) → hs ≡ a.hops → fs ≡ a.flags → text_of (hop_lines 1 hs fs) ≡ hops a
hops_are a hs fs h f = ap (λ (xs : List Hop). text_of (hop_lines 1 xs fs)) h ∙ ap (λ (ys : List (Option ℕ)). text_of (hop_lines 1 a.hops ys)) f

hops_written : (a : Answer) (hs : List Hop) (fs : List (Option ℕ)) (t u : Told) → hs ≡ a.hops → fs ≡ a.flags → Appends t u (text_of (hop_lines 1 hs fs)) → Appends t u (hops a)
hops_written a hs fs t u h f p = subst (λ (text : List ℕ). Appends t u text) (hops_are a hs fs h f) p

pots_are : (a : Answer) (ps : List PotLine) → ps ≡ a.potentials → text_of (map pot_line ps) ≡ pots a
pots_are a ps e = ap (λ (qs : List PotLine). text_of (map pot_line qs)) e

pots_written : (a : Answer) (ps : List PotLine) (t u : Told) → ps ≡ a.potentials → Appends t u (text_of (map pot_line ps)) → Appends t u (pots a)
pots_written a ps t u e p = subst (λ (text : List ℕ). Appends t u text) (pots_are a ps e) p

hops_due : (a : Answer) (hs : List Hop) (fs : List (Option ℕ)) → hs ≡ a.hops → fs ≡ a.flags → IsWellFormed a → AreHops 1 hs fs
hops_due a hs fs h f w = subst (λ (xs : List Hop). AreHops 1 xs fs) (sym h) (subst (λ (ys : List (Option ℕ)). AreHops 1 a.hops ys) (sym f) (hops_fit a w))

pub write_hops-requires : goal.write_hops-requires
write_hops-requires g c = hops_due c.args.answer.now _ _ c.as_slice.ensures c.as_slice-2.ensures c.requires

pub write_rules-requires : goal.write_rules-requires
write_rules-requires g c = rules_fit c.args.answer.now c.requires

pub returns-in_err-write_heading-clause-front : goal.returns-in_err-write_heading-clause-front
returns-in_err-write_heading-clause-front g c =
    let a = c.args.answer.now in
    let s = g.K.Sink.written c.args.out.now in
    made_cut c.from_residual.result s s _ (text_of (lines_of a)) (heading a) _ (after_heading a) refl (at_start a s) c.in_err-write_heading.ensures.front

pub returns-in_err-write_hops-clause-front : goal.returns-in_err-write_hops-clause-front
returns-in_err-write_hops-clause-front g c =
    let a = c.args.answer.now in
    let s = g.K.Sink.written c.args.out.now in
    let t = g.K.Sink.written c.write_heading.new.out in
    made_cut c.from_residual-in_err-write_hops.result s t _ (text_of (lines_of a)) (hops a) _ (after_hops a) (hops_are a _ _ c.as_slice.ensures c.as_slice-2.ensures) (with_heading a s t c.in_ok-write_heading.ensures.ok) c.in_err-write_hops.ensures.front

pub returns-in_err-write_rules-clause-front : goal.returns-in_err-write_rules-clause-front
returns-in_err-write_rules-clause-front g c =
    let a = c.args.answer.now in
    let s = g.K.Sink.written c.args.out.now in
    let t = g.K.Sink.written c.write_heading.new.out in
    let u = g.K.Sink.written c.write_hops.new.out in
    made_cut c.from_residual-in_err-write_rules.result s u _ (text_of (lines_of a)) (rules_text a) _ (after_rules a) refl (with_hops a s t u c.in_ok-write_heading.ensures.ok (hops_written a _ _ t u c.as_slice.ensures c.as_slice-2.ensures c.in_ok-write_hops.ensures.ok)) c.in_err-write_rules.ensures.front

pub returns-in_err-write_pots-clause-front : goal.returns-in_err-write_pots-clause-front
returns-in_err-write_pots-clause-front g c =
    let a = c.args.answer.now in
    let s = g.K.Sink.written c.args.out.now in
    let t = g.K.Sink.written c.write_heading.new.out in
    let u = g.K.Sink.written c.write_hops.new.out in
    let v = g.K.Sink.written c.write_rules.new.out in
    made_cut c.from_residual-in_err-write_pots.result s v _ (text_of (lines_of a)) (pots a) _ after_pots (pots_are a _ c.as_slice-3.ensures) (with_rules a s t u v c.in_ok-write_heading.ensures.ok (hops_written a _ _ t u c.as_slice.ensures c.as_slice-2.ensures c.in_ok-write_hops.ensures.ok) c.in_ok-write_rules.ensures.ok) c.in_err-write_pots.ensures.front

pub returns-in_err-write_end-clause-front : goal.returns-in_err-write_end-clause-front
returns-in_err-write_end-clause-front g c =
    let a = c.args.answer.now in
    let s = g.K.Sink.written c.args.out.now in
    let t = g.K.Sink.written c.write_heading.new.out in
    let u = g.K.Sink.written c.write_hops.new.out in
    let v = g.K.Sink.written c.write_rules.new.out in
    let w = g.K.Sink.written c.write_pots.new.out in
    made_cut c.from_residual-in_err-write_end.result s w _ (text_of (lines_of a)) end _ [] refl (with_pots a s t u v w c.in_ok-write_heading.ensures.ok (hops_written a _ _ t u c.as_slice.ensures c.as_slice-2.ensures c.in_ok-write_hops.ensures.ok) c.in_ok-write_rules.ensures.ok (pots_written a _ v w c.as_slice-3.ensures c.in_ok-write_pots.ensures.ok)) c.in_err-write_end.ensures.front

pub returns-clause-ok : goal.returns-clause-ok
returns-clause-ok g c =
    let a = c.args.answer.now in
    let s = g.K.Sink.written c.args.out.now in
    let t = g.K.Sink.written c.write_heading.new.out in
    let u = g.K.Sink.written c.write_hops.new.out in
    let v = g.K.Sink.written c.write_rules.new.out in
    let w = g.K.Sink.written c.write_pots.new.out in
    let x = g.K.Sink.written c.write_end.new.out in
    all_written s x (text_of (lines_of a)) [] refl (one_more s w x (text_of (lines_of a)) end [] (with_pots a s t u v w c.in_ok-write_heading.ensures.ok (hops_written a _ _ t u c.as_slice.ensures c.as_slice-2.ensures c.in_ok-write_hops.ensures.ok) c.in_ok-write_rules.ensures.ok (pots_written a _ v w c.as_slice-3.ensures c.in_ok-write_pots.ensures.ok)) c.in_ok-write_end.ensures.ok)
