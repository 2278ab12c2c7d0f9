-- A list that is written piece by piece.
use Rattle.std.proofs.Common.{◌≡◌, ◌∙◌, sym, ap, ℕ, suc, ◌+◌, ◌<◌, List, [], ◌∷◌, ◌++◌, length, drop, get_or, add-one}
use Rattle.std.specs.Prelude.{codes, None}
use Rattle.std.proofs.lemmas.List.{append-nil}
use Rattle.ml_base.specs.declared.ends.KEnd.{KEnd}
use Rattle.circuit_spec.specs.declared.hops.Hop.{Hop}
use Rattle.circuit_spec.specs.declared.hops.Request.{Request}
use Rattle.device_rules.proofs.Items.{at_item}
use Rattle.line_text.specs.Lines.{Line, text_of}
use Rattle.line_text.proofs.Writes.{lines_join}
use Rattle.answer_text.specs.Spelling.{hop_line, request_line}
use Rattle.k_answers.specs.declared.answer.KAnswer.{KAnswer}
use Rattle.k_answers.specs.declared.answer.KHops.{KHops}
use Rattle.k_text.specs.Listing.{heading_lines, walk_lines, walks_lines, unflagged_lines, more_line, end_lines, k_lines_of}

-- a line as it is printed
abbrev pub printed : Line → List ℕ
printed line = line ++ 10 ∷ []

-- ---- items that are left

pub hop_left : (hs : List Hop) (i : ℕ) (h : Hop) → h ≡ get_or hs i h → i < length hs
    → text_of (unflagged_lines (i + 1) (drop i hs)) ≡ printed (hop_line (i + 1) h None) ++ text_of (unflagged_lines (i + 1 + 1) (drop (i + 1) hs))
hop_left hs i h is lt =
    ap (λ (xs : List Hop). text_of (unflagged_lines (i + 1) xs)) (at_item hs i h is lt)
    ∙ ap (λ (k : ℕ). printed (hop_line (i + 1) h None) ++ text_of (unflagged_lines k (drop (i + 1) hs))) (sym (add-one (i + 1)))

pub walk_left : (ws : List KHops) (i : ℕ) (w : KHops) → w ≡ get_or ws i w → i < length ws
    → text_of (walks_lines (i + 1) (drop i ws)) ≡ text_of (walk_lines (i + 1) w) ++ text_of (walks_lines (i + 1 + 1) (drop (i + 1) ws))
walk_left ws i w is lt =
    ap (λ (xs : List KHops). text_of (walks_lines (i + 1) xs)) (at_item ws i w is lt)
    ∙ lines_join (walk_lines (i + 1) w) (walks_lines (suc (i + 1)) (drop (i + 1) ws))
    ∙ ap (λ (k : ℕ). text_of (walk_lines (i + 1) w) ++ text_of (walks_lines k (drop (i + 1) ws))) (sym (add-one (i + 1)))

-- ---- the text

pub two_lines : (first second : Line) → text_of (first ∷ second ∷ []) ≡ printed first ++ printed second
two_lines first second = ap (λ (t : List ℕ). printed first ++ t) (append-nil (printed second))

abbrev pub heading : Request → List ℕ
heading r = printed (codes "circuits 1") ++ printed (request_line r)

abbrev pub ending : KEnd → List ℕ
ending end = printed (more_line end) ++ printed (codes "end")

pub whole_text : (a : KAnswer) → text_of (k_lines_of a) ≡ heading a.request ++ (text_of (walks_lines 1 a.walks) ++ ending a.end)
whole_text a =
    lines_join (heading_lines a.request) (walks_lines 1 a.walks ++ end_lines a.end)
    ∙ ap (λ (t : List ℕ). t ++ text_of (walks_lines 1 a.walks ++ end_lines a.end)) (two_lines (codes "circuits 1") (request_line a.request))
    ∙ ap (λ (t : List ℕ). heading a.request ++ t)
    (lines_join (walks_lines 1 a.walks) (end_lines a.end) ∙ ap (λ (t : List ℕ). text_of (walks_lines 1 a.walks) ++ t) (two_lines (more_line a.end) (codes "end")))
