-- The printed list of the cheapest walks of a request: its lines.
--   heading_lines   the version, and the request
--   walk_lines      a walk of this number with its weight, and its hops
--   end_lines       why no more are listed, and the last line
--   k_lines_of      all lines
use Rattle.std.specs.Prelude.{ℕ, suc, List, [], ◌∷◌, ◌++◌, None, codes, decimal}
use Rattle.ml_base.specs.declared.ends.KEnd.{KEnd}
use Rattle.ml_base.specs.declared.ends.KEnd.TheVariants.{Enough, NoMore, Past, Long}
use Rattle.ml_base.specs.declared.weight.Weight.{Weight}
use Rattle.circuit_spec.specs.declared.hops.Hop.{Hop}
use Rattle.circuit_spec.specs.declared.hops.Request.{Request}
use Rattle.line_text.specs.Lines.{Line}
use Rattle.line_text.specs.Fields.{spaced}
use Rattle.answer_text.specs.Spelling.{request_line, hop_line, weight_words}
use Rattle.k_answers.specs.declared.answer.KAnswer.{KAnswer}
use Rattle.k_answers.specs.declared.answer.KHops.{KHops}

abbrev pub heading_lines : Request → List Line
heading_lines r = codes "circuits 1" ∷ request_line r ∷ []

abbrev pub walk_line : ℕ → Weight → Line
walk_line n weight = spaced (codes "walk" ∷ decimal n ∷ weight_words weight)

-- hops numbered from n, as a document has them, and without flags
abbrev pub unflagged_lines : ℕ → List Hop → List Line
unflagged_lines n [] = []
unflagged_lines n (h ∷ hs) = hop_line n h None ∷ unflagged_lines (suc n) hs

abbrev pub walk_lines : ℕ → KHops → List Line
walk_lines n w = walk_line n w.weight ∷ unflagged_lines 1 w.hops

-- walks numbered from n
abbrev pub walks_lines : ℕ → List KHops → List Line
walks_lines n [] = []
walks_lines n (w ∷ ws) = walk_lines n w ++ walks_lines (suc n) ws

abbrev pub more_line : KEnd → Line
more_line Enough = spaced (codes "more" ∷ codes "enough" ∷ [])
more_line NoMore = spaced (codes "more" ∷ codes "none" ∷ [])
more_line Past = spaced (codes "more" ∷ codes "past" ∷ [])
more_line (Long cost hops) = spaced (codes "more" ∷ codes "long" ∷ decimal cost ∷ decimal hops ∷ [])

abbrev pub end_lines : KEnd → List Line
end_lines end = more_line end ∷ codes "end" ∷ []

-- the one spelling of a list
abbrev pub k_lines_of : KAnswer → List Line
k_lines_of a = heading_lines a.request ++ (walks_lines 1 a.walks ++ end_lines a.end)
