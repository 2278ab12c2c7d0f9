-- The text of sizes: what is read is spelled so, what is spelled so is read, and each front can be finished.
use Rattle.std.proofs.Common.{◌≡◌, ◌∙◌, refl, ap, subst, ℕ, ◌<◌, ◌^◌, List, [], ◌∷◌, ◌++◌, Bool, true, false, cond, Option, Some, None, arith}
use Rattle.std.specs.Prelude.{IsTrue, option_map, decimal}
use Rattle.std.specs.List.{AllByRecursion}
use Rattle.std.specs.Str.{bytes_eq}
use Rattle.std.proofs.lemmas.Slice.Eq.{bytes_eq-Decides}
use Rattle.line_text.specs.Lines.{Line, said}
use Rattle.line_text.specs.Fields.{Word, words_in, spaced, entry_of, Done, done}
use Rattle.place_names.specs.Names.{is_id}
use Rattle.line_text.proofs.LineLaws.{IsGrammar}
use Rattle.line_text.proofs.Words.{IsAbove, IsField, IsRow, number_field, id_field, and_row, and_words, done_row, done_words, found_entry, words_again, spaced_line, line_is, kept}
use Rattle.line_fault.specs.Answering.{led}
use Rattle.line_fault.proofs.Led.{led_said, said_led}
use Rattle.sizes_text.specs.declared.line.Measure.{Measure}
use Rattle.sizes_text.specs.declared.line.Measure.TheVariants.{Overhead, Octets}
use Rattle.sizes_text.specs.declared.line.SizeLine.{SizeLine}
use Rattle.sizes_text.specs.Table.{SizeTable, nothing, with_size, IsSize, Tell, AreSizes}
use Rattle.sizes_text.specs.Text.{measure_word, heading, ending, size_line, lines_to_end, size_lines, IsSizesText}
use Rattle.sizes_text.specs.Reading.{At, Start, In, Ended, measures, SizeWords, size_words_of, size_of, size_in, noted, sizes_step, sizes_end}

-- ---- one line

measure_again : (m : Measure) → entry_of measures (measure_word m) ≡ Some m
measure_again Overhead = refl
measure_again Octets = refl

measure_plain : (m : Measure) → IsAbove 32 (measure_word m)
measure_plain Overhead = refl
measure_plain Octets = refl

measure_field : IsField (λ m. Unit {0}) measure_word (entry_of measures)
measure_field = record {
  found = λ word m e. (found_entry measure_word measures (refl, (refl, tt)) word m e, tt);
  again = λ m h. measure_again m;
  plain = λ m h. measure_plain m;
}

abbrev FitsWords : SizeWords → Type 0
FitsWords t = Unit {0} × (IsTrue (is_id t.rest.head) × ((t.rest.rest.head < 2 ^ 16) × Unit {0}))

abbrev spelled_words : SizeWords → List Word
spelled_words = and_words measure_word (and_words (λ w. w) (and_words decimal done_words))

size_row : IsRow FitsWords spelled_words size_words_of
size_row = and_row measure_field (and_row id_field (and_row (number_field (2 ^ 16) (omega arith)) done_row))

abbrev words_for : SizeLine → SizeWords
words_for size = record { head = size.measure; rest = record { head = size.id; rest = record { head = size.number; rest = done } } }

words_fit : (size : SizeLine) → IsSize size → FitsWords (words_for size)
words_fit size h = (tt, (h.id, (h.number, tt)))

size_words : (size : SizeLine) → IsSize size → words_in (size_line size) ≡ measure_word size.measure ∷ size.id ∷ decimal size.number ∷ []
size_words size h =
    let plain = size_row.plain (words_for size) (words_fit size h) in
    words_again (measure_word size.measure) (size.id ∷ decimal size.number ∷ []) plain

size_again : (size : SizeLine) → IsSize size → size_in (words_in (size_line size)) ≡ Some size
size_again size h = ap size_in (size_words size h) ∙ ap (option_map size_of) (size_row.again (words_for size) (words_fit size h))

mapped : (o : Option SizeWords) (size : SizeLine) → option_map size_of o ≡ Some size → (t : SizeWords) × (o ≡ Some t) × (size_of t ≡ size)
mapped None size e = absurd cc
mapped (Some t) size e = (t, refl, cc)

spelled_for : (t : SizeWords) → spaced (spelled_words t) ≡ size_line (size_of t)
spelled_for t = by_done t.head t.rest.head t.rest.rest.head t.rest.rest.rest
  where
    by_done : (m : Measure) (id : Word) (n : ℕ) (d : Done) → spaced (measure_word m ∷ id ∷ decimal n ∷ done_words d) ≡ spaced (measure_word m ∷ id ∷ decimal n ∷ [])
    by_done m id n done = refl

-- a line that is read is the line of the size
size_found : (line : Line) (size : SizeLine) → size_in (words_in line) ≡ Some size → (line ≡ size_line size) × IsSize size
size_found line size e =
    let m = mapped (size_words_of (words_in line)) size e in
    let f = size_row.found (words_in line) m.0 m.1 in
    (line_is line (spelled_words m.0) f.0 ∙ spelled_for m.0 ∙ ap size_line m.2, subst IsSize m.2 (record { id = f.1.1.0; number = f.1.1.1.0 }))

-- ---- what is spelled so is read

abbrev says : At → List Line → Option SizeTable
says = said (led sizes_step) sizes_end

at_end : (table : SizeTable) → sizes_step (In table) ending ≡ Some (Ended table)
at_end table = refl

-- a line of sizes is not the last one
apart : (m : Measure) (rest : List ℕ) → bytes_eq (measure_word m ++ 32 ∷ rest) ending ≡ false
apart Overhead rest = refl
apart Octets rest = refl

steps_in : (table next : SizeTable) (size : SizeLine) → IsSize size → with_size table size ≡ Some next → sizes_step (In table) (size_line size) ≡ Some (In next)
steps_in table next size h grows =
    ap (λ (t : Bool). cond t (Some (Ended table)) (noted table (size_in (words_in (size_line size))))) (apart size.measure (spaced (size.id ∷ decimal size.number ∷ [])))
    ∙ ap (noted table) (size_again size h)
    ∙ ap (option_map In) grows

sizes_said : (sizes : List SizeLine) (table whole : SizeTable) → Tell sizes table whole → says (In table) (lines_to_end sizes) ≡ Some whole
sizes_said [] table whole h = led_said sizes_step sizes_end (In table) (Ended table) ending [] (at_end table) ∙ ap (λ (t : SizeTable). Some t) h
sizes_said (size ∷ sizes) table whole (next, fits, grows, later) =
    led_said sizes_step sizes_end (In table) (In next) (size_line size) (lines_to_end sizes) (steps_in table next size fits grows)
    ∙ sizes_said sizes next whole later

pub sizes_only : (sizes : List SizeLine) (whole : SizeTable) → AreSizes sizes whole → says Start (size_lines sizes) ≡ Some whole
sizes_only sizes whole h = led_said sizes_step sizes_end Start (In nothing) heading (lines_to_end sizes) refl ∙ sizes_said sizes nothing whole h

-- ---- what is read is spelled so

pub record AreSaid (table : SizeTable) (lines : List Line) (whole : SizeTable) : Type 0 where
  pub sizes : List SizeLine
  pub told : Tell sizes table whole
  pub spelled : lines ≡ lines_to_end sizes

grown : (o : Option SizeTable) (at : At) → option_map In o ≡ Some at → (next : SizeTable) × (o ≡ Some next) × (In next ≡ at)
grown None at e = absurd cc
grown (Some next) at e = (next, refl, cc)

noted_is : (table : SizeTable) (o : Option SizeLine) (at : At) → noted table o ≡ Some at → (size : SizeLine) × (o ≡ Some size) × (next : SizeTable) × (with_size table size ≡ Some next) × (In next ≡ at)
noted_is table None at e = absurd cc
noted_is table (Some size) at e =
    let g = grown (with_size table size) at e in
    (size, refl, g.0, g.1, g.2)

ended : (lines : List Line) (table whole : SizeTable) → says (Ended table) lines ≡ Some whole → (lines ≡ []) × (table ≡ whole)
ended [] table whole e = (refl, cc)
ended (line ∷ lines) table whole e =
    let l = said_led sizes_step sizes_end (Ended table) line lines whole e in
    absurd (never l.0 l.1)
  where
    never : (at : At) → None ≡ Some at → ⊥
    never at f = absurd cc

sizes_found : (lines : List Line) (table whole : SizeTable) → says (In table) lines ≡ Some whole → AreSaid table lines whole
sizes_found [] table whole e = absurd cc
sizes_found (line ∷ lines) table whole e =
    let l = said_led sizes_step sizes_end (In table) line lines whole e in
    by_end (λ next f. sizes_found lines next whole f) l.0 l.2 (bytes_eq line ending) refl l.1
  where
    by_end : ((next : SizeTable) → says (In next) lines ≡ Some whole → AreSaid next lines whole) → (at : At) → says at lines ≡ Some whole → (t : Bool) → bytes_eq line ending ≡ t → cond t (Some (Ended table)) (noted table (size_in (words_in line))) ≡ Some at → AreSaid table (line ∷ lines) whole
    by_end behind at later true same step =
        let is : Ended table ≡ at = cc in
        let f = ended lines table whole (ap (λ (a : At). says a lines) is ∙ later) in
        record { sizes = []; told = f.1; spelled = ap (λ (k : Line). k ∷ lines) ((bytes_eq-Decides line ending).0 same) ∙ ap (λ (ls : List Line). ending ∷ ls) f.0 }
    by_end behind at later false other step =
        let n = noted_is table (size_in (words_in line)) at step in
        let s = size_found line n.0 n.1 in
        let rest = behind n.2 (ap (λ (a : At). says a lines) n.4 ∙ later) in
        record { sizes = n.0 ∷ rest.sizes; told = (n.2, s.1, n.3, rest.told); spelled = ap (λ (k : Line). k ∷ lines) s.0 ∙ ap (λ (ls : List Line). size_line n.0 ∷ ls) rest.spelled }

-- behind the first line
pub whole_found : (lines : List Line) (whole : SizeTable) → says Start lines ≡ Some whole → (sizes : List SizeLine) × AreSizes sizes whole × (lines ≡ size_lines sizes)
whole_found [] whole e = absurd cc
whole_found (line ∷ lines) whole e =
    let l = said_led sizes_step sizes_end Start line lines whole e in
    let k = kept (bytes_eq line heading) (In nothing) l.0 l.1 in
    let s = sizes_found lines nothing whole (ap (λ (a : At). says a lines) k.1 ∙ l.2) in
    (s.sizes, s.told, ap (λ (k : Line). k ∷ lines) ((bytes_eq-Decides line heading).0 k.0) ∙ ap (λ (ls : List Line). heading ∷ ls) s.spelled)

-- ---- each state can be finished

sizes_finished : (at : At) → (more : List Line) × (table : SizeTable) × (says at more ≡ Some table)
sizes_finished Start = (size_lines [], nothing, sizes_only [] nothing refl)
sizes_finished (In table) = (ending ∷ [], table, sizes_said [] table table refl)
sizes_finished (Ended table) = ([], table, refl)

pub sizes_grammar : IsGrammar (led sizes_step) sizes_end Start IsSizesText
sizes_grammar = record {
  found = λ lines whole e. let f = whole_found lines whole e in (f.0, whole, f.1, f.2);
  only = λ lines (sizes, table, told, spelled). (table, ap (says Start) spelled ∙ sizes_only sizes table told);
  finished = sizes_finished;
}

-- ---- no line has a newline

to_end_whole : (sizes : List SizeLine) (table whole : SizeTable) → Tell sizes table whole → AllByRecursion (IsAbove 10) (lines_to_end sizes)
to_end_whole [] table whole h = (refl, tt)
to_end_whole (size ∷ sizes) table whole (next, fits, grows, later) =
    (spaced_line (measure_word size.measure ∷ size.id ∷ decimal size.number ∷ []) (size_row.plain (words_for size) (words_fit size fits)), to_end_whole sizes next whole later)

pub size_lines_whole : (sizes : List SizeLine) (whole : SizeTable) → AreSizes sizes whole → AllByRecursion (IsAbove 10) (size_lines sizes)
size_lines_whole sizes whole h = (refl, to_end_whole sizes nothing whole h)
