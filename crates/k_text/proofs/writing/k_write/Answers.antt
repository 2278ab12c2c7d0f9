use Rattle.std.proofs.Common.{◌≡◌, sym, subst, ℕ, List, ◌++◌}
use Rattle.std.specs.Io.KnownBytes.{Appends}
use Rattle.io_edges.specs.Stores.{AppendsFront}
use Rattle.io_edges.proofs.Written.{Appends-join}
use Rattle.line_text.specs.Lines.{text_of}
use Rattle.line_text.proofs.Writes.{Told, front_behind, front_of_more, on_err}
use Rattle.k_answers.specs.declared.answer.KAnswer.{KAnswer}
use Rattle.k_answers.specs.declared.answer.KHops.{KHops}
use Rattle.k_text.specs.Listing.{walks_lines, k_lines_of}
use Rattle.k_text.proofs.Listed.{heading, ending, whole_text}
use Rattle.k_text.proofs.writing.k_write.Goals as goal

abbrev walks : KAnswer → List ℕ
walks a = text_of (walks_lines 1 a.walks)

walks_written : (s t : Told) (ws held : List KHops) → ws ≡ held → Appends s t (text_of (walks_lines 1 ws)) → Appends s t (text_of (walks_lines 1 held))
walks_written s t ws held is p = subst (λ (xs : List KHops). Appends s t (text_of (walks_lines 1 xs))) is p

walks_begun : (s t : Told) (ws held : List KHops) → ws ≡ held → AppendsFront s t (text_of (walks_lines 1 ws)) → AppendsFront s t (text_of (walks_lines 1 held))
walks_begun s t ws held is p = subst (λ (xs : List KHops). AppendsFront s t (text_of (walks_lines 1 xs))) is p

-- a front of the pieces is a front of the text
front_whole : (s t : Told) (a : KAnswer) → AppendsFront s t (heading a.request ++ (walks a ++ ending a.end)) → AppendsFront s t (text_of (k_lines_of a))
front_whole s t a f = subst (λ (text : List ℕ). AppendsFront s t text) (sym (whole_text a)) f

pub returns-in_err-write_heading-clause-front : goal.returns-in_err-write_heading-clause-front
returns-in_err-write_heading-clause-front g c =
    let a = c.args.answer.now in
    let s = g.K.Sink.written c.args.out.now in
    let t = g.K.Sink.written c.write_heading.new.out in
    on_err c.from_residual.result (front_whole s t a (front_of_more s t (heading a.request) (walks a ++ ending a.end) c.in_err-write_heading.ensures.front))

pub returns-in_err-write_walks-clause-front : goal.returns-in_err-write_walks-clause-front
returns-in_err-write_walks-clause-front g c =
    let a = c.args.answer.now in
    let s = g.K.Sink.written c.args.out.now in
    let t = g.K.Sink.written c.write_heading.new.out in
    let u = g.K.Sink.written c.write_walks.new.out in
    on_err c.from_residual-in_err-write_walks.result (front_whole s u a (front_behind s t u (heading a.request) (walks a ++ ending a.end) c.in_ok-write_heading.ensures.ok
    (front_of_more t u (walks a) (ending a.end) (walks_begun t u _ a.walks c.as_slice.ensures c.in_err-write_walks.ensures.front))))

pub returns-in_err-write_end-clause-front : goal.returns-in_err-write_end-clause-front
returns-in_err-write_end-clause-front g c =
    let a = c.args.answer.now in
    let s = g.K.Sink.written c.args.out.now in
    let t = g.K.Sink.written c.write_heading.new.out in
    let u = g.K.Sink.written c.write_walks.new.out in
    let v = g.K.Sink.written c.write_end.new.out in
    on_err c.from_residual-in_err-write_end.result (front_whole s v a (front_behind s t v (heading a.request) (walks a ++ ending a.end) c.in_ok-write_heading.ensures.ok
    (front_behind t u v (walks a) (ending a.end) (walks_written t u _ a.walks c.as_slice.ensures c.in_ok-write_walks.ensures.ok) c.in_err-write_end.ensures.front)))

pub returns-clause-ok : goal.returns-clause-ok
returns-clause-ok g c =
    let a = c.args.answer.now in
    let s = g.K.Sink.written c.args.out.now in
    let t = g.K.Sink.written c.write_heading.new.out in
    let u = g.K.Sink.written c.write_walks.new.out in
    let v = g.K.Sink.written c.write_end.new.out in
    subst (λ (text : List ℕ). Appends s v text) (sym (whole_text a)) (Appends-join s t v (heading a.request) (walks a ++ ending a.end) c.in_ok-write_heading.ensures.ok
    (Appends-join t u v (walks a) (ending a.end) (walks_written t u _ a.walks c.as_slice.ensures c.in_ok-write_walks.ensures.ok) c.in_ok-write_end.ensures.ok))
