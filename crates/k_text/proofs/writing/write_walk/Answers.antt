use Rattle.std.proofs.Common.{◌≡◌, subst, List}
use Rattle.std.specs.Io.KnownBytes.{Appends}
use Rattle.circuit_spec.specs.declared.hops.Hop.{Hop}
use Rattle.io_edges.specs.Stores.{AppendsFront}
use Rattle.io_edges.proofs.Written.{Appends-join}
use Rattle.line_text.specs.Lines.{text_of}
use Rattle.line_text.proofs.Writes.{Told, front_behind, front_of_more, on_err}
use Rattle.k_text.specs.Listing.{walk_line, unflagged_lines}
use Rattle.k_text.proofs.Listed.{printed}
use Rattle.k_text.proofs.writing.write_walk.Goals as goal

-- these hops, as they stand in the walk
hops_written : (s t : Told) (hs held : List Hop) → hs ≡ held → Appends s t (text_of (unflagged_lines 1 hs)) → Appends s t (text_of (unflagged_lines 1 held))
hops_written s t hs held is p = subst (λ (xs : List Hop). Appends s t (text_of (unflagged_lines 1 xs))) is p

hops_begun : (s t : Told) (hs held : List Hop) → hs ≡ held → AppendsFront s t (text_of (unflagged_lines 1 hs)) → AppendsFront s t (text_of (unflagged_lines 1 held))
hops_begun s t hs held is p = subst (λ (xs : List Hop). AppendsFront s t (text_of (unflagged_lines 1 xs))) is p

pub returns-in_err-write_first-clause-front : goal.returns-in_err-write_first-clause-front
returns-in_err-write_first-clause-front g c =
    let w = c.args.walk.now in
    on_err c.from_residual.result (front_of_more (g.K.Sink.written c.args.out.now) _ (printed (walk_line c.args.number w.weight)) (text_of (unflagged_lines 1 w.hops)) c.in_err-write_first.ensures.front)

pub returns-in_err-write_hops-clause-front : goal.returns-in_err-write_hops-clause-front
returns-in_err-write_hops-clause-front g c =
    let w = c.args.walk.now in
    let t = g.K.Sink.written c.write_first.new.out in
    on_err c.from_residual-in_err-write_hops.result (front_behind (g.K.Sink.written c.args.out.now) t _ (printed (walk_line c.args.number w.weight)) (text_of (unflagged_lines 1 w.hops)) c.in_ok-write_first.ensures.ok
    (hops_begun t _ _ w.hops c.as_slice.ensures c.in_err-write_hops.ensures.front))

pub returns-clause-ok : goal.returns-clause-ok
returns-clause-ok g c =
    let w = c.args.walk.now in
    let t = g.K.Sink.written c.write_first.new.out in
    let u = g.K.Sink.written c.write_hops.new.out in
    Appends-join (g.K.Sink.written c.args.out.now) t u (printed (walk_line c.args.number w.weight)) (text_of (unflagged_lines 1 w.hops)) c.in_ok-write_first.ensures.ok
    (hops_written t u _ w.hops c.as_slice.ensures c.in_ok-write_hops.ensures.ok)
