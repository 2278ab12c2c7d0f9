use Rattle.std.proofs.Common.{◌<◌, ◌≤◌, ◌∷◌, [], length, take, get_or, refl, ◌∙◌, ap, arith}
use Rattle.circuit_spec.specs.Flags.{flags_after}
use Rattle.circuit_spec.specs.Segments.{unit_in}
use Rattle.circuit_spec.proofs.Flags.{length-flags_after, length-enters}
use Rattle.answer_spec.specs.Certificate.{first_place}
use Rattle.hop_check.specs.Visits.{first_at}
use Rattle.hop_check.proofs.Visited.{all_flags, class_behind, flag_here, one_more_flag, other_flag, visited_before}
use Rattle.hop_check.proofs.Walking.{entered}
use Rattle.hop_check.proofs.flagging.check_flags.Goals as goal

pub flag_due-requires : goal.flag_due-requires
flag_due-requires c =
    let hops = c.as_slice-hop-items.ensures in
    let at = c.hop-item.is ∙ ap (λ hs. get_or hs c.loop-at.at c.hop-item.result) hops in
    let lt : c.loop-at.at < length c.args.answer.now.hops = omega (arith, c.loop-at-test.true, ap length hops) in
    let way = c.requires.carried in
    class_behind c.args.inventory.now (unit_in (first_place way.0 c.args.answer.now.request c.args.answer.now.hops) []) c.args.answer.now.hops way.2.0 c.loop-at.at c.hop-item.result way.2.1 at lt

pub returns-then-not-is_flag : goal.returns-then-not-is_flag
returns-then-not-is_flag c =
    let T = c.args.inventory.now in
    let a = c.args.answer.now in
    let i = c.loop-at.at in
    let hops = c.as_slice-hop-items.ensures in
    let at = c.hop-item.is ∙ ap (λ hs. get_or hs i c.hop-item.result) hops in
    let lt : i < length a.hops = omega (arith, c.loop-at-test.true, ap length hops) in
    let way = c.requires.carried in
    let start = first_place way.0 a.request a.hops in
    let places = entered T (unit_in start []) a.hops way.2.0 way.2.1 in
    let so_far = c.loop-at.invariant way.0 places.0 way.1 places.1 in
    let counted = visited_before T start a.hops places.0 i places.1 lt in
    let here = flag_here T start a.hops places.0 i c.hop-item.result c.in_ok-due.due (first_at c.flag_due.new.visited) places.1 at lt (λ q enters. c.in_ok-due.ensures (start ∷ take i places.0) q so_far.visited counted enters) in (
      refl,
      record {
        class = way.0;
        is_class = way.1;
        due = flags_after (start ∷ []) places.0;
        are_due = (places.0, places.1, refl);
        hop = i;
        first = record { before = so_far.same; differ = other_flag a.flags (flags_after (start ∷ []) places.0) i c.in_ok-due.due c.is_flag.result here.0 c.is_flag.ensures c.if-not-is_flag.true };
        at = refl;
      },
    )

pub loop-at-preserved : goal.loop-at-preserved
loop-at-preserved c class places first enters =
    let T = c.args.inventory.now in
    let a = c.args.answer.now in
    let i = c.loop-at.at in
    let hops = c.as_slice-hop-items.ensures in
    let at = c.hop-item.is ∙ ap (λ hs. get_or hs i c.hop-item.result) hops in
    let lt : i < length a.hops = omega (arith, c.loop-at-test.true, ap length hops) in
    let start = first_place class a.request a.hops in
    let so_far = c.loop-at.invariant class places first enters in
    let counted = visited_before T start a.hops places i enters lt in
    let here = flag_here T start a.hops places i c.hop-item.result c.in_ok-due.due (first_at c.flag_due.new.visited) enters at lt (λ q behind. c.in_ok-due.ensures (start ∷ take i places) q so_far.visited counted behind) in
    record {
      visited = here.1;
      same = one_more_flag a.flags (flags_after (start ∷ []) places) i c.in_ok-due.due so_far.same (c.is_flag.ensures.0 c.if-not-is_flag.false) here.0;
    }

pub returns : goal.returns
returns c =
    let T = c.args.inventory.now in
    let a = c.args.answer.now in
    let i = c.loop-at.at in
    let way = c.requires.carried in
    let start = first_place way.0 a.request a.hops in
    let places = entered T (unit_in start []) a.hops way.2.0 way.2.1 in
    let so_far = c.loop-at.invariant way.0 places.0 way.1 places.1 in
    let done : length a.hops ≤ i = omega (arith, c.loop-at-test.false, ap length c.as_slice-hop-items.ensures) in
    let all = all_flags a.flags (flags_after (start ∷ []) places.0) i so_far.same (omega (arith, done, c.requires.counted)) (omega (arith, done, length-enters T a.hops places.0 places.1, length-flags_after (start ∷ []) places.0)) in
    (way.0, way.1, (places.0, places.1, all))
