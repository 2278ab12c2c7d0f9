use Rattle.std.proofs.Common.{◌≡◌, ◌<◌, ◌-◌, ◌∙◌, [], sym, ap, subst, map, take, drop, get_or, length, arith}
use Rattle.std.proofs.lemmas.List.{get_or_read, length-map}
use Rattle.alias_merge.specs.Groups.{groups_at}
use Rattle.alias_merge.proofs.Counting.{span_at}
use Rattle.nml_inventory.proofs.Spans.{number_of, ports_between}
use Rattle.nml_inventory.proofs.relation.Relation.of.Goals as goal

-- what is known of the span that is read
pub index-begin-requires : goal.index-begin-requires
index-begin-requires c =
    let f = c.self.inside in
    let n : c.args.number < length (groups_at f.begins.items f.ends.items (map number_of f.ports.items)) = subst (λ v. c.args.number < length v) (sym c.self.view_is) c.requires in
    omega (arith, (span_at f.begins.items f.ends.items (map number_of f.ports.items) c.args.number c.self.invariant n).in_begins, f.begins.ok.0)

pub index-end-requires : goal.index-end-requires
index-end-requires c =
    let f = c.self.inside in
    let n : c.args.number < length (groups_at f.begins.items f.ends.items (map number_of f.ports.items)) = subst (λ v. c.args.number < length v) (sym c.self.view_is) c.requires in
    omega (arith, (span_at f.begins.items f.ends.items (map number_of f.ports.items) c.args.number c.self.invariant n).in_ends, f.ends.ok.0)

pub offset_bounds-deref-begin : goal.offset_bounds-deref-begin
offset_bounds-deref-begin c =
    let f = c.self.inside in
    let n : c.args.number < length (groups_at f.begins.items f.ends.items (map number_of f.ports.items)) = subst (λ v. c.args.number < length v) (sym c.self.view_is) c.requires in
    let at = span_at f.begins.items f.ends.items (map number_of f.ports.items) c.args.number c.self.invariant n in
    let begin : c.index-begin.result.now ≡ get_or f.begins.items c.args.number 0 = get_or_read f.begins.items c.args.number c.index-begin.result.now at.in_begins c.index-begin.ensures 0 in
    let end : c.index-end.result.now ≡ get_or f.ends.items c.args.number 0 = get_or_read f.ends.items c.args.number c.index-end.result.now at.in_ends c.index-end.ensures 0 in
    omega (arith, begin, at.rising, at.within, length-map f.ports.items number_of, f.ports.small, f.ports.ok.0)

pub slice_bounds-result-count : goal.slice_bounds-result-count
slice_bounds-result-count c =
    let f = c.self.inside in
    let n : c.args.number < length (groups_at f.begins.items f.ends.items (map number_of f.ports.items)) = subst (λ v. c.args.number < length v) (sym c.self.view_is) c.requires in
    let at = span_at f.begins.items f.ends.items (map number_of f.ports.items) c.args.number c.self.invariant n in
    let begin : c.index-begin.result.now ≡ get_or f.begins.items c.args.number 0 = get_or_read f.begins.items c.args.number c.index-begin.result.now at.in_begins c.index-begin.ensures 0 in
    let end : c.index-end.result.now ≡ get_or f.ends.items c.args.number 0 = get_or_read f.ends.items c.args.number c.index-end.result.now at.in_ends c.index-end.ensures 0 in
    omega (arith, begin, end, at.rising)

pub slice_bounds-result-start : goal.slice_bounds-result-start
slice_bounds-result-start c =
    let f = c.self.inside in
    let n : c.args.number < length (groups_at f.begins.items f.ends.items (map number_of f.ports.items)) = subst (λ v. c.args.number < length v) (sym c.self.view_is) c.requires in
    let at = span_at f.begins.items f.ends.items (map number_of f.ports.items) c.args.number c.self.invariant n in
    let begin : c.index-begin.result.now ≡ get_or f.begins.items c.args.number 0 = get_or_read f.begins.items c.args.number c.index-begin.result.now at.in_begins c.index-begin.ensures 0 in
    let end : c.index-end.result.now ≡ get_or f.ends.items c.args.number 0 = get_or_read f.ends.items c.args.number c.index-end.result.now at.in_ends c.index-end.ensures 0 in
    omega (arith, begin, end, at.rising)

pub slice_bounds-result-end : goal.slice_bounds-result-end
slice_bounds-result-end c =
    let f = c.self.inside in
    let n : c.args.number < length (groups_at f.begins.items f.ends.items (map number_of f.ports.items)) = subst (λ v. c.args.number < length v) (sym c.self.view_is) c.requires in
    let at = span_at f.begins.items f.ends.items (map number_of f.ports.items) c.args.number c.self.invariant n in
    let begin : c.index-begin.result.now ≡ get_or f.begins.items c.args.number 0 = get_or_read f.begins.items c.args.number c.index-begin.result.now at.in_begins c.index-begin.ensures 0 in
    let end : c.index-end.result.now ≡ get_or f.ends.items c.args.number 0 = get_or_read f.ends.items c.args.number c.index-end.result.now at.in_ends c.index-end.ensures 0 in
    omega (arith, end, at.within, length-map f.ports.items number_of, c.deref.ensures.len, f.ports.ok.0)

pub returns : goal.returns
returns c =
    let f = c.self.inside in
    let n : c.args.number < length (groups_at f.begins.items f.ends.items (map number_of f.ports.items)) = subst (λ v. c.args.number < length v) (sym c.self.view_is) c.requires in
    let at = span_at f.begins.items f.ends.items (map number_of f.ports.items) c.args.number c.self.invariant n in
    let begin : c.index-begin.result.now ≡ get_or f.begins.items c.args.number 0 = get_or_read f.begins.items c.args.number c.index-begin.result.now at.in_begins c.index-begin.ensures 0 in
    let end : c.index-end.result.now ≡ get_or f.ends.items c.args.number 0 = get_or_read f.ends.items c.args.number c.index-end.result.now at.in_ends c.index-end.ensures 0 in
    rw (begin, end) (ap (λ xs. map number_of (take (get_or f.ends.items c.args.number 0 - get_or f.begins.items c.args.number 0) (drop (get_or f.begins.items c.args.number 0) xs))) c.deref.ensures.value
    ∙ ports_between f.ports.items (get_or f.ends.items c.args.number 0 - get_or f.begins.items c.args.number 0) (get_or f.begins.items c.args.number 0)
    ∙ at.group ∙ ap (λ v. get_or v c.args.number []) c.self.view_is)
