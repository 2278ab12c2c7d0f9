-- What is written nests little, and has no float.
use Rattle.std.proofs.Common.{◌≡◌, ℕ, suc, ◌≤◌, List, [], ◌∷◌, Bool, true, false, Option, Some, None, Ordering, Less, Equal, Greater, refl, arith}
use Rattle.std.proofs.lemmas.Bool.{or_from, or_parts}
use Rattle.std.specs.Ordering.{nat_cmp, match_ordering}
use Rattle.std.specs.Cmp.Lexicographic.{slice_cmp}
use Rattle.serde_json.specs.Data.{Data, array, Items, Members, no_members, member, put, depth, items_depth, members_depth}
use Rattle.serde_json.specs.Written.{has_float, items_have_float, members_have_float}
use Rattle.label_sets.specs.GroupText.{written}
use Rattle.nml_elements.specs.declared.elements.Labels.{Labels}
use Rattle.nml_elements.specs.declared.elements.Labels.TheVariants.{Unlabelled, Of}
use Rattle.nml_elements.specs.declared.elements.Entry.{Entry}
use Rattle.nml_elements.specs.declared.elements.Domain.{Domain}
use Rattle.nml_elements.specs.declared.elements.Element.{Element}
use Rattle.nml_elements.specs.declared.elements.Element.TheVariants as elements
use Rattle.nml_elements.specs.Lifetimes.{Lifespan}
use Rattle.nml_elements.specs.ElementWriting.{Part, with_part, with_parts, object_of, text_part, optional_text_part, number_part, swapping_part, texts, relation_part, optional_relation_part, labels_part, first_label, set_part, element_parts, optional_number_part, lifespan_parts, lifetime_part, entry_parts, entry_data}
use Rattle.nml_elements.specs.FileWriting.{entries_data, domain_parts, domain_data}

-- nests at most so deep, without a float
abbrev pub IsPlain : ℕ → Data → Type 0
IsPlain n d = (depth d ≤ n) × (has_float d ≡ false)

abbrev ArePlainItems : ℕ → Items → Type 0
ArePlainItems n ds = (items_depth ds ≤ n) × (items_have_float ds ≡ false)

abbrev ArePlain : ℕ → Members → Type 0
ArePlain n ms = (members_depth ms ≤ n) × (members_have_float ms ≡ false)

abbrev MayBePlain : ℕ → Option Data → Type 0
MayBePlain n None = Unit {0}
MayBePlain n (Some d) = IsPlain n d

abbrev PartsPlain : ℕ → List Part → Type 0
PartsPlain n [] = Unit {0}
PartsPlain n (p ∷ ps) = MayBePlain n p.1 × PartsPlain n ps

member_plain : (n : ℕ) (k : List ℕ) (d : Data) (ms : Members) → IsPlain n d → ArePlain n ms → ArePlain n (member k d ms)
member_plain n k d ms p q = (omega (arith, p.0, q.0), or_from (has_float d) (members_have_float ms) p.1 q.1)

by_order : (o : Ordering) (a b c : Members) (n : ℕ) → ArePlain n a → ArePlain n b → ArePlain n c → ArePlain n (match_ordering o a b c)
by_order Less a b c n p q r = p
by_order Equal a b c n p q r = q
by_order Greater a b c n p q r = r

put_plain : (n : ℕ) (k : List ℕ) (d : Data) (ms : Members) → IsPlain n d → ArePlain n ms → ArePlain n (put k d ms)
put_plain n k d no_members p q = member_plain n k d no_members p q
put_plain n k d (member l e ms) p q =
    let parts = or_parts (has_float e) (members_have_float ms) q.1 in
    let here : IsPlain n e = (omega (arith, q.0), parts.0) in
    let rest : ArePlain n ms = (omega (arith, q.0), parts.1) in
    by_order (slice_cmp nat_cmp k l) (member k d (member l e ms)) (member l d ms) (member l e (put k d ms)) n
    (member_plain n k d (member l e ms) p q) (member_plain n l d ms p rest) (member_plain n l e (put k d ms) here (put_plain n k d ms p rest))

part_plain : (n : ℕ) (k : List ℕ) (o : Option Data) (ms : Members) → MayBePlain n o → ArePlain n ms → ArePlain n (with_part k o ms)
part_plain n k None ms p q = q
part_plain n k (Some d) ms p q = put_plain n k d ms p q

parts_plain : (n : ℕ) (ms : Members) (ps : List Part) → ArePlain n ms → PartsPlain n ps → ArePlain n (with_parts ms ps)
parts_plain n ms [] q p = q
parts_plain n ms (part ∷ ps) q p = parts_plain n (with_part part.0 part.1 ms) ps (part_plain n part.0 part.1 ms p.0 q) p.1

object_plain : (n : ℕ) (ps : List Part) → PartsPlain n ps → IsPlain (suc n) (object_of ps)
unfolding object_of
object_plain n ps p = let q = parts_plain n no_members ps (omega arith, refl) p in (omega (arith, q.0), q.1)

-- ---- parts

texts_plain : (ids : List (List ℕ)) → ArePlainItems 0 (texts ids)
texts_plain [] = (omega arith, refl)
texts_plain (id ∷ ids) = let rest = texts_plain ids in (omega (arith, rest.0), rest.1)

list_plain : (ids : List (List ℕ)) → IsPlain 1 (array (texts ids))
list_plain ids = let p = texts_plain ids in (omega (arith, p.0), p.1)

relation_plain : (ids : List (List ℕ)) → MayBePlain 1 (relation_part ids)
relation_plain [] = tt
relation_plain (id ∷ ids) = list_plain (id ∷ ids)

optional_relation_plain : (o : Option (List (List ℕ))) → MayBePlain 1 (optional_relation_part o)
optional_relation_plain None = tt
optional_relation_plain (Some ids) = list_plain ids

text_plain : (n : ℕ) (text : List ℕ) → MayBePlain n (text_part text)
text_plain n text = (omega arith, refl)

optional_text_plain : (n : ℕ) (o : Option (List ℕ)) → MayBePlain n (optional_text_part o)
optional_text_plain n None = tt
optional_text_plain n (Some text) = text_plain n text

number_plain : (n m : ℕ) → MayBePlain n (number_part m)
number_plain n m = (omega arith, refl)

swapping_plain : (b : Bool) → MayBePlain 1 (swapping_part b)
swapping_plain true = (omega arith, refl)
swapping_plain false = tt

set_plain : (group : Bool) (set : List (ℕ × ℕ)) → MayBePlain 0 (set_part group set).1
set_plain true set = text_plain 0 (written set)
set_plain false set = number_plain 0 (first_label set)

labels_plain : (group : Bool) (labels : Labels) → MayBePlain 1 (labels_part group labels)
labels_plain group Unlabelled = tt
labels_plain group (Of labeltype set) = object_plain 0 _ (text_plain 0 labeltype, (set_plain group set, tt))

-- ---- elements

element_parts_plain : (element : Element) → PartsPlain 1 (element_parts element)
element_parts_plain (elements.Node e) = (relation_plain e.inbound, (relation_plain e.outbound, (relation_plain e.services, (text_plain 1 e.id, ((omega arith, refl), tt)))))
element_parts_plain (elements.Port e) =
    (optional_text_plain 1 e.encoding, (labels_plain e.group e.labels, (relation_plain e.services, (text_plain 1 e.id, (relation_plain e.aliases, (relation_plain e.sinks, (relation_plain e.sources, ((omega arith, refl), tt))))))))
element_parts_plain (elements.Link e) = (number_plain 1 e.cost, (optional_text_plain 1 e.encoding, (labels_plain e.group e.labels, (text_plain 1 e.id, ((omega arith, refl), tt)))))
element_parts_plain (elements.Switching e) =
    (number_plain 1 e.cost, (optional_text_plain 1 e.encoding, (optional_relation_plain e.inbound, (optional_relation_plain e.outbound, (text_plain 1 e.id, (swapping_plain e.swapping, ((omega arith, refl), tt)))))))
element_parts_plain (elements.Adaptation e) = (text_plain 1 e.function, (number_plain 1 e.cost, (text_plain 1 e.id, (relation_plain e.ports, ((omega arith, refl), tt)))))
element_parts_plain (elements.Deadaptation e) = (text_plain 1 e.function, (number_plain 1 e.cost, (text_plain 1 e.id, (relation_plain e.ports, ((omega arith, refl), tt)))))
element_parts_plain (elements.Conversion e) = (number_plain 1 e.cost, (relation_plain e.inbound, (relation_plain e.outbound, (text_plain 1 e.id, ((omega arith, refl), tt)))))

optional_number_plain : (n : ℕ) (o : Option ℕ) → MayBePlain n (optional_number_part o)
optional_number_plain n None = tt
optional_number_plain n (Some m) = number_plain n m

lifetime_plain : (lifetime : Option Lifespan) → MayBePlain 1 (lifetime_part lifetime)
lifetime_plain None = tt
lifetime_plain (Some life) = object_plain 0 (lifespan_parts life) (optional_number_plain 0 life.end, (number_plain 0 life.start, tt))

entry_plain : (entry : Entry) → IsPlain 2 (entry_data entry)
unfolding entry_data
entry_plain entry = object_plain 1 (entry_parts entry) (lifetime_plain entry.lifetime, element_parts_plain entry.element)

entries_plain : (entries : List Entry) → ArePlainItems 2 (entries_data entries)
entries_plain [] = (omega arith, refl)
entries_plain (entry ∷ rest) =
    let here = entry_plain entry in
    let later = entries_plain rest in
    (omega (arith, here.0, later.0), or_from (has_float (entry_data entry)) (items_have_float (entries_data rest)) here.1 later.1)

pub domain_plain : (domain : Domain) → IsPlain 4 (domain_data domain)
unfolding domain_data
domain_plain domain =
    let entries = entries_plain domain.elements in
    object_plain 3 (domain_parts domain) ((omega (arith, entries.0), entries.1), (optional_text_plain 3 domain.encoding, (number_plain 3 1, (text_plain 3 domain.id, tt))))
