-- Where the ids of a generated network stand: a letter and a number tell the place, and the places rise with the elements.
use Rattle.std.specs.Prelude.{decimal, nat_eq}
use Rattle.std.proofs.Common.{◌≡◌, ℕ, zero, suc, ◌+◌, ◌*◌, ◌≤◌, List, [], ◌∷◌, ◌++◌, cond, map, refl, sym, ◌∙◌, ap, arith}
use Rattle.std.specs.List.{range_with_len, enumerate_from, flat_map}
use Rattle.std.specs.Str.Parse.{digits_value}
use Rattle.std.proofs.lemmas.Fmt.{decimal_is_IsNumeral}
use Rattle.std.proofs.lemmas.List.{map-append}
use Rattle.nml_elements.specs.declared.elements.Domain.{Domain}
use Rattle.nml_elements.specs.declared.elements.Entry.{Entry}
use Rattle.nml_elements.specs.declared.elements.Element.{Element}
use Rattle.circuit_spec.specs.Network.{Name, Topology, Placed, elements_of, id_of}
use Rattle.circuit_spec.specs.Faults.{Located, located_in}
use Rattle.topo_gen.specs.Tunnels.{ground, tunnel, generated_domains}
use Rattle.topo_gen.proofs.Rising.{Rises, rises_from}

-- the levels from this one on, so many
abbrev pub upper : ℕ → ℕ → ℕ → Topology
upper levels from count = map (tunnel levels) (range_with_len from count)

-- the place of a letter within its level
abbrev pub rank : ℕ → ℕ
rank letter =
    cond (nat_eq letter 120) 0
    (cond (nat_eq letter 109) 1
    (cond (nat_eq letter 121) 2
    (cond (nat_eq letter 97) 12
    (cond (nat_eq letter 98) 13
    (cond (nat_eq letter 117) 14 15)))))

-- twenty places a level, and the links behind the ports of level 0
abbrev pub place_of : Name → ℕ
place_of [] = 0
place_of (letter ∷ digits) = cond (nat_eq letter 108) (3 + digits_value 10 digits) (20 * digits_value 10 digits + rank letter)

-- the number of an id
abbrev pub number_in : Name → ℕ
number_in [] = 0
number_in (letter ∷ digits) = digits_value 10 digits

pub value : (n : ℕ) → n ≤ 4097 → digits_value 10 (decimal n) ≡ n
value n small = (decimal_is_IsNumeral n (omega arith)).1

-- the elements alone
abbrev pub elements_in : Topology → List Element
elements_in T = map (λ (p : Placed). p.element) (elements_of T)

abbrev pub place_at : Element → ℕ
place_at e = place_of (id_of e)

upper_rise : (levels from count : ℕ) → from + count ≤ 4097 → Rises place_at (20 * from) (elements_in (upper levels from count))
unfolding tunnel
upper_rise levels from zero small = tt
upper_rise levels from (suc count) small =
    let v = value from (omega arith) in
    let next = upper_rise levels (from + 1) count (omega arith) in
    let rest = rises_from place_at (20 * digits_value 10 (decimal from) + 15 + 1) (20 * (from + 1)) (elements_in (upper levels (from + 1) count)) (omega arith) next in
    (omega arith, (omega arith, (omega arith, (omega arith, (omega arith, (omega arith, (omega arith, rest)))))))

-- the ids of a network stand at rising places
pub elements_rise : (levels : ℕ) → levels ≤ 4096 → Rises place_at 0 (elements_in (generated_domains levels))
unfolding ground
elements_rise levels small =
    let v0 = value 0 (omega arith) in
    let v1 = value 1 (omega arith) in
    let v2 = value 2 (omega arith) in
    let v3 = value 3 (omega arith) in
    let v4 = value 4 (omega arith) in
    let v5 = value 5 (omega arith) in
    let v6 = value 6 (omega arith) in
    let v7 = value 7 (omega arith) in
    let v8 = value 8 (omega arith) in
    let next = upper_rise levels 1 levels (omega arith) in
    let rest = rises_from place_at (3 + digits_value 10 (decimal 8) + 1) 20 (elements_in (upper levels 1 levels)) (omega arith) next in
    (omega arith, (omega arith, (omega arith, (omega arith, (omega arith, (omega arith, (omega arith, (omega arith, (omega arith, (omega arith, rest))))))))))

-- the domains too, by their numbers
upper_domains_rise : (levels from count n : ℕ) → from + count ≤ 4097 → Rises (λ (f : ℕ × Domain). number_in f.1.id) from (enumerate_from n (upper levels from count))
unfolding tunnel
upper_domains_rise levels from zero n small = tt
upper_domains_rise levels from (suc count) n small =
    let v = value from (omega arith) in
    (omega arith, rises_from (λ (f : ℕ × Domain). number_in f.1.id) (digits_value 10 (decimal from) + 1) (from + 1) (enumerate_from (n + 1) (upper levels (from + 1) count)) (omega arith) (upper_domains_rise levels (from + 1) count (n + 1) (omega arith)))

pub domains_rise : (levels : ℕ) → levels ≤ 4096 → Rises (λ (f : ℕ × Domain). number_in f.1.id) 0 (enumerate_from 1 (generated_domains levels))
unfolding ground
domains_rise levels small =
    let v = value 0 (omega arith) in
    (omega arith, rises_from (λ (f : ℕ × Domain). number_in f.1.id) (digits_value 10 (decimal 0) + 1) 1 (enumerate_from 2 (upper levels 1 levels)) (omega arith) (upper_domains_rise levels 1 levels 2 (omega arith)))

-- the elements with their spots are the elements
same_elements : (d : Domain) (n : ℕ) (es : List Entry)
    → map (λ (e : Located). e.element) (map (λ (e : Entry). record { spot = record { file = n; element = e.number }; element = e.element }) es)
    ≡ map (λ (p : Placed). p.element) (map (λ (e : Entry). record { domain = d; element = e.element }) es)
same_elements d n [] = refl
same_elements d n (e ∷ es) = ap (λ rest. e.element ∷ rest) (same_elements d n es)

pub located_elements : (n : ℕ) (T : Topology) → map (λ (e : Located). e.element) (flat_map located_in (enumerate_from n T)) ≡ elements_in T
located_elements n [] = refl
located_elements n (d ∷ T) =
    map-append (λ (e : Located). e.element) (located_in (n, d)) (flat_map located_in (enumerate_from (n + 1) T))
    ∙ ap (λ xs. xs ++ map (λ (e : Located). e.element) (flat_map located_in (enumerate_from (n + 1) T))) (same_elements d n d.elements)
    ∙ ap (λ xs. map (λ (p : Placed). p.element) (map (λ (e : Entry). record { domain = d; element = e.element }) d.elements) ++ xs) (located_elements (n + 1) T)
    ∙ sym (map-append (λ (p : Placed). p.element) (map (λ (e : Entry). record { domain = d; element = e.element }) d.elements) (elements_of T))
