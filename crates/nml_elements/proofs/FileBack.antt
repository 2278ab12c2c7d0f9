-- A domain that is written is read again.
use Rattle.std.proofs.Common.{◌≡◌, ℕ, suc, ◌+◌, ◌≤◌, List, [], ◌∷◌, length, false, codes, ltb, Some, Ok, refl, sym, ap, arith, IsUtf8}
use Rattle.std.proofs.lemmas.Bool.Decides.{nat_tests}
use Rattle.serde_json.specs.Data.{array}
use Rattle.serde_json.specs.Events.{items_len}
use Rattle.serde_json.specs.Read.{read}
use Rattle.ml_base.specs.Text.{IsIdText}
use Rattle.nml_elements.specs.declared.elements.Entry.{Entry}
use Rattle.nml_elements.specs.declared.elements.Domain.{Domain}
use Rattle.nml_elements.specs.Kept.{MayBeId}
use Rattle.nml_elements.specs.FileReading.{entries_at, format_at, array_at, domain_at, domain_of}
use Rattle.nml_elements.specs.ElementWriting.{object_of, number_part}
use Rattle.nml_elements.specs.FileWriting.{AreCounted, AreKept, entries_data, domain_parts, domain_data}
use Rattle.nml_elements.proofs.Json.{json_of-text}
use Rattle.nml_elements.proofs.MemberWriting.{id_written, optional_id_written}
use Rattle.nml_elements.proofs.Parts.{is_object, part_is}
use Rattle.nml_elements.proofs.ReadBack.{entry_read}

numbered : (n : ℕ) (entry : Entry) → entry.number ≡ n → record { number = n; element = entry.element; lifetime = entry.lifetime } ≡ entry
numbered n entry e = ap (λ m. record { number = m; element = entry.element; lifetime = entry.lifetime }) (sym e)

entries_read : (n : ℕ) (entries : List Entry) → AreCounted n entries → AreKept entries → entries_at n (entries_data entries) ≡ Ok entries
unfolding entries_at
entries_read n [] counted kept = refl
entries_read n (entry ∷ rest) counted kept =
    rw (entry_read entry kept.0, entries_read (n + 1) rest counted.1 kept.1) (ap (λ e. Ok (e ∷ rest)) (numbered n entry counted.0))

entries_len : (entries : List Entry) → items_len (entries_data entries) ≡ length entries
entries_len [] = refl
entries_len (entry ∷ rest) = ap suc (entries_len rest)

array_written : (domain : Domain) → length domain.elements ≤ 16777216 → array_at (object_of (domain_parts domain)) ≡ Ok (entries_data domain.elements)
unfolding array_at
array_written domain few =
    let here = part_is (codes "elements") (domain_parts domain) (Some (array (entries_data domain.elements))) refl in
    let not_many : ltb 16777216 (length domain.elements) ≡ false = grind (arith, nat_tests) in
    rw (here, entries_len domain.elements, not_many) refl

format_written : (domain : Domain) → format_at (object_of (domain_parts domain)) ≡ Ok tt
unfolding format_at
format_written domain = rw (is_object (domain_parts domain), part_is (codes "format") (domain_parts domain) (number_part 1) refl) refl

pub domain_read : (domain : Domain) → IsIdText domain.id → MayBeId domain.encoding → AreKept domain.elements → AreCounted 1 domain.elements → length domain.elements ≤ 16777216
    → domain_at (domain_data domain) ≡ Ok domain
unfolding domain_at domain_data
domain_read domain id encoding kept counted few =
    let ps = domain_parts domain in
    rw (
      format_written domain,
      id_written 3 (codes "topology") ps domain.id refl id,
      optional_id_written 4 (codes "encoding") ps domain.encoding refl encoding,
      array_written domain few,
      entries_read 1 domain.elements counted kept,
    ) refl

pub bytes_read : (bytes : List ℕ) (domain : Domain) → IsUtf8 bytes → read bytes ≡ Some (domain_data domain) → domain_at (domain_data domain) ≡ Ok domain → domain_of bytes ≡ Ok domain
unfolding domain_of
bytes_read bytes domain text is back = rw (json_of-text bytes (domain_data domain) text is) back
