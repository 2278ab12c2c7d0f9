-- What tests of encodings and label types mean.
use Rattle.std.proofs.Common.{◌≡◌, ◌≢◌, ℕ, Bool, true, false, Option, None, Some, refl, ◌∙◌, ap}
use Rattle.std.specs.Prelude.{slice_get, option_map, unwrap_or}
use Rattle.std.specs.Str.{bytes_eq}
use Rattle.std.proofs.lemmas.Bool.{both_ways, not-true, not-false}
use Rattle.std.proofs.lemmas.Slice.Eq.{bytes_eq-Decides}
use Rattle.circuit_spec.specs.Network.{Name, Topology, Port, ports}
use Rattle.circuit_spec.specs.Faults.{same_type, type_of}
use Rattle.circuit_spec.proofs.Types.{same_type_true}
use Rattle.layer_check.specs.Comparing.{passes_at, other_encoding, other_type}

pub same_type-itself : (x : Option Name) → same_type x x ≡ true
same_type-itself None = refl
same_type-itself (Some x) = (bytes_eq-Decides x x).1 refl

pub encoding_other : (p q : Port) → other_encoding p q ≡ true → q.encoding ≢ p.encoding
encoding_other p q h e = both_ways (bytes_eq q.encoding p.encoding) (not-true (bytes_eq q.encoding p.encoding) h) ((bytes_eq-Decides q.encoding p.encoding).1 e)

pub encoding_same : (p q : Port) → other_encoding p q ≡ false → q.encoding ≡ p.encoding
encoding_same p q h = (bytes_eq-Decides q.encoding p.encoding).0 (not-false (bytes_eq q.encoding p.encoding) h)

pub type_other : (p q : Port) → other_type p q ≡ true → type_of q ≢ type_of p
type_other p q h e =
    both_ways (same_type (type_of q) (type_of p)) (not-true (same_type (type_of q) (type_of p)) h) (ap (λ t. same_type t (type_of p)) e ∙ same_type-itself (type_of p))

pub type_fits : (p q : Port) → other_type p q ≡ false → type_of q ≡ type_of p
type_fits p q h = same_type_true (type_of q) (type_of p) (not-false (same_type (type_of q) (type_of p)) h)

-- a test that is not false is true
pub is_true : (b : Bool) → (b ≢ false) → b ≡ true
is_true true h = refl
is_true false h = absurd (h refl)

pub is_false : (b : Bool) → (b ≢ true) → b ≡ false
is_false true h = absurd (h refl)
is_false false h = refl

pub differing_encodings : (p q : Port) → q.encoding ≢ p.encoding → other_encoding p q ≡ true
differing_encodings p q h = is_true (other_encoding p q) (λ e. h (encoding_same p q e))

pub differing_types : (p q : Port) → type_of q ≢ type_of p → other_type p q ≡ true
differing_types p q h = is_true (other_type p q) (λ e. h (type_fits p q e))

-- a test at the number of a port
pub passes_there : (T : Topology) (test : Port → Bool) (n : ℕ) (p : Port) → slice_get (ports T) n ≡ Some p → passes_at T test n ≡ test p
passes_there T test n p at = ap (λ o. unwrap_or (option_map test o) false) at
