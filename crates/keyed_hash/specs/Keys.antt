-- What a digest has taken in, and which key it gives.
use Rattle.std.specs.Prelude.{ℕ, List, [], ◌∷◌}
use Rattle.std.specs.declared.hash.DefaultHasher.{DefaultHasher}
use Rattle.std.specs.Hash.DefaultHasher.{initial, write}
use Rattle.sha2.specs.Hashers.{Holds256}
use Rattle.keyed_hash.specs.declared.keyed.Keyed.{Keyed}
use Rattle.keyed_hash.specs.declared.read_digest.ReadDigest.{ReadDigest}

-- The digest has taken in these bytes.
abbrev pub HasRead : ReadDigest → List ℕ → Type 0
HasRead digest bytes = Holds256 digest.state bytes

-- The byte behind each text, which no text has.
abbrev pub text_end : List ℕ
text_end = 255 ∷ []

-- The hasher that has taken in the digest, with which each hash of a map begins.
abbrev pub begun_hasher : Keyed → DefaultHasher
begun_hasher key = key.begun

-- The key of a digest.
abbrev pub keyed_by : List ℕ → Keyed
keyed_by digest = record { digest = digest; begun = write initial digest }
