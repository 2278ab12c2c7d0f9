-- What a run has done to a sink.
use Rattle.std.specs.Prelude.{◌≡◌, ℕ, List, Option}
use Rattle.std.specs.Io.KnownBytes.{Appends}
use Rattle.io_edges.specs.Stores.{AppendsFront}
use Rattle.replies.specs.declared.reply.Reply.{Reply}
use Rattle.replies.specs.Status.{code}

-- a reply that may be was printed whole, and this is its status
abbrev pub PrintsWhole : (Reply → Type 0) → ℕ → Option (List ℕ) → Option (List ℕ) → Type 0
PrintsWhole May status old new = (reply : Reply) × May reply × (status ≡ code reply.status) × Appends old new reply.text

-- a front of a reply that may be was printed
abbrev pub PrintsFront : (Reply → Type 0) → Option (List ℕ) → Option (List ℕ) → Type 0
PrintsFront May old new = (reply : Reply) × May reply × AppendsFront old new reply.text
