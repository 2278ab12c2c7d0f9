-- What a command owes that reads its words and goes on with what they hold.
use Rattle.std.proofs.Common.{List, ℕ, inl, inr}
use Rattle.io_edges.specs.Reads.{Store}
use Rattle.circuit_spec.specs.Network.{Topology}
use Rattle.replies.specs.declared.reply.Reply.{Reply}
use Rattle.replies.specs.declared.reply.Stop.{Stop}
use Rattle.replies.specs.Through.{IsStop}
use Rattle.replies.proofs.Steps.{Stops-so}
use Rattle.file_words.specs.declared.parsing.Sources.{Sources}
use Rattle.file_words.specs.declared.reading.FileWord.{FileWord}
use Rattle.file_words.specs.Reading.{AreSources, EndsEarly, OverFiles}

-- the run ends before the words are gone through
pub stops-early : (before after : Store) (own words : List FileWord) (Next : List (List ℕ) → Topology → Reply → Type 0) (stop : Stop) → IsStop stop (EndsEarly before after own words) → IsStop stop (OverFiles before after own words Next)
stops-early before after own words Next stop p =
    Stops-so {P = EndsEarly before after own words} {Q = OverFiles before after own words Next} stop (λ reply e. inl e) p

-- the run ends over what the words hold
pub stops-over : (before after : Store) (own words : List FileWord) (Next : List (List ℕ) → Topology → Reply → Type 0) (sources : Sources) (stop : Stop) → AreSources before own words sources → IsStop stop (Next sources.held sources.domains)
    → IsStop stop (OverFiles before after own words Next)
stops-over before after own words Next sources stop are p =
    Stops-so {P = Next sources.held sources.domains} {Q = OverFiles before after own words Next} stop (λ reply next. inr (record { sources = sources; are = are; next = next })) p
