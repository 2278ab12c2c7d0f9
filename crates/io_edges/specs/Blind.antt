-- What a store keeps that passes reads on to another one and tells no contents.
use Rattle.std.specs.Prelude.{ℕ, None}
use Rattle.io_edges.specs.Reads.{Store}
use Rattle.io_edges.specs.declared.blind.Blind.{Blind}

-- the store that reads are passed on to
abbrev pub behind : {F : Type 0} → Blind F → F
behind s = s.inner

abbrev pub blind_faults : {F : Type 0} → Blind F → ℕ
blind_faults s = s.faults

-- what the store tells of itself, where the one behind it tells this: its own faults, the reads of the other, and no contents
abbrev pub blinded : ℕ → Store → Store
blinded faults told = record { contents = None; faults = faults; reads = told.reads; last = told.last }
