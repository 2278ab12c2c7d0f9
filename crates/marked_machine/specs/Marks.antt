-- What the tables of a rule of marks say.
use Rattle.std.specs.Prelude.{ℕ, ◌+◌, ◌*◌, nat_lt, Option, Some, None, slice_get, if◌then◌else◌}
use Rattle.std.specs.Global.{Vec}
use Rattle.marked_machine.specs.declared.marks.Marks.{Marks}

-- the mark, if it is below `count`
abbrev pub below : ℕ → Option ℕ → Option ℕ
below count None = None
below count (Some mark) = if nat_lt mark count then Some mark else None

-- what a cell holds, if there is one
abbrev pub held : Option (Option ℕ) → Option ℕ
held None = None
held (Some cell) = cell

-- what cell number `n` of a row holds
abbrev pub cell_of : Option (Vec (Option ℕ)) → ℕ → Option ℕ
cell_of None n = None
cell_of (Some row) n = held (slice_get row.items n)

-- the cell of a class
abbrev pub cell_by : Marks → Option ℕ → ℕ → Option ℕ
cell_by marks None n = None
cell_by marks (Some number) n = cell_of (slice_get marks.rows.items number) n

-- the mark behind step `k` at mark `i`, which sees mark `j` of a frame, if the rule has that step
abbrev pub next_mark : Marks → ℕ → ℕ → ℕ → Option ℕ
next_mark marks k i j = below marks.count (cell_by marks (slice_get marks.classes.items k) (j * marks.count + i))

-- the mark that a push at mark `i` puts beside its frame, if there is a push
abbrev pub put_mark : Marks → ℕ → Option ℕ
put_mark marks i = below marks.frame_count (slice_get marks.puts.items i)
