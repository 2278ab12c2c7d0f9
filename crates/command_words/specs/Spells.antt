-- What parsing words owes.
use Rattle.std.specs.Prelude.{◌≡◌, Option, Some, None, Result, Ok, Err}
use Rattle.command_words.specs.declared.words.WordsFault.{WordsFault}
use Rattle.command_words.specs.declared.words.WordsFault.TheVariants.{Usage, NoMemory}

-- the value is the one that is spelled, and usage is answered where there is none
abbrev pub Spells : {X : Type 0} → Result X WordsFault → Option X → Type 0
Spells (Ok value) spelled = spelled ≡ Some value
Spells (Err Usage) spelled = spelled ≡ None
Spells (Err NoMemory) spelled = Unit {0}
