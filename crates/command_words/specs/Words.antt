-- The command that the words spell.
use Rattle.std.specs.Prelude.{ℕ, ◌+◌, ◌≤◌, List, [], ◌∷◌, ◌&&◌, length, map, nat_lt, nat_le, codes, Bool, true, false, Option, Some, None, String, option_map, string_bytes, if◌then◌else◌}
use Rattle.std.specs.List.{list_all}
use Rattle.std.specs.Str.{bytes_eq}
use Rattle.std.specs.declared.alloc.Global.{Global}
use Rattle.line_text.specs.Fields.{id_of, number_of, wish_of}
use Rattle.command_words.specs.declared.words.Asked.{Asked}
use Rattle.command_words.specs.declared.words.End.{End}
use Rattle.command_words.specs.declared.words.Command.{Command}
use Rattle.command_words.specs.declared.words.Examined.{Examined}
use Rattle.command_words.specs.declared.words.Command.TheVariants.{Find, KFind, Check, Replay, Survey, Drill}

-- a word, as its bytes
abbrev pub Word : Type 0
Word = List ℕ

abbrev pub Words : Type 0
Words = List (String Global)

-- what is spelled by a part, and then by what follows it
infixl 10 ◌>>=◌
abbrev pub ◌>>=◌ : {A B : Type 0} → Option A → (A → Option B) → Option B
None >>= f = None
(Some a) >>= f = f a

abbrev pub is_word : Word → Word → Bool
is_word word spelled = bytes_eq word spelled

abbrev pub has_bytes : String Global → Bool
has_bytes word = nat_lt 0 (length (string_bytes word))

-- 1 to 64 words, none of them empty, name files
unfoldable pub files_of : Words → Option (List Word)
files_of names =
    if nat_le 1 (length names) && nat_le (length names) 64 && list_all has_bytes names then Some (map string_bytes names) else None

-- an id, and a wish: `any` or a label
unfoldable pub end_of : Word → Word → Option End
end_of port wish = do
  id ← id_of port
  wished ← wish_of wish
  Some (record { port = id; wish = wished })

-- a request over files
unfoldable pub asked_of : Words → Option Asked
asked_of (from ∷ from_wish ∷ to ∷ to_wish ∷ names) = do
  source ← end_of (string_bytes from) (string_bytes from_wish)
  target ← end_of (string_bytes to) (string_bytes to_wish)
  files ← files_of names
  Some (record { request = record { from = source.port; from_wish = source.wish; to = target.port; to_wish = target.wish }; files = files })
asked_of words = None

-- a request, whose answer is shown with its potentials or without
unfoldable pub find_of : Bool → Words → Option Command
find_of potentials words = do
  asked ← asked_of words
  Some (Find asked.request asked.files potentials)

-- a number from 1 to a most
unfoldable pub count_of : ℕ → Word → Option ℕ
count_of most word = do
  count ← number_of (most + 1) word
  if nat_le 1 count then Some count else None

-- a number of walks from 1 to 100, and a request
unfoldable pub k_find_of : Words → Option Command
k_find_of [] = None
k_find_of (word ∷ words) = do
  k ← count_of 100 (string_bytes word)
  asked ← asked_of words
  Some (KFind k asked.request asked.files)

-- a document, which is not an empty word, and the files that it is examined over
unfoldable pub examined_of : Words → Option Examined
examined_of [] = None
examined_of (answer ∷ names) = if has_bytes answer then (option_map (λ files. record { answer = string_bytes answer; files = files }) (files_of names)) else None

unfoldable pub check_of : Words → Option Command
check_of words = do
  examined ← examined_of words
  Some (Check examined.answer examined.files)

unfoldable pub replay_of : Words → Option Command
replay_of words = do
  examined ← examined_of words
  Some (Replay examined.answer examined.files)

unfoldable pub survey_of : Words → Option Command
survey_of names = do
  files ← files_of names
  Some (Survey files)

-- a number of levels from 1 to 4096
unfoldable pub drill_of : Words → Option Command
drill_of (word ∷ []) = do
  levels ← count_of 4096 (string_bytes word)
  Some (Drill levels)
drill_of [] = None
drill_of (word ∷ other ∷ words) = None

unfoldable pub command_of : Words → Option Command
command_of [] = None
command_of (word ∷ rest) =
    if is_word (string_bytes word) (codes "find") then find_of true rest
    else (if is_word (string_bytes word) (codes "route") then find_of false rest
    else (if is_word (string_bytes word) (codes "k-find") then k_find_of rest
    else (if is_word (string_bytes word) (codes "check") then check_of rest
    else (if is_word (string_bytes word) (codes "replay") then replay_of rest
    else (if is_word (string_bytes word) (codes "survey") then survey_of rest
    else (if is_word (string_bytes word) (codes "drill") then drill_of rest else None))))))

-- the command names at most 64 files
abbrev pub NamesFewFiles : Command → Type 0
NamesFewFiles (Find request files potentials) = length files ≤ 64
NamesFewFiles (KFind k request files) = length files ≤ 64
NamesFewFiles (Check answer files) = length files ≤ 64
NamesFewFiles (Replay answer files) = length files ≤ 64
NamesFewFiles (Survey files) = length files ≤ 64
NamesFewFiles (Drill levels) = Unit {0}

-- a command that lists walks lists 1 to 100, and one that makes a network makes one of 1 to 4096 levels
abbrev pub CountsFew : Command → Type 0
CountsFew (Find request files potentials) = Unit {0}
CountsFew (KFind k request files) = (1 ≤ k) × (k ≤ 100)
CountsFew (Check answer files) = Unit {0}
CountsFew (Replay answer files) = Unit {0}
CountsFew (Survey files) = Unit {0}
CountsFew (Drill levels) = (1 ≤ levels) × (levels ≤ 4096)
