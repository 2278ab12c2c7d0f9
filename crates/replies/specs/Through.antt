-- Going through a list until one of its items ends the run.
use Rattle.std.specs.Prelude.{◌≡◌, ℕ, ◌+◌, List, [], ◌∷◌, ◌++◌, length, Result, Ok, Err}
use Rattle.replies.specs.declared.reply.Reply.{Reply}
use Rattle.replies.specs.declared.reply.Status.{Status}
use Rattle.replies.specs.declared.reply.Stop.{Stop}
use Rattle.replies.specs.declared.reply.Stop.TheVariants.{Ended, NoMemory}

-- the items have these partners, in order
abbrev pub Each : {A B : Type 0} → (A → B → Type 0) → List A → List B → Type 0
Each R [] [] = Unit {0}
Each R [] (y ∷ ys) = ⊥
Each R (x ∷ xs) [] = ⊥
Each R (x ∷ xs) (y ∷ ys) = R x y × Each R xs ys

-- the items before one have partners, and that one, by its place from 1, ends the run with this reply
pub record Ends {A B : Type 0} (R : A → B → Type 0) (EndsAt : ℕ → A → Reply → Type 0) (items : List A) (reply : Reply) : Type 0 where
  pub earlier : List A
  pub item : A
  pub later : List A
  pub partners : List B
  pub split : items ≡ earlier ++ item ∷ later
  pub passed : Each R earlier partners
  pub ends : EndsAt (length earlier + 1) item reply

-- a reply of this text
abbrev pub IsText : Status → List ℕ → Reply → Type 0
IsText status text reply = reply ≡ record { status = status; text = text }

-- the run ends so, unless memory ran out
abbrev pub IsStop : Stop → (Reply → Type 0) → Type 0
IsStop (Ended reply) EndsSo = EndsSo reply
IsStop NoMemory EndsSo = Unit {0}

-- what code owes that passes on a value, or ends the run; nothing where memory ran out
abbrev pub Passes : {X : Type 0} → Result X Stop → (X → Type 0) → (Reply → Type 0) → Type 0
Passes (Ok x) Passed EndsSo = Passed x
Passes (Err stop) Passed EndsSo = IsStop stop EndsSo

-- what code owes that replies
abbrev pub Gives : Result Reply Stop → (Reply → Type 0) → Type 0
Gives result May = Passes result May May
