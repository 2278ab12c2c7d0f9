-- The four rules that tell the segments of a system one step or one nested segment at a time.
use Rattle.std.specs.Prelude.{◌≡◌, ℕ, ◌+◌, List, length}
use Rattle.walk_grammar.specs.System.{System, Origin, Request, Entry, cost_of, IsSegmentUnder}

-- The relation on roots, states, costs and numbers of steps keeps the rules. `begins`: a start has weight zero under the request.
-- `extends`: a step that keeps the stack adds its cost and one. `opens`: a state that a push enters is a root, of weight zero.
-- `nests`: a push, a pair under the root that it enters and a pop of the same frame add their costs and numbers together.
pub record Rules {State Frame Step : Type 0} (S : System State Frame Step) (Start : State → Type 0) (P : Origin State → State → ℕ → ℕ → Type 0) : Type 0 where
  pub begins : (a : State) → Start a → P Request a 0 0
  pub extends : (r : Origin State) (x : State) (c h : ℕ) → P r x c h → (k : Step) (y : State) → S.Keeps x k y → P r y (c + S.cost k) (h + 1)
  pub opens : (r : Origin State) (x : State) (c h : ℕ) → P r x c h → (k : Step) (f : Frame) (y : State) → S.Pushes x k f y → P (Entry y) y 0 0
  pub nests : (r : Origin State) (x : State) (c h : ℕ) → P r x c h → (k : Step) (f : Frame) (e : State) → S.Pushes x k f e
      → (y : State) (d g : ℕ) → P (Entry e) y d g → (l : Step) (z : State) → S.Pops y l f z → P r z (c + S.cost k + d + S.cost l) (h + 1 + g + 1)

-- a segment under the root to the state, of this cost and number of hops
pub record IsFound {State Frame Step : Type 0} (S : System State Frame Step) (Start : State → Type 0) (root : Origin State) (y : State) (c h : ℕ) : Type 0 where
  pub segment : List Step
  pub is_segment : IsSegmentUnder S Start root segment y
  pub cost : cost_of S segment ≡ c
  pub hops : length segment ≡ h
