-- Moves, taken apart into their steps and their sites and put together again.
use Rattle.std.proofs.Common.{◌≡◌, List, [], ◌∷◌, ◌++◌, map, length, refl, ◌∙◌, ap, arith}
use Rattle.adapt_machine.specs.declared.MachineKind.{MachineKind}
use Rattle.adapt_machine.specs.declared.MachineKind.TheVariants.{Flat, Push, Pop}
use Rattle.adapt_machine.specs.declared.MachineStep.{MachineStep}
use Rattle.machine_build.specs.declared.built.Site.{Site}
use Rattle.machine_build.specs.declared.ways.Move.{Move}
use Rattle.machine_build.specs.Ways.{far_by, from_of, move_of, moves_by, near_by, site_by, site_of, step_by, step_of, to_of}

-- One move

move_again_by : (k : MachineKind) (m : Move) → move_of (step_by k m) (site_by k m) ≡ record m { effect = record m.effect { kind = k } }
move_again_by Flat m = refl
move_again_by Push m = refl
move_again_by Pop m = refl

move_again : (m : Move) → move_of (step_of m) (site_of m) ≡ m
move_again m = move_again_by m.effect.kind m

-- the move of a step and its site, with the ends of a step of this kind
abbrev joined : MachineKind → MachineStep → Site → Move
joined k t s = record (move_of t s) { near = near_by k (from_of t s) (to_of t s); far = far_by k (from_of t s) (to_of t s) }

step_again_by : (k : MachineKind) (t : MachineStep) (s : Site) → step_by k (joined k t s) ≡ record t { kind = k }
step_again_by Flat t s = refl
step_again_by Push t s = refl
step_again_by Pop t s = refl

site_again_by : (k : MachineKind) (t : MachineStep) (s : Site) → site_by k (joined k t s) ≡ s
site_again_by Flat t s = refl
site_again_by Push t s = refl
site_again_by Pop t s = refl

-- Lists of them

pub moves_more : (ts : List MachineStep) (ss : List Site) (m : Move) → length ss ≡ length ts → moves_by (ts ++ step_of m ∷ []) (ss ++ site_of m ∷ []) ≡ moves_by ts ss ++ m ∷ []
moves_more [] [] m e = ap (λ n. n ∷ []) (move_again m)
moves_more [] (s ∷ ss) m e = absurd (omega (arith, e))
moves_more (t ∷ ts) [] m e = absurd (omega (arith, e))
moves_more (t ∷ ts) (s ∷ ss) m e = ap (λ l. move_of t s ∷ l) (moves_more ts ss m (omega (arith, e)))

pub steps_again : (ts : List MachineStep) (ss : List Site) → length ss ≡ length ts → map step_of (moves_by ts ss) ≡ ts
steps_again [] ss e = refl
steps_again (t ∷ ts) [] e = absurd (omega (arith, e))
steps_again (t ∷ ts) (s ∷ ss) e = ap (λ x. x ∷ map step_of (moves_by ts ss)) (step_again_by t.kind t s) ∙ ap (λ l. t ∷ l) (steps_again ts ss (omega (arith, e)))

pub sites_again : (ts : List MachineStep) (ss : List Site) → length ss ≡ length ts → map site_of (moves_by ts ss) ≡ ss
sites_again [] [] e = refl
sites_again [] (s ∷ ss) e = absurd (omega (arith, e))
sites_again (t ∷ ts) [] e = absurd (omega (arith, e))
sites_again (t ∷ ts) (s ∷ ss) e = ap (λ x. x ∷ map site_of (moves_by ts ss)) (site_again_by t.kind t s) ∙ ap (λ l. s ∷ l) (sites_again ts ss (omega (arith, e)))
