-- A unit on its way: runs that go on, the height of its stack, and where it is behind hops.
use Rattle.std.proofs.Common.{◌≡◌, ◌+◌, ◌<◌, ℕ, List, [], ◌∷◌, ◌++◌, length, take, drop, get_or, refl, sym, ◌∙◌, ap, subst, arith}
use Rattle.std.proofs.lemmas.List.{take_more, drop_more, take-append-drop, length-take-le}
use Rattle.nml_elements.specs.declared.elements.Element.TheVariants as element
use Rattle.circuit_spec.specs.declared.hops.Hop.{Hop}
use Rattle.circuit_spec.specs.declared.hops.PlaceName.{PlaceName}
use Rattle.circuit_spec.specs.declared.hops.Unit.{Unit as DataUnit}
use Rattle.circuit_spec.specs.Faults.{IsKnown}
use Rattle.circuit_spec.specs.Flags.{Enters}
use Rattle.circuit_spec.specs.Network.{Topology, IsOpen}
use Rattle.circuit_spec.specs.Segments.{unit_in}
use Rattle.circuit_spec.specs.Steps.{Run, Step}
use Rattle.answer_spec.specs.declared.answer.Answer.{Answer}
use Rattle.answer_spec.specs.Certificate.{AreCarried, first_place}
use Rattle.verdict.specs.Faults.{HasStuckHop}
use Rattle.hop_check.specs.Arriving.{IsSomewhere}
use Rattle.hop_check.specs.Carrying.{Leads}

-- ---- the stack

-- ---- runs

pub run_on : (T : Topology) (u : DataUnit) (hops : List Hop) (v : DataUnit) (h : Hop) (w : DataUnit) → Run T u hops v → Step T v h w → Run T u (hops ++ h ∷ []) w
run_on T u [] v h w run step = (w, subst (λ (x : DataUnit). Step T x h w) run step, refl)
run_on T u (x ∷ hops) v h w run step = (run.0, run.1, run_on T run.0 hops v h w run.2 step)

-- the hop at a place takes the unit on
pub leads_on : (T : Topology) (a : Answer) (i : ℕ) (h : Hop) (v w : DataUnit) → h ≡ get_or a.hops i h → i < length a.hops → Leads T a (take i a.hops) v → Step T v h w → Leads T a (take (i + 1) a.hops) w
leads_on T a i h v w is lt led step class first =
    let on = run_on T (unit_in (first_place class a.request a.hops) []) (take i a.hops) v h w (led class first) step in
    let more = take_more a.hops i h lt ∙ ap (λ (x : Hop). take i a.hops ++ x ∷ []) (sym is) in
    subst (λ (hs : List Hop). Run T (unit_in (first_place class a.request a.hops) []) hs w) (sym more) on

-- or takes it nowhere
pub stuck_there : (T : Topology) (a : Answer) (i : ℕ) (h : Hop) (v : DataUnit) (line : ℕ) → IsKnown T a.request → h ≡ get_or a.hops i h → i < length a.hops → Leads T a (take i a.hops) v → ((next : DataUnit) → ¬ Step T v h next) → line ≡ 4 + i → HasStuckHop T a line
stuck_there T a i h v line known is lt led stuck at = record {
  class = known.0.0;
  is_class = known.0.1;
  before = take i a.hops;
  hop = h;
  after = drop (i + 1) a.hops;
  split = sym (take-append-drop i a.hops) ∙ ap (λ (hs : List Hop). take i a.hops ++ hs) (drop_more a.hops i h lt ∙ ap (λ (x : Hop). x ∷ drop (i + 1) a.hops) (sym is));
  left = v;
  run = led known.0.0 known.0.1;
  stuck = stuck;
  at = omega (arith, at, length-take-le i a.hops (omega (arith, lt)));
}

pub carried : (T : Topology) (a : Answer) (v : DataUnit) → IsKnown T a.request → Leads T a a.hops v → AreCarried T a.request a.hops
carried T a v known led = (known.0.0, known.0.1, (v, led known.0.0 known.0.1))

-- ---- where a unit is

-- a hop leads to an open place
pub step_somewhere : (T : Topology) (u : DataUnit) (h : Hop) (v : DataUnit) → Step T u h v → IsSomewhere T v
step_somewhere T u h v s = record {
  port = h.to;
  class = s.to;
  place = record { is_class = s.enters.is_class; is_open = subst (IsOpen T s.to) (sym s.after.same_label) s.enters.is_open };
  named = s.after.same_class;
}

pub run_somewhere : (T : Topology) (u : DataUnit) (h : Hop) (hops : List Hop) (v : DataUnit) → Run T u (h ∷ hops) v → IsSomewhere T v
run_somewhere T u h [] v run = subst (IsSomewhere T) (sym run.2) (step_somewhere T u h run.0 run.1)
run_somewhere T u h (k ∷ hops) v run = run_somewhere T run.0 k hops v run.2

-- the places that hops enter as they are run
pub entered : (T : Topology) (u : DataUnit) (hops : List Hop) (v : DataUnit) → Run T u hops v → (places : List PlaceName) × Enters T hops places
entered T u [] v run = ([], refl)
entered T u (h ∷ hops) v run =
    let rest = entered T run.0 hops v run.2 in
    (record { class = run.1.to.id; label = h.to_label } ∷ rest.0, ((run.1.to, run.1.enters.is_class, refl), rest.1))

pub led_somewhere : (T : Topology) (a : Answer) (v : DataUnit) (h : Hop) (hops : List Hop) → IsKnown T a.request → Leads T a a.hops v → a.hops ≡ h ∷ hops → IsSomewhere T v
led_somewhere T a v h hops known led are =
    let start = unit_in (first_place known.0.0 a.request a.hops) [] in
    run_somewhere T start h hops v (subst (λ (hs : List Hop). Run T start hs v) are (led known.0.0 known.0.1))
