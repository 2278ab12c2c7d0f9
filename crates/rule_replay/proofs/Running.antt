-- Runs that go on by a hop, and where they end.
use Rattle.std.proofs.Common.{◌≡◌, ◌≢◌, ◌⊎◌, inl, inr, ℕ, suc, ◌+◌, ◌<◌, ◌≤◌, List, [], ◌∷◌, ◌++◌, Option, None, Some, length, take, drop, refl, sym, ◌∙◌, ap, subst, arith, get_or, add-one, drop-cons}
use Rattle.std.proofs.lemmas.List.{length-take-le, take-append-drop, take_more}
use Rattle.circuit_spec.specs.declared.hops.Hop.{Hop}
use Rattle.circuit_spec.specs.declared.hops.PlaceName.{PlaceName}
use Rattle.circuit_spec.specs.declared.hops.Unit.{Unit as DataUnit}
use Rattle.circuit_spec.specs.Flags.{Enters}
use Rattle.circuit_spec.specs.Network.{Topology, Port, IsClass, IsOpen, Linked, ports}
use Rattle.circuit_spec.specs.Segments.{unit_in}
use Rattle.circuit_spec.specs.Steps.{Run, Step}
use Rattle.circuit_spec.proofs.ClassLemmas.{First-unique}
use Rattle.circuit_spec.proofs.NextUnit.{one_next, step_height}
use Rattle.table_replay.specs.Forwarding.{place_of}
use Rattle.table_replay.proofs.Places.{make_place}
use Rattle.rule_replay.specs.declared.replayed.ReplayCause.{ReplayCause}
use Rattle.rule_replay.specs.Carrying.{HasPassed, IsRefusedAt, Passes}
use Rattle.rule_replay.specs.Replaying.{Refuses}

drop_here : {A : Type 0} (xs : List A) (n : ℕ) (d : A) → n < length xs → drop n xs ≡ get_or xs n d ∷ drop (n + 1) xs
drop_here xs n d h = rw (add-one, drop-cons xs n d)

-- a list with the item of a number cut out
pub cut_at : {A : Type 0} (xs : List A) (n : ℕ) (d : A) → n < length xs → take n xs ++ get_or xs n d ∷ drop (n + 1) xs ≡ xs
cut_at xs n d within = ap (λ l. take n xs ++ l) (sym (drop_here xs n d within)) ∙ take-append-drop n xs

module _ (T : Topology) where
  run_more : (hops : List Hop) (u v w : DataUnit) (h : Hop) → Run T u hops v → Step T v h w → Run T u (hops ++ h ∷ []) w
  run_more [] u v w h run step = (w, subst (λ x. Step T x h w) run step, refl)
  run_more (k ∷ hops) u v w h (mid, first, run) step = (mid, first, run_more hops mid v w h run step)

  enters_more : (hops : List Hop) (entered : List PlaceName) (h : Hop) (class : Port) (y : PlaceName) → Enters T hops entered → IsClass T h.to class → y ≡ make_place class.id h.to_label → Enters T (hops ++ h ∷ []) (entered ++ y ∷ [])
  enters_more [] entered h class y enters is e = subst (λ l. Enters T (h ∷ []) (l ++ y ∷ [])) (sym enters) ((class, is, e), refl)
  enters_more (k ∷ hops) [] h class y enters is e = absurd enters
  enters_more (k ∷ hops) (x ∷ entered) h class y enters is e = (enters.0, enters_more hops entered h class y enters.1 is e)

  -- runs from a unit end at one unit
  pub one_run : (hops : List Hop) (u v w : DataUnit) → Run T u hops v → Run T u hops w → v ≡ w
  one_run [] u v w a b = a ∙ sym b
  one_run (h ∷ hops) u v w (x, s, a) (y, t, b) = one_run hops y v w (subst (λ z. Run T z hops v) (one_next T u h x y s t) a) b

  -- hops enter one list of places
  pub one_entry : (hops : List Hop) (xs ys : List PlaceName) → Enters T hops xs → Enters T hops ys → xs ≡ ys
  one_entry [] xs ys a b = a ∙ sym b
  one_entry (h ∷ hops) [] ys a b = absurd a
  one_entry (h ∷ hops) (x ∷ xs) [] a b = absurd b
  one_entry (h ∷ hops) (x ∷ xs) (y ∷ ys) ((c, is, e), a) ((d, its, f), b) =
      let same : c ≡ d = First-unique (λ q. Linked T h.to q.id) (ports T) c d is its in
      ap (λ z. z ∷ xs) (e ∙ ap (λ (p : Port). make_place p.id h.to_label) same ∙ sym f) ∙ ap (λ l. y ∷ l) (one_entry hops xs ys a b)

  -- behind a hop a unit is at an open place
  pub run_open : (hops : List Hop) (h : Hop) (u v : DataUnit) → Run T u (h ∷ hops) v → (port : List ℕ) × (class : Port) × IsClass T port class × (v.class ≡ class.id) × IsOpen T class v.label
  run_open [] h u v (mid, step, run) =
      (h.to, step.to, step.enters.is_class, ap (λ (w : DataUnit). w.class) run ∙ step.after.same_class, subst (IsOpen T step.to) (sym (ap (λ (w : DataUnit). w.label) run ∙ step.after.same_label)) step.enters.is_open)
  run_open (k ∷ hops) h u v (mid, step, run) = run_open hops k mid v run

  module _ (start : PlaceName) where
    pub passed_none : (unit : DataUnit) (places : List PlaceName) → unit ≡ unit_in start [] → places ≡ start ∷ [] → HasPassed T start [] unit places
    passed_none unit places at e = (at, ([], refl, e))

    passed_more : (hops : List Hop) (h : Hop) (u v : DataUnit) (places after : List PlaceName) → HasPassed T start hops u places → Step T u h v → after ≡ places ++ place_of v ∷ [] → HasPassed T start (hops ++ h ∷ []) v after
    passed_more hops h u v places after (run, (entered, enters, e)) step grown =
        let y : place_of v ≡ make_place step.to.id h.to_label = ap (λ c. make_place c v.label) step.after.same_class ∙ ap (make_place step.to.id) step.after.same_label in (
          run_more hops (unit_in start []) u v h run step,
          (entered ++ place_of v ∷ [], enters_more hops entered h step.to (place_of v) enters step.enters.is_class y, grown ∙ ap (λ l. l ++ place_of v ∷ []) e),
        )

    -- a hop is taken
    pub passed_on : (hops : List Hop) (n : ℕ) (d : Hop) (u v : DataUnit) (places after : List PlaceName) (answer : Option ReplayCause) → n < length hops → HasPassed T start (take n hops) u places → Passes T (get_or hops n d) u v places after answer → answer ≡ None
        → HasPassed T start (take (n + 1) hops) v after × (length v.stack ≤ length u.stack + 1)
    passed_on hops n d u v places after None within passed (step, grown) e =
        (subst (λ hs. HasPassed T start hs v after) (sym (take_more hops n d within)) (passed_more (take n hops) (get_or hops n d) u v places after passed step grown), step_height T u (get_or hops n d) v step)
    passed_on hops n d u v places after (Some why) within passed refused e = absurd (cc)

    -- a hop is refused
    pub refused_at : (hops : List Hop) (n : ℕ) (d : Hop) (u v : DataUnit) (places after : List PlaceName) (answer : Option ReplayCause) (why : ReplayCause) → n < length hops → HasPassed T start (take n hops) u places → Passes T (get_or hops n d) u v places after answer → answer ≡ Some why → IsRefusedAt T start hops (n + 1) why
    refused_at hops n d u v places after None why within passed step e = absurd (cc)
    refused_at hops n d u v places after (Some other) why within passed refused e = record {
      before = take n hops;
      hop = get_or hops n d;
      behind = drop (n + 1) hops;
      split = sym (cut_at hops n d within);
      number = let long = length-take-le n hops (omega (arith, within)) in omega (arith, long);
      unit = u;
      run = passed.0;
      refused = let same : other ≡ why = cc in subst (Refuses T u (get_or hops n d)) same refused;
    }
