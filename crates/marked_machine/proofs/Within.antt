-- The numbers of a product's steps are below the product's.
use Rattle.std.proofs.Common.{◌≢◌, ℕ, ◌*◌, ◌<◌, map, refl, sym, ◌∙◌, subst, slice_get, Contains}
use Rattle.std.specs.List.{All}
use Rattle.std.proofs.Math.Nat.{mul_comm}
use Rattle.std.proofs.lemmas.Nat.{mul-add-lt}
use Rattle.std.proofs.lemmas.List.Elements.{All-weaker, All-contains, All-contains_itself}
use Rattle.std.proofs.lemmas.Option.{slice_get-map}
use Rattle.ml_base.proofs.Lists.{among_contains, among_place, contains_at, mapped_some, place_among}
use Rattle.ml_base.specs.declared.numbers.FrameNo.{FrameNo}
use Rattle.ml_base.specs.declared.numbers.StepNo.{StepNo}
use Rattle.adapt_machine.specs.Machine.{MachineValue, IsStepWithin}
use Rattle.adapt_machine.specs.declared.MachineStep.{MachineStep}
use Rattle.adapt_machine.specs.declared.MachineKind.{MachineKind}
use Rattle.adapt_machine.specs.declared.MachineKind.TheVariants.{Flat, Push, Pop}
use Rattle.marked_machine.specs.declared.marks.Marks.{Marks}
use Rattle.marked_machine.specs.Product.{MarkedStep, marked_steps, lifted, place_of}
use Rattle.marked_machine.proofs.Among.{IsFrom, Leads, leads_below, put_below, steps_from}

pub place_within : (count base mark bases : ℕ) → base < bases → mark < count → place_of count base mark < bases * count
place_within count base mark bases p q = subst (λ n. place_of count base mark < n) (mul_comm count bases) (mul-add-lt base count mark bases p q)

frame_within : (marks : Marks) (frames : ℕ) (kind : MachineKind) (k : StepNo) (t : MachineStep) (i b : ℕ) (f : FrameNo) → t.frame.0 < frames → kind ≢ Flat → Leads kind marks k t i b f
    → f.0 < frames * marks.frame_count
frame_within marks frames Flat k t i b f lt differs leads = absurd (differs refl)
frame_within marks frames Push k t i b f lt differs leads =
    subst (λ (v : FrameNo). v.0 < frames * marks.frame_count) (sym leads.2) (place_within marks.frame_count t.frame.0 leads.0 frames lt (put_below marks i leads.0 leads.1))
frame_within marks frames Pop k t i b f lt differs leads =
    subst (λ (v : FrameNo). v.0 < frames * marks.frame_count) (sym leads.2) (place_within marks.frame_count t.frame.0 leads.0 frames lt leads.1)

module _ (m : MachineValue) (marks : Marks) (within : All (IsStepWithin m.states m.frames) m.steps) where
  abbrev Within : MachineStep → Type 0
  Within u = IsStepWithin (m.states * marks.count) (m.frames * marks.frame_count) u

  from_within : (a : MarkedStep) → IsFrom marks m.steps a → Within a.step
  from_within a is =
      let base : IsStepWithin m.states m.frames is.base = All-contains (IsStepWithin m.states m.frames) m.steps is.base within (contains_at m.steps a.base.0 is.base is.found) in
      let here : Within (lifted marks is.base is.frame is.mark is.after) = record {
        from = place_within marks.count is.base.from.0 is.mark m.states base.from is.below;
        to = place_within marks.count is.base.to.0 is.after m.states base.to (leads_below marks is.base.kind a.base is.base is.mark is.after is.frame is.leads);
        frame = λ differs. frame_within marks m.frames is.base.kind a.base is.base is.mark is.after is.frame (base.frame differs) differs is.leads;
      } in
      subst Within (sym is.is) here

  item_within : (u : MachineStep) → Contains (map (λ a. a.step) (marked_steps marks m.steps)) u → Within u
  item_within u is =
      let place = place_among (map (λ (a : MarkedStep). a.step) (marked_steps marks m.steps)) u (among_contains (map (λ (a : MarkedStep). a.step) (marked_steps marks m.steps)) u is) in
      let a = mapped_some (λ (v : MarkedStep). v.step) (slice_get (marked_steps marks m.steps) place.0) u (sym (slice_get-map (λ (v : MarkedStep). v.step) (marked_steps marks m.steps) place.0) ∙ place.1) in
      subst Within a.2 (from_within a.0 (steps_from marks m.steps a.0 (among_place (marked_steps marks m.steps) place.0 a.0 a.1)))

  pub all_within : All Within (map (λ a. a.step) (marked_steps marks m.steps))
  all_within = All-weaker (Contains (map (λ (a : MarkedStep). a.step) (marked_steps marks m.steps))) Within item_within (map (λ (a : MarkedStep). a.step) (marked_steps marks m.steps))
      (All-contains_itself (map (λ (a : MarkedStep). a.step) (marked_steps marks m.steps)))
