-- The frames on a stack.
use Rattle.std.proofs.Common.{◌≡◌, ◌↔◌, List, [], ◌∷◌, ◌++◌, sym, ◌∙◌, ap, subst}
use Rattle.nml_elements.specs.declared.elements.AdaptE.{AdaptE}
use Rattle.nml_elements.specs.declared.elements.Element.{Element}
use Rattle.nml_elements.specs.declared.elements.Element.TheVariants as element
use Rattle.circuit_spec.specs.declared.hops.Frame.{Frame}
use Rattle.circuit_spec.specs.declared.hops.Hop.{Hop}
use Rattle.circuit_spec.specs.Network.{Port}
use Rattle.circuit_spec.specs.Steps.{frame_of}
use Rattle.circuit_spec.proofs.Ends.{same_last}
use Rattle.packet_replay.specs.Conditions.{IsOnTop, TakesTop, stack_after}

-- a frame that is on top is the frame that comes off exactly where they are the same
pub top_taken : (h : Hop) (to : Port) (e : Element) (a : AdaptE) (stack : List Frame) (top : Frame) → element.Deadaptation a ≡ e → IsOnTop top stack → (top ≡ frame_of a.function to h.to_label) ↔ TakesTop h to e stack
top_taken h to e a stack top is on =
    let f = frame_of a.function to h.to_label in (
      λ (same : top ≡ f). subst (λ x. TakesTop h to x stack) is (on.0, on.1 ∙ ap (λ (x : Frame). on.0 ++ x ∷ []) same),
      λ (t : TakesTop h to e stack). let under : TakesTop h to (element.Deadaptation a) stack = subst (λ x. TakesTop h to x stack) (sym is) t in (same_last on.0 under.0 top f (sym on.1 ∙ under.1)).1,
    )

-- an adaptation puts its frame on top
pub frame_put : (h : Hop) (from : Port) (e : Element) (a : AdaptE) (old new : List Frame) (frame : Frame) → element.Adaptation a ≡ e → frame ≡ frame_of a.function from h.from_label → new ≡ old ++ frame ∷ [] → new ≡ stack_after h from e old
frame_put h from e a old new frame is same put =
    put ∙ ap (λ (x : Frame). old ++ x ∷ []) same ∙ ap (λ x. stack_after h from x old) is
