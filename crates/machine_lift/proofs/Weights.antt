-- Pairs that belong together are reached together, and have the same least weight.
use Rattle.std.proofs.Common.{sym, ◌∙◌, ap, subst}
use Rattle.ml_base.specs.Weight.{IsCappedAtMost, cap}
use Rattle.ml_base.specs.declared.numbers.Root.{Root}
use Rattle.ml_base.specs.declared.numbers.StateNo.{StateNo}
use Rattle.ml_base.specs.declared.weight.Weight.{Weight}
use Rattle.segment_grammar.specs.Reached.{IsLeast, IsReached as IsReachedState}
use Rattle.circuit_spec.specs.declared.hops.PlaceName.{PlaceName}
use Rattle.circuit_spec.specs.declared.hops.Request.{Request}
use Rattle.circuit_spec.specs.Network.{Topology}
use Rattle.circuit_spec.specs.Segments.{RootPlace, IsLeastOf, IsReached}
use Rattle.machine_build.specs.Built.{BuiltValue, IsState}
use Rattle.machine_lift.specs.Lift.{AreLifted, IsRootAt}

module _ (T : Topology) (r : Request) (b : BuiltValue) (lifted : AreLifted T r b) (root : Root) (at : RootPlace) (state : StateNo) (place : PlaceName) (roots : IsRootAt b root at) (here : IsState b state place) where
  pub reached : IsReachedState b.machine.steps b.starts root state → IsReached T r at place
  reached is =
      let made = lifted.made root is.0 state is.1 in
      (made.0, (lifted.hops root is.0 state is.1 at place made.0 roots here made.1).0)

  pub reached_back : IsReached T r at place → IsReachedState b.machine.steps b.starts root state
  reached_back is = let s = lifted.steps at is.0 place is.1 root state roots here in (s.0, s.1)

  pub least : (w : Weight) → IsLeast b.machine.steps b.starts root state w → IsLeastOf T r at place w
  least w is =
      let made = lifted.made root is.segment state is.is_segment in
      let up = lifted.hops root is.segment state is.is_segment at place made.0 roots here made.1 in
      record {
        hops = made.0;
        segment = up.0;
        weight = ap cap up.1 ∙ is.weight;
        least = λ others o.
            let s = lifted.steps at others place o root state roots here in
            let same = (lifted.hops root s.0 state s.1 at place others roots here s.2).1 in
            subst (λ v. IsCappedAtMost w v) (sym (ap cap same)) (is.least s.0 s.1);
      }

  pub least_back : (w : Weight) → IsLeastOf T r at place w → IsLeast b.machine.steps b.starts root state w
  least_back w is =
      let s = lifted.steps at is.hops place is.segment root state roots here in
      let same = (lifted.hops root s.0 state s.1 at place is.hops roots here s.2).1 in
      record {
        segment = s.0;
        is_segment = s.1;
        weight = sym (ap cap same) ∙ is.weight;
        least = λ ks o.
            let made = lifted.made root ks state o in
            let up = lifted.hops root ks state o at place made.0 roots here made.1 in
            subst (λ v. IsCappedAtMost w v) (ap cap up.1) (is.least made.0 up.0);
      }
