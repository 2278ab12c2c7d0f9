use Rattle.std.proofs.Common.{◌≡◌, refl, sym, ◌∙◌, ap, subst, Some}
use Rattle.std.specs.Prelude.{slice_get}
use Rattle.std.proofs.Math.ListN.{get_or}
use Rattle.std.proofs.lemmas.Option.{slice_get-get_or, slice_get_within}
use Rattle.machine_build.specs.Built.{BuiltValue}
use Rattle.machine_build.proofs.Told.{hop_told}
use Rattle.machine_build.proofs.built.Built.hop.Goals as goal

pub returns : goal.returns
returns c =
    let built = c.requires.built.1.1 in
    let step_at = subst (λ (b : BuiltValue). slice_get b.machine.steps c.args.step.0 ≡ Some c.step-step.result) c.self.view_is c.step-step.ensures.found in
    let leaves_at = subst (λ (b : BuiltValue). slice_get b.places c.step-step.result.from.0 ≡ Some c.place.result.now) c.self.view_is c.place.ensures in
    let enters_at = subst (λ (b : BuiltValue). slice_get b.places c.step-step.result.to.0 ≡ Some c.place-2.result.now) c.self.view_is c.place-2.ensures in
    let hop = built.hop c.args.step.0 c.step-step.result step_at in
    let read = subst (λ (b : BuiltValue). c.index-site.result.now ≡ get_or b.sites c.args.step.0 c.index-site.result.now) c.self.view_is c.index-site.ensures in
    let site_at = slice_get-get_or c.args.self.now.sites c.args.step.0 c.index-site.result.now (slice_get_within c.args.self.now.sites c.args.step.0 hop.1.site hop.1.site_at) ∙ ap Some (sym read) in
    hop_told c.args.inventory.now c.args.self.now c.args.step.0 hop.0 hop.1 _ c.step-step.result c.index-site.result.now c.place.result.now c.place-2.result.now c.in-Some.element.now
    step_at site_at leaves_at enters_at
    (sym c.in-Some.ensures) (sym c.kind_of.ensures ∙ c.in-Some-kind_of.is) (c.in_ok-share.ensures ∙ c.id_of.ensures) (c.name.ensures ∙ ap Some (sym c.in_ok-share-2.ensures)) (c.name-2.ensures ∙ ap Some (sym c.in_ok-share-3.ensures))
    (c.domain_of.ensures ∙ ap Some (sym c.in_ok-share-4.ensures)) refl refl
