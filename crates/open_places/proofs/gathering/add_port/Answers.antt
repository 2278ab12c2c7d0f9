use Rattle.std.proofs.Common.{◌≡◌, ◌∙◌, ap, true}
use Rattle.std.specs.Prelude.{not}
use Rattle.std.proofs.lemmas.Bool.{eq-eqb}
use Rattle.open_places.specs.Gathering.{IsPlaceOf}
use Rattle.open_places.proofs.Named.{adds_none, none_of}
use Rattle.open_places.proofs.gathering.add_port.Goals as goal

pub returns-then-ne : goal.returns-then-ne
returns-then-ne c =
    adds_none (IsPlaceOf c.args.inventory.now c.args.kept.now c.args.port.0) c.args.places.now.items
    (none_of c.args.inventory.now c.args.kept.now c.args.port.0 c.class.result.0 c.is_merged.ensures c.class.ensures
    (λ same. (let differs : true ≡ not true = c.if-ne.ensures ∙ ap not (eq-eqb c.class.result.0 c.args.port.0 same) in absurd cc)))
