use Rattle.std.proofs.Common.{Err, ◌∙◌, ap}
use Rattle.deriv_arena.specs.Derivation.{kept_weight}
use Rattle.finder_core.proofs.Listings.{not_long}
use Rattle.finder_core.proofs.listing.steps_of.Goals as goal

pub unreachable-requires-in-Err-Long : goal.unreachable-requires-in-Err-Long
unreachable-requires-in-Err-Long c = not_long (kept_weight c.args.deriv.now) c.in-Err-Long.field-0-0 c.requires.within
    ((c.new.ensures.long c.in-Err-Long.field-0-0).0 (c.in-Err-Long.is ∙ ap Err c.in-Err-Long.field-0-is))
