use Rattle.std.proofs.Common.{◌≡◌, ◌∙◌, ap, sym}
use Rattle.ml_base.specs.declared.numbers.Root.TheVariants.{Request}
use Rattle.segment_grammar.specs.Pots.{pot}
use Rattle.knuth_search.specs.Following.{zero}
use Rattle.knuth_search.proofs.Offering.{offers_pushed}
use Rattle.knuth_search.proofs.run.begin_at.Goals as goal

pub returns-clause-offers : goal.returns-clause-offers
returns-clause-offers c = offers_pushed (λ p. p ≡ pot Request c.args.start zero) c.args.queue.now c.push.new.self (pot Request c.args.start c.zero.result) c.in_ok-push.ensures.offers
    (λ p r. r ∙ ap (λ v. pot Request c.args.start v) (sym c.zero.ensures))
