use Rattle.std.proofs.Common.{◌≡◌, codes, ◌+◌, refl}
use Rattle.topo_gen.specs.Tunnels.{named, link}
use Rattle.topo_gen.proofs.Growing.{one_more}
use Rattle.topo_gen.proofs.levels.push_links.Goals as goal

pub loop-before-preserved : goal.loop-before-preserved
loop-before-preserved c =
    let made : c.link.result ≡ link (named (codes "l") (c.loop-before.before + 1)) (c.loop-before.before + 1) = rw (c.link.ensures, c.in_ok-id.ensures, c.from.ensures) refl in
    one_more (λ i. link (named (codes "l") i) i) c.args.elements.now.items c.loop-before.before c.loop-before.elements.items c.push.new.elements.items c.link.result
    c.loop-before.invariant c.in_ok-push.ensures made
