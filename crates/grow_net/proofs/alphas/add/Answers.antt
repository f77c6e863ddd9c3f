use Rattle.std.proofs.Common.{ap, length, ◌+◌}
use Rattle.grow_net.proofs.PlaceLemmas.{place_added}
use Rattle.grow_net.proofs.alphas.add.Goals as goal

pub returns : goal.returns
returns c =
    place_added c.args.known.now c.args.more.now.items c.push.new.self.items c.args.alpha.now c.in_ok-copy_of.field-0 (length c.args.known.now + length c.as_slice-count.result.now)
    c.in_ok-copy_of.ensures c.in_ok-push.ensures.items (ap (λ z. length c.args.known.now + length z) c.as_slice-count.ensures.value) c.requires
