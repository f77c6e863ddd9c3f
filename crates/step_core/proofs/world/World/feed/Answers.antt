-- The flight has grown by the tasks that are fed.
use Rattle.std.proofs.Common.{length, length-append, ap, ◌∙◌, arith}
use Rattle.work_store.specs.Stored.{held_of}
use Rattle.step_core.specs.Machine.{fed_by}
use Rattle.step_core.proofs.world.World.feed.Goals as goal

pub overflow_sub-self : goal.overflow_sub-self
overflow_sub-self c =
    let s = c.args.store.now in
    let net = c.args.net.now in
    let old = c.args.self.now.flight in
    let fed = fed_by (held_of s) net.alphas net.nodes c.args.change.now in
    let e = ap length (c.in_ok-add_fed.ensures.tasks (held_of s) (λ tag e h. h)) ∙ length-append old.items fed in
    omega (arith, e, c.len-before.ensures, old.ok.0, c.len.ensures, c.add_fed.new.flight.ok.0)

pub invariant_of-self-2-clause-counted : goal.invariant_of-self-2-clause-counted
invariant_of-self-2-clause-counted c =
    let s = c.args.store.now in
    let net = c.args.net.now in
    let old = c.args.self.now.flight in
    let fed = fed_by (held_of s) net.alphas net.nodes c.args.change.now in
    let e = ap length (c.in_ok-add_fed.ensures.tasks (held_of s) (λ tag e h. h)) ∙ length-append old.items fed in
    let counted = c.args.self.now.counted in
    omega (arith, e, c.len-before.ensures, old.ok.0, c.len.ensures, c.add_fed.new.flight.ok.0, counted)
