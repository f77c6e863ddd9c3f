-- The store holds the tag of the element that comes, and the tag that goes.
use Rattle.std.proofs.Common.{◌≡◌, true, false, length, Some, IsSome, refl, sym, subst}
use Rattle.work_store.specs.Stored.{held_of}
use Rattle.step_core.specs.Feeding.{IsKnown}
use Rattle.step_core.specs.Machine.{tasks_below}
use Rattle.step_core.proofs.FedTasks.{tasks_fit, fit_after}
use Rattle.step_core.proofs.feeding.add_fed.Goals as goal

pub returns-in-Add-clause-fit : goal.returns-in-Add-clause-fit
returns-in-Add-clause-fit c all =
    let net = c.args.net.now in
    let e = c.in-Add.element in
    let known : held_of c.args.store.now e.tag ≡ Some e = subst (IsKnown c.args.store.now) c.in-Add.is c.requires in
    fit_after net.nodes c.args.store.now c.args.flight.now.items c.add_for.new.flight.items c.add_for.result
    (tasks_below net.alphas net.nodes true e.tag (Some e) (length net.nodes)) c.add_for.ensures.ok c.add_for.ensures.err all
    (tasks_fit c.args.store.now net.alphas net.nodes true e.tag (subst IsSome (sym known) refl) (Some e) (length net.nodes))

pub returns-in-Some-clause-fit : goal.returns-in-Some-clause-fit
returns-in-Some-clause-fit c all =
    let net = c.args.net.now in
    let e = c.in-Some.element.now in
    let tag = c.in-Remove.tag in
    let known : IsSome (held_of c.args.store.now tag) = subst (IsKnown c.args.store.now) c.in-Remove.is c.requires in
    fit_after net.nodes c.args.store.now c.args.flight.now.items c.add_for-in-Some.new.flight.items c.add_for-in-Some.result
    (tasks_below net.alphas net.nodes false tag (Some e) (length net.nodes)) c.add_for-in-Some.ensures.ok c.add_for-in-Some.ensures.err all
    (tasks_fit c.args.store.now net.alphas net.nodes false tag known (Some e) (length net.nodes))
