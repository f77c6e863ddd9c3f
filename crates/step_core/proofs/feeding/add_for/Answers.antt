-- The tasks of the takers in order are those of the nodes in order.
use Rattle.std.proofs.Common.{◌++◌, ◌∙◌, ap, map}
use Rattle.step_core.specs.Feeding.{right_task}
use Rattle.step_core.proofs.Results.{on_ok}
use Rattle.step_core.proofs.Takers.{tasks_of_takers}
use Rattle.step_core.proofs.feeding.add_for.Goals as goal

pub returns-clause-ok : goal.returns-clause-ok
returns-clause-ok c =
    let net = c.args.net.now in
    let e = c.args.element.now in
    let flight = c.args.flight.now.items in
    on_ok _ _ c.add_all.result
    (λ is. is ∙ ap (λ ts. flight ++ ts) (ap (map (right_task c.args.plus c.args.tag)) c.as_slice.ensures
    ∙ tasks_of_takers net.alphas net.nodes c.args.plus c.args.tag e c.find_takers.new.nodes.items c.sort.new.numbers.items c.in_ok-find_takers.ensures c.sort.ensures.moved c.sort.ensures.sorted))
    c.add_all.ensures.ok
