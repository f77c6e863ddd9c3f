use Rattle.std.proofs.Common.{◌++◌, List, length, refl, sym, ap, ◌∙◌, arith}
use Rattle.std.proofs.lemmas.Option.{slice_get_read}
use Rattle.net_base.specs.declared.tasks.Task.{Task}
use Rattle.std.specs.Prelude.{Some}
use Rattle.grow_laws.specs.Due.{tasks_of_node}
use Rattle.grow_laws.proofs.DueTasks.{none_yet, one_more, whole_due, whole_fit}
use Rattle.grow_laws.proofs.due.tasks_due.Goals as goal

pub loop-number-init : goal.loop-number-init
loop-number-init c = record {
  past = omega arith;
  tasks = c.new-tasks.ensures.items ∙ sym (none_yet c.alphas-alphas.result.now c.nodes-nodes.result.now c.args.store.now.elements c.args.first c.args.first (omega arith));
}

pub loop-number-preserved : goal.loop-number-preserved
loop-number-preserved c = record {
  past = (let l = c.loop-number.invariant.past in omega (arith, l));
  tasks =
      c.in_ok-add_tasks.ensures
      ∙ (ap (λ (ts : List Task). ts ++ tasks_of_node c.alphas-alphas.result.now c.args.store.now.elements c.loop-number.number (Some c.index-nodes-number.result)) c.loop-number.invariant.tasks
      ∙ sym (one_more c.alphas-alphas.result.now c.nodes-nodes.result.now c.args.store.now.elements c.args.first c.loop-number.number c.index-nodes-number.result c.loop-number.invariant.past
      (slice_get_read c.nodes-nodes.result.now (length c.nodes-nodes.result.now) c.loop-number.number c.index-nodes-number.result refl c.loop-number-test.true c.index-nodes-number.is)));
}

pub returns-clause-due : goal.returns-clause-due
returns-clause-due c =
    whole_due c.args.net.now.alphas c.alphas-alphas.result.now c.args.net.now.nodes c.nodes-nodes.result.now c.args.store.now c.args.first c.loop-number.number c.loop-number.tasks.items
    c.alphas-alphas.ensures c.nodes-nodes.ensures.nodes c.loop-number.invariant.tasks c.last-last.ensures.stored.rising (let q = c.loop-number-test.false in omega (arith, q))

pub returns-clause-fit : goal.returns-clause-fit
returns-clause-fit c =
    whole_fit c.args.net.now.alphas c.alphas-alphas.result.now c.args.net.now.nodes c.nodes-nodes.result.now c.args.store.now c.args.first c.loop-number.number c.loop-number.tasks.items
    c.alphas-alphas.ensures c.nodes-nodes.ensures.nodes c.loop-number.invariant.tasks
