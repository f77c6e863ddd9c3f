use Rattle.std.proofs.Common.{sym, ap, subst, Some, None, length, ◌+◌}
use Rattle.beta_net.specs.Children.{AreFilled}
use Rattle.beta_net.proofs.ChildLemmas.{filled_some, filled_none, parent_low, names}
use Rattle.beta_net.proofs.children.add_children.Goals as goal
use Rattle.beta_net.proofs.children.add_children.Goals.{in-Some+in_ok-add_child, in_default}

pub add_child-requires : goal.add_child-requires
add_child-requires c =
    let t = names c.args.nodes.now.items c.loop-n.nodes.items c.as_slice.result.now c.loop-n.n c.loop-n.n (length c.as_slice-count.result.now) c.parent_of.result (Some c.in-Some.p) c.loop-n.invariant (ap length c.as_slice-count.ensures.value) c.loop-n-test.true c.as_slice.ensures.value c.parent_of.ensures c.in-Some.is in
    parent_low c.args.nodes.now.items c.loop-n.nodes.items c.loop-n.n c.in-Some.p t.node c.requires.ordered c.loop-n.invariant t.at t.is

pub loop-n-preserved : goal.loop-n-preserved
loop-n-preserved c =
    elim c.match-parent_of.branch [
      | in-Some+in_ok-add_child w ↦
          let t = names c.args.nodes.now.items c.loop-n.nodes.items c.as_slice.result.now c.loop-n.n c.loop-n.n (length c.as_slice-count.result.now) c.parent_of.result (Some w.in-Some.p) c.loop-n.invariant (ap length c.as_slice-count.ensures.value) c.loop-n-test.true c.as_slice.ensures.value c.parent_of.ensures w.in-Some.is in
          subst (λ v. AreFilled c.args.nodes.now.items v.items (c.loop-n.n + 1)) (sym w.nodes-is) (filled_some c.args.nodes.now.items c.loop-n.nodes.items w.add_child.new.nodes.items c.loop-n.n w.in-Some.p t.node c.loop-n.invariant t.at t.is w.in_ok-add_child.ensures)
      | in_default w ↦
          let t = names c.args.nodes.now.items c.loop-n.nodes.items c.as_slice.result.now c.loop-n.n c.loop-n.n (length c.as_slice-count.result.now) c.parent_of.result None c.loop-n.invariant (ap length c.as_slice-count.ensures.value) c.loop-n-test.true c.as_slice.ensures.value c.parent_of.ensures w.in_default.is in
          subst (λ v. AreFilled c.args.nodes.now.items v.items (c.loop-n.n + 1)) (sym w.nodes-is) (filled_none c.args.nodes.now.items c.loop-n.nodes.items c.loop-n.n t.node c.loop-n.invariant t.at t.is)
    ]
