use Rattle.std.proofs.Common.{sym, ap, subst, Some, None, length, ◌+◌}
use Rattle.beta_net.specs.Rights.{AreGiven}
use Rattle.beta_net.proofs.RightLemmas.{given_some, given_none, giver_low, names_giver}
use Rattle.beta_net.proofs.rights.add_rights.Goals as goal
use Rattle.beta_net.proofs.rights.add_rights.Goals.{in-Some+in_ok-add_right, in_default}

pub add_right-requires : goal.add_right-requires
add_right-requires c =
    let t = names_giver c.args.nodes.now.items c.loop-n.nodes.items c.as_slice.result.now c.loop-n.n c.loop-n.n (length c.as_slice-count.result.now) c.giver_at.result (Some c.in-Some.p) c.loop-n.invariant (ap length c.as_slice-count.ensures.value) c.loop-n-test.true c.as_slice.ensures.value c.giver_at.ensures c.in-Some.is in
    giver_low c.args.nodes.now.items c.loop-n.nodes.items c.loop-n.n c.in-Some.p t.node c.requires.ordered c.loop-n.invariant t.at t.is

pub loop-n-preserved : goal.loop-n-preserved
loop-n-preserved c =
    elim c.match-giver_at.branch [
      | in-Some+in_ok-add_right w ↦
          let t = names_giver c.args.nodes.now.items c.loop-n.nodes.items c.as_slice.result.now c.loop-n.n c.loop-n.n (length c.as_slice-count.result.now) c.giver_at.result (Some w.in-Some.p) c.loop-n.invariant (ap length c.as_slice-count.ensures.value) c.loop-n-test.true c.as_slice.ensures.value c.giver_at.ensures w.in-Some.is in
          subst (λ v. AreGiven c.args.nodes.now.items v.items (c.loop-n.n + 1)) (sym w.nodes-is) (given_some c.args.nodes.now.items c.loop-n.nodes.items w.add_right.new.nodes.items c.loop-n.n w.in-Some.p t.node c.loop-n.invariant t.at t.is w.in_ok-add_right.ensures)
      | in_default w ↦
          let t = names_giver c.args.nodes.now.items c.loop-n.nodes.items c.as_slice.result.now c.loop-n.n c.loop-n.n (length c.as_slice-count.result.now) c.giver_at.result None c.loop-n.invariant (ap length c.as_slice-count.ensures.value) c.loop-n-test.true c.as_slice.ensures.value c.giver_at.ensures w.in_default.is in
          subst (λ v. AreGiven c.args.nodes.now.items v.items (c.loop-n.n + 1)) (sym w.nodes-is) (given_none c.args.nodes.now.items c.loop-n.nodes.items c.loop-n.n t.node c.loop-n.invariant t.at t.is)
    ]
