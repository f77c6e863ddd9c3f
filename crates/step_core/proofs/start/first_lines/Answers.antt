-- A child of the root gets the empty token on its line, and the lines of another node stay as they are.
use Rattle.std.proofs.Common.{◌≡◌, ◌+◌, ◌%◌, ◌<◌, length, refl, sym, ap, subst, arith}
use Rattle.std.proofs.lemmas.Option.{slice_get_read}
use Rattle.step_core.specs.inner.Starts.{AreBegun}
use Rattle.step_core.proofs.FedTasks.{node_at}
use Rattle.step_core.proofs.Starting.{unused_is_begun, not_at_root, root_given}
use Rattle.step_core.proofs.start.first_lines.Goals as goal
use Rattle.step_core.proofs.start.first_lines.Goals.{then-is_none+in_ok-give_root, else-is_none}

pub loop-number-init : goal.loop-number-init
loop-number-init c = unused_is_begun c.args.net.now.nodes c.args.count c.in_ok-lines.lines.items c.in_ok-lines.ensures

pub loop-number-preserved : goal.loop-number-preserved
loop-number-preserved c =
    let nodes = c.args.net.now.nodes in
    let k = c.loop-number.number in
    let x = c.node-item.result in
    let ls = c.loop-number.lines.items in
    let at = node_at nodes c.nodes-node-items.result.now k x c.nodes-node-items.ensures.nodes c.loop-number-test.true c.node-item.is in
    elim c.if-is_none.branch [
      | then-is_none+in_ok-give_root w ↦
          let low : k % c.args.count < length ls = omega (arith, c.loop-number.invariant.count) in
          let here = slice_get_read ls (length ls) (k % c.args.count) w.index_mut.result.now refl low w.index_mut.ensures.value in
          subst (λ v. AreBegun nodes c.args.count (k + 1) v.items) (sym w.lines-is)
          (root_given nodes k x at w.if-is_none.ensures c.args.count ls w.index_mut.result.now w.give_root.new.line c.loop-number.invariant here
          w.in_ok-give_root.ensures.number (w.in_ok-give_root.ensures.entries, w.in_ok-give_root.ensures.told) w.in_ok-give_root.ensures.sums w.in_ok-give_root.ensures.filed)
      | else-is_none w ↦
          subst (λ v. AreBegun nodes c.args.count (k + 1) v.items) (sym w.lines-is) (not_at_root nodes k x at w.if-is_none.ensures c.args.count ls c.loop-number.invariant)
    ]

pub returns : goal.returns
returns c =
    let nodes = c.args.net.now.nodes in
    let same : length c.nodes-node-items.result.now ≡ length nodes = ap length c.nodes-node-items.ensures.nodes in
    let all : c.loop-number.number ≡ length nodes = omega (arith, same, c.loop-number.auto.number-end, c.loop-number-test.false) in
    subst (λ n. AreBegun nodes c.args.count n c.loop-number.lines.items) all c.loop-number.invariant
