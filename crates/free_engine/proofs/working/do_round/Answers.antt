use Rattle.std.proofs.Common.{◌≡◌, ◌++◌, ℕ, ap, subst, ◌∙◌}
use Rattle.work_store.specs.Stored.{held_of}
use Rattle.token_line.specs.Numbers.{line_number}
use Rattle.turn_table.specs.Turns.{knows}
use Rattle.task_pool.specs.declared.pool.PoolEntry.TheVariants.{Take}
use Rattle.free_engine.specs.declared.slots.SlotEntry.TheVariants.{OfPool, OfLine}
use Rattle.free_engine.specs.Turns.{has_taken, a_row, PassTakes}
use Rattle.free_engine.proofs.Holding.{took, still_holds}
use Rattle.free_engine.proofs.WorkerRounds.{three}
use Rattle.free_engine.proofs.working.do_round.Goals as goal

pub stop-requires-clause-holds : goal.stop-requires-clause-holds
stop-requires-clause-holds g c =
    let w : ℕ = c.args.worker in
    let p = (knows c.args.pass).own in
    let q = (knows c.take_task-pass.result.0).own in
    let a : q ≡ p ++ a_row w 0 (OfPool (Take w c.in-Task.task)) = subst (PassTakes w c.args.phase.now.first.now.value.items (knows c.args.pass) (knows c.take_task-pass.result.0)) c.in-Task.is c.take_task-pass.ensures.own in
    ap (has_taken w) (c.do_task-pass.ensures.not_own c.if-not-entered.true) ∙ took w c.in-Task.task p q a

pub finish_task-pass-requires-clause-holds : goal.finish_task-pass-requires-clause-holds
finish_task-pass-requires-clause-holds g c =
    let w : ℕ = c.args.worker in
    let p = (knows c.args.pass).own in
    let q = (knows c.take_task-pass.result.0).own in
    let t = c.in-Task.task in
    let a : q ≡ p ++ a_row w 0 (OfPool (Take w t)) = subst (PassTakes w c.args.phase.now.first.now.value.items (knows c.args.pass) (knows c.take_task-pass.result.0)) c.in-Task.is c.take_task-pass.ensures.own in
    let line : ℕ = line_number (held_of c.args.phase.now.store.now) c.args.phase.now.net.now.nodes c.args.phase.now.lines t.node t.side t.token in
    still_holds w line (OfLine (record { task = t; children = c.do_task-pass.new.out.items })) q (knows c.do_task-pass.result.0).own (c.do_task-pass.ensures.own c.if-not-entered.false) ∙ took w t p q a

pub stop-requires-then-not-finished-clause-holds : goal.stop-requires-then-not-finished-clause-holds
stop-requires-then-not-finished-clause-holds g c =
    let w : ℕ = c.args.worker in
    let p = (knows c.args.pass).own in
    let q = (knows c.take_task-pass.result.0).own in
    let t = c.in-Task.task in
    let a : q ≡ p ++ a_row w 0 (OfPool (Take w t)) = subst (PassTakes w c.args.phase.now.first.now.value.items (knows c.args.pass) (knows c.take_task-pass.result.0)) c.in-Task.is c.take_task-pass.ensures.own in
    let line : ℕ = line_number (held_of c.args.phase.now.store.now) c.args.phase.now.net.now.nodes c.args.phase.now.lines t.node t.side t.token in
    ap (has_taken w) (c.finish_task-pass.ensures.not_own c.if-not-finished.true)
    ∙ (still_holds w line (OfLine (record { task = t; children = c.do_task-pass.new.out.items })) q (knows c.do_task-pass.result.0).own (c.do_task-pass.ensures.own c.if-not-entered.false) ∙ took w t p q a)

pub returns-else-not-finished-clause-own : goal.returns-else-not-finished-clause-own
returns-else-not-finished-clause-own g c =
    let w : ℕ = c.args.worker in
    let p = (knows c.args.pass).own in
    let q = (knows c.take_task-pass.result.0).own in
    let t = c.in-Task.task in
    let a : q ≡ p ++ a_row w 0 (OfPool (Take w t)) = subst (PassTakes w c.args.phase.now.first.now.value.items (knows c.args.pass) (knows c.take_task-pass.result.0)) c.in-Task.is c.take_task-pass.ensures.own in
    let line : ℕ = line_number (held_of c.args.phase.now.store.now) c.args.phase.now.net.now.nodes c.args.phase.now.lines t.node t.side t.token in (
      record { line = line; entry = record { task = t; children = c.do_task-pass.new.out.items } },
      c.do_task-pass.ensures.below,
      three w (record { line = line; entry = record { task = t; children = c.do_task-pass.new.out.items } }) p q (knows c.do_task-pass.result.0).own (knows c.finish_task-pass.result.0).own
          a (c.do_task-pass.ensures.own c.if-not-entered.false) (c.finish_task-pass.ensures.own c.if-not-finished.false),
    )
