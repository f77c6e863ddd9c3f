use Rattle.std.proofs.Common.{◌≡◌, ℕ, sym, ap, subst, ◌∙◌, true}
use Rattle.std.specs.List.{All}
use Rattle.turn_table.specs.Turns.{first_values, knows}
use Rattle.turn_table.specs.Log.{signed_by, given_to}
use Rattle.task_pool.specs.Pools.{holds}
use Rattle.free_engine.specs.Slots.{entries, signature, IsPool, pool_list, nodes_in, store_in}
use Rattle.token_line.specs.Held.{TaskFits}
use Rattle.free_engine.proofs.Holding.{comes_pool, is_pool, comes_holds, pool_facts, few}
use Rattle.free_engine.proofs.turns.finish_task.Goals as goal

pub finish_in-requires-clause-pool : goal.finish_in-requires-clause-pool
finish_in-requires-clause-pool g c = let a = c.args in let y = c.claim-turn.result.value in
    let has = comes_pool a.phase.now.net.now a.phase.now.store.now a.phase.now.lines a.phase.now.workers a.phase.now.first.now.value.items (first_values a.phase.now.cells.now) a.phase.now.set_up (knows a.pass) c.requires.pass.0.same_values y c.claim-turn.ensures.value in
    subst IsPool (sym c.value.ensures.value) (is_pool a.phase.now.net.now a.phase.now.store.now a.phase.now.workers a.phase.now.first.now.value.items y has)

pub finish_in-requires-clause-holds : goal.finish_in-requires-clause-holds
finish_in-requires-clause-holds g c = let a = c.args in let y = c.claim-turn.result.value in
    let has = comes_pool a.phase.now.net.now a.phase.now.store.now a.phase.now.lines a.phase.now.workers a.phase.now.first.now.value.items (first_values a.phase.now.cells.now) a.phase.now.set_up (knows a.pass) c.requires.pass.0.same_values y c.claim-turn.ensures.value in
    let mine = subst (λ (n : ℕ). signed_by signature n (entries y) ≡ signed_by signature n (given_to 0 (knows a.pass).own)) c.requires.number c.claim-turn.ensures.mine in
    subst (λ x. holds a.worker (pool_list x) ≡ true) (sym c.value.ensures.value)
    (comes_holds a.worker y (knows a.pass).own (is_pool a.phase.now.net.now a.phase.now.store.now a.phase.now.workers a.phase.now.first.now.value.items y has) mine ∙ c.requires.holds)

pub give-requires-clause-room : goal.give-requires-clause-room
give-requires-clause-room g c = few c.finish_in.new.slot

pub finish_in-requires-clause-fit : goal.finish_in-requires-clause-fit
finish_in-requires-clause-fit g c = let a = c.args in let y = c.claim-turn.result.value in
    let has = comes_pool a.phase.now.net.now a.phase.now.store.now a.phase.now.lines a.phase.now.workers a.phase.now.first.now.value.items (first_values a.phase.now.cells.now) a.phase.now.set_up (knows a.pass) c.requires.pass.0.same_values y c.claim-turn.ensures.value in
    let f = pool_facts a.phase.now.net.now a.phase.now.store.now a.phase.now.workers a.phase.now.first.now.value.items y has in
    let v = c.value.ensures.value in
    subst (λ n. All (TaskFits n (store_in c.value.result.now)) a.children.now.items) (sym (ap nodes_in v ∙ f.1))
    (subst (λ z. All (TaskFits a.phase.now.net.now.nodes z) a.children.now.items) (sym (ap store_in v ∙ f.2)) c.requires.fit)
