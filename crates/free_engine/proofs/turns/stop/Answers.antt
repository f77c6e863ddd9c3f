use Rattle.std.proofs.Common.{◌≡◌, ℕ, sym, subst, ◌∙◌, true}
use Rattle.turn_table.specs.Turns.{first_values, knows}
use Rattle.turn_table.specs.Log.{signed_by, given_to}
use Rattle.task_pool.specs.Pools.{holds}
use Rattle.free_engine.specs.Slots.{entries, signature, IsPool, pool_list}
use Rattle.free_engine.proofs.Holding.{comes_pool, is_pool, comes_holds, few}
use Rattle.free_engine.proofs.turns.stop.Goals as goal

pub stop_in-requires-clause-pool : goal.stop_in-requires-clause-pool
stop_in-requires-clause-pool g c = let a = c.args in let y = c.claim-turn.result.value in
    let has = comes_pool a.phase.now.net.now a.phase.now.store.now a.phase.now.lines a.phase.now.workers a.phase.now.first.now.value.items (first_values a.phase.now.cells.now) a.phase.now.set_up (knows a.pass) c.requires.pass.0.same_values y c.claim-turn.ensures.value in
    subst IsPool (sym c.value.ensures.value) (is_pool a.phase.now.net.now a.phase.now.store.now a.phase.now.workers a.phase.now.first.now.value.items y has)

pub stop_in-requires-clause-holds : goal.stop_in-requires-clause-holds
stop_in-requires-clause-holds g c = let a = c.args in let y = c.claim-turn.result.value in
    let has = comes_pool a.phase.now.net.now a.phase.now.store.now a.phase.now.lines a.phase.now.workers a.phase.now.first.now.value.items (first_values a.phase.now.cells.now) a.phase.now.set_up (knows a.pass) c.requires.pass.0.same_values y c.claim-turn.ensures.value in
    let mine = subst (λ (n : ℕ). signed_by signature n (entries y) ≡ signed_by signature n (given_to 0 (knows a.pass).own)) c.requires.number c.claim-turn.ensures.mine in
    subst (λ x. holds a.worker (pool_list x) ≡ true) (sym c.value.ensures.value)
    (comes_holds a.worker y (knows a.pass).own (is_pool a.phase.now.net.now a.phase.now.store.now a.phase.now.workers a.phase.now.first.now.value.items y has) mine ∙ c.requires.holds)

pub give-requires-clause-room : goal.give-requires-clause-room
give-requires-clause-room g c = few c.stop_in.new.slot
