use Rattle.std.proofs.Common.{◌≡◌, ◌<◌, ℕ, List, sym, ap, subst, ◌∙◌, false, [], ◌∷◌, ◌++◌}
use Rattle.net_base.specs.declared.tasks.Task.{Task}
use Rattle.turn_table.specs.declared.views.Sight.{Sight}
use Rattle.turn_table.specs.Turns.{first_values, knows, turn_knows}
use Rattle.turn_table.specs.Log.{signed_by, given_to}
use Rattle.task_pool.specs.Pools.{holds, IsQuiet}
use Rattle.free_engine.specs.declared.slots.SlotEntry.{SlotEntry}
use Rattle.free_engine.specs.Slots.{AreUnfinished, entries, signature, IsPool, pool_list, workers_in, nodes_in, store_in, first_in}
use Rattle.token_line.specs.Held.{TaskFits}
use Rattle.free_engine.proofs.Holding.{comes_pool, is_pool, comes_holds, pool_facts, few, saw_now, saw_stop_now, sees_now}
use Rattle.free_engine.proofs.turns.take_task.Goals as goal

pub take_in-requires-clause-pool : goal.take_in-requires-clause-pool
take_in-requires-clause-pool g c = let a = c.args in let y = c.claim-turn.result.value in
    let has = comes_pool a.phase.now.net.now a.phase.now.store.now a.phase.now.lines a.phase.now.workers a.phase.now.first.now.value.items (first_values a.phase.now.cells.now) a.phase.now.set_up (knows a.pass) c.requires.pass.0.same_values y c.claim-turn.ensures.value in
    subst IsPool (sym c.value.ensures.value) (is_pool a.phase.now.net.now a.phase.now.store.now a.phase.now.workers a.phase.now.first.now.value.items y has)

pub take_in-requires-clause-worker : goal.take_in-requires-clause-worker
take_in-requires-clause-worker g c = let a = c.args in let y = c.claim-turn.result.value in
    let has = comes_pool a.phase.now.net.now a.phase.now.store.now a.phase.now.lines a.phase.now.workers a.phase.now.first.now.value.items (first_values a.phase.now.cells.now) a.phase.now.set_up (knows a.pass) c.requires.pass.0.same_values y c.claim-turn.ensures.value in
    subst (λ x. a.worker < workers_in x) (sym c.value.ensures.value) (subst (λ (n : ℕ). a.worker < n) (sym (pool_facts a.phase.now.net.now a.phase.now.store.now a.phase.now.workers a.phase.now.first.now.value.items y has).0) c.requires.worker)

pub take_in-requires-clause-free : goal.take_in-requires-clause-free
take_in-requires-clause-free g c = let a = c.args in let y = c.claim-turn.result.value in
    let has = comes_pool a.phase.now.net.now a.phase.now.store.now a.phase.now.lines a.phase.now.workers a.phase.now.first.now.value.items (first_values a.phase.now.cells.now) a.phase.now.set_up (knows a.pass) c.requires.pass.0.same_values y c.claim-turn.ensures.value in
    let mine = subst (λ (n : ℕ). signed_by signature n (entries y) ≡ signed_by signature n (given_to 0 (knows a.pass).own)) c.requires.number c.claim-turn.ensures.mine in
    subst (λ x. holds a.worker (pool_list x) ≡ false) (sym c.value.ensures.value)
    (comes_holds a.worker y (knows a.pass).own (is_pool a.phase.now.net.now a.phase.now.store.now a.phase.now.workers a.phase.now.first.now.value.items y has) mine ∙ c.requires.free)

pub give-requires-clause-room : goal.give-requires-clause-room
give-requires-clause-room g c = few c.take_in.new.slot

pub returns-in-Task-clause-fits : goal.returns-in-Task-clause-fits
returns-in-Task-clause-fits g c = let a = c.args in let y = c.claim-turn.result.value in let t = c.in-Task.task in
    let has = comes_pool a.phase.now.net.now a.phase.now.store.now a.phase.now.lines a.phase.now.workers a.phase.now.first.now.value.items (first_values a.phase.now.cells.now) a.phase.now.set_up (knows a.pass) c.requires.pass.0.same_values y c.claim-turn.ensures.value in
    let f = pool_facts a.phase.now.net.now a.phase.now.store.now a.phase.now.workers a.phase.now.first.now.value.items y has in
    let v = c.value.ensures.value in
    subst (λ n. TaskFits n a.phase.now.store.now t) (ap nodes_in v ∙ f.1) (subst (λ z. TaskFits (nodes_in c.value.result.now) z t) (ap store_in v ∙ f.2) c.in-Task.ensures.fits)

pub returns-in-Again-clause-own : goal.returns-in-Again-clause-own
returns-in-Again-clause-own g c = let a = c.args in let y = c.claim-turn.result.value in
    let has = comes_pool a.phase.now.net.now a.phase.now.store.now a.phase.now.lines a.phase.now.workers a.phase.now.first.now.value.items (first_values a.phase.now.cells.now) a.phase.now.set_up (knows a.pass) c.requires.pass.0.same_values y c.claim-turn.ensures.value in
    let f = pool_facts a.phase.now.net.now a.phase.now.store.now a.phase.now.workers a.phase.now.first.now.value.items y has in
    let e = c.in-Again.ensures.entries in
    let claimed : List (Sight SlotEntry) = record { cell = 0; list = entries y } ∷ [] in
    let began = ap first_in c.value.ensures.value ∙ f.3 in (
      c.give_back.ensures.none_made ∙ ap (λ v. v.own) c.claim-turn.ensures.knows,
      (
        claimed,
        e.1.0,
        sees_now (turn_knows c.claim-turn.result).seen ((knows a.pass).seen ++ claimed) (knows c.give_back.result).seen c.claim-turn.result.cell (entries c.take_in.new.slot)
            (ap (λ v. v.seen) c.give_back.ensures.knows) (ap (λ v. v.seen) c.claim-turn.ensures.knows) c.claim-turn.ensures.cell e.1.0 (e.0 ∙ e.1.1),
        subst (λ (l : List Task). AreUnfinished l e.1.0 c.in-Again.unfinished) began e.1.2,
      ),
    )

pub returns-in-Quiet-clause-own : goal.returns-in-Quiet-clause-own
returns-in-Quiet-clause-own g c = let a = c.args in let y = c.claim-turn.result.value in
    let has = comes_pool a.phase.now.net.now a.phase.now.store.now a.phase.now.lines a.phase.now.workers a.phase.now.first.now.value.items (first_values a.phase.now.cells.now) a.phase.now.set_up (knows a.pass) c.requires.pass.0.same_values y c.claim-turn.ensures.value in
    let f = pool_facts a.phase.now.net.now a.phase.now.store.now a.phase.now.workers a.phase.now.first.now.value.items y has in
    let e = c.in-Quiet.ensures.entries in
    let began = ap first_in c.value.ensures.value ∙ f.3 in (
      c.give_back-in-Quiet.ensures.none_made ∙ ap (λ v. v.own) c.claim-turn.ensures.knows,
      saw_now a.phase.now.first.now.value.items (turn_knows c.claim-turn.result).seen (knows c.give_back-in-Quiet.result).seen c.claim-turn.result.cell (entries c.take_in.new.slot)
          (ap (λ v. v.seen) c.give_back-in-Quiet.ensures.knows) c.claim-turn.ensures.cell e.1.0 (e.0 ∙ e.1.1) (subst (λ (l : List Task). IsQuiet l e.1.0) began e.1.2),
    )

pub returns-in-Stopped-clause-own : goal.returns-in-Stopped-clause-own
returns-in-Stopped-clause-own g c =
    let e = c.in-Stopped.ensures.entries in (
      c.give_back-in-Stopped.ensures.none_made ∙ ap (λ v. v.own) c.claim-turn.ensures.knows,
      saw_stop_now c.in-Stopped.by (turn_knows c.claim-turn.result).seen (knows c.give_back-in-Stopped.result).seen c.claim-turn.result.cell (entries c.take_in.new.slot)
          (ap (λ v. v.seen) c.give_back-in-Stopped.ensures.knows) c.claim-turn.ensures.cell e.1.0 (e.0 ∙ e.1.1) e.1.2,
    )
