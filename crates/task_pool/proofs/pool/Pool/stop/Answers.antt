use Rattle.std.proofs.Common.{◌-◌, sym, subst, arith, rules}
use Rattle.std.specs.Prelude.{Option}
use Rattle.task_pool.specs.declared.pool.PoolEntry.TheVariants.{Stop}
use Rattle.task_pool.specs.Pools.{HasPlayed}
use Rattle.task_pool.proofs.Plays.{some_busy, stops, stop_at, stop_none, stop_some}
use Rattle.task_pool.proofs.pool.Pool.stop.Goals as goal

pub push_reserved-requires : goal.push_reserved-requires
push_reserved-requires c = let s = c.args.self.now in let r = s.room in let p = some_busy s.first.value.items s.queue.items s.entries.items s.unfinished s.stopped s.played c.args.worker c.requires.holds in omega (arith, r, p)

pub overflow_sub-self : goal.overflow_sub-self
overflow_sub-self c = let s = c.args.self.now in some_busy s.first.value.items s.queue.items s.entries.items s.unfinished s.stopped s.played c.args.worker c.requires.holds

pub invariant_of-self-clause-played : goal.invariant_of-self-clause-played
invariant_of-self-clause-played c = let s = c.args.self.now in
    subst (λ (o : Option _). HasPlayed s.first.value.items s.queue.items c.push_reserved.new.self.items (s.unfinished - 1) o) (stop_none s.stopped c.args.worker (search rules))
    (subst (λ l. HasPlayed s.first.value.items s.queue.items l (s.unfinished - 1) (stop_at s.stopped (Stop c.args.worker))) (sym c.push_reserved.ensures.items)
    (stops s.first.value.items s.queue.items s.entries.items s.unfinished s.stopped s.played c.args.worker c.requires.holds))

pub invariant_of-self-clause-room : goal.invariant_of-self-clause-room
invariant_of-self-clause-room c = let s = c.args.self.now in let r = s.room in
    let p = some_busy s.first.value.items s.queue.items s.entries.items s.unfinished s.stopped s.played c.args.worker c.requires.holds in
    let a = c.push_reserved.ensures.len in let b = c.push_reserved.ensures.capacity in omega (arith, r, p, a, b)

pub invariant_of-self-else-is_none-clause-played : goal.invariant_of-self-else-is_none-clause-played
invariant_of-self-else-is_none-clause-played c = let s = c.args.self.now in
    subst (λ (o : Option _). HasPlayed s.first.value.items s.queue.items c.push_reserved.new.self.items (s.unfinished - 1) o) (stop_some s.stopped c.args.worker (search rules))
    (subst (λ l. HasPlayed s.first.value.items s.queue.items l (s.unfinished - 1) (stop_at s.stopped (Stop c.args.worker))) (sym c.push_reserved.ensures.items)
    (stops s.first.value.items s.queue.items s.entries.items s.unfinished s.stopped s.played c.args.worker c.requires.holds))

pub invariant_of-self-else-is_none-clause-room : goal.invariant_of-self-else-is_none-clause-room
invariant_of-self-else-is_none-clause-room c = let s = c.args.self.now in let r = s.room in
    let p = some_busy s.first.value.items s.queue.items s.entries.items s.unfinished s.stopped s.played c.args.worker c.requires.holds in
    let a = c.push_reserved.ensures.len in let b = c.push_reserved.ensures.capacity in omega (arith, r, p, a, b)
