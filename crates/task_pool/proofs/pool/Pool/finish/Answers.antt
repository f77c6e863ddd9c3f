use Rattle.std.proofs.Common.{◌≡◌, ◌-◌, ◌++◌, [], ◌∷◌, sym, ap, subst, arith, rules}
use Rattle.std.specs.Prelude.{Option}
use Rattle.task_pool.specs.declared.pool.PoolEntry.TheVariants.{Finish}
use Rattle.task_pool.specs.Pools.{HasPlayed}
use Rattle.task_pool.proofs.Plays.{some_busy, finishes, stop_at, finish_same}
use Rattle.task_pool.proofs.pool.Pool.finish.Goals as goal

pub overflow_sub-self : goal.overflow_sub-self
overflow_sub-self c = let s = c.args.self.now in some_busy s.first.value.items s.queue.items s.entries.items s.unfinished s.stopped s.played c.args.worker c.requires.holds

pub invariant_of-self-2-clause-played : goal.invariant_of-self-2-clause-played
invariant_of-self-2-clause-played c = let s = c.args.self.now in
    let cs = c.args.children.now.items in
    let q : c.deliver.new.queue.items ≡ s.queue.items ++ cs = search rules in
    let noted : c.push_reserved.new.self.items ≡ s.entries.items ++ Finish c.args.worker cs ∷ [] = search rules in
    subst (λ (o : Option _). HasPlayed s.first.value.items c.deliver.new.queue.items c.push_reserved.new.self.items (s.unfinished - 1) o) (finish_same s.stopped c.args.worker cs)
    (subst (λ l. HasPlayed s.first.value.items c.deliver.new.queue.items l (s.unfinished - 1) (stop_at s.stopped (Finish c.args.worker cs))) (sym noted)
    (subst (λ l. HasPlayed s.first.value.items l (s.entries.items ++ Finish c.args.worker cs ∷ []) (s.unfinished - 1) (stop_at s.stopped (Finish c.args.worker cs))) (sym q)
    (finishes s.first.value.items s.queue.items s.entries.items s.unfinished s.stopped s.played c.args.worker cs c.requires.holds)))

pub push_reserved-requires : goal.push_reserved-requires
push_reserved-requires c = let s = c.args.self.now in
    let busy = some_busy s.first.value.items s.queue.items s.entries.items s.unfinished s.stopped s.played c.args.worker c.requires.holds in
    let r = c.in_ok-reserve-3.ensures.ok in omega (arith, busy, r)

pub invariant_of-self-2-clause-room : goal.invariant_of-self-2-clause-room
invariant_of-self-2-clause-room c = let s = c.args.self.now in
    let busy = some_busy s.first.value.items s.queue.items s.entries.items s.unfinished s.stopped s.played c.args.worker c.requires.holds in
    let r = c.in_ok-reserve-3.ensures.ok in
    let a = c.push_reserved.ensures.len in let b = c.push_reserved.ensures.capacity in
    let d = c.deliver.ensures.len in
    let same = ap (λ v. v.len) c.replace.ensures.value in
    let added = c.len-added.ensures in let queued = c.len.ensures in let kept = c.in_ok-reserve.ensures.len in
    omega (arith, busy, r, a, b, d, same, added, queued, kept)
