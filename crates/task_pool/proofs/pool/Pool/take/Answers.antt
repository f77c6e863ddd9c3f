use Rattle.std.proofs.Common.{◌≡◌, ◌+◌, ◌++◌, [], ◌∷◌, None, sym, subst, rules}
use Rattle.std.specs.Prelude.{Option}
use Rattle.task_pool.specs.declared.pool.PoolEntry.TheVariants.{Take}
use Rattle.task_pool.specs.Pools.{HasPlayed}
use Rattle.task_pool.proofs.Plays.{takes, stop_at, stays_none}
use Rattle.task_pool.proofs.pool.Pool.take.Goals as goal

pub invariant_of-self-clause-played : goal.invariant_of-self-clause-played
invariant_of-self-clause-played c = let s = c.args.self.now in
    let t = c.in-Some-pop_front.task in
    let none : s.stopped ≡ None = search rules in
    let noted : c.push_reserved.new.self.items ≡ s.entries.items ++ Take c.args.worker t ∷ [] = search rules in
    let front : s.queue.items ≡ t ∷ c.pop_front.new.self.items = search rules in
    subst (λ (o : Option _). HasPlayed s.first.value.items c.pop_front.new.self.items c.push_reserved.new.self.items (s.unfinished + 1) o) (stays_none s.entries.items s.stopped none c.args.worker t)
    (subst (λ l. HasPlayed s.first.value.items c.pop_front.new.self.items l (s.unfinished + 1) (stop_at s.stopped (Take c.args.worker t))) (sym noted)
    (takes s.first.value.items s.queue.items s.entries.items s.unfinished s.stopped s.played c.args.worker t c.pop_front.new.self.items front c.requires.free))
