-- Some passes are joined.
use Rattle.std.proofs.Common.{◌≡◌, ℕ, ◌+◌, ◌<◌, length, get_or, IsTrue}
use Rattle.std.specs.Vec.Iter.{into_iter_items, into_iter_len}
use Rattle.turn_table.specs.Turns.{knows}
use Rattle.free_engine.specs.Counts.{SawQuiet}
use Rattle.free_engine.specs.Teams.{AllJoined, HasEnded, Leads}
use Rattle.free_engine.proofs.team.join_all.Given as goal

abbrev pub invariant-loop-one : goal.invariant-loop-one
invariant-loop-one l = let n = length l.yielded in let rest = l.one-iterator in
    (n + into_iter_len rest ≡ length l.fn.ended.items)
    × ((k : ℕ) (d : _) → k < into_iter_len rest → HasEnded l.fn.lines l.fn.tasks.value.items l.cells (n + k + 1) (get_or (into_iter_items rest) k d))
    × Leads l.cells (length l.fn.ended.items) (into_iter_len rest) l.first
    × (length (knows l.first).joined ≡ n)
    × (IsTrue l.whole → AllJoined l.fn.lines n (knows l.first).joined)
    × (IsTrue l.whole → 0 < n → SawQuiet l.fn.tasks.value.items (knows l.first).seen)
