-- Some passes are split.
use Rattle.std.proofs.Common.{◌≡◌, ℕ, ◌+◌, ◌<◌, [], vec_len, get_or}
use Rattle.turn_table.specs.Turns.{IsFirstOf, IsPassOf, knows, number, splits, split_off}
use Rattle.free_engine.specs.Teams.{SlotPass}
use Rattle.free_engine.proofs.team.split_all.Given as goal

abbrev pub invariant-loop : goal.invariant-loop
invariant-loop l =
    IsFirstOf l.cells l.first × (splits l.first ≡ l.counter) × (split_off l.first ≡ l.counter) × ((knows l.first).own ≡ []) × ((knows l.first).joined ≡ [])
    × (vec_len l.passes ≡ l.counter)
    × ((i : ℕ) (d : SlotPass) → i < l.counter → IsPassOf l.cells (get_or l.passes.items i d) × (number (get_or l.passes.items i d) ≡ i + 1) × ((knows (get_or l.passes.items i d)).own ≡ []))
