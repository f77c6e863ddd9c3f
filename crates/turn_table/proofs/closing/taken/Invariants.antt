use Rattle.std.proofs.Common.{◌≡◌, ℕ, ◌<◌, ◌≤◌, false, get_or, vec_len, Some}
use Rattle.std.specs.Prelude.{vec_capacity}
use Rattle.std.specs.Mem.Slots.{slots_filled, slots_len, slots_items}
use Rattle.std.specs.Mem.Slots.Ownership.{Filled}
use Rattle.turn_table.specs.Log.{IsAt}
use Rattle.turn_table.proofs.closing.taken.Given as goal

abbrev pub invariant-loop-cell : goal.invariant-loop-cell
invariant-loop-cell g l = record {
  left : Filled (slots_filled l.closed.slots) l.cell (slots_len l.closed.slots);
  gone : (k : ℕ) → k < l.cell → get_or (slots_filled l.closed.slots) k false ≡ false;
  items : slots_items l.closed.slots ≡ slots_items l.fn.closed.slots;
  slots : slots_len l.closed.slots ≡ slots_len l.fn.closed.slots;
  count : vec_len l.cells ≡ l.cell;
  room : slots_len l.fn.closed.slots ≤ vec_capacity l.cells;
  values : (k : ℕ) (value : _) → k < l.cell → IsAt (slots_items l.fn.closed.slots) k (Some value) → IsAt l.cells.items k value;
}
