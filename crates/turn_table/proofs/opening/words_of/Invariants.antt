use Rattle.std.proofs.Common.{◌≡◌, ℕ, ◌*◌, ◌<◌, length, get_or, vec_len}
use Rattle.turn_table.specs.Log.{IsAt}
use Rattle.turn_table.proofs.opening.words_of.Given as goal

abbrev pub invariant-loop-value : goal.invariant-loop-value
invariant-loop-value g l = record {
  count : vec_len l.words ≡ l.value-index;
  each : (cell : ℕ) (value : _) → cell < l.value-index → IsAt l.values.items cell value
      → get_or l.words.items cell 0 ≡ 2 * length (g.T.Kept.entries value);
}
