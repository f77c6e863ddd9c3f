use Rattle.std.proofs.Common.{◌+◌, ◌≤◌, drop, length, map}
use Rattle.std.specs.Prelude.{Contains}
use Rattle.std.specs.List.Sorted.{IsStrictlySortedBy}
use Rattle.std.specs.Map.{keys_of}
use Rattle.conflict_index.specs.declared.rank.Held.{Held}
use Rattle.conflict_index.specs.Rank.{Rank}
use Rattle.conflict_index.specs.Keeping.{arrival}
use Rattle.conflict_index.specs.Ranking.{compare_ranks}
use Rattle.conflict_index.proofs.Lookups.{AddsUp}
use Rattle.conflict_index.proofs.standing.add_all.Given as goal

abbrev pub invariant-loop-inst : goal.invariant-loop-inst
invariant-loop-inst l = record {
  same : AddsUp l.fn.waiting.entries (map (arrival l.strategy l.program.rules) l.insts) l.waiting.entries (map (arrival l.strategy l.program.rules) (drop l.inst-index l.insts));
  kept : (e : Rank × Held) → Contains l.fn.waiting.entries e → Contains l.waiting.entries e;
  ordered : IsStrictlySortedBy compare_ranks (keys_of l.waiting.entries);
  number : length l.waiting.entries ≤ length l.fn.waiting.entries + l.inst-index;
}
