use Rattle.std.proofs.Common.{◌+◌, ◌≤◌, [], length}
use Rattle.std.specs.List.Sorted.{IsStrictlySortedBy}
use Rattle.std.specs.Map.{keys_of}
use Rattle.conflict_index.specs.Keeping.{ranked_anew}
use Rattle.conflict_index.specs.Ranking.{compare_ranks}
use Rattle.conflict_index.proofs.Lookups.{AddsUp}
use Rattle.conflict_index.proofs.standing.ranked_anew.Given as goal

abbrev pub invariant-loop-rank : goal.invariant-loop-rank
invariant-loop-rank l = record {
  same : AddsUp [] (ranked_anew l.strategy l.waiting.entries) l.ranked.entries (ranked_anew l.strategy l.rank-iterator);
  number : length l.ranked.entries + length l.rank-iterator ≤ length l.waiting.entries;
  ordered : IsStrictlySortedBy compare_ranks (keys_of l.ranked.entries);
}
