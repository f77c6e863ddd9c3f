use Rattle.ops_base.specs.declared.rules.Inst.{Inst}
use Rattle.conflict_index.specs.declared.rank.Held.{Held}
use Rattle.std.specs.Prelude.{Contains}
use Rattle.std.proofs.Common.{◌≢◌, ◌≤◌, length, take, map}
use Rattle.std.specs.HashMap.{spare}
use Rattle.std.specs.List.{IsDistinct}
use Rattle.std.specs.List.Sorted.{IsStrictlySortedBy}
use Rattle.std.specs.Map.{keys_of}
use Rattle.resolution.specs.Keys.{Key, same_keys}
use Rattle.conflict_index.specs.Rank.{Rank}
use Rattle.conflict_index.specs.Keeping.{Loses}
use Rattle.conflict_index.specs.Ranking.{compare_ranks}
use Rattle.conflict_index.proofs.standing.remove_all.Given as goal

abbrev pub invariant-loop-rank : goal.invariant-loop-rank
invariant-loop-rank l = record {
  waiting : Loses (take l.rank-index l.ranks) l.fn.waiting.entries l.waiting.entries;
  fired : Loses (map (λ (r : Rank). r.key) (take l.rank-index l.ranks)) l.fn.fired.entries l.fired.entries;
  number : length l.waiting.entries ≤ length l.fn.waiting.entries;
  room : spare l.fn.fired ≤ spare l.fired;
  ordered : IsStrictlySortedBy compare_ranks (keys_of l.waiting.entries);
  unique : IsDistinct same_keys (keys_of l.fired.entries);
  apart : (e : Rank × Held) (d : Key × Inst) → Contains l.waiting.entries e → Contains l.fired.entries d → e.0.key ≢ d.0;
}
