use Rattle.std.proofs.Common.{◌≡◌, ◌≤◌, length, take, map}
use Rattle.conflict_index.specs.Keeping.{rank_in}
use Rattle.conflict_index.proofs.standing.rank_each.Given as goal

abbrev pub invariant-loop-inst : goal.invariant-loop-inst
invariant-loop-inst l = record {
  at : l.at ≡ l.inst-index;
  ranks : take l.inst-index l.ranks.items ≡ map (rank_in l.strategy l.program.rules) (take l.inst-index l.insts);
  there : l.inst-index ≤ length l.ranks.items;
}
