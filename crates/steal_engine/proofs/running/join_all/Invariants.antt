use Rattle.std.proofs.Common.{◌≡◌, ◌+◌, List, ◌++◌, length}
use Rattle.token_line.specs.declared.line.Entry.{Entry}
use Rattle.turn_table.specs.declared.passes.Pass.{Pass}
use Rattle.turn_table.specs.Turns.{IsFirstOf, knows, splits, split_off}
use Rattle.steal_engine.specs.declared.rows.Row.{Row}
use Rattle.steal_engine.specs.declared.rows.RowName.{RowName}
use Rattle.steal_engine.specs.Logged.{AreJoined, AreNext}
use Rattle.steal_engine.proofs.running.join_all.Given as goal

abbrev pub invariant-loop-pass : goal.invariant-loop-pass
invariant-loop-pass l = record {
  first : IsFirstOf l.cells l.first;
  own : (knows l.first).own ≡ (knows l.fn.first).own;
  splits_same : splits l.first ≡ splits l.fn.first;
  done : List (Pass Row Entry RowName);
  are : done ++ l.left.items ≡ l.fn.passes.items;
  joined : AreJoined 1 done (knows l.first).joined;
  next : AreNext l.cells (1 + length done) l.left.items;
  apart : split_off l.first ≡ length l.left.items;
}

abbrev pub decreases-loop-pass : goal.decreases-loop-pass
decreases-loop-pass l = length l.left.items
