-- Some passes are split.
use Rattle.std.proofs.Common.{◌≡◌, [], length}
use Rattle.turn_table.specs.Turns.{IsFirstOf, knows, splits, split_off}
use Rattle.steal_engine.specs.Logged.{AreNew}
use Rattle.steal_engine.proofs.sharing.split_all.Given as goal

abbrev pub invariant-loop : goal.invariant-loop
invariant-loop l = record {
  first : IsFirstOf l.cells l.first;
  own : (knows l.first).own ≡ [];
  none : (knows l.first).joined ≡ [];
  splits_are : splits l.first ≡ l.counter;
  apart : split_off l.first ≡ l.counter;
  count : length l.passes.items ≡ l.counter;
  new : AreNew l.cells 1 l.passes.items;
}
