use Rattle.std.proofs.Common.{◌≡◌, All}
use Rattle.turn_table.specs.Turns.{number}
use Rattle.task_deque.specs.Ends.{own_of, pushed, popped, thief_of, thief_stolen}
use Rattle.steal_engine.specs.Sums.{AreFair}
use Rattle.steal_engine.specs.Rows.{IsReady, rounds_in}
use Rattle.steal_engine.proofs.working.work.Given as goal

abbrev pub invariant-loop : goal.invariant-loop
invariant-loop g l = record {
  can_next : (goal.iterator-loop g).can_next l.iterator';
  finite : (goal.iterator-loop g).is_finite l.iterator';
  ready : IsReady g.J.Fitting.fits l.phase.cells.now l.phase.net.now l.phase.store.now l.phase.lines l.pass;
  number : number l.pass ≡ number l.fn.seat.pass;
  own : own_of l.own ≡ own_of l.fn.seat.own;
  thief : thief_of l.thief ≡ thief_of l.fn.seat.thief;
  fit : All g.J.Fitting.fits l.list.items;
  fair : AreFair (rounds_in l.pass) (pushed l.fn.seat.own) (pushed l.own) (popped l.own) (thief_stolen l.thief) l.list.items;
}
