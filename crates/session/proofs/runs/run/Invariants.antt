use Rattle.std.proofs.Common.{◌≡◌, ℕ, false, ◌-◌, None, IsTrue, []}
use Rattle.ops_io.specs.Coming.{inlet}
use Rattle.ops_io.specs.Ports.{port}
use Rattle.ops_meaning.specs.Effects.{PendingOn}
use Rattle.ops_meaning.specs.Kept.{KeepsNames}
use Rattle.ops_meaning.specs.Running.{run_on}
use Rattle.act_phase.specs.Asking.{program_asks}
use Rattle.act_phase.specs.Outcomes.{setting_of}
use Rattle.live_rules.specs.Moves.{IsWith}
use Rattle.session.specs.Courses.{IsOf}
use Rattle.session.specs.Pauses.{meant_last}
use Rattle.session.specs.Trailing.{IsNamedFrom, IsTrailed, ready_with}
use Rattle.session.proofs.runs.run.Given as goal

abbrev pub invariant-turns : goal.invariant-turns
invariant-turns g l = record {
  out : PendingOn (inlet l.fn.input (g.I.Source.left l.fn.source) (g.I.Source.faults l.fn.source))
      (inlet l.input (g.I.Source.left l.source) (g.I.Source.faults l.source))
      (port (g.K.Sink.taken l.fn.sink) (g.K.Sink.faults l.fn.sink) l.fn.out)
      (port (g.K.Sink.taken l.sink) (g.K.Sink.faults l.sink) l.out)
      (λ z. run_on (l.context.limit - l.fn.undoable.session.state.firings) (setting_of l.fn.live.program l.fn.undoable.session.watch) l.fn.out.column None l.fn.count (ready_with g.B.M.Matcher.stored l.fn.live.program.rules l.fn.undoable l.fn.names z))
      (λ z. run_on l.left (setting_of l.fn.live.program l.fn.undoable.session.watch) l.out.column (meant_last l.last) l.count (ready_with g.B.M.Matcher.stored l.live.program.rules l.undoable l.names z));
  whole : IsTrue l.out.whole;
  faults : g.K.Sink.faults l.sink ≡ g.K.Sink.faults l.fn.sink;
  untouched : program_asks l.fn.live.program.rules ≡ false → program_asks l.fn.live.program.templates ≡ false → (l.input ≡ l.fn.input) × (l.source ≡ l.fn.source);
  names : KeepsNames l.fn.names l.names;
  of : IsOf g.B.M.Matcher.stands_for l.live.program.rules l.undoable.session.state;
  none : l.undoable.session.pending ≡ [];
  current : l.undoable.session.moved ≡ None;
  watch : l.undoable.session.watch ≡ l.fn.undoable.session.watch;
  trail : IsTrailed g.B.M.Matcher.stored l.live.program.rules l.undoable;
  named : (least : ℕ) → IsNamedFrom least l.fn.names l.fn.undoable.trail → IsNamedFrom least l.names l.undoable.trail;
  program : IsWith l.live.program.rules l.fn.live.program.commands l.fn.live.program l.live.program;
  quiet : program_asks l.fn.live.program.rules ≡ false → program_asks l.fn.live.program.templates ≡ false → program_asks l.live.program.rules ≡ false;
}

abbrev pub decreases-turns : goal.decreases-turns
decreases-turns g l = l.left
