use Rattle.std.proofs.Common.{◌≡◌, ◌≤◌, ℕ, false, [], length, IsTrue}
use Rattle.std.specs.List.{list_all}
use Rattle.std.specs.Vec.Iter.{into_iter_items, into_iter_len}
use Rattle.ops_base.specs.Valid.{command_builds_from, command_is_valid}
use Rattle.ops_io.specs.Coming.{inlet}
use Rattle.ops_io.specs.Ports.{port}
use Rattle.ops_meaning.specs.Effects.{PendingOn}
use Rattle.ops_meaning.specs.Kept.{KeepsNames}
use Rattle.ops_meaning.specs.Running.{commands_done}
use Rattle.act_phase.specs.Asking.{session_asks}
use Rattle.act_phase.specs.Outcomes.{setting_of}
use Rattle.live_rules.specs.Moves.{IsWith}
use Rattle.ops_base.specs.Names.{Spellings}
use Rattle.session.specs.Trailing.{IsNamedFrom, IsUndoable, meant_with}
use Rattle.session.proofs.commands.do_each.Given as goal

abbrev pub invariant-loop-command : goal.invariant-loop-command
invariant-loop-command g l = record {
  out : PendingOn (inlet l.fn.input (g.I.Source.left l.fn.source) (g.I.Source.faults l.fn.source))
      (inlet l.input (g.I.Source.left l.source) (g.I.Source.faults l.source))
      (port (g.K.Sink.taken l.fn.sink) (g.K.Sink.faults l.fn.sink) l.fn.out)
      (port (g.K.Sink.taken l.sink) (g.K.Sink.faults l.sink) l.out)
      (λ z. commands_done (setting_of l.fn.live.program 0) l.context.limit l.fn.out.column l.fn.commands.items (meant_with g.B.M.Matcher.stored l.fn.live.program.rules l.fn.undoable l.fn.names z))
      (λ z. commands_done (setting_of l.fn.live.program 0) l.context.limit l.out.column (into_iter_items l.command-iterator) (meant_with g.B.M.Matcher.stored l.live.program.rules l.undoable l.names z));
  whole : IsTrue l.out.whole;
  faults : g.K.Sink.faults l.sink ≡ g.K.Sink.faults l.fn.sink;
  untouched : session_asks l.fn.live.program.rules l.fn.live.program.templates l.fn.commands.items ≡ false → (l.input ≡ l.fn.input) × (l.source ≡ l.fn.source);
  quiet : session_asks l.fn.live.program.rules l.fn.live.program.templates l.fn.commands.items ≡ false → session_asks l.live.program.rules l.live.program.templates (into_iter_items l.command-iterator) ≡ false;
  undoable : IsUndoable g.B.M.Matcher.stored g.B.M.Matcher.stands_for l.live.program.rules l.undoable;
  named : (least : ℕ) → 1 ≤ least → IsNamedFrom least l.fn.names l.fn.undoable.trail → IsNamedFrom least l.names l.undoable.trail;
  names : (first : Spellings) → 1 ≤ length first.held → KeepsNames first l.fn.names → IsNamedFrom (length first.held) l.fn.names l.fn.undoable.trail → KeepsNames first l.names;
  program : IsWith l.live.program.rules l.fn.live.program.commands l.fn.live.program l.live.program;
  valid : IsTrue (list_all (command_is_valid l.live.program.classes (length l.live.program.text)) (into_iter_items l.command-iterator));
  builds : IsTrue (list_all (command_builds_from (length l.live.program.templates)) (into_iter_items l.command-iterator));
  number : into_iter_len l.command-iterator ≡ length (into_iter_items l.command-iterator);
  flushed : l.fn.out.held ≡ [] → l.out.held ≡ [];
}
