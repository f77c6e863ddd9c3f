use Rattle.std.proofs.Common.{◌≡◌, ℕ, false, length, Some}
use Rattle.std.specs.Vec.Iter.{into_iter_items, into_iter_len}
use Rattle.ops_base.specs.Names.{Spellings}
use Rattle.ops_io.specs.Coming.{Coming}
use Rattle.ops_meaning.specs.Kept.{AreFilledFrom}
use Rattle.ops_meaning.specs.Running.{all_added, place_after}
use Rattle.act_phase.specs.Asking.{program_asks}
use Rattle.live_rules.specs.Moves.{IsWith}
use Rattle.session.specs.Trailing.{IsNamedFrom, IsUndoable, meant_with}
use Rattle.session.proofs.built.add_all.Given as goal

abbrev pub invariant-loop-rule : goal.invariant-loop-rule
invariant-loop-rule g l = record {
  meant : (n : Spellings) (z : Coming) → all_added (into_iter_items l.rule-iterator) (meant_with g.M.Matcher.stored l.live.program.rules l.undoable n z)
      ≡ all_added l.fn.built (meant_with g.M.Matcher.stored l.fn.live.program.rules l.fn.undoable n z);
  place : place_after l.live.program.rules (into_iter_items l.rule-iterator) l.place ≡ place_after l.fn.live.program.rules l.fn.built (Some l.fn.fired);
  undoable : IsUndoable g.M.Matcher.stored g.M.Matcher.stands_for l.live.program.rules l.undoable;
  named : (least : ℕ) (n : Spellings) → IsNamedFrom least n l.fn.undoable.trail → IsNamedFrom least n l.undoable.trail;
  program : IsWith l.live.program.rules l.fn.live.program.commands l.fn.live.program l.live.program;
  filled : AreFilledFrom l.fn.live.program.templates (into_iter_items l.rule-iterator);
  quiet : program_asks l.fn.live.program.rules ≡ false → program_asks l.fn.live.program.templates ≡ false → program_asks l.live.program.rules ≡ false;
  number : into_iter_len l.rule-iterator ≡ length (into_iter_items l.rule-iterator);
}
