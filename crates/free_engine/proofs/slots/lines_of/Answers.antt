-- A line more, or the pool, which has none.
use Rattle.std.proofs.Common.{List, [], ◌∷◌, ◌++◌, ap, ◌∙◌, sym, append-nil}
use Rattle.token_line.specs.declared.line.Line.{Line}
use Rattle.free_engine.specs.declared.slots.Slot.{Slot}
use Rattle.free_engine.specs.Openings.{rows_in}
use Rattle.free_engine.proofs.Opened.{rows_in-snoc}
use Rattle.free_engine.proofs.slots.lines_of.Goals as goal
use Rattle.free_engine.proofs.slots.lines_of.Goals.{in-Pool, in-Line+in_ok-push-in-Line}

pub loop-slot-preserved-after-slot : goal.loop-slot-preserved-after-slot
loop-slot-preserved-after-slot c = let was = c.loop-slot.invariant in let ys = c.loop-slot.yielded in let x = c.in-Some.slot in
    elim c.match-slot.branch [
      | in-Pool w ↦ ap (λ v. v.items) w.lines-is ∙ (was ∙ sym (rows_in-snoc ys x ∙ (ap (λ (s : Slot). rows_in ys ++ rows_in (s ∷ [])) w.in-Pool.is ∙ append-nil (rows_in ys))))
      | in-Line+in_ok-push-in-Line w ↦ ap (λ v. v.items) w.lines-is ∙ (w.in_ok-push-in-Line.ensures.items ∙ (ap (λ (l : List Line). l ++ w.into_inner-cell.result.line ∷ []) was
          ∙ sym (rows_in-snoc ys x ∙ (ap (λ (s : Slot). rows_in ys ++ rows_in (s ∷ [])) w.in-Line.is ∙ ap (λ (c : _). rows_in ys ++ c.line ∷ []) (sym w.into_inner-cell.ensures)))))
    ]

pub loop-slot-preserved : goal.loop-slot-preserved
loop-slot-preserved c = let was = c.loop-slot.invariant in let ys = c.loop-slot.yielded in let x = c.in-Some.slot in
    elim c.match-slot.branch [
      | in-Pool w ↦ ap (λ v. v.items) w.lines-is ∙ (was ∙ sym (rows_in-snoc ys x ∙ (ap (λ (s : Slot). rows_in ys ++ rows_in (s ∷ [])) w.in-Pool.is ∙ append-nil (rows_in ys))))
      | in-Line+in_ok-push-in-Line w ↦ ap (λ v. v.items) w.lines-is ∙ (w.in_ok-push-in-Line.ensures.items ∙ (ap (λ (l : List Line). l ++ w.into_inner-cell.result.line ∷ []) was
          ∙ sym (rows_in-snoc ys x ∙ (ap (λ (s : Slot). rows_in ys ++ rows_in (s ∷ [])) w.in-Line.is ∙ ap (λ (c : _). rows_in ys ++ c.line ∷ []) (sym w.into_inner-cell.ensures)))))
    ]
