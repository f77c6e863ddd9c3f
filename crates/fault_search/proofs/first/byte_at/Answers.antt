use Rattle.std.proofs.Common.{◌+◌, ◌∙◌, get_or, sym, ap, arith, below_more}
use Rattle.std.specs.Prelude.{◌==◌, if◌then◌else◌}
use Rattle.fault_search.proofs.Places.{line_step, column_step, one_place, low_by}
use Rattle.fault_search.proofs.first.byte_at.Goals as goal

pub returns-then-is_same : goal.returns-then-is_same
returns-then-is_same c = λ at within line column.
    let same = c.is_same.ensures.same c.if-is_same.true in
    one_place c.args.text.now c.loop-i.i at (omega (arith, c.loop-i-test.true)) within
    (sym c.loop-i.invariant.line ∙ same.0 ∙ line) (sym c.loop-i.invariant.column ∙ same.1 ∙ column)

pub loop-i-preserved : goal.loop-i-preserved
loop-i-preserved c =
    let text = c.args.text.now in
    let i = c.loop-i.i in
    let here = c.loop-i.here in
    let lt = c.loop-i-test.true in
    let now = c.loop-i.invariant in
    let line = c.place_past-here.ensures.line in
    let column = c.place_past-here.ensures.column in
    let low = low_by (get_or text i 0 == 10) here.line here.column i _ _ line column now.low_line now.low_column in
    record {
      line = line ∙ ap (λ n. if get_or text i 0 == 10 then n + 1 else n) now.line ∙ sym (line_step text i lt);
      column = column ∙ ap (λ n. if get_or text i 0 == 10 then 1 else n + 1) now.column ∙ sym (column_step text i lt);
      low_line = low.0;
      low_column = low.1;
      none = below_more _ _ now.none (λ l k. c.is_same.ensures.other c.if-is_same.false (now.line ∙ sym l) (now.column ∙ sym k));
    }
