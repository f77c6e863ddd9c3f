use Rattle.std.proofs.Common.{◌≡◌, ◌∷◌, ◌++◌, [], length, ap, sym, ◌∙◌, append_assoc, arith}
use Rattle.std.specs.Vec.Iter.{into_iter_items}
use Rattle.cycle.specs.Standing.{with_inst}
use Rattle.back_trail.proofs.MarkLaws.{put_next}
use Rattle.back_trail.proofs.marks.marks_of.Goals as goal

pub loop-inst-preserved : goal.loop-inst-preserved
loop-inst-preserved c =
    let at = c.loop-inst in
    let i = c.in-Some.inst in
    let rest = into_iter_items c.next.new.self in
    let steps : into_iter_items at.inst-iterator ≡ i ∷ rest = c.in-Some.ensures.steps.0 in
    let all = ap (λ is. at.yielded ++ is) (sym steps) ∙ at.invariant.all in
    record {
      left = c.in_ok-put_mark.ensures.ok ∙ ap (with_inst i) at.invariant.left ∙ put_next at.yielded i rest c.args.insts.items all c.requires;
      all = append_assoc at.yielded (i ∷ []) rest ∙ all;
      number = (let was = at.invariant.number in let gone = c.in-Some.ensures.steps.1 in let short = ap length steps in omega arith);
    }
