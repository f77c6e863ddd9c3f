use Rattle.std.proofs.Common.{◌≡◌, ◌∷◌, length, ◌∙◌, ap, sym, arith}
use Rattle.std.specs.Vec.Iter.{into_iter_items}
use Rattle.cycle.specs.Standing.{without_gone}
use Rattle.back_trail.proofs.MarkLaws.{first_gone, no_items, none_gone, remove_is, sorted_before}
use Rattle.back_trail.proofs.marks.drop_marks.Goals as goal

pub loop-inst-preserved : goal.loop-inst-preserved
loop-inst-preserved c =
    let at = c.loop-inst in
    let i = c.in-Some.inst in
    let rest = into_iter_items c.next.new.self in
    let steps : into_iter_items at.inst-iterator ≡ i ∷ rest = c.in-Some.ensures.steps.0 in
    let taken = c.remove.ensures.keys ∙ remove_is i at.marks.keys (sorted_before at.marks.keys at.invariant.ordered) in
    record {
      left = ap (without_gone rest) taken ∙ first_gone i rest at.marks.keys ∙ ap (λ is. without_gone is at.marks.keys) (sym steps) ∙ at.invariant.left;
      ordered = c.remove.ensures.ordered;
      number = (let was = at.invariant.number in let gone = c.in-Some.ensures.steps.1 in let short = ap length steps in omega arith);
    }

pub returns : goal.returns
returns c =
    let at = c.loop-inst in
    let none = no_items (into_iter_items at.inst-iterator) (sym at.invariant.number ∙ c.in-None.ensures.steps.0) in
    none_gone at.marks.keys ∙ ap (λ is. without_gone is at.marks.keys) (sym none) ∙ at.invariant.left
