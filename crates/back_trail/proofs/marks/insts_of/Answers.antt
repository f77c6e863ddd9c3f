use Rattle.std.proofs.Common.{List, ◌++◌, ◌∙◌, ap, sym, subst, append-nil}
use Rattle.ops_base.specs.declared.rules.Inst.{Inst}
use Rattle.ops_base.specs.Instances.{IsInOrder}
use Rattle.back_trail.proofs.MarkLaws.{sorted_in_order}
use Rattle.back_trail.proofs.marks.insts_of.Goals as goal

pub returns-clause-in_order : goal.returns-clause-in_order
returns-clause-in_order c =
    let at = c.loop-mark in
    let all = sym (append-nil at.insts.items) ∙ ap (λ rest. at.insts.items ++ rest) (sym c.in-None.ensures.steps.0) ∙ at.invariant in
    let P : List Inst → Type 0 = IsInOrder in subst P (sym all) (sorted_in_order c.args.marks.now.keys c.len-len.ensures.ordered)
