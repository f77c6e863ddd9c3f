use Rattle.std.proofs.Common.{◌≡◌, List, ap, sym, ◌∙◌, subst}
use Rattle.std.specs.HashMap.{spare}
use Rattle.ops_base.specs.Instances.{IsInOrder}
use Rattle.ops_base.specs.declared.rules.Inst.{Inst}
use Rattle.conflict_index.specs.Indexed.{Member, insts_of, fired_of, KeepsSpecificities}
use Rattle.conflict_index.specs.Keeping.{members_of}
use Rattle.conflict_index.specs.Marks.{members_with}
use Rattle.conflict_index.proofs.Restored.{view_is, with_insts, with_fired, with_kept}
use Rattle.conflict_index.proofs.index.Index.with_marks.Goals as goal

-- the members are those that were asked for
made : (c : goal.After-new) → members_of c.in_ok-waiting.waiting.entries c.in_ok-waiting.fired.entries ≡ members_with c.args.program.now.rules c.args.marks.now c.args.come.now
made c =
    let rules = c.args.program.now.rules in
    let P : List Inst → Type 0 = IsInOrder in
    view_is c.args.strategy c.in_ok-waiting.waiting.entries c.in_ok-waiting.fired.entries (spare c.in_ok-waiting.fired) c.in_ok-waiting.ensures.kept (members_with rules c.args.marks.now c.args.come.now)
    (subst P (sym (with_insts rules c.args.marks.now c.args.come.now)) c.requires.come_in_order) c.in_ok-waiting.ensures.members

pub returns-clause-members : goal.returns-clause-members
returns-clause-members c = made c

pub returns-clause-insts : goal.returns-clause-insts
returns-clause-insts c = ap insts_of (made c) ∙ with_insts c.args.program.now.rules c.args.marks.now c.args.come.now

pub returns-clause-kept : goal.returns-clause-kept
returns-clause-kept c =
    let P : List Member → Type 0 = KeepsSpecificities c.args.program.now.rules in
    subst P (sym (made c)) (with_kept c.args.program.now.rules c.args.marks.now c.args.come.now)

pub returns-clause-marks : goal.returns-clause-marks
returns-clause-marks c = ap fired_of (made c) ∙ with_fired c.args.program.now.rules c.args.marks.now c.args.come.now
