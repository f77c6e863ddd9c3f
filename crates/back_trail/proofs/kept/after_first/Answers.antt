use Rattle.std.proofs.Common.{◌≡◌, ◌∙◌, ◌+◌, suc, List, [], false, take, ap, subst, sym, arith}
use Rattle.back_trail.specs.Kept.{after_steps}
use Rattle.ops_base.specs.declared.elements.Change.{Change}
use Rattle.ops_base.specs.declared.rules.Inst.{Inst}
use Rattle.ops_base.specs.WorkingMemory.{Lawful}
use Rattle.cycle.specs.Standing.{Standing, after_firing}
use Rattle.back_trail.proofs.TrailLaws.{one_on}
use Rattle.back_trail.proofs.kept.after_first.Goals as goal

pub follow-requires : goal.follow-requires
follow-requires c =
    let on = one_on c.loop-i.i c.args.count c.args.first c.args.steps.now.items c.index.result.now c.index.ensures c.loop-i-test.true c.requires.within c.requires.lawful in
    let P : Standing → Type 0 = λ s. Lawful s.wm s.last c.index.result.now.fired.changes in
    let Q : List Change → Type 0 = λ changes. Lawful c.loop-i.remade.wm c.loop-i.remade.last changes in
    subst Q (sym c.as_slice.ensures) (subst P (sym c.loop-i.invariant) on.0)

pub loop-i-preserved : goal.loop-i-preserved
loop-i-preserved c =
    let on = one_on c.loop-i.i c.args.count c.args.first c.args.steps.now.items c.index.result.now c.index.ensures c.loop-i-test.true c.requires.within c.requires.lawful in
    let fired = c.index.result.now.fired in
    let by_changes = ap (λ (changes : List Change). after_firing (record { inst = fired.inst; halted = false; changes = changes; gone = c.as_slice-in-loop-i.result.now; built = [] }) c.loop-i.remade) c.as_slice.ensures in
    let by_gone = ap (λ (gone : List Inst). after_firing (record { inst = fired.inst; halted = false; changes = fired.changes; gone = gone; built = [] }) c.loop-i.remade) c.as_slice-in-loop-i.ensures in
    let next : suc c.loop-i.i ≡ c.loop-i.i + 1 = omega arith in
    c.in_ok-remade.ensures ∙ by_changes ∙ by_gone ∙ ap (after_firing fired) c.loop-i.invariant ∙ on.1 ∙ ap (λ k. after_steps c.args.first (take k c.args.steps.now.items)) next
