use Rattle.std.proofs.Common.{◌≡◌, ◌∙◌, ap, sym, subst, List}
use Rattle.std.specs.Prelude.{Contains}
use Rattle.conflict_index.specs.Indexed.{Indexed, Member, insts_of, fired_of}
use Rattle.conflict_index.specs.Applying.{marked}
use Rattle.cycle.specs.States.{Held}
use Rattle.cycle.specs.Standing.{with_inst}
use Rattle.cycle.proofs.Marks.{marked_agree}
use Rattle.cycle.proofs.Standings.{marked_at}
use Rattle.cycle.proofs.state.State.mark.Goals as goal

pub invariant_of-self : goal.invariant_of-self
invariant_of-self g c =
    marked_agree _ _ _ c.args.inst.now c.self.inside.index.value.members c.mark.new.self.members (ap (λ (x : Indexed). x.members) c.mark.ensures ∙ ap (λ (x : Indexed). marked c.args.inst.now x.members) c.as_mut.ensures.value) c.self.invariant

pub returns-clause-marks : goal.returns-clause-marks
returns-clause-marks g c =
    let was = c.self.inside.index.value.members in
    let same : was ≡ c.args.self.now.index.members = ap (λ (h : Held _). h.index.members) c.self.view_is in
    ap (λ (x : Indexed). fired_of x.members) c.mark.ensures
    ∙ ap (λ (x : Indexed). fired_of (marked c.args.inst.now x.members)) c.as_mut.ensures.value
    ∙ marked_at c.args.inst.now was c.self.invariant.in_order (let P : List Member → Type 0 = λ ms. Contains (insts_of ms) c.args.inst.now in subst P (sym same) c.requires.member)
    ∙ ap (λ ms. with_inst c.args.inst.now (fired_of ms)) same
