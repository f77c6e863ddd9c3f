use Rattle.std.proofs.Common.{◌∙◌, cond, sym, ap, subst}
use Rattle.net_base.specs.declared.normal.NormalCondition.{NormalCondition}
use Rattle.net_base.specs.declared.normal.NormalPart.TheVariants.{One}
use Rattle.net_base.specs.Normal.{binders_after}
use Rattle.beta_net.specs.Linked.{AddsPart}
use Rattle.beta_net.proofs.RuleLemmas.{dropped, adds_condition}
use Rattle.beta_net.proofs.paths.add_one.Goals as goal
use Rattle.beta_net.proofs.paths.add_one.Goals.{then-condition, else-condition}

pub returns-clause-part : goal.returns-clause-part
returns-clause-part c =
    subst (λ (z : NormalCondition). AddsPart c.args.links.now c.add_condition.new.links c.args.parent (One z) c.in_ok-n.n) c.in_ok-normal.ensures.normal
    (adds_condition c.args.links.now c.add_condition.new.links c.args.parent c.in_ok-normal.normal c.in_ok-n.n c.requires.linked c.requires.within c.in_ok-n.ensures)

pub returns-clause-binders : goal.returns-clause-binders
returns-clause-binders c =
    let past = binders_after c.args.place c.args.condition.now.tests c.args.binders.now.items in
    elim c.if-condition.branch [
      | then-condition w ↦
          ap (λ v. v.items) w.binders-is
          ∙ (dropped c.args.place c.args.condition.now.tests c.args.binders.now.items c.as_slice-known.result.now c.normal_form.new.binders.items w.truncate.new.self.items c.as_slice-known.ensures.value c.in_ok-normal.ensures.binders w.truncate.ensures.items
          ∙ ap (λ b. cond b c.args.binders.now.items past) (sym w.if-condition.true))
      | else-condition w ↦
          ap (λ v. v.items) w.binders-is ∙ (c.in_ok-normal.ensures.binders ∙ ap (λ b. cond b c.args.binders.now.items past) (sym w.if-condition.false))
    ]
