use Rattle.std.proofs.Common.{◌≡◌, ℕ, length, ap, sym, subst, ◌∙◌}
use Rattle.net_base.specs.Rows.{row_at, AddsTo}
use Rattle.net_base.specs.Feeds.{takers_of}
use Rattle.net_base.specs.declared.rows.Rows.{Rows}
use Rattle.net_base.proofs.Extended.{takers_added, takers_unchanged}
use Rattle.net_base.proofs.net.add_node.Goals as goal
use Rattle.net_base.proofs.net.add_node.Goals.{then-takes_elements+in_ok-add, else-takes_elements}

pub returns-clause-takers : goal.returns-clause-takers
returns-clause-takers c =
    let nodes = c.args.nodes.now.items in
    let x = c.args.node in
    let P : Rows → Type 0 = λ r. (alpha : ℕ) → row_at r alpha ≡ takers_of c.push.new.self.items alpha in
    elim c.if-takes_elements.branch [
      | then-takes_elements+in_ok-add w ↦
          let adds = subst (λ n. AddsTo c.args.takers.now w.add.new.self x.alpha n) (ap length w.as_slice-number.ensures.value) w.in_ok-add.ensures in
          subst P (sym w.takers-is) (λ alpha. subst (λ all. row_at w.add.new.self alpha ≡ takers_of all alpha) (sym c.in_ok-push.ensures.items)
          (takers_added nodes x c.args.takers.now w.add.new.self (sym c.takes_elements.ensures ∙ w.if-takes_elements.true) adds c.requires alpha))
      | else-takes_elements w ↦
          subst P (sym w.takers-is) (λ alpha. subst (λ all. row_at c.args.takers.now alpha ≡ takers_of all alpha) (sym c.in_ok-push.ensures.items)
          (takers_unchanged nodes x c.args.takers.now (sym c.takes_elements.ensures ∙ w.if-takes_elements.false) c.requires alpha))
    ]
