-- A node that takes elements is one taker more of its alpha.
use Rattle.std.proofs.Common.{length, refl, subst, sym, ◌∙◌}
use Rattle.std.proofs.lemmas.Option.{slice_get_read}
use Rattle.std.specs.Prelude.{◌≡◌, ◌+◌, ℕ}
use Rattle.net_base.specs.declared.rows.Rows.{Rows}
use Rattle.net_base.specs.Rows.{row_at}
use Rattle.net_base.specs.Feeds.{numbers_below, takes_from}
use Rattle.net_base.proofs.FeedLemmas.{takers_more, takers_same}
use Rattle.net_base.proofs.net.takers.Goals as goal
use Rattle.net_base.proofs.net.takers.Goals.{then-takes_elements+in_ok-add, else-takes_elements}

pub loop-number-preserved : goal.loop-number-preserved
loop-number-preserved c =
    let nodes = c.args.nodes.now in
    let i = c.loop-number.number in
    let x = c.index-nodes-number.result in
    let at = slice_get_read nodes (length nodes) i x refl c.loop-number-test.true c.index-nodes-number.is in
    let P : Rows → Type 0 = λ r. (alpha : ℕ) → row_at r alpha ≡ numbers_below (takes_from alpha) nodes (i + 1) in
    elim c.if-takes_elements.branch [
      | then-takes_elements+in_ok-add w ↦ subst P (sym w.takers-is)
          (takers_more nodes i x c.loop-number.takers w.add.new.self at (sym c.takes_elements.ensures ∙ w.if-takes_elements.true) w.in_ok-add.ensures c.loop-number.invariant)
      | else-takes_elements w ↦ subst P (sym w.takers-is)
          (takers_same nodes i x c.loop-number.takers at (sym c.takes_elements.ensures ∙ w.if-takes_elements.false) c.loop-number.invariant)
    ]
