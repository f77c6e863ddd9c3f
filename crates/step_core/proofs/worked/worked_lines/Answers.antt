use Rattle.std.proofs.Common.{◌≡◌, ap, ◌∙◌, length, refl, sym, arith}
use Rattle.std.proofs.lemmas.Option.{slice_get_read}
use Rattle.net_base.specs.Feeds.{numbers_below}
use Rattle.step_core.specs.inner.Worked.{has_entries}
use Rattle.step_core.proofs.Parted.{are_worked, worked_more, worked_same}
use Rattle.step_core.proofs.worked.worked_lines.Goals as goal
use Rattle.step_core.proofs.worked.worked_lines.Goals.{then-not-is_empty+in_ok-push, else-not-is_empty}

pub loop-place-preserved : goal.loop-place-preserved
loop-place-preserved c =
    let ls = c.args.lines.now in
    let i = c.loop-place.place in
    let l = c.index-lines-place.result in
    let at = slice_get_read ls (length ls) i l refl c.loop-place-test.true c.index-lines-place.is in
    elim c.if-not-is_empty.branch [
      | then-not-is_empty+in_ok-push w ↦
          ap (λ v. v.items) w.worked-is ∙ (w.in_ok-push.ensures.items ∙ worked_more ls i l at c.entries.result.now c.entries.ensures c.loop-place.worked.items c.loop-place.invariant (sym c.is_empty.ensures ∙ w.if-not-is_empty.true))
      | else-not-is_empty w ↦
          ap (λ v. v.items) w.worked-is ∙ worked_same ls i l at c.entries.result.now c.entries.ensures c.loop-place.worked.items c.loop-place.invariant (sym c.is_empty.ensures ∙ w.if-not-is_empty.false)
    ]

pub returns : goal.returns
returns c =
    let all : c.loop-place.place ≡ length c.args.lines.now = omega arith in
    are_worked c.args.lines.now c.loop-place.worked.items (c.loop-place.invariant ∙ ap (numbers_below has_entries c.args.lines.now) all)
