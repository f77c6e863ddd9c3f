use Rattle.std.proofs.Common.{◌≡◌, ◌+◌, ◌∷◌, ap, sym, ◌∙◌, drop, get_or, drop-cons, add-one}
use Rattle.work_store.specs.Slots.{without_all}
use Rattle.work_store.proofs.store.drop_all.Goals as goal

pub loop-tag-preserved : goal.loop-tag-preserved
loop-tag-preserved c =
    let tags = c.args.tags.now in
    let at = c.loop-tag.tag-index in
    let here : drop at tags ≡ get_or tags at 0 ∷ drop (at + 1) tags = rw add-one (drop-cons tags at 0 c.loop-tag-test.true) in
    ap (without_all (drop (at + 1) tags)) c.remove.ensures ∙ sym (ap (λ ts. without_all ts c.loop-tag.slots) here) ∙ c.loop-tag.invariant
