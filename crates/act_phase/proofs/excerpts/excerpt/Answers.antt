use Rattle.std.proofs.Common.{arith, List, ℕ, take, get_or, sym, subst, ◌∙◌}
use Rattle.std.specs.Prelude.{IsSorted}
use Rattle.std.specs.Ordering.{nat_cmp}
use Rattle.std.proofs.lemmas.List.{get_or_default, take_more, take_all}
use Rattle.act_phase.proofs.Copied.{IsCopied, copied_first, copied_more, copied_order, next_is_above, excerpted}
use Rattle.act_phase.proofs.excerpts.excerpt.Goals as goal

pub loop-tag-init : goal.loop-tag-init
loop-tag-init c = record {
  copied = rw c.new-excerpt.ensures (copied_first c.args.store.now.elements c.args.store.now.last c.requires.above);
  order = λ some. rw c.new-excerpt.ensures (omega arith);
}

pub loop-tag-preserved : goal.loop-tag-preserved
loop-tag-preserved c =
    let items = c.as_slice-tag-items.result.now in
    let k = c.loop-tag.tag-index in
    let tag = get_or items k 0 in
    let order = c.loop-tag.invariant.order c.loop-tag-test.true in
    let Sorted : List ℕ → Type 0 = IsSorted nat_cmp in
    record {
      copied = rw (c.in_ok-add_copy.ensures, take_more items k 0 c.loop-tag-test.true)
          (copied_more c.args.store.now (take k items) tag c.loop-tag.excerpt c.last-last.ensures.stored c.loop-tag.invariant.copied order);
      order = λ within. rw c.in_ok-add_copy.ensures
          (next_is_above items k tag _ (subst Sorted (sym c.as_slice-tag-items.ensures.value) c.in_ok-tags.ensures.sorted) (get_or_default items k 0 tag c.loop-tag-test.true)
          (copied_order c.args.store.now (take k items) tag c.loop-tag.excerpt c.last-last.ensures.stored c.loop-tag.invariant.copied order) within);
    }

pub returns-clause-excerpt : goal.returns-clause-excerpt
returns-clause-excerpt c =
    let items = c.as_slice-tag-items.result.now in
    let P : List ℕ → Type 0 = λ tags. IsCopied c.args.store.now.elements c.args.store.now.last tags c.loop-tag.excerpt in
    let all = subst P (take_all c.loop-tag.tag-index items c.loop-tag-test.false ∙ c.as_slice-tag-items.ensures.value) c.loop-tag.invariant.copied in
    excerpted c.args.store.now.elements c.args.store.now.last c.args.inst.now.tags c.in_ok-tags.tags.items c.loop-tag.excerpt (rw c.as_slice.ensures at c.in_ok-tags.ensures.moved) all
