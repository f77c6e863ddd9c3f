use Rattle.std.proofs.Common.{sym, subst, List, ℕ}
use Rattle.std.specs.Ordering.{nat_cmp}
use Rattle.std.specs.List.Sorted.{IsPermutation, IsSorted}
use Rattle.step_core.proofs.Takers.{refill_whole}
use Rattle.step_core.proofs.feeding.sort.Goals as goal

pub returns-clause-moved : goal.returns-clause-moved
returns-clause-moved c =
    let whole = refill_whole c.args.numbers.now.items c.sort_unstable.new.self c.as_mut_slice.result.now c.as_mut_slice.ensures.value c.sort_unstable.ensures.len in
    subst (IsPermutation c.args.numbers.now.items) (sym whole)
    (subst (λ (xs : List ℕ). IsPermutation xs c.sort_unstable.new.self) c.as_mut_slice.ensures.value c.sort_unstable.ensures.permutation)

pub returns-clause-sorted : goal.returns-clause-sorted
returns-clause-sorted c =
    let whole = refill_whole c.args.numbers.now.items c.sort_unstable.new.self c.as_mut_slice.result.now c.as_mut_slice.ensures.value c.sort_unstable.ensures.len in
    subst (IsSorted nat_cmp) (sym whole) c.sort_unstable.ensures.sorted
