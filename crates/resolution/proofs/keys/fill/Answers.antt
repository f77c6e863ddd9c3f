use Rattle.std.proofs.Common.{List, ℕ, ◌++◌, ap, ◌∙◌, subst, rules}
use Rattle.std.specs.Prelude.{IsPermutation}
use Rattle.resolution.proofs.Downwards.{downwards_from_sort}
use Rattle.resolution.proofs.keys.fill.Goals as goal

pub returns : goal.returns
returns c =
    let P : List ℕ → Type 0 = λ tags. IsPermutation tags c.sort_unstable_by.new.self.items in
    c.append-2.ensures.items
    ∙ ap (λ (xs : List ℕ). xs ++ c.args.tags.now)
    (downwards_from_sort c.args.tags.now c.sort_unstable_by.new.self.items
    (subst P (c.append.ensures.items ∙ ap (λ (xs : List ℕ). xs ++ c.args.tags.now) (c.reserve.ensures.items ∙ c.clear.ensures.items)) c.sort_unstable_by.ensures.permutation)
    c.sort_unstable_by.ensures.sorted (λ a r q k. search rules))
