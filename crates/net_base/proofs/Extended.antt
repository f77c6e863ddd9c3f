-- A list with one item more at its end: what is looked up in it, for alphas and for nodes.
use Rattle.std.proofs.Common.{◌≡◌, ℕ, zero, suc, ◌+◌, ◌<◌, ◌≤◌, Bool, true, false, List, [], ◌∷◌, ◌++◌, length, slice_get, Option, Some, refl, sym, ap, subst, ◌∙◌, arith}
use Rattle.net_base.specs.declared.nodes.Alpha.{Alpha}
use Rattle.net_base.specs.declared.nodes.Node.{Node}
use Rattle.net_base.specs.declared.rows.Rows.{Rows}
use Rattle.net_base.specs.declared.alpha_index.AlphaIndex.{AlphaIndex}
use Rattle.net_base.specs.Sound.{takes_elements}
use Rattle.net_base.specs.Rows.{AddsTo, row_at}
use Rattle.net_base.specs.Feeds.{takes_from, takers_of, number_if, numbers_below, has_key, IsIndexBelow, IsIndex, AddsAlpha}
use Rattle.net_base.proofs.FeedLemmas.{takers_more, takers_same, index_more}

front : {X : Type 0} (xs : List X) (x : X) (n : ℕ) → n < length xs → slice_get (xs ++ x ∷ []) n ≡ slice_get xs n
front [] x n low = absurd (omega arith)
front (y ∷ xs) x zero low = refl
front (y ∷ xs) x (suc n) low = front xs x n (omega arith)

last : {X : Type 0} (xs : List X) (x : X) → slice_get (xs ++ x ∷ []) (length xs) ≡ Some x
last [] x = refl
last (y ∷ xs) x = last xs x

longer : {X : Type 0} (xs : List X) (x : X) → length xs + 1 ≡ length (xs ++ x ∷ [])
longer [] x = refl
longer (y ∷ xs) x = let rest = longer xs x in omega (arith, rest)

-- the numbers of the items before the last one
below_front : {X : Type 0} (test : X → Bool) (xs : List X) (x : X) (i : ℕ) → i ≤ length xs → numbers_below test (xs ++ x ∷ []) i ≡ numbers_below test xs i
below_front test xs x zero low = refl
below_front test xs x (suc i) low =
    ap (λ ns. ns ++ number_if test (slice_get (xs ++ x ∷ []) i) i) (below_front test xs x i (omega arith))
    ∙ ap (λ o. numbers_below test xs i ++ number_if test o i) (front xs x i (omega arith))

index_front : (alphas : List Alpha) (a : Alpha) (index : AlphaIndex) → IsIndex alphas index → IsIndexBelow (alphas ++ a ∷ []) (length alphas) index
index_front alphas a index h = record {
  found = λ k. (h.found k ∙ sym (below_front (has_key k) alphas a (length alphas) (omega arith)));
  fields = λ n b c low at first. h.fields n b c low (sym (front alphas a n low) ∙ at) first;
  once = h.once;
}

-- one alpha more in the index
pub index_added : (alphas : List Alpha) (a : Alpha) (old new : AlphaIndex) → IsIndex alphas old → AddsAlpha old new (length alphas) a → IsIndex (alphas ++ a ∷ []) new
index_added alphas a old new h adds =
    subst (λ n. IsIndexBelow (alphas ++ a ∷ []) n new) (longer alphas a)
    (index_more (alphas ++ a ∷ []) (length alphas) a old new (last alphas a) (index_front alphas a old h) adds)

-- one node more that takes the elements of its alpha
pub takers_added : (nodes : List Node) (x : Node) (old new : Rows) → takes_elements x.kind ≡ true → AddsTo old new x.alpha (length nodes)
    → ((alpha : ℕ) → row_at old alpha ≡ takers_of nodes alpha) → (alpha : ℕ) → row_at new alpha ≡ takers_of (nodes ++ x ∷ []) alpha
takers_added nodes x old new lives adds h alpha =
    takers_more (nodes ++ x ∷ []) (length nodes) x old new (last nodes x) lives adds
    (λ a. (h a ∙ sym (below_front (takes_from a) nodes x (length nodes) (omega arith)))) alpha
    ∙ ap (numbers_below (takes_from alpha) (nodes ++ x ∷ [])) (longer nodes x)

-- one node more that takes none
pub takers_unchanged : (nodes : List Node) (x : Node) (rows : Rows) → takes_elements x.kind ≡ false
    → ((alpha : ℕ) → row_at rows alpha ≡ takers_of nodes alpha) → (alpha : ℕ) → row_at rows alpha ≡ takers_of (nodes ++ x ∷ []) alpha
takers_unchanged nodes x rows ends h alpha =
    takers_same (nodes ++ x ∷ []) (length nodes) x rows (last nodes x) ends
    (λ a. (h a ∙ sym (below_front (takes_from a) nodes x (length nodes) (omega arith)))) alpha
    ∙ ap (numbers_below (takes_from alpha) (nodes ++ x ∷ [])) (longer nodes x)
