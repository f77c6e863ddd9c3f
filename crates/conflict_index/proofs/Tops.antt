-- Keys compare as the tags that a strategy compares first, where these differ.
use Rattle.std.proofs.Common.{◌≡◌, ◌≢◌, ℕ, List, [], ◌∷◌, zero, suc, refl, ap, sym, ◌∙◌, arith}
use Rattle.std.specs.Cmp.{nat_cmp_is}
use Rattle.std.specs.Cmp.Lexicographic.{slice_cmp}
use Rattle.std.specs.Option.{unwrap_or}
use Rattle.std.specs.Prelude.{slice_get}
use Rattle.std.specs.declared.cmp.Ordering.{Ordering}
use Rattle.std.specs.declared.cmp.Ordering.TheVariants.{Less, Equal, Greater}
use Rattle.std.specs.Ordering.{nat_cmp, ordering_then}
use Rattle.ops_base.specs.declared.commands.Strategy.{Strategy}
use Rattle.ops_base.specs.declared.commands.Strategy.TheVariants.{Lex, Mea}
use Rattle.ops_base.proofs.InstOrder.{equal_numbers}
use Rattle.resolution.specs.Keys.{Key, compare_keys, compare_keys_lex, compare_keys_production, top_of}
use Rattle.conflict_index.specs.Rank.{Rank}
use Rattle.conflict_index.specs.Ranking.{under, compare_ranks}

decided : (o p q : Ordering) → o ≢ Equal → ordering_then (ordering_then o p) q ≡ o
decided Less p q d = refl
decided Equal p q d = absurd (d refl)
decided Greater p q d = refl

decided_at_once : (o p : Ordering) → o ≢ Equal → ordering_then o p ≡ o
decided_at_once Less p d = refl
decided_at_once Equal p d = absurd (d refl)
decided_at_once Greater p d = refl

abbrev head_or_zero : List ℕ → ℕ
head_or_zero xs = unwrap_or (slice_get xs 0) 0

below_none : (x : ℕ) → nat_cmp x 0 ≢ Equal → nat_cmp x 0 ≡ Greater
below_none zero d = absurd (d refl)
below_none (suc x) d = sym (nat_cmp_is (suc x) 0 Greater (omega arith))

above_none : (x : ℕ) → nat_cmp 0 x ≢ Equal → nat_cmp 0 x ≡ Less
above_none zero d = absurd (d refl)
above_none (suc x) d = sym (nat_cmp_is 0 (suc x) Less (omega arith))

by_heads : (xs ys : List ℕ) → nat_cmp (head_or_zero xs) (head_or_zero ys) ≢ Equal
    → slice_cmp nat_cmp xs ys ≡ nat_cmp (head_or_zero xs) (head_or_zero ys)
by_heads [] [] d = absurd (d refl)
by_heads [] (y ∷ ys) d = sym (above_none y d)
by_heads (x ∷ xs) [] d = sym (below_none x d)
by_heads (x ∷ xs) (y ∷ ys) d = decided_at_once (nat_cmp x y) (slice_cmp nat_cmp xs ys) d

by_strategies : (k l : Key) (s t : Strategy) → s ≡ t → nat_cmp (top_of s k) (top_of t l) ≢ Equal
    → nat_cmp (top_of s k) (top_of t l) ≡ ordering_then (under s t (compare_keys s k l)) (nat_cmp k.first l.first)
by_strategies k l Lex Lex e d = sym (
    ap (λ o. ordering_then (ordering_then o (compare_keys_production k l)) (nat_cmp k.first l.first)) (by_heads k.sorted l.sorted d)
    ∙ decided (nat_cmp (head_or_zero k.sorted) (head_or_zero l.sorted)) (compare_keys_production k l) (nat_cmp k.first l.first) d
    )
by_strategies k l Lex Mea e d = cc
by_strategies k l Mea Lex e d = cc
by_strategies k l Mea Mea e d =
    sym (decided (nat_cmp k.first l.first) (compare_keys_lex k l) (nat_cmp k.first l.first) d)

-- ranks of one strategy compare as the tags that it compares first, where these differ
pub by_tops : (a b : Rank) (m n : ℕ) → m ≡ top_of a.strategy a.key → n ≡ top_of b.strategy b.key → a.strategy ≡ b.strategy → m ≢ n → nat_cmp m n ≡ compare_ranks a b
by_tops a b m n p q e differ =
    (λ k. nat_cmp (p k) (q k)) ∙ by_strategies a.key b.key a.strategy b.strategy e (λ t. differ (p ∙ equal_numbers _ _ t ∙ sym q))
