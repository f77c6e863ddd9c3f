-- How ranks compare in the order of dominance.
use Rattle.std.specs.Prelude.{◌≡◌}
use Rattle.std.proofs.Common.{refl, ap, sym, subst}
use Rattle.std.specs.Cmp.{IsTotalOrder, then_total, on_total, nat_cmp_total}
use Rattle.std.specs.declared.cmp.Ordering.{Ordering}
use Rattle.std.specs.declared.cmp.Ordering.TheVariants.{Less, Equal, Greater}
use Rattle.std.specs.Ordering.{ordering_reverse, ordering_then, nat_cmp}
use Rattle.ops_base.specs.declared.commands.Strategy.{Strategy}
use Rattle.ops_base.specs.declared.commands.Strategy.TheVariants.{Lex, Mea}
use Rattle.resolution.specs.Keys.{Key, compare_keys}
use Rattle.resolution.proofs.KeyLaws.{compare_keys_total}
use Rattle.conflict_index.specs.Rank.{Rank}

-- under one strategy the keys decide, and every rank under LEX is below every rank under MEA
abbrev pub under : Strategy → Strategy → Ordering → Ordering
under Lex Lex keys = keys
under Lex Mea keys = Less
under Mea Lex keys = Greater
under Mea Mea keys = keys

-- ranks under one strategy compare as their keys do under it
abbrev pub compare_by_strategy : Rank → Rank → Ordering
compare_by_strategy a b = under a.strategy b.strategy (compare_keys a.strategy a.key b.key)

-- ranks that this does not distinguish are compared by the first tag, which LEX ignores
abbrev pub compare_ranks : Rank → Rank → Ordering
compare_ranks a b = ordering_then (compare_by_strategy a b) (nat_cmp a.key.first b.key.first)

IsLess : Ordering → Type 0
IsLess Less = Unit {0}
IsLess Equal = ⊥
IsLess Greater = ⊥

less_not_equal : Less ≡ Equal → ⊥
unfolding IsLess
less_not_equal e = subst IsLess e tt

greater_not_less : Greater ≡ Less → ⊥
unfolding IsLess
greater_not_less e = subst IsLess (sym e) tt

greater_not_equal : Greater ≡ Equal → ⊥
greater_not_equal e = less_not_equal (ap ordering_reverse e)

antisymm : (s t : Strategy) (k l : Key) → under s t (compare_keys s k l) ≡ ordering_reverse (under t s (compare_keys t l k))
antisymm Lex Lex k l = (compare_keys_total Lex).antisymm k l
antisymm Lex Mea k l = refl
antisymm Mea Lex k l = refl
antisymm Mea Mea k l = (compare_keys_total Mea).antisymm k l

trans : (s t u : Strategy) (k l m : Key) → under s t (compare_keys s k l) ≡ Less → under t u (compare_keys t l m) ≡ Less → under s u (compare_keys s k m) ≡ Less
trans Lex Lex Lex k l m a b = (compare_keys_total Lex).trans k l m a b
trans Lex Lex Mea k l m a b = refl
trans Lex Mea Lex k l m a b = absurd (greater_not_less b)
trans Lex Mea Mea k l m a b = refl
trans Mea Lex Lex k l m a b = absurd (greater_not_less a)
trans Mea Lex Mea k l m a b = absurd (greater_not_less a)
trans Mea Mea Lex k l m a b = absurd (greater_not_less b)
trans Mea Mea Mea k l m a b = (compare_keys_total Mea).trans k l m a b

congr : (s t u : Strategy) (k l m : Key) → under s t (compare_keys s k l) ≡ Equal → under s u (compare_keys s k m) ≡ under t u (compare_keys t l m)
congr Lex Lex Lex k l m e = (compare_keys_total Lex).congr k l m e
congr Lex Lex Mea k l m e = refl
congr Lex Mea u k l m e = absurd (less_not_equal e)
congr Mea Lex u k l m e = absurd (greater_not_equal e)
congr Mea Mea Lex k l m e = refl
congr Mea Mea Mea k l m e = (compare_keys_total Mea).congr k l m e

compare_by_strategy_total : IsTotalOrder compare_by_strategy
compare_by_strategy_total = record {
  antisymm = λ a b. antisymm a.strategy b.strategy a.key b.key;
  trans = λ a b c. trans a.strategy b.strategy c.strategy a.key b.key c.key;
  congr = λ a b c. congr a.strategy b.strategy c.strategy a.key b.key c.key;
}

pub compare_ranks_total : IsTotalOrder compare_ranks
compare_ranks_total = then_total compare_by_strategy_total (on_total (λ (r : Rank). r.key.first) nat_cmp_total)
