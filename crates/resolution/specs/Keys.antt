-- Which key an instantiation has, and how keys compare.
use Rattle.std.specs.Prelude.{◌≡◌, ℕ, ◌/◌, List, Bool, nat_eq, length, take, drop, slice_get}
use Rattle.std.specs.Option.{unwrap_or}
use Rattle.std.specs.declared.cmp.Ordering.{Ordering}
use Rattle.std.specs.Ordering.{nat_cmp, ordering_then, on, eq_of_both}
use Rattle.std.specs.Cmp.Lexicographic.{slice_cmp, pointwise}
use Rattle.ops_base.specs.declared.commands.Strategy.{Strategy}
use Rattle.ops_base.specs.declared.commands.Strategy.TheVariants.{Lex, Mea}
use Rattle.ops_base.specs.declared.rules.Inst.{Inst}
use Rattle.ops_base.specs.declared.rules.Rule.{Rule}
use Rattle.ops_base.specs.Dominance.{downwards, specificity_of, first_tag}

-- what decides between instantiations
pub record Key : Type 0 where
  -- the tag of the first condition
  pub first : ℕ
  -- the tags from the greatest down
  pub sorted : List ℕ
  pub specificity : ℕ
  -- the number of the production, from 0 in the order of the text
  pub rule : ℕ
  -- the tags in the order of the conditions
  pub tags : List ℕ

-- the two halves of a list
abbrev pub front_half : List ℕ → List ℕ
front_half xs = take (length xs / 2) xs

abbrev pub back_half : List ℕ → List ℕ
back_half xs = drop (length xs / 2) xs

-- the key of a production, from the tags downwards and after them the tags as they stand
abbrev pub key_from : List ℕ → ℕ → ℕ → Key
key_from numbers rule specificity = record {
  first = unwrap_or (slice_get (back_half numbers) 0) 0;
  sorted = front_half numbers;
  specificity = specificity;
  rule = rule;
  tags = back_half numbers;
}

-- the tag that a strategy compares before all others, and 0 where there is none
abbrev pub top_of : Strategy → Key → ℕ
top_of Lex k = unwrap_or (slice_get k.sorted 0) 0
top_of Mea k = k.first

-- the key has what decides between the instantiation and others
pub record IsKey (rules : List Rule) (i : Inst) (k : Key) : Type 0 where
  pub first_is : k.first ≡ first_tag i
  pub sorted_is : k.sorted ≡ downwards i.tags
  pub specificity_is : k.specificity ≡ specificity_of rules i.rule
  pub rule_is : k.rule ≡ i.rule
  pub tags_is : k.tags ≡ i.tags

-- what decides between keys with the same tags from the greatest down
abbrev pub compare_keys_production : Key → Key → Ordering
compare_keys_production a b =
    ordering_then (nat_cmp a.specificity b.specificity)
    (ordering_then (nat_cmp b.rule a.rule) (slice_cmp nat_cmp a.tags b.tags))

abbrev pub compare_keys_lex : Key → Key → Ordering
compare_keys_lex a b = ordering_then (slice_cmp nat_cmp a.sorted b.sorted) (compare_keys_production a b)

-- keys compare as the instantiations that they are of
abbrev pub compare_keys : Strategy → Key → Key → Ordering
compare_keys Lex a b = compare_keys_lex a b
compare_keys Mea a b = ordering_then (nat_cmp a.first b.first) (compare_keys_lex a b)

-- the two keys have the same parts
abbrev pub same_keys : Key → Key → Bool
same_keys =
    eq_of_both (on (λ k. k.rule) nat_eq) (eq_of_both (on (λ k. k.specificity) nat_eq) (eq_of_both (on (λ k. k.first) nat_eq)
    (eq_of_both (on (λ k. k.sorted) (pointwise nat_eq)) (on (λ k. k.tags) (pointwise nat_eq)))))
