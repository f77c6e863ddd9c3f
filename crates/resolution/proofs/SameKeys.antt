-- Keys that have the same parts are equal, and the other way round.
use Rattle.std.proofs.Common.{◌≡◌, ap, sym, nat_eq}
use Rattle.std.specs.Bool.{Decides}
use Rattle.std.specs.Cmp.Lexicographic.{slice_cmp}
use Rattle.std.specs.declared.cmp.Ordering.TheVariants.{Equal}
use Rattle.std.specs.Ordering.{nat_cmp}
use Rattle.std.proofs.lemmas.Bool.Decides.{Decides-and, Decides-like, Decides-eqb}
use Rattle.std.proofs.lemmas.Map.Lookups.{exact_bytes}
use Rattle.std.proofs.lemmas.Slice.Eq.{bytes_eq-Decides}
use Rattle.ops_base.specs.declared.commands.Strategy.{Strategy}
use Rattle.ops_base.specs.declared.commands.Strategy.TheVariants.{Lex, Mea}
use Rattle.ops_base.proofs.InstOrder.{both_equal, equal_numbers}
use Rattle.resolution.specs.Keys.{Key, compare_keys, compare_keys_lex, compare_keys_production, same_keys}

pub same_parts : (a b : Key) → a.first ≡ b.first → a.sorted ≡ b.sorted → a.specificity ≡ b.specificity → a.rule ≡ b.rule → a.tags ≡ b.tags → a ≡ b
same_parts a b p q r s t = λ k. record { first = p k; sorted = q k; specificity = r k; rule = s k; tags = t k }

-- The test of two keys is true exactly where they are equal.
pub same_keys-Decides : (a b : Key) → Decides (same_keys a b) (a ≡ b)
same_keys-Decides a b =
    Decides-like (same_keys a b) (λ h. same_parts a b h.1.1.0 h.1.1.1.0 h.1.0 h.0 h.1.1.1.1)
    (λ e. (ap (λ (k : Key). k.rule) e, (ap (λ (k : Key). k.specificity) e, (ap (λ (k : Key). k.first) e, (ap (λ (k : Key). k.sorted) e, ap (λ (k : Key). k.tags) e)))))
    (Decides-and (nat_eq a.rule b.rule) _ (Decides-eqb a.rule b.rule)
    (Decides-and (nat_eq a.specificity b.specificity) _ (Decides-eqb a.specificity b.specificity)
    (Decides-and (nat_eq a.first b.first) _ (Decides-eqb a.first b.first)
    (Decides-and _ _ (bytes_eq-Decides a.sorted b.sorted) (bytes_eq-Decides a.tags b.tags)))))

-- what is left of two keys that LEX finds equal
pub record AreTied (a b : Key) : Type 0 where
  pub sorted : a.sorted ≡ b.sorted
  pub specificity : a.specificity ≡ b.specificity
  pub rule : a.rule ≡ b.rule
  pub tags : a.tags ≡ b.tags

tied_by_lex : (a b : Key) → compare_keys_lex a b ≡ Equal → AreTied a b
tied_by_lex a b e =
    let q = both_equal (slice_cmp nat_cmp a.sorted b.sorted) (compare_keys_production a b) e in
    let r = both_equal (nat_cmp a.specificity b.specificity) _ q.1 in
    let s = both_equal (nat_cmp b.rule a.rule) (slice_cmp nat_cmp a.tags b.tags) r.1 in
    record {
      sorted = exact_bytes a.sorted b.sorted q.0;
      specificity = equal_numbers a.specificity b.specificity r.0;
      rule = sym (equal_numbers b.rule a.rule s.0);
      tags = exact_bytes a.tags b.tags s.1;
    }

-- Keys that either strategy finds equal differ in the first tag at most.
pub tied_keys : (strategy : Strategy) (a b : Key) → compare_keys strategy a b ≡ Equal → AreTied a b
tied_keys Lex a b e = tied_by_lex a b e
tied_keys Mea a b e = tied_by_lex a b (both_equal (nat_cmp a.first b.first) (compare_keys_lex a b) e).1
