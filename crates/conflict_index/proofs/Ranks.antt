-- Outranking is a strict total order of members with different instantiations, and it is dominance where specificities
-- are kept.
use Rattle.std.proofs.Common.{◌≡◌, ◌≢◌, List, true, false, refl, ap, sym, ◌∙◌}
use Rattle.std.specs.Cmp.Lexicographic.{slice_cmp}
use Rattle.std.specs.declared.cmp.Ordering.{Ordering}
use Rattle.std.specs.declared.cmp.Ordering.TheVariants.{Less, Equal, Greater}
use Rattle.std.specs.Ordering.{nat_cmp, ordering_reverse, is_gt}
use Rattle.std.proofs.lemmas.Cmp.{tied_itself}
use Rattle.std.proofs.lemmas.Map.Lookups.{exact_bytes}
use Rattle.ops_base.specs.declared.commands.Strategy.{Strategy}
use Rattle.ops_base.specs.declared.commands.Strategy.TheVariants.{Lex, Mea}
use Rattle.ops_base.specs.declared.rules.Rule.{Rule}
use Rattle.ops_base.specs.Dominance.{is_greater, dominates, specificity_of}
use Rattle.ops_base.proofs.InstEquality.{same_fields}
use Rattle.ops_base.proofs.InstOrder.{both_equal, equal_numbers}
use Rattle.resolution.specs.Keys.{IsKey, compare_keys, compare_keys_lex}
use Rattle.resolution.proofs.KeyLaws.{compare_keys_total, compare_keys-compare_insts}
use Rattle.conflict_index.specs.Indexed.{Member, key_of, outranks}

abbrev ranks : Strategy → Member → Member → Ordering
ranks strategy m n = compare_keys strategy (key_of m) (key_of n)

is_greater-is_gt : (o : Ordering) → is_gt o ≡ is_greater o
is_greater-is_gt Less = refl
is_greater-is_gt Equal = refl
is_greater-is_gt Greater = refl

-- no member outranks itself
pub outranks_itself : (strategy : Strategy) (m : Member) → outranks strategy m m ≡ false
outranks_itself strategy m = ap is_greater (tied_itself (compare_keys_total strategy) (key_of m))

tied_by_lex : (m n : Member) → compare_keys_lex (key_of m) (key_of n) ≡ Equal → m.inst ≡ n.inst
tied_by_lex m n e =
    let a = both_equal (slice_cmp nat_cmp (key_of m).sorted (key_of n).sorted) _ e in
    let b = both_equal (nat_cmp m.specificity n.specificity) _ a.1 in
    let c = both_equal (nat_cmp n.inst.rule m.inst.rule) (slice_cmp nat_cmp m.inst.tags n.inst.tags) b.1 in
    same_fields m.inst n.inst (sym (equal_numbers n.inst.rule m.inst.rule c.0)) (exact_bytes m.inst.tags n.inst.tags c.1)

tied_are_same : (strategy : Strategy) (m n : Member) → ranks strategy m n ≡ Equal → m.inst ≡ n.inst
tied_are_same Lex m n e = tied_by_lex m n e
tied_are_same Mea m n e =
    tied_by_lex m n (both_equal (nat_cmp (key_of m).first (key_of n).first) (compare_keys_lex (key_of m) (key_of n)) e).1

-- of two with different instantiations, the one that the other does not outrank outranks the other
pub other_outranks : (strategy : Strategy) (m n : Member) → outranks strategy m n ≡ false → m.inst ≢ n.inst → outranks strategy n m ≡ true
other_outranks strategy m n f differ = by_order (ranks strategy m n) refl f
  where
    by_order : (o : Ordering) → ranks strategy m n ≡ o → is_greater o ≡ false → outranks strategy n m ≡ true
    by_order Less e f =
        ap is_greater ((compare_keys_total strategy).antisymm (key_of n) (key_of m) ∙ ap ordering_reverse e)
    by_order Equal e f = absurd (differ (tied_are_same strategy m n e))
    by_order Greater e f = cc

-- a member that is kept with the specificity of its production has the key of its instantiation
key_is : (rules : List Rule) (m : Member) → m.specificity ≡ specificity_of rules m.inst.rule → IsKey rules m.inst (key_of m)
key_is rules m e =
    record { first_is = refl; sorted_is = refl; specificity_is = e; rule_is = refl; tags_is = refl }

-- where specificities are kept, outranking is dominance
pub outranks-dominates : (strategy : Strategy) (rules : List Rule) (m n : Member) → m.specificity ≡ specificity_of rules m.inst.rule → n.specificity ≡ specificity_of rules n.inst.rule
    → outranks strategy m n ≡ dominates strategy rules m.inst n.inst
outranks-dominates strategy rules m n a b =
    ap is_greater (compare_keys-compare_insts strategy rules m.inst n.inst (key_of m) (key_of n) (key_is rules m a) (key_is rules n b))
