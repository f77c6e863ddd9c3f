-- Marks as sets of keys in order.
use Rattle.std.proofs.Common.{◌≡◌, length, arith, List, [], ◌∷◌, ◌++◌, filter, Bool, true, false, cond, not, ◌||◌, refl, ap, sym, ◌∙◌, subst, inl, inr}
use Rattle.std.specs.Bool.{Decides}
use Rattle.std.specs.BTreeMap.{is_at}
use Rattle.std.specs.BTreeSet.{insert_key}
use Rattle.std.specs.Set.{remove_key}
use Rattle.std.specs.List.Sorted.{IsStrictlySortedBy}
use Rattle.std.specs.declared.cmp.Ordering.{Ordering}
use Rattle.std.specs.declared.cmp.Ordering.TheVariants.{Less, Equal, Greater}
use Rattle.std.specs.Ordering.{match_ordering, MatchOrdering}
use Rattle.std.proofs.lemmas.Bool.{false≢true}
use Rattle.ops_base.specs.declared.rules.Inst.{Inst}
use Rattle.ops_base.specs.Instances.{Before, IsInOrder, by_rule_and_tags}
use Rattle.ops_base.specs.Refraction.{is_among, is_same_inst}
use Rattle.ops_base.proofs.Members.{IsMember, members_from_each, member_right}
use Rattle.ops_base.proofs.InOrder.{AllBefore, before_from_all_pairs, all_pairs_from_before}
use Rattle.ops_base.proofs.InstOrder.{standing, less_before, not_both_before, before_differs}
use Rattle.ops_base.proofs.RefractionLaws.{is_same_inst-Decides}
use Rattle.cycle.specs.Standing.{with_inst, without_gone}

-- putting one in at its place
pub insert_is : (i : Inst) (xs : List Inst) → insert_key by_rule_and_tags xs i ≡ with_inst i xs
insert_is i [] = refl
insert_is i (x ∷ xs) = by (by_rule_and_tags i x) (standing i x (by_rule_and_tags i x) refl) (insert_is i xs)
  where
    by : (o : Ordering) → MatchOrdering o (Before i x) (i ≡ x) (Before x i) → insert_key by_rule_and_tags xs i ≡ with_inst i xs
        → match_ordering o (i ∷ x ∷ xs) (x ∷ xs) (x ∷ insert_key by_rule_and_tags xs i) ≡ match_ordering o (i ∷ x ∷ xs) (i ∷ xs) (x ∷ with_inst i xs)
    by Less h later = refl
    by Equal h later = ap (λ w. w ∷ xs) (sym h)
    by Greater h later = ap (λ ws. x ∷ ws) later

-- one that stands behind all
pub with_last : (i : Inst) (xs : List Inst) → ((x : Inst) → IsMember x xs → Before x i) → with_inst i xs ≡ xs ++ i ∷ []
with_last i [] h = refl
with_last i (x ∷ xs) h = by (by_rule_and_tags i x) (standing i x (by_rule_and_tags i x) refl) (with_last i xs (λ y m. h y (inr m)))
  where
    first : Before x i
    first = h x (inl refl)

    by : (o : Ordering) → MatchOrdering o (Before i x) (i ≡ x) (Before x i) → with_inst i xs ≡ xs ++ i ∷ [] → match_ordering o (i ∷ x ∷ xs) (i ∷ xs) (x ∷ with_inst i xs) ≡ x ∷ xs ++ i ∷ []
    by Less k later = absurd (not_both_before i x k first)
    by Equal k later = absurd (before_differs x i first (sym k))
    by Greater k later = ap (λ ws. x ∷ ws) later

-- keys that ascend stand in order
pub sorted_before : (xs : List Inst) → IsStrictlySortedBy by_rule_and_tags xs → AllBefore Before xs
unfolding IsStrictlySortedBy
sorted_before [] h = tt
sorted_before (x ∷ xs) h =
    (λ y m. less_before x y (members_from_each (λ k. by_rule_and_tags x k ≡ Less) xs h.0 y m), sorted_before xs h.1)

pub sorted_in_order : (xs : List Inst) → IsStrictlySortedBy by_rule_and_tags xs → IsInOrder xs
sorted_in_order xs h = all_pairs_from_before Before xs (sorted_before xs h)

-- ---- taking out

abbrev differs : Inst → Inst → Bool
differs g i = not (is_same_inst i g)

-- nothing is taken out where one stands before all
none_out : (g : Inst) (xs : List Inst) → ((x : Inst) → IsMember x xs → Before g x) → filter (differs g) xs ≡ xs
none_out g [] h = refl
none_out g (x ∷ xs) h = by (is_same_inst x g) (is_same_inst-Decides x g) (none_out g xs (λ y m. h y (inr m)))
  where
    by : (b : Bool) → Decides b (x ≡ g) → filter (differs g) xs ≡ xs → cond (not b) (x ∷ filter (differs g) xs) (filter (differs g) xs) ≡ x ∷ xs
    by true d later = absurd (before_differs g x (h x (inl refl)) (sym (d.0 refl)))
    by false d later = ap (λ ws. x ∷ ws) later

at_is : (g x : Inst) (o : Ordering) → MatchOrdering o (Before g x) (g ≡ x) (Before x g) → o ≡ by_rule_and_tags g x → (b : Bool) → Decides b (x ≡ g) → is_at (λ (w : Inst). o) x ≡ b
at_is g x Less h e true d = absurd (before_differs g x h (sym (d.0 refl)))
at_is g x Less h e false d = refl
at_is g x Equal h e true d = refl
at_is g x Equal h e false d = absurd (false≢true (d.1 (sym h)))
at_is g x Greater h e true d = absurd (before_differs x g h (d.0 refl))
at_is g x Greater h e false d = refl

pub remove_is : (g : Inst) (xs : List Inst) → AllBefore Before xs → remove_key (is_at (by_rule_and_tags g)) xs ≡ filter (differs g) xs
remove_is g [] a = refl
remove_is g (x ∷ xs) a =
    ap (λ b. cond b xs (x ∷ remove_key (is_at (by_rule_and_tags g)) xs)) (at_is g x (by_rule_and_tags g x) (standing g x (by_rule_and_tags g x) refl) refl (is_same_inst x g) (is_same_inst-Decides x g))
    ∙ by (is_same_inst x g) (is_same_inst-Decides x g) (remove_is g xs a.1)
  where
    by : (b : Bool) → Decides b (x ≡ g) → remove_key (is_at (by_rule_and_tags g)) xs ≡ filter (differs g) xs
        → cond b xs (x ∷ remove_key (is_at (by_rule_and_tags g)) xs) ≡ cond (not b) (x ∷ filter (differs g) xs) (filter (differs g) xs)
    by true d later = let P : Inst → Type 0 = λ w. (y : Inst) → IsMember y xs → Before w y in sym (none_out g xs (subst P (d.0 refl) a.0))
    by false d later = ap (λ ws. x ∷ ws) later

-- ---- several that are gone

-- what is gone first is taken out first
pub first_gone : (g : Inst) (rest xs : List Inst) → without_gone rest (filter (differs g) xs) ≡ without_gone (g ∷ rest) xs
first_gone g rest [] = refl
first_gone g rest (x ∷ xs) = by (is_same_inst x g) (first_gone g rest xs)
  where
    by : (b : Bool) → without_gone rest (filter (differs g) xs) ≡ without_gone (g ∷ rest) xs
        → without_gone rest (cond (not b) (x ∷ filter (differs g) xs) (filter (differs g) xs)) ≡ cond (not (b || is_among rest x)) (x ∷ without_gone (g ∷ rest) xs) (without_gone (g ∷ rest) xs)
    by true later = later
    by false later = ap (λ ws. cond (not (is_among rest x)) (x ∷ ws) ws) later

pub none_gone : (xs : List Inst) → xs ≡ without_gone [] xs
none_gone [] = refl
none_gone (x ∷ xs) = ap (λ ws. x ∷ ws) (none_gone xs)

-- ---- items in order

-- each stands before those behind it
pub stands_behind : (ys : List Inst) (i : Inst) (rest : List Inst) → AllBefore Before (ys ++ i ∷ rest) → (y : Inst) → IsMember y ys → Before y i
stands_behind [] i rest a y m = absurd m
stands_behind (z ∷ ys) i rest a y (inl e) =
    let P : Inst → Type 0 = λ w. Before w i in subst P (sym e) (a.0 i (member_right i ys (i ∷ rest) (inl refl)))
stands_behind (z ∷ ys) i rest a y (inr m) = stands_behind ys i rest a.1 y m

pub put_next : (ys : List Inst) (i : Inst) (rest all : List Inst) → ys ++ i ∷ rest ≡ all → IsInOrder all → with_inst i ys ≡ ys ++ i ∷ []
put_next ys i rest all is order =
    let P : List Inst → Type 0 = AllBefore Before in
    with_last i ys (stands_behind ys i rest (subst P (sym is) (before_from_all_pairs Before all order)))

pub no_items : {X : Type 0} (xs : List X) → length xs ≡ 0 → xs ≡ []
no_items [] e = refl
no_items (x ∷ xs) e = absurd (omega (arith, e))

-- what is gone need not be marked first
pub marked_in_vain : (gone : List Inst) (i : Inst) (xs : List Inst) → is_among gone i ≡ true → without_gone gone xs ≡ without_gone gone (with_inst i xs)
marked_in_vain gone i [] e = ap (λ b. cond (not b) (i ∷ []) []) (sym e)
marked_in_vain gone i (x ∷ xs) e = by (by_rule_and_tags i x) (standing i x (by_rule_and_tags i x) refl) (marked_in_vain gone i xs e)
  where
    by : (o : Ordering) → MatchOrdering o (Before i x) (i ≡ x) (Before x i) → without_gone gone xs ≡ without_gone gone (with_inst i xs)
        → without_gone gone (x ∷ xs) ≡ without_gone gone (match_ordering o (i ∷ x ∷ xs) (i ∷ xs) (x ∷ with_inst i xs))
    by Less h later = ap (λ b. cond (not b) (i ∷ without_gone gone (x ∷ xs)) (without_gone gone (x ∷ xs))) (sym e)
    by Equal h later = ap (λ w. without_gone gone (w ∷ xs)) (sym h)
    by Greater h later = ap (λ ws. cond (not (is_among gone x)) (x ∷ ws) ws) later
