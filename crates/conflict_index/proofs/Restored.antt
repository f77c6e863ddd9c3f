-- The marks of an index in order, and the members of one that is made anew with marks.
use Rattle.std.proofs.Common.{◌≡◌, ◌≢◌, ℕ, ◌+◌, List, [], ◌∷◌, ◌++◌, map, get_or, Bool, true, false, cond, refl, ap, sym, ◌∙◌, subst, inl, inr, arith}
use Rattle.std.specs.Prelude.{Contains, filter}
use Rattle.std.specs.declared.cmp.Ordering.{Ordering}
use Rattle.std.specs.declared.cmp.Ordering.TheVariants.{Less, Equal, Greater}
use Rattle.std.specs.List.{IsDistinct}
use Rattle.std.specs.List.Sorted.{IsStrictlySortedBy, IsSorted, IsPermutation}
use Rattle.std.specs.Map.{keys_of}
use Rattle.std.specs.Ordering.{is_lt, ordering_reverse}
use Rattle.std.proofs.lemmas.Bool.{false≢true}
use Rattle.std.proofs.lemmas.List.Elements.{recursion_from_All}
use Rattle.std.proofs.lemmas.List.Sorted.{Contains-permutation, IsPermutation-sym}
use Rattle.std.proofs.lemmas.Map.Keys.{IsDistinct-IsPermutation, apart_from_distinct, sorted_from_all_adjacent}
use Rattle.ops_base.specs.declared.commands.Strategy.{Strategy}
use Rattle.ops_base.specs.declared.rules.Inst.{Inst}
use Rattle.ops_base.specs.declared.rules.Rule.{Rule}
use Rattle.ops_base.specs.Dominance.{specificity_of}
use Rattle.ops_base.specs.Instances.{Before, by_rule_and_tags, IsInOrder}
use Rattle.ops_base.specs.Refraction.{is_same_inst, is_among, still_fired}
use Rattle.ops_base.proofs.Filtered.{filter_member, member-filter, all_before-filter}
use Rattle.ops_base.proofs.InOrder.{AllBefore, all_before-append, all_before-map, all_pairs_from_before}
use Rattle.ops_base.proofs.InstOrder.{compare_total, less_before, not_both_before, standing}
use Rattle.ops_base.proofs.Members.{IsMember, all_from_members, members_from_each, member_from_contains, contains_from_member, member_left, member_right, member_cases, member-map, map_member}
use Rattle.ops_base.proofs.RefractionLaws.{is_same_inst-Decides}
use Rattle.resolution.specs.Keys.{same_keys}
use Rattle.resolution.proofs.SameKeys.{same_keys-Decides}
use Rattle.conflict_index.specs.Indexed.{Member, insts_of, fired_of, key_with, KeepsSpecificities}
use Rattle.conflict_index.specs.Keeping.{held_member, fired_member, all_members, members_of, Gains, HasSame, IsKept}
use Rattle.conflict_index.specs.Marks.{member_with, members_with}
use Rattle.conflict_index.specs.Ranking.{compare_ranks}
use Rattle.conflict_index.proofs.Dominant.{apart_insts}
use Rattle.conflict_index.proofs.Kept.{Entry, Mark, fired_among, kept_one}
use Rattle.conflict_index.proofs.Members.{MemberBefore, members_in_order}
use Rattle.conflict_index.proofs.Placing.{sorted, in_order_is, in_order_member, member_in_order}
use Rattle.conflict_index.proofs.Restoring.{decided_false}
use Rattle.conflict_index.proofs.Sorted.{same_in_order, entries_before}

abbrev Differ : Member → Member → Type 0
Differ m n = m.inst ≢ n.inst

abbrev inst_of : Member → Inst
inst_of m = m.inst

abbrev is_marked : Member → Bool
is_marked m = m.fired

-- ---- no instantiation stands twice

marks_apart : (strategy : Strategy) (waiting : List Entry) (fired : List Mark) (spare : ℕ) → IsKept strategy waiting fired spare → (ds : List Mark) → ((d : Mark) → IsMember d ds → IsMember d fired)
    → IsDistinct same_keys (keys_of ds) → AllBefore Differ (map fired_member ds)
unfolding IsDistinct
marks_apart strategy waiting fired spare k [] there u = tt
marks_apart strategy waiting fired spare k (d ∷ ds) there u =
    (first, marks_apart strategy waiting fired spare k ds (λ e h. there e (inr h)) u.1)
  where
    first : (n : Member) → IsMember n (map fired_member ds) → d.1 ≢ n.inst
    first n h same =
        let f = map_member fired_member n ds h in
        let e : Mark = f.0 in
        let insts : d.1 ≡ e.1 = same ∙ ap inst_of f.2 in
        let one : fired_member d ≡ fired_member e = kept_one strategy waiting fired spare k (fired_member d) (fired_member e) (fired_among waiting fired d (there d (inl refl))) (fired_among waiting fired e (there e (inr f.1))) insts in
        let keys : d.0 ≡ e.0 =
        k.keyed d (contains_from_member d fired (there d (inl refl))) ∙ ap (λ (m : Member). key_with m.inst m.specificity) one ∙ sym (k.keyed e (contains_from_member e fired (there e (inr f.1)))) in
        let differ : same_keys d.0 e.0 ≡ false = members_from_each (λ q. same_keys d.0 q ≡ false) (keys_of ds) u.0 e.0 (member-map (λ (w : Mark). w.0) e ds f.1) in
        false≢true (sym differ ∙ (same_keys-Decides d.0 e.0).1 keys)

all_apart : (strategy : Strategy) (waiting : List Entry) (fired : List Mark) (spare : ℕ) → IsKept strategy waiting fired spare → AllBefore Differ (all_members waiting fired)
all_apart strategy waiting fired spare k =
    all_before-append Differ (map held_member waiting) (map fired_member fired)
    (apart_insts strategy waiting fired spare k waiting (λ e h. h) (entries_before compare_ranks waiting k.ordered))
    (marks_apart strategy waiting fired spare k fired (λ d h. h) k.unique)
    (λ m n h g same.
    let e = map_member held_member m waiting h in
    let d = map_member fired_member n fired g in
    k.apart e.0 d.0 (contains_from_member e.0 waiting e.1) (contains_from_member d.0 fired d.1) (sym (ap inst_of e.2) ∙ same ∙ ap inst_of d.2))

distinct_insts : (members : List Member) → AllBefore Differ members → IsDistinct is_same_inst (insts_of members)
unfolding IsDistinct
distinct_insts [] a = tt
distinct_insts (m ∷ members) a = (
  recursion_from_All (λ j. is_same_inst m.inst j ≡ false) (insts_of members) (all_from_members (λ j. is_same_inst m.inst j ≡ false) (insts_of members) (λ j h.
      let f = map_member inst_of j members h in
      decided_false (is_same_inst m.inst j) (m.inst ≡ j) (is_same_inst-Decides m.inst j) (λ e. a.0 f.0 f.1 (e ∙ f.2)))),
  distinct_insts members a.1,
)

-- ---- sorted, each once

flips : (i j : Inst) → is_same_inst i j ≡ is_same_inst j i
flips i j = by_test (is_same_inst i j) (is_same_inst j i) refl refl
  where
    by_test : (a b : Bool) → is_same_inst i j ≡ a → is_same_inst j i ≡ b → a ≡ b
    by_test true true e f = refl
    by_test false false e f = refl
    by_test true false e f =
        absurd (false≢true (sym f ∙ (is_same_inst-Decides j i).1 (sym ((is_same_inst-Decides i j).0 e))))
    by_test false true e f =
        absurd (false≢true (sym e ∙ (is_same_inst-Decides i j).1 (sym ((is_same_inst-Decides j i).0 f))))

less_of : (i j : Inst) → is_lt (by_rule_and_tags j i) ≡ false → is_same_inst i j ≡ false → by_rule_and_tags i j ≡ Less
less_of i j up differ = by_order (by_rule_and_tags i j) refl
  where
    by_order : (o : Ordering) → by_rule_and_tags i j ≡ o → o ≡ Less
    by_order Less e = refl
    by_order Equal e =
        absurd (false≢true (sym differ ∙ (is_same_inst-Decides i j).1 (standing i j Equal (sym e))))
    by_order Greater e =
        absurd (false≢true (sym up ∙ ap is_lt (compare_total.antisymm j i ∙ ap ordering_reverse e)))

no_inst : Inst
no_inst = record { rule = 0; tags = [] }

before_each : (insts : List Inst) → IsStrictlySortedBy by_rule_and_tags insts → AllBefore Before insts
unfolding IsStrictlySortedBy
before_each [] h = tt
before_each (i ∷ insts) h = (
  λ j m. less_before i j (members_from_each (λ w. by_rule_and_tags i w ≡ Less) insts h.0 j m),
  before_each insts h.1,
)

in_order_from_sorted : (insts : List Inst) → IsSorted by_rule_and_tags insts → IsDistinct is_same_inst insts → AllBefore Before insts
in_order_from_sorted insts s u =
    before_each insts (sorted_from_all_adjacent compare_total insts no_inst (λ k h.
    less_of (get_or insts k no_inst) (get_or insts (k + 1) no_inst) (s k no_inst (omega arith) h) (apart_from_distinct is_same_inst insts k (k + 1) no_inst u (omega arith) h)))

-- ---- the marks

fired_there : (strategy : Strategy) (waiting : List Entry) (fired : List Mark) (spare : ℕ) → IsKept strategy waiting fired spare → (i : Inst) → IsMember i (fired_of (all_members waiting fired)) → IsMember i (fired_of (members_of waiting fired))
fired_there strategy waiting fired spare k i h =
    let f = map_member inst_of i (filter is_marked (all_members waiting fired)) h in
    let g = filter_member is_marked f.0 (all_members waiting fired) f.1 in
    let P : Inst → Type 0 = λ j. IsMember j (fired_of (members_of waiting fired)) in
    subst P (sym f.2)
    (member-map inst_of f.0 (filter is_marked (members_of waiting fired))
    (member-filter is_marked f.0 (members_of waiting fired) (member_in_order f.0 (all_members waiting fired) (kept_one strategy waiting fired spare k) g.0) g.1))

fired_here : (waiting : List Entry) (fired : List Mark) (i : Inst) → IsMember i (fired_of (members_of waiting fired)) → IsMember i (fired_of (all_members waiting fired))
fired_here waiting fired i h =
    let f = map_member inst_of i (filter is_marked (members_of waiting fired)) h in
    let g = filter_member is_marked f.0 (members_of waiting fired) f.1 in
    let P : Inst → Type 0 = λ j. IsMember j (fired_of (all_members waiting fired)) in
    subst P (sym f.2)
    (member-map inst_of f.0 (filter is_marked (all_members waiting fired))
    (member-filter is_marked f.0 (all_members waiting fired) (in_order_member f.0 (all_members waiting fired) g.0) g.1))

distinct_marks : (strategy : Strategy) (waiting : List Entry) (fired : List Mark) (spare : ℕ) → IsKept strategy waiting fired spare → (copies marks : List Inst) → copies ≡ fired_of (all_members waiting fired) → IsPermutation copies marks
    → IsDistinct is_same_inst marks
distinct_marks strategy waiting fired spare k copies marks are p =
    let P : List Inst → Type 0 = IsDistinct is_same_inst in
    IsDistinct-IsPermutation is_same_inst flips copies marks p
    (subst P (sym are) (distinct_insts (filter is_marked (all_members waiting fired)) (all_before-filter Differ is_marked (all_members waiting fired) (all_apart strategy waiting fired spare k))))

pub marks_in_order : (strategy : Strategy) (waiting : List Entry) (fired : List Mark) (spare : ℕ) → IsKept strategy waiting fired spare → (copies marks : List Inst) → copies ≡ fired_of (all_members waiting fired) → IsPermutation copies marks
    → IsSorted by_rule_and_tags marks → IsInOrder marks
marks_in_order strategy waiting fired spare k copies marks are p s =
    all_pairs_from_before Before marks (in_order_from_sorted marks s (distinct_marks strategy waiting fired spare k copies marks are p))

-- the marked ones of both maps, sorted, are the marks
pub marks_are : (strategy : Strategy) (waiting : List Entry) (fired : List Mark) (spare : ℕ) → IsKept strategy waiting fired spare → (copies marks : List Inst) → copies ≡ fired_of (all_members waiting fired) → IsPermutation copies marks
    → IsSorted by_rule_and_tags marks → marks ≡ fired_of (members_of waiting fired)
marks_are strategy waiting fired spare k copies marks are p s =
    same_in_order Before not_both_before marks (fired_of (members_of waiting fired)) (in_order_from_sorted marks s (distinct_marks strategy waiting fired spare k copies marks are p))
    (all_before-map MemberBefore Before inst_of (filter is_marked (members_of waiting fired)) (λ m n b. b)
    (all_before-filter MemberBefore is_marked (members_of waiting fired) (sorted (all_members waiting fired))))
    (λ i h. fired_there strategy waiting fired spare k i (subst (IsMember i) are (member_from_contains i copies (Contains-permutation marks copies i (IsPermutation-sym copies marks p) (contains_from_member i marks h)))))
    (λ i h. member_from_contains i marks (Contains-permutation copies marks i p (contains_from_member i copies (subst (IsMember i) (sym are) (fired_here waiting fired i h)))))

-- ---- made anew

-- maps that have these members, in order, have them as their view
pub view_is : (strategy : Strategy) (waiting : List Entry) (fired : List Mark) (spare : ℕ) → IsKept strategy waiting fired spare → (members : List Member) → IsInOrder (insts_of members) → HasSame members (all_members waiting fired)
    → members_of waiting fired ≡ members
view_is strategy waiting fired spare k members o s =
    in_order_is (all_members waiting fired) members (kept_one strategy waiting fired spare k) (members_in_order members o)
    (λ m h. member_from_contains m members ((s m).0 (contains_from_member m (all_members waiting fired) h)))
    (λ m h. member_from_contains m (all_members waiting fired) ((s m).1 (contains_from_member m members h)))

pub with_insts : (rules : List Rule) (marks come : List Inst) → insts_of (members_with rules marks come) ≡ come
with_insts rules marks [] = refl
with_insts rules marks (i ∷ come) = ap (λ is. i ∷ is) (with_insts rules marks come)

pub with_fired : (rules : List Rule) (marks come : List Inst) → fired_of (members_with rules marks come) ≡ still_fired come marks
with_fired rules marks [] = refl
with_fired rules marks (i ∷ come) = by_test (is_among marks i) (with_fired rules marks come)
  where
    by_test : (b : Bool) → fired_of (members_with rules marks come) ≡ still_fired come marks
        → insts_of (cond b (member_with rules marks i ∷ filter is_marked (members_with rules marks come)) (filter is_marked (members_with rules marks come)))
        ≡ cond b (i ∷ still_fired come marks) (still_fired come marks)
    by_test true later = ap (λ is. i ∷ is) later
    by_test false later = later

pub with_kept : (rules : List Rule) (marks come : List Inst) → KeepsSpecificities rules (members_with rules marks come)
with_kept rules marks come =
    all_from_members (λ (m : Member). m.specificity ≡ specificity_of rules m.inst.rule) (members_with rules marks come)
    (λ m h.
    let f = map_member (member_with rules marks) m come h in
    let P : Member → Type 0 = λ w. w.specificity ≡ specificity_of rules w.inst.rule in
    subst P (sym f.2) refl)

-- one member more
pub same_more : {X : Type 0} (x y : X) (xs zs old new : List X) → HasSame xs old → Gains (y ∷ []) old new → y ≡ x → zs ≡ xs ++ x ∷ [] → HasSame zs new
same_more {X} x y xs zs old new s g e is z = (
  λ h. (
      let P : List X → Type 0 = λ ws. Contains ws z in
      subst P (sym is) (contains_from_member z (xs ++ x ∷ []) (elim ((g z).0 h) [
        | inl o ↦ member_left z xs (x ∷ []) (member_from_contains z xs ((s z).0 o))
        | inr n ↦ elim (member_from_contains z (y ∷ []) n) [
          | inl f ↦ member_right z xs (x ∷ []) (inl (f ∙ e))
          | inr none ↦ absurd none
        ]
      ]))
      ),
  λ h. (
      let P : List X → Type 0 = λ ws. Contains ws z in
      (g z).1 (elim (member_cases z xs (x ∷ []) (member_from_contains z (xs ++ x ∷ []) (subst P is h))) [
        | inl m ↦ inl ((s z).1 (contains_from_member z xs m))
        | inr m ↦ elim m [
          | inl f ↦ inr (contains_from_member z (y ∷ []) (inl (f ∙ sym e)))
          | inr none ↦ absurd none
        ]
      ])
      ),
)
