-- The matches that the walk finds stand in the order of their tags.
use Rattle.std.proofs.Common.{◌≡◌, ℕ, suc, ◌+◌, ◌<◌, List, [], ◌∷◌, ◌++◌, map, length, Bool, true, false, cond, not, Option, Some, None, refl, ap, sym, ◌∙◌, subst, inl, inr, arith, length-append}
use Rattle.std.proofs.lemmas.List.{append-nil}
use Rattle.std.proofs.lemmas.Cmp.{ranked}
use Rattle.std.proofs.lemmas.Map.Keys.{sorted_from_strictly_increasing}
use Rattle.std.specs.declared.cmp.Ordering.TheVariants.{Less}
use Rattle.std.specs.Ordering.{nat_cmp}
use Rattle.std.proofs.lemmas.List.Elements.{recursion_from_All}
use Rattle.std.proofs.lemmas.List.Kept.{AllPairs-cons}
use Rattle.std.specs.List.{flat_map, All, AllPairs, AllByRecursion}
use Rattle.std.specs.List.Sorted.{IsStrictlySortedBy}
use Rattle.ops_base.specs.declared.elements.Element.{Element}
use Rattle.ops_base.specs.declared.conditions.Condition.{Condition}
use Rattle.ops_base.specs.declared.conditions.Part.{Part}
use Rattle.ops_base.specs.declared.conditions.Part.TheVariants.{One, Group}
use Rattle.ops_base.specs.declared.direct.Partial.{Partial}
use Rattle.ops_base.specs.declared.matching.Binding.{Binding}
use Rattle.ops_base.specs.Matching.{match_of}
use Rattle.ops_base.specs.WorkingMemory.{tags_of, HasRisingTags}
use Rattle.ops_base.specs.ConflictSet.{lengthened, extended, some_meets, at_condition, at_part, some_extend, walk, empty_partial, matches_of}
use Rattle.ops_base.specs.Instances.{TagsBefore}
use Rattle.ops_base.proofs.Members.{IsMember, member_cases, flat_map_member, map_member, all_from_members, members_from_each}
use Rattle.ops_base.proofs.WalkFinds.{lengthened_is, negated_is}

-- each item is before all that follow it
abbrev pub AllBefore : {X : Type 0} → (X → X → Type 0) → List X → Type 0
AllBefore R [] = Unit {0}
AllBefore {X} R (x ∷ xs) = ((y : X) → IsMember y xs → R x y) × AllBefore R xs

-- two lists in order, the first before the second, are in order when joined
pub all_before-append : {X : Type 0} (R : X → X → Type 0) (xs ys : List X) → AllBefore R xs → AllBefore R ys → ((x y : X) → IsMember x xs → IsMember y ys → R x y) → AllBefore R (xs ++ ys)
all_before-append R [] ys a b h = b
all_before-append R (x ∷ xs) ys a b h = (
  λ y m. elim (member_cases y xs ys m) [ inl l ↦ a.0 y l | inr r ↦ h x y (inl refl) r ],
  all_before-append R xs ys a.1 b (λ z y l r. h z y (inr l) r),
)

-- what items in order give, each in order and the earlier item's before the later one's, is in order
pub all_before-flat_map : {X Y : Type 0} (S : X → X → Type 0) (R : Y → Y → Type 0) (f : X → List Y) (xs : List X)
    → AllBefore S xs → ((x : X) → IsMember x xs → AllBefore R (f x))
    → ((x z : X) → IsMember x xs → IsMember z xs → S x z → (y w : Y) → IsMember y (f x) → IsMember w (f z) → R y w)
    → AllBefore R (flat_map f xs)
all_before-flat_map S R f [] a b h = tt
all_before-flat_map S R f (x ∷ xs) a b h =
    all_before-append R (f x) (flat_map f xs) (b x (inl refl))
    (all_before-flat_map S R f xs a.1 (λ z m. b z (inr m)) (λ u v l m. h u v (inr l) (inr m)))
    (λ y w l r. let g = flat_map_member f w xs r in h x g.0 (inl refl) (inr g.1) (a.0 g.0 g.1) y w l g.2)

-- images are in order where their originals are
pub all_before-map : {X Y : Type 0} (S : X → X → Type 0) (R : Y → Y → Type 0) (f : X → Y) (xs : List X) → ((x z : X) → S x z → R (f x) (f z)) → AllBefore S xs → AllBefore R (map f xs)
all_before-map S R f [] h a = tt
all_before-map {X} {Y} S R f (x ∷ xs) h a = (
  λ y m. (let g = map_member f y xs m in let P : Y → Type 0 = R (f x) in subst P (sym g.2) (h x g.0 (a.0 g.0 g.1))),
  all_before-map S R f xs h a.1,
)

-- items in order are in order at each two places
pub all_pairs_from_before : {X : Type 0} (R : X → X → Type 0) (xs : List X) → AllBefore R xs → AllPairs R xs
all_pairs_from_before R [] a = λ i j d l h. absurd (omega arith)
all_pairs_from_before R (x ∷ xs) a =
    AllPairs-cons R x xs (all_from_members (R x) xs a.0) (all_pairs_from_before R xs a.1)

-- items that are in order at each two places are in order
pub before_from_all_pairs : {X : Type 0} (R : X → X → Type 0) (xs : List X) → AllPairs R xs → AllBefore R xs
before_from_all_pairs R [] a = tt
before_from_all_pairs {X} R (x ∷ xs) a =
    let head : All (R x) xs = λ k d h. a 0 (suc k) d (omega arith) (omega arith) in
    let tail : AllPairs R xs = λ i j d l h. a (suc i) (suc j) d (omega arith) (omega arith) in
    (members_from_each (R x) xs (recursion_from_All (R x) xs head), before_from_all_pairs R xs tail)

-- the element stands before the other by its tag
abbrev pub TagBelow : Element → Element → Type 0
TagBelow e f = e.tag < f.tag

-- a number below each tag, by the comparison of numbers, is below each tag
below_each : (x : ℕ) (wm : List Element) → AllByRecursion (λ y. nat_cmp x y ≡ Less) (tags_of wm) → (e : Element) → IsMember e wm → x < e.tag
below_each x [] h e m = absurd m
below_each x (f ∷ wm) h e (inl is) =
    let P : Element → Type 0 = λ w. x < w.tag in subst P (sym is) (ranked x f.tag Less (sym h.0))
below_each x (f ∷ wm) h e (inr m) = below_each x wm h.1 e m

sorted_in_order : (wm : List Element) → IsStrictlySortedBy nat_cmp (tags_of wm) → AllBefore TagBelow wm
unfolding IsStrictlySortedBy
sorted_in_order [] h = tt
sorted_in_order (e ∷ wm) h = (below_each e.tag wm h.0, sorted_in_order wm h.1)

-- working memory stands in the order of its tags
pub tags_in_order : (wm : List Element) → HasRisingTags wm → AllBefore TagBelow wm
tags_in_order wm h = sorted_in_order wm (sorted_from_strictly_increasing (tags_of wm) h)

-- the tags of the one stand before those of the other
abbrev pub PartialBefore : Partial → Partial → Type 0
PartialBefore p q = TagsBefore p.tags q.tags

-- what stands after lists of one length does not change their order
pub tags_before-append : (xs ys f g : List ℕ) → length xs ≡ length ys → TagsBefore xs ys → TagsBefore (xs ++ f) (ys ++ g)
tags_before-append [] [] f g e h = absurd h
tags_before-append [] (y ∷ ys) f g e h = absurd (omega arith)
tags_before-append (x ∷ xs) [] f g e h = absurd h
tags_before-append (x ∷ xs) (y ∷ ys) f g e (inl h) = inl h
tags_before-append (x ∷ xs) (y ∷ ys) f g e (inr h) = inr (h.0, tags_before-append xs ys f g (omega arith) h.1)

-- the same beginning does not change an order
pub tags_before-prefix : (xs f g : List ℕ) → TagsBefore f g → TagsBefore (xs ++ f) (xs ++ g)
tags_before-prefix [] f g h = h
tags_before-prefix (x ∷ xs) f g h = inr (refl, tags_before-prefix xs f g h)

-- how many tags a partial match has after the condition
abbrev grown : Bool → ℕ → ℕ
grown negated n = cond negated n (n + 1)

-- an instantiation has no tag for this part
abbrev takes_no_tag : Part → Bool
takes_no_tag (One c) = c.negated
takes_no_tag (Group cs) = true

abbrev pub AllLong : ℕ → List Partial → Type 0
AllLong n ps = (p : Partial) → IsMember p ps → length p.tags ≡ n

-- a step adds tags at the end, as many for each partial match
pub record Added (part : Part) (p q : Partial) : Type 0 where
  pub front : List ℕ
  pub tags : q.tags ≡ p.tags ++ front
  pub long : length q.tags ≡ grown (takes_no_tag part) (length p.tags)

added_is : (wm : List Element) (part : Part) (p q : Partial) → IsMember q (at_part wm part p) → Added part p q
added_is wm (Group cs) p q m =
    let e = ap (λ (w : Partial). w.tags) (negated_is p q (some_extend wm cs p.bindings) m).1 in
    record { front = []; tags = e ∙ sym (append-nil p.tags); long = ap length e }
added_is wm (One c) p q m = let r = by_sign c.negated m in record { front = r.0; tags = r.1; long = r.2 }
  where
    by_sign : (b : Bool)
        → IsMember q (cond b (cond (not (some_meets wm c p.bindings)) (p ∷ []) []) (flat_map (extended c p) wm))
        → (front : List ℕ) × (q.tags ≡ p.tags ++ front) × (length q.tags ≡ grown b (length p.tags))
    by_sign true m =
        let e = ap (λ (w : Partial). w.tags) (negated_is p q (some_meets wm c p.bindings) m).1 in
        ([], e ∙ sym (append-nil p.tags), ap length e)
    by_sign false m =
        let f = flat_map_member (extended c p) q wm m in
        let e = (lengthened_is p q f.0.tag (match_of c f.0 p.bindings) f.2).1 in
        (f.0.tag ∷ [], e, ap length e ∙ length-append p.tags (f.0.tag ∷ []))

-- what one element gives is one partial match at most
lengthened_in_order : (p : Partial) (tag : ℕ) (o : Option (List Binding)) → AllBefore PartialBefore (lengthened p tag o)
lengthened_in_order p tag None = tt
lengthened_in_order p tag (Some b) = (λ q m. absurd m, tt)

kept_in_order : (p : Partial) (some : Bool) → AllBefore PartialBefore (cond (not some) (p ∷ []) [])
kept_in_order p true = tt
kept_in_order p false = (λ q m. absurd m, tt)

-- what one partial match gives at one part is in order
step_in_order : (wm : List Element) (part : Part) (p : Partial) → HasRisingTags wm → AllBefore PartialBefore (at_part wm part p)
step_in_order wm (Group cs) p h = kept_in_order p (some_extend wm cs p.bindings)
step_in_order wm (One c) p h = by_sign c.negated
  where
    by_sign : (b : Bool) → AllBefore PartialBefore (cond b (cond (not (some_meets wm c p.bindings)) (p ∷ []) []) (flat_map (extended c p) wm))
    by_sign true = kept_in_order p (some_meets wm c p.bindings)
    by_sign false =
        all_before-flat_map TagBelow PartialBefore (extended c p) wm (tags_in_order wm h)
        (λ e m. lengthened_in_order p e.tag (match_of c e p.bindings))
        (λ e f me mf below q r mq mr.
        let a = (lengthened_is p q e.tag (match_of c e p.bindings) mq).1 in
        let b = (lengthened_is p r f.tag (match_of c f p.bindings) mr).1 in
        let P : List ℕ → Type 0 = λ w. TagsBefore w r.tags in
        let Q : List ℕ → Type 0 = TagsBefore (p.tags ++ e.tag ∷ []) in
        subst P (sym a) (subst Q (sym b) (tags_before-prefix p.tags (e.tag ∷ []) (f.tag ∷ []) (inl below))))

-- partial matches of one length in order give partial matches in order
pub part_in_order : (wm : List Element) (c : Part) (ps : List Partial) (n : ℕ) → HasRisingTags wm → AllLong n ps → AllBefore PartialBefore ps → AllBefore PartialBefore (flat_map (at_part wm c) ps)
part_in_order wm c ps n h long a =
    all_before-flat_map PartialBefore PartialBefore (at_part wm c) ps a (λ p m. step_in_order wm c p h)
    (λ p r mp mr before q s mq ms.
    let e = added_is wm c p q mq in
    let f = added_is wm c r s ms in
    let P : List ℕ → Type 0 = λ w. TagsBefore w s.tags in
    let Q : List ℕ → Type 0 = TagsBefore (p.tags ++ e.front) in
    subst P (sym e.tags) (subst Q (sym f.tags) (tags_before-append p.tags r.tags e.front f.front (long p mp ∙ sym (long r mr)) before)))

-- partial matches of one length give partial matches of one length
pub part_long : (wm : List Element) (c : Part) (ps : List Partial) (n : ℕ) → AllLong n ps → AllLong (grown (takes_no_tag c) n) (flat_map (at_part wm c) ps)
part_long wm c ps n long q m =
    let b = flat_map_member (at_part wm c) q ps m in
    (added_is wm c b.0 q b.2).long ∙ ap (grown (takes_no_tag c)) (long b.0 b.1)

pub walk_in_order : (wm : List Element) (cs : List Part) (ps : List Partial) (n : ℕ) → HasRisingTags wm → AllLong n ps → AllBefore PartialBefore ps → AllBefore PartialBefore (walk wm cs ps)
walk_in_order wm [] ps n h long a = a
walk_in_order wm (c ∷ cs) ps n h long a =
    walk_in_order wm cs (flat_map (at_part wm c) ps) (grown (takes_no_tag c) n) h (part_long wm c ps n long) (part_in_order wm c ps n h long a)

-- the whole matches of some conditions are in the order of their tags
pub matches_in_order : (wm : List Element) (cs : List Part) → HasRisingTags wm → AllBefore PartialBefore (matches_of wm cs)
matches_in_order wm cs h = walk_in_order wm cs (empty_partial ∷ []) 0 h no_tags (λ q m. absurd m, tt)
  where
    no_tags : AllLong 0 (empty_partial ∷ [])
    no_tags p (inl e) = ap (λ (w : Partial). length w.tags) e
    no_tags p (inr m) = absurd m
