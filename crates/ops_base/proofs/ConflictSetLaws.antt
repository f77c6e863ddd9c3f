-- The conflict set as it is computed is the conflict set as it is defined, and no other list is.
use Rattle.std.proofs.Common.{◌≡◌, ℕ, zero, suc, ◌+◌, ◌<◌, List, [], ◌∷◌, length, All, Some, refl, ap, sym, ◌∙◌, subst, inl, inr, arith}
use Rattle.std.proofs.lemmas.List.Elements.{All-nil, All-cons, All-append}
use Rattle.std.specs.Prelude.{slice_get, Contains}
use Rattle.ops_base.specs.declared.elements.Element.{Element}
use Rattle.ops_base.specs.declared.direct.Partial.{Partial}
use Rattle.ops_base.specs.declared.rules.Rule.{Rule}
use Rattle.ops_base.specs.declared.rules.Inst.{Inst}
use Rattle.ops_base.specs.WorkingMemory.{HasRisingTags}
use Rattle.ops_base.specs.ConflictSet.{matches_of, insts_of, insts_from, conflict_set}
use Rattle.ops_base.specs.Instances.{Meets, IsInst, Before, IsConflictSet, AreOf}
use Rattle.ops_base.proofs.Members.{IsMember, member_from_contains, contains_from_member, member_left, member_right, member_cases, member-map, map_member}
use Rattle.ops_base.proofs.WalkFinds.{matches_of-meets, meets-matches_of}
use Rattle.ops_base.proofs.InOrder.{AllBefore, PartialBefore, all_before-append, all_before-map, all_pairs_from_before, before_from_all_pairs, matches_in_order}
use Rattle.ops_base.proofs.InstOrder.{not_both_before}
use Rattle.ops_base.proofs.InstOrder.{before_itself}

abbrev inst : ℕ → List ℕ → Inst
inst n tags = record { rule = n; tags = tags }

-- an instantiation of one of these rules, the first of which has number n
pub record IsInstFrom (n : ℕ) (rules : List Rule) (wm : List Element) (i : Inst) : Type 0 where
  pub place : ℕ
  pub rule : Rule
  pub number : i.rule ≡ n + place
  pub there : slice_get rules place ≡ Some rule
  pub meets : Meets wm rule.conditions [] i.tags

-- what a rule's matches give are instantiations of that rule
pub insts_of-rule : (n : ℕ) (ps : List Partial) (i : Inst) → IsMember i (insts_of n ps) → (p : Partial) × IsMember p ps × (i.rule ≡ n) × (i.tags ≡ p.tags)
insts_of-rule n ps i m =
    let r = map_member (λ (p : Partial). inst n p.tags) i ps m in
    (r.0, r.1, ap (λ (w : Inst). w.rule) r.2, ap (λ (w : Inst). w.tags) r.2)

-- a match's tags, with the rule, are among what the rule's matches give
pub member-insts_of : (n : ℕ) (ps : List Partial) (p : Partial) (tags : List ℕ) → IsMember p ps → p.tags ≡ tags → IsMember (inst n tags) (insts_of n ps)
member-insts_of n ps p tags m e =
    let P : List ℕ → Type 0 = λ w. IsMember (inst n w) (insts_of n ps) in
    subst P e (member-map (λ (q : Partial). inst n q.tags) p ps m)

-- what is computed for these rules are instantiations of them
pub insts_from-sound : (n : ℕ) (rules : List Rule) (wm : List Element) (i : Inst) → IsMember i (insts_from n rules wm) → IsInstFrom n rules wm i
insts_from-sound n [] wm i m = absurd m
insts_from-sound n (r ∷ rs) wm i m =
    elim (member_cases i (insts_of n (matches_of wm r.conditions)) (insts_from (n + 1) rs wm) m) [
      | inl a ↦ (let f = insts_of-rule n (matches_of wm r.conditions) i a in
          let P : List ℕ → Type 0 = Meets wm r.conditions [] in record {
            place = 0;
            rule = r;
            number = f.2 ∙ omega arith;
            there = refl;
            meets = subst P (sym f.3) (matches_of-meets wm r.conditions f.0 f.1);
          })
      | inr b ↦ (let f = insts_from-sound (n + 1) rs wm i b in record {
        place = suc f.place;
        rule = f.rule;
        number = f.number ∙ omega arith;
        there = f.there;
        meets = f.meets;
      })
    ]

-- what is computed for these rules has all instantiations of them
pub insts_from-complete : (n : ℕ) (rules : List Rule) (wm : List Element) (k : ℕ) (tags : List ℕ) (r : Rule) → slice_get rules k ≡ Some r → Meets wm r.conditions [] tags → IsMember (inst (n + k) tags) (insts_from n rules wm)
insts_from-complete n [] wm k tags r there meets = cc
insts_from-complete n (s ∷ rs) wm zero tags r there meets =
    let same : s ≡ r = cc in
    let P : Rule → Type 0 = λ w. Meets wm w.conditions [] tags in
    let f = meets-matches_of wm s.conditions tags (subst P (sym same) meets) in
    let m = member-insts_of n (matches_of wm s.conditions) f.0 tags f.1 f.2 in
    let e : n ≡ n + 0 = omega arith in
    let Q : ℕ → Type 0 = λ w. IsMember (inst w tags) (insts_of n (matches_of wm s.conditions)) in
    member_left (inst (n + 0) tags) (insts_of n (matches_of wm s.conditions)) (insts_from (n + 1) rs wm) (subst Q e m)
insts_from-complete n (s ∷ rs) wm (suc k) tags r there meets =
    let m = insts_from-complete (n + 1) rs wm k tags r there meets in
    let e : (n + 1) + k ≡ n + suc k = omega arith in
    let Q : ℕ → Type 0 = λ w. IsMember (inst w tags) (insts_from (n + 1) rs wm) in
    member_right (inst (n + suc k) tags) (insts_of n (matches_of wm s.conditions)) (insts_from (n + 1) rs wm) (subst Q e m)

-- the instantiations of rules from n on are in order
pub insts_from-in_order : (n : ℕ) (rules : List Rule) (wm : List Element) → HasRisingTags wm → AllBefore Before (insts_from n rules wm)
insts_from-in_order n [] wm h = tt
insts_from-in_order n (r ∷ rs) wm h =
    all_before-append Before (insts_of n (matches_of wm r.conditions)) (insts_from (n + 1) rs wm)
    (all_before-map PartialBefore Before (λ (p : Partial). inst n p.tags) (matches_of wm r.conditions) (λ p q b. inr (refl, b)) (matches_in_order wm r.conditions h))
    (insts_from-in_order (n + 1) rs wm h)
    (λ i j mi mj.
    let a = insts_of-rule n (matches_of wm r.conditions) i mi in
    let b = insts_from-sound (n + 1) rs wm j mj in
    let below : i.rule < j.rule = omega (arith, a.2, b.number) in
    inl below)

-- The list that is computed is the conflict set: it has the instantiations and no others, in order, each once.
pub conflict_set-is : (rules : List Rule) (wm : List Element) → HasRisingTags wm → IsConflictSet rules wm (conflict_set rules wm)
conflict_set-is rules wm h = record { sound = sound; complete = complete; in_order = all_pairs_from_before Before (conflict_set rules wm) (insts_from-in_order 0 rules wm h) }
  where
    sound : (i : Inst) → Contains (conflict_set rules wm) i → IsInst rules wm i
    sound i m =
        let f = insts_from-sound 0 rules wm i (member_from_contains i (conflict_set rules wm) m) in
        let e : i.rule ≡ f.place = omega (arith, f.number) in
        (f.rule, ap (slice_get rules) e ∙ f.there, f.meets)

    complete : (i : Inst) → IsInst rules wm i → Contains (conflict_set rules wm) i
    complete i is =
        let e : 0 + i.rule ≡ i.rule = omega arith in
        let P : ℕ → Type 0 = λ w. IsMember (inst w i.tags) (conflict_set rules wm) in
        contains_from_member i (conflict_set rules wm) (subst P e (insts_from-complete 0 rules wm i.rule i.tags is.0 is.1 is.2))

-- two lists in order with the same members are equal
pub same_members : (xs ys : List Inst) → AllBefore Before xs → AllBefore Before ys → ((i : Inst) → IsMember i xs → IsMember i ys) → ((i : Inst) → IsMember i ys → IsMember i xs) → xs ≡ ys
same_members [] [] a b to from = refl
same_members [] (y ∷ ys) a b to from = absurd (from y (inl refl))
same_members (x ∷ xs) [] a b to from = absurd (to x (inl refl))
same_members (x ∷ xs) (y ∷ ys) a b to from =
    let e = heads (to x (inl refl)) (from y (inl refl)) in
    let t = same_members xs ys a.1 b.1 (λ i m. tail_to e i m (to i (inr m))) (λ i m. tail_from e i m (from i (inr m))) in
    cc
  where
    heads : IsMember x (y ∷ ys) → IsMember y (x ∷ xs) → x ≡ y
    heads (inl e) n = e
    heads (inr m) (inl e) = sym e
    heads (inr m) (inr n) = absurd (not_both_before x y (a.0 y n) (b.0 x m))

    tail_to : x ≡ y → (i : Inst) → IsMember i xs → IsMember i (y ∷ ys) → IsMember i ys
    tail_to e i m (inl is) =
        let P : Inst → Type 0 = Before x in absurd (before_itself x (subst P (is ∙ sym e) (a.0 i m)))
    tail_to e i m (inr n) = n

    tail_from : x ≡ y → (i : Inst) → IsMember i ys → IsMember i (x ∷ xs) → IsMember i xs
    tail_from e i m (inl is) =
        let P : Inst → Type 0 = Before y in absurd (before_itself y (subst P (is ∙ e) (b.0 i m)))
    tail_from e i m (inr n) = n

-- There is one conflict set at most.
pub conflict_set_only : (rules : List Rule) (wm : List Element) (one other : List Inst) → IsConflictSet rules wm one → IsConflictSet rules wm other → other ≡ one
conflict_set_only rules wm one other a b =
    same_members other one (before_from_all_pairs Before other b.in_order) (before_from_all_pairs Before one a.in_order)
    (λ i m. member_from_contains i one (a.complete i (b.sound i (contains_from_member i other m))))
    (λ i m. member_from_contains i other (b.complete i (a.sound i (contains_from_member i one m))))

-- a list that is what is computed is the conflict set
pub computed_is : (rules : List Rule) (wm : List Element) (set : List Inst) → HasRisingTags wm → set ≡ conflict_set rules wm → IsConflictSet rules wm set
computed_is rules wm set h e =
    let P : List Inst → Type 0 = IsConflictSet rules wm in subst P (sym e) (conflict_set-is rules wm h)

-- any conflict set is a list that is what is computed
pub computed_only : (rules : List Rule) (wm : List Element) (set : List Inst) → HasRisingTags wm → set ≡ conflict_set rules wm → (other : List Inst) → IsConflictSet rules wm other → other ≡ set
computed_only rules wm set h e other is =
    conflict_set_only rules wm (conflict_set rules wm) other (conflict_set-is rules wm h) is ∙ sym e

-- ---- each instantiation is of one of the rules

insts_of-within : (n m : ℕ) → n < m → (ps : List Partial) → All (λ (i : Inst). i.rule < m) (insts_of n ps)
insts_of-within n m lt [] = All-nil (λ (i : Inst). i.rule < m)
insts_of-within n m lt (p ∷ ps) = All-cons (λ (i : Inst). i.rule < m) (inst n p.tags) (insts_of n ps) lt (insts_of-within n m lt ps)

insts_from-within : (n m : ℕ) (rules : List Rule) (wm : List Element) → n + length rules ≡ m → All (λ (i : Inst). i.rule < m) (insts_from n rules wm)
insts_from-within n m [] wm e = All-nil (λ (i : Inst). i.rule < m)
insts_from-within n m (r ∷ rs) wm e =
    All-append (λ (i : Inst). i.rule < m) (insts_of n (matches_of wm r.conditions)) (insts_from (n + 1) rs wm)
    (insts_of-within n m (omega (arith, e)) (matches_of wm r.conditions)) (insts_from-within (n + 1) m rs wm (omega (arith, e)))

pub computed_of : (rules : List Rule) (wm : List Element) (set : List Inst) → set ≡ conflict_set rules wm → AreOf rules set
computed_of rules wm set is = let P : List Inst → Type 0 = AreOf rules in subst P (sym is) (insts_from-within 0 (length rules) rules wm (omega arith))
