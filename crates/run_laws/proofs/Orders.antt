-- The order of the instantiations that stand, if a production is removed or added.
use Rattle.std.proofs.Common.{◌≡◌, ℕ, zero, suc, ◌≤◌, ◌<◌, List, [], ◌∷◌, ◌++◌, length, Bool, true, false, not, ◌==◌, if◌then◌else◌, Option, Some, None, option_map, unwrap_or, refl, sym, ap, ◌∙◌, subst, inl, inr, arith}
use Rattle.std.specs.Prelude.{filter, get_or, All, Contains}
use Rattle.std.specs.List.{cons_option, filter_map}
use Rattle.std.proofs.lemmas.Bool.{false≢true}
use Rattle.std.proofs.lemmas.Bool.Decides.{Decides-eqb}
use Rattle.std.proofs.lemmas.List.Elements.{All-cons, All-nil, All-head, All-tail}
use Rattle.std.proofs.lemmas.Option.{slice_get-get_or, slice_get_within}
use Rattle.ops_base.specs.declared.commands.Strategy.{Strategy}
use Rattle.ops_base.specs.declared.elements.Element.{Element}
use Rattle.ops_base.specs.declared.rules.Inst.{Inst}
use Rattle.ops_base.specs.declared.rules.Rule.{Rule}
use Rattle.ops_base.specs.ConflictSet.{conflict_set, insts_of, matches_of}
use Rattle.ops_base.specs.Dominance.{dominates}
use Rattle.ops_base.specs.Instances.{AreOf}
use Rattle.ops_base.specs.Live.{without, moved, renumbered, moved_inst, moved_insts}
use Rattle.ops_base.specs.Refraction.{unfired}
use Rattle.ops_base.specs.WorkingMemory.{HasRisingTags}
use Rattle.ops_base.proofs.ConflictSetLaws.{conflict_set-is}
use Rattle.ops_base.proofs.InOrder.{AllBefore, before_from_all_pairs}
use Rattle.ops_base.proofs.LiveLaws.{dominance_stays, without_get}
use Rattle.ops_base.proofs.Members.{IsMember, member_from_contains, contains_from_member}
use Rattle.ops_meaning.specs.Running.{Course, Session, added, rule_named, standing_by, taken_out, trail_emptied}
use Rattle.ops_meaning.proofs.Ranked.{ranked_is}
use Rattle.run_laws.specs.Standing.{ranking_in, stands_in}
use Rattle.run_laws.proofs.Rankings.{Over, distinct_unfired, same_ranked, standing_ranked}
use Rattle.run_laws.proofs.Standings.{stands_with, stands_without}

-- ---- what is left of a list

module _ {X Y : Type 0} (f : X → Option Y) where
  moved_member : (y : Y) (xs : List X) → IsMember y (filter_map f xs) → (x : X) × IsMember x xs × (f x ≡ Some y)
  moved_member y [] m = absurd m
  moved_member y (x ∷ xs) m = by (f x) refl m (moved_member y xs)
    where
      by : (o : Option Y) → f x ≡ o → IsMember y (cons_option o (filter_map f xs)) → (IsMember y (filter_map f xs) → (z : X) × IsMember z xs × (f z ≡ Some y)) → (z : X) × IsMember z (x ∷ xs) × (f z ≡ Some y)
      by None e m rest = (let r = rest m in (r.0, inr r.1, r.2))
      by (Some w) e (inl same) rest = (x, inl refl, e ∙ ap Some (sym same))
      by (Some w) e (inr m) rest = (let r = rest m in (r.0, inr r.1, r.2))

  member_moved : (x : X) (y : Y) (xs : List X) → IsMember x xs → f x ≡ Some y → IsMember y (filter_map f xs)
  member_moved x y [] m e = absurd m
  member_moved x y (z ∷ xs) (inl same) e =
      let shown : f z ≡ Some y = ap f (sym same) ∙ e in
      let P : Option Y → Type 0 = λ o. IsMember y (cons_option o (filter_map f xs)) in
      subst P (sym shown) (inl refl)
  member_moved x y (z ∷ xs) (inr m) e = by (f z) (member_moved x y xs m e)
    where
      by : (o : Option Y) → IsMember y (filter_map f xs) → IsMember y (cons_option o (filter_map f xs))
      by None rest = rest
      by (Some w) rest = inr rest

  moved_before : (R : X → X → Type 0) (S : Y → Y → Type 0) (keeps : (x z : X) (v w : Y) → f x ≡ Some v → f z ≡ Some w → R x z → S v w) (xs : List X) → AllBefore R xs → AllBefore S (filter_map f xs)
  moved_before R S keeps [] h = tt
  moved_before R S keeps (x ∷ xs) h = by (f x) refl (moved_before R S keeps xs h.1)
    where
      by : (o : Option Y) → f x ≡ o → AllBefore S (filter_map f xs) → AllBefore S (cons_option o (filter_map f xs))
      by None e rest = rest
      by (Some v) e rest = (
        λ w m. (let r = moved_member w xs m in keeps x r.0 v w e r.2 (h.0 r.0 r.1)),
        rest,
      )

-- ---- a production is removed

standing_members : (rules : List Rule) (m : Course) → HasRisingTags m.wm → (i : Inst)
    → (IsMember i (standing_by (conflict_set rules) rules m) → IsMember i (unfired (conflict_set rules m.wm) m.fired))
    × (IsMember i (unfired (conflict_set rules m.wm) m.fired) → IsMember i (standing_by (conflict_set rules) rules m))
standing_members rules m rising i =
    let insts = unfired (conflict_set rules m.wm) m.fired in
    let list = standing_by (conflict_set rules) rules m in
    let r = ranked_is m.strategy rules (length insts) insts (distinct_unfired rules m rising) (omega arith) in (
      λ h. member_from_contains i insts ((r.members i).0 (contains_from_member i list h)),
      λ h. member_from_contains i list ((r.members i).1 (contains_from_member i insts h)),
    )

standing_before : (rules : List Rule) (m : Course) → HasRisingTags m.wm → AllBefore (Over m.strategy rules) (standing_by (conflict_set rules) rules m)
standing_before rules m rising =
    before_from_all_pairs (Over m.strategy rules) (standing_by (conflict_set rules) rules m) (standing_ranked rules m rising).order

-- the new number of an instantiation's production
moved_by : (n : ℕ) (i j : Inst) → moved_inst n i ≡ Some j → (a : ℕ) × (moved n i.rule ≡ Some a) × (renumbered i a ≡ j)
moved_by n i j e = by (moved n i.rule) refl
  where
    by : (o : Option ℕ) → moved n i.rule ≡ o → (a : ℕ) × (moved n i.rule ≡ Some a) × (renumbered i a ≡ j)
    by None f =
        let none : None ≡ Some j = sym (ap (option_map (renumbered i)) f) ∙ e in
        absurd (cc)
    by (Some a) f =
        let one : Some (renumbered i a) ≡ Some j = sym (ap (option_map (renumbered i)) f) ∙ e in
        let same : renumbered i a ≡ j = cc in
        (a, f, same)

over_moved : (g : Strategy) (rules : List Rule) (n : ℕ) (i j v w : Inst) → moved_inst n i ≡ Some v → moved_inst n j ≡ Some w → Over g rules i j → Over g (without n rules) v w
over_moved g rules n i j v w e f over =
    let a = moved_by n i v e in
    let b = moved_by n j w f in
    let P : Inst → Inst → Type 0 = Over g (without n rules) in
    let here : dominates g (without n rules) (renumbered i a.0) (renumbered j b.0) ≡ true = dominance_stays g rules n a.0 b.0 i j a.1 b.1 ∙ over in
    subst (λ x. P v x) b.2 (subst (λ x. P x (renumbered j b.0)) a.2 here)

-- the ranking if a production is removed, for any course that results from this one
pub order_without : (n : ℕ) (rules : List Rule) (m : Course) → HasRisingTags m.wm
    → (let after = record m { fired = moved_insts n m.fired } in standing_by (conflict_set (without n rules)) (without n rules) after ≡ moved_insts n (standing_by (conflict_set rules) rules m))
order_without n rules m rising =
    same_ranked m.strategy (without n rules) new moves (standing_before (without n rules) after rising)
    (moved_before (moved_inst n) (Over m.strategy rules) (Over m.strategy (without n rules)) (λ i j v w e f h. over_moved m.strategy rules n i j v w e f h) old (standing_before rules m rising))
    (λ i h. (let P : List Inst → Type 0 = IsMember i in
    let r = moved_member (moved_inst n) i insts (subst P same ((standing_members (without n rules) after rising i).0 h)) in
    member_moved (moved_inst n) r.0 i old ((standing_members rules m rising r.0).1 r.1) r.2))
    (λ i h. (let P : List Inst → Type 0 = IsMember i in
    let r = moved_member (moved_inst n) i old h in
    (standing_members (without n rules) after rising i).1
    (subst P (sym same) (member_moved (moved_inst n) r.0 i insts ((standing_members rules m rising r.0).0 r.1) r.2))))
  where
    after : Course
    after = record m { fired = moved_insts n m.fired }

    old : List Inst
    old = standing_by (conflict_set rules) rules m

    new : List Inst
    new = standing_by (conflict_set (without n rules)) (without n rules) after

    moves : List Inst
    moves = moved_insts n old

    insts : List Inst
    insts = unfired (conflict_set rules m.wm) m.fired

    same : unfired (conflict_set (without n rules) m.wm) (moved_insts n m.fired) ≡ moved_insts n insts
    same = stands_without n rules m.wm m.fired

-- ---- a production is added

without_last : (r : Rule) (rules : List Rule) → without (length rules) (rules ++ r ∷ []) ≡ rules
without_last r [] = refl
without_last r (s ∷ rules) = ap (λ rs. s ∷ rs) (without_last r rules)

moved_under : (n m : ℕ) → m < n → moved n m ≡ Some m
moved_under zero m h = absurd (omega (arith, h))
moved_under (suc n) zero h = refl
moved_under (suc n) (suc m) h = ap (option_map suc) (moved_under n m (omega (arith, h)))

moved_self : (n : ℕ) → moved n n ≡ None
moved_self zero = refl
moved_self (suc n) = ap (option_map suc) (moved_self n)

marks_under : (n : ℕ) (insts : List Inst) → All (λ i. i.rule < n) insts → moved_insts n insts ≡ insts
marks_under n [] h = refl
marks_under n (i ∷ insts) h =
    ap (λ o. cons_option (option_map (renumbered i) o) (moved_insts n insts)) (moved_under n i.rule (All-head (λ (x : Inst). x.rule < n) i insts h))
    ∙ ap (λ is. i ∷ is) (marks_under n insts (All-tail (λ (x : Inst). x.rule < n) i insts h))

-- if none has a greater number, those without this number stay
others_under : (n : ℕ) (insts : List Inst) → ((i : Inst) → IsMember i insts → i.rule ≤ n) → moved_insts n insts ≡ filter (λ i. not (i.rule == n)) insts
others_under n [] h = refl
others_under n (i ∷ insts) h =
    by (i.rule == n) refl (h i (inl refl)) (others_under n insts (λ j m. h j (inr m)))
  where
    by : (b : Bool) → (i.rule == n) ≡ b → i.rule ≤ n → moved_insts n insts ≡ filter (λ i. not (i.rule == n)) insts
        → cons_option (option_map (renumbered i) (moved n i.rule)) (moved_insts n insts) ≡ (if not (i.rule == n) then i ∷ filter (λ i. not (i.rule == n)) insts else filter (λ i. not (i.rule == n)) insts)
    by true e within rest =
        let gone : moved n i.rule ≡ None = ap (moved n) ((Decides-eqb i.rule n).0 e) ∙ moved_self n in
        ap (λ o. cons_option (option_map (renumbered i) o) (moved_insts n insts)) gone
        ∙ rest
        ∙ sym (ap (λ b. if not b then i ∷ filter (λ i. not (i.rule == n)) insts else filter (λ i. not (i.rule == n)) insts) e)
    by false e within rest =
        let under : i.rule < n = below e within in
        ap (λ o. cons_option (option_map (renumbered i) o) (moved_insts n insts)) (moved_under n i.rule under)
        ∙ ap (λ is. i ∷ is) rest
        ∙ sym (ap (λ b. if not b then i ∷ filter (λ i. not (i.rule == n)) insts else filter (λ i. not (i.rule == n)) insts) e)
      where
        below : (i.rule == n) ≡ false → i.rule ≤ n → i.rule < n
        below e within =
            let differ : (i.rule ≡ n) → ⊥ = λ same. false≢true (sym e ∙ (Decides-eqb i.rule n).1 same) in
            omega (arith, differ, within)

rule_within : (rules : List Rule) (wm : List Element) (i : Inst) → HasRisingTags wm → Contains (conflict_set rules wm) i → i.rule < length rules
rule_within rules wm i rising there =
    let is = (conflict_set-is rules wm rising).sound i there in slice_get_within rules i.rule is.0 is.1

one_longer : (r : Rule) (rules : List Rule) → length (rules ++ r ∷ []) ≡ suc (length rules)
one_longer r [] = refl
one_longer r (s ∷ rules) = ap suc (one_longer r rules)

pub order_with : (r : Rule) (rules : List Rule) (m : Course) → HasRisingTags m.wm → All (λ i. i.rule < length rules) m.fired
    → filter (λ i. not (i.rule == length rules)) (standing_by (conflict_set (rules ++ r ∷ [])) (rules ++ r ∷ []) m) ≡ standing_by (conflict_set rules) rules m
order_with r rules m rising under =
    sym (others_under (length rules) list (λ i h. (let there = ((standing_ranked more m rising).members i).0 (contains_from_member i list h) in
    omega (arith, rule_within more m.wm i rising there.0, one_longer r rules))))
    ∙ sym (order_without (length rules) more m rising)
    ∙ ap (λ is. standing_by (conflict_set (without (length rules) more)) (without (length rules) more) (record m { fired = is })) (marks_under (length rules) m.fired under)
    ∙ ap (λ rs. standing_by (conflict_set rs) rs m) (without_last r rules)
  where
    more : List Rule
    more = rules ++ r ∷ []

    list : List Inst
    list = standing_by (conflict_set more) more m

pub taken_order : (n : ℕ) (k : Session) → HasRisingTags k.course.wm → ranking_in (taken_out n k) ≡ moved_insts n (ranking_in k)
taken_order n k rising = order_without n k.rules k.course rising

pub added_order : (r : Rule) (k : Session) → HasRisingTags k.course.wm → rule_named k.rules r.name ≡ None → AreOf k.rules k.course.fired
    → filter (λ i. not (i.rule == length k.rules)) (ranking_in (added r k)) ≡ ranking_in k
added_order r k rising absent under =
    ap (λ o. filter (λ i. not (i.rule == length k.rules)) (ranking_in (let left = unwrap_or (option_map (λ n. taken_out n k) o) k in record (trail_emptied left) { rules = left.rules ++ r ∷ []; breaks = left.breaks ++ false ∷ [] }))) absent
    ∙ order_with r k.rules k.course rising under

-- ---- one replaces another

new_within : (n m a : ℕ) (rules : List Rule) → moved n m ≡ Some a → m < length rules → a < length (without n rules)
new_within n m a [] e under = absurd (omega (arith, under))
new_within n m a (r ∷ rules) e under =
    slice_get_within (without n (r ∷ rules)) a (get_or (r ∷ rules) m r)
    (without_get n m a (r ∷ rules) e ∙ slice_get-get_or (r ∷ rules) m r under)

-- marks of productions that stay are marks of those that are left
pub marks_left : (n : ℕ) (rules : List Rule) (insts : List Inst) → AreOf rules insts → AreOf (without n rules) (moved_insts n insts)
marks_left n rules [] h = All-nil (λ (i : Inst). i.rule < length (without n rules))
marks_left n rules (i ∷ insts) h =
    by (moved n i.rule) refl (All-head (λ (x : Inst). x.rule < length rules) i insts h) (marks_left n rules insts (All-tail (λ (x : Inst). x.rule < length rules) i insts h))
  where
    by : (o : Option ℕ) → moved n i.rule ≡ o → i.rule < length rules → AreOf (without n rules) (moved_insts n insts) → AreOf (without n rules) (cons_option (option_map (renumbered i) o) (moved_insts n insts))
    by None e under rest = rest
    by (Some a) e under rest =
        All-cons (λ (x : Inst). x.rule < length (without n rules)) (renumbered i a) (moved_insts n insts)
        (new_within n i.rule a rules e under) rest

pub replaced : (r : Rule) (n : ℕ) (k : Session) → rule_named k.rules r.name ≡ Some n → AreOf k.rules k.course.fired
    → stands_in (added r k) ≡ moved_insts n (stands_in k) ++ insts_of (length (without n k.rules)) (matches_of k.course.wm r.conditions)
replaced r n k there under =
    ap (λ o. stands_in (let left = unwrap_or (option_map (λ n. taken_out n k) o) k in record (trail_emptied left) { rules = left.rules ++ r ∷ []; breaks = left.breaks ++ false ∷ [] })) there
    ∙ stands_with (without n k.rules) r k.course.wm (moved_insts n k.course.fired) (marks_left n k.rules k.course.fired under)
    ∙ ap (λ is. is ++ insts_of (length (without n k.rules)) (matches_of k.course.wm r.conditions)) (stands_without n k.rules k.course.wm k.course.fired)

pub replaced_order : (r : Rule) (n : ℕ) (k : Session) → HasRisingTags k.course.wm → rule_named k.rules r.name ≡ Some n → AreOf k.rules k.course.fired
    → filter (λ i. not (i.rule == length (without n k.rules))) (ranking_in (added r k)) ≡ moved_insts n (ranking_in k)
replaced_order r n k rising there under =
    ap (λ o. filter (λ i. not (i.rule == length (without n k.rules))) (ranking_in (let left = unwrap_or (option_map (λ n. taken_out n k) o) k in record (trail_emptied left) { rules = left.rules ++ r ∷ []; breaks = left.breaks ++ false ∷ [] }))) there
    ∙ order_with r (without n k.rules) (record k.course { fired = moved_insts n k.course.fired }) rising (marks_left n k.rules k.course.fired under)
    ∙ taken_order n k rising
