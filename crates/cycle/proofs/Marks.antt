-- The members that are marked as fired, and those that are not.
use Rattle.std.proofs.Common.{◌≡◌, List, [], ◌∷◌, ◌++◌, filter, Bool, true, false, cond, not, refl, ap, sym, ◌∙◌, subst, inl, inr, Option, Some, None, IsSome}
use Rattle.std.specs.Prelude.{Contains, ◌↔◌, MatchOption}
use Rattle.std.specs.Bool.{Decides}
use Rattle.std.specs.Borrow.{Bor}
use Rattle.std.specs.Option.{option_copied}
use Rattle.std.proofs.lemmas.Bool.{false≢true}
use Rattle.std.proofs.lemmas.List.Elements.{All-contains}
use Rattle.ops_base.specs.declared.rules.Inst.{Inst}
use Rattle.ops_base.specs.declared.rules.Rule.{Rule}
use Rattle.ops_base.specs.Dominance.{specificity_of}
use Rattle.ops_base.specs.Instances.{Before, IsInOrder}
use Rattle.ops_base.specs.Refraction.{is_same_inst, is_among, unfired}
use Rattle.ops_base.proofs.Members.{IsMember, member_from_contains, contains_from_member, all_from_members, member_left, member_right, member_cases, member-map, map_member}
use Rattle.ops_base.proofs.InOrder.{AllBefore, before_from_all_pairs}
use Rattle.ops_base.proofs.Filtered.{filter_member, member-filter, all_before-filter}
use Rattle.ops_base.proofs.ConflictSetLaws.{same_members}
use Rattle.ops_base.proofs.RefractionLaws.{is_same_inst-Decides, member-unfired}
use Rattle.conflict_index.specs.Indexed.{Member, insts_of, fired_of, waiting, KeepsSpecificities}
use Rattle.conflict_index.specs.Applying.{marked}
use Rattle.work_store.specs.Stored.{Stored}
use Rattle.cycle.specs.States.{Agree}
use Rattle.cycle.proofs.Members.{insts_before-filter, one_member}

-- a member that is marked, for each instantiation that is
pub fired_member : (ms : List Member) (i : Inst) → Contains (fired_of ms) i → (m : Member) × IsMember m ms × (m.fired ≡ true) × (i ≡ m.inst)
fired_member ms i h =
    let f = map_member (λ (k : Member). k.inst) i (filter (λ m. m.fired) ms) (member_from_contains i (fired_of ms) h) in
    let k = filter_member (λ m. m.fired) f.0 ms f.1 in (f.0, k.0, k.1, f.2)

pub member_fired : (ms : List Member) (m : Member) (i : Inst) → IsMember m ms → m.fired ≡ true → i ≡ m.inst → Contains (fired_of ms) i
member_fired ms m i p fired e =
    let P : Inst → Type 0 = Contains (fired_of ms) in
    subst P (sym e) (contains_from_member m.inst (fired_of ms) (member-map (λ (k : Member). k.inst) m (filter (λ m. m.fired) ms) (member-filter (λ m. m.fired) m ms p fired)))

-- a member, for each instantiation
pub inst_member : (ms : List Member) (i : Inst) → Contains (insts_of ms) i → (m : Member) × IsMember m ms × (i ≡ m.inst)
inst_member ms i h = map_member (λ (k : Member). k.inst) i ms (member_from_contains i (insts_of ms) h)

pub member_inst : (ms : List Member) (m : Member) (i : Inst) → IsMember m ms → i ≡ m.inst → Contains (insts_of ms) i
member_inst ms m i p e =
    let P : Inst → Type 0 = Contains (insts_of ms) in
    subst P (sym e) (contains_from_member m.inst (insts_of ms) (member-map (λ (k : Member). k.inst) m ms p))

-- ---- those that have not fired

not_both : (b : Bool) → not b ≡ true → b ≡ true → ⊥
not_both true e f = false≢true e
not_both false e f = false≢true f

-- What waits is what was found less what is marked.
pub waiting_are : (ms : List Member) → IsInOrder (insts_of ms) → insts_of (waiting ms) ≡ unfired (insts_of ms) (fired_of ms)
waiting_are ms order =
    same_members (insts_of (waiting ms)) (unfired (insts_of ms) (fired_of ms)) (insts_before-filter (λ m. not m.fired) ms a)
    (all_before-filter Before (λ i. not (is_among (fired_of ms) i)) (insts_of ms) a) to from
  where
    a : AllBefore Before (insts_of ms)
    a = before_from_all_pairs Before (insts_of ms) order

    to : (i : Inst) → IsMember i (insts_of (waiting ms)) → IsMember i (unfired (insts_of ms) (fired_of ms))
    to i p =
        let f = map_member (λ (k : Member). k.inst) i (waiting ms) p in
        let k = filter_member (λ m. not m.fired) f.0 ms f.1 in
        let unmarked : ¬ Contains (fired_of ms) i = λ h.
        let g = fired_member ms i h in
        let same : f.0 ≡ g.0 = one_member ms a f.0 g.0 k.0 g.1 (sym f.2 ∙ g.3) in
        not_both f.0.fired k.1 (ap (λ (w : Member). w.fired) same ∙ g.2) in
        member_from_contains i (unfired (insts_of ms) (fired_of ms)) ((member-unfired (insts_of ms) (fired_of ms) i).1 (member_inst ms f.0 i k.0 f.2, unmarked))

    kept : (m : Member) (i : Inst) → IsMember m ms → i ≡ m.inst → ¬ Contains (fired_of ms) i → (b : Bool) → m.fired ≡ b → IsMember i (insts_of (waiting ms))
    kept m i p e unmarked true is = absurd (unmarked (member_fired ms m i p is e))
    kept m i p e unmarked false is =
        let P : Inst → Type 0 = λ w. IsMember w (insts_of (waiting ms)) in
        subst P (sym e) (member-map (λ (k : Member). k.inst) m (waiting ms) (member-filter (λ m. not m.fired) m ms p (ap not is)))

    from : (i : Inst) → IsMember i (unfired (insts_of ms) (fired_of ms)) → IsMember i (insts_of (waiting ms))
    from i p =
        let h = (member-unfired (insts_of ms) (fired_of ms) i).0 (contains_from_member i (unfired (insts_of ms) (fired_of ms)) p) in
        let f = inst_member ms i h.0 in kept f.0 i f.1 f.2 h.1 f.0.fired refl

-- One that waits is a member.
pub waiting_member : (ms : List Member) (i : Inst) → Contains (insts_of (waiting ms)) i → Contains (insts_of ms) i
waiting_member ms i h =
    let f = inst_member (waiting ms) i h in member_inst ms f.0 i (filter_member (λ m. not m.fired) f.0 ms f.1).0 f.2

-- So is the one that is next.
pub next_member : (ms : List Member) (o : Option (Bor Inst)) (i : Inst) → MatchOption o (waiting ms ≡ []) (λ j. Contains (insts_of (waiting ms)) j.now) → option_copied o ≡ Some i → Contains (insts_of ms) i
next_member ms None i h e = cc
next_member ms (Some j) i h e =
    let same : j.now ≡ i = cc in
    let P : Inst → Type 0 = λ w. Contains (insts_of (waiting ms)) w in waiting_member ms i (subst P same h)

pub some_copied : (o : Option (Bor Inst)) (p : Option Inst) → option_copied o ≡ p → IsSome p → IsSome o
some_copied None p e h = let P : Option Inst → Type 0 = IsSome in subst P (sym e) h
some_copied (Some j) p e h = refl

-- ---- marking one

-- what a member becomes where this instantiation is marked
abbrev after_mark : Inst → Member → Member
after_mark i m = cond (is_same_inst m.inst i) (record m { fired = true }) m

mark_keeps : (i : Inst) (m : Member) → (after_mark i m).inst ≡ m.inst
mark_keeps i m = by (is_same_inst m.inst i)
  where
    by : (b : Bool) → (cond b (record m { fired = true }) m).inst ≡ m.inst
    by true = refl
    by false = refl

-- marking takes none in or out
pub marked_insts : (i : Inst) (ms : List Member) → insts_of (marked i ms) ≡ insts_of ms
marked_insts i [] = refl
marked_insts i (m ∷ ms) = ap (λ w. w ∷ insts_of (marked i ms)) (mark_keeps i m) ∙ ap (λ is. m.inst ∷ is) (marked_insts i ms)

-- Where a member is marked, what is marked is what was, and it.
pub marked_fired : (i : Inst) (ms : List Member) → Contains (insts_of ms) i → (j : Inst) → Contains (fired_of (marked i ms)) j ↔ Contains (fired_of ms ++ i ∷ []) j
marked_fired i ms there j = (to, from)
  where
    member_after : (m : Member) → IsMember m ms → IsMember (after_mark i m) (marked i ms)
    member_after m p = member-map (after_mark i) m ms p

    which : (m : Member) → IsMember m ms → (b : Bool) → Decides b (m.inst ≡ i) → (cond b (record m { fired = true }) m).fired ≡ true → j ≡ m.inst → IsMember j (fired_of ms ++ i ∷ [])
    which m p true d fired e = member_right j (fired_of ms) (i ∷ []) (inl (e ∙ d.0 refl))
    which m p false d fired e =
        member_left j (fired_of ms) (i ∷ []) (member_from_contains j (fired_of ms) (member_fired ms m j p fired e))

    to : Contains (fired_of (marked i ms)) j → Contains (fired_of ms ++ i ∷ []) j
    to h =
        let f = fired_member (marked i ms) j h in
        let g = map_member (after_mark i) f.0 ms f.1 in
        let fired : (after_mark i g.0).fired ≡ true = ap (λ (w : Member). w.fired) (sym g.2) ∙ f.2 in
        let e : j ≡ g.0.inst = f.3 ∙ ap (λ (w : Member). w.inst) g.2 ∙ mark_keeps i g.0 in
        contains_from_member j (fired_of ms ++ i ∷ []) (which g.0 g.1 (is_same_inst g.0.inst i) (is_same_inst-Decides g.0.inst i) fired e)

    stays : (m : Member) → m.fired ≡ true → (b : Bool) → (cond b (record m { fired = true }) m).fired ≡ true
    stays m e true = refl
    stays m e false = e

    turns : (m : Member) (b : Bool) → Decides b (m.inst ≡ i) → m.inst ≡ i → (cond b (record m { fired = true }) m).fired ≡ true
    turns m true d e = refl
    turns m false d e = absurd (false≢true (d.1 e))

    from : Contains (fired_of ms ++ i ∷ []) j → Contains (fired_of (marked i ms)) j
    from h = elim (member_cases j (fired_of ms) (i ∷ []) (member_from_contains j (fired_of ms ++ i ∷ []) h)) [
      | inl p ↦ (let f = fired_member ms j (contains_from_member j (fired_of ms) p) in
          member_fired (marked i ms) (after_mark i f.0) j (member_after f.0 f.1) (stays f.0 f.2 (is_same_inst f.0.inst i)) (f.3 ∙ sym (mark_keeps i f.0)))
      | inr p ↦ at_end p
    ]
      where
        at_end : IsMember j (i ∷ []) → Contains (fired_of (marked i ms)) j
        at_end (inr n) = absurd n
        at_end (inl e) =
            let f = inst_member ms i there in
            member_fired (marked i ms) (after_mark i f.0) j (member_after f.0 f.1) (turns f.0 (is_same_inst f.0.inst i) (is_same_inst-Decides f.0.inst i) (sym f.2)) (e ∙ f.2 ∙ sym (mark_keeps i f.0))

-- marking changes no specificity
pub marked_specificities : (rules : List Rule) (i : Inst) (ms : List Member) → KeepsSpecificities rules ms → KeepsSpecificities rules (marked i ms)
marked_specificities rules i ms keeps =
    all_from_members Keeps (marked i ms) (λ n p.
    let f = map_member (after_mark i) n ms p in
    subst Keeps (sym f.2) (by f.0 (is_same_inst f.0.inst i) (All-contains Keeps ms f.0 keeps (contains_from_member f.0 ms f.1))))
  where
    Keeps : Member → Type 0
    Keeps m = m.specificity ≡ specificity_of rules m.inst.rule

    by : (m : Member) (b : Bool) → m.specificity ≡ specificity_of rules m.inst.rule → (let n = cond b (record m { fired = true }) m in n.specificity ≡ specificity_of rules n.inst.rule)
    by m true e = e
    by m false e = e

-- What agreed with what was found still does.
pub marked_agree : (stored : Stored) (found : List Inst) (stands_for : List Rule → Type 0) (i : Inst) (ms ns : List Member) → ns ≡ marked i ms → Agree stored found stands_for ms → Agree stored found stands_for ns
marked_agree stored found stands_for i ms ns is p =
    let e : insts_of ms ≡ insts_of ns = sym (marked_insts i ms) ∙ ap (λ (w : List Member). insts_of w) (sym is) in
    record {
      same = λ j. let P : List Inst → Type 0 = λ w. Contains w j ↔ Contains found j in subst P e (p.same j);
      in_order = let P : List Inst → Type 0 = IsInOrder in subst P e p.in_order;
      well = p.well;
      above = p.above;
      set = p.set;
    }
