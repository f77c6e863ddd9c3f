-- What marking one and a phase make of the marks, as lists in order.
use Rattle.std.proofs.Common.{◌≡◌, ℕ, ◌+◌, ◌-◌, Bool, List, [], ◌∷◌, not, true, refl, arith, ap, sym, ◌∙◌, subst, inl, inr}
use Rattle.std.specs.Prelude.{Contains, ◌⊎◌}
use Rattle.std.specs.declared.cmp.Ordering.{Ordering}
use Rattle.std.specs.declared.cmp.Ordering.TheVariants.{Less, Equal, Greater}
use Rattle.std.specs.Ordering.{match_ordering, MatchOrdering}
use Rattle.std.proofs.lemmas.Bool.{false≢true}
use Rattle.ops_base.specs.declared.rules.Inst.{Inst}
use Rattle.ops_base.specs.declared.rules.Rule.{Rule}
use Rattle.ops_base.specs.Instances.{Before, IsInOrder, by_rule_and_tags}
use Rattle.ops_base.specs.Refraction.{is_among}
use Rattle.ops_base.specs.declared.elements.Change.{Change}
use Rattle.ops_base.specs.Names.{Spellings}
use Rattle.ops_base.specs.WorkingMemory.{Lawful, done, last_after}
use Rattle.ops_io.specs.Coming.{Coming}
use Rattle.ops_meaning.specs.Running.{Course, Finder, phase_by}
use Rattle.work_store.specs.Stored.{Stored}
use Rattle.ops_base.proofs.Members.{IsMember, member_from_contains, contains_from_member, member_left, member_right, member_cases}
use Rattle.ops_base.proofs.InOrder.{AllBefore, before_from_all_pairs}
use Rattle.ops_base.proofs.InstOrder.{standing as stand, before_trans}
use Rattle.ops_base.proofs.Filtered.{all_before-filter}
use Rattle.ops_base.proofs.ConflictSetLaws.{same_members}
use Rattle.ops_base.proofs.RefractionLaws.{member-unfired}
use Rattle.conflict_index.specs.Indexed.{Member, Indexed, insts_of, fired_of}
use Rattle.conflict_index.specs.Applying.{marked, Stays, Comes, IsApplied}
use Rattle.cycle.specs.States.{Held, no_names, no_input, state_course}
use Rattle.cycle.specs.Standing.{standing, after_firing, with_inst, without_gone}
use Rattle.cycle.proofs.Members.{insts_before-filter}
use Rattle.cycle.proofs.Marks.{fired_member, member_fired, marked_insts, marked_fired}

-- ---- one at its place

pub with_inst_has : (i j : Inst) (xs : List Inst) → IsMember j (with_inst i xs) → IsMember j xs ⊎ (j ≡ i)
with_inst_has i j [] (inl e) = inr e
with_inst_has i j [] (inr n) = absurd n
with_inst_has i j (x ∷ xs) m = by (by_rule_and_tags i x) (with_inst_has i j xs) m
  where
    by : (o : Ordering) → (IsMember j (with_inst i xs) → IsMember j xs ⊎ (j ≡ i)) → IsMember j (match_ordering o (i ∷ x ∷ xs) (i ∷ xs) (x ∷ with_inst i xs)) → IsMember j (x ∷ xs) ⊎ (j ≡ i)
    by Less later (inl e) = inr e
    by Less later (inr n) = inl n
    by Equal later (inl e) = inr e
    by Equal later (inr n) = inl (inr n)
    by Greater later (inl e) = inl (inl e)
    by Greater later (inr n) = elim (later n) [ inl k ↦ inl (inr k) | inr e ↦ inr e ]

pub with_inst_holds : (i j : Inst) (xs : List Inst) → IsMember j xs → IsMember j (with_inst i xs)
with_inst_holds i j [] m = absurd m
with_inst_holds i j (x ∷ xs) m = by (by_rule_and_tags i x) (stand i x (by_rule_and_tags i x) refl) (with_inst_holds i j xs) m
  where
    by : (o : Ordering) → MatchOrdering o (Before i x) (i ≡ x) (Before x i) → (IsMember j xs → IsMember j (with_inst i xs)) → IsMember j (x ∷ xs) → IsMember j (match_ordering o (i ∷ x ∷ xs) (i ∷ xs) (x ∷ with_inst i xs))
    by Less h later n = inr n
    by Equal h later (inl e) = inl (e ∙ sym h)
    by Equal h later (inr n) = inr n
    by Greater h later (inl e) = inl e
    by Greater h later (inr n) = inr (later n)

pub with_inst_itself : (i : Inst) (xs : List Inst) → IsMember i (with_inst i xs)
with_inst_itself i [] = inl refl
with_inst_itself i (x ∷ xs) = by (by_rule_and_tags i x) (with_inst_itself i xs)
  where
    by : (o : Ordering) → IsMember i (with_inst i xs) → IsMember i (match_ordering o (i ∷ x ∷ xs) (i ∷ xs) (x ∷ with_inst i xs))
    by Less n = inl refl
    by Equal n = inl refl
    by Greater n = inr n

pub with_inst_in_order : (i : Inst) (xs : List Inst) → AllBefore Before xs → AllBefore Before (with_inst i xs)
with_inst_in_order i [] a = (λ y m. absurd m, tt)
with_inst_in_order i (x ∷ xs) a = by (by_rule_and_tags i x) (stand i x (by_rule_and_tags i x) refl) (with_inst_in_order i xs a.1)
  where
    after : Before i x → (y : Inst) → IsMember y (x ∷ xs) → Before i y
    after h y (inl e) = let P : Inst → Type 0 = Before i in subst P (sym e) h
    after h y (inr m) = before_trans i x y h (a.0 y m)

    by : (o : Ordering) → MatchOrdering o (Before i x) (i ≡ x) (Before x i) → AllBefore Before (with_inst i xs) → AllBefore Before (match_ordering o (i ∷ x ∷ xs) (i ∷ xs) (x ∷ with_inst i xs))
    by Less h later = (after h, a)
    by Equal h later = (λ y m. (let P : Inst → Type 0 = λ w. Before w y in subst P (sym h) (a.0 y m)), a.1)
    by Greater h later = (λ y m. elim (with_inst_has i y xs m) [ inl k ↦ a.0 y k | inr e ↦ (let P : Inst → Type 0 = Before x in subst P (sym e) h) ], later)

-- ---- the marks

-- Where a member is marked, it stands among the marks at its place.
pub marked_at : (i : Inst) (ms : List Member) → IsInOrder (insts_of ms) → Contains (insts_of ms) i → fired_of (marked i ms) ≡ with_inst i (fired_of ms)
marked_at i ms order there =
    same_members (fired_of (marked i ms)) (with_inst i (fired_of ms))
    (insts_before-filter (λ m. m.fired) (marked i ms) (let P : List Inst → Type 0 = AllBefore Before in subst P (sym (marked_insts i ms)) a))
    (with_inst_in_order i (fired_of ms) (insts_before-filter (λ m. m.fired) ms a)) to from
  where
    a : AllBefore Before (insts_of ms)
    a = before_from_all_pairs Before (insts_of ms) order

    placed : (j : Inst) → IsMember j (fired_of ms) ⊎ IsMember j (i ∷ []) → IsMember j (with_inst i (fired_of ms))
    placed j (inl m) = with_inst_holds i j (fired_of ms) m
    placed j (inr (inl e)) =
        let P : Inst → Type 0 = λ w. IsMember w (with_inst i (fired_of ms)) in subst P (sym e) (with_inst_itself i (fired_of ms))
    placed j (inr (inr n)) = absurd n

    to : (j : Inst) → IsMember j (fired_of (marked i ms)) → IsMember j (with_inst i (fired_of ms))
    to j m =
        placed j (member_cases j (fired_of ms) (i ∷ []) (member_from_contains j _ ((marked_fired i ms there j).0 (contains_from_member j (fired_of (marked i ms)) m))))

    from : (j : Inst) → IsMember j (with_inst i (fired_of ms)) → IsMember j (fired_of (marked i ms))
    from j m =
        member_from_contains j (fired_of (marked i ms)) ((marked_fired i ms there j).1 (contains_from_member j _ (elim (with_inst_has i j (fired_of ms) m) [
          | inl k ↦ member_left j (fired_of ms) (i ∷ []) k
          | inr e ↦ member_right j (fired_of ms) (i ∷ []) (inl e)
        ])))

-- Where what is gone was taken out, and what came was put in, the marks are those that were, less those of what is gone.
pub marks_less : (rules : List Rule) (gone come : List Inst) (old new : Indexed) → IsInOrder (insts_of old.members) → IsApplied rules gone come old new → fired_of new.members ≡ without_gone gone (fired_of old.members)
marks_less rules gone come old new order applied =
    same_members (fired_of new.members) (without_gone gone (fired_of old.members))
    (insts_before-filter (λ m. m.fired) new.members (before_from_all_pairs Before (insts_of new.members) applied.in_order))
    (all_before-filter Before (λ i. not (is_among gone i)) (fired_of old.members) (insts_before-filter (λ m. m.fired) old.members (before_from_all_pairs Before (insts_of old.members) order))) to from
  where
    was : (m : Member) (i : Inst) → m.fired ≡ true → i ≡ m.inst → Stays gone old.members m ⊎ Comes rules come m → IsMember i (without_gone gone (fired_of old.members))
    was m i on e (inl s) =
        let P : Inst → Type 0 = λ w. ¬ Contains gone w in
        member_from_contains i _ ((member-unfired (fired_of old.members) gone i).1 (member_fired old.members m i (member_from_contains m old.members s.0) on e, subst P (sym e) s.1))
    was m i on e (inr c) = absurd (false≢true (ap (λ (w : Member). w.fired) (sym c.2) ∙ on))

    to : (i : Inst) → IsMember i (fired_of new.members) → IsMember i (without_gone gone (fired_of old.members))
    to i p =
        let f = fired_member new.members i (contains_from_member i (fired_of new.members) p) in
        was f.0 i f.2 f.3 ((applied.members f.0).0 (contains_from_member f.0 new.members f.1))

    from : (i : Inst) → IsMember i (without_gone gone (fired_of old.members)) → IsMember i (fired_of new.members)
    from i p =
        let h = (member-unfired (fired_of old.members) gone i).0 (contains_from_member i _ p) in
        let f = fired_member old.members i h.0 in
        let P : Inst → Type 0 = λ w. ¬ Contains gone w in
        let stays = subst P f.3 h.1 in
        member_from_contains i (fired_of new.members) (member_fired new.members f.0 i (member_from_contains f.0 new.members ((applied.members f.0).1 (inl (contains_from_member f.0 old.members f.1, stays)))) f.2 f.3)

-- The same of a state.
pub marks_left : {M : Type 0} (k h : Held M) → k ≡ h → IsInOrder (insts_of k.index.members) → (rules : List Rule) (gone come : List Inst) (new : Indexed) → IsApplied rules gone come k.index new → fired_of new.members ≡ without_gone gone (fired_of h.index.members)
marks_left {M} k h is order rules gone come new applied =
    marks_less rules gone come k.index new order applied ∙ ap (λ (w : Held M). without_gone gone (fired_of w.index.members)) is

-- ---- a firing

-- what is lawful over a store, before a tag, is so over what the matcher stores
pub lawful_over : (x y : Stored) → x ≡ y → (tag : ℕ) → tag ≡ y.last + 1 → (cs : List Change) → Lawful x.elements (tag - 1) cs → Lawful y.elements y.last cs
lawful_over x y is tag next cs h =
    let last : tag - 1 ≡ y.last = omega (arith, next) in
    let P : Stored → Type 0 = λ w. Lawful w.elements (tag - 1) cs in
    let Q : ℕ → Type 0 = λ n. Lawful y.elements n cs in
    subst Q last (subst P is h)

-- after its phase it has left what its changes, its mark and what is gone make of the state before it
pub leaves : {M : Type 0} (stored : M → Stored) (h k s : Held M) (i : Inst) (halted : Bool) (built : List Rule) (changes : List Change) (gone : List Inst) (slice : List Change) → slice ≡ changes → (found : Finder)
    → k ≡ record h { index = record h.index { members = marked i h.index.members }; firings = h.firings + 1 } → fired_of k.index.members ≡ with_inst i (fired_of h.index.members)
    → ((names : Spellings) (coming : Coming) → state_course stored s names coming ≡ phase_by found slice k.firings (last_after (stored k.matcher).last slice) (state_course stored k names coming))
    → fired_of s.index.members ≡ without_gone gone (fired_of k.index.members)
    → standing stored s ≡ after_firing (record { inst = i; halted = halted; changes = changes; gone = gone; built = built }) (standing stored h)
leaves {M} stored h k s i halted built changes gone slice are found at marks phase less =
    let matcher : k.matcher ≡ h.matcher = ap (λ (w : Held M). w.matcher) at in
    let p = phase no_names no_input in
    let wm = ap (λ (m : Course). m.wm) p ∙ ap (λ (m : M). done (stored m).elements slice) matcher ∙ ap (λ cs. done (stored h.matcher).elements cs) are in
    let last = ap (λ (m : Course). m.last) p ∙ ap (λ (m : M). last_after (stored m).last slice) matcher ∙ ap (λ cs. last_after (stored h.matcher).last cs) are in
    let fired = less ∙ ap (without_gone gone) marks in
    λ n. record { wm = wm n; fired = fired n; last = last n }
