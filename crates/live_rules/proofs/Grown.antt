-- What a state is once one production was added to its matcher.
use Rattle.std.proofs.Common.{◌≡◌, ℕ, zero, suc, ◌<◌, List, [], ◌∷◌, length, take, true, Some, refl, ap, sym, ◌∙◌, subst, inl, inr, ◌⊎◌, unwrap_or, option_map}
use Rattle.std.specs.Prelude.{slice_get, Contains, ◌↔◌}
use Rattle.std.proofs.lemmas.Bool.{false≢true}
use Rattle.std.proofs.lemmas.List.Elements.{All-contains}
use Rattle.std.proofs.lemmas.Option.{slice_get_within}
use Rattle.ops_base.specs.declared.elements.Element.{Element}
use Rattle.ops_base.specs.declared.rules.Inst.{Inst}
use Rattle.ops_base.specs.declared.rules.Rule.{Rule}
use Rattle.ops_base.specs.Dominance.{specificity_of}
use Rattle.ops_base.specs.Instances.{AreOf, Before, IsConflictSet, IsInOrder, IsInst}
use Rattle.ops_base.specs.Names.{Spellings}
use Rattle.ops_base.proofs.ConflictSetLaws.{same_members}
use Rattle.ops_base.proofs.Earlier.{get_of_take}
use Rattle.ops_base.proofs.InOrder.{before_from_all_pairs}
use Rattle.ops_base.proofs.Members.{IsMember, member_from_contains, contains_from_member, all_from_members}
use Rattle.ops_io.specs.Coming.{Coming}
use Rattle.work_store.specs.Settling.{IsSettled}
use Rattle.work_store.specs.Stored.{Stored}
use Rattle.conflict_index.specs.Indexed.{Indexed, Member, insts_of, fired_of, KeepsSpecificities}
use Rattle.conflict_index.specs.Applying.{Stays, Comes, IsApplied, IsPart, IsApart}
use Rattle.cycle.specs.States.{Agree, Held, state_course}
use Rattle.cycle.proofs.Marks.{fired_member, member_fired, member_inst}
use Rattle.cycle.proofs.Members.{insts_before-filter}
use Rattle.cycle.proofs.Phases.{gone_part, come_apart, same_after}
use Rattle.live_rules.specs.Renewing.{IsOf}

-- ---- the first of the productions

get_in_more : {X : Type 0} (n i : ℕ) (xs : List X) (x : X) → slice_get (take n xs) i ≡ Some x → slice_get (take (suc n) xs) i ≡ Some x
get_in_more zero i xs x e = cc
get_in_more (suc n) i [] x e = e
get_in_more (suc n) zero (y ∷ xs) x e = e
get_in_more (suc n) (suc i) (y ∷ xs) x e = get_in_more n i xs x e

inst_in_more : (n : ℕ) (rules : List Rule) (wm : List Element) (i : Inst) → IsInst (take n rules) wm i → IsInst (take (suc n) rules) wm i
inst_in_more n rules wm i h = (h.0, get_in_more n i.rule rules h.0 h.1, h.2)

inst_below : (n : ℕ) (rules : List Rule) (wm : List Element) (i : Inst) → IsInst (take n rules) wm i → i.rule < length rules
inst_below n rules wm i h = slice_get_within rules i.rule h.0 (get_of_take n i.rule rules h.0 h.1)

-- a production has one specificity, wherever the list ends after it
same_specificity : (n k : ℕ) (rules : List Rule) (r : Rule) → slice_get (take n rules) k ≡ Some r → specificity_of (take n rules) k ≡ specificity_of rules k
same_specificity n k rules r e =
    ap (λ o. unwrap_or (option_map (λ (w : Rule). w.specificity) o) 0) (e ∙ sym (get_of_take n k rules r e))

module _ (n : ℕ) (rules : List Rule) (wm : List Element) (ms : List Member) (of : (i : Inst) → Contains (insts_of ms) i → IsInst (take n rules) wm i) where
  of_first : (m : Member) → IsMember m ms → specificity_of (take n rules) m.inst.rule ≡ specificity_of rules m.inst.rule
  of_first m p = let is = of m.inst (member_inst ms m m.inst p refl) in same_specificity n m.inst.rule rules is.0 is.1

  keeps_in_all : KeepsSpecificities (take n rules) ms → KeepsSpecificities rules ms
  keeps_in_all keeps =
      all_from_members (λ (m : Member). m.specificity ≡ specificity_of rules m.inst.rule) ms (λ m p.
      All-contains (λ (w : Member). w.specificity ≡ specificity_of (take n rules) w.inst.rule) ms m keeps (contains_from_member m ms p) ∙ of_first m p)

  keeps_in_first : KeepsSpecificities rules ms → KeepsSpecificities (take n rules) ms
  keeps_in_first keeps =
      all_from_members (λ (m : Member). m.specificity ≡ specificity_of (take n rules) m.inst.rule) ms (λ m p.
      All-contains (λ (w : Member). w.specificity ≡ specificity_of rules w.inst.rule) ms m keeps (contains_from_member m ms p) ∙ sym (of_first m p))

-- ---- what is found

-- One matcher found what the first so many productions match, and these members have it. Another finds what one more
-- production matches too, over the same elements.
pub record Grows (n : ℕ) (rules : List Rule) (wm : List Element) (ms : List Member) (before now gone come : List Inst) : Type 0 where
  pub had : IsConflictSet (take n rules) wm before
  pub has : IsConflictSet (take (suc n) rules) wm now
  pub same : (i : Inst) → Contains (insts_of ms) i ↔ Contains before i
  pub in_order : IsInOrder (insts_of ms)
  pub settled : IsSettled before now gone come

module _ (n : ℕ) (rules : List Rule) (wm : List Element) (ms : List Member) (before now gone come : List Inst) (g : Grows n rules wm ms before now gone come) where
  -- all that was found still is
  none_gone : (i : Inst) → ¬ Contains gone i
  none_gone i h = let f = (g.settled.gone_is i).0 h in f.1 (g.has.complete i (inst_in_more n rules wm i (g.had.sound i f.0)))

  member_is : (i : Inst) → Contains (insts_of ms) i → IsInst (take n rules) wm i
  member_is i h = g.had.sound i ((g.same i).0 h)

  pub grown_members : AreOf rules (insts_of ms)
  grown_members =
      all_from_members (λ (i : Inst). i.rule < length rules) (insts_of ms)
      (λ i m. inst_below n rules wm i (member_is i (contains_from_member i (insts_of ms) m)))

  pub grown_gone : AreOf rules gone
  grown_gone =
      all_from_members (λ (i : Inst). i.rule < length rules) gone (λ i m. absurd (none_gone i (contains_from_member i gone m)))

  pub grown_come : AreOf rules come
  grown_come =
      all_from_members (λ (i : Inst). i.rule < length rules) come
      (λ i m. inst_below (suc n) rules wm i (g.has.sound i ((g.settled.come_is i).0 (contains_from_member i come m)).0))

  pub grown_keeps : KeepsSpecificities (take n rules) ms → KeepsSpecificities rules ms
  grown_keeps keeps = keeps_in_all n rules wm ms member_is keeps

  pub grown_part : IsPart gone (insts_of ms)
  grown_part = gone_part before now gone come g.settled ms g.same

  pub grown_apart : IsApart come (insts_of ms)
  grown_apart = come_apart before now gone come g.settled ms g.same

module _ (n : ℕ) (rules : List Rule) (wm : List Element) (before now gone come : List Inst) (old new : Indexed) (g : Grows n rules wm old.members before now gone come) (applied : IsApplied rules gone come old new) where
  pub grown_same : (i : Inst) → Contains (insts_of new.members) i ↔ Contains now i
  grown_same = same_after rules before now gone come old new g.settled applied g.same

  pub grown_kept : KeepsSpecificities rules new.members → KeepsSpecificities (take (suc n) rules) new.members
  grown_kept keeps = keeps_in_first (suc n) rules wm new.members (λ i h. g.has.sound i ((grown_same i).0 h)) keeps

  -- no mark goes, and none comes
  pub grown_marks : fired_of new.members ≡ fired_of old.members
  grown_marks =
      same_members (fired_of new.members) (fired_of old.members)
      (insts_before-filter (λ m. m.fired) new.members (before_from_all_pairs Before (insts_of new.members) applied.in_order))
      (insts_before-filter (λ m. m.fired) old.members (before_from_all_pairs Before (insts_of old.members) g.in_order)) to from
    where
      was : (i : Inst) (m : Member) → m.fired ≡ true → i ≡ m.inst → Stays gone old.members m ⊎ Comes rules come m → IsMember i (fired_of old.members)
      was i m on e (inl s) =
          member_from_contains i (fired_of old.members) (member_fired old.members m i (member_from_contains m old.members s.0) on e)
      was i m on e (inr c) = absurd (false≢true (ap (λ (w : Member). w.fired) (sym c.2) ∙ on))

      to : (i : Inst) → IsMember i (fired_of new.members) → IsMember i (fired_of old.members)
      to i p =
          let f = fired_member new.members i (contains_from_member i (fired_of new.members) p) in
          was i f.0 f.2 f.3 ((applied.members f.0).0 (contains_from_member f.0 new.members f.1))

      from : (i : Inst) → IsMember i (fired_of old.members) → IsMember i (fired_of new.members)
      from i p =
          let f = fired_member old.members i (contains_from_member i (fired_of old.members) p) in
          let still = none_gone n rules wm old.members before now gone come g f.0.inst in
          let there = (applied.members f.0).1 (inl (contains_from_member f.0 old.members f.1, still)) in
          member_from_contains i (fired_of new.members) (member_fired new.members f.0 i (member_from_contains f.0 new.members there) f.2 f.3)

-- ---- the state

-- what agreed in a state agrees once it was taken apart
pub agree_apart : {M : Type 0} (stored : M → Stored) (found : M → List Inst) (stands_for : M → List Rule → Type 0) (k : Held M) (m : M) (x : Indexed) → m ≡ k.matcher → x ≡ k.index
    → Agree (stored k.matcher) (found k.matcher) (stands_for k.matcher) k.index.members → Agree (stored m) (found m) (stands_for m) x.members
agree_apart {M} stored found stands_for k m x e f h =
    let P : M → Type 0 = λ w. Agree (stored w) (found w) (stands_for w) x.members in
    let Q : Indexed → Type 0 = λ w. Agree (stored k.matcher) (found k.matcher) (stands_for k.matcher) w.members in
    subst P (sym e) (subst Q (sym f) h)

pub grows : {M : Type 0} (stored : M → Stored) (found : M → List Inst) (stands_for : M → List Rule → Type 0) (n : ℕ) (rules : List Rule) (k : Held M) (m now : M) (x : Indexed) (went came gone come : List Inst) → IsOf stands_for (take n rules) k → m ≡ k.matcher → x ≡ k.index
    → Agree (stored k.matcher) (found k.matcher) (stands_for k.matcher) k.index.members → stands_for now (take (suc n) rules) → ((rules : List Rule) → stands_for now rules → IsConflictSet rules (stored now).elements (found now)) → (stored now).elements ≡ (stored m).elements
    → IsSettled (found m) (found now) went came → gone ≡ went → come ≡ came → Grows n rules (stored m).elements x.members (found m) (found now) gone come
grows {M} stored found stands_for n rules k m now x went came gone come of e f agree stands sets elements settles as_gone as_come =
    let a = agree_apart stored found stands_for k m x e f agree in
    let S : M → Type 0 = λ w. stands_for w (take n rules) in
    let P : List Element → Type 0 = λ wm. IsConflictSet (take (suc n) rules) wm (found now) in
    let Q : List Inst → Type 0 = λ insts. IsSettled (found m) (found now) insts came in
    let R : List Inst → Type 0 = λ insts. IsSettled (found m) (found now) gone insts in
    record {
      had = a.set (take n rules) (subst S (sym e) of.stands);
      has = subst P elements (sets (take (suc n) rules) stands);
      same = a.same;
      in_order = a.in_order;
      settled = subst R (sym as_come) (subst Q (sym as_gone) settles);
    }

pub keeps_apart : (rules : List Rule) (x y : Indexed) → x ≡ y → KeepsSpecificities rules y.members → KeepsSpecificities rules x.members
keeps_apart rules x y e h = let P : Indexed → Type 0 = λ w. KeepsSpecificities rules w.members in subst P (sym e) h

pub course_kept : {M : Type 0} (stored : M → Stored) (k s : Held M) (m : M) (x : Indexed) (f : ℕ) → s ≡ record { matcher = m; index = x; firings = f } → (stored m).elements ≡ (stored k.matcher).elements → (stored m).last ≡ (stored k.matcher).last → x.strategy ≡ k.index.strategy → f ≡ k.firings
    → fired_of x.members ≡ fired_of k.index.members → (names : Spellings) (coming : Coming) → state_course stored s names coming ≡ state_course stored k names coming
course_kept {M} stored k s m x f is elements last strategy firings fired names coming =
    ap (λ (h : Held M). state_course stored h names coming) is
    ∙ (λ i. record { wm = elements i; strategy = strategy i; fired = fired i; firings = firings i; last = last i; names = names; coming = coming })

pub is_of : {M : Type 0} (stands_for : M → List Rule → Type 0) (rules : List Rule) (s : Held M) (m : M) (x : Indexed) (f : ℕ) → s ≡ record { matcher = m; index = x; firings = f } → stands_for m rules → KeepsSpecificities rules x.members → IsOf stands_for rules s
is_of {M} stands_for rules s m x f is stands keeps =
    let P : Held M → Type 0 = λ k. IsOf stands_for rules k in subst P (sym is) (record { stands = stands; specificities = keeps })

-- working memory, the strategy, the marks, the last tag and the number of firings are as they were
pub course_grown : {M : Type 0} (stored : M → Stored) (k s : Held M) (m now : M) (x y : Indexed) (f : ℕ) → s ≡ record { matcher = now; index = y; firings = f } → m ≡ k.matcher → x ≡ k.index → f ≡ k.firings → (stored now).elements ≡ (stored m).elements → (stored now).last ≡ (stored m).last
    → y.strategy ≡ x.strategy → fired_of y.members ≡ fired_of x.members → (names : Spellings) (coming : Coming) → state_course stored s names coming ≡ state_course stored k names coming
course_grown {M} stored k s m now x y f is e same firings elements last strategy fired =
    course_kept stored k s now y f is (elements ∙ ap (λ (w : M). (stored w).elements) e) (last ∙ ap (λ (w : M). (stored w).last) e) (strategy ∙ ap (λ (w : Indexed). w.strategy) same) firings
    (fired ∙ ap (λ (w : Indexed). fired_of w.members) same)
