-- What a phase makes of the members and of the marks.
use Rattle.std.proofs.Common.{◌≡◌, ℕ, List, Option, true, refl, ap, sym, ◌∙◌, subst, inl, inr, ◌⊎◌}
use Rattle.std.specs.Prelude.{Contains, ◌↔◌}
use Rattle.std.proofs.lemmas.Bool.{false≢true}
use Rattle.ops_base.specs.declared.elements.Element.{Element}
use Rattle.ops_base.specs.declared.commands.Strategy.{Strategy}
use Rattle.ops_base.specs.declared.elements.Change.{Change}
use Rattle.ops_base.specs.declared.rules.Inst.{Inst}
use Rattle.ops_base.specs.declared.rules.Rule.{Rule}
use Rattle.ops_base.specs.ConflictSet.{conflict_set}
use Rattle.ops_base.specs.Instances.{Before, IsConflictSet, AreOf}
use Rattle.ops_base.specs.Names.{Spellings}
use Rattle.ops_base.specs.Refraction.{is_among, still_fired, unfired, dominant}
use Rattle.ops_base.specs.WorkingMemory.{done, last_after}
use Rattle.ops_base.proofs.Members.{IsMember, member_from_contains, contains_from_member, all_from_members}
use Rattle.ops_base.proofs.InOrder.{AllBefore, before_from_all_pairs}
use Rattle.ops_base.proofs.Filtered.{all_before-filter}
use Rattle.ops_base.proofs.ConflictSetLaws.{same_members, computed_of}
use Rattle.ops_base.proofs.RefractionLaws.{among_or_not, member-still_fired}
use Rattle.ops_io.specs.Coming.{Coming}
use Rattle.ops_meaning.specs.Kept.{WellKept}
use Rattle.ops_meaning.specs.Running.{Course, next_to_fire, phase_by}
use Rattle.work_store.specs.Settling.{IsSettled}
use Rattle.work_store.specs.Stored.{Stored}
use Rattle.conflict_index.specs.Indexed.{Member, Indexed, insts_of, fired_of, waiting, KeepsSpecificities}
use Rattle.conflict_index.specs.Applying.{newcomer, Stays, Comes, IsApplied, IsPart, IsApart}
use Rattle.cycle.specs.States.{Held, Agree, state_course}
use Rattle.cycle.proofs.Members.{insts_before-filter, members_computed, set_of, part_of}
use Rattle.cycle.proofs.Marks.{fired_member, member_fired, inst_member, member_inst, waiting_are}

module _ (before now gone come : List Inst) (settled : IsSettled before now gone come) (ms : List Member) (same : (i : Inst) → Contains (insts_of ms) i ↔ Contains before i) where
  -- what is gone was among the members
  pub gone_part : IsPart gone (insts_of ms)
  gone_part =
      all_from_members (Contains (insts_of ms)) gone (λ i m. (same i).1 ((settled.gone_is i).0 (contains_from_member i gone m)).0)

  -- what comes was not
  pub come_apart : IsApart come (insts_of ms)
  come_apart =
      all_from_members (λ i. ¬ Contains (insts_of ms) i) come (λ i m h. ((settled.come_is i).0 (contains_from_member i come m)).1 ((same i).0 h))

module _ (rules : List Rule) (before now gone come : List Inst) (old new : Indexed) (settled : IsSettled before now gone come) (applied : IsApplied rules gone come old new) (same : (i : Inst) → Contains (insts_of old.members) i ↔ Contains before i) where
  -- The members are again what is found.
  pub same_after : (i : Inst) → Contains (insts_of new.members) i ↔ Contains now i
  same_after i = (to, from)
    where
      still : Contains before i → ¬ Contains gone i → Contains now i ⊎ ¬ Contains now i → Contains now i
      still b g (inl n) = n
      still b g (inr n) = absurd (g ((settled.gone_is i).1 (b, n)))

      by : (m : Member) → i ≡ m.inst → Stays gone old.members m ⊎ Comes rules come m → Contains now i
      by m e (inl s) =
          let P : Inst → Type 0 = λ w. ¬ Contains gone w in
          still ((same i).0 (member_inst old.members m i (member_from_contains m old.members s.0) e)) (subst P (sym e) s.1) (among_or_not now i)
      by m e (inr c) =
          let P : Inst → Type 0 = Contains come in
          ((settled.come_is i).0 (subst P (sym (e ∙ ap (λ (w : Member). w.inst) c.2)) c.1)).0

      to : Contains (insts_of new.members) i → Contains now i
      to h =
          let f = inst_member new.members i h in
          by f.0 f.2 ((applied.members f.0).0 (contains_from_member f.0 new.members f.1))

      there : Contains now i → Contains before i ⊎ ¬ Contains before i → Contains (insts_of new.members) i
      there n (inl b) =
          let f = inst_member old.members i ((same i).1 b) in
          let P : Inst → Type 0 = λ w. ¬ Contains gone w in
          let stays = subst P f.2 (λ g. ((settled.gone_is i).0 g).1 n) in
          member_inst new.members f.0 i (member_from_contains f.0 new.members ((applied.members f.0).1 (inl (contains_from_member f.0 old.members f.1, stays)))) f.2
      there n (inr b) =
          let m = newcomer rules i in
          member_inst new.members m i (member_from_contains m new.members ((applied.members m).1 (inr (i, (settled.come_is i).1 (n, b), refl)))) refl

      from : Contains now i → Contains (insts_of new.members) i
      from n = there n (among_or_not before i)

  -- What is marked is what was marked and is still found.
  pub marks_after : (fired : List Inst) → ((i : Inst) → Contains (fired_of old.members) i ↔ Contains fired i) → fired_of new.members ≡ still_fired (insts_of new.members) fired
  marks_after fired marks =
      same_members (fired_of new.members) (still_fired (insts_of new.members) fired) (insts_before-filter (λ m. m.fired) new.members a)
      (all_before-filter Before (λ i. is_among fired i) (insts_of new.members) a) to from
    where
      a : AllBefore Before (insts_of new.members)
      a = before_from_all_pairs Before (insts_of new.members) applied.in_order

      was : (m : Member) (i : Inst) → m.fired ≡ true → i ≡ m.inst → Stays gone old.members m ⊎ Comes rules come m → Contains fired i
      was m i on e (inl s) =
          (marks i).0 (member_fired old.members m i (member_from_contains m old.members s.0) on e)
      was m i on e (inr c) = absurd (false≢true (ap (λ (w : Member). w.fired) (sym c.2) ∙ on))

      to : (i : Inst) → IsMember i (fired_of new.members) → IsMember i (still_fired (insts_of new.members) fired)
      to i p =
          let f = fired_member new.members i (contains_from_member i (fired_of new.members) p) in
          let marked = was f.0 i f.2 f.3 ((applied.members f.0).0 (contains_from_member f.0 new.members f.1)) in
          member_from_contains i (still_fired (insts_of new.members) fired) ((member-still_fired (insts_of new.members) fired i).1 (member_inst new.members f.0 i f.1 f.3, marked))

      from : (i : Inst) → IsMember i (still_fired (insts_of new.members) fired) → IsMember i (fired_of new.members)
      from i p =
          let h = (member-still_fired (insts_of new.members) fired i).0 (contains_from_member i (still_fired (insts_of new.members) fired) p) in
          let f = fired_member old.members i ((marks i).1 h.1) in
          let P : Inst → Type 0 = λ w. ¬ Contains gone w in
          let stays = subst P f.3 (λ g. ((settled.gone_is i).0 g).1 ((same_after i).0 h.0)) in
          member_from_contains i (fired_of new.members) (member_fired new.members f.0 i (member_from_contains f.0 new.members ((applied.members f.0).1 (inl (contains_from_member f.0 old.members f.1, stays)))) f.2 f.3)

-- ---- a state

module _ {M : Type 0} (stored : M → Stored) (found : M → List Inst) (stands_for : M → List Rule → Type 0) (matcher : M) (index : Indexed) (firings : ℕ) (agree : Agree (stored matcher) (found matcher) (stands_for matcher) index.members) (h : Held M)
    (is : record { matcher = matcher; index = index; firings = firings } ≡ h) (rules : List Rule) where
  -- the members are the conflict set
  computed : stands_for matcher rules → insts_of index.members ≡ conflict_set rules (stored matcher).elements
  computed stands =
      members_computed rules (stored matcher).elements (found matcher) index.members agree.well.0 (agree.set rules stands) agree.same agree.in_order

  pub set_is : stands_for h.matcher rules → insts_of h.index.members ≡ conflict_set rules (stored h.matcher).elements
  set_is = let P : Held M → Type 0 = λ k. stands_for k.matcher rules → insts_of k.index.members ≡ conflict_set rules (stored k.matcher).elements in subst P is computed

  -- what the index selects fires next
  pub next_is : (o : Option Inst) → ((rules : List Rule) → KeepsSpecificities rules index.members → o ≡ dominant index.strategy rules (insts_of (waiting index.members))) → (names : Spellings) (coming : Coming) → stands_for h.matcher rules → KeepsSpecificities rules h.index.members
      → o ≡ next_to_fire rules (state_course stored h names coming)
  next_is o selects names coming =
      let P : Held M → Type 0 = λ k. stands_for k.matcher rules → KeepsSpecificities rules k.index.members → o ≡ next_to_fire rules (state_course stored k names coming) in
      subst P is (λ stands keeps. selects rules keeps
      ∙ ap (dominant index.strategy rules) (waiting_are index.members agree.in_order ∙ ap (λ insts. unfired insts (fired_of index.members)) (computed stands)))

  module _ (stands : stands_for h.matcher rules) where
    there : stands_for matcher rules
    there = let P : Held M → Type 0 = λ k. stands_for k.matcher rules in subst P (sym is) stands

    -- the members are of the rules
    pub members_of : AreOf rules (insts_of index.members)
    members_of = computed_of rules (stored matcher).elements (insts_of index.members) (computed there)

    pub specificities : KeepsSpecificities rules h.index.members → KeepsSpecificities rules index.members
    specificities keeps =
        let P : Held M → Type 0 = λ k. KeepsSpecificities rules k.index.members in subst P (sym is) keeps

    module _ (now : M) (went came gone come : List Inst) (settles : IsSettled (found matcher) (found now) went came) (as_gone : gone ≡ went) (as_come : come ≡ came) (well : WellKept (stored now).elements (stored now).last)
        (sets : (rules : List Rule) → stands_for now rules → IsConflictSet rules (stored now).elements (found now)) (stand : (rules : List Rule) → stands_for matcher rules → stands_for now rules) where
      pub settled : IsSettled (found matcher) (found now) gone come
      settled =
          let P : List Inst → Type 0 = λ xs. IsSettled (found matcher) (found now) xs came in
          let Q : List Inst → Type 0 = λ xs. IsSettled (found matcher) (found now) gone xs in subst Q (sym as_come) (subst P (sym as_gone) settles)

      pub gone_of : AreOf rules gone
      gone_of =
          part_of rules gone (found matcher) (set_of rules (stored matcher).elements (found matcher) agree.well.0 (agree.set rules there)) (λ i m. ((settled.gone_is i).0 m).0)

      pub come_of : AreOf rules come
      come_of =
          part_of rules come (found now) (set_of rules (stored now).elements (found now) well.0 (sets rules (stand rules there))) (λ i m. ((settled.come_is i).0 m).0)

      pub is_part : IsPart gone (insts_of index.members)
      is_part = gone_part (found matcher) (found now) gone come settled index.members agree.same

      pub is_apart : IsApart come (insts_of index.members)
      is_apart = come_apart (found matcher) (found now) gone come settled index.members agree.same

      module _ (new : Indexed) (applied : IsApplied rules gone come index new) where
        pub again : (i : Inst) → Contains (insts_of new.members) i ↔ Contains (found now) i
        again = same_after rules (found matcher) (found now) gone come index new settled applied agree.same

        -- A phase has ended.
        pub phase_done : (changes : List Change) → (stored now).elements ≡ done (stored matcher).elements changes → (stored now).last ≡ last_after (stored matcher).last changes → (s : Held M) → s ≡ record { matcher = now; index = new; firings = firings } → (names : Spellings) (coming : Coming)
            → state_course stored s names coming ≡ phase_by (conflict_set rules) changes h.firings (last_after (stored h.matcher).last changes) (state_course stored h names coming)
        phase_done changes elements last s made names coming =
            let wm = done (stored matcher).elements changes in
            let set : insts_of new.members ≡ conflict_set rules wm =
            members_computed rules (stored now).elements (found now) new.members well.0 (sets rules (stand rules there)) again applied.in_order
            ∙ ap (λ w. conflict_set rules w) elements in
            let marks : fired_of new.members ≡ still_fired (conflict_set rules wm) (fired_of index.members) =
            marks_after rules (found matcher) (found now) gone come index new settled applied agree.same (fired_of index.members) (λ i. (λ x. x, λ x. x))
            ∙ ap (λ insts. still_fired insts (fired_of index.members)) set in
            let course : List Element → Strategy → List Inst → ℕ → Course = λ w g f l. record { wm = w; strategy = g; fired = f; firings = firings; last = l; names = names; coming = coming } in
            let P : Held M → Type 0 = λ k. state_course stored s names coming ≡ phase_by (conflict_set rules) changes k.firings (last_after (stored k.matcher).last changes) (state_course stored k names coming) in
            subst P is
            (ap (λ (k : Held M). state_course stored k names coming) made
            ∙ ap (λ w. course w new.strategy (fired_of new.members) (stored now).last) elements
            ∙ ap (λ g. course wm g (fired_of new.members) (stored now).last) applied.strategy
            ∙ ap (λ f. course wm index.strategy f (stored now).last) marks
            ∙ ap (λ l. course wm index.strategy (still_fired (conflict_set rules wm) (fired_of index.members)) l) last)
