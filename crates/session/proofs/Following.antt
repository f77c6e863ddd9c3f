-- A session whose state follows the productions in force, and what it has come to by new numbers of productions.
use Rattle.std.proofs.Common.{◌≡◌, ◌∙◌, ap, sym, subst, refl, ℕ, zero, suc, ◌+◌, ◌<◌, List, [], ◌∷◌, length, Option, Some, None, inl, inr, arith}
use Rattle.std.specs.Prelude.{Contains, option_map, slice_get}
use Rattle.std.specs.List.{cons_option}
use Rattle.ops_base.specs.declared.elements.Element.{Element}
use Rattle.ops_base.specs.declared.rules.Inst.{Inst}
use Rattle.ops_base.specs.declared.rules.Rule.{Rule}
use Rattle.ops_base.specs.ConflictSet.{conflict_set}
use Rattle.ops_base.specs.Live.{renumbered}
use Rattle.ops_base.specs.Names.{Spellings}
use Rattle.ops_base.specs.WorkingMemory.{HasRisingTags, last_after, Lawful}
use Rattle.ops_base.proofs.ConflictSetLaws.{conflict_set-is}
use Rattle.ops_base.proofs.Members.{IsMember, contains_from_member}
use Rattle.ops_io.specs.Coming.{Coming}
use Rattle.ops_meaning.specs.Running.{Course, Session as Meant}
use Rattle.conflict_index.specs.Indexed.{Member, insts_of, fired_of}
use Rattle.cycle.specs.States.{Held, no_names, no_input, state_course}
use Rattle.cycle.proofs.Marks.{fired_member, member_inst}
use Rattle.live_rules.specs.Moves.{Places, Leads, stays, numbered_from, unmoved, place_of, inst_moved, insts_moved}
use Rattle.live_rules.specs.Renewing.{IsFrom, moved_course}
use Rattle.work_store.specs.Stored.{Stored}
use Rattle.session.specs.Courses.{with_pending, with_moved, marks_moved, places_of, meant_by, IsOf, IsFollowed, IsUnderWay}
use Rattle.session.specs.declared.session.Session.{Session}

-- ---- the state follows

module _ {M H : Type 0} (stored : M → Stored) (stands_for : M → List Rule → Type 0) (rules : List Rule) (s : Session M H) (p : IsUnderWay stored stands_for rules s) (places : Places) (is : s.moved ≡ Some places) where
  -- the state is of older productions, from which these numbers lead to those in force
  pub is_from : IsFrom stands_for places rules s.state
  is_from = let P : Option Places → Type 0 = λ o. IsFollowed stands_for rules o s.state in subst P is p.state

  module _ (h : Held M) (course : (n : Spellings) (z : Coming) → state_course stored h n z ≡ moved_course places (state_course stored s.state n z)) where
    abbrev followed : Session M H
    followed = record s { state = h; moved = None }

    pub followed_meant : (n : Spellings) (z : Coming) → meant_by stored rules followed n z ≡ meant_by stored rules s n z
    followed_meant n z =
        let by : Course → Meant = λ m. record { course = m; rules = rules; watch = s.watch; breaks = s.breaks; trail = None } in
        ap by
        (ap (with_pending s.pending) (course n z)
        ∙ ap (λ o. with_pending s.pending (with_moved o (state_course stored s.state n z))) (sym is))

    pub followed_under_way : IsOf stands_for rules h → IsUnderWay stored stands_for rules followed
    followed_under_way of =
        let same = course no_names no_input in
        record {
          state = of;
          unmarked = λ e. ap (λ (m : Course). m.fired) same ∙ ap (insts_moved places) (p.unmarked e);
          none_waits = p.none_waits;
          lawful = let P : Course → Type 0 = λ m. Lawful m.wm m.last s.pending in subst P (sym same) p.lawful;
          last = p.last ∙ ap (λ (m : Course). last_after m.last s.pending) (sym same);
        }

-- where no number has changed, the session stays as it is
pub followed_none : {M H : Type 0} (s : Session M H) → s.moved ≡ None → record s { moved = None } ≡ s
followed_none {M} {H} s is = ap (λ o. let t : Session M H = record s { moved = o } in t) (sym is)

-- ---- the first numbers

numbered_at : (first count n : ℕ) → n < count → place_of (numbered_from first count) n ≡ Some (first + n)
numbered_at first zero n h = absurd (none_before n h)
  where
    none_before : (n : ℕ) → n < 0 → ⊥
    none_before n h = omega arith
numbered_at first (suc count) zero h = ap Some (omega arith)
numbered_at first (suc count) (suc n) h = numbered_at (suc first) count n (omega (arith, h)) ∙ ap Some (omega arith)

-- instantiations of productions that are there stay as they are
unmoved_insts : (count : ℕ) (insts : List Inst) → ((i : Inst) → IsMember i insts → i.rule < count) → insts_moved (unmoved count) insts ≡ insts
unmoved_insts count [] within = refl
unmoved_insts count (i ∷ insts) within =
    ap (λ o. cons_option o (insts_moved (unmoved count) insts)) here ∙ ap (λ is. i ∷ is) (unmoved_insts count insts (λ j m. within j (inr m)))
  where
    here : inst_moved (unmoved count) i ≡ Some i
    here = ap (option_map (renumbered i)) (numbered_at 0 count i.rule (within i (inl refl)) ∙ ap Some (omega arith))

pub first_marks : (moved : Option Places) (count : ℕ) (fired : List Inst) → (moved ≡ None → (i : Inst) → IsMember i fired → i.rule < count) → marks_moved (Some (places_of moved count)) fired ≡ marks_moved moved fired
first_marks None count fired within = unmoved_insts count fired (within refl)
first_marks (Some places) count fired within = refl

get_some : {X : Type 0} (xs : List X) (n : ℕ) (x : X) → slice_get xs n ≡ Some x → n < length xs
get_some [] n x e = absurd (cc)
get_some (y ∷ xs) zero x e = omega arith
get_some (y ∷ xs) (suc n) x e = let lt = get_some xs n x e in omega (arith, lt)

-- a mark is of a production that is there
pub marks_within : (rules : List Rule) (wm : List Element) (ms : List Member) → HasRisingTags wm → insts_of ms ≡ conflict_set rules wm → (i : Inst) → IsMember i (fired_of ms) → i.rule < length rules
marks_within rules wm ms rising set i m =
    let f = fired_member ms i (contains_from_member i (fired_of ms) m) in
    let P : List Inst → Type 0 = λ is. Contains is i in
    let there = (conflict_set-is rules wm rising).sound i (subst P set (member_inst ms f.0 i f.1 f.3)) in
    get_some rules i.rule there.0 there.1

module _ {M H : Type 0} (stored : M → Stored) (stands_for : M → List Rule → Type 0) (rules : List Rule) (s : Session M H) (p : IsUnderWay stored stands_for rules s)
    (rising : HasRisingTags (stored s.state.matcher).elements) (set : stands_for s.state.matcher rules → insts_of s.state.index.members ≡ conflict_set rules (stored s.state.matcher).elements)
    (places : Places) (first : places ≡ places_of s.moved (length rules)) where
  abbrev numbered : Session M H
  numbered = record s { moved = Some places }

  of_force : s.moved ≡ None → IsOf stands_for rules s.state
  of_force is = let P : Option Places → Type 0 = λ o. IsFollowed stands_for rules o s.state in subst P is p.state

  within : s.moved ≡ None → (i : Inst) → IsMember i (fired_of s.state.index.members) → i.rule < length rules
  within is i m =
      let of = of_force is in marks_within rules (stored s.state.matcher).elements s.state.index.members rising (set of.stands) i m

  pub numbered_meant : (n : Spellings) (z : Coming) → meant_by stored rules numbered n z ≡ meant_by stored rules s n z
  numbered_meant n z =
      let st = state_course stored s.state n z in
      let by : List Inst → Meant = λ fired. record { course = with_pending s.pending (record st { fired = fired }); rules = rules; watch = s.watch; breaks = s.breaks; trail = None } in
      ap by (ap (λ ps. marks_moved (Some ps) st.fired) first ∙ first_marks s.moved (length rules) st.fired within)

  pub numbered_under_way : IsUnderWay stored stands_for rules numbered
  numbered_under_way = record {
    state = by s.moved refl p.state;
    unmarked = p.unmarked;
    none_waits = p.none_waits;
    lawful = p.lawful;
    last = p.last;
  }
    where
      by : (o : Option Places) → s.moved ≡ o → IsFollowed stands_for rules o s.state → IsFrom stands_for places rules s.state
      by None is of =
          let P : Places → Type 0 = λ ps. Leads ps rules rules in
          record {
            old = rules;
            leads = subst P (sym (first ∙ ap (λ o. places_of o (length rules)) is)) (stays rules);
            stands = of.stands;
            specificities = of.specificities;
          }
      by (Some ps) is from =
          let P : Places → Type 0 = λ qs. IsFrom stands_for qs rules s.state in
          subst P (sym (first ∙ ap (λ o. places_of o (length rules)) is)) from
