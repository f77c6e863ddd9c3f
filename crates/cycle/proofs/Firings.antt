-- What one firing leaves.
use Rattle.std.proofs.Common.{◌≡◌, ◌∙◌, ap, sym, ◌+◌, ◌-◌, ℕ, List, [], ◌∷◌, ◌++◌, Bool, true, false, cond, Option, Some, Result, Ok, Err, IfOk, IsTrue, subst, arith, refl}
use Rattle.std.specs.Prelude.{Contains, ◌↔◌}
use Rattle.std.specs.Bool.{Decides}
use Rattle.std.proofs.lemmas.Bool.{false≢true}
use Rattle.ops_base.specs.ConflictSet.{conflict_set}
use Rattle.ops_base.specs.Names.{Spellings}
use Rattle.ops_base.specs.Refraction.{is_among, still_fired}
use Rattle.ops_base.specs.WorkingMemory.{done, last_after}
use Rattle.ops_base.specs.declared.elements.Change.{Change}
use Rattle.ops_base.specs.declared.endings.Ending.{Ending}
use Rattle.ops_base.specs.declared.rules.Inst.{Inst}
use Rattle.ops_base.proofs.RefractionLaws.{is_among-Decides}
use Rattle.ops_io.specs.Coming.{Coming, Inlet, preceded_by}
use Rattle.ops_io.specs.Output.{column_after}
use Rattle.ops_io.specs.Ports.{Port, Put, Stopped}
use Rattle.ops_io.specs.declared.stop.Stop.TheVariants as stop
use Rattle.ops_io.proofs.PortLemmas.{put_nothing, stopped_more}
use Rattle.ops_io.proofs.ComingLemmas.{took_nothing}
use Rattle.ops_meaning.specs.Acting.{Setting, Acted as Meant, Misdeed, acted}
use Rattle.ops_meaning.specs.Effects.{Effect, led_by, told_as, Failure, failure_as, PerformsOn}
use Rattle.ops_meaning.specs.Kept.{WellKept, IsLawfulOver}
use Rattle.ops_meaning.specs.Layout.{firing_bytes, rule_name}
use Rattle.ops_meaning.specs.Running.{Course, Turned, given_by, phase_by, turned_of, ended_in, firing}
use Rattle.ops_meaning.proofs.Doings.{ok_goes, EndsActions, KeptActed, acted_kept}
use Rattle.ops_meaning.proofs.EffectLemmas.{Leaves, told_leaves, told_fails, fails_stopped}
use Rattle.ops_meaning.proofs.InletLemmas.{LeavesOn, short_on, short_behind, leaves_on, fails_on, on_ok, on_err, fails_apart, performs_on_led}
use Rattle.act_phase.specs.Outcomes.{acted_of, failure_of}
use Rattle.act_phase.specs.declared.outcome.Acted.{Acted}
use Rattle.act_phase.specs.declared.outcome.ActFault.{ActFault}
use Rattle.act_phase.specs.declared.outcome.ActFault.TheVariants as fault
use Rattle.work_store.specs.Stored.{Stored}
use Rattle.conflict_index.specs.Indexed.{insts_of, fired_of}
use Rattle.conflict_index.specs.Applying.{marked as marked_members}
use Rattle.cycle.specs.States.{Held, state_course}
use Rattle.cycle.proofs.Marks.{marked_fired}

-- what was copied is what fires next
pub same_next : (o p : Option Inst) (w i : Inst) → o ≡ p → o ≡ Some w → p ≡ Some i → w ≡ i
same_next o p w i e f g = cc

-- ---- the marks

same_test : (b c : Bool) (P Q : Type 0) → Decides b P → Decides c Q → (P ↔ Q) → b ≡ c
same_test true true P Q d e h = refl
same_test false false P Q d e h = refl
same_test true false P Q d e h = absurd (false≢true (e.1 (h.0 (d.0 refl))))
same_test false true P Q d e h = absurd (false≢true (d.1 (h.1 (e.0 refl))))

-- The same marks stay where the same instantiations are marked.
still_same : (found fired other : List Inst) → ((i : Inst) → Contains fired i ↔ Contains other i) → still_fired found fired ≡ still_fired found other
still_same [] fired other h = refl
still_same (i ∷ found) fired other h =
    ap (λ b. cond b (i ∷ still_fired found fired) (still_fired found fired))
    (same_test (is_among fired i) (is_among other i) (Contains fired i) (Contains other i) (is_among-Decides fired i) (is_among-Decides other i) (h i))
    ∙ ap (λ r. cond (is_among other i) (i ∷ r) r) (still_same found fired other h)

module _ {M : Type 0} (stored : M → Stored) (s : Setting) (column : ℕ) (i : Inst) (h : Held M) (names : Spellings) where
  -- the right side of an instantiation, over elements and after a tag
  abbrev acts_over : Stored → Inst → ℕ → Coming → Effect Misdeed Meant
  acts_over x w last z = acted s column w (record { wm = x.elements; last = last; names = names; coming = z })

  abbrev acts : Coming → Effect Misdeed Meant
  acts = acts_over (stored h.matcher) i (stored h.matcher).last

  -- a firing, after its line
  abbrev fires_of : Coming → Effect Ending Turned
  fires_of z = told_as (turned_of s.rules i (state_course stored h names z)) (ended_in (h.firings + 1) i.rule (rule_name s.rules i.rule)) (acts z)

  abbrev ends : ActFault → Failure Ending
  ends f = failure_as (ended_in (h.firings + 1) i.rule (rule_name s.rules i.rule)) (failure_of f)

  -- it is marked, and one firing more is counted
  abbrev marked_state : Held M
  marked_state = record h { index = record h.index { members = marked_members i h.index.members }; firings = h.firings + 1 }

  -- a phase of these changes has ended from a state
  abbrev EndsPhase : Held M → List Change → Spellings → (Coming → Course) → Type 0
  EndsPhase k changes new next =
      (z : Coming) → next z ≡ phase_by (conflict_set s.rules) changes k.firings (last_after (stored k.matcher).last changes) (state_course stored k new z)

  abbrev Keeps : Type 0
  Keeps = WellKept (stored h.matcher).elements (stored h.matcher).last

  lawfully : (z : Coming) → Keeps → IfOk (acts z).outcome (IsLawfulOver (stored h.matcher).elements (stored h.matcher).last)
  lawfully z well =
      let g = given_by (state_course stored h names z) in
      ok_goes (KeptActed s.templates g.wm g.last g.names g.coming.fails) (IsLawfulOver g.wm g.last) (EndsActions g.coming.fails) (acted s column i g).outcome (acted_kept s column i g) (λ a p. p.lawful well)

  -- its phase has ended, with this course
  leaves_firing : (y : Acted) (new : Spellings) (p q : Inlet) (a b : Port) → LeavesOn (acted_of y new) p q a b acts → Keeps → Contains (insts_of h.index.members) i → (next : Coming → Course) → EndsPhase marked_state y.changes new next
      → LeavesOn (λ z. let t : Turned = record { course = next z; halted = y.halted; built = y.built } in t) p q a b fires_of
  leaves_firing y new p q a b did well there next phase =
      record { taken = did.taken; took = did.took; steady = did.steady; leaves = λ z may. one z (preceded_by did.taken z) (did.leaves z may) }
    where
      one : (z w : Coming) → Leaves (acted_of y new z) a b (acts w) → (let t : Turned = record { course = next z; halted = y.halted; built = y.built } in Leaves t a b (fires_of w))
      one z w left =
          let x = acted_of y new z in
          let L : Result Meant Misdeed → Type 0 = λ o. IfOk o (IsLawfulOver (stored h.matcher).elements (stored h.matcher).last) in
          let lawful : IsLawfulOver (stored h.matcher).elements (stored h.matcher).last x = subst L left.0 (lawfully w well) in
          let wm = done (stored h.matcher).elements y.changes in
          let marks : List Inst → ℕ → Course = λ fired last. record {
            wm = wm;
            strategy = h.index.strategy;
            fired = still_fired (conflict_set s.rules wm) fired;
            firings = h.firings + 1;
            last = last;
            names = new;
            coming = z;
          } in
          let before = fired_of h.index.members ++ i ∷ [] in
          let still : still_fired (conflict_set s.rules wm) (fired_of (marked_members i h.index.members)) ≡ still_fired (conflict_set s.rules wm) before =
          still_same (conflict_set s.rules wm) (fired_of (marked_members i h.index.members)) before (marked_fired i h.index.members there) in
          let ended : marks before x.last ≡ next z =
          ap (marks before) (sym lawful.last_tag)
          ∙ ap (λ f. record (marks before (last_after (stored h.matcher).last y.changes)) { fired = f }) (sym still)
          ∙ sym (phase z) in
          let turned : Course → Turned = λ k. record { course = k; halted = y.halted; built = y.built } in
          let P : Turned → Type 0 = λ t. Leaves t a b (fires_of w) in
          subst P (ap turned ended) (told_leaves (turned_of s.rules i (state_course stored h names w)) (ended_in (h.firings + 1) i.rule (rule_name s.rules i.rule)) x a b (acts w) left)

  module _ {p q : Inlet} {a b : Port} (x : Stored) (held : x ≡ stored h.matcher) (w : Inst) (is : w ≡ i) (tag : ℕ) (last_tag : tag ≡ (stored h.matcher).last) (new : Spellings) where
    -- what was done over these is what is to be done
    meant : (r : Result Acted ActFault) → PerformsOn (λ y z. acted_of y new z) failure_of r p q a b (acts_over x w tag) → PerformsOn (λ y z. acted_of y new z) failure_of r p q a b acts
    meant r did =
        let over : Stored → Inst → ℕ → Type 0 = λ x w n. PerformsOn (λ y z. acted_of y new z) failure_of r p q a b (acts_over x w n) in
        let P : Stored → Type 0 = λ x. over x w tag in
        let Q : Inst → Type 0 = λ w. over (stored h.matcher) w tag in
        let R : ℕ → Type 0 = λ n. over (stored h.matcher) i n in
        subst R last_tag (subst Q is (subst P held did))

    -- the right side has a fault, or a device or memory failed in it
    pub fires_badly : {X : Type 0} {view : X → Coming → Turned} (f : ActFault) → (let r : Result Acted ActFault = Err f in PerformsOn (λ y z. acted_of y new z) failure_of r p q a b (acts_over x w tag)) → (let r : Result X ActFault = Err f in PerformsOn view ends r p q a b fires_of)
    fires_badly {view = view} f did =
        let left = fails_on (λ y z. acted_of y new z) failure_of f p q a b acts (meant (Err f) did) in
        on_err view ends f p q a b fires_of (record {
          taken = left.taken;
          took = left.took;
          fails = λ z after. told_fails (turned_of s.rules i (state_course stored h names (preceded_by left.taken z))) (ended_in (h.firings + 1) i.rule (rule_name s.rules i.rule)) (failure_of f) a b
              (acts (preceded_by left.taken z)) (left.fails z after);
        })

    module _ (y : Acted) (steady : q.faults ≡ p.faults) (did : let r : Result Acted ActFault = Ok y in PerformsOn (λ y z. acted_of y new z) failure_of r p q a b (acts_over x w tag)) where
      left : LeavesOn (acted_of y new) p q a b acts
      left = leaves_on (λ y z. acted_of y new z) failure_of y p q a b acts steady (meant (Ok y) did)

      -- memory ran out after the right side
      pub fires_short : {X : Type 0} {view : X → Coming → Turned} → (let r : Result X ActFault = Err fault.OutOfMemory in PerformsOn view ends r p q a b fires_of)
      fires_short {view = view} =
          on_err view ends fault.OutOfMemory p q a b fires_of (short_behind (acted_of y new) p q a b acts fires_of (λ z. refl) left)

      -- its phase has ended, from a state in which it is marked
      pub fires : {X : Type 0} {view : X → Coming → Turned} (r : X) → Keeps → Contains (insts_of h.index.members) w → (k : Held M) → k ≡ record h { index = record h.index { members = marked_members w h.index.members }; firings = h.firings + 1 } → (changes : List Change) → changes ≡ y.changes → (next : Coming → Course) → EndsPhase k changes new next
          → ((z : Coming) → view r z ≡ record { course = next z; halted = y.halted; built = y.built }) → (let o : Result X ActFault = Ok r in PerformsOn view ends o p q a b fires_of)
      fires {view = view} r well there k at changes all next phase tells =
          let P : (Coming → Turned) → Type 0 = λ t. LeavesOn t p q a b fires_of in
          let C : Inst → Type 0 = Contains (insts_of h.index.members) in
          let N : Held M → Type 0 = λ k. EndsPhase k changes new next in
          let A : List Change → Type 0 = λ cs. EndsPhase marked_state cs new next in
          let marks : Inst → Held M = λ w. record h { index = record h.index { members = marked_members w h.index.members }; firings = h.firings + 1 } in
          on_ok view ends r p q a b fires_of
          (subst P (sym (λ n z. tells z n)) (leaves_firing y new p q a b left well (subst C is there) next (subst A all (subst N (at ∙ ap marks is) phase))))

module _ {M : Type 0} (stored : M → Stored) (s : Setting) (i : Inst) (h : Held M) (names : Spellings) where
  -- a firing, its line and what is after it
  abbrev whole_of : ℕ → Coming → Effect Ending Turned
  whole_of column z = firing s column i (state_course stored h names z)

  -- a line that begins at this column, of a firing with this number
  abbrev line_of : ℕ → ℕ → Inst → List ℕ
  line_of column number w = firing_bytes s.watch column names s.rules number w

  abbrev ends_so : ActFault → Failure Ending
  ends_so f = failure_as (ended_in (h.firings + 1) i.rule (rule_name s.rules i.rule)) (failure_of f)

  -- the line of what was copied is that of what fires next
  line_is : (column number : ℕ) (w : Inst) → number ≡ h.firings + 1 → w ≡ i → line_of column number w ≡ line_of column (h.firings + 1) i
  line_is column number w next is = ap (λ n. line_of column n w) next ∙ ap (λ w. line_of column (h.firings + 1) w) is

  module _ {X : Type 0} {view : X → Coming → Turned} {p : Inlet} {a : Port} where
    -- memory ran out before the line
    pub fires_not : IsTrue a.out.whole → (let r : Result X ActFault = Err fault.OutOfMemory in PerformsOn view ends_so r p p a a (whole_of a.out.column))
    fires_not whole =
        on_err view ends_so fault.OutOfMemory p p a a (whole_of a.out.column) (short_on p p a a [] (whole_of a.out.column) (took_nothing p) (put_nothing a whole))

    module _ {b : Port} (number : ℕ) (w : Inst) (next : number ≡ h.firings + 1) (is : w ≡ i) where
      -- the sink refused the line
      pub fires_unseen : (f : ActFault) → f ≡ fault.Write → Stopped stop.Write a b (line_of a.out.column number w) → (let r : Result X ActFault = Err f in PerformsOn view ends_so r p p a b (whole_of a.out.column))
      fires_unseen f refused stopped =
          let line = line_of a.out.column (h.firings + 1) i in
          let P : List ℕ → Type 0 = Stopped stop.Write a b in
          on_err view ends_so f p p a b (whole_of a.out.column)
          (fails_apart (ends_so f) p a b (whole_of a.out.column)
          (λ z. fails_stopped stop.Write (ends_so f) a b (whole_of a.out.column z) (ap ends_so refused)
          (stopped_more stop.Write a b line (fires_of stored s (column_after a.out.column line) i h names z).bytes (subst P (line_is a.out.column number w next is) stopped))))

      -- a firing is its line, and what is after it
      pub behind_line : {q : Inlet} {c : Port} (r : Result X ActFault) → Put a b (line_of a.out.column number w) → PerformsOn view ends_so r p q b c (fires_of stored s b.out.column i h names) → PerformsOn view ends_so r p q a c (whole_of a.out.column)
      behind_line {q = q} {c = c} r put did =
          let line = line_of a.out.column (h.firings + 1) i in
          let P : List ℕ → Type 0 = Put a b in
          let told = subst P (line_is a.out.column number w next is) put in
          let Q : ℕ → Type 0 = λ n. PerformsOn view ends_so r p q a c (λ z. led_by line (fires_of stored s n i h names z)) in
          subst Q told.column (performs_on_led view ends_so r p q a b c line (fires_of stored s b.out.column i h names) told did)

-- what was done, seen in more than that
module _ {X : Type 0} {names : Spellings} (seen : X → Acted) {p q : Inlet} {a b : Port} {e : Coming → Effect Misdeed Meant} where
  pub told_good : {x : X} → (let r : Result X ActFault = Ok x in PerformsOn (λ x z. acted_of (seen x) names z) failure_of r p q a b e) → (let r : Result Acted ActFault = Ok (seen x) in PerformsOn (λ y z. acted_of y names z) failure_of r p q a b e)
  told_good d = record { taken = d.taken; took = d.took; performs = d.performs }

  pub told_bad : {f : ActFault} → (let r : Result X ActFault = Err f in PerformsOn (λ x z. acted_of (seen x) names z) failure_of r p q a b e) → (let r : Result Acted ActFault = Err f in PerformsOn (λ y z. acted_of y names z) failure_of r p q a b e)
  told_bad d = record { taken = d.taken; took = d.took; performs = d.performs }

  -- the same, the other way about
  pub seen_good : {x : X} → (let r : Result Acted ActFault = Ok (seen x) in PerformsOn (λ y z. acted_of y names z) failure_of r p q a b e) → (let r : Result X ActFault = Ok x in PerformsOn (λ x z. acted_of (seen x) names z) failure_of r p q a b e)
  seen_good d = record { taken = d.taken; took = d.took; performs = d.performs }

  pub seen_bad : {f : ActFault} → (let r : Result Acted ActFault = Err f in PerformsOn (λ y z. acted_of y names z) failure_of r p q a b e) → (let r : Result X ActFault = Err f in PerformsOn (λ x z. acted_of (seen x) names z) failure_of r p q a b e)
  seen_bad d = record { taken = d.taken; took = d.took; performs = d.performs }

module _ {Y : Type 0} {names : Spellings} (other : Y → Acted) {p q : Inlet} {a b : Port} {e : Coming → Effect Misdeed Meant} where
  -- memory ran out after it
  pub good_short : (y : Acted) → q.faults ≡ p.faults → (let r : Result Acted ActFault = Ok y in PerformsOn (λ y z. acted_of y names z) failure_of r p q a b e) → (let r : Result Y ActFault = Err fault.OutOfMemory in PerformsOn (λ x z. acted_of (other x) names z) failure_of r p q a b e)
  good_short y steady d =
      on_err (λ x z. acted_of (other x) names z) failure_of fault.OutOfMemory p q a b e
      (short_behind (acted_of y names) p q a b e e (λ z. refl) (leaves_on (λ y z. acted_of y names z) failure_of y p q a b e steady d))

module _ {X : Type 0} {view : X → Coming → Meant} {r : Result X ActFault} {p q : Inlet} {a b : Port} (s : Setting) (column : ℕ) (i : Inst) (names : Spellings) where
  -- a right side over what a store holds, whose next tag follows the last one
  pub over_store : (x y : Stored) → x ≡ y → (tag : ℕ) → tag ≡ y.last + 1 → PerformsOn view failure_of r p q a b (λ z. acted s column i (record { wm = x.elements; last = tag - 1; names = names; coming = z }))
      → PerformsOn view failure_of r p q a b (λ z. acted s column i (record { wm = y.elements; last = y.last; names = names; coming = z }))
  over_store x y same tag next d =
      let over : Stored → ℕ → Type 0 = λ x n. PerformsOn view failure_of r p q a b (λ z. acted s column i (record { wm = x.elements; last = n; names = names; coming = z })) in
      let last : tag - 1 ≡ y.last = omega (arith, next) in
      let P : Stored → Type 0 = λ x. over x (tag - 1) in
      let Q : ℕ → Type 0 = λ n. over y n in
      subst Q last (subst P same d)

  -- the same over what is the same
  pub over_same : (x y : Stored) → x ≡ y → PerformsOn view failure_of r p q a b (λ z. acted s column i (record { wm = x.elements; last = x.last; names = names; coming = z }))
      → PerformsOn view failure_of r p q a b (λ z. acted s column i (record { wm = y.elements; last = y.last; names = names; coming = z }))
  over_same x y same d =
      let P : Stored → Type 0 = λ x. PerformsOn view failure_of r p q a b (λ z. acted s column i (record { wm = x.elements; last = x.last; names = names; coming = z })) in
      subst P same d
