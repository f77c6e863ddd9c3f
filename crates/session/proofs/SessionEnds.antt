-- How what the commands of a session leave ends it.
use Rattle.std.proofs.Common.{◌≡◌, ◌∙◌, ap, sym, subst, refl, ℕ, List, [], length, true, Result, Ok, Err, IfOk, OnOk}
use Rattle.ops_base.specs.Names.{Spellings}
use Rattle.ops_base.specs.declared.endings.Ending.{Ending}
use Rattle.ops_base.specs.declared.endings.Ending.TheVariants as ending
use Rattle.ops_io.specs.Coming.{Coming, Inlet, preceded_by}
use Rattle.ops_io.specs.Ports.{Port, Put}
use Rattle.ops_io.specs.declared.stop.Stop.{Stop}
use Rattle.ops_meaning.specs.Effects.{Effect, Fails, Performs, PerformsOn, CountsReads, of_ending}
use Rattle.ops_meaning.specs.Running.{Session as Meant, ending_of}
use Rattle.ops_base.specs.declared.rules.Rule.{Rule}
use Rattle.ops_base.specs.WorkingMemory.{done, last_after}
use Rattle.work_store.specs.Stored.{Stored}
use Rattle.session.specs.Courses.{ends_unread}
use Rattle.session.specs.Trailing.{ended, meant_with}
use Rattle.session.specs.Endings.{Leaves, EndsSession, EndsOn, CountsReadFault}
use Rattle.session.specs.declared.undoable.Undoable.{Undoable}
use Rattle.session.proofs.Comings.{some_failing}
use Rattle.session.proofs.Early.{EndsEarly}

module _ {M : Type 0} (H : Type 0) (stored : M → Stored) (rules : List Rule) where
  abbrev told : Result (Undoable M H) Ending → Result Ending Stop
  told r = ended stored r

  module _ (new : Spellings) (z : Coming) where
    -- so where it comes to an end of its own
    ends_so : (f : Ending) (a b : Port) (e : Effect Ending Meant) → (e.outcome ≡ Err f) × Put a b e.bytes → (f ≡ ending_of e.outcome) × Put a b e.bytes × Leaves e.outcome new z
    ends_so f a b e p =
        let P : Result Meant Ending → Type 0 = λ o. Leaves o new z in (ap ending_of (sym p.0), p.1, subst P (sym p.0) tt)

    ended_fails : (f : Ending) (a b : Port) (e : Effect Ending Meant) → Fails (of_ending f) a b e → EndsSession (told (Err f)) a b new z e
    ended_fails ending.WriteFault a b e p = p
    ended_fails ending.OutOfMemory a b e p = p
    ended_fails (ending.Done f n t) a b e p = ends_so (ending.Done f n t) a b e p
    ended_fails (ending.Act f r name n k) a b e p = ends_so (ending.Act f r name n k) a b e p
    ended_fails (ending.Limit f) a b e p = ends_so (ending.Limit f) a b e p
    ended_fails ending.ReadFault a b e p = ends_so ending.ReadFault a b e p

    ended_performs : (r : Result (Undoable M H) Ending) (a b : Port) (e : Effect Ending Meant) → IfOk r (λ u. u.session.pending ≡ []) → Performs (λ u. meant_with stored rules u new z) of_ending r a b e → EndsSession (told r) a b new z e
    ended_performs (Ok u) a b e none p =
        let P : Result Meant Ending → Type 0 = λ o. Leaves o new z in
        (ap (λ changes. ending.Done u.session.state.firings (length (done (stored u.session.state.matcher).elements changes)) (last_after (stored u.session.state.matcher).last changes)) (sym none) ∙ ap ending_of (sym p.0), p.1, subst P (sym p.0) (refl, refl))
    ended_performs (Err f) a b e none p = ended_fails f a b e p

  -- the session ends so, whatever may come
  pub ends_on : (new : Spellings) (r : Result (Undoable M H) Ending) (i j : Inlet) (a b : Port) (e : Coming → Effect Ending Meant) → IfOk r (λ u. u.session.pending ≡ []) → PerformsOn (λ u z. meant_with stored rules u new z) of_ending r i j a b e → EndsOn (told r) i j a b new e
  ends_on new r i j a b e none p =
      record { taken = p.taken; took = p.took; ends = λ z h. ended_performs new z r a b (e (preceded_by p.taken z)) none (p.performs z h) }

  -- the reads that failed
  pub ended_reads : (r : Result (Undoable M H) Ending) (before now : ℕ) → CountsReads (ends_unread r) before now → CountsReadFault (told r) before now
  ended_reads (Ok s) before now p = p
  ended_reads (Err ending.WriteFault) before now p = p
  ended_reads (Err ending.OutOfMemory) before now p = p
  ended_reads (Err (ending.Done f n t)) before now p = p
  ended_reads (Err (ending.Act f r name n k)) before now p = p
  ended_reads (Err (ending.Limit f)) before now p = p
  ended_reads (Err ending.ReadFault) before now p = p

  -- it is told as unread only where the input failed
  pub ended_unread : (r : Result (Undoable M H) Ending) → told r ≡ Ok ending.ReadFault → ends_unread r ≡ true
  ended_unread (Ok s) e = cc
  ended_unread (Err ending.WriteFault) e = cc
  ended_unread (Err ending.OutOfMemory) e = cc
  ended_unread (Err (ending.Done f n t)) e = cc
  ended_unread (Err (ending.Act f r name n k)) e = cc
  ended_unread (Err (ending.Limit f)) e = cc
  ended_unread (Err ending.ReadFault) e = refl

  -- it is told as done only where its commands came to their end
  pub ended_done : (new : Spellings) (r : Result (Undoable M H) Ending) (i j : Inlet) (a b : Port) (e : Coming → Effect Ending Meant) (P : Type 0) (f n t : ℕ) → ((z : Coming) → EndsEarly (e z).outcome)
      → PerformsOn (λ u z. meant_with stored rules u new z) of_ending r i j a b e → OnOk r P → told r ≡ Ok (ending.Done f n t) → P
  ended_done new (Ok s) i j a b e P f n t early p h is = h
  ended_done new (Err ending.WriteFault) i j a b e P f n t early p h is = absurd (let no = is in cc)
  ended_done new (Err ending.OutOfMemory) i j a b e P f n t early p h is = absurd (let no = is in cc)
  ended_done new (Err (ending.Done g m u)) i j a b e P f n t early p h is =
      let z = some_failing i j in
      let k = preceded_by p.taken z.0 in
      let Q : Result Meant Ending → Type 0 = EndsEarly in
      absurd (subst Q (p.performs z.0 z.1).0 (early k))
  ended_done new (Err (ending.Act g r name m u)) i j a b e P f n t early p h is = absurd (let no = is in cc)
  ended_done new (Err (ending.Limit g)) i j a b e P f n t early p h is = absurd (let no = is in cc)
  ended_done new (Err ending.ReadFault) i j a b e P f n t early p h is = absurd (let no = is in cc)
