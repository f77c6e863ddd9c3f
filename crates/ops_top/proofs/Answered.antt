-- What a call that answers a program leaves, by what its session left.
use Rattle.std.proofs.Common.{◌≡◌, ℕ, ◌+◌, List, [], Bool, false, Ok, Err, Result, Option, refl, sym, ap, ◌∙◌, subst, inl, inr, ◌⊎◌}
use Rattle.std.proofs.KnownBytes.{prepend_known-nil}
use Rattle.std.proofs.lemmas.Bool.{false≢true}
use Rattle.ops_base.specs.Names.{Spellings}
use Rattle.ops_base.specs.declared.endings.Ending.{Ending}
use Rattle.ops_base.specs.declared.endings.Ending.TheVariants as ending
use Rattle.ops_io.specs.Coming.{Coming, Inlet}
use Rattle.ops_io.specs.Ports.{Port, Stopped, Flushed}
use Rattle.ops_io.specs.declared.stop.Stop.{Stop}
use Rattle.ops_io.specs.declared.stop.Stop.TheVariants as stop
use Rattle.ops_meaning.specs.declared.statuses.Status.{Status}
use Rattle.ops_meaning.specs.declared.statuses.Status.TheVariants as status
use Rattle.ops_meaning.specs.Effects.{Effect}
use Rattle.ops_meaning.specs.Running.{Session as Meant}
use Rattle.session.specs.Endings.{CountsReadFault}
use Rattle.ops_top.specs.Whole.{Reply, status_of, told}
use Rattle.ops_top.specs.Calls.{TellsFailedInput, is_refused}
use Rattle.ops_top.specs.Told.{Delivers, TellsOn, status_after}
use Rattle.ops_top.specs.Answered.{Devices, devices, IsAnswered}
use Rattle.ops_top.proofs.Deliveries.{untold, program_cut, program_unflushed, program_delivered}
use Rattle.ops_top.proofs.Inputs.{input_untouched}

-- ---- nothing was read

-- memory ran out before anything was done
pub unanswered : (reply : Coming → Reply) (asks : Bool) (Untouched : Type 0) (d : Devices) → Untouched → IsAnswered (Err stop.OutOfMemory) reply asks Untouched d d
unanswered reply asks Untouched d same =
    record {
      delivers = input_untouched d.left _ _ (λ z. untold (reply z) d.taken d.writes);
      reads = inl refl;
      input = ([], sym (prepend_known-nil d.left));
      quiet = λ none. same;
      refused = λ is. same;
    }

done_reads : (r : Result Status Stop) (o : Reply) (k n : Option (List ℕ)) (b a reads : ℕ) → o.status ≡ status.Done → Delivers r o k b n a → TellsFailedInput (status_after r) reads reads
done_reads (Ok s) o k n b a reads done d = let P : Status → Type 0 = λ s. TellsFailedInput s reads reads in subst P (sym (d.0 ∙ done)) refl
done_reads (Err stop.Write) o k n b a reads done d = inl refl
done_reads (Err stop.OutOfMemory) o k n b a reads done d = inl refl

-- the answer is done with no look at the input
pub answered_alone : (r : Result Status Stop) (o : Reply) (asks : Bool) (Untouched : Type 0) (left k n : Option (List ℕ)) (reads b a : ℕ) → o.status ≡ status.Done → Delivers r o k b n a → Untouched
    → IsAnswered r (λ z. o) asks Untouched (devices left reads k b) (devices left reads n a)
answered_alone r o asks Untouched left k n reads b a done d same =
    record {
      delivers = input_untouched left _ _ (λ z. d);
      reads = done_reads r o k n b a reads done d;
      input = ([], sym (prepend_known-nil left));
      quiet = λ none. same;
      refused = λ is. same;
    }

-- ---- a session was run

pub counted : (f : Ending) (before now : ℕ) → CountsReadFault (Ok f) before now → (now ≡ before) ⊎ (now ≡ before + 1)
counted (ending.Done firings elements last_tag) before now h = inl h
counted (ending.Act firing rule name action k) before now h = inl h
counted (ending.Limit firings) before now h = inl h
counted ending.ReadFault before now h = inr h
counted ending.WriteFault before now h = inl h
counted ending.OutOfMemory before now h = inl h

reads_cut : (why : Stop) (before now : ℕ) → (now ≡ before) ⊎ (now ≡ before + 1) → TellsFailedInput (status_after (Err why)) before now
reads_cut stop.Write before now h = h
reads_cut stop.OutOfMemory before now h = h

reads_ended : (f : Ending) (before now : ℕ) → CountsReadFault (Ok f) before now → TellsFailedInput (status_of f) before now
reads_ended (ending.Done firings elements last_tag) before now h = h
reads_ended (ending.Act firing rule name action k) before now h = h
reads_ended (ending.Limit firings) before now h = h
reads_ended ending.ReadFault before now h = h
reads_ended ending.WriteFault before now h = inl h
reads_ended ending.OutOfMemory before now h = inl h

cut_unrefused : (why : Stop) → is_refused (status_after (Err why)) ≡ false
cut_unrefused stop.Write = refl
cut_unrefused stop.OutOfMemory = refl

ended_unrefused : (f : Ending) → is_refused (status_of f) ≡ false
ended_unrefused (ending.Done firings elements last_tag) = refl
ended_unrefused (ending.Act firing rule name action k) = refl
ended_unrefused (ending.Limit firings) = refl
ended_unrefused ending.ReadFault = refl
ended_unrefused ending.WriteFault = refl
ended_unrefused ending.OutOfMemory = refl

-- the session was told over what the inlet had, from the first port on to the second
abbrev Told : (asks : Bool) (Untouched : Type 0) (i j : Inlet) (a c : Port) (summed : Bool) (names : Spellings) (e : Coming → Effect Ending Meant) → Result Status Stop → Type 0
Told asks Untouched i j a c summed names e r =
    IsAnswered r (λ z. told summed names (e z)) asks Untouched (devices i.left i.faults a.taken a.faults) (devices j.left j.faults c.taken c.faults)

module _ {i j : Inlet} {a b : Port} {summed : Bool} {names : Spellings} {e : Coming → Effect Ending Meant} (asks : Bool) (Untouched : Type 0) (quiet : asks ≡ false → Untouched)
    (empty : i.buffer ≡ record { held = []; ended = false }) (held : a.out.held ≡ []) where
  -- the session was cut, or the line after it
  pub answered_cut : (why : Stop) → TellsOn (Err why) i j a b summed names e → (j.faults ≡ i.faults) ⊎ (j.faults ≡ i.faults + 1) → Told asks Untouched i j a b summed names e (Err why)
  answered_cut why p h =
      record {
        delivers = program_cut empty held why p;
        reads = reads_cut why i.faults j.faults h;
        input = (p.took.got, p.took.left);
        quiet = quiet;
        refused = λ is. absurd (false≢true (sym (cut_unrefused why) ∙ is));
      }

  module _ {c : Port} (f : Ending) (p : TellsOn (Ok f) i j a b summed names e) (h : CountsReadFault (Ok f) i.faults j.faults) where
    -- all was put, and not written out
    pub answered_unflushed : (why : Stop) → Stopped why b c [] → Told asks Untouched i j a c summed names e (Err why)
    answered_unflushed why q =
        record {
          delivers = program_unflushed empty held f p why q;
          reads = reads_cut why i.faults j.faults (counted f i.faults j.faults h);
          input = (p.took.got, p.took.left);
          quiet = quiet;
          refused = λ is. absurd (false≢true (sym (cut_unrefused why) ∙ is));
        }

    -- all was written out
    pub answered : (s : Status) → s ≡ status_of f → Flushed b c → Told asks Untouched i j a c summed names e (Ok s)
    answered s is q =
        let R : Status → Type 0 = λ s. TellsFailedInput s i.faults j.faults in
        record {
          delivers = program_delivered empty held f p s is q;
          reads = subst R (sym is) (reads_ended f i.faults j.faults h);
          input = (p.took.got, p.took.left);
          quiet = quiet;
          refused = λ refused. absurd (false≢true (sym (ended_unrefused f) ∙ ap is_refused (sym is) ∙ refused));
        }
