-- What a delivered whole tells of the answer.
use Rattle.std.proofs.Common.{◌≡◌, ℕ, List, [], Bool, true, false, Option, Some, None, is_some, Result, Ok, Err, is_ok, refl, ap, sym, ◌∙◌, subst, nat_lt, ◌⊎◌, inl, inr, arith}
use Rattle.std.proofs.lemmas.Bool.Decides.{nat_tests}
use Rattle.std.proofs.lemmas.List.{append-nil}
use Rattle.ops_base.specs.ConflictSet.{conflict_set}
use Rattle.ops_base.specs.declared.endings.Ending.{Ending}
use Rattle.ops_io.specs.Coming.{Coming}
use Rattle.ops_io.specs.Outside.{GrewBy, GrewByPrefix}
use Rattle.ops_io.specs.declared.stop.Stop.{Stop}
use Rattle.ops_io.specs.declared.stop.Stop.TheVariants as stop
use Rattle.ops_jobs.specs.CommandLine.{job_of}
use Rattle.ops_jobs.specs.declared.jobs.Job.{Job}
use Rattle.ops_jobs.specs.declared.jobs.Job.TheVariants.{Run, Net, Gen, Why}
use Rattle.ops_meaning.specs.declared.statuses.Status.{Status}
use Rattle.ops_meaning.specs.declared.statuses.Status.TheVariants as status
use Rattle.ops_grammar.specs.Reads.{Read, Placed, reads}
use Rattle.ops_meaning.specs.Running.{Session, session_of, ending_of}
use Rattle.why_lines.proofs.Explained.{explained_ends}
use Rattle.ops_top.specs.Whole.{Reply, Answers, Gathered, Joined, Unread, Overlong, status_of, answer_program_by, answer_read, answer_to, answer_gathered, gathered_for, readable, setting_read, usage, whole_job, whole, words_fit, files_of}
use Rattle.ops_top.specs.Calls.{OfContents, OfInput, TellsFailedWrite, TellsWords, RunsThrough, all_told, program_runs_through, text_runs_through, gathered_runs_through, job_runs_over, runs_over}
use Rattle.ops_top.specs.Told.{Delivers, status_after}
use Rattle.ops_top.proofs.StatusesOfText.{IsOfText, answer_to_of_text}
use Rattle.ops_top.proofs.Contents.{AreTold, contents_of, contents_map, contents_some, told_are}
use Rattle.ops_top.proofs.Inputs.{input_map, input_some}

-- ---- bytes

grew_prefix : (old new : Option (List ℕ)) (bytes : List ℕ) → GrewBy old new bytes → GrewByPrefix old new bytes
grew_prefix old new bytes e = (bytes, [], sym (append-nil bytes), e)

all_answers : (s : Status) (o : Reply) (old new : Option (List ℕ)) → s ≡ o.status → GrewBy old new o.bytes → Answers s o old new
all_answers status.Done o old new is e = (is, e)
all_answers (status.Refused f line column) o old new is e = (is, e)
all_answers status.Usage o old new is e = (is, e)
all_answers (status.ActFault f r n k) o old new is e = (is, e)
all_answers status.Limit o old new is e = (is, e)
all_answers status.ReadFault o old new is e = (is, e)
all_answers status.WriteFault o old new is e = grew_prefix old new o.bytes e
all_answers status.OutOfMemory o old new is e = grew_prefix old new o.bytes e

-- an outcome that is delivered is answered
pub delivered_answers : (r : Result Status Stop) (o : Reply) (k n : Option (List ℕ)) (b a : ℕ) → Delivers r o k b n a → Answers (status_after r) o k n
delivered_answers (Ok s) o k n b a d = all_answers s o k n d.0 d.1
delivered_answers (Err stop.Write) o k n b a d = d.0
delivered_answers (Err stop.OutOfMemory) o k n b a d = d.0

-- ---- statuses

-- a status that the words and the file decide
abbrev IsPlain : Status → Type 0
IsPlain status.Done = Unit {0}
IsPlain (status.Refused f line column) = Unit {0}
IsPlain status.Usage = Unit {0}
IsPlain (status.ActFault f r n k) = Unit {0}
IsPlain status.Limit = Unit {0}
IsPlain status.ReadFault = Unit {0}
IsPlain status.WriteFault = ⊥
IsPlain status.OutOfMemory = ⊥

text_is_plain : (fails : Bool) (s : Status) → IsOfText fails s → IsPlain s
text_is_plain fails status.Done p = tt
text_is_plain fails (status.Refused f line column) p = tt
text_is_plain fails status.Usage p = tt
text_is_plain fails (status.ActFault f r n k) p = tt
text_is_plain fails status.Limit p = tt
text_is_plain fails status.ReadFault p = tt
text_is_plain fails status.WriteFault p = p
text_is_plain fails status.OutOfMemory p = p

gathered_is_plain : (job : Job) (z : Coming) (g : Gathered) → IsPlain (answer_gathered job z g).status
gathered_is_plain job z (Joined text) = text_is_plain z.fails (answer_to job z text).status (answer_to_of_text job z text)
gathered_is_plain job z (Unread name) = tt
gathered_is_plain job z Overlong = tt

whole_is_plain : (ws : List (List ℕ)) (contents : List (Option (List ℕ))) (broken : Option ℕ) (z : Coming) → IsPlain (whole ws contents broken z).status
whole_is_plain ws contents broken z = by (job_of ws)
  where
    by : (asked : Option Job) → IsPlain (whole_job asked contents broken z).status
    by (Some job) = gathered_is_plain job z (gathered_for job (readable contents broken))
    by None = tt

plain_tells : (s : Status) (before now : ℕ) → IsPlain s → now ≡ before → TellsFailedWrite s before now
plain_tells status.Done before now p h = h
plain_tells (status.Refused f line column) before now p h = h
plain_tells status.Usage before now p h = h
plain_tells (status.ActFault f r n k) before now p h = h
plain_tells status.Limit before now p h = h
plain_tells status.ReadFault before now p h = h
plain_tells status.WriteFault before now p h = absurd p
plain_tells status.OutOfMemory before now p h = h

tells_write : (r : Result Status Stop) (o : Reply) (k n : Option (List ℕ)) (b a : ℕ) → IsPlain o.status → Delivers r o k b n a → TellsFailedWrite (status_after r) b a
tells_write (Ok s) o k n b a p d = plain_tells s b a (subst IsPlain (sym d.0) p) d.2
tells_write (Err stop.Write) o k n b a p d = d.1
tells_write (Err stop.OutOfMemory) o k n b a p d = d.1

text_fits : (fails : Bool) (s : Status) → IsOfText fails s → TellsWords s true
text_fits fails status.Done p = refl
text_fits fails (status.Refused f line column) p = refl
text_fits fails status.Usage p = absurd p
text_fits fails (status.ActFault f r n k) p = refl
text_fits fails status.Limit p = refl
text_fits fails status.ReadFault p = refl
text_fits fails status.WriteFault p = tt
text_fits fails status.OutOfMemory p = tt

gathered_fits : (job : Job) (z : Coming) (g : Gathered) → TellsWords (answer_gathered job z g).status true
gathered_fits job z (Joined text) = text_fits z.fails (answer_to job z text).status (answer_to_of_text job z text)
gathered_fits job z (Unread name) = refl
gathered_fits job z Overlong = refl

whole_tells_words : (ws : List (List ℕ)) (contents : List (Option (List ℕ))) (broken : Option ℕ) (z : Coming) → TellsWords (whole ws contents broken z).status (words_fit ws)
whole_tells_words ws contents broken z = by (job_of ws)
  where
    by : (asked : Option Job) → TellsWords (whole_job asked contents broken z).status (is_some asked)
    by (Some job) = gathered_fits job z (gathered_for job (readable contents broken))
    by None = refl

tells_words : (r : Result Status Stop) (o : Reply) (fit : Bool) (k n : Option (List ℕ)) (b a : ℕ) → TellsWords o.status fit → Delivers r o k b n a → TellsWords (status_after r) fit
tells_words (Ok s) o fit k n b a p d = let P : Status → Type 0 = λ s. TellsWords s fit in subst P (sym d.0) p
tells_words (Err stop.Write) o fit k n b a p d = tt
tells_words (Err stop.OutOfMemory) o fit k n b a p d = tt

whole_usage : (ws : List (List ℕ)) (contents : List (Option (List ℕ))) (broken : Option ℕ) (z : Coming) → words_fit ws ≡ false → whole ws contents broken z ≡ usage
whole_usage ws contents broken z unfit = by (job_of ws) unfit
  where
    by : (asked : Option Job) → is_some asked ≡ false → whole_job asked contents broken z ≡ usage
    by (Some job) unfit = absurd (cc)
    by None unfit = refl

-- ---- the clauses of a call, of words whose whole is delivered

module _ (r : Result Status Stop) (ws : List (List ℕ)) (told : List ℕ → Option (Option (List ℕ))) (broken : Option ℕ) (old new : Option (List ℕ)) (failed : Bool) (k n : Option (List ℕ)) (b a : ℕ) where
  -- the contents, the input and the counts that the clauses speak of
  abbrev pub DeliversWhole : Type 0
  DeliversWhole = OfContents told (files_of ws) (λ contents. OfInput old new failed (λ z. Delivers r (whole ws contents broken z) k b n a))

  -- what holds whatever the contents and the input are
  of_whole : (Q : Type 0) → ((contents : List (Option (List ℕ))) (z : Coming) → Delivers r (whole ws contents broken z) k b n a → Q) → DeliversWhole → Q
  of_whole Q f d =
      contents_some told (files_of ws) (λ contents. OfInput old new failed (λ z. Delivers r (whole ws contents broken z) k b n a)) Q
      (λ contents d. input_some old new failed (λ z. Delivers r (whole ws contents broken z) k b n a) Q (f contents) d) d

  pub whole_answers : DeliversWhole → OfContents told (files_of ws) (λ contents. OfInput old new failed (λ z. Answers (status_after r) (whole ws contents broken z) k n))
  whole_answers d =
      contents_map told (files_of ws) (λ contents. OfInput old new failed (λ z. Delivers r (whole ws contents broken z) k b n a))
      (λ contents. OfInput old new failed (λ z. Answers (status_after r) (whole ws contents broken z) k n))
      (λ contents d. input_map old new failed (λ z. Delivers r (whole ws contents broken z) k b n a) (λ z. Answers (status_after r) (whole ws contents broken z) k n)
      (λ z d. delivered_answers r (whole ws contents broken z) k n b a d) d) d

  pub whole_answers_quietly : (Q : Type 0) (asks : List (Option (List ℕ)) → Bool)
      → OfContents told (files_of ws) (λ contents. OfInput old new failed (λ z. Delivers r (whole ws contents broken z) k b n a) × (asks contents ≡ false → Q))
      → OfContents told (files_of ws) (λ contents. OfInput old new failed (λ z. Answers (status_after r) (whole ws contents broken z) k n) × (asks contents ≡ false → Q))
  whole_answers_quietly Q asks d =
      contents_map told (files_of ws) (λ contents. OfInput old new failed (λ z. Delivers r (whole ws contents broken z) k b n a) × (asks contents ≡ false → Q))
      (λ contents. OfInput old new failed (λ z. Answers (status_after r) (whole ws contents broken z) k n) × (asks contents ≡ false → Q))
      (λ contents d. (
        input_map old new failed (λ z. Delivers r (whole ws contents broken z) k b n a) (λ z. Answers (status_after r) (whole ws contents broken z) k n)
            (λ z e. delivered_answers r (whole ws contents broken z) k n b a e) d.0,
        d.1,
      )) d

  pub whole_tells_write : DeliversWhole → TellsFailedWrite (status_after r) b a
  whole_tells_write d =
      of_whole (TellsFailedWrite (status_after r) b a) (λ contents z d. tells_write r (whole ws contents broken z) k n b a (whole_is_plain ws contents broken z) d) d

  pub whole_fits_words : DeliversWhole → TellsWords (status_after r) (words_fit ws)
  whole_fits_words d =
      of_whole (TellsWords (status_after r) (words_fit ws)) (λ contents z d. tells_words r (whole ws contents broken z) (words_fit ws) k n b a (whole_tells_words ws contents broken z) d) d

  -- words that don't fit are answered with the usage line
  pub unfit_answers : DeliversWhole → words_fit ws ≡ false → Answers (status_after r) usage k n
  unfit_answers d unfit =
      let P : Reply → Type 0 = λ o. Answers (status_after r) o k n in
      of_whole (Answers (status_after r) usage k n)
      (λ contents z d. subst P (whole_usage ws contents broken z unfit) (delivered_answers r (whole ws contents broken z) k n b a d)) d

-- ---- completeness

done_session : (o : Result Session Ending) → is_ok o ≡ true → status_of (ending_of o) ≡ status.Done
done_session (Ok m) h = refl
done_session (Err f) h = absurd (cc)

done_program : (job : Job) (z : Coming) (text : List ℕ) (p : Read) → program_runs_through job z text p ≡ true → (answer_program_by conflict_set job z text p).status ≡ status.Done
done_program (Run options files) z text p h = done_session (session_of (setting_read text p) options.limit p.commands p.names z).outcome h
done_program (Why options files) z text p h =
    let e = session_of (setting_read text p) options.limit p.commands p.names z in
    ap (λ (o : Result Session Ending). status_of (ending_of o)) (explained_ends true p.classes e) ∙ done_session e.outcome h
done_program (Net files) z text p h = refl
done_program (Gen options seed size) z text p h = done_session (session_of (setting_read text p) options.limit p.commands p.names z).outcome h

done_text : (job : Job) (z : Coming) (text : List ℕ) (r : Result Read Placed) → text_runs_through job z text r ≡ true → (answer_read job z text r).status ≡ status.Done
done_text job z text (Err p) h = absurd (cc)
done_text job z text (Ok p) h = done_program job z text p h

done_gathered : (job : Job) (z : Coming) (g : Gathered) → gathered_runs_through job z g ≡ true → (answer_gathered job z g).status ≡ status.Done
done_gathered job z (Joined text) h = done_text job z text (reads text) h
done_gathered job z (Unread name) h = absurd (cc)
done_gathered job z Overlong h = absurd (cc)

done_whole : (left : List ℕ) (ws : List (List ℕ)) (contents : List (Option (List ℕ))) → runs_over ws contents left ≡ true → (whole ws contents None (record { bytes = left; fails = false })).status ≡ status.Done
done_whole left ws contents runs = by (job_of ws) runs
  where
    by : (asked : Option Job) → job_runs_over asked contents left ≡ true → (whole_job asked contents None (record { bytes = left; fails = false })).status ≡ status.Done
    by (Some job) runs = done_gathered job (record { bytes = left; fails = false }) (gathered_for job contents) runs
    by None runs = absurd (cc)

done_or_short : (s : Status) (o : Reply) (k n : Option (List ℕ)) (b a : ℕ) → o.status ≡ status.Done → Answers s o k n → TellsFailedWrite s b a → a ≡ b → (s ≡ status.Done) ⊎ (s ≡ status.OutOfMemory)
done_or_short status.Done o k n b a h p w e = inl refl
done_or_short (status.Refused f line column) o k n b a h p w e = inl (p.0 ∙ h)
done_or_short status.Usage o k n b a h p w e = inl (p.0 ∙ h)
done_or_short (status.ActFault f r i kind) o k n b a h p w e = inl (p.0 ∙ h)
done_or_short status.Limit o k n b a h p w e = inl (p.0 ∙ h)
done_or_short status.ReadFault o k n b a h p w e = inl (p.0 ∙ h)
done_or_short status.WriteFault o k n b a h p w e = absurd (omega arith)
done_or_short status.OutOfMemory o k n b a h p w e = inr refl

unbroken : (before now : ℕ) → now ≡ before → nat_lt before now ≡ false
unbroken before now h = grind (arith, nat_tests)

module _ (s : Status) (ws : List (List ℕ)) (k n : Option (List ℕ)) (b a : ℕ) (w : TellsFailedWrite s b a) (e : a ≡ b) where
  over_contents : (contents : List (Option (List ℕ))) (old new : Option (List ℕ)) (before now : ℕ) → now ≡ before → RunsThrough ws (Some contents) old
      → OfInput old new (nat_lt before now) (λ z. Answers s (whole ws contents None z) k n) → (s ≡ status.Done) ⊎ (s ≡ status.OutOfMemory)
  over_contents contents None new before now steady h p =
      let z : Coming = p.0 in
      let R : Bool → Type 0 = λ fails. (whole ws contents None (record { bytes = z.bytes; fails = fails })).status ≡ status.Done in
      done_or_short s (whole ws contents None z) k n b a (subst R (sym (p.1 ∙ unbroken before now steady)) (done_whole z.bytes ws contents (h z.bytes))) p.2 w e
  over_contents contents (Some left) new before now steady h p =
      let z : Coming = record { bytes = left; fails = false } in
      let I : Bool → Type 0 = λ failed. OfInput (Some left) new failed (λ z. Answers s (whole ws contents None z) k n) in
      done_or_short s (whole ws contents None z) k n b a (done_whole left ws contents h) (subst I (unbroken before now steady) p) w e

  -- a program that runs through is done, where no device failed
  pub runs_to_end : (told : List ℕ → Option (Option (List ℕ))) (broken : Option ℕ) (old new : Option (List ℕ)) (before now : ℕ) → broken ≡ None → now ≡ before
      → OfContents told (files_of ws) (λ contents. OfInput old new (nat_lt before now) (λ z. Answers s (whole ws contents broken z) k n)) → RunsThrough ws (all_told told (files_of ws)) old → (s ≡ status.Done) ⊎ (s ≡ status.OutOfMemory)
  runs_to_end told broken old new before now same steady p h =
      let some = contents_of told (files_of ws) (λ contents. OfInput old new (nat_lt before now) (λ z. Answers s (whole ws contents broken z) k n)) p in
      by some.0 some.1 some.2 (all_told told (files_of ws)) refl h
    where
      by : (contents : List (Option (List ℕ))) → AreTold told (files_of ws) contents → OfInput old new (nat_lt before now) (λ z. Answers s (whole ws contents broken z) k n)
          → (all : Option (List (Option (List ℕ)))) → all_told told (files_of ws) ≡ all → RunsThrough ws all old → (s ≡ status.Done) ⊎ (s ≡ status.OutOfMemory)
      by contents are p None is h = absurd h
      by contents are p (Some all) is h =
          let A : List (Option (List ℕ)) → Type 0 = λ cs. OfInput old new (nat_lt before now) (λ z. Answers s (whole ws cs broken z) k n) in
          let B : Option ℕ → Type 0 = λ m. OfInput old new (nat_lt before now) (λ z. Answers s (whole ws all m z) k n) in
          over_contents all old new before now steady h (subst B same (subst A (told_are told (files_of ws) contents all are is) p))
