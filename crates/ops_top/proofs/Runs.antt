-- What a call that runs a job leaves, by what it leaves of the program of that job.
use Rattle.std.proofs.Common.{◌≡◌, ℕ, ◌+◌, ◌<◌, List, [], Bool, true, false, nat_lt, Option, Some, None, option_map, unwrap_or, Ok, Err, Result, refl, sym, ap, ◌∙◌, subst, inl, inr, arith}
use Rattle.std.proofs.KnownBytes.{prepend_known-nil}
use Rattle.std.proofs.lemmas.Bool.{false≢true}
use Rattle.std.proofs.lemmas.List.{append-nil}
use Rattle.ops_base.specs.ConflictSet.{conflict_set}
use Rattle.ops_base.specs.declared.endings.Fault.TheVariants as fault
use Rattle.ops_check.specs.declared.faults.ProgramFault.{ProgramFault}
use Rattle.ops_check.specs.declared.faults.ProgramFault.TheVariants as refusal
use Rattle.ops_check.specs.Answered.{IsRefusal}
use Rattle.ops_grammar.specs.Reads.{Read, Placed, reads}
use Rattle.ops_io.specs.Coming.{Coming}
use Rattle.ops_io.specs.declared.stop.Stop.{Stop}
use Rattle.ops_io.specs.declared.stop.Stop.TheVariants as stop
use Rattle.ops_jobs.specs.declared.jobs.Job.{Job}
use Rattle.ops_jobs.specs.declared.jobs.Job.TheVariants.{Run, Net, Gen, Why}
use Rattle.ops_jobs.specs.declared.jobs.Options.{Options}
use Rattle.ops_meaning.specs.declared.statuses.Status.{Status}
use Rattle.ops_meaning.specs.declared.statuses.Status.TheVariants as status
use Rattle.ops_words.specs.declared.faults.WordsFault.{WordsFault}
use Rattle.ops_words.specs.declared.faults.WordsFault.TheVariants as words
use Rattle.act_phase.specs.Asking.{session_asks}
use Rattle.ops_top.specs.Whole.{Reply, Gathered, Joined, answer_gathered, answer_program_by, answer_read, files_in, gathered_for, is_waiting_run, is_run, net_told, readable, refused_at, session_told, unread, usage, whole_job}
use Rattle.ops_top.specs.Quiet.{gathered_asks, text_asks}
use Rattle.ops_top.specs.Calls.{OfContents, OfInput, AskedFor, TellsFailedInput, TellsFailedRead, broken_load, has_text, last_of}
use Rattle.ops_top.specs.Loads.{ComesTo}
use Rattle.ops_top.specs.Told.{Delivers, status_after}
use Rattle.ops_top.specs.Answered.{Devices, devices, IsAnswered}
use Rattle.ops_top.specs.Jobs.{IsReplyTo, is_of_text, CountsFailed, IsOfLastLoad, IsPlanOf, Shelved, AskedForJob, files_asked, job_asks, IsRun}
use Rattle.ops_top.specs.declared.engines.Plan.{Plan}
use Rattle.ops_top.specs.declared.files.FilesFault.{FilesFault}
use Rattle.ops_top.specs.declared.files.FilesFault.TheVariants as unfit
use Rattle.ops_top.specs.declared.jobs.NoProgram.{NoProgram}
use Rattle.ops_top.specs.declared.jobs.NoProgram.TheVariants.{Files, Text}
use Rattle.ops_top.proofs.Contents.{contents_any, contents_map}
use Rattle.ops_top.proofs.Inputs.{input_map, input_untouched}
use Rattle.ops_top.proofs.Refusals.{refusal_is}

-- ---- the plan of a job

planned_told : (options : Options) (plan : Plan) (explained summed : Bool) → (plan.options ≡ options) × (plan.is_explained ≡ explained) × (plan.is_summed ≡ summed) → (z : Coming) (text : List ℕ) (p : Read)
    → session_told conflict_set explained summed options.limit z text p ≡ session_told conflict_set plan.is_explained plan.is_summed plan.options.limit z text p
planned_told options plan explained summed h z text p =
    ap (λ (o : Options). session_told conflict_set explained summed o.limit z text p) (sym h.0)
    ∙ ap (λ (b : Bool). session_told conflict_set b summed plan.options.limit z text p) (sym h.1)
    ∙ ap (λ (b : Bool). session_told conflict_set plan.is_explained b plan.options.limit z text p) (sym h.2)

pub plan_replies : (job : Job) (plan : Plan) → IsPlanOf job plan → (z : Coming) (text : List ℕ) (p : Read)
    → answer_program_by conflict_set job z text p ≡ session_told conflict_set plan.is_explained plan.is_summed plan.options.limit z text p
plan_replies (Run options files) plan h z text p = planned_told options plan false false h z text p
plan_replies (Why options files) plan h z text p = planned_told options plan true false h z text p
plan_replies (Net files) plan h z text p = absurd h
plan_replies (Gen options seed size) plan h z text p = planned_told options plan false true h z text p

pub plan_runs : (job : Job) (plan : Plan) (Q : Type 0) → IsPlanOf job plan → is_run job ≡ false → Q
plan_runs (Run options files) plan Q h none = absurd (cc)
plan_runs (Why options files) plan Q h none = absurd (cc)
plan_runs (Net files) plan Q h none = absurd h
plan_runs (Gen options seed size) plan Q h none = absurd (cc)

pub net_replies : (job : Job) → is_run job ≡ false → (z : Coming) (text : List ℕ) (p : Read) → answer_program_by conflict_set job z text p ≡ net_told p.rules
net_replies (Run options files) none z text p = absurd (cc)
net_replies (Why options files) none z text p = absurd (cc)
net_replies (Net files) none z text p = refl
net_replies (Gen options seed size) none z text p = absurd (cc)

-- ---- why a job has no program

pub files_reply : (f : FilesFault) (job : Job) (g : Gathered) → ComesTo f g → (z : Coming) → IsReplyTo (Files f) (answer_gathered job z g)
files_reply (unfit.Unread of) job g h z = ap (answer_gathered job z) h
files_reply unfit.TooLong job g h z = ap (answer_gathered job z) h
files_reply unfit.OutOfMemory job g h z = tt

pub text_reply : (e : ProgramFault) (text : List ℕ) (job : Job) (g : Gathered) → IsRefusal text e → g ≡ Joined text → (z : Coming) → IsReplyTo (Text e) (answer_gathered job z g)
text_reply (refusal.At f line column) text job g h is z = ap (answer_gathered job z) is ∙ sym (refusal_is text f line column job z h)
text_reply refusal.OutOfMemory text job g h is z = tt

-- ---- the counts and the names

pub asked_any : (all : Bool) (files old new : List (List ℕ)) → AskedFor true files old new → AskedFor all files old new
asked_any all files old new p = record { loads = p.loads; within = p.within; names = p.names; all_of_them = λ is. p.all_of_them refl }

asked_none : (files old : List (List ℕ)) → AskedFor false files old old
asked_none files old = record { loads = 0; within = omega arith; names = sym (append-nil old); all_of_them = λ is. absurd (cc) }

reads_unloaded : (s : Status) (l m b a : ℕ) → m ≡ l → TellsFailedInput s b a → TellsFailedRead s l m b a
reads_unloaded status.Done l m b a same h = (same, h)
reads_unloaded (status.Refused f line column) l m b a same h = (same, h)
reads_unloaded status.Usage l m b a same h = (same, h)
reads_unloaded (status.ActFault f r n k) l m b a same h = (same, h)
reads_unloaded status.Limit l m b a same h = (same, h)
reads_unloaded status.ReadFault l m b a same h = inr (same, h)
reads_unloaded status.WriteFault l m b a same h = elim h [
  | inl e ↦ inl (same, e)
  | inr e ↦ inr (inr (same, e))
]
reads_unloaded status.OutOfMemory l m b a same h = elim h [
  | inl e ↦ inl (same, e)
  | inr e ↦ inr (inr (same, e))
]

-- what holds of the reply's status, and of a call that gave up, holds of the status that is answered
of_status : (P : Status → Type 0) (r : Result Status Stop) (o : Reply) (k n : Option (List ℕ)) (b a : ℕ) → P o.status → P status.WriteFault → P status.OutOfMemory → Delivers r o k b n a → P (status_after r)
of_status P (Ok s) o k n b a p w m d = subst P (sym d.0) p
of_status P (Err stop.Write) o k n b a p w m d = w
of_status P (Err stop.OutOfMemory) o k n b a p w m d = m

module _ (r : Result Status Stop) (k n : Option (List ℕ)) (b a : ℕ) where
  -- neither a load nor a read failed
  reads_still : (o : Reply) (l m c : ℕ) → m ≡ l → TellsFailedRead o.status l m c c → Delivers r o k b n a → TellsFailedRead (status_after r) l m c c
  reads_still o l m c same h d = of_status (λ s. TellsFailedRead s l m c c) r o k n b a h (inl (same, refl)) (inl (same, refl)) d

  -- a load failed
  reads_loaded : (name : List ℕ) (l m c : ℕ) → m ≡ l + 1 → Delivers r (unread name) k b n a → TellsFailedRead (status_after r) l m c c
  reads_loaded name l m c rose d = of_status (λ s. TellsFailedRead s l m c c) r (unread name) k n b a (inl (rose, refl)) (inr (inl (rose, refl))) (inr (inl (rose, refl))) d

  textless : (o : Reply) → has_text o.status ≡ false → Delivers r o k b n a → has_text (status_after r) ≡ false
  textless o h d = of_status (λ s. has_text s ≡ false) r o k n b a h refl refl d

-- ---- a job with a program

-- what the text of a job comes to is answered, and beside it what holds where it asks for no atom
gathered_quiet : (Q : Type 0) (I : (Coming → Type 0) → Type 0) (D : Reply → Type 0) (job : Job) (told : List ℕ → Option (Option (List ℕ))) (files : List (List ℕ)) (broken : Option ℕ) (g : Gathered)
    → OfContents told files (λ cs. gathered_for job (readable cs broken) ≡ g) → I (λ z. D (answer_gathered job z g)) → (gathered_asks g ≡ false → Q)
    → OfContents told files (λ cs. I (λ z. D (answer_gathered job z (gathered_for job (readable cs broken)))) × (gathered_asks (gathered_for job (readable cs broken)) ≡ false → Q))
gathered_quiet Q I D job told files broken g p d q =
    let R : Gathered → Type 0 = λ g. I (λ z. D (answer_gathered job z g)) × (gathered_asks g ≡ false → Q) in
    contents_map told files (λ cs. gathered_for job (readable cs broken) ≡ g) (λ cs. R (gathered_for job (readable cs broken))) (λ cs e. subst R (sym e) (d, q)) p

module _ (job : Job) (r : Result Status Stop) (told : List ℕ → Option (Option (List ℕ))) (Untouched : Type 0) (old new : Shelved) where
  abbrev Gathers : (Gathered → Type 0) → Type 0
  Gathers P = OfContents told (files_in job) (λ contents. P (gathered_for job (readable contents (broken_load old.names new.names old.faults new.faults))))

  pub program_run : (before now : Devices) (text : List ℕ) (p : Read) (reply : Coming → Reply) → Gathers (λ g. g ≡ Joined text) → reads text ≡ Ok p
      → ((z : Coming) → answer_program_by conflict_set job z text p ≡ reply z) → (is_run job ≡ false → Untouched) → new.faults ≡ old.faults → AskedFor true (files_in job) old.names new.names
      → IsAnswered r reply (session_asks p.rules p.templates p.commands) Untouched before now → IsRun (Some job) r told Untouched old new before now
  program_run before now text p reply gathers is replies untouched same names answered =
      let I : (Coming → Type 0) → Type 0 = OfInput before.left now.left (nat_lt before.reads now.reads) in
      let D : Reply → Type 0 = λ o. Delivers r o before.taken before.writes now.taken now.writes in
      let A : Result Read Placed → Type 0 = λ read. I (λ z. D (answer_read job z text read)) in
      let Q : Result Read Placed → Type 0 = λ read. text_asks read ≡ false → Untouched in
      let over : A (Ok p) =
      input_map before.left now.left (nat_lt before.reads now.reads) (λ z. D (reply z)) (λ z. D (answer_program_by conflict_set job z text p)) (λ z d. subst D (sym (replies z)) d) answered.delivers in
      record {
        quiet = gathered_quiet Untouched I D job told (files_in job) _ (Joined text) gathers (subst A (sym is) over) (subst Q (sym is) answered.quiet);
        unread = λ rose. absurd (omega (arith, rose, same));
        reads = reads_unloaded (status_after r) old.faults new.faults before.reads now.reads same answered.reads;
        input = answered.input;
        untouched = untouched;
        refused = answered.refused;
        unloaded = λ rose. absurd (omega (arith, rose, same));
        names = asked_any _ (files_in job) old.names new.names names;
        unasked = λ none. absurd (cc);
      }

  -- ---- a job with none

  module _ (left k n : Option (List ℕ)) (reads b a : ℕ) (same : Untouched) where
    -- the reply is delivered whatever the contents are that it is for
    said_run : (why : NoProgram) → ((o : Reply) → IsReplyTo why o → Delivers r o k b n a)
        → OfContents told (files_in job) (λ contents. (z : Coming) → IsReplyTo why (answer_gathered job z (gathered_for job (readable contents (broken_load old.names new.names old.faults new.faults)))))
        → OfContents told (files_in job) (λ contents.
        OfInput left left (nat_lt reads reads) (λ z. Delivers r (answer_gathered job z (gathered_for job (readable contents (broken_load old.names new.names old.faults new.faults)))) k b n a)
        × (job_asks (Some job) contents (broken_load old.names new.names old.faults new.faults) ≡ false → Untouched))
    said_run why d replies =
        contents_map told (files_in job) _ _ (λ contents h. (input_untouched left _ _ (λ z. d _ (h z)), λ none. same)) replies

    pub unprogrammed_run : (why : NoProgram)
        → OfContents told (files_in job) (λ contents. (z : Coming) → IsReplyTo why (answer_gathered job z (gathered_for job (readable contents (broken_load old.names new.names old.faults new.faults)))))
        → IsOfLastLoad why new.names → CountsFailed why old.faults new.faults → AskedFor (is_of_text why) (files_in job) old.names new.names
        → ((o : Reply) → IsReplyTo why o → Delivers r o k b n a) → IsRun (Some job) r told Untouched old new (devices left reads k b) (devices left reads n a)
    unprogrammed_run why replies last counts names d =
        record {
          quiet = said_run why d replies;
          unread = unread_by why last counts d;
          reads = reads_by why counts d;
          input = ([], sym (prepend_known-nil left));
          untouched = λ none. same;
          refused = λ is. same;
          unloaded = λ rose. same;
          names = names_by why names d;
          unasked = λ none. absurd (cc);
        }
      where
        unread_by : (why : NoProgram) → IsOfLastLoad why new.names → CountsFailed why old.faults new.faults → ((o : Reply) → IsReplyTo why o → Delivers r o k b n a)
            → old.faults < new.faults → Delivers r (unread (last_of new.names)) k b n a
        unread_by (Files (unfit.Unread of)) last counts d rose = d (unread (last_of new.names)) (ap unread (sym last))
        unread_by (Files unfit.TooLong) last counts d rose = absurd (omega (arith, counts, rose))
        unread_by (Files unfit.OutOfMemory) last counts d rose = absurd (omega (arith, counts, rose))
        unread_by (Text (refusal.At f line column)) last counts d rose = absurd (omega (arith, counts, rose))
        unread_by (Text refusal.OutOfMemory) last counts d rose = absurd (omega (arith, counts, rose))

        reads_by : (why : NoProgram) → CountsFailed why old.faults new.faults → ((o : Reply) → IsReplyTo why o → Delivers r o k b n a) → TellsFailedRead (status_after r) old.faults new.faults reads reads
        reads_by (Files (unfit.Unread of)) counts d = reads_loaded r k n b a of.now old.faults new.faults reads counts (d (unread of.now) refl)
        reads_by (Files unfit.TooLong) counts d = reads_still r k n b a (refused_at fault.TooLong 1 1) old.faults new.faults reads counts (counts, refl) (d (refused_at fault.TooLong 1 1) refl)
        reads_by (Files unfit.OutOfMemory) counts d = reads_still r k n b a usage old.faults new.faults reads counts (counts, refl) (d usage tt)
        reads_by (Text (refusal.At f line column)) counts d = reads_still r k n b a (refused_at f line column) old.faults new.faults reads counts (counts, refl) (d (refused_at f line column) refl)
        reads_by (Text refusal.OutOfMemory) counts d = reads_still r k n b a usage old.faults new.faults reads counts (counts, refl) (d usage tt)

        without : has_text (status_after r) ≡ false → AskedFor false (files_in job) old.names new.names → AskedFor (has_text (status_after r)) (files_in job) old.names new.names
        without none names = let P : Bool → Type 0 = λ all. AskedFor all (files_in job) old.names new.names in subst P (sym none) names

        names_by : (why : NoProgram) → AskedFor (is_of_text why) (files_in job) old.names new.names → ((o : Reply) → IsReplyTo why o → Delivers r o k b n a)
            → AskedFor (has_text (status_after r)) (files_in job) old.names new.names
        names_by (Files (unfit.Unread of)) names d = without (textless r k n b a (unread of.now) refl (d (unread of.now) refl)) names
        names_by (Files unfit.TooLong) names d = without (textless r k n b a (refused_at fault.TooLong 1 1) refl (d (refused_at fault.TooLong 1 1) refl)) names
        names_by (Files unfit.OutOfMemory) names d = without (textless r k n b a usage refl (d usage tt)) names
        names_by (Text e) names d = asked_any _ (files_in job) old.names new.names names

-- ---- the words of the command line

pub words_run : (asked : Option Job) (job : Job) (r : Result Status Stop) (told : List ℕ → Option (Option (List ℕ))) (Untouched : Type 0) (old new : Shelved) (before now : Devices) → asked ≡ Some job
    → IsRun (Some job) r told Untouched old new before now → IsRun asked r told Untouched old new before now
words_run asked job r told Untouched old new before now is run =
    let P : Option Job → Type 0 = λ asked. IsRun asked r told Untouched old new before now in subst P (sym is) run

-- words that ask for no job
pub unfit_run : (asked : Option Job) (r : Result Status Stop) (told : List ℕ → Option (Option (List ℕ))) (Untouched : Type 0) (old : Shelved) (left k n : Option (List ℕ)) (reads b a : ℕ) (f : WordsFault)
    → (f ≡ words.Usage → asked ≡ None) → ((o : Reply) → (f ≡ words.Usage → o ≡ usage) → Delivers r o k b n a) → Untouched → IsRun asked r told Untouched old old (devices left reads k b) (devices left reads n a)
unfit_run asked r told Untouched old left k n reads b a f unfit d same =
    record {
      quiet = quiet_by f asked unfit d;
      unread = λ rose. absurd (omega (arith, rose));
      reads = reads_still r k n b a usage old.faults old.faults reads refl (refl, refl) (d usage (λ is. refl));
      input = ([], sym (prepend_known-nil left));
      untouched = λ none. same;
      refused = λ is. same;
      unloaded = λ rose. same;
      names = names_by asked;
      unasked = λ none. refl;
    }
  where
    names_by : (asked : Option Job) → AskedForJob (status_after r) asked old.names old.names
    names_by (Some job) =
        let P : Bool → Type 0 = λ all. AskedFor all (files_in job) old.names old.names in
        subst P (sym (textless r k n b a usage refl (d usage (λ is. refl)))) (asked_none (files_in job) old.names)
    names_by None = refl

    quiet_by : (f : WordsFault) (asked : Option Job) → (f ≡ words.Usage → asked ≡ None) → ((o : Reply) → (f ≡ words.Usage → o ≡ usage) → Delivers r o k b n a)
        → OfContents told (files_asked asked) (λ contents.
        OfInput left left (nat_lt reads reads) (λ z. Delivers r (whole_job asked contents (broken_load old.names old.names old.faults old.faults) z) k b n a)
        × (job_asks asked contents (broken_load old.names old.names old.faults old.faults) ≡ false → Untouched))
    quiet_by words.Usage (Some job) unfit d = absurd (let e = unfit refl in cc)
    quiet_by words.Usage None unfit d = (input_untouched left _ _ (λ z. d usage (λ is. refl)), λ none. same)
    quiet_by words.OutOfMemory asked unfit d =
        contents_any told (files_asked asked) _
        (λ contents. (input_untouched left _ _ (λ z. d (whole_job asked contents (broken_load old.names old.names old.faults old.faults) z) (λ is. absurd (cc))), λ none. same))

-- ---- words that ask to wait

pub job_waits : (asked : Option Job) (job : Job) (Q : Type 0) → asked ≡ Some job → is_waiting_run job ≡ false → unwrap_or (option_map is_waiting_run asked) false ≡ true → Q
job_waits asked job Q is still waits =
    let W : Option Job → Type 0 = λ asked. unwrap_or (option_map is_waiting_run asked) false ≡ true in absurd (false≢true (sym still ∙ subst W is waits))

pub unfit_waits : (asked : Option Job) (r : Result Status Stop) (f : WordsFault) → (f ≡ words.Usage → asked ≡ None) → (f ≡ words.OutOfMemory → r ≡ Err stop.OutOfMemory)
    → unwrap_or (option_map is_waiting_run asked) false ≡ true → status_after r ≡ status.OutOfMemory
unfit_waits asked r words.Usage unfit short waits =
    let W : Option Job → Type 0 = λ asked. unwrap_or (option_map is_waiting_run asked) false ≡ true in absurd (false≢true (subst W (unfit refl) waits))
unfit_waits asked r words.OutOfMemory unfit short waits = ap status_after (short refl)
