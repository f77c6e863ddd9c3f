-- The result of a call that delivers a reply.
use Rattle.std.proofs.Common.{◌≡◌, ℕ, ◌+◌, ◌<◌, List, [], ◌∷◌, Bool, true, false, Option, Result, Ok, Err, refl, sym, ap, subst, ◌∙◌, inl, inr, arith}
use Rattle.std.specs.Prelude.{if◌then◌else◌}
use Rattle.joined_files.specs.declared.parts.Part.{Part}
use Rattle.ops_grammar.specs.Reads.{Read, Placed, reads}
use Rattle.lint_top.specs.declared.remarks.Remark.{Remark}
use Rattle.fault_search.specs.declared.first.PlacedFault.{PlacedFault}
use Rattle.ops_io.specs.Outside.{GrewBy}
use Rattle.ops_io.specs.declared.stop.Stop.{Stop}
use Rattle.ops_io.specs.declared.stop.Stop.TheVariants as stop
use Rattle.joined_files.specs.Files.{Gathered, Joined, Unread, Overlong, gathered_all, readable}
use Rattle.joined_files.specs.Loads.{ComesTo, CountsUnread, IsOfLast, AskedFor, last_of}
use Rattle.joined_files.specs.declared.files.FilesFault.{FilesFault}
use Rattle.joined_files.specs.declared.files.FilesFault.TheVariants as fault
use Rattle.lint_top.specs.declared.statuses.LintStatus.{LintStatus}
use Rattle.lint_top.specs.declared.statuses.LintStatus.TheVariants as status
use Rattle.lint_top.specs.Report.{Reply, report, reply_by, of_read, status_by}
use Rattle.lint_top.specs.Whole.{are_files, answer_gathered, overlong, unread, whole, usage}
use Rattle.lint_top.specs.Calls.{Answers, Delivers, TellsLoads, status_after, has_text}

-- ---- the statuses of a reply

-- what was written has such a status
abbrev IsSaid : LintStatus → Type 0
IsSaid status.Unwritten = ⊥
IsSaid status.OutOfMemory = ⊥
IsSaid s = Unit {0}

-- so has the report about files that were read
abbrev IsRead : LintStatus → Type 0
IsRead status.Unwritten = ⊥
IsRead status.OutOfMemory = ⊥
IsRead status.Unread = ⊥
IsRead s = Unit {0}

remarks_status : (rs : List Remark) → IsRead (status_by rs)
remarks_status [] = tt
remarks_status (r ∷ rs) = tt

read_status : (names : List (List ℕ)) (text : List ℕ) (parts : List Part) (r : Result Read Placed) → IsRead (of_read names text parts r).status
read_status names text parts (Ok p) = remarks_status _
read_status names text parts (Err f) = tt

faults_status : (names : List (List ℕ)) (text : List ℕ) (parts : List Part) (fs : List PlacedFault) → IsRead (reply_by names text parts fs).status
faults_status names text parts [] = read_status names text parts (reads text)
faults_status names text parts (f ∷ fs) = tt

said_status : (s : LintStatus) → IsRead s → IsSaid s
said_status status.Clean h = tt
said_status status.Warned h = tt
said_status status.Faulty h = tt
said_status status.Usage h = tt
said_status status.Unread h = tt
said_status status.Unwritten h = h
said_status status.OutOfMemory h = h

report_read : (names : List (List ℕ)) (text : List ℕ) (parts : List Part) → IsRead (report names text parts).status
report_read names text parts = faults_status names text parts _

gathered_said : (names : List (List ℕ)) (g : Gathered) → IsSaid (answer_gathered names g).status
gathered_said names (Joined text parts) = said_status (report names text parts).status (report_read names text parts)
gathered_said names (Unread name) = tt
gathered_said names (Overlong name) = tt

-- ---- the result

answers_in_full : (s : LintStatus) (o : Reply) (old new : Option (List ℕ)) (before now : ℕ) → IsSaid o.status → s ≡ o.status → GrewBy old new o.bytes → now ≡ before → Answers s o old before new now
answers_in_full status.Clean o old new before now said e g n = (e, g, n)
answers_in_full status.Warned o old new before now said e g n = (e, g, n)
answers_in_full status.Faulty o old new before now said e g n = (e, g, n)
answers_in_full status.Usage o old new before now said e g n = (e, g, n)
answers_in_full status.Unread o old new before now said e g n = (e, g, n)
answers_in_full status.Unwritten o old new before now said e g n = absurd (subst IsSaid (sym e) said)
answers_in_full status.OutOfMemory o old new before now said e g n = absurd (subst IsSaid (sym e) said)

delivers_by : (r : Result LintStatus Stop) (o : Reply) (old new : Option (List ℕ)) (before now : ℕ) → IsSaid o.status → Delivers r o old before new now → Answers (status_after r) o old before new now
delivers_by (Ok s) o old new before now said d = answers_in_full s o old new before now said d.0 d.1 d.2
delivers_by (Err stop.Write) o old new before now said d = d
delivers_by (Err stop.OutOfMemory) o old new before now said d = d

-- the status after what is delivered is returned
answers_by : (s : LintStatus) (r : Result LintStatus Stop) (o : Reply) (old new : Option (List ℕ)) (before now : ℕ) → IsSaid o.status → s ≡ status_after r → Delivers r o old before new now → Answers s o old before new now
answers_by s r o old new before now said e d = subst (λ s. Answers s o old before new now) (sym e) (delivers_by r o old new before now said d)

chosen : (b : Bool) (o p : Reply) → b ≡ true → (if b then o else p) ≡ o
chosen true o p e = refl
chosen false o p e = cc

left_out : (b : Bool) (o p : Reply) → b ≡ false → (if b then o else p) ≡ p
left_out true o p e = cc
left_out false o p e = refl

module _ (words : List (List ℕ)) (contents : List (Option (List ℕ))) (broken : Option ℕ) (s : LintStatus) (r : Result LintStatus Stop) (old new : Option (List ℕ)) (before now : ℕ) (e : s ≡ status_after r) where
  -- the words name files
  pub files_answer : are_files words ≡ true → Delivers r (answer_gathered words (gathered_all words (readable contents broken))) old before new now → Answers s (whole words contents broken) old before new now
  files_answer fit d =
      let g = gathered_all words (readable contents broken) in
      subst (λ (o : Reply). Answers s o old before new now) (sym (chosen (are_files words) (answer_gathered words g) usage fit))
      (answers_by s r (answer_gathered words g) old new before now (gathered_said words g) e d)

  -- they name none
  pub usage_answers : are_files words ≡ false → Delivers r usage old before new now → Answers s (whole words contents broken) old before new now
  usage_answers unfit d =
      subst (λ (o : Reply). Answers s o old before new now) (sym (left_out (are_files words) (answer_gathered words (gathered_all words (readable contents broken))) usage unfit))
      (answers_by s r usage old new before now tt e d)

-- ---- the loads

-- no load failed
none_failed : (r : Result LintStatus Stop) (o : Reply) (old new : Option (List ℕ)) (before now loads later : ℕ) → IsRead o.status → Delivers r o old before new now → later ≡ loads → TellsLoads (status_after r) loads later
none_failed (Err stop.Write) o old new before now loads later h d e = inl e
none_failed (Err stop.OutOfMemory) o old new before now loads later h d e = inl e
none_failed (Ok s) o old new before now loads later h d e = by s (subst IsRead (sym d.0) h)
  where
    by : (s : LintStatus) → IsRead s → TellsLoads s loads later
    by status.Clean h = e
    by status.Warned h = e
    by status.Faulty h = e
    by status.Usage h = e
    by status.Unread h = absurd h
    by status.Unwritten h = absurd h
    by status.OutOfMemory h = absurd h

-- one failed
one_failed : (r : Result LintStatus Stop) (o : Reply) (old new : Option (List ℕ)) (before now loads later : ℕ) → o.status ≡ status.Unread → Delivers r o old before new now → later ≡ loads + 1 → TellsLoads (status_after r) loads later
one_failed (Err stop.Write) o old new before now loads later h d e = inr e
one_failed (Err stop.OutOfMemory) o old new before now loads later h d e = inr e
one_failed (Ok s) o old new before now loads later h d e = subst (λ s. TellsLoads s loads later) (sym (d.0 ∙ h)) e

pub report_loads : (r : Result LintStatus Stop) (names : List (List ℕ)) (text : List ℕ) (parts : List Part) (old new : Option (List ℕ)) (before now loads later : ℕ)
    → Delivers r (report names text parts) old before new now → later ≡ loads → TellsLoads (status_after r) loads later
report_loads r names text parts old new before now loads later d e =
    none_failed r (report names text parts) old new before now loads later (report_read names text parts) d e

pub why_loads : (T : Type 0) (why : FilesFault) (r : Result LintStatus Stop) (old new : Option (List ℕ)) (before now loads later : ℕ)
    → CountsUnread {T = T} (Err why) loads later → ((names : List (List ℕ)) (found : Gathered) → ComesTo why found → Delivers r (answer_gathered names found) old before new now)
    → TellsLoads (status_after r) loads later
why_loads T (fault.Unread of) r old new before now loads later e d = one_failed r (unread of.now) old new before now loads later refl (d [] (Unread of.now) refl) e
why_loads T (fault.TooLong of) r old new before now loads later e d = none_failed r (overlong of.now) old new before now loads later tt (d [] (Overlong of.now) refl) e
why_loads T fault.OutOfMemory r old new before now loads later e d = none_failed r (overlong []) old new before now loads later tt (d [] (Overlong []) tt) e

pub usage_loads : (s : LintStatus) (r : Result LintStatus Stop) (old new : Option (List ℕ)) (before now loads : ℕ) → s ≡ status_after r → Delivers r usage old before new now → TellsLoads s loads loads
usage_loads s r old new before now loads e d = subst (λ s. TellsLoads s loads loads) (sym e) (none_failed r usage old new before now loads loads tt d refl)

-- ---- the files that were asked for

-- the file that can't be read is that of the last load
pub why_last : (T : Type 0) (why : FilesFault) (r : Result LintStatus Stop) (asked : List (List ℕ)) (old new : Option (List ℕ)) (before now loads later : ℕ)
    → CountsUnread {T = T} (Err why) loads later → IsOfLast why asked → ((names : List (List ℕ)) (found : Gathered) → ComesTo why found → Delivers r (answer_gathered names found) old before new now)
    → loads < later → Delivers r (unread (last_of asked)) old before new now
why_last T (fault.Unread of) r asked old new before now loads later e is d rose =
    subst (λ (n : List ℕ). Delivers r (unread n) old before new now) is (d [] (Unread of.now) refl)
why_last T (fault.TooLong of) r asked old new before now loads later e is d rose = absurd (omega (arith, e, rose))
why_last T fault.OutOfMemory r asked old new before now loads later e is d rose = absurd (omega (arith, e, rose))

pub last_answers : (s : LintStatus) (r : Result LintStatus Stop) (name : List ℕ) (old new : Option (List ℕ)) (before now : ℕ)
    → s ≡ status_after r → Delivers r (unread name) old before new now → Answers s (unread name) old before new now
last_answers s r name old new before now e d = answers_by s r (unread name) old new before now tt e d

no_text : (r : Result LintStatus Stop) (o : Reply) (old new : Option (List ℕ)) (before now : ℕ) → has_text o.status ≡ false → Delivers r o old before new now → has_text (status_after r) ≡ false
no_text (Ok s) o old new before now h d = ap has_text d.0 ∙ h
no_text (Err stop.Write) o old new before now h d = refl
no_text (Err stop.OutOfMemory) o old new before now h d = refl

why_no_text : (why : FilesFault) (r : Result LintStatus Stop) (old new : Option (List ℕ)) (before now : ℕ)
    → ((names : List (List ℕ)) (found : Gathered) → ComesTo why found → Delivers r (answer_gathered names found) old before new now) → has_text (status_after r) ≡ false
why_no_text (fault.Unread of) r old new before now d = no_text r (unread of.now) old new before now refl (d [] (Unread of.now) refl)
why_no_text (fault.TooLong of) r old new before now d = no_text r (overlong of.now) old new before now refl (d [] (Overlong of.now) refl)
why_no_text fault.OutOfMemory r old new before now d = no_text r (unread []) old new before now refl (d [] (Unread []) tt)

-- all were asked for
pub all_asked : (b : Bool) (files old new : List (List ℕ)) → AskedFor true files old new → AskedFor b files old new
all_asked b files old new a = record { loads = a.loads; within = a.within; names = a.names; all_of_them = λ e. a.all_of_them refl }

-- some were
pub why_asked : (why : FilesFault) (r : Result LintStatus Stop) (old new : Option (List ℕ)) (before now : ℕ) (files asked after : List (List ℕ))
    → ((names : List (List ℕ)) (found : Gathered) → ComesTo why found → Delivers r (answer_gathered names found) old before new now)
    → AskedFor false files asked after → AskedFor (has_text (status_after r)) files asked after
why_asked why r old new before now files asked after d a = subst (λ b. AskedFor b files asked after) (sym (why_no_text why r old new before now d)) a
