-- The effects of a call of the program.
use Rattle.std.specs.Prelude.{◌≡◌, ℕ, ◌+◌, List, Bool, true, false, Option, Result, Ok, Err, ◌⊎◌}
use Rattle.ops_io.specs.Outside.{GrewBy, GrewByPrefix}
use Rattle.ops_io.specs.Ports.{Cause}
use Rattle.ops_io.specs.declared.stop.Stop.{Stop}
use Rattle.ops_io.specs.declared.stop.Stop.TheVariants as stop
use Rattle.lint_top.specs.declared.statuses.LintStatus.{LintStatus}
use Rattle.lint_top.specs.declared.statuses.LintStatus.TheVariants as status
use Rattle.joined_files.specs.Loads.{AskedFor}
use Rattle.lint_top.specs.Report.{Reply}
use Rattle.lint_top.specs.Whole.{are_files}

-- All bytes of the reply were written and its status is returned; or the call gave up, for the reason given by the
-- count of failed writes, and a prefix was written.
abbrev pub Delivers : Result LintStatus Stop → Reply → Option (List ℕ) → ℕ → Option (List ℕ) → ℕ → Type 0
Delivers (Ok s) o old before new now = (s ≡ o.status) × GrewBy old new o.bytes × (now ≡ before)
Delivers (Err why) o old before new now = GrewByPrefix old new o.bytes × Cause why before now

-- the status of a call that may have given up
abbrev pub status_after : Result LintStatus Stop → LintStatus
status_after (Ok s) = s
status_after (Err stop.Write) = status.Unwritten
status_after (Err stop.OutOfMemory) = status.OutOfMemory

-- All bytes were written, and their status is returned; or the output refused a write or memory ran out, and a prefix
-- of them was written. A failed write is reported exactly if a write failed, which is the last one of the call.
abbrev pub Answers : LintStatus → Reply → Option (List ℕ) → ℕ → Option (List ℕ) → ℕ → Type 0
Answers status.OutOfMemory o old before new now = GrewByPrefix old new o.bytes × (now ≡ before)
Answers status.Unwritten o old before new now = GrewByPrefix old new o.bytes × (now ≡ before + 1)
Answers s o old before new now = (s ≡ o.status) × GrewBy old new o.bytes × (now ≡ before)

-- An unreadable file is reported only if a load failed. If one failed, the only other possible results are a failed
-- write and out of memory.
abbrev pub TellsLoads : LintStatus → ℕ → ℕ → Type 0
TellsLoads status.Unread before now = now ≡ before + 1
TellsLoads status.Unwritten before now = (now ≡ before) ⊎ (now ≡ before + 1)
TellsLoads status.OutOfMemory before now = (now ≡ before) ⊎ (now ≡ before + 1)
TellsLoads s before now = now ≡ before

-- All files were read. (If a text is too long, its last files may not have been asked for.)
abbrev pub has_text : LintStatus → Bool
has_text status.Clean = true
has_text status.Warned = true
has_text _ = false

abbrev pub AskedForBy : Bool → LintStatus → List (List ℕ) → List (List ℕ) → List (List ℕ) → Type 0
AskedForBy true s words old new = AskedFor (has_text s) words old new
AskedForBy false s words old new = new ≡ old

-- The files that the words name were asked for, in order, each once, up to one that can't be loaded; if there is no
-- error, all of them. If the words name no files, none was asked for.
abbrev pub AskedForWords : LintStatus → List (List ℕ) → List (List ℕ) → List (List ℕ) → Type 0
AskedForWords s words old new = AskedForBy (are_files words) s words old new
