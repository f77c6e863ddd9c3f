-- What the results of a right side and of its actions mean.
use Rattle.std.specs.Prelude.{ℕ, ◌-◌, Bool, true, false, Result, Ok, Err}
use Rattle.ops_base.specs.Names.{Spellings}
use Rattle.ops_base.specs.declared.programs.Program.{Program}
use Rattle.ops_io.specs.Coming.{Coming}
use Rattle.ops_io.specs.declared.stop.Stop.TheVariants as stop
use Rattle.ops_meaning.specs.Acting.{Setting, Acted as Meant, Misdeed, Bad, NoInput, ActionError as Missed, Fault, Unread}
use Rattle.ops_meaning.specs.Effects.{Failure, OfPort, OfEffect}
use Rattle.act_phase.specs.declared.outcome.ActFault.{ActFault}
use Rattle.act_phase.specs.declared.outcome.ActFault.TheVariants as fault
use Rattle.act_phase.specs.declared.outcome.Acted.{Acted}
use Rattle.act_phase.specs.declared.outcome.ActionError.{ActionError}
use Rattle.act_phase.specs.declared.outcome.ActionError.TheVariants as mishap

-- the setting of a right side of the program at this trace level
abbrev pub setting_of : Program → ℕ → Setting
setting_of p watch = record { classes = p.classes; rules = p.rules; templates = p.templates; text = p.text; watch = watch }

abbrev pub acted_of : Acted → Spellings → Coming → Meant
acted_of a names coming =
    record { changes = a.changes; last = a.next_tag - 1; halted = a.halted; built = a.built; names = names; coming = coming }

abbrev pub failure_of : ActFault → Failure Misdeed
failure_of (fault.Bad action kind) = OfEffect (Bad action kind)
failure_of fault.Read = OfEffect NoInput
failure_of fault.Write = OfPort stop.Write
failure_of fault.OutOfMemory = OfPort stop.OutOfMemory

-- the same for one action
abbrev pub mishap_of : ActionError → Failure Missed
mishap_of (mishap.Fault kind) = OfEffect (Fault kind)
mishap_of mishap.Read = OfEffect Unread
mishap_of mishap.Write = OfPort stop.Write
mishap_of mishap.OutOfMemory = OfPort stop.OutOfMemory

-- ---- whether a read failed

abbrev pub is_read : ActFault → Bool
is_read (fault.Bad action kind) = false
is_read fault.Read = true
is_read fault.Write = false
is_read fault.OutOfMemory = false

abbrev pub is_read_mishap : ActionError → Bool
is_read_mishap (mishap.Fault kind) = false
is_read_mishap mishap.Read = true
is_read_mishap mishap.Write = false
is_read_mishap mishap.OutOfMemory = false

-- it failed, for a reason that passes the test
abbrev pub fails_by : {X F : Type 0} → (F → Bool) → Result X F → Bool
fails_by test (Ok x) = false
fails_by test (Err f) = test f

abbrev pub is_unread : {X : Type 0} → Result X ActFault → Bool
is_unread r = fails_by is_read r
