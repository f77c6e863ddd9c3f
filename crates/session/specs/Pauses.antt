-- Why a run ends regardless of what is next, as the code represents it.
use Rattle.std.specs.Prelude.{ℕ, List, Option, option_map}
use Rattle.ops_base.specs.Names.{Spellings}
use Rattle.ops_meaning.specs.Layout.{halted_line, broken_line, counted_line}
use Rattle.ops_meaning.specs.Running.{LastFiring as Meant}
use Rattle.session.specs.declared.runs.LastFiring.{LastFiring}
use Rattle.session.specs.declared.runs.Pause.{Pause}
use Rattle.session.specs.declared.runs.Pause.TheVariants as pause

-- the last firing of a run, if it made one
abbrev pub meant_last : Option LastFiring → Option Meant
meant_last last = option_map (λ f. record { rule = f.rule; halted = f.halted }) last

-- the line that is printed if a run ends for this reason
abbrev pub pause_line : Spellings → Pause → List ℕ
pause_line names pause.Halted = halted_line
pause_line names (pause.Broken name) = broken_line names name
pause_line names pause.Counted = counted_line
