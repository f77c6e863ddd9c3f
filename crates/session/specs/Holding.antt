-- Which symbols the names of a session hold.
use Rattle.std.specs.Prelude.{ℕ, ◌<◌, length, MatchResult}
use Rattle.ops_base.specs.declared.endings.Ending.{Ending}
use Rattle.ops_base.specs.declared.endings.Ending.TheVariants as ending
use Rattle.ops_base.specs.declared.programs.Program.{Program}
use Rattle.ops_base.specs.Names.{Spellings}
use Rattle.ops_io.specs.Coming.{Coming}
use Rattle.ops_meaning.specs.Running.{session_of}
use Rattle.act_phase.specs.Held.{HoldsProgram, HoldsElements}
use Rattle.act_phase.specs.Outcomes.{setting_of}

-- the production that an ending names has a spelling among these names
abbrev pub NamesHeld : Spellings → Ending → Type 0
NamesHeld names (ending.Act firing rule name action kind) = name.0 < length names.held
NamesHeld names (ending.Done firings elements last) = Unit {0}
NamesHeld names (ending.Limit firings) = Unit {0}
NamesHeld names ending.ReadFault = Unit {0}
NamesHeld names ending.WriteFault = Unit {0}
NamesHeld names ending.OutOfMemory = Unit {0}

-- Whatever input comes, a session of the program that begins with these names ends in one of two ways: with names that
-- hold each symbol of the program and of working memory, or with an ending whose production is named by a symbol that
-- the names at the beginning held.
abbrev pub EndsHeld : Program → ℕ → Spellings → Type 0
EndsHeld p limit names =
    (coming : Coming) → MatchResult (session_of (setting_of p 0) limit p.commands names coming).outcome
    (λ k. HoldsProgram k.course.names p × HoldsElements k.course.names k.course.wm)
    (NamesHeld names)
