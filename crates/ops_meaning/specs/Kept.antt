-- What a session keeps of working memory and of the names, that its right sides act lawfully, what they build, and that
-- its conflict sets are the sets of all instantiations.
use Rattle.std.specs.Prelude.{◌≡◌, ℕ, ◌≤◌, ◌+◌, List, [], ◌∷◌, Result, IfOk, MatchResult, Some, None, slice_get}
use Rattle.std.specs.List.{All}
use Rattle.ops_base.specs.declared.elements.Element.{Element}
use Rattle.ops_base.specs.declared.filling.Filling.{Filling}
use Rattle.ops_base.specs.declared.rules.Rule.{Rule}
use Rattle.ops_base.specs.declared.rules.Inst.{Inst}
use Rattle.ops_base.specs.declared.commands.Command.{Command}
use Rattle.ops_base.specs.declared.endings.Ending.{Ending}
use Rattle.ops_base.specs.declared.endings.Ending.TheVariants as ending
use Rattle.ops_base.specs.Filling.{rule_filled}
use Rattle.ops_base.specs.WorkingMemory.{tags_of, HasRisingTags, done, last_after, Lawful}
use Rattle.ops_base.specs.Instances.{IsConflictSet}
use Rattle.ops_base.specs.Names.{Spellings}
use Rattle.ops_io.specs.Coming.{Coming}
use Rattle.ops_meaning.specs.Acting.{Setting, Given, Acted, acted}
use Rattle.ops_meaning.specs.Running.{Finder, Find, Session, run_on, session_by, session_of}

-- The elements stand in the order of their tags, each tag once, and no tag is above the last that was given: so the next
-- one is free.
abbrev pub WellKept : List Element → ℕ → Type 0
WellKept wm last = HasRisingTags wm × All (λ t. t ≤ last) (tags_of wm)

-- The changes are lawful over this working memory, they leave it well kept, the last tag that was given is that of the
-- element that was added last, and it does not fall.
pub record IsLawfulOver (wm : List Element) (last : ℕ) (a : Acted) : Type 0 where
  pub changes : Lawful wm last a.changes
  pub last_tag : last_after last a.changes ≡ a.last
  pub kept : WellKept (done wm a.changes) a.last
  pub risen : last ≤ a.last

-- Over working memory that is well kept a right side acts lawfully.
abbrev pub ActsLawfully : Setting → ℕ → Inst → Given → Type 0
ActsLawfully s column i g = WellKept g.wm g.last → IfOk (acted s column i g).outcome (IsLawfulOver g.wm g.last)

-- the production is one of these templates, with other constants in the place of some of its own
pub record IsFilledFrom (templates : List Rule) (r : Rule) : Type 0 where
  pub number : ℕ
  pub template : Rule
  pub values : List Filling
  pub there : slice_get templates number ≡ Some template
  pub filled : r ≡ rule_filled values template

-- the same of each of these productions
abbrev pub AreFilledFrom : List Rule → List Rule → Type 0
AreFilledFrom templates [] = Unit {0}
AreFilledFrom templates (r ∷ rules) = IsFilledFrom templates r × AreFilledFrom templates rules

-- Each symbol keeps its spelling. Of a session this holds from its start on: `back` takes those away that came later.
abbrev pub KeepsNames : Spellings → Spellings → Type 0
KeepsNames old new = (i : ℕ) (s : List ℕ) → slice_get old.held i ≡ Some s → slice_get new.held i ≡ Some s

-- it finds the conflict set of each working memory whose tags rise
abbrev pub FindsConflictSets : List Rule → Finder → Type 0
FindsConflictSets rules found = (wm : List Element) → HasRisingTags wm → IsConflictSet rules wm (found wm)

-- Wherever a session looks for instantiations it looks at the conflict set of the productions in force: whatever finds
-- conflict sets leads it to the same bytes and the same outcome.
abbrev pub GoesByConflictSets : Setting → ℕ → List Command → Spellings → Type 0
GoesByConflictSets s limit commands names =
    (find : Find) → ((rules : List Rule) → FindsConflictSets rules (find rules)) → (coming : Coming)
    → session_of s limit commands names coming ≡ session_by find s limit commands names coming

-- the limit that an ending tells is this one, and a firing that failed is within it
abbrev pub TellsLimit : ℕ → Ending → Type 0
TellsLimit limit (ending.Done firings elements last) = Unit {0}
TellsLimit limit (ending.Act firing rule name action kind) = firing ≤ limit
TellsLimit limit (ending.Limit firings) = firings ≡ limit
TellsLimit limit ending.ReadFault = Unit {0}
TellsLimit limit ending.WriteFault = Unit {0}
TellsLimit limit ending.OutOfMemory = Unit {0}

-- At most this many firings were made, or the limit that was reached and printed is this one.
abbrev pub KeepsLimit : ℕ → Result Session Ending → Type 0
KeepsLimit limit r = MatchResult r (λ k. k.course.firings ≤ limit) (TellsLimit limit)

-- A session keeps to its limit, whatever input comes.
abbrev pub IsLimited : Setting → ℕ → List Command → Spellings → Type 0
IsLimited s limit commands names = (coming : Coming) → KeepsLimit limit (session_of s limit commands names coming).outcome

-- A run with a number that finishes makes at most this many firings.
abbrev pub IsCounted : ℕ → Setting → Session → Type 0
IsCounted left s k =
    (column n : ℕ) → IfOk (run_on left s column None (Some n) k).outcome (λ after. after.course.firings ≤ k.course.firings + n)
