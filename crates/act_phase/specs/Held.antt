-- Which symbols the names hold: those of values and productions that a right side produces, and those of working memory.
-- A symbol that the names hold has a spelling.
use Rattle.std.specs.Prelude.{ℕ, ◌<◌, List, length, Bool, true, IsTrue}
use Rattle.std.specs.List.{list_all}
use Rattle.ops_base.specs.declared.elements.Element.{Element}
use Rattle.ops_base.specs.declared.elements.Change.{Change}
use Rattle.ops_base.specs.declared.elements.Change.TheVariants as change
use Rattle.ops_base.specs.declared.programs.Program.{Program}
use Rattle.ops_base.specs.declared.rules.Rule.{Rule}
use Rattle.ops_base.specs.Names.{Spellings}
use Rattle.ops_base.specs.Symbols.{value_held, rule_held, is_held}

-- each symbol of the element is among the first `n`
abbrev pub element_held : ℕ → Element → Bool
element_held n e = list_all (value_held n) e.fields

-- the same for the element that a change makes
abbrev pub change_held : ℕ → Change → Bool
change_held n (change.Add e) = element_held n e
change_held n (change.Remove tag) = true

-- The names hold nil and each symbol of the program.
pub record HoldsProgram (names : Spellings) (p : Program) : Type 0 where
  pub nil : 0 < length names.held
  pub symbols : IsTrue (is_held (length names.held) p.classes p.rules p.templates p.commands)

-- The names hold each symbol of working memory.
abbrev pub HoldsElements : Spellings → List Element → Type 0
HoldsElements names wm = IsTrue (list_all (element_held (length names.held)) wm)

-- The names hold each symbol of the elements that these changes make.
abbrev pub HoldsMade : Spellings → List Change → Type 0
HoldsMade names changes = IsTrue (list_all (change_held (length names.held)) changes)

-- The names hold each symbol of these productions.
abbrev pub HoldsRules : Spellings → List Rule → Type 0
HoldsRules names rules = IsTrue (list_all (rule_held (length names.held)) rules)
