-- A valid program.
use Rattle.std.specs.Prelude.{List, length, IsTrue}
use Rattle.ops_base.specs.declared.commands.Command.{Command}
use Rattle.ops_base.specs.Valid.{is_valid}
use Rattle.ops_meaning.specs.Acting.{Setting}

-- the classes, the rules, the templates and the text of a setting, with these commands, are a valid program
abbrev pub AreValid : Setting → List Command → Type 0
AreValid s commands = IsTrue (is_valid s.classes s.rules s.templates commands (length s.text))
