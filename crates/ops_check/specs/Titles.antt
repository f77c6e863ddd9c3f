-- The names of the productions that commands add.
use Rattle.std.specs.Prelude.{List, [], ◌∷◌, ◌++◌, map, Option, Some, None}
use Rattle.ops_base.specs.declared.values.Sym.{Sym}
use Rattle.ops_base.specs.declared.commands.Command.{Command}
use Rattle.ops_base.specs.declared.commands.Command.TheVariants as command
use Rattle.ops_grammar.specs.Grammar.{added_by}

abbrev pub names_added : List Command → List Sym
names_added commands = map (λ r. r.name) (added_by commands)

abbrev pub name_added : Command → Option Sym
name_added (command.Add r) = Some r.name
name_added _ = None

abbrev pub noted : List Sym → Option Sym → List Sym
noted names (Some name) = names ++ name ∷ []
noted names None = names
