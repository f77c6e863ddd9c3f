-- The command line as `clap` gets it: four options that take a value, four flags, and names.
use Rattle.std.specs.Prelude.{codes, true, Some}
use Rattle.clap.specs.Walk.{Rule, Text}
use Rattle.clap.specs.Simple.{App, new_app, new_rule, on_top, with_rule}
use Rattle.clap.specs.declared.builder.action.ArgAction.TheVariants.{Append, SetTrue}

-- an option that takes a value
abbrev pub option_rule : Text → Rule
option_rule name = record (new_rule name) { long = Some name }

-- a flag, which takes none
abbrev pub flag_rule : Text → Rule
flag_rule name = record (new_rule name) { long = Some name; action = Some SetTrue }

abbrev pub files_rule : Rule
files_rule = record (new_rule (codes "file")) { action = Some Append; required = true }

-- the first word is no program's name, and there is no help
abbrev pub bare_app : App
bare_app = on_top (λ s. record s { no_binary_name = true; disable_help_flag = true }) (new_app (codes "ops"))

abbrev pub app : App
app = with_rule (with_rule (with_rule (with_rule (with_rule (with_rule (with_rule (with_rule (with_rule bare_app (option_rule (codes "match"))) (option_rule (codes "workers")))
    (option_rule (codes "lines"))) (option_rule (codes "limit"))) (flag_rule (codes "gen"))) (flag_rule (codes "net"))) (flag_rule (codes "why"))) (flag_rule (codes "overlap"))) files_rule
