-- The command line as it is built up.
use Rattle.std.proofs.Common.{◌≡◌, ◌∙◌, true, false, ap, ap₂}
use Rattle.clap.specs.Walk.{Rule, rule_of}
use Rattle.clap.specs.Simple.{App, app_of, app_of_fields, on_top, with_rule}
use Rattle.clap.specs.Built.{AddsArg}
use Rattle.clap.specs.declared.builder.arg.Arg.{Arg}
use Rattle.clap.specs.declared.builder.command.Command.{Command}
use Rattle.clap.specs.declared.builder.command.Command.TheViews.{out-Command}

pub without_name : (old new : Command) → out-Command new ≡ record (out-Command old) { no_binary_name = true }
    → app_of new ≡ on_top (λ s. record s { no_binary_name = true }) (app_of old)
without_name old new e = ap app_of_fields e

pub without_help : (old new : Command) → out-Command new ≡ record (out-Command old) { disable_help_flag = true }
    → app_of new ≡ on_top (λ s. record s { disable_help_flag = true }) (app_of old)
without_help old new e = ap app_of_fields e

pub with_argument : (old new : Command) (arg : Arg) (before : App) (rule : Rule) → AddsArg old arg new → arg.global ≡ false → app_of old ≡ before → rule_of arg ≡ rule
    → app_of new ≡ with_rule before rule
with_argument old new arg before rule adds local is same = adds.shape local ∙ ap₂ with_rule is same
