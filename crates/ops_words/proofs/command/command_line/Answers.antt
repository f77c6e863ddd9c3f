use Rattle.std.proofs.Common.{◌≡◌, ◌∙◌, codes, true, ap}
use Rattle.std.proofs.lemmas.Result.{IfOk-weaker}
use Rattle.clap.specs.Simple.{app_of, on_top}
use Rattle.ops_words.specs.Command.{bare_app, files_rule, flag_rule, option_rule}
use Rattle.ops_words.proofs.Building.{with_argument, without_help, without_name}
use Rattle.ops_words.proofs.command.command_line.Goals as goal

pub returns : goal.returns
returns c =
    let bare : app_of c.disable_help_flag-bare.result ≡ bare_app =
    without_help c.no_binary_name.result c.disable_help_flag-bare.result c.disable_help_flag-bare.ensures
    ∙ ap (on_top (λ s. record s { disable_help_flag = true }))
    (without_name c.new.result c.no_binary_name.result c.no_binary_name.ensures ∙ ap (on_top (λ s. record s { no_binary_name = true })) c.new.ensures.app) in
    let first = with_argument c.disable_help_flag-bare.result c.in_ok-arg.field-0 c.option_named.result _ (option_rule (codes "match")) c.in_ok-arg.ensures c.option_named.ensures.local bare c.option_named.ensures.rule in
    let second = with_argument c.in_ok-arg.field-0 c.in_ok-arg-2.field-0 c.option_named-2.result _ (option_rule (codes "workers")) c.in_ok-arg-2.ensures c.option_named-2.ensures.local first c.option_named-2.ensures.rule in
    let third = with_argument c.in_ok-arg-2.field-0 c.in_ok-arg-3.field-0 c.option_named-3.result _ (option_rule (codes "lines")) c.in_ok-arg-3.ensures c.option_named-3.ensures.local second c.option_named-3.ensures.rule in
    let fourth = with_argument c.in_ok-arg-3.field-0 c.in_ok-arg-4.field-0 c.option_named-4.result _ (option_rule (codes "limit")) c.in_ok-arg-4.ensures c.option_named-4.ensures.local third c.option_named-4.ensures.rule in
    let fifth = with_argument c.in_ok-arg-4.field-0 c.in_ok-arg-5.field-0 c.flag_named.result _ (flag_rule (codes "gen")) c.in_ok-arg-5.ensures c.flag_named.ensures.local fourth c.flag_named.ensures.rule in
    let sixth = with_argument c.in_ok-arg-5.field-0 c.in_ok-arg-6.field-0 c.flag_named-2.result _ (flag_rule (codes "net")) c.in_ok-arg-6.ensures c.flag_named-2.ensures.local fifth c.flag_named-2.ensures.rule in
    let seventh = with_argument c.in_ok-arg-6.field-0 c.in_ok-arg-7.field-0 c.flag_named-3.result _ (flag_rule (codes "why")) c.in_ok-arg-7.ensures c.flag_named-3.ensures.local sixth c.flag_named-3.ensures.rule in
    let eighth = with_argument c.in_ok-arg-7.field-0 c.in_ok-arg-8.field-0 c.flag_named-4.result _ (flag_rule (codes "overlap")) c.in_ok-arg-8.ensures c.flag_named-4.ensures.local seventh c.flag_named-4.ensures.rule in
    IfOk-weaker c.arg-9.result _ _ (λ r adds. with_argument c.in_ok-arg-8.field-0 r c.files.result _ files_rule adds c.files.ensures.local eighth c.files.ensures.rule) c.arg-9.ensures
