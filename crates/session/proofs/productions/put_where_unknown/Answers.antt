use Rattle.std.proofs.Common.{◌∙◌, ap, is_some, cond, [], ◌∷◌}
use Rattle.ops_io.proofs.PortLemmas.{put_nothing}
use Rattle.ops_meaning.specs.Layout.{unknown_line}
use Rattle.ops_meaning.specs.Running.{rule_named}
use Rattle.session.proofs.Lines.{one_line}
use Rattle.session.proofs.ProductionLemmas.{unknown_one}
use Rattle.session.proofs.productions.put_where_unknown.Goals as goal

pub returns-in-Some : goal.returns-in-Some
returns-in-Some g c =
    let named = c.rule_named.ensures ∙ ap (λ rules. rule_named rules c.args.name.now) c.as_slice.ensures in
    let none = unknown_one c.args.names.now c.args.program.now.rules c.args.name.now c.rule_named.result named ∙ ap (λ o. cond (is_some o) [] (unknown_line c.args.names.now c.args.name.now ∷ [])) c.in-Some.is in
    rw none (put_nothing _ c.requires.whole)

pub returns-in-None : goal.returns-in-None
returns-in-None g c =
    let named = c.rule_named.ensures ∙ ap (λ rules. rule_named rules c.args.name.now) c.as_slice.ensures in
    let one = unknown_one c.args.names.now c.args.program.now.rules c.args.name.now c.rule_named.result named ∙ ap (λ o. cond (is_some o) [] (unknown_line c.args.names.now c.args.name.now ∷ [])) c.in-None.is in
    rw (one, one_line) c.put_name_line.ensures.puts
