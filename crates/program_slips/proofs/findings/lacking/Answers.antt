use Rattle.std.proofs.Common.{ap, ◌∙◌}
use Rattle.std.specs.HashSet.{contains}
use Rattle.program_slips.specs.Given.{same_given, given_of}
use Rattle.program_slips.specs.Asked.{asks_of}
use Rattle.program_slips.proofs.Stepping.{begins}
use Rattle.program_slips.proofs.findings.lacking.Goals as goal

pub returns : goal.returns
returns c =
    let p = c.args.program.now in
    let templates = c.as_slice-templates.result.now in
    let commands = c.as_slice-commands.result.now in
    let given = c.deref.ensures.value ∙ c.in_ok-given.ensures ∙ ap (λ rs. given_of rs templates commands) c.as_slice-rules.ensures
    ∙ ap (λ ts. given_of p.rules ts commands) c.as_slice-templates.ensures ∙ ap (λ cs. given_of p.rules p.templates cs) c.as_slice-commands.ensures in
    let asks = c.deref-2.ensures.value ∙ c.in_ok-asks.ensures ∙ ap (λ cs. asks_of cs c.as_slice-rules.result.now templates commands) c.as_slice-classes.ensures
    ∙ ap (λ rs. asks_of p.classes rs templates commands) c.as_slice-rules.ensures ∙ ap (λ ts. asks_of p.classes p.rules ts commands) c.as_slice-templates.ensures
    ∙ ap (λ cs. asks_of p.classes p.rules p.templates cs) c.as_slice-commands.ensures in
    begins p.classes p.rules p.templates p.commands (contains same_given c.in_ok-known.known) c.deref.result.now c.deref-2.result.now c.in_ok-found.found.items
    c.in_ok-known.ensures given asks c.in_ok-found.ensures
