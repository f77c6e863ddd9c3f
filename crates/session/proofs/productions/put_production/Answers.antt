use Rattle.std.proofs.Common.{◌==◌, ◌∙◌, ap, sym, find, length, arith}
use Rattle.ops_base.specs.declared.rules.Rule.{Rule}
use Rattle.act_phase.specs.Outcomes.{setting_of}
use Rattle.session.proofs.ProductionLemmas.{found_within, no_production}
use Rattle.session.proofs.productions.put_production.Goals as goal

pub rule_text-requires-clause-first : goal.rule_text-requires-clause-first
rule_text-requires-clause-first g c =
    let found = ap (find (λ (r : Rule). r.name.0 == c.args.name.now.0)) (sym c.as_slice.ensures) ∙ sym c.in-Some.ensures in
    (found_within c.args.program.now.classes c.args.program.now.rules c.args.program.now.templates c.args.program.now.commands (length c.args.program.now.text) (λ r. r.name.0 == c.args.name.now.0) c.in-Some.rule.now c.args.program.now.valid found).0

pub rule_text-requires-clause-past : goal.rule_text-requires-clause-past
rule_text-requires-clause-past g c =
    let found = ap (find (λ (r : Rule). r.name.0 == c.args.name.now.0)) (sym c.as_slice.ensures) ∙ sym c.in-Some.ensures in
    let within = (found_within c.args.program.now.classes c.args.program.now.rules c.args.program.now.templates c.args.program.now.commands (length c.args.program.now.text) (λ r. r.name.0 == c.args.name.now.0) c.in-Some.rule.now c.args.program.now.valid found).1 in
    omega (arith, within, ap length c.as_slice-in-Some.ensures)

pub returns-in-None : goal.returns-in-None
returns-in-None g c =
    let none = ap (find (λ (r : Rule). r.name.0 == c.args.name.now.0)) (sym c.as_slice.ensures) ∙ sym c.in-None.ensures in
    rw (no_production (setting_of c.args.program.now 0) c.args.names.now c.args.name.now none) c.put_name_line.ensures.puts
