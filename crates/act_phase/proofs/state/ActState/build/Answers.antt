use Rattle.std.proofs.Common.{◌≡◌, ◌∙◌, ap, sym, slice_get, List, Some, None}
use Rattle.ops_base.specs.Filling.{rule_filled}
use Rattle.ops_base.specs.declared.rules.Rule.{Rule}
use Rattle.ops_meaning.specs.Acting.{fillings}
use Rattle.act_phase.specs.Outcomes.{setting_of}
use Rattle.act_phase.specs.State.{State, doing_of}
use Rattle.act_phase.proofs.States.{no_template, none_built, state_built, state_of, template_there}
use Rattle.act_phase.proofs.state.ActState.build.Goals as goal

pub returns-in_default-clause-does : goal.returns-in_default-clause-does
returns-in_default-clause-does c = λ names coming.
    let fields = c.self.inside in
    let none : slice_get fields.program.now.templates c.args.template ≡ None = ap (λ ts. slice_get ts c.args.template) (sym c.as_slice-templates.ensures) ∙ no_template _ c.args.template c.get.result c.get.ensures.lookup c.in_default.is in
    let same = ap (λ (s : State). s.setting.templates) c.self.view_is in
    none_built c.args.self.now.setting.templates c.args.template c.args.holes.now (doing_of c.args.self.now names coming) (ap (λ ts. slice_get ts c.args.template) (sym same) ∙ none)

pub returns-clause-does : goal.returns-clause-does
returns-clause-does c = λ names coming.
    let fields = c.self.inside in
    let there : slice_get fields.program.now.templates c.args.template ≡ Some c.in-Some.template.now = ap (λ ts. slice_get ts c.args.template) (sym c.as_slice-templates.ensures) ∙ template_there _ c.args.template c.get.result c.get.ensures.lookup c.in-Some.template c.in-Some.is in
    let state : List Rule → State = state_of (setting_of fields.program.now fields.watch) fields.working fields.bindings.items fields.cells.items fields.halted in
    ap (λ b. doing_of (state b) names coming) c.in_ok-push.ensures.items
    ∙ state_built names coming (setting_of fields.program.now fields.watch) fields.working fields.bindings.items fields.cells.items fields.halted fields.built.items c.args.self.now c.self.view_is
    c.args.template c.args.holes.now c.in-Some.template.now c.in_ok-rule.rule c.in_ok-fillings.fillings.items there
    (c.in_ok-fillings.ensures ∙ ap (λ bs. fillings bs c.args.holes.now) c.as_slice.ensures.value)
    (c.in_ok-rule.ensures ∙ ap (λ fs. rule_filled fs c.in-Some.template.now) c.as_slice-2.ensures.value)
