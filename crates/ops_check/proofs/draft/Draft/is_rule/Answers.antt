use Rattle.std.proofs.Common.{◌≡◌, Bool, true, false, ◌==◌, ◌||◌, is_some, ap, sym, ◌∙◌}
use Rattle.std.proofs.lemmas.Bool.{or_left}
use Rattle.ops_base.specs.declared.rules.Rule.{Rule}
use Rattle.ops_grammar.specs.Grammar.{added_by, has_title}
use Rattle.ops_forms.proofs.Firsts.{list_any_position}
use Rattle.ops_check.proofs.draft.Draft.is_rule.Goals as goal

pub returns-then-is_some : goal.returns-then-is_some
returns-then-is_some c =
    let there : has_title c.args.name c.args.self.now.rules ≡ true =
    list_any_position (λ (r : Rule). r.name.0 == c.args.name.0) c.args.self.now.rules ∙ ap is_some (sym c.place_of.ensures) ∙ sym c.is_some.ensures ∙ c.if-is_some.true in
    c.if-is_some.true ∙ sym (or_left _ _ there)

pub returns-else-is_some : goal.returns-else-is_some
returns-else-is_some c =
    let none : has_title c.args.name c.args.self.now.rules ≡ false =
    list_any_position (λ (r : Rule). r.name.0 == c.args.name.0) c.args.self.now.rules ∙ ap is_some (sym c.place_of.ensures) ∙ sym c.is_some.ensures ∙ c.if-is_some.false in
    c.adds.ensures ∙ sym (ap (λ (b : Bool). b || has_title c.args.name (added_by c.args.self.now.commands)) none)
