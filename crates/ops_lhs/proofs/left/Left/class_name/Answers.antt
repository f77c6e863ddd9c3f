use Rattle.std.proofs.Common.{◌≡◌, ◌==◌, ◌∙◌, sym, ap, true, None, drop, position}
use Rattle.ops_base.specs.declared.elements.Class.{Class}
use Rattle.ops_base.specs.declared.endings.Fault.TheVariants as fault
use Rattle.ops_grammar.specs.Grammar.{is_name}
use Rattle.ops_lhs.specs.Taking.{seen, IsAround}
use Rattle.ops_forms.proofs.Walks.{refused_among}
use Rattle.ops_forms.proofs.Ways.{class_unknown}
use Rattle.ops_lhs.proofs.left.Left.class_name.Goals as goal

pub returns-in_default-clause-reads : goal.returns-in_default-clause-reads
returns-in_default-clause-reads c =
    let w = c.in_ok-word.word in
    let none : position (λ (x : Class). x.name.0 == w.name.0) c.args.around.now.classes.now ≡ None = sym c.place_of.ensures ∙ c.in_default.is in
    let named : is_name w.kind ≡ true = sym c.is_name.ensures ∙ c.if-not-is_name.false in
    refused_among (IsAround c.args.around.now) _ fault.UnknownClass w
    (λ more ws s i. class_unknown (drop c.args.at c.args.words.now) (drop c.in_ok-word.rest c.args.words.now) more w ws (seen s c.args.self.now) c.in_ok-word.ensures.0 named (ap (position (λ (x : Class). x.name.0 == w.name.0)) i.classes ∙ none))
    c.args.words.now (λ s. seen s c.args.self.now) _ c.refused-in_default.ensures
