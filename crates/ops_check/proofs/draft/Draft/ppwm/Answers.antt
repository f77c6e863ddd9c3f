use Rattle.std.proofs.Common.{true, List, ◌∷◌, ◌++◌, ◌∙◌, sym, ap}
use Rattle.ops_base.specs.declared.commands.Fixed.{Fixed}
use Rattle.ops_grammar.specs.Grammar.{InFixed, ClassName, Terms, goes}
use Rattle.ops_check.specs.Walks.{view}
use Rattle.ops_forms.proofs.Ways.{goes_as}
use Rattle.ops_check.proofs.Ways.{shown_first}
use Rattle.ops_check.proofs.draft.Draft.ppwm.Goals as goal

pub returns-clause-reads : goal.returns-clause-reads
returns-clause-reads c =
    let s = view c.args.self.now in
    goes_as _ _
    (λ more ws.
    shown_first c.args.words.now c.in_ok-word.rest.now more c.in_ok-word.word ws s c.in_ok-word.ensures (sym c.is_right.ensures ∙ c.if-is_right.false)
    ∙ ap (λ (fixed : List Fixed). goes (c.args.words.now ++ more) (ClassName ∷ Terms InFixed ∷ ws) (record s { fixed = fixed; shows = true })) (sym c.clear.ensures.items))
    (view c.class_and_terms.new.self) c.class_and_terms.result c.class_and_terms.ensures.reads
