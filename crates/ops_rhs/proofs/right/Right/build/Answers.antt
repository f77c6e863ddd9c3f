use Rattle.std.proofs.Common.{◌∷◌, ◌++◌, ◌∙◌, sym, true, drop}
use Rattle.ops_grammar.specs.Grammar.{FirstPattern, Patterns, Actions, build_begun}
use Rattle.ops_forms.proofs.Walks.{goes_as_among}
use Rattle.ops_rhs.specs.Taking.{seen, IsAround}
use Rattle.ops_rhs.proofs.Built.{name_first}
use Rattle.ops_rhs.proofs.right.Right.build.Goals as goal

pub returns-clause-reads : goal.returns-clause-reads
returns-clause-reads c =
    goes_as_among (IsAround c.args.around.now) _ _
    (λ more ws s i. name_first (drop c.args.at c.args.words.now) (drop c.in_ok-word.rest c.args.words.now) more c.in_ok-word.word (FirstPattern ∷ Patterns ∷ Actions true ∷ ws) (build_begun (seen s c.args.self.now)) c.in_ok-word.ensures.0 (sym c.is_name.ensures ∙ c.if-not-is_name.false))
    c.args.words.now (λ s. seen s c.built_sides.new.self) c.built_sides.result c.built_sides.ensures.reads
