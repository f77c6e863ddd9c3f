use Rattle.std.proofs.Common.{◌∷◌, ◌++◌, ◌∙◌, drop, ap}
use Rattle.ops_base.specs.declared.actions.Term.TheVariants as term
use Rattle.ops_grammar.specs.Grammar.{Closes, EndsWhole, after, function, goes}
use Rattle.ops_rhs.specs.Taking.{seen, target_of, IsAround}
use Rattle.ops_rhs.proofs.Operands.{goes_anywhere, computes, computes_cut, term_goes}
use Rattle.ops_rhs.proofs.right.Right.function_from.Goals as goal

pub returns-in-Genatom-clause-acts : goal.returns-in-Genatom-clause-acts
returns-in-Genatom-clause-acts c =
    let w = c.args.word in
    let rest = drop c.args.at c.args.words.now in
    goes_anywhere (IsAround c.args.around.now) _ _
    (λ more ws s. ap (after (goes (rest ++ more)) w) (ap (λ k. function (target_of c.args.target) k ws (seen s c.args.self.now)) c.in-Genatom.is ∙ term_goes c.args.target term.Fresh (Closes EndsWhole ∷ ws) (seen s c.args.self.now)))
    c.args.words.now (λ s. seen s c.term.new.self) c.term.result c.term.ensures.reads

pub returns-in-Accept-clause-acts : goal.returns-in-Accept-clause-acts
returns-in-Accept-clause-acts c =
    let w = c.args.word in
    let rest = drop c.args.at c.args.words.now in
    goes_anywhere (IsAround c.args.around.now) _ _
    (λ more ws s. ap (after (goes (rest ++ more)) w) (ap (λ k. function (target_of c.args.target) k ws (seen s c.args.self.now)) c.in-Accept.is ∙ term_goes c.args.target term.Accept (Closes EndsWhole ∷ ws) (seen s c.args.self.now)))
    c.args.words.now (λ s. seen s c.term-in-Accept.new.self) c.term-in-Accept.result c.term-in-Accept.ensures.reads

pub returns-in-Compute-clause-acts : goal.returns-in-Compute-clause-acts
returns-in-Compute-clause-acts c =
    computes c.args.around.now (target_of c.args.target) c.args.word c.args.self.now c.compute.new.self c.args.words.now c.args.at c.in-Compute.is c.compute.result c.compute.ensures.reads

pub returns-in-Compute-clause-cut : goal.returns-in-Compute-clause-cut
returns-in-Compute-clause-cut c =
    computes_cut c.args.around.now (target_of c.args.target) c.args.word c.args.self.now c.compute.new.self c.args.words.now c.args.at c.in-Compute.is c.compute.result c.compute.ensures.cut
