use Rattle.std.proofs.Common.{◌==◌, sym, ◌∙◌}
use Rattle.std.proofs.lemmas.Bool.{eqb-true}
use Rattle.std.proofs.lemmas.List.Quantifiers.{position-Some}
use Rattle.std.proofs.lemmas.Result.{on_ok_weaker}
use Rattle.ops_grammar.specs.declared.words.Named.{Named}
use Rattle.ops_forms.proofs.Numbered.{renumbered_at, renumbered_last}
use Rattle.ops_forms.proofs.declared.Declared+Named.renumber.Goals as goal

pub set-requires-clause-name : goal.set-requires-clause-name
set-requires-clause-name c =
    let named : Named = record { name = c.args.name; number = c.args.number } in
    eqb-true _ _ (position-Some (λ n. n.name.0 == c.args.name.0) c.args.self.now c.in-Some.place named (sym c.place_of.ensures ∙ c.in-Some.is)).1

pub returns-in-Some-clause-ok : goal.returns-in-Some-clause-ok
returns-in-Some-clause-ok c =
    c.set.ensures ∙ renumbered_at c.args.name c.args.number c.args.self.now c.in-Some.place (sym c.place_of.ensures ∙ c.in-Some.is)

pub returns-in-None-clause-ok : goal.returns-in-None-clause-ok
returns-in-None-clause-ok c =
    on_ok_weaker c.push.result
    (λ pushed. pushed ∙ renumbered_last c.args.name c.args.number c.args.self.now (sym c.place_of.ensures ∙ c.in-None.is)) c.push.ensures.ok
