use Rattle.std.proofs.Common.{◌≡◌, ◌∙◌, List, None, Some, refl, sym, ap}
use Rattle.ops_base.specs.declared.actions.Hole.{Hole}
use Rattle.ops_grammar.specs.declared.words.Named.{Named}
use Rattle.ops_grammar.specs.Grammar.{State, Step, hole_of, number_of, values_around}
use Rattle.ops_forms.proofs.Constants.{no_hole, hole_is, hole_unbound}
use Rattle.ops_lhs.specs.Taking.{seen}
use Rattle.ops_lhs.proofs.left.Left.begin_constant.Goals as goal

pub returns-in_default : goal.returns-in_default
returns-in_default c = λ next s i.
    no_hole c.args.word.keyword next (seen s c.args.self.now) (sym c.hole_of.ensures ∙ c.in_default.is)

pub returns-in_default-number_of : goal.returns-in_default-number_of
returns-in_default-number_of c =
    let name = c.in-Some.name in
    rw c.refused.ensures (
      refl,
      λ next s i.
          hole_unbound c.args.word.keyword name next (seen s c.args.self.now) (sym c.hole_of.ensures ∙ c.in-Some.is)
          (ap (number_of name) i.values ∙ sym c.number_of.ensures ∙ c.in_default-number_of.is),
    )

pub returns : goal.returns
returns c =
    let name = c.in-Some.name in
    λ next s i.
    hole_is c.args.word.keyword name c.in-Some-number_of.variable next (seen s c.args.self.now) (sym c.hole_of.ensures ∙ c.in-Some.is)
    (ap (number_of name) i.values ∙ sym c.number_of.ensures ∙ c.in-Some-number_of.is)
    ∙ ap (λ (hs : List Hole). next (record (seen s c.args.self.now) { holes = hs })) (sym c.in_ok-push.ensures.items)
