use Rattle.std.proofs.Common.{◌≡◌, ◌++◌, ◌∙◌, refl, sym, ap, Some, true, false, is_some}
use Rattle.ops_grammar.specs.Grammar.{after, goes, hole_of, is_literal, value_of}
use Rattle.ops_check.specs.Walks.{view, target_of}
use Rattle.ops_check.proofs.Rooms.{value_hole, value_plain, of_command}
use Rattle.ops_check.proofs.draft.Draft.value_from.Goals as goal

pub returns-then-is_hole-clause-acts : goal.returns-then-is_hole-clause-acts
returns-then-is_hole-clause-acts c =
    let w = c.args.word in
    let v = c.in-Some.constant in
    let plain : is_literal w.keyword ≡ false = sym c.is_literal.ensures ∙ c.if-is_literal.false in
    let is : value_of w.kind w.name ≡ Some v = sym c.value_of.ensures ∙ c.in-Some.is in
    let hole : is_some (hole_of w.keyword) ≡ true = sym c.is_hole.ensures ∙ c.if-is_hole.true in
    rw c.refused.ensures (λ more ws. ap (after (goes (c.args.rest.now ++ more)) w) (value_hole w ws (view c.args.self.now) refl (target_of c.args.target) v (of_command c.args.target) plain is hole))

pub returns-in-Some-clause-acts : goal.returns-in-Some-clause-acts
returns-in-Some-clause-acts c =
    let w = c.args.word in
    let v = c.in-Some.constant in
    let plain : is_literal w.keyword ≡ false = sym c.is_literal.ensures ∙ c.if-is_literal.false in
    let is : value_of w.kind w.name ≡ Some v = sym c.value_of.ensures ∙ c.in-Some.is in
    let hole : is_some (hole_of w.keyword) ≡ false = sym c.is_hole.ensures ∙ c.if-is_hole.false in
    λ more ws.
    ap (after (goes (c.args.rest.now ++ more)) w) (value_plain w ws (view c.args.self.now) refl (target_of c.args.target) v (of_command c.args.target) plain is hole)
    ∙ ap (goes (c.args.rest.now ++ more) ws) (sym c.in_ok-add_constant.ensures)
