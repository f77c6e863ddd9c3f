use Rattle.std.proofs.Common.{◌≡◌, ◌++◌, ◌∙◌, refl, sym, ap, Some, true, false, is_some}
use Rattle.ops_grammar.specs.Grammar.{after, goes, hole_of, atom_of}
use Rattle.ops_check.specs.Walks.{view, target_of}
use Rattle.ops_check.proofs.Rooms.{atom_first, atom_hole, atom_plain}
use Rattle.ops_check.proofs.draft.Draft.atom.Goals as goal

pub returns-then-is_hole-clause-reads : goal.returns-then-is_hole-clause-reads
returns-then-is_hole-clause-reads c =
    let w = c.in_ok-word.word in
    let v = c.in-Some.value in
    let rest = c.in_ok-word.rest.now in
    let is : atom_of w.kind w.name ≡ Some v = sym c.atom_of.ensures ∙ c.in-Some.is in
    let hole : is_some (hole_of w.keyword) ≡ true = sym c.is_hole.ensures ∙ c.if-is_hole.true in
    rw c.refused-then-is_hole.ensures (λ more ws.
    atom_first (target_of c.args.target) c.args.words.now rest more w ws (view c.args.self.now) c.in_ok-word.ensures
    ∙ ap (after (goes (rest ++ more)) w) (atom_hole w ws (view c.args.self.now) refl (target_of c.args.target) v is hole))

pub returns-clause-reads : goal.returns-clause-reads
returns-clause-reads c =
    let w = c.in_ok-word.word in
    let v = c.in-Some.value in
    let rest = c.in_ok-word.rest.now in
    let is : atom_of w.kind w.name ≡ Some v = sym c.atom_of.ensures ∙ c.in-Some.is in
    let hole : is_some (hole_of w.keyword) ≡ false = sym c.is_hole.ensures ∙ c.if-is_hole.false in
    λ more ws.
    atom_first (target_of c.args.target) c.args.words.now rest more w ws (view c.args.self.now) c.in_ok-word.ensures
    ∙ ap (after (goes (rest ++ more)) w) (atom_plain w ws (view c.args.self.now) refl (target_of c.args.target) v is hole)
    ∙ ap (goes (rest ++ more) ws) (sym c.in_ok-add_constant.ensures)
