use Rattle.std.proofs.Common.{◌++◌, ◌∙◌, ap, sym, subst, List, None, Vec}
use Rattle.std.proofs.lemmas.Result.{err_from_is_err_and}
use Rattle.std.specs.declared.alloc.Global.{Global}
use Rattle.ops_base.specs.declared.rules.Rule.{Rule}
use Rattle.ops_base.specs.declared.conditions.Part.{Part}
use Rattle.ops_base.specs.Valid.{cells_of}
use Rattle.ops_lhs.specs.LeftSides.{left_read}
use Rattle.ops_rhs.specs.declared.sides.Sight.{Sight}
use Rattle.ops_rhs.specs.RightSides.{ReadsRight, RefusesRight}
use Rattle.ops_check.specs.Walks.{view}
use Rattle.ops_check.proofs.Sides.{sees, right_is_read}
use Rattle.ops_check.proofs.draft.Draft.actions.Goals as goal

pub returns-clause-reads : goal.returns-clause-reads
returns-clause-reads c =
    let s = view c.args.self.now in
    let left = c.args.left in
    let same_templates = ap (λ (v : Vec Rule Global). v.items) c.replace-templates.ensures.value in
    let conditions = left.conditions.items in
    let right = c.in_ok-right.right in
    let reads = subst (λ (x : Sight). ReadsRight s.classes x c.args.words.now c.in_ok-right.rest.now right.actions.items right.sight) c.in_ok-conditions.ensures.sight c.in_ok-right.ensures.ok in
    right_is_read s conditions left.values left.elements left.variables left.counted left.holes c.replace-templates.result same_templates c.requires.begun c.args.words.now c.in_ok-right.rest.now right.actions.items right.sight reads (view c.end_rule.new.self) c.word_before-bracket.result c.word_before-bracket.ensures
    c.in_ok-conditions.conditions.items c.in_ok-conditions.ensures.conditions (c.in_ok-end_rule.ensures reads.further (reads.cells ∙ ap (λ (cs : List Part). cells_of cs ++ reads.further) (sym c.in_ok-conditions.ensures.conditions)))

pub returns-in_err-right-clause-reads : goal.returns-in_err-right-clause-reads
returns-in_err-right-clause-reads c =
    let s = view c.args.self.now in
    let left = c.args.left in
    let same_templates = ap (λ (v : Vec Rule Global). v.items) c.replace-templates.ensures.value in
    let refuses = subst (λ (x : Sight). RefusesRight s.classes x c.args.words.now c.in_err-right.field-0.0) c.in_ok-conditions.ensures.sight c.in_err-right.ensures.err in
    let p = err_from_is_err_and c.from_residual-in_err-right.result c.from_residual-in_err-right.ensures.1 in
    rw (p.1, p.2) (refuses (left_read None s left.conditions.items left.values left.elements left.variables left.counted left.holes.items) (sees s left.conditions.items left.values left.elements left.variables left.counted left.holes c.replace-templates.result same_templates))
