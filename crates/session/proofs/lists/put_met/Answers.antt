use Rattle.std.proofs.Common.{◌∙◌, ap, sym, ℕ, List, [], ◌∷◌, filter}
use Rattle.std.proofs.lemmas.Result.{err_from_is_err_and}
use Rattle.ops_base.specs.declared.elements.Element.{Element}
use Rattle.ops_meaning.specs.Layout.{tagged_text}
use Rattle.ops_meaning.specs.Running.{element_lines, meets}
use Rattle.session.proofs.Lines.{lines_begin, lines_step, lines_stop, filtered_first}
use Rattle.session.proofs.lists.put_met.Goals as goal

pub loop-element-init : goal.loop-element-init
loop-element-init g c =
    let lines : List Element → List (List ℕ) = λ es. element_lines c.args.names.now c.args.program.now.classes (filter (meets c.args.pattern.now) es) in
    lines_begin _ (lines c.args.store.now.elements) (lines c.into_iter-element-iterator.result) c.requires.whole (ap lines (sym (c.into_iter-element-iterator.ensures.into_iter_gives ∙ c.iter-element-items.ensures)))

pub loop-element-preserved : goal.loop-element-preserved
loop-element-preserved g c =
    let lines : List Element → List (List ℕ) = λ es. element_lines c.args.names.now c.args.program.now.classes (filter (meets c.args.pattern.now) es) in
    lines_step _ _ _ (lines c.args.store.now.elements) (lines c.loop-element.element-iterator) (lines (c.in-Some.element.now ∷ [])) (lines c.next.new.self)
    c.loop-element.invariant (ap lines c.in-Some.ensures.steps ∙ filtered_first (tagged_text c.args.names.now c.args.program.now.classes) (meets c.args.pattern.now) c.in-Some.element.now c.next.new.self) c.in_ok-put_where_met.ensures

pub returns-in_err-put_where_met : goal.returns-in_err-put_where_met
returns-in_err-put_where_met g c =
    let p = err_from_is_err_and c.from_residual.result c.from_residual.ensures.1 in
    let lines : List Element → List (List ℕ) = λ es. element_lines c.args.names.now c.args.program.now.classes (filter (meets c.args.pattern.now) es) in
    rw p.1
    (lines_stop _ _ _ (lines c.args.store.now.elements) (lines c.loop-element.element-iterator) (lines (c.in-Some.element.now ∷ [])) (lines c.next.new.self)
    c.loop-element.invariant (ap lines c.in-Some.ensures.steps ∙ filtered_first (tagged_text c.args.names.now c.args.program.now.classes) (meets c.args.pattern.now) c.in-Some.element.now c.next.new.self) c.in_err-put_where_met.ensures)
