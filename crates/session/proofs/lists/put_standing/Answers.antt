use Rattle.std.proofs.Common.{◌∙◌, ap, sym, map, refl}
use Rattle.std.proofs.lemmas.Result.{err_from_is_err_and}
use Rattle.ops_meaning.specs.Layout.{inst_text}
use Rattle.session.specs.Courses.{standing_in}
use Rattle.session.proofs.Lines.{lines_begin, line_step, line_stop, lines_end}
use Rattle.session.proofs.Standing.{standing_list}
use Rattle.session.proofs.lists.put_standing.Goals as goal

pub loop-inst-init : goal.loop-inst-init
loop-inst-init g c =
    let f = inst_text c.args.names.now c.args.program.now.rules in
    lines_begin _ (map f (standing_in c.args.program.now.rules c.args.index.now)) (map f c.into_iter-inst-iterator.result) c.requires.whole
    (ap (map f)
    (sym (c.into_iter-inst-iterator.ensures.into_iter_gives
    ∙ standing_list c.args.program.now.rules c.args.index.now c.by_dominance-inst-items.ensures.in_order c.requires.specificities c.by_dominance-inst-items.result c.by_dominance-inst-items.ensures.places)))

pub loop-inst-preserved : goal.loop-inst-preserved
loop-inst-preserved g c =
    let f = inst_text c.args.names.now c.args.program.now.rules in
    line_step _ _ _ (map f (standing_in c.args.program.now.rules c.args.index.now)) (map f c.loop-inst.inst-iterator) (map f c.next.new.self) (f c.in-Some.inst.now) c.loop-inst.invariant
    (ap (map f) c.in-Some.ensures.steps) c.in_ok-put_inst_line.ensures.puts

pub returns-in_err-put_inst_line-clause-performs : goal.returns-in_err-put_inst_line-clause-performs
returns-in_err-put_inst_line-clause-performs g c = λ k.
    let p = err_from_is_err_and c.from_residual.result c.from_residual.ensures.1 in
    let f = inst_text c.args.names.now c.args.program.now.rules in
    rw (p.1, p.2)
    (line_stop _ _ _ (map f (standing_in c.args.program.now.rules c.args.index.now)) (map f c.loop-inst.inst-iterator) (map f c.next.new.self) (f c.in-Some.inst.now) c.loop-inst.invariant
    (ap (map f) c.in-Some.ensures.steps) c.in_err-put_inst_line.ensures.puts)

pub returns-clause-performs : goal.returns-clause-performs
returns-clause-performs g c = λ k.
    let f = inst_text c.args.names.now c.args.program.now.rules in (
      refl,
      lines_end _ _ (map f (standing_in c.args.program.now.rules c.args.index.now)) (map f c.loop-inst.inst-iterator) c.loop-inst.invariant (ap (map f) c.in-None.ensures.steps.0),
    )
