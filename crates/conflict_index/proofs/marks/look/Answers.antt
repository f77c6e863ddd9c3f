use Rattle.std.proofs.Common.{◌≡◌, ◌+◌, ◌∷◌, List, drop, ap, sym, ◌∙◌, subst, arith}
use Rattle.std.proofs.lemmas.List.{drop_more, drop_all}
use Rattle.ops_base.specs.declared.rules.Inst.{Inst}
use Rattle.ops_base.specs.Instances.{Before}
use Rattle.ops_base.specs.Refraction.{is_among}
use Rattle.ops_base.proofs.InOrder.{AllBefore}
use Rattle.ops_base.proofs.InstOrder.{before_differs, before_itself, not_both_before}
use Rattle.conflict_index.proofs.Looking.{among_others, among_first, among_none, from_place}
use Rattle.conflict_index.proofs.marks.look.Goals as goal

pub loop-at-preserved : goal.loop-at-preserved
loop-at-preserved c = λ i h.
    let marks = c.args.marks.now in
    let at = c.loop-at.at in
    let m = c.index-marks-at.result in
    let P : Inst → Type 0 = λ w. Before w c.args.inst.now in
    let first : drop at marks ≡ m ∷ drop (at + 1) marks =
    drop_more marks at m c.loop-at-test.true ∙ ap (λ (w : Inst). w ∷ drop (at + 1) marks) (sym c.index-marks-at.is) in
    sym (ap (λ (ms : List Inst). is_among ms i) first ∙ among_others i m (drop (at + 1) marks) (λ e. h (subst P e c.in-Less.ensures.order)))
    ∙ c.loop-at.invariant i h

pub returns-in-Equal-clause-found : goal.returns-in-Equal-clause-found
returns-in-Equal-clause-found c =
    let marks = c.args.marks.now in
    let at = c.loop-at.at in
    let m = c.index-marks-at.result in
    let inst = c.args.inst.now in
    let first : drop at marks ≡ m ∷ drop (at + 1) marks =
    drop_more marks at m c.loop-at-test.true ∙ ap (λ (w : Inst). w ∷ drop (at + 1) marks) (sym c.index-marks-at.is) in
    sym (ap (λ (ms : List Inst). is_among ms inst) first ∙ among_first inst m (drop (at + 1) marks) c.in-Equal.ensures.order)
    ∙ c.loop-at.invariant inst (before_itself inst)

pub returns-in-Equal-clause-later : goal.returns-in-Equal-clause-later
returns-in-Equal-clause-later c = λ i b.
    let marks = c.args.marks.now in
    let at = c.loop-at.at in
    let m = c.index-marks-at.result in
    let inst = c.args.inst.now in
    let first : drop at marks ≡ m ∷ drop (at + 1) marks =
    drop_more marks at m c.loop-at-test.true ∙ ap (λ (w : Inst). w ∷ drop (at + 1) marks) (sym c.index-marks-at.is) in
    sym (ap (λ (ms : List Inst). is_among ms i) first ∙ among_others i m (drop (at + 1) marks) (λ e. before_differs inst i b (sym c.in-Equal.ensures.order ∙ e)))
    ∙ c.loop-at.invariant i (not_both_before inst i b)

pub returns-in-Greater-clause-found : goal.returns-in-Greater-clause-found
returns-in-Greater-clause-found c =
    let marks = c.args.marks.now in
    let at = c.loop-at.at in
    let m = c.index-marks-at.result in
    let inst = c.args.inst.now in
    let first : drop at marks ≡ m ∷ drop (at + 1) marks =
    drop_more marks at m c.loop-at-test.true ∙ ap (λ (w : Inst). w ∷ drop (at + 1) marks) (sym c.index-marks-at.is) in
    let order : AllBefore Before (m ∷ drop (at + 1) marks) = subst (AllBefore Before) first (from_place at marks c.requires) in
    sym (ap (λ (ms : List Inst). is_among ms inst) first ∙ among_none inst m (drop (at + 1) marks) order c.in-Greater.ensures.order)
    ∙ c.loop-at.invariant inst (before_itself inst)

pub returns-in-Greater-clause-later : goal.returns-in-Greater-clause-later
returns-in-Greater-clause-later c = λ i b. c.loop-at.invariant i (not_both_before c.args.inst.now i b)

pub returns-clause-found : goal.returns-clause-found
returns-clause-found c =
    let inst = c.args.inst.now in
    sym (ap (λ (ms : List Inst). is_among ms inst) (drop_all c.loop-at.at c.args.marks.now (omega (arith, c.loop-at-test.false))))
    ∙ c.loop-at.invariant inst (before_itself inst)

pub returns-clause-later : goal.returns-clause-later
returns-clause-later c = λ i b. c.loop-at.invariant i (not_both_before c.args.inst.now i b)
