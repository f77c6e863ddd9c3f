use Rattle.std.proofs.Common.{List, subst, sym}
use Rattle.ops_base.specs.declared.rules.Inst.{Inst}
use Rattle.ops_base.specs.Instances.{IsInOrder}
use Rattle.feed_engine.proofs.Combined.{both_settled}
use Rattle.feed_engine.proofs.combining.combine.Goals as goal

pub returns : goal.returns
returns c = λ before now after p q.
    let P : List Inst → Type 0 = IsInOrder in
    let came = c.in_ok-came.ensures (subst P (sym c.as_slice-2.ensures.value) q.gone_in_order) in
    let comes = c.in_ok-comes.ensures (subst P (sym c.as_slice-4.ensures.value) p.gone_in_order) in
    let went = c.in_ok-went.ensures (subst P (sym c.as_slice-6.ensures.value) q.come_in_order) in
    let goes = c.in_ok-goes.ensures (subst P (sym c.as_slice-8.ensures.value) p.come_in_order) in
    both_settled before now after c.args.first.gone.items c.args.first.come.items c.args.second.gone.items c.args.second.come.items c.in_ok-gone.gone.items c.in_ok-come.come.items
    (rw (came, comes, c.as_slice.ensures.value, c.as_slice-2.ensures.value, c.as_slice-3.ensures.value, c.as_slice-4.ensures.value) at c.in_ok-come.ensures.moved) c.in_ok-come.ensures.sorted
    (rw (went, goes, c.as_slice-5.ensures.value, c.as_slice-6.ensures.value, c.as_slice-7.ensures.value, c.as_slice-8.ensures.value) at c.in_ok-gone.ensures.moved) c.in_ok-gone.ensures.sorted p q
