use Rattle.std.proofs.Common.{◌≡◌, ◌++◌, [], List, ap, ap₂, sym, ◌∙◌}
use Rattle.std.specs.Map.{values_of}
use Rattle.std.specs.Map.Iter.{deref}
use Rattle.std.proofs.lemmas.Map.Iter.{rest_all}
use Rattle.std.proofs.lemmas.List.{append-nil}
use Rattle.ops_base.specs.declared.rules.Inst.{Inst}
use Rattle.conflict_index.specs.declared.rank.Held.{Held}
use Rattle.conflict_index.proofs.Copying.{marked_insts, all_marked}
use Rattle.conflict_index.proofs.marks.marked.Goals as goal

pub loop-inst-init : goal.loop-inst-init
loop-inst-init c =
    let none : c.loop-held.held-iterator ≡ [] = rest_all deref c.loop-held.held-iterator c.next.new.self c.next.result c.in-None.is c.next.ensures.steps in
    let items : c.loop-held.marks.items ≡ marked_insts (values_of c.args.waiting.now.entries) =
    sym (append-nil c.loop-held.marks.items) ∙ ap (λ (hs : List Held). c.loop-held.marks.items ++ marked_insts hs) (sym none) ∙ c.loop-held.invariant in
    let left : c.into_iter-inst-iterator.result ≡ values_of c.args.fired.now.entries = c.into_iter-inst-iterator.ensures.into_iter_gives ∙ c.values-inst-items.ensures.rest in
    ap₂ (λ (is js : List Inst). is ++ js) items left
    ∙ sym (all_marked c.args.waiting.now.entries c.args.fired.now.entries)
