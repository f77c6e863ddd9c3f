use Rattle.std.proofs.Common.{◌≡◌, ◌∷◌, ◌++◌, [], List, Option, Some, None, length, ap, sym, ◌∙◌, append_assoc, append-nil, arith}
use Rattle.std.specs.List.{cons_option}
use Rattle.std.specs.Vec.Iter.{into_iter_items}
use Rattle.std.proofs.lemmas.List.Elements.{filter_map-append}
use Rattle.ops_base.specs.declared.rules.Inst.{Inst}
use Rattle.live_rules.specs.Moves.{Places, inst_moved, insts_moved}
use Rattle.live_rules.proofs.renewing.insts_moved.Goals as goal

-- one more has moved, or is gone
one_more : (places : Places) (left next : List Inst) (yielded : List Inst) (i : Inst) (o : Option Inst) → left ≡ insts_moved places yielded → inst_moved places i ≡ o → next ≡ left ++ cons_option o [] → next ≡ insts_moved places (yielded ++ i ∷ [])
one_more places left next yielded i o was is e =
    e ∙ ap (λ xs. xs ++ cons_option o []) was ∙ ap (λ p. insts_moved places yielded ++ cons_option p []) (sym is)
    ∙ sym (filter_map-append (inst_moved places) yielded (i ∷ []))

pub loop-inst-preserved-in-Continue-1 : goal.loop-inst-preserved-in-Continue-1
loop-inst-preserved-in-Continue-1 c =
    let at = c.loop-inst in
    let i = c.in-Some.inst in
    let steps : into_iter_items at.inst-iterator ≡ i ∷ into_iter_items c.next.new.self = c.in-Some.ensures.steps.0 in
    record {
      left = one_more c.args.moved.now at.left.items c.push.new.self.items at.yielded i (Some c.in-Some-inst_moved.inst) at.invariant.left (sym c.in-Some-inst_moved.ensures) c.in_ok-push.ensures.items;
      all = append_assoc at.yielded (i ∷ []) _ ∙ rw (← steps) at.invariant.all;
      number = (let was = at.invariant.number in let gone = c.in-Some.ensures.steps.1 in let short = ap length steps in omega arith);
    }

pub loop-inst-preserved : goal.loop-inst-preserved
loop-inst-preserved c =
    let at = c.loop-inst in
    let i = c.in-Some.inst in
    let steps : into_iter_items at.inst-iterator ≡ i ∷ into_iter_items c.next.new.self = c.in-Some.ensures.steps.0 in
    record {
      left = one_more c.args.moved.now at.left.items at.left.items at.yielded i None at.invariant.left (sym c.inst_moved.ensures ∙ c.in_default.is) (sym (append-nil at.left.items));
      all = append_assoc at.yielded (i ∷ []) _ ∙ rw (← steps) at.invariant.all;
      number = (let was = at.invariant.number in let gone = c.in-Some.ensures.steps.1 in let short = ap length steps in omega arith);
    }
