-- One pass more is split.
use Rattle.std.proofs.Common.{[], ◌∷◌, ◌+◌, ◌≡◌, length, length-append, ap, ◌∙◌, subst, sym, arith}
use Rattle.turn_table.specs.Turns.{number}
use Rattle.steal_engine.specs.Logged.{AreNew}
use Rattle.steal_engine.proofs.Rings.{new_more}
use Rattle.steal_engine.proofs.sharing.split_all.Goals as goal

pub loop-preserved : goal.loop-preserved
loop-preserved c =
    let i = c.loop.invariant in
    let n = c.split.ensures in
    let p = c.split.result in
    let is = c.in_ok-push_back.ensures.items in
    let cells = c.args.cells.now in
    let passes = c.loop.passes.items in
    let num : number p ≡ 1 + length passes = (let a = n.new_number in let b = i.splits_are in let d = i.count in omega (arith, a, b, d)) in record {
      first = n.first;
      own = ap (λ v. v.own) n.knows ∙ i.own;
      none = ap (λ v. v.joined) n.knows ∙ i.none;
      splits_are = (let a = n.splits in let b = i.splits_are in omega (arith, a, b));
      apart = (let a = n.split_off in let b = i.apart in omega (arith, a, b));
      count = (let a = ap length is in let b = length-append passes (p ∷ []) in let d = i.count in omega (arith, a, b, d));
      new = subst (AreNew cells 1) (sym is) (new_more cells 1 passes p i.new n.new num (ap (λ v. v.own) n.new_knows));
    }
