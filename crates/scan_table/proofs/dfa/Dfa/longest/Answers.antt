use Rattle.std.proofs.Common.{◌≤◌, refl, sym, ◌∙◌, arith}
use Rattle.scan_table.proofs.Prefixes.{read_none, read_more, longest_dead}
use Rattle.scan_table.proofs.dfa.Dfa.longest.Goals as goal

pub loop-at-init : goal.loop-at-init
loop-at-init g c = record { read = read_none c.args.self.now c.args.bytes.now c.args.from _ c.start-state.ensures.start; below = c.start-state.ensures.below }

pub loop-at-preserved : goal.loop-at-preserved
loop-at-preserved g c =
    let low : c.args.from ≤ c.loop-at.at = omega (arith, c.loop-at.auto.at) in
    record {
      read = read_more c.args.self.now c.args.bytes.now c.args.from c.loop-at.at c.loop-at.state _ _ _ c.loop-at.best _ low c.loop-at-test.true refl c.step-state.ensures.next c.kind_of-kind.ensures c.kept-best.ensures c.loop-at.invariant.read;
      below = c.step-state.ensures.below;
    }

pub returns-then-is_dead : goal.returns-then-is_dead
returns-then-is_dead g c =
    let low : c.args.from ≤ c.loop-at.at = omega (arith, c.loop-at.auto.at) in
    let read = read_more c.args.self.now c.args.bytes.now c.args.from c.loop-at.at c.loop-at.state _ c.step-state.result _ c.loop-at.best c.kept-best.result low c.loop-at-test.true refl c.step-state.ensures.next c.kind_of-kind.ensures c.kept-best.ensures c.loop-at.invariant.read in
    longest_dead c.args.self.now c.args.bytes.now c.args.from _ c.step-state.result c.kept-best.result (omega arith) (omega (arith, c.loop-at-test.true)) (λ i. omega (arith, c.type_inv.bytes i)) (c.is_dead.ensures c.if-is_dead.true) read.leads (sym c.kind_of-kind.ensures ∙ c.if-kind-eq0.true) read.longest
