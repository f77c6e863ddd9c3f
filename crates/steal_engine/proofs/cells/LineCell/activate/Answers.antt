-- The line has an entry more, or is as it was.
use Rattle.std.proofs.Common.{◌≡◌, ℕ, List, sym, subst, ◌∙◌}
use Rattle.net_base.specs.declared.tasks.Side.{Side}
use Rattle.token_line.specs.Lines.{sum_in}
use Rattle.activation.specs.Acting.{Acts, IsCounted}
use Rattle.step_core.specs.Phases.{before}
use Rattle.step_core.specs.Worlds.{seen}
use Rattle.steal_engine.specs.Phased.{KeepsPhase}
use Rattle.steal_engine.proofs.Lined.{phased_same, begins_same, begins_more, phased_more, by_result, grows}
use Rattle.steal_engine.proofs.cells.LineCell.activate.Goals as goal

pub activate_coded-requires-clause-counted : goal.activate_coded-requires-clause-counted
activate_coded-requires-clause-counted c = let self = c.args.self.now in
    subst (λ z. IsCounted c.args.net.now.nodes z self.line) c.requires.store (subst (λ n. IsCounted n.nodes self.store.value self.line) c.requires.net self.counted)

pub invariant_of-self-clause-counted : goal.invariant_of-self-clause-counted
invariant_of-self-clause-counted c = let self = c.args.self.now in
    let new = c.activate_coded.new.line in
    subst (λ n. IsCounted n.nodes self.store.value new) (sym c.requires.net)
    (subst (λ z. IsCounted c.args.net.now.nodes z new) (sym c.requires.store) c.activate_coded.ensures.counted)

pub invariant_of-self-clause-begins : goal.invariant_of-self-clause-begins
invariant_of-self-clause-begins c n side t = let self = c.args.self.now in
    let nodes = c.args.net.now.nodes in
    let s = c.args.store.now in
    let first = self.first.value in
    let new = c.activate_coded.new.line in
    let e = c.activate_coded.ensures in
    by_result c.activate_coded.result
    (Acts nodes s c.args.task.now self.line new c.args.out.now.items c.activate_coded.new.out.items)
    ((m : ℕ) (z : Side) (u : List ℕ) → sum_in new m z u ≡ sum_in self.line m z u) (new.entries.items ≡ self.line.entries.items)
    (before (seen new) n side t ≡ before (seen first) n side t)
    e.ok e.same_sums e.same_entries
    (λ acts. begins_more nodes s self.lines first self.line new e.number c.args.task.now c.args.out.now.items c.activate_coded.new.out.items acts n side t ∙ self.begins n side t)
    (λ sums entries. begins_same nodes s self.lines first self.line new e.number sums entries n side t ∙ self.begins n side t)

pub invariant_of-self-clause-phased : goal.invariant_of-self-clause-phased
invariant_of-self-clause-phased c = let self = c.args.self.now in
    let nodes = c.args.net.now.nodes in
    let s = c.args.store.now in
    let first = self.first.value in
    let new = c.activate_coded.new.line in
    let e = c.activate_coded.ensures in
    let x = c.args.task.now in
    let was = subst (λ z. KeepsPhase nodes z self.lines self.line.number first self.line) c.requires.store (subst (λ n. KeepsPhase n.nodes self.store.value self.lines self.line.number first self.line) c.requires.net self.phased) in
    let now =
    by_result c.activate_coded.result
    (Acts nodes s x self.line new c.args.out.now.items c.activate_coded.new.out.items)
    ((m : ℕ) (z : Side) (u : List ℕ) → sum_in new m z u ≡ sum_in self.line m z u) (new.entries.items ≡ self.line.entries.items)
    (KeepsPhase nodes s self.lines new.number first new)
    e.ok e.same_sums e.same_entries
    (λ acts. phased_more nodes s self.lines first self.line new e.number x c.args.out.now.items c.activate_coded.new.out.items acts c.requires.here was)
    (λ sums entries. phased_same nodes s self.lines first self.line new e.number sums entries was) in
    subst (λ n. KeepsPhase n.nodes self.store.value self.lines new.number first new) (sym c.requires.net) (subst (λ z. KeepsPhase nodes z self.lines new.number first new) (sym c.requires.store) now)

pub returns-in-Ok-clause-ok : goal.returns-in-Ok-clause-ok
returns-in-Ok-clause-ok c = let self = c.args.self.now in let e = c.activate_coded.ensures in
    grows c.args.net.now.nodes c.args.store.now self.lines self.first.value self.line c.activate_coded.new.line e.number c.args.task.now c.args.out.now.items c.activate_coded.new.out.items c.in-Ok.ensures.ok
