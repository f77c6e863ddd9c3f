-- The lines are those of the machine's start, and no task and no entry is there.
use Rattle.std.proofs.Common.{List, length, map, sym, subst, ap, ap₂, ◌∙◌}
use Rattle.std.specs.List.{All}
use Rattle.std.proofs.lemmas.List.Elements.{All-nil}
use Rattle.token_line.specs.Held.{TaskFits}
use Rattle.step_core.specs.declared.done.Done.{Done}
use Rattle.step_core.specs.inner.Doing.{entry_of}
use Rattle.step_core.specs.Machine.{lines_at_start}
use Rattle.step_core.specs.Worlds.{EntryFits, placed}
use Rattle.step_core.proofs.Activating.{world}
use Rattle.step_core.proofs.Started.{all_lines, all_counted}
use Rattle.step_core.proofs.world.World.start.Goals as goal

pub returns-clause-start : goal.returns-clause-start
returns-clause-start c elements =
    let net = c.args.net.now in
    let at_start = lines_at_start net.nodes (placed elements net.nodes c.args.lines) c.args.lines in
    ap (λ ls. world ls c.new.result.items (map entry_of c.new-2.result.items) 0) (all_lines net.alphas net.nodes net.sound elements c.args.lines c.in_ok-lines.lines.items c.in_ok-lines.ensures)
    ∙ ap₂ (λ flight (done : List Done). world at_start flight (map entry_of done) 0) c.new.ensures.items c.new-2.ensures.items

pub returns-clause-ready : goal.returns-clause-ready
returns-clause-ready c s =
    let net = c.args.net.now in
    let nodes = net.nodes in
    record {
      flight = subst (All (TaskFits nodes s)) (sym c.new.ensures.items) (All-nil (TaskFits nodes s));
      done = subst (λ (done : List Done). All (EntryFits nodes s) (map entry_of done)) (sym c.new-2.ensures.items) (All-nil (EntryFits nodes s));
      lines = all_counted net.alphas nodes net.sound s c.args.lines (length nodes) c.in_ok-lines.lines.items c.in_ok-lines.ensures;
    }
