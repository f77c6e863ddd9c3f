-- The task has its line by the elements that the store holds.
use Rattle.std.proofs.Common.{◌≡◌, length, sym, ap, ◌∙◌}
use Rattle.std.proofs.lemmas.Option.{get_or_from_slice_get}
use Rattle.net_base.specs.declared.tasks.Task.{Task}
use Rattle.work_store.specs.Stored.{held_of}
use Rattle.token_line.specs.Held.{TaskFits}
use Rattle.token_line.specs.Numbers.{line_number}
use Rattle.step_core.proofs.ListPlaces.{all_at}
use Rattle.step_core.proofs.Placed.{one_place}
use Rattle.step_core.proofs.world.World.line_at.Goals as goal

pub returns-clause-placed : goal.returns-clause-placed
returns-clause-placed c elements x agrees at =
    let net = c.args.net.now in
    let s = c.args.store.now in
    let w = c.args.self.now in
    let same : c.index.result.now ≡ x = c.index.ensures ∙ get_or_from_slice_get w.flight.items c.args.index x c.index.result.now at in
    let lines = c.len.ensures ∙ w.lines.ok.0 in
    c.line_of.ensures.number
    ∙ (ap (λ (y : Task). line_number (held_of s) net.nodes c.len.result y.node y.side y.token) same
    ∙ (ap (λ n. line_number (held_of s) net.nodes n x.node x.side x.token) lines
    ∙ sym (one_place s elements agrees net.alphas net.nodes net.sound (length w.lines.items) x (all_at (TaskFits net.nodes s) w.flight.items c.args.index x c.requires.ready.flight at))))
