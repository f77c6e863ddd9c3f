-- A line that is counted tells of just the tasks that came to terminals.
use Rattle.std.proofs.Common.{List, ap, subst, sym, ◌∙◌}
use Rattle.std.specs.List.{All}
use Rattle.token_line.specs.declared.line.Line.{Line}
use Rattle.activation.specs.Acting.{TellsOfLasts}
use Rattle.free_engine.specs.declared.engine.Parts.{Parts}
use Rattle.team_phase.specs.Engines.{Engine}
use Rattle.free_engine.proofs.engine.FreeEngine.lines.Goals as goal

pub returns-clause-told : goal.returns-clause-told
returns-clause-told g c =
    let parts = c.self.inside.parts.value in
    let lines = c.lines.ensures.lines ∙ ap (λ (p : Parts _). p.world.lines.items) c.as_ref-parts.ensures in
    subst (λ (e : Engine). All (TellsOfLasts e.net.nodes) c.lines.result.now) c.self.view_is
    (subst (λ (ls : List Line). All (TellsOfLasts parts.net.nodes) ls) (sym lines) (λ i l low. (c.self.invariant.rest.counted i l low).told))
