-- All tasks that it tells of were looked at.
use Rattle.std.proofs.Common.{◌≡◌, ◌∙◌, ◌++◌, ap, length, take, arith}
use Rattle.std.proofs.lemmas.List.{take_all}
use Rattle.std.specs.Prelude.{flat_map}
use Rattle.step_core.specs.inner.Gathering.{moved_by}
use Rattle.step_core.specs.Worlds.{seen}
use Rattle.step_core.proofs.Lasts.{told_moved}
use Rattle.step_core.proofs.gathering.look_over.Goals as goal

pub returns : goal.returns
returns c =
    let line = c.args.line.now in
    let nodes = c.args.net.now.nodes in
    let told = line.told.items in
    let count : length c.told-task-items.result.now ≡ length told = ap length c.told-task-items.ensures in
    let all : take c.loop-task.task-index told ≡ told = take_all c.loop-task.task-index told (omega (arith, count, c.loop-task-test.false)) in
    c.loop-task.invariant
    ∙ ap (λ ms. c.args.moved.now.items ++ ms) (ap (flat_map (moved_by nodes (seen line))) all ∙ told_moved nodes line c.requires)
