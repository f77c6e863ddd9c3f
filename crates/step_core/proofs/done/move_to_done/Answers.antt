-- The task that leaves is the one at that place.
use Rattle.std.proofs.Common.{◌≡◌, ◌++◌, ◌∷◌, [], map, ap, ◌∙◌}
use Rattle.std.proofs.lemmas.List.{map-append}
use Rattle.std.proofs.lemmas.Option.{get_or_from_slice_get}
use Rattle.net_base.specs.declared.tasks.Task.{Task}
use Rattle.step_core.specs.inner.Doing.{entry_of}
use Rattle.step_core.proofs.done.move_to_done.Goals as goal

pub returns-clause-done : goal.returns-clause-done
returns-clause-done c x at =
    let task : c.remove-task.result ≡ x = c.remove-task.ensures.value ∙ get_or_from_slice_get c.args.flight.now.items c.args.index x c.remove-task.result at in
    ap (map entry_of) c.push_reserved.ensures.items
    ∙ (map-append entry_of c.args.done.now.items (record { task = c.remove-task.result; children = c.args.children } ∷ [])
    ∙ ap (λ (y : Task). map entry_of c.args.done.now.items ++ record { task = y; children = c.args.children.items } ∷ []) task)
