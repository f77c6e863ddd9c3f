-- What one worker did, and what all workers did together.
use Rattle.std.specs.Prelude.{◌≡◌, ℕ, ◌+◌, List, map, flat_map, sum_by}
use Rattle.net_base.specs.declared.tasks.Task.{Task}
use Rattle.steal_engine.specs.declared.rounds.Round.{Round}

abbrev pub round : Task → List Task → Round
round task children = record { task = task; children = children }

abbrev pub tasks_in : List Round → List Task
tasks_in rs = map (λ (r : Round). r.task) rs

abbrev pub children_in : List Round → List Task
children_in rs = flat_map (λ (r : Round). r.children) rs

-- The tasks that the worker performed, together with those that it pushed and those left in its list, are the
-- children of those that it performed, together with those that were dealt to it and those that it popped and stole.
-- Tasks that were dealt count among those pushed.
abbrev pub AreFair : List Round → List Task → List Task → List Task → List Task → List Task → Type 0
AreFair rounds dealt pushed popped stolen list =
    (h : Task → ℕ) → (sum_by h (tasks_in rounds) + sum_by h pushed) + sum_by h list ≡ ((sum_by h (children_in rounds) + sum_by h dealt) + sum_by h popped) + sum_by h stolen
