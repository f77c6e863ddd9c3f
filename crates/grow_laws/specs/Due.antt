-- The tasks that are due, as the code makes them: node after node, the empty token before the elements.
use Rattle.std.specs.Prelude.{ℕ, zero, suc, nat_le, true, List, [], ◌∷◌, ◌++◌, slice_get, Option, Some, None, if◌then◌else◌}
use Rattle.ops_base.specs.declared.elements.Element.{Element}
use Rattle.net_base.specs.declared.nodes.Node.{Node}
use Rattle.net_base.specs.declared.nodes.Alpha.{Alpha}
use Rattle.net_base.specs.declared.tasks.Side.TheVariants.{Left}
use Rattle.net_base.specs.declared.tasks.Task.{Task}
use Rattle.step_core.specs.Machine.{task_at}

-- the empty token for node n, if it is a child of the root
abbrev pub root_tasks : ℕ → Option ℕ → List Task
root_tasks n None = record { node = n; side = Left; plus = true; token = [] } ∷ []
root_tasks n (Some p) = []

-- a task for each of these elements that passes the node's alpha
abbrev pub element_tasks : List Alpha → ℕ → Node → List Element → List Task
element_tasks alphas n x [] = []
element_tasks alphas n x (e ∷ es) = task_at alphas true e.tag (Some e) n (Some x) ++ element_tasks alphas n x es

abbrev pub tasks_of_node : List Alpha → List Element → ℕ → Option Node → List Task
tasks_of_node alphas wm n None = []
tasks_of_node alphas wm n (Some x) = root_tasks n x.parent ++ element_tasks alphas n x wm

-- for the nodes from `first` on, below the bound
abbrev pub tasks_from : List Alpha → List Node → List Element → ℕ → ℕ → List Task
tasks_from alphas nodes wm first zero = []
tasks_from alphas nodes wm first (suc i) = tasks_from alphas nodes wm first i ++ (if nat_le first i then tasks_of_node alphas wm i (slice_get nodes i) else [])
