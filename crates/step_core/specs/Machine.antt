-- The steps of a match: a change is fed, a task is activated on its line, an entry is finished, the lines are cleared.
use Rattle.std.specs.Prelude.{◌≡◌, ℕ, zero, suc, ◌+◌, ◌-◌, Bool, true, false, ◌&&◌, List, [], ◌∷◌, ◌++◌, pos, length, map, flat_map, remove, slice_get, Option, Some, None, ◌==◌, if◌then◌else◌}
use Rattle.ops_base.specs.declared.elements.Element.{Element}
use Rattle.ops_base.specs.declared.elements.Change.{Change}
use Rattle.ops_base.specs.declared.elements.Change.TheVariants.{Add, Remove}
use Rattle.net_base.specs.declared.nodes.Node.{Node}
use Rattle.net_base.specs.declared.nodes.Alpha.{Alpha}
use Rattle.net_base.specs.declared.tasks.Side.{Side}
use Rattle.net_base.specs.declared.tasks.Side.TheVariants.{Left, Right}
use Rattle.net_base.specs.declared.tasks.Task.{Task}
use Rattle.net_base.specs.Sound.{takes_elements}
use Rattle.net_base.specs.Tokens.{Elements, Tokens, Giver, Nothing, Root, Memory, Out, passes_alpha, goes_with, root_gives}
use Rattle.token_line.specs.declared.line.Entry.{Entry}
use Rattle.token_line.specs.Bags.{Bag, after}
use Rattle.token_line.specs.Lawful.{giver_of, IsLawful}

-- ---- lines

-- the line of each token of one side of a node
abbrev pub Placing : Type 0
Placing = ℕ → Side → List ℕ → ℕ

abbrev pub place_of : Placing → Task → ℕ
place_of line x = line x.node x.side x.token

-- a left token and a right token that goes with it have the same line
abbrev pub KeepsOneLine : Elements → List Node → Placing → Type 0
KeepsOneLine elements nodes line =
    (n : ℕ) (x : Node) (t r : List ℕ) → slice_get nodes n ≡ Some x
    → goes_with x.kind x.joins elements t r ≡ true → line n Left t ≡ line n Right r

-- the contracts' view of a line: its sums, and its entries since the list was last emptied
pub record Seen : Type 0 where
  pub sums : Bag
  pub entries : List Entry

abbrev pub with_entry : Seen → Entry → Seen
with_entry l e = record { sums = after l.sums e.task; entries = l.entries ++ e ∷ [] }

abbrev pub cleared : Seen → Seen
cleared l = record { sums = l.sums; entries = [] }

-- the sums of line i, all 0 if there is no such line
abbrev pub sums_at : ℕ → List Seen → Bag
sums_at i [] n s t = pos 0
sums_at zero (l ∷ ls) n s t = l.sums n s t
sums_at (suc i) (l ∷ ls) n s t = sums_at i ls n s t

-- the lines after the entry was appended to line i
abbrev pub add_entry : ℕ → Entry → List Seen → List Seen
add_entry i e [] = []
add_entry zero e (l ∷ ls) = with_entry l e ∷ ls
add_entry (suc i) e (l ∷ ls) = l ∷ add_entry i e ls

-- ---- what a change feeds

abbrev pub passes_in : Option Alpha → Option Element → Bool
passes_in None e = false
passes_in (Some a) None = false
passes_in (Some a) (Some e) = passes_alpha a e

-- the node takes elements, and its alpha passes this one
abbrev pub is_fed : List Alpha → Option Element → Node → Bool
is_fed alphas e x = takes_elements x.kind && passes_in (slice_get alphas x.alpha) e

-- the task of an element for node i, if there is one
abbrev pub task_at : List Alpha → Bool → ℕ → Option Element → ℕ → Option Node → List Task
task_at alphas plus tag e i None = []
task_at alphas plus tag e i (Some x) = if is_fed alphas e x then record { node = i; side = Right; plus = plus; token = tag ∷ [] } ∷ [] else []

-- its tasks for the nodes with numbers below the bound, in their order
abbrev pub tasks_below : List Alpha → List Node → Bool → ℕ → Option Element → ℕ → List Task
tasks_below alphas nodes plus tag e zero = []
tasks_below alphas nodes plus tag e (suc i) = tasks_below alphas nodes plus tag e i ++ task_at alphas plus tag e i (slice_get nodes i)

-- one right task for each node that takes the change's element: plus if it is added, minus if it is removed
abbrev pub fed_by : Elements → List Alpha → List Node → Change → List Task
fed_by elements alphas nodes (Add e) = tasks_below alphas nodes true e.tag (Some e) (length nodes)
fed_by elements alphas nodes (Remove tag) = tasks_below alphas nodes false tag (elements tag) (length nodes)

abbrev pub fed_by_all : Elements → List Alpha → List Node → List Change → List Task
fed_by_all elements alphas nodes changes = flat_map (fed_by elements alphas nodes) changes

-- ---- the steps

-- the lines, the tasks in flight, the entries that were activated and are not finished, and the counter
pub record World : Type 0 where
  pub lines : List Seen
  pub flight : List Task
  pub done : List Entry
  pub counter : ℕ

pub data Step : Type 0 where
  Feed : Change → Step
  Activate : ℕ → Step
  Finish : ℕ → Step
  Clear : Step

-- Task i leaves the flight. Its entry, whose children follow from the sums of the task's line, is appended to that
-- line and to the entries that are done.
pub record Activates (elements : Elements) (nodes : List Node) (line : Placing) (old : World) (i : ℕ) (new : World) : Type 0 where
  pub entry : Entry
  pub task : slice_get old.flight i ≡ Some entry.task
  pub lawful : IsLawful elements nodes (sums_at (place_of line entry.task) old.lines) entry
  pub becomes : new ≡ record {
    lines = add_entry (place_of line entry.task) entry old.lines;
    flight = remove old.flight i;
    done = old.done ++ entry ∷ [];
    counter = old.counter;
  }

-- Entry j leaves the entries that are done, and its children are put into flight.
pub record Finishes (old : World) (j : ℕ) (new : World) : Type 0 where
  pub entry : Entry
  pub was : slice_get old.done j ≡ Some entry
  pub becomes : new ≡ record {
    lines = old.lines;
    flight = old.flight ++ entry.children;
    done = remove old.done j;
    counter = old.counter + length entry.children - 1;
  }

-- the tasks are put into flight
abbrev pub with_tasks : World → List Task → World
with_tasks old tasks = record {
  lines = old.lines;
  flight = old.flight ++ tasks;
  done = old.done;
  counter = old.counter + length tasks;
}

abbrev pub with_lines : World → List Seen → World
with_lines old ls = record { lines = ls; flight = old.flight; done = old.done; counter = old.counter }

-- what a step does; the lines may be cleared only when the counter is 0
abbrev pub Steps : Elements → List Alpha → List Node → Placing → World → Step → World → Type 0
Steps elements alphas nodes line old (Feed change) new = new ≡ with_tasks old (fed_by elements alphas nodes change)
Steps elements alphas nodes line old (Activate i) new = Activates elements nodes line old i new
Steps elements alphas nodes line old (Finish j) new = Finishes old j new
Steps elements alphas nodes line old Clear new = (old.counter ≡ 0) × (new ≡ with_lines old (map cleared old.lines))

-- one step after another
abbrev pub Run : Elements → List Alpha → List Node → Placing → World → List Step → World → Type 0
Run elements alphas nodes line old [] new = new ≡ old
Run elements alphas nodes line old (s ∷ ss) new = (mid : World) × Steps elements alphas nodes line old s mid × Run elements alphas nodes line mid ss new

-- the changes that are fed
abbrev pub change_in : Step → List Change
change_in (Feed change) = change ∷ []
change_in (Activate i) = []
change_in (Finish j) = []
change_in Clear = []

abbrev pub changes_of : List Step → List Change
changes_of ss = flat_map change_in ss

-- ---- the start

abbrev pub root_part : Giver → Tokens
root_part Nothing t = 0
root_part Root t = root_gives t
root_part Memory t = 0
root_part (Out p) t = 0

-- the left side of each child of the root holds the empty token once
abbrev pub sums_at_start : List Node → Bag
sums_at_start nodes n s t = pos (root_part (giver_of nodes n s) t)

-- the part of these sums that is on line i
abbrev pub on_line : Placing → ℕ → Bag → Bag
on_line line i b n s t = if line n s t == i then b n s t else pos 0

-- this many lines
abbrev pub lines_at_start : List Node → Placing → ℕ → List Seen
lines_at_start nodes line zero = []
lines_at_start nodes line (suc i) = lines_at_start nodes line i ++ record { sums = on_line line i (sums_at_start nodes); entries = [] } ∷ []

abbrev pub start : List Node → Placing → ℕ → World
start nodes line lines = record { lines = lines_at_start nodes line lines; flight = []; done = []; counter = 0 }
