-- The lines at the start, while they get the empty token for one node after another.
use Rattle.std.specs.Prelude.{◌≡◌, ℕ, ◌%◌, true, ◌&&◌, List, [], pos, length, slice_get, nat_lt, Some, None, ◌==◌, if◌then◌else◌}
use Rattle.net_base.specs.declared.nodes.Node.{Node}
use Rattle.net_base.specs.declared.tasks.Side.{Side}
use Rattle.net_base.specs.declared.tasks.Side.TheVariants.{Left}
use Rattle.net_base.specs.declared.tasks.Task.{Task}
use Rattle.token_line.specs.declared.line.Line.{Line}
use Rattle.token_line.specs.Bags.{Bag}
use Rattle.token_line.specs.Lawful.{giver_of}
use Rattle.token_line.specs.Lines.{IsFiled, filed_in, sum_in}
use Rattle.step_core.specs.Machine.{root_part}

-- the line has no entry and reports no task
abbrev pub IsBare : Line → Type 0
IsBare l = (l.entries.items ≡ []) × (l.told.items ≡ [])

-- this many lines, in the order of their numbers, with no tokens and no entries
pub record AreUnused (lines : ℕ) (ls : List Line) : Type 0 where
  pub count : length ls ≡ lines
  pub number : (i : ℕ) (l : Line) → slice_get ls i ≡ Some l → l.number ≡ i
  pub bare : (i : ℕ) (l : Line) → slice_get ls i ≡ Some l → IsBare l
  pub sums : (i : ℕ) (l : Line) → slice_get ls i ≡ Some l → (n : ℕ) (s : Side) (t : List ℕ) → sum_in l n s t ≡ pos 0
  pub filed : (i : ℕ) (l : Line) → slice_get ls i ≡ Some l → (n c : ℕ) (s : Side) (t : List ℕ) → filed_in l n c s t ≡ None

-- the empty token arrives at the left side of a node
abbrev pub root_task : ℕ → Task
root_task n = record { node = n; side = Left; plus = true; token = [] }

-- what line i of this many holds once the nodes with numbers below the bound have got what the root gives them
abbrev pub given_below : List Node → ℕ → ℕ → ℕ → Bag
given_below nodes lines bound i n s t =
    if nat_lt n bound && (n % lines == i) then pos (root_part (giver_of nodes n s) t) else pos 0

-- line i holds exactly this, each token under the number of its node as its code, and has no entry
pub record IsBegun (nodes : List Node) (lines bound i : ℕ) (l : Line) : Type 0 where
  pub number : l.number ≡ i
  pub bare : IsBare l
  pub sums : (n : ℕ) (s : Side) (t : List ℕ) → sum_in l n s t ≡ given_below nodes lines bound i n s t
  pub filed : (n c : ℕ) (s : Side) (t : List ℕ) → IsFiled l n c s t → c ≡ n

-- this many lines, for each of which this is so
pub record AreBegun (nodes : List Node) (lines bound : ℕ) (ls : List Line) : Type 0 where
  pub count : length ls ≡ lines
  pub each : (i : ℕ) (l : Line) → slice_get ls i ≡ Some l → IsBegun nodes lines bound i l
