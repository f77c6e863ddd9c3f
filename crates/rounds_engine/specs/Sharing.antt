-- Tasks dealt to shards, each of which is a run of consecutive lines, and what shards do in a round.
use Rattle.std.specs.Prelude.{◌≡◌, ◌≤◌, ◌<◌, ◌+◌, ◌*◌, ◌/◌, ◌++◌, ◌↔◌, ℕ, All, List, [], ◌∷◌, Ok, Result, Some, Vec, flat_map, length, map, slice_get, sum_by}
use Rattle.std.specs.List.{zip}
use Rattle.std.specs.declared.alloc.Global.{Global}
use Rattle.ops_base.specs.declared.memory.OutOfMemory.{OutOfMemory}
use Rattle.work_store.specs.Stored.{Stored, held_of}
use Rattle.net_base.specs.declared.nodes.Node.{Node}
use Rattle.net_base.specs.declared.tasks.Task.{Task}
use Rattle.token_line.specs.declared.line.Entry.{Entry}
use Rattle.token_line.specs.declared.line.Line.{Line}
use Rattle.token_line.specs.Held.{TaskFits}
use Rattle.token_line.specs.Lawful.{IsLawful}
use Rattle.token_line.specs.Numbers.{code_of}
use Rattle.activation.specs.Acting.{IsCounted}
use Rattle.step_core.specs.Machine.{add_entry, place_of, sums_at}
use Rattle.step_core.specs.Rounds.{HaveDone}
use Rattle.step_core.specs.Worlds.{placed, seen}
use Rattle.rounds_engine.specs.declared.shards.Placed.{Placed}
use Rattle.rounds_engine.specs.declared.shards.Shard.{Shard}

-- ---- tasks with their lines

abbrev pub tasks_in : List Placed → List Task
tasks_in ps = map (λ p. p.task) ps

-- the task fits, and this is its line, out of this many, and its code
pub record IsPlacedAt (nodes : List Node) (s : Stored) (lines : ℕ) (p : Placed) : Type 0 where
  pub fits : TaskFits nodes s p.task
  pub line : p.line ≡ place_of (placed (held_of s) nodes lines) p.task
  pub below : p.line < lines
  pub code : p.code ≡ code_of (held_of s) nodes p.task.node p.task.side p.task.token

-- ---- shards

-- their tasks, joined in order
abbrev pub tasks_of_shards : List Shard → List Task
tasks_of_shards xs = flat_map (λ x. tasks_in x.tasks.items) xs

-- how many lines they have
abbrev pub lines_of : List Shard → ℕ
lines_of xs = sum_by (λ x. x.count) xs

-- the first line of the first of them
abbrev pub first_of : List Shard → ℕ
first_of [] = 0
first_of (x ∷ xs) = x.first

-- line i is one of the shard's
abbrev pub HasLine : Shard → ℕ → Type 0
HasLine x i = (x.first ≤ i) × (i < x.first + x.count)

-- each task of the shard has its line, which belongs to the shard
pub record HasOwn (nodes : List Node) (s : Stored) (lines : ℕ) (x : Shard) : Type 0 where
  pub placed : All (IsPlacedAt nodes s lines) x.tasks.items
  pub own : All (λ p. HasLine x p.line) x.tasks.items

-- the first of them begins at line i, and each of the others where the one before it ends
abbrev pub FollowOn : ℕ → List Shard → Type 0
FollowOn i [] = Unit {0}
FollowOn i (x ∷ xs) = (x.first ≡ i) × FollowOn (i + x.count) xs

-- adjacent shards from line `first` on, each with tasks of its own lines
pub record AreShards (nodes : List Node) (s : Stored) (lines first : ℕ) (xs : List Shard) : Type 0 where
  pub follow : FollowOn first xs
  pub own : All (HasOwn nodes s lines) xs

-- ---- the dealing

-- the shard to which line i is dealt
abbrev pub shard_of : (shards lines i : ℕ) → ℕ
shard_of shards lines i = i * shards / lines

-- line `first` and those after it are exactly the lines that are dealt to shard k or a later one
abbrev pub IsFirstLine : (shards lines k first : ℕ) → Type 0
IsFirstLine shards lines k first = (i : ℕ) → (first ≤ i) ↔ (k ≤ shard_of shards lines i)

-- shard k has exactly the lines that are dealt to it
abbrev pub AreDealt : (shards lines : ℕ) → List Shard → Type 0
AreDealt shards lines xs = (k i : ℕ) (x : Shard) → slice_get xs k ≡ Some x → HasLine x i ↔ (shard_of shards lines i ≡ k)

-- this many shards, to which all lines belong; each has those that are dealt to it, and tasks of its own lines
pub record AreAllShards (nodes : List Node) (s : Stored) (lines shards : ℕ) (xs : List Shard) : Type 0 where
  pub count : length xs ≡ shards
  pub whole : lines_of xs ≡ lines
  pub dealt : AreDealt shards lines xs
  pub each : AreShards nodes s lines 0 xs

-- the shard has the lines of the first one, and the tasks of the other one after those of the first
pub record IsBoth (x y z : Shard) : Type 0 where
  pub first : z.first ≡ x.first
  pub count : z.count ≡ x.count
  pub tasks : z.tasks.items ≡ x.tasks.items ++ y.tasks.items

-- each shard is the union of its pair
abbrev pub AreBoth : List (Shard × Shard) → List Shard → Type 0
AreBoth [] zs = zs ≡ []
AreBoth (p ∷ ps) [] = ⊥
AreBoth (p ∷ ps) (z ∷ zs) = IsBoth p.0 p.1 z × AreBoth ps zs

-- two calls succeeded, and these are the shards of the one with the tasks of those of the other
pub record AreJoined (low high : Result (Vec Shard Global) OutOfMemory) (made : List Shard) : Type 0 where
  pub front : Vec Shard Global
  pub back : Vec Shard Global
  pub low_is : low ≡ Ok front
  pub high_is : high ≡ Ok back
  pub both : AreBoth (zip front.items back.items) made

-- ---- a round

-- The task became an entry of line k. Its children fit, and came after the tasks that were there.
pub record ActsAt (nodes : List Node) (s : Stored) (k : ℕ) (x : Task) (old new : List Line) (before now : List Task) : Type 0 where
  pub entry : Entry
  pub task : entry.task ≡ x
  pub lawful : IsLawful (held_of s) nodes (sums_at k (map seen old)) entry
  pub joins : map seen new ≡ add_entry k entry (map seen old)
  pub fit : All (TaskFits nodes s) entry.children
  pub given : now ≡ before ++ entry.children

-- the lines stay counted, and keep their numbers
pub record AreKept (nodes : List Node) (s : Stored) (old new : List Line) : Type 0 where
  pub counted : All (IsCounted nodes s) new
  pub numbers : map (λ l. l.number) new ≡ map (λ l. l.number) old

-- each child has a node that comes after the least node of the tasks
abbrev pub AreDeeper : (todo made : List Task) → Type 0
AreDeeper todo made = (level : ℕ) → All (λ x. level ≤ x.node) todo → All (λ x. level + 1 ≤ x.node) made

-- these shards can do a round on these lines
pub record CanShare (nodes : List Node) (s : Stored) (lines : ℕ) (xs : List Shard) (ls : List Line) : Type 0 where
  pub some : 1 ≤ length xs
  pub shards : AreShards nodes s lines (first_of xs) xs
  pub count : lines_of xs ≡ length ls
  pub counted : All (IsCounted nodes s) ls

-- The shards performed their tasks on their lines. The children have nodes further down, and are dealt to all shards.
pub record HaveShared (nodes : List Node) (s : Stored) (lines shards : ℕ) (xs : List Shard) (old new : List Line) (made : List Shard) : Type 0 where
  pub did : HaveDone (held_of s) nodes (placed (held_of s) nodes lines) (first_of xs) (map seen old) (map seen new) (tasks_of_shards xs) (tasks_of_shards made)
  pub deeper : AreDeeper (tasks_of_shards xs) (tasks_of_shards made)
  pub dealt : AreAllShards nodes s lines shards made
