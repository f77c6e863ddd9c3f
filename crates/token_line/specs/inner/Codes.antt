-- The memories of one node by the codes of their tokens, and those of all nodes of a line.
use Rattle.std.specs.Prelude.{◌≡◌, ◌≢◌, ◌==◌, ℕ, pos, Bool, List, [], ◌∷◌, nat_eq, Option, Some, None, IsSome, if◌then◌else◌}
use Rattle.std.specs.Map.{keys_of, lookup}
use Rattle.std.specs.Option.{option_map, option_or}
use Rattle.net_base.specs.declared.tasks.Side.{Side}
use Rattle.token_line.specs.declared.memory.CodeMemory.{CodeMemory}
use Rattle.token_line.specs.declared.memories.NodeMemory.{NodeMemory}
use Rattle.token_line.specs.declared.tokens.TokenCount.{TokenCount}
use Rattle.token_line.specs.inner.Pairs.{Pairs, cell_of}
use Rattle.token_line.specs.Sums.{blocked, side_of, sum_kept}

-- ---- memories by their codes

-- the tokens of one side of a memory, or none if there is no memory
abbrev pub tokens_of : Option CodeMemory → Side → Pairs
tokens_of None s = []
tokens_of (Some memory) s = side_of memory s

-- what is kept of a token with this code
abbrev pub kept_among : List (ℕ × CodeMemory) → ℕ → Side → List ℕ → Option TokenCount
kept_among memories c s t = cell_of (tokens_of (lookup (nat_eq c) memories) s) t

-- the memory of the tokens with this code, or none if there are none
abbrev pub memory_under : NodeMemory → ℕ → Option CodeMemory
memory_under m c = if c == m.code then Some m.first else lookup (nat_eq c) m.others

abbrev pub cell_under : NodeMemory → ℕ → Side → List ℕ → Option TokenCount
cell_under m c s t = cell_of (tokens_of (memory_under m c) s) t

abbrev pub codes_of : NodeMemory → List ℕ
codes_of m = m.code ∷ keys_of m.others

-- the value at the first of these codes that has one
abbrev pub first_some : {X : Type 0} → (ℕ → Option X) → List ℕ → Option X
first_some f [] = None
first_some f (c ∷ cs) = option_or (f c) (first_some f cs)

-- what is kept of a token, whatever its code
abbrev pub cell_in : NodeMemory → Side → List ℕ → Option TokenCount
cell_in m s t = first_some (λ c. cell_under m c s t) (codes_of m)

-- what is kept of a token after one more or one less right token; `here` is true if that is for the same node, side
-- and code, and `matches` if the two tokens go together
abbrev pub cell_blocked : Bool → Bool → Bool → Option TokenCount → Option TokenCount
cell_blocked here matches plus o = if here then option_map (blocked matches plus) o else o

-- ---- the memories of all nodes

-- none if the node has none
abbrev pub memory_of : Option NodeMemory → ℕ → Option CodeMemory
memory_of None c = None
memory_of (Some m) c = memory_under m c

abbrev pub codes_among : Option NodeMemory → List ℕ
codes_among None = []
codes_among (Some m) = codes_of m

-- what is kept of a token of one side of a node under a code
abbrev pub filed_among : List (ℕ × NodeMemory) → ℕ → ℕ → Side → List ℕ → Option TokenCount
filed_among memories n c s t = cell_of (tokens_of (memory_of (lookup (nat_eq n) memories) c) s) t

-- the same, whatever the code
abbrev pub cell_among : List (ℕ × NodeMemory) → ℕ → Side → List ℕ → Option TokenCount
cell_among memories n s t = first_some (λ c. filed_among memories n c s t) (codes_among (lookup (nat_eq n) memories))

-- no token of one side of a node is kept under two codes
abbrev pub AreApart : List (ℕ × NodeMemory) → Type 0
AreApart memories = (n c d : ℕ) (s : Side) (t : List ℕ) → IsSome (filed_among memories n c s t) → IsSome (filed_among memories n d s t) → c ≡ d

-- no token is kept with a sum of 0
abbrev pub HaveSums : List (ℕ × NodeMemory) → Type 0
HaveSums memories = (n c : ℕ) (s : Side) (t : List ℕ) → IsSome (filed_among memories n c s t) → sum_kept (filed_among memories n c s t) ≢ pos 0
