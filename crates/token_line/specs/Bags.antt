-- Signed tasks, and the sums that result from them.
use Rattle.std.specs.Prelude.{ℕ, ℤ, pos, negsuc, ◌+ℤ◌, Bool, true, false, ◌&&◌, ◌==◌, List, [], ◌∷◌, bytes_eq, if◌then◌else◌}
use Rattle.net_base.specs.declared.tasks.Side.{Side}
use Rattle.net_base.specs.declared.tasks.Side.TheVariants.{Left, Right}
use Rattle.net_base.specs.declared.tasks.Task.{Task}

-- for each node, side and token, the inserts less the deletes that arrived
abbrev pub Bag : Type 0
Bag = ℕ → Side → List ℕ → ℤ

abbrev pub are_same_sides : Side → Side → Bool
are_same_sides Left Left = true
are_same_sides Right Right = true
are_same_sides Left Right = false
are_same_sides Right Left = false

-- the task is for this node, side and token
abbrev pub is_at : ℕ → Side → List ℕ → Task → Bool
is_at n s t x = (n == x.node) && (are_same_sides s x.side && bytes_eq t x.token)

-- one more, or one less
abbrev pub sign : Bool → ℤ
sign plus = if plus then pos 1 else negsuc 0

-- the sign of a task if it is for this node, side and token, otherwise 0
unfoldable pub sign_at : ℕ → Side → List ℕ → Task → ℤ
sign_at n s t x = if is_at n s t x then sign x.plus else pos 0

-- the inserts less the deletes for one node, side and token among these tasks
abbrev pub signs : ℕ → Side → List ℕ → List Task → ℤ
signs n s t [] = pos 0
signs n s t (x ∷ xs) = sign_at n s t x +ℤ signs n s t xs

-- the sums once the task has arrived
abbrev pub after : Bag → Task → Bag
after b x n s t = b n s t +ℤ sign_at n s t x

-- the effective count of a sum: the sum, or 0 if it is negative, since a delete that came before its insert does not
-- count
abbrev pub standing : ℤ → ℕ
standing (pos n) = n
standing (negsuc n) = 0

-- the effective count of each token at one side of a node
abbrev pub standing_at : Bag → ℕ → Side → List ℕ → ℕ
standing_at b n s t = standing (b n s t)
