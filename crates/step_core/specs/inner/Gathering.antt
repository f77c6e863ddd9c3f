-- What follows from the entries of lines about instantiations that came and went.
use Rattle.std.specs.Prelude.{◌≡◌, ◌==◌, ◌&&◌, ◌-◌, ℕ, ℤ, ◌+ℤ◌, ◌-ℤ◌, Bool, false, List, [], ◌∷◌, ◌++◌, filter, flat_map, fold, length, map, nat_lt, slice_get, slice_set, Option, Some, None, if◌then◌else◌}
use Rattle.std.specs.List.Sorted.{IsPermutation, IsSortedByKey}
use Rattle.std.specs.Ordering.{eq_by_cmp}
use Rattle.ops_base.specs.declared.rules.Inst.{Inst}
use Rattle.ops_base.specs.Instances.{by_rule_and_tags}
use Rattle.net_base.specs.declared.nodes.Kind.{Kind}
use Rattle.net_base.specs.declared.nodes.Kind.TheVariants.{Join, Negated, Group, Terminal}
use Rattle.net_base.specs.declared.nodes.Node.{Node}
use Rattle.net_base.specs.declared.tasks.Side.{Side}
use Rattle.net_base.specs.declared.tasks.Side.TheVariants.{Left, Right}
use Rattle.net_base.specs.declared.tasks.Task.{Task}
use Rattle.token_line.specs.Bags.{sign, standing}
use Rattle.step_core.specs.Machine.{Seen}
use Rattle.step_core.specs.Phases.{tasks_of}
use Rattle.step_core.specs.declared.gathering.Moved.{Moved}
use Rattle.step_core.specs.declared.gathering.Total.{Total}
use Rattle.step_core.specs.Found.{inst}

-- ---- what entries did at terminals

abbrev pub rule_of : Kind → Option ℕ
rule_of Join = None
rule_of Negated = None
rule_of (Group giver width members) = None
rule_of (Terminal rule) = Some rule

-- the rule of the terminal, if the task brings a left token to one
abbrev pub rule_in : Option Node → Side → Option ℕ
rule_in None s = None
rule_in (Some x) Left = rule_of x.kind
rule_in (Some x) Right = None

abbrev pub moved_to : Option ℕ → Task → ℤ → List Moved
moved_to None x sum = []
moved_to (Some k) x sum = record { inst = inst k x.token; plus = x.plus; sum = sum } ∷ []

-- what a task of the line did at a terminal, with the sum of its token now
abbrev pub moved_by : List Node → Seen → Task → List Moved
moved_by nodes l x = moved_to (rule_in (slice_get nodes x.node) x.side) x (l.sums x.node Left x.token)

abbrev pub moved_on : List Node → Seen → List Moved
moved_on nodes l = flat_map (moved_by nodes l) (tasks_of l.entries)

-- what the entries of these lines did at terminals, in their order
abbrev pub moved_over : List Node → List Seen → List Moved
moved_over nodes ls = flat_map (moved_on nodes) ls

abbrev pub moved_in : List Node → Option Seen → List Moved
moved_in nodes None = []
moved_in nodes (Some l) = moved_on nodes l

-- the same of the lines at these places
abbrev pub moved_at : List Node → List Seen → List ℕ → List Moved
moved_at nodes ls places = flat_map (λ i. moved_in nodes (slice_get ls i)) places

-- ---- adding up

abbrev pub is_same : Inst → Inst → Bool
is_same = eq_by_cmp by_rule_and_tags

abbrev pub begun : Moved → Total
begun m = record { inst = m.inst; change = sign m.plus; sum = m.sum }

abbrev pub counted_in : Total → Moved → Total
counted_in x m = record x { change = x.change +ℤ sign m.plus }

abbrev pub is_of : Option Total → Inst → Bool
is_of None i = false
is_of (Some x) i = is_same x.inst i

-- the last total is that of the instantiation
abbrev pub ends_with : List Total → Inst → Bool
ends_with ts i = is_of (slice_get ts (length ts - 1)) i

abbrev pub counted_last : Option Total → List Total → Moved → List Total
counted_last None ts m = ts
counted_last (Some x) ts m = slice_set ts (length ts - 1) (counted_in x m)

-- one more insert or delete: it counts in the last total if that is of its instantiation, and begins a new one
-- otherwise
abbrev pub added : List Total → Moved → List Total
added ts m = if ends_with ts m.inst then counted_last (slice_get ts (length ts - 1)) ts m else ts ++ begun m ∷ []

-- ---- what came and went

-- a token that was not present is present
abbrev pub is_moved : ℤ → ℤ → Bool
is_moved old new = (standing old == 0) && nat_lt 0 (standing new)

-- the sum before is the sum now, less the change
abbrev pub has_come : Total → Bool
has_come t = is_moved (t.sum -ℤ t.change) t.sum

abbrev pub has_gone : Total → Bool
has_gone t = is_moved t.sum (t.sum -ℤ t.change)

-- the last of these totals is the current one, and those that came and went are reported from the others
pub record HaveAtHand (ts : List Total) (x : Total) (come gone : List Inst) : Type 0 where
  pub front : List Total
  pub all : ts ≡ front ++ x ∷ []
  pub come_is : come ≡ map (λ t. t.inst) (filter has_come front)
  pub gone_is : gone ≡ map (λ t. t.inst) (filter has_gone front)

-- these are reported by the totals, except for the current one; if there is no current one, there are no totals
-- and none are reported
abbrev pub AreToldBut : List Total → Option Total → List Inst → List Inst → Type 0
AreToldBut ts None come gone = (ts ≡ []) × (come ≡ []) × (gone ≡ [])
AreToldBut ts (Some x) come gone = HaveAtHand ts x come gone

-- these are reported from the totals of these inserts and deletes, in order
pub record AreTold (moved : List Moved) (come gone : List Inst) : Type 0 where
  pub sorted : List Moved
  pub same : IsPermutation moved sorted
  pub order : IsSortedByKey (λ m. m.inst) by_rule_and_tags sorted
  pub come_is : come ≡ map (λ t. t.inst) (filter has_come (fold added [] sorted))
  pub gone_is : gone ≡ map (λ t. t.inst) (filter has_gone (fold added [] sorted))
