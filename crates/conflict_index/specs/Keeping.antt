-- How an index keeps its members: in the order of dominance, except for those that fired while they were dominant,
-- which are kept by their keys.
use Rattle.std.specs.Prelude.{◌≡◌, ◌≢◌, ℕ, ◌≤◌, List, [], ◌∷◌, ◌++◌, length, map, filter, not, true, false, if◌then◌else◌, Contains, ◌⊎◌, ◌↔◌}
use Rattle.std.specs.List.{IsDistinct}
use Rattle.std.specs.List.Sorted.{IsStrictlySortedBy}
use Rattle.std.specs.Map.{keys_of}
use Rattle.std.specs.Ordering.{match_ordering}
use Rattle.ops_base.specs.declared.commands.Strategy.{Strategy}
use Rattle.ops_base.specs.declared.rules.Inst.{Inst}
use Rattle.ops_base.specs.declared.rules.Rule.{Rule}
use Rattle.ops_base.specs.Dominance.{specificity_of}
use Rattle.ops_base.specs.Instances.{by_rule_and_tags}
use Rattle.resolution.specs.Keys.{Key, same_keys}
use Rattle.ops_base.specs.Refraction.{is_same_inst}
use Rattle.conflict_index.specs.declared.rank.Held.{Held}
use Rattle.conflict_index.specs.Rank.{Rank}
use Rattle.conflict_index.specs.Indexed.{Member, key_with}
use Rattle.conflict_index.specs.Ranking.{compare_ranks}

-- a member in the order of dominance
abbrev pub held_member : Rank × Held → Member
held_member e = record { inst = e.1.inst; specificity = e.0.key.specificity; fired = e.1.fired }

-- a member that fired while it was the dominant one
abbrev pub fired_member : Key × Inst → Member
fired_member e = record { inst = e.1; specificity = e.0.specificity; fired = true }

-- a member inserted in the order of rule and tags, in place of one with the same instantiation
abbrev pub put_in : Member → List Member → List Member
put_in m [] = m ∷ []
put_in m (n ∷ members) =
    match_ordering (by_rule_and_tags m.inst n.inst) (m ∷ n ∷ members) (m ∷ members) (n ∷ put_in m members)

-- the members in the order of rule and tags
abbrev pub in_order : List Member → List Member
in_order [] = []
in_order (m ∷ members) = put_in m (in_order members)

abbrev pub all_members : List (Rank × Held) → List (Key × Inst) → List Member
all_members waiting fired = map held_member waiting ++ map fired_member fired

abbrev pub members_of : List (Rank × Held) → List (Key × Inst) → List Member
members_of waiting fired = in_order (all_members waiting fired)

abbrev pub rank_with : Strategy → Inst → ℕ → Rank
rank_with strategy i specificity = record { strategy = strategy; key = key_with i specificity }

-- the rank of an instantiation of the program
abbrev pub rank_in : Strategy → List Rule → Inst → Rank
rank_in strategy rules i = rank_with strategy i (specificity_of rules i.rule)

-- an instantiation that comes, together with its rank
abbrev pub arrival : Strategy → List Rule → Inst → Rank × Held
arrival strategy rules i = (rank_in strategy rules i, record { inst = i; fired = false })

-- the entry at a rank, marked if it is that of this instantiation
abbrev pub marked_held : Inst → Held → Held
marked_held i h = if is_same_inst h.inst i then record h { fired = true } else h

-- the same members, ranked under another strategy
abbrev pub ranked_anew : Strategy → List (Rank × Held) → List (Rank × Held)
ranked_anew strategy waiting = map (λ (e : Rank × Held). (record { strategy = strategy; key = e.0.key }, e.1)) waiting

-- no two different entries, existing or added, have the same rank
abbrev pub AreToldApart : List (Rank × Held) → List (Rank × Held) → Type 0
AreToldApart old added = (d e : Rank × Held) → (Contains old d ⊎ Contains added d) → (Contains old e ⊎ Contains added e) → d.0 ≡ e.0 → d ≡ e

-- each entry has the rank of its instantiation
abbrev pub AreRanked : Strategy → List (Rank × Held) → Type 0
AreRanked strategy waiting = (e : Rank × Held) → Contains waiting e → e.0 ≡ rank_with strategy e.1.inst e.0.key.specificity

-- each entry has the key of its instantiation
abbrev pub AreKeyed : List (Key × Inst) → Type 0
AreKeyed fired = (e : Key × Inst) → Contains fired e → e.0 ≡ key_with e.1 e.0.specificity

-- The invariant of the two maps of an index. No two members have the same instantiation, and there is room for a mark
-- on each member that has none in the second map.
pub record IsKept (strategy : Strategy) (waiting : List (Rank × Held)) (fired : List (Key × Inst)) (spare : ℕ) : Type 0 where
  pub ordered : IsStrictlySortedBy compare_ranks (keys_of waiting)
  pub unique : IsDistinct same_keys (keys_of fired)
  pub ranked : AreRanked strategy waiting
  pub keyed : AreKeyed fired
  pub one : (m n : Member) → Contains (all_members waiting fired) m → Contains (all_members waiting fired) n → m.inst ≡ n.inst → m ≡ n
  pub apart : (e : Rank × Held) (d : Key × Inst) → Contains waiting e → Contains fired d → e.1.inst ≢ d.1
  pub room : length waiting ≤ spare

-- `new` has exactly the entries of `old` and these
abbrev pub Gains : {X : Type 0} → List X → List X → List X → Type 0
Gains {X} added old new = (x : X) → Contains new x ↔ (Contains old x ⊎ Contains added x)

-- `new` has exactly the entries of `old`, without those at these keys
abbrev pub Loses : {K X : Type 0} → List K → List (K × X) → List (K × X) → Type 0
Loses {K} {X} keys old new = (e : K × X) → Contains new e ↔ (Contains old e × ¬ Contains keys e.0)

-- `new` has exactly the entries of `old`
abbrev pub HasSame : {X : Type 0} → List X → List X → Type 0
HasSame {X} old new = (x : X) → Contains new x ↔ Contains old x

-- the instantiations of those that have not fired
abbrev pub unfired_insts : List Held → List Inst
unfired_insts held = map (λ (h : Held). h.inst) (filter (λ h. not h.fired) held)
