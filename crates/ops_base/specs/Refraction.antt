-- Which instantiation fires, and which stay marked as fired.
use Rattle.std.specs.Prelude.{◌≢◌, ℕ, List, filter, fold, Bool, not, ◌==◌, ◌&&◌, bytes_eq, if◌then◌else◌, Option, Some, None, IsTrue, Contains}
use Rattle.std.specs.List.{list_any}
use Rattle.ops_base.specs.declared.rules.Rule.{Rule}
use Rattle.ops_base.specs.declared.rules.Inst.{Inst}
use Rattle.ops_base.specs.declared.commands.Strategy.{Strategy}
use Rattle.ops_base.specs.Dominance.{dominates}

-- the same tags in the same order
abbrev pub same_tags : List ℕ → List ℕ → Bool
same_tags xs ys = bytes_eq xs ys

-- an instantiation is known by its production and its tags
abbrev pub is_same_inst : Inst → Inst → Bool
is_same_inst i j = i.rule == j.rule && same_tags i.tags j.tags

abbrev pub is_among : List Inst → Inst → Bool
is_among insts i = list_any (λ j. is_same_inst i j) insts

-- those found that have not fired
abbrev pub unfired : List Inst → List Inst → List Inst
unfired found fired = filter (λ i. not (is_among fired i)) found

-- A mark is forgotten where its instantiation is not found at the end of a phase. The marks stand in the order of what
-- is found.
abbrev pub still_fired : List Inst → List Inst → List Inst
still_fired found fired = filter (λ i. is_among fired i) found

-- i is one of them and dominates all others
pub record IsDominant (strategy : Strategy) (rules : List Rule) (insts : List Inst) (i : Inst) : Type 0 where
  pub member : Contains insts i
  pub above : (j : Inst) → Contains insts j → j ≢ i → IsTrue (dominates strategy rules i j)

-- the one of two that dominates
abbrev pub better : Strategy → List Rule → Option Inst → Inst → Inst
better strategy rules None i = i
better strategy rules (Some best) i = if dominates strategy rules i best then i else best

-- the dominant one of these
abbrev pub dominant : Strategy → List Rule → List Inst → Option Inst
dominant strategy rules insts = fold (λ best i. Some (better strategy rules best i)) None insts
