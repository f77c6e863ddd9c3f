-- What becomes of numbers and of instantiations where a production goes. One that comes stands last, so that no number
-- changes.
use Rattle.std.specs.Prelude.{ℕ, zero, suc, List, [], ◌∷◌, Option, Some, None, option_map}
use Rattle.std.specs.List.{filter_map}
use Rattle.ops_base.specs.declared.rules.Inst.{Inst}

-- these without the one at this place
abbrev pub without : {X : Type 0} → ℕ → List X → List X
without k [] = []
without zero (x ∷ xs) = xs
without (suc k) (x ∷ xs) = x ∷ without k xs

-- the number that a production has once the one with number k is gone; that one has none
abbrev pub moved : ℕ → ℕ → Option ℕ
moved zero zero = None
moved zero (suc n) = Some n
moved (suc k) zero = Some zero
moved (suc k) (suc n) = option_map suc (moved k n)

abbrev pub renumbered : Inst → ℕ → Inst
renumbered i n = record i { rule = n }

-- an instantiation under the new number of its production, none where that is gone
abbrev pub moved_inst : ℕ → Inst → Option Inst
moved_inst k i = option_map (renumbered i) (moved k i.rule)

abbrev pub moved_insts : ℕ → List Inst → List Inst
moved_insts k insts = filter_map (moved_inst k) insts
