-- The numbers of productions, and the marks of instantiations, when productions come and go.
use Rattle.std.specs.Prelude.{◌≡◌, ℕ, zero, suc, List, [], ◌∷◌, ◌++◌, length, map, Option, Some, None, option_map, option_and_then, slice_get}
use Rattle.std.specs.List.{filter_map}
use Rattle.ops_base.specs.declared.commands.Command.{Command}
use Rattle.ops_base.specs.declared.programs.Program.{Program}
use Rattle.ops_base.specs.declared.rules.Inst.{Inst}
use Rattle.ops_base.specs.declared.rules.Rule.{Rule}
use Rattle.ops_base.specs.Live.{without, moved, renumbered}

-- the new program is the old one with these productions and these commands
pub record IsWith (rules : List Rule) (commands : List Command) (old new : Program) : Type 0 where
  pub rules_are : new.rules ≡ rules
  pub commands_are : new.commands ≡ commands
  pub classes : new.classes ≡ old.classes
  pub templates : new.templates ≡ old.templates
  pub text : new.text ≡ old.text

-- the new number of each old production, or none if it is gone
abbrev pub Places : Type 0
Places = List (Option ℕ)

-- the numbers of this many productions, the first of which has this number
abbrev pub numbered_from : ℕ → ℕ → Places
numbered_from first zero = []
numbered_from first (suc n) = Some first ∷ numbered_from (suc first) n

-- the numbers of this many productions that have not moved
abbrev pub unmoved : ℕ → Places
unmoved n = numbered_from 0 n

-- the same, after the production that has this number now is removed
abbrev pub places_moved : ℕ → Places → Places
places_moved k places = map (λ place. option_and_then (moved k) place) places

-- the same, after one is removed, if one is
abbrev pub places_moved_any : Option ℕ → Places → Places
places_moved_any None places = places
places_moved_any (Some k) places = places_moved k places

-- these items without the one with this number, if there is one
abbrev pub without_any : {X : Type 0} → Option ℕ → List X → List X
without_any None xs = xs
without_any (Some k) xs = without k xs

-- the new number of the old production with this one
abbrev pub place_of : Places → ℕ → Option ℕ
place_of places n = option_and_then (λ place. place) (slice_get places n)

-- an instantiation under the new number of its production, or none if that is gone
abbrev pub inst_moved : Places → Inst → Option Inst
inst_moved places i = option_map (renumbered i) (place_of places i.rule)

abbrev pub insts_moved : Places → List Inst → List Inst
insts_moved places insts = filter_map (inst_moved places) insts

-- The old productions became the new ones: some were removed, one after the other, and some were added, each after all
-- those present. These are the new numbers.
pub data Leads : Places → List Rule → List Rule → Type 0 where
  stays : (rules : List Rule) → Leads (unmoved (length rules)) rules rules
  goes : {places : Places} {old new : List Rule} → (k : ℕ) → Leads places old new → Leads (places_moved k places) old (without k new)
  comes : {places : Places} {old new : List Rule} → (r : Rule) → Leads places old new → Leads places old (new ++ r ∷ [])
