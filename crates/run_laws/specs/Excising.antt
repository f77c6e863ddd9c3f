-- What `excise` removes by names, and which names it reports.
use Rattle.std.specs.Prelude.{ℕ, zero, suc, List, [], ◌∷◌, map, filter, if◌then◌else◌, Bool, not, ◌==◌, ◌||◌, Option, Some, None, option_map, IsTrue}
use Rattle.std.specs.List.{filter_map, list_any}
use Rattle.ops_base.specs.declared.rules.Inst.{Inst}
use Rattle.ops_base.specs.declared.rules.Rule.{Rule}
use Rattle.ops_base.specs.declared.values.Sym.{Sym}
use Rattle.ops_base.specs.Live.{renumbered}
use Rattle.ops_base.specs.Valid.{are_distinct}
use Rattle.ops_meaning.specs.Running.{Earlier, Session}

-- no two productions have the same name
abbrev pub AreNamedApart : List Rule → Type 0
AreNamedApart rules = IsTrue (are_distinct (map (λ r. r.name.0) rules))

abbrev pub is_given : List Sym → Sym → Bool
is_given names name = list_any (λ given. name.0 == given.0) names

-- the production has one of these names
abbrev pub is_named : List Sym → Rule → Bool
is_named names r = is_given names r.name

-- a production has this name
abbrev pub has_name : List Rule → Sym → Bool
has_name rules name = list_any (λ r. r.name.0 == name.0) rules

-- ---- what is left

-- given one entry for each production, the entries of the productions that do not go
abbrev pub left_beside : {X : Type 0} → (Rule → Bool) → List Rule → List X → List X
left_beside goes rules [] = []
left_beside goes [] (x ∷ xs) = x ∷ xs
left_beside goes (r ∷ rules) (x ∷ xs) = if goes r then left_beside goes rules xs else x ∷ left_beside goes rules xs

-- the number that a production has among those that do not go, or none if it goes
abbrev pub left_number : (Rule → Bool) → List Rule → ℕ → Option ℕ
left_number goes [] n = Some n
left_number goes (r ∷ rules) zero = if goes r then None else Some zero
left_number goes (r ∷ rules) (suc n) = if goes r then left_number goes rules n else option_map suc (left_number goes rules n)

-- an instantiation under the new number of its production, or none if that goes
abbrev pub left_inst : (Rule → Bool) → List Rule → Inst → Option Inst
left_inst goes rules i = option_map (renumbered i) (left_number goes rules i.rule)

-- the trail: emptied if one of these productions goes, and otherwise unchanged
abbrev pub trail_left : (Rule → Bool) → List Rule → Option (List Earlier) → Option (List Earlier)
trail_left goes rules trail = if list_any goes rules then option_map (λ es. []) trail else trail

-- The productions that do not go are left, in their order, each with its break and its marks. If one goes, the trail is
-- emptied. Everything else stays.
abbrev pub left_by : (Rule → Bool) → Session → Session
left_by goes k = record k {
  rules = filter (λ r. not (goes r)) k.rules;
  breaks = left_beside goes k.rules k.breaks;
  course = record k.course { fired = filter_map (left_inst goes k.rules) k.course.fired };
  trail = trail_left goes k.rules k.trail;
}

-- ---- which names are reported

-- those of these names that no production has, or that came before
abbrev pub names_told : List Rule → List Sym → List Sym → List Sym
names_told rules before [] = []
names_told rules before (name ∷ names) =
    if not (has_name rules name) || is_given before name then name ∷ names_told rules (name ∷ before) names
    else names_told rules (name ∷ before) names
