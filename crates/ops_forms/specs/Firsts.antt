-- Where the first item with each name is.
use Rattle.std.specs.Prelude.{◌≡◌, ◌==◌, ◌&&◌, ℕ, List, position, Bool, if◌then◌else◌, Option, Some, None}
use Rattle.std.specs.BTreeMap.{BTreeMap, get}
use Rattle.std.specs.Ordering.{nat_cmp}

-- the place that was noted, or this one if there is none and the name is that one
abbrev pub or_else : Option ℕ → Bool → ℕ → Option ℕ
or_else (Some k) is_it place = Some k
or_else None is_it place = if is_it then Some place else None

-- each name is noted with the place of the first item that has it, and no other name is noted
abbrev pub AreFirsts : {X : Type 0} → (X → ℕ) → BTreeMap ℕ ℕ → List X → Type 0
AreFirsts title firsts items = (n : ℕ) → get nat_cmp firsts n ≡ position (λ x. title x == n) items

-- the place that was noted, unless it is this one and the name is that one
abbrev pub without : Option ℕ → Bool → ℕ → Option ℕ
without (Some k) is_it place = if is_it && (k == place) then None else Some k
without None is_it place = None
