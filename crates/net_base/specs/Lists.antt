-- Lists of numbers under keys.
use Rattle.std.specs.Prelude.{◌≡◌, ℕ, Bool, List, [], ◌∷◌, ◌++◌, Option, Some, None, if◌then◌else◌}
use Rattle.std.specs.Global.{Vec}
use Rattle.std.specs.HashMap.{get}
use Rattle.net_base.specs.declared.lists.Lists.{Lists}

abbrev pub items_of : Option (Vec ℕ) → List ℕ
items_of None = []
items_of (Some v) = v.items

module _ {K : Type 0} (eq : K → K → Bool) where
  -- the list under this key
  abbrev pub list_at : Lists K → K → List ℕ
  list_at l key = items_of (get eq l.lists key)

  -- the item is at the end of the list under this key, and everything else is as before
  abbrev pub AddsItem : Lists K → Lists K → K → ℕ → Type 0
  AddsItem old new key item = (q : K) → list_at new q ≡ list_at old q ++ (if eq key q then item ∷ [] else [])
