-- The pairs that a map holds.
use Rattle.std.specs.Prelude.{List}
use Rattle.token_line.specs.declared.small_map.Room.{Room}
use Rattle.token_line.specs.declared.small_map.Room.TheVariants.{Few, Many}

module _ {K V : Type 0} where
  abbrev pub pairs_in : Room K V → List (K × V)
  pairs_in (Few list) = list.items
  pairs_in (Many map) = map.value.entries
