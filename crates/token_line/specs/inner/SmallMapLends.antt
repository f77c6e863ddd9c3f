-- The final value of a map, or of a list in one, after the value at one of its places was borrowed. No public clause
-- cites this.
use Rattle.std.specs.Prelude.{ℕ, List, Option, None, Some, slice_get}
use Rattle.std.specs.Vec.{with_item}
use Rattle.std.specs.declared.vec.Vec.{Vec}
use Rattle.std.specs.Borrow.{Lends, Fml, RattleType, MutBor}
use Rattle.std.specs.HashMap.Lent.{HashMembers}
use Rattle.indexmap.specs.IndexMap.{set_value_at, with_value_at}
use Rattle.token_line.specs.declared.small_map.Room.{Room}
use Rattle.token_line.specs.declared.small_map.Room.TheVariants.{Few, Many}
use Rattle.token_line.specs.contracts.small_map.Room.{the_row}
use Rattle.token_line.specs.contracts.small_map.SmallMap as small_map

module _ {K V : Type 0} where
  -- the list with w in the pair at the place, where this pair was
  abbrev pub list_with_value : {G : Type 0} → Vec (K × V) G → ℕ → V → Option (K × V) → Vec (K × V) G
  list_with_value list i w None = list
  list_with_value list i w (Some e) = with_item list i (e.0, w)

  -- the map with w as the value at the place
  abbrev pub room_with_value : Room K V → ℕ → V → Room K V
  room_with_value (Few list) i w = Few (list_with_value list i w (slice_get list.items i))
  room_with_value (Many map) i w = Many (record map { value = with_value_at map.value i w })

module _ (K V : RattleType) (key : HashMembers K.Denot) where
  abbrev pub room_row : RattleType
  room_row = the_row K V (record { eq = key.eq }) (record { hash_input = key.hash_input })

  abbrev pub room_lends : MutBor (Room K.Denot V.Denot) → ℕ → MutBor V.Denot → Fml
  room_lends m i r = Lends room_row V m r (room_with_value m.now i)

  abbrev pub map_row : RattleType
  map_row = small_map.the_row K V (record { eq = key.eq }) (record { hash_input = key.hash_input })

  abbrev pub map_lends : MutBor (List (K.Denot × V.Denot)) → ℕ → MutBor V.Denot → Fml
  map_lends m i r = Lends map_row V m r (set_value_at m.now i)
