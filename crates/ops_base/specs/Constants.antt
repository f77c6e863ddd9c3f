-- The list that constants are kept as.
use Rattle.std.specs.Prelude.{List, [], ◌∷◌}
use Rattle.ops_base.specs.declared.values.Value.{Value}
use Rattle.ops_base.specs.declared.constants.Kept.{Kept}
use Rattle.ops_base.specs.declared.constants.Kept.TheVariants.{One, Several}

abbrev pub constants_in : Kept → List Value
constants_in (One v) = v ∷ []
constants_in (Several vs) = vs
