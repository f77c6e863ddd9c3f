-- What a pattern of constants matches.
use Rattle.std.specs.Prelude.{ℕ, suc, List, [], ◌∷◌, filter, false, is_some}
use Rattle.std.specs.List.{flat_map}
use Rattle.ops_base.specs.declared.commands.Fixed.{Fixed}
use Rattle.ops_base.specs.declared.conditions.Condition.{Condition}
use Rattle.ops_base.specs.declared.conditions.Operand.TheVariants.{Constant}
use Rattle.ops_base.specs.declared.conditions.Test.{Test}
use Rattle.ops_base.specs.declared.elements.Element.{Element}
use Rattle.ops_base.specs.declared.values.Pred.TheVariants.{Eq}
use Rattle.ops_base.specs.declared.values.Value.{Value}
use Rattle.ops_base.specs.Matching.{match_of}

-- a field equals a constant
abbrev pub equality : ℕ → Value → Test
equality field v = record { field = field; pred = Eq; operand = Constant v; binds = false }

-- the fields from this one on have these values
abbrev pub equalities : ℕ → List Value → List Test
equalities field [] = []
equalities field (v ∷ vs) = equality field v ∷ equalities (suc field) vs

-- the positive condition of a class, with these constants
abbrev pub condition_with : ℕ → List Fixed → Condition
condition_with class puts =
    record { class = class; negated = false; tests = flat_map (λ p. equalities p.field p.values) puts }

-- the elements that meet a condition if nothing is bound, in their order
abbrev pub meeting : Condition → List Element → List Element
meeting c wm = filter (λ e. is_some (match_of c e [])) wm
