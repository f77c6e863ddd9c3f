-- What a program can put into working memory: classes of elements, and values of attributes.
use Rattle.std.specs.Prelude.{ℕ, List, [], ◌∷◌, ◌++◌, map, flat_map, Bool, unwrap_or, slice_get}
use Rattle.std.specs.List.{list_any}
use Rattle.ops_base.specs.declared.values.Value.{Value}
use Rattle.ops_base.specs.declared.actions.Term.{Term}
use Rattle.ops_base.specs.declared.actions.Term.TheVariants as term
use Rattle.ops_base.specs.declared.actions.Put.{Put}
use Rattle.ops_base.specs.declared.actions.Action.{Action}
use Rattle.ops_base.specs.declared.actions.Action.TheVariants as action
use Rattle.ops_base.specs.declared.rules.Rule.{Rule}
use Rattle.ops_base.specs.declared.commands.Fixed.{Fixed}
use Rattle.ops_base.specs.declared.commands.Command.{Command}
use Rattle.ops_base.specs.declared.commands.Command.TheVariants as command
use Rattle.ops_base.specs.Valid.{cells_of}
use Rattle.program_slips.specs.declared.given.Given.{Given}
use Rattle.program_slips.specs.declared.given.Given.TheVariants as given
use Rattle.program_slips.specs.contracts.given.GivenPartialEq.TheImpl as same

-- the two are the same
abbrev pub same_given : Given → Given → Bool
same_given = same.ghosts.eq

-- ---- the values that an attribute is given

-- one constant, or something else
abbrev pub given_by_terms : ℕ → ℕ → List Term → Given
given_by_terms class field (term.Constant v ∷ []) = given.Constant class field v
given_by_terms class field _ = given.Other class field

abbrev pub given_by_put : ℕ → Put → Given
given_by_put class p = given_by_terms class p.field p.terms

abbrev pub given_by_values : ℕ → ℕ → List Value → Given
given_by_values class field (v ∷ []) = given.Constant class field v
given_by_values class field _ = given.Other class field

abbrev pub given_by_fixed : ℕ → Fixed → Given
given_by_fixed class p = given_by_values class p.field p.values

-- ---- right sides, with the class of each cell and the class of the element made last

abbrev pub class_of_cell : List ℕ → ℕ → ℕ
class_of_cell cells cell = unwrap_or (slice_get cells cell) 0

abbrev pub given_by_action : List ℕ → Action → List Given
given_by_action cells (action.Make class puts) = given.Class class ∷ map (given_by_put class) puts
given_by_action cells (action.Modify cell puts) = map (given_by_put (class_of_cell cells cell)) puts
given_by_action cells _ = []

abbrev pub cells_after : List ℕ → ℕ → Action → List ℕ
cells_after cells made (action.Cbind cell) = cells ++ made ∷ []
cells_after cells made _ = cells

abbrev pub made_after : List ℕ → ℕ → Action → ℕ
made_after cells made (action.Make class puts) = class
made_after cells made (action.Modify cell puts) = class_of_cell cells cell
made_after cells made _ = made

abbrev pub given_by_actions : List ℕ → ℕ → List Action → List Given
given_by_actions cells made [] = []
given_by_actions cells made (a ∷ rest) = given_by_action cells a ++ given_by_actions (cells_after cells made a) (made_after cells made a) rest

-- no `cbind` comes before the first `make` or `modify`, so there 0 is not the number of a class
abbrev pub given_by_rule : Rule → List Given
given_by_rule r = given_by_actions (cells_of r.conditions) 0 r.actions

-- ---- productions that are built

-- A constant of one may be a hole, in whose place any value can stand: each of its values counts as something else.
abbrev pub loosened : Given → Given
loosened (given.Constant class field v) = given.Other class field
loosened g = g

abbrev pub given_by_template : Rule → List Given
given_by_template r = map loosened (given_by_rule r)

-- ---- programs

abbrev pub given_by_command : Command → List Given
given_by_command (command.Make class puts) = given.Class class ∷ map (given_by_fixed class) puts
given_by_command (command.Add r) = given_by_rule r
given_by_command _ = []

-- All productions count, including those that are removed again and those that are built.
abbrev pub given_of : List Rule → List Rule → List Command → List Given
given_of rules templates commands =
    flat_map given_by_rule rules ++ flat_map given_by_template templates ++ flat_map given_by_command commands

abbrev pub is_given : List Given → Given → Bool
is_given all g = list_any (λ f. same_given f g) all
