-- What a small text is read as, of which one part is examined.
use Rattle.std.specs.Prelude.{ℕ, List, [], ◌∷◌, ◌++◌, codes, map, slice_range, Result, Ok, Err}
use Rattle.ops_base.specs.declared.actions.Action.{Action}
use Rattle.ops_base.specs.declared.commands.Command.{Command}
use Rattle.ops_base.specs.declared.conditions.Part.{Part}
use Rattle.ops_base.specs.declared.rules.Rule.{Rule}
use Rattle.ops_grammar.specs.Reads.{Read, Placed, reads}

abbrev pub Text : Type 0
Text = List ℕ

-- two classes: `a` has the attributes x and y, and `l` the attribute u and the vector attribute v
abbrev pub classes : Text
classes = codes "(literalize a x y)(vector-attribute v)(literalize l u v)"

abbrev pub rules_in : Result Read Placed → List Rule
rules_in (Ok r) = r.rules
rules_in (Err p) = []

-- the productions that actions build
abbrev pub templates_in : Result Read Placed → List Rule
templates_in (Ok r) = r.templates
templates_in (Err p) = []

abbrev pub parts_in : List Rule → List Part
parts_in [] = []
parts_in (r ∷ rs) = r.conditions

abbrev pub actions_in : List Rule → List Action
actions_in [] = []
actions_in (r ∷ rs) = r.actions

abbrev pub commands_in : Result Read Placed → List Command
commands_in (Ok r) = r.commands
commands_in (Err p) = []

-- the parts of the left side that this text spells
abbrev pub parts_of : Text → List Part
parts_of left = parts_in (rules_in (reads (classes ++ codes "(p r " ++ left ++ codes "-->(halt))")))

-- what a production is read as whose right side this text spells; it comes after conditions on an `a`, named e, whose x is bound
-- to variable 0, and on an `l`, named f
abbrev pub text_with : Text → Text
text_with right = classes ++ codes "(p r {<e>(a ^x <n>)}{<f>(l)}-->" ++ right ++ codes ")"

abbrev pub read_with : Text → Result Read Placed
read_with right = reads (text_with right)

abbrev pub actions_of : Text → List Action
actions_of right = actions_in (rules_in (read_with right))

-- the left side of the first production that this right side builds, and its actions
abbrev pub parts_built : Text → List Part
parts_built right = parts_in (templates_in (read_with right))

abbrev pub actions_built : Text → List Action
actions_built right = actions_in (templates_in (read_with right))

-- the texts of the productions that this right side builds
abbrev pub texts_built : Text → List Text
texts_built right = map (λ r. slice_range (text_with right) r.first r.past) (templates_in (read_with right))

-- the commands that this text spells, which come after a production
abbrev pub commands_of : Text → List Command
commands_of text = commands_in (reads (classes ++ codes "(p r(a)-->(halt))" ++ text))
