-- What conditions ask for and nothing provides.
use Rattle.std.specs.Prelude.{ℕ, List, [], ◌∷◌, ◌++◌, Bool, true, not, ◌&&◌, ◌||◌, if◌then◌else◌}
use Rattle.ops_base.specs.declared.elements.Class.{Class}
use Rattle.ops_base.specs.declared.rules.Rule.{Rule}
use Rattle.ops_base.specs.declared.commands.Command.{Command}
use Rattle.ops_base.specs.Values.{nil, are_same}
use Rattle.program_slips.specs.declared.given.Given.{Given}
use Rattle.program_slips.specs.declared.given.Given.TheVariants as given
use Rattle.program_slips.specs.declared.asked.What.{What}
use Rattle.program_slips.specs.declared.asked.What.TheVariants as what
use Rattle.program_slips.specs.declared.asked.Ask.{Ask}
use Rattle.program_slips.specs.Given.{same_given, given_of, is_given}
use Rattle.program_slips.specs.Asked.{asks_of}

-- A class is missing if nothing makes an element of it; this is reported once. A constant is missing if elements of
-- the class are made and each value that the attribute is given is another constant; `nil` is never missing, since
-- attributes that were left out have it. A condition that no element meets is always reported.
abbrev pub lacks : (Given → Bool) → ℕ → What → Bool
lacks known class what.Element = not (known (given.Class class)) && not (known (given.Asked class))
lacks known class (what.Constant field v) =
    known (given.Class class) && not (known (given.Other class field)) && not (known (given.Constant class field v)) && not (are_same v nil)
lacks known class what.Unmet = true

-- the facts after a class was asked for
abbrev pub known_with : (Given → Bool) → ℕ → Given → Bool
known_with known class g = same_given (given.Asked class) g || known g

abbrev pub lacking_by : (Given → Bool) → List Ask → List Ask
lacking_by known [] = []
lacking_by known (a ∷ rest) =
    (if lacks known a.class a.what then a ∷ [] else []) ++ lacking_by (known_with known a.class) rest

-- what a program's conditions ask for and nothing in it provides
abbrev pub lacking : List Class → List Rule → List Rule → List Command → List Ask
lacking classes rules templates commands =
    lacking_by (is_given (given_of rules templates commands)) (asks_of classes rules templates commands)
