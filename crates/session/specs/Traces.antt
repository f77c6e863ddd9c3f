-- When changes can be printed from the working memory before them.
use Rattle.std.specs.Prelude.{◌≡◌, List, IsSome, map}
use Rattle.std.specs.List.{All}
use Rattle.ops_base.specs.declared.elements.Change.{Change}
use Rattle.ops_base.specs.declared.elements.Change.TheVariants.{Add, Remove}
use Rattle.ops_base.specs.declared.elements.Class.{Class}
use Rattle.ops_base.specs.declared.elements.Element.{Element}
use Rattle.ops_base.specs.Names.{Spellings}
use Rattle.ops_meaning.specs.Acting.{change_text, change_lines, element_of}

-- an element that is removed is present
abbrev pub IsToldBy : List Element → Change → Type 0
IsToldBy wm (Add e) = Unit {0}
IsToldBy wm (Remove tag) = IsSome (element_of wm tag)

-- Each element that is removed is present before all the changes. So the lines are those that each change has by
-- itself.
pub record AreToldBy (wm : List Element) (changes : List Change) : Type 0 where
  pub there : All (IsToldBy wm) changes
  pub lines : (names : Spellings) (classes : List Class) → change_lines names classes wm changes ≡ map (change_text names classes wm) changes
