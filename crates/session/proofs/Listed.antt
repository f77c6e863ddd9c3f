-- Elements that are listed by their tags.
use Rattle.std.proofs.Common.{◌≡◌, ℕ, List, [], ◌∷◌, ◌==◌, length, false, refl}
use Rattle.std.specs.List.{filter_map}
use Rattle.ops_base.specs.declared.elements.Element.{Element}
use Rattle.ops_meaning.specs.Acting.{element_of}
use Rattle.ops_meaning.specs.Running.{elements_listed}

-- where tags are given, those are listed that have one of these
pub listed_some : (wm : List Element) (tags : List ℕ) → (length tags == 0) ≡ false → elements_listed wm tags ≡ filter_map (element_of wm) tags
listed_some wm [] some = cc
listed_some wm (t ∷ ts) some = refl
