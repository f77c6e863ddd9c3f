-- The lines of partial matches: one number of parts after the other, and one name after the other.
use Rattle.std.proofs.Common.{◌≡◌, ◌∙◌, ap, ℕ, suc, ◌+◌, ◌-◌, ◌<◌, List, [], ◌∷◌, ◌++◌, length, drop, get_or, None, option_map, unwrap_or, arith}
use Rattle.std.specs.List.{flat_map}
use Rattle.std.proofs.lemmas.List.{drop_more}
use Rattle.ops_base.specs.declared.conditions.Part.{Part}
use Rattle.ops_base.specs.declared.elements.Element.{Element}
use Rattle.ops_base.specs.declared.rules.Rule.{Rule}
use Rattle.ops_base.specs.declared.values.Sym.{Sym}
use Rattle.ops_base.specs.Names.{Spellings}
use Rattle.ops_meaning.specs.Layout.{unknown_line}
use Rattle.ops_meaning.specs.Partials.{all_partial_lines, left_side, partial_lines, partial_lines_from}
use Rattle.ops_meaning.specs.Running.{matches_told, rule_named}

module _ (names : Spellings) (name : Sym) (wm : List Element) (parts : List Part) (count i : ℕ) where
  -- the lines from a number of parts on begin with those of this number
  pub numbers_here : i < count → partial_lines_from names name wm parts (i + 1) (count - i) ≡ partial_lines names name wm parts (i + 1) ++ partial_lines_from names name wm parts (i + 1 + 1) (count - (i + 1))
  numbers_here within =
      let left : count - i ≡ suc (count - (i + 1)) = omega (arith, within) in
      let next : suc (i + 1) ≡ i + 1 + 1 = omega arith in
      ap (partial_lines_from names name wm parts (i + 1)) left
      ∙ ap (λ n. partial_lines names name wm parts (i + 1) ++ partial_lines_from names name wm parts n (count - (i + 1))) next

-- what the names from a place on give begins with that of the name there
pub names_here : {X : Type 0} (f : X → List (List ℕ)) (xs : List X) (i : ℕ) (d : X) → i < length xs → flat_map f (drop i xs) ≡ f (get_or xs i d) ++ flat_map f (drop (i + 1) xs)
names_here f xs i d within = ap (flat_map f) (drop_more xs i d within)

-- the line of a name that no production has
pub told_unknown : (names : Spellings) (rules : List Rule) (wm : List Element) (name : Sym) → rule_named rules name ≡ None → matches_told names rules wm name ≡ unknown_line names name ∷ []
told_unknown names rules wm name is =
    ap (λ o. unwrap_or (option_map (λ n. all_partial_lines names name wm (left_side rules n)) o) (unknown_line names name ∷ [])) is
