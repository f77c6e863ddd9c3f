-- A right side after its left side, up to the bracket that closes the production.
use Rattle.std.proofs.Common.{◌≡◌, ℕ, ◌-◌, List, [], ◌∷◌, ◌++◌, length, slice_get, false, None, Some, Vec, refl, sym, ap, ◌∙◌, arith}
use Rattle.std.proofs.Math.ListN.{length-append}
use Rattle.std.specs.declared.alloc.Global.{Global}
use Rattle.ops_base.specs.declared.actions.Action.{Action}
use Rattle.ops_base.specs.declared.actions.Hole.{Hole}
use Rattle.ops_base.specs.declared.rules.Rule.{Rule}
use Rattle.ops_base.specs.declared.conditions.Part.{Part}
use Rattle.ops_base.specs.Valid.{cells_of}
use Rattle.ops_grammar.specs.declared.words.Named.{Named}
use Rattle.ops_grammar.specs.declared.words.Word.{Word}
use Rattle.ops_grammar.specs.Grammar.{State, Wanted, Actions, goes, left_begun, with_rule}
use Rattle.ops_forms.specs.Sights.{cells_from}
use Rattle.ops_forms.specs.PlaceWalks.{AreBehind}
use Rattle.ops_lhs.specs.LeftSides.{left_read}
use Rattle.ops_rhs.specs.declared.sides.Sight.{Sight}
use Rattle.ops_rhs.specs.RightSides.{IsBracket, ReadsRight, Sees, right_read}
use Rattle.ops_rhs.proofs.Borders.{right_goes}

get_behind : (before rest : List Word) (w : Word) → slice_get (before ++ w ∷ rest) (length before) ≡ Some w
get_behind [] rest w = refl
get_behind (b ∷ before) rest w = get_behind before rest w

-- the bracket is what stands right before the rest
bracket_at : (words rest : List Word) (b : AreBehind IsBracket words rest) → slice_get words (length words - length rest - 1) ≡ Some b.last
bracket_at words rest b =
    let counted = ap (λ (ws : List Word). length ws) b.split ∙ length-append b.before (b.last ∷ rest) in
    let place : length words - length rest - 1 ≡ length b.before = omega (arith, counted) in
    ap (slice_get words) place ∙ ap (λ (ws : List Word). slice_get ws (length b.before)) b.split ∙ get_behind b.before rest b.last

some_is : (v w : Word) → Some v ≡ Some w → v ≡ w
some_is v w e = cc

module _ (s : State) (conditions : List Part) (values elements : List Named) (variables counted : ℕ) (holes : Vec Hole Global) (templates : Vec Rule Global) (same_templates : templates.items ≡ s.templates) where
  -- what is in sight after the left side
  abbrev pub sighted : Sight
  sighted =
      record { values = values; elements = elements; cells = cells_of conditions; conditions = cells_from 0 conditions; variables = variables; counted = counted; holes = holes; templates = templates }

  -- the state after it
  abbrev behind : State
  behind = left_read None s conditions values elements variables counted holes.items

  pub sees : Sees s.classes sighted behind
  sees =
      record {
        classes_are = refl;
        constants_are = refl;
        values_are = refl;
        elements_are = refl;
        variables_are = refl;
        cells_are = refl;
        conditions_are = refl;
        counted_are = refl;
        holes_are = refl;
        templates_are = sym same_templates;
        outer_is = refl;
        over = refl;
      }

  -- the right side is read after it, and its bracket adds the rule
  pub right_is_read : s ≡ left_begun s → (words rest : List Word) (actions : List Action) (sight : Sight) (r : ReadsRight s.classes sighted words rest actions sight) (new : State) (bracket : Word) → slice_get words (length words - length rest - 1) ≡ Some bracket → (items : List Part) → items ≡ conditions → new ≡ with_rule (right_read (record s { conditions = items }) actions sight r.further) bracket.past → (more : List Word) (ws : List Wanted) → goes (words ++ more) (Actions false ∷ ws) behind ≡ goes (rest ++ more) ws new
  right_is_read begun words rest actions sight r new bracket there items same ended more ws =
      let at : r.behind.last ≡ bracket = some_is _ _ (sym (bracket_at words rest r.behind) ∙ there) in
      right_goes s.classes sighted words rest actions sight r behind sees more ws
      ∙ ap (λ (w : Word). goes (rest ++ more) ws (with_rule (right_read behind actions sight r.further) w.past)) at
      ∙ ap (λ (t : State). goes (rest ++ more) ws (with_rule (right_read (record t { conditions = conditions }) actions sight r.further) bracket.past)) (sym begun)
      ∙ ap (λ cs. goes (rest ++ more) ws (with_rule (right_read (record s { conditions = cs }) actions sight r.further) bracket.past)) (sym same)
      ∙ ap (goes (rest ++ more) ws) (sym ended)
