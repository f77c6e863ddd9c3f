-- The origin of the values that `--why` prints.
use Rattle.std.specs.Prelude.{◌≡◌, ℕ, ◌-◌, ◌≤◌, List, ◌++◌, codes, length, map, take, false, All, Contains, Option, Some, option_and_then, slice_get, unwrap_or}
use Rattle.std.specs.List.{join_by}
use Rattle.ops_base.specs.declared.conditions.Condition.{Condition}
use Rattle.ops_base.specs.declared.conditions.Part.{Part}
use Rattle.ops_base.specs.declared.conditions.Part.TheVariants.{One}
use Rattle.ops_base.specs.declared.elements.Class.{Class}
use Rattle.ops_base.specs.declared.elements.Element.{Element}
use Rattle.ops_base.specs.declared.rules.Inst.{Inst}
use Rattle.ops_base.specs.declared.rules.Rule.{Rule}
use Rattle.ops_base.specs.declared.values.Value.{Value}
use Rattle.ops_base.specs.Names.{Spellings}
use Rattle.ops_base.specs.Valid.{cells_of}
use Rattle.ops_base.specs.WorkingMemory.{field_of}
use Rattle.ops_meaning.specs.Acting.{element_of, no_element}
use Rattle.ops_meaning.specs.Layout.{inst_text}
use Rattle.why.specs.Partials.{parts_of}
use Rattle.why_lines.specs.WhyLines.{binding_text, spots_of}

-- The tag at a place of the left side, counted from 1. Each positive condition before it has one of the tags.
abbrev pub tag_at : List Part → List ℕ → ℕ → Option ℕ
tag_at parts tags place = slice_get tags (length (cells_of (take (place - 1) parts)))

-- the element with that tag
abbrev pub element_at : List Element → List Part → List ℕ → ℕ → Element
element_at wm parts tags place = unwrap_or (option_and_then (element_of wm) (tag_at parts tags place)) no_element

-- the value of this field of that element
abbrev pub value_at : List Element → List Part → List ℕ → ℕ → ℕ → Value
value_at wm parts tags place field = field_of (element_at wm parts tags place) field

-- At this place there is a positive condition of this class, and the element there is in working memory and of this
-- class.
pub record IsThere (wm : List Element) (parts : List Part) (tags : List ℕ) (place class : ℕ) : Type 0 where
  pub counted : 1 ≤ place
  pub condition : Condition
  pub at : slice_get parts (place - 1) ≡ Some (One condition)
  pub positive : condition.negated ≡ false
  pub asked : condition.class ≡ class
  pub tag : tag_at parts tags place ≡ Some (element_at wm parts tags place).tag
  pub element : Contains wm (element_at wm parts tags place)
  pub is_of : (element_at wm parts tags place).class ≡ class

-- The values are, one by one, the values of the fields that the spots of the rule name, and the element of each spot
-- exists.
pub record AreTold (rules : List Rule) (wm : List Element) (i : Inst) (values : List Value) : Type 0 where
  pub values_are : values ≡ map (λ s. value_at wm (parts_of rules i.rule) i.tags s.place s.field) (spots_of rules i.rule)
  pub there : All (λ s. IsThere wm (parts_of rules i.rule) i.tags s.place s.class) (spots_of rules i.rule)

-- The line of an instantiation: for each spot of its rule, the place, the attribute and the value of the field,
-- separated by `;`.
abbrev pub told_line : Spellings → List Class → List Rule → List Element → Inst → List ℕ
told_line names classes rules wm i =
    codes "why " ++ inst_text names rules i ++ codes ":"
    ++ join_by (λ s. binding_text names classes s (value_at wm (parts_of rules i.rule) i.tags s.place s.field)) (codes ";") (spots_of rules i.rule)
