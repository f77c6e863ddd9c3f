-- Elements that have exactly the fields of their class.
use Rattle.std.specs.Prelude.{◌≡◌, ℕ, ◌≤◌, List, length, false, All, IsTrue}
use Rattle.ops_base.specs.declared.elements.Class.{Class}
use Rattle.ops_base.specs.declared.elements.Element.{Element}
use Rattle.ops_base.specs.Valid.{class_of, most_fields}
use Rattle.ops_base.specs.WorkingMemory.{scalar_count}
use Rattle.run_laws.specs.Finding.{is_class}

-- This many values are one for each scalar attribute of the class, followed by some for its vector attribute, if it has
-- one: no more than an element has room for.
pub record AreFieldsOf (c : Class) (values : ℕ) : Type 0 where
  pub scalars : scalar_count c ≤ values
  pub room : values ≤ most_fields
  pub plain : c.vector ≡ false → values ≡ scalar_count c

-- The class of the element exists, and its fields are those of its class.
pub record IsWhole (classes : List Class) (e : Element) : Type 0 where
  pub class : IsTrue (is_class classes e.class)
  pub fields : AreFieldsOf (class_of classes e.class) (length e.fields)

-- each of these elements is whole
abbrev pub AreWhole : List Class → List Element → Type 0
AreWhole classes wm = All (IsWhole classes) wm
