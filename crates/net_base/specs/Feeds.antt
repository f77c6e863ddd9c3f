-- Which alphas an element can pass, and which nodes take the elements of an alpha.
use Rattle.std.specs.Prelude.{◌≡◌, ◌≢◌, ◌<◌, ◌==◌, ◌&&◌, ℕ, zero, suc, Bool, true, List, [], ◌∷◌, ◌++◌, length, flat_map, slice_get, Option, Some, None, AllPairs, IsTrue, if◌then◌else◌}
use Rattle.std.specs.List.{list_any}
use Rattle.ops_base.specs.declared.values.Pred.{Pred}
use Rattle.ops_base.specs.declared.values.Pred.TheVariants.{Eq}
use Rattle.ops_base.specs.declared.conditions.Operand.{Operand}
use Rattle.ops_base.specs.declared.conditions.Operand.TheVariants as operand
use Rattle.ops_base.specs.declared.conditions.Test.{Test}
use Rattle.ops_base.specs.declared.elements.Element.{Element}
use Rattle.ops_base.specs.Values.{are_same}
use Rattle.ops_base.specs.WorkingMemory.{field_of}
use Rattle.net_base.specs.declared.nodes.Node.{Node}
use Rattle.net_base.specs.declared.nodes.Alpha.{Alpha}
use Rattle.net_base.specs.declared.keys.Constant.{Constant}
use Rattle.net_base.specs.declared.keys.Key.{Key}
use Rattle.net_base.specs.declared.alpha_index.AlphaIndex.{AlphaIndex}
use Rattle.net_base.specs.Sound.{takes_elements}
use Rattle.net_base.specs.Keys.{same_key}
use Rattle.net_base.specs.Lists.{list_at}
use Rattle.net_base.specs.Rows.{row_at}

-- ---- numbers of a list's items

abbrev pub number_if : {X : Type 0} → (X → Bool) → Option X → ℕ → List ℕ
number_if test None i = []
number_if test (Some x) i = if test x then i ∷ [] else []

-- the numbers below the bound of the items that pass, in ascending order
abbrev pub numbers_below : {X : Type 0} → (X → Bool) → List X → ℕ → List ℕ
numbers_below test xs zero = []
numbers_below test xs (suc i) = numbers_below test xs i ++ number_if test (slice_get xs i) i

-- ---- what takes the elements of an alpha

abbrev pub takes_from : ℕ → Node → Bool
takes_from alpha x = takes_elements x.kind && (x.alpha == alpha)

-- the nodes whose right tokens are the elements that pass this alpha, in their order
abbrev pub takers_of : List Node → ℕ → List ℕ
takers_of nodes alpha = numbers_below (takes_from alpha) nodes (length nodes)

-- ---- what an alpha requires

abbrev pub constant_if : Pred → Operand → ℕ → Option Constant
constant_if Eq (operand.Constant v) f = Some (record { field = f; value = v })
constant_if _ _ f = None

-- the constant that a test requires in a field
abbrev pub constant_of : Test → Option Constant
constant_of t = if t.binds then None else constant_if t.pred t.operand t.field

abbrev pub constant_or : Option Constant → Option Constant → Option Constant
constant_or None o = o
constant_or (Some c) o = Some c

-- the first of the constants that tests require
abbrev pub first_constant : List Test → Option Constant
first_constant [] = None
first_constant (t ∷ ts) = constant_or (constant_of t) (first_constant ts)

-- the element's field contains the constant, if there is one
abbrev pub has_constant : Element → Option Constant → Bool
has_constant e None = true
has_constant e (Some c) = are_same (field_of e c.field) c.value

-- the element is of the alpha's class, and has the constant that the alpha requires first
abbrev pub can_pass : Alpha → Element → Bool
can_pass a e = (e.class == a.class) && has_constant e (first_constant a.tests)

-- number n is that of an alpha that the element can pass
pub record IsCandidate (alphas : List Alpha) (e : Element) (n : ℕ) : Type 0 where
  pub alpha : Alpha
  pub at : slice_get alphas n ≡ Some alpha
  pub able : IsTrue (can_pass alpha e)

-- ---- how alphas are looked up

abbrev pub key_of : Alpha → Key
key_of a = record { class = a.class; constant = first_constant a.tests }

abbrev pub has_key : Key → Alpha → Bool
has_key k a = same_key (key_of a) k

-- the alphas of a class that are found by this constant, or without one
abbrev pub found_by : AlphaIndex → ℕ → Option Constant → List ℕ
found_by index class None = row_at index.plain class
found_by index class (Some c) = list_at same_key index.keyed (record { class = class; constant = Some c })

-- the field is known in the class
abbrev pub has_field : AlphaIndex → ℕ → ℕ → Bool
has_field index class f = list_any (λ g. g == f) (row_at index.fields class)

-- The alphas with numbers below the bound are found by their keys. The fields of their constants are known, each
-- once.
pub record IsIndexBelow (alphas : List Alpha) (bound : ℕ) (index : AlphaIndex) : Type 0 where
  pub found : (k : Key) → found_by index k.class k.constant ≡ numbers_below (has_key k) alphas bound
  pub fields : (n : ℕ) (a : Alpha) (c : Constant) → n < bound → slice_get alphas n ≡ Some a → first_constant a.tests ≡ Some c → has_field index a.class c.field ≡ true
  pub once : (class : ℕ) → AllPairs (λ f g. f ≢ g) (row_at index.fields class)

abbrev pub IsIndex : List Alpha → AlphaIndex → Type 0
IsIndex alphas index = IsIndexBelow alphas (length alphas) index

-- the field is known in the class, and so are all others that were known; each is there once if each was
pub record HasField (old new : AlphaIndex) (class f : ℕ) : Type 0 where
  pub field : has_field new class f ≡ true
  pub stay : (k g : ℕ) → has_field old k g ≡ true → has_field new k g ≡ true
  pub once : ((k : ℕ) → AllPairs (λ f g. f ≢ g) (row_at old.fields k)) → (k : ℕ) → AllPairs (λ f g. f ≢ g) (row_at new.fields k)
  pub plain : new.plain ≡ old.plain
  pub keyed : new.keyed ≡ old.keyed

-- number n is one more alpha
pub record AddsAlpha (old new : AlphaIndex) (n : ℕ) (a : Alpha) : Type 0 where
  pub found : (k : Key) → found_by new k.class k.constant ≡ found_by old k.class k.constant ++ (if has_key k a then n ∷ [] else [])
  pub stay : (k g : ℕ) → has_field old k g ≡ true → has_field new k g ≡ true
  pub field : (c : Constant) → first_constant a.tests ≡ Some c → has_field new a.class c.field ≡ true
  pub once : ((k : ℕ) → AllPairs (λ f g. f ≢ g) (row_at old.fields k)) → (k : ℕ) → AllPairs (λ f g. f ≢ g) (row_at new.fields k)

-- ---- what is found for an element

-- what is found by the constant in one field of an element
abbrev pub found_at : AlphaIndex → Element → ℕ → List ℕ
found_at index e f = found_by index e.class (Some (record { field = f; value = field_of e f }))

-- what is found by its class, and by each field that matters in its class
abbrev pub found_in : AlphaIndex → Element → List ℕ
found_in index e = found_by index e.class None ++ flat_map (found_at index e) (row_at index.fields e.class)
