-- The places of the classes that have an attribute.
use Rattle.std.specs.Prelude.{◌≡◌, ◌==◌, ◌&&◌, ℕ, ◌+◌, ◌-◌, List, [], ◌∷◌, ◌++◌, length, filter, slice_get, slice_set, Bool, true, false, not, if◌then◌else◌, Option, Some, None, Vec}
use Rattle.std.specs.List.{list_any}
use Rattle.std.specs.BTreeMap.{BTreeMap, get}
use Rattle.std.specs.Ordering.{nat_cmp}
use Rattle.std.specs.declared.alloc.Global.{Global}
use Rattle.ops_base.specs.declared.values.Sym.{Sym}
use Rattle.ops_base.specs.declared.elements.Class.{Class}
use Rattle.ops_grammar.specs.Grammar.{arranged}

-- one of the attributes has this number
abbrev pub has_number : ℕ → List Sym → Bool
has_number n attrs = list_any (λ a. a.0 == n) attrs

-- the places, counted from k on, of the classes that have an attribute with number n
abbrev pub places_from : ℕ → ℕ → List Class → List ℕ
places_from k n [] = []
places_from k n (c ∷ cs) = if has_number n c.attrs then k ∷ places_from (k + 1) n cs else places_from (k + 1) n cs

-- the places, in order, of the classes that have an attribute with number n
abbrev pub places_with : ℕ → List Class → List ℕ
places_with n classes = places_from 0 n classes

-- if nothing is noted, there are no places
abbrev pub places_of : Option (Vec ℕ Global) → List ℕ
places_of None = []
places_of (Some v) = v.items

-- what is noted under a number
abbrev pub noted : BTreeMap ℕ (Vec ℕ Global) → ℕ → List ℕ
noted having n = places_of (get nat_cmp having n)

-- for each number, the places of the classes that have an attribute with that number are noted
abbrev pub AreNoted : BTreeMap ℕ (Vec ℕ Global) → List Class → Type 0
AreNoted having classes = (n : ℕ) → noted having n ≡ places_with n classes

abbrev pub is_this : ℕ → Option ℕ → Bool
is_this place None = false
is_this place (Some k) = k == place

-- this place is the last
abbrev pub is_last : ℕ → List ℕ → Bool
is_last place places = is_this place (slice_get places (length places - 1))

-- the places, with this one added at the end if the number is that one and it isn't the last already
abbrev pub with_place : List ℕ → Bool → ℕ → List ℕ
with_place places is_it place = if is_it && not (is_last place places) then places ++ place ∷ [] else places

-- the places, without this one if the number is that one
abbrev pub without_place : List ℕ → Bool → ℕ → List ℕ
without_place places is_it place = if is_it then filter (λ k. not (k == place)) places else places

abbrev pub attrs_of : Option Class → List Sym
attrs_of None = []
attrs_of (Some c) = c.attrs

-- the attributes of the class at a place
abbrev pub attrs_at : ℕ → List Class → List Sym
attrs_at place classes = attrs_of (slice_get classes place)

abbrev pub is_vector_class : Option Class → Bool
is_vector_class None = false
is_vector_class (Some c) = c.vector

-- the class at a place has a vector attribute
abbrev pub is_vector_at : List Class → ℕ → Bool
is_vector_at classes place = is_vector_class (slice_get classes place)

-- a class with this attribute as its vector attribute
abbrev pub with_last : Sym → Class → Class
with_last name c = record c { attrs = arranged (name ∷ []) c.attrs; vector = true }

abbrev pub with_last_at : Sym → ℕ → Option Class → List Class → List Class
with_last_at name place None classes = classes
with_last_at name place (Some c) classes = slice_set classes place (with_last name c)

-- the class at a place has this attribute as its vector attribute
abbrev pub arranged_at : Sym → ℕ → List Class → List Class
arranged_at name place classes = with_last_at name place (slice_get classes place) classes

-- the same for each of the places
abbrev pub arranged_at_all : Sym → List ℕ → List Class → List Class
arranged_at_all name [] classes = classes
arranged_at_all name (k ∷ ks) classes = arranged_at_all name ks (arranged_at name k classes)
