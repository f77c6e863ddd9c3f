-- Variables by what binds them, and by the values that they have at a token.
use Rattle.std.proofs.Common.{◌≡◌, ℕ, suc, ◌<◌, Bool, true, false, cond, ◌==◌, List, [], ◌∷◌, ◌++◌, map, fold, Option, Some, None, option_map, slice_index, refl, arith}
use Rattle.std.specs.Bool.{MatchBool}
use Rattle.ops_base.specs.declared.values.Value.{Value}
use Rattle.ops_base.specs.declared.conditions.Operand.{Operand}
use Rattle.ops_base.specs.declared.conditions.Operand.TheVariants.{Constant, OneOf, Variable}
use Rattle.ops_base.specs.declared.conditions.Test.{Test}
use Rattle.ops_base.specs.declared.conditions.Condition.{Condition}
use Rattle.ops_base.specs.declared.conditions.Part.{Part}
use Rattle.ops_base.specs.declared.conditions.Part.TheVariants.{One, Group}
use Rattle.ops_base.specs.declared.matching.Binding.{Binding}
use Rattle.ops_base.specs.Matching.{value_of}
use Rattle.net_base.specs.declared.normal.Origin.{Origin}
use Rattle.net_base.specs.declared.normal.Binder.{Binder}
use Rattle.net_base.specs.Normal.{origin_of, AreBelow, binders_with, binders_after}
use Rattle.net_base.specs.Tokens.{Elements, field_in}

-- the value at an origin, where the token names the element of each place
abbrev pub origin_value : Elements → List ℕ → Origin → Value
origin_value elements t o = field_in (elements (slice_index t o.place)) o.field

abbrev pub binding_of : Elements → List ℕ → Binder → Binding
binding_of elements t b = record { variable = b.variable; value = origin_value elements t b.origin }

-- the bindings that the binders have at a token
abbrev pub bindings_at : Elements → List ℕ → List Binder → List Binding
bindings_at elements t bs = map (binding_of elements t) bs

abbrev found_origin : ℕ → Option Origin → Binder → Option Origin
found_origin v found b = cond (b.variable == v) (Some b.origin) found

abbrev found_value : ℕ → Option Value → Binding → Option Value
found_value v found b = cond (b.variable == v) (Some b.value) found

value_from : (el : Elements) (t : List ℕ) (v : ℕ) (bs : List Binder) (start : Option Origin)
    → fold (found_value v) (option_map (origin_value el t) start) (bindings_at el t bs) ≡ option_map (origin_value el t) (fold (found_origin v) start bs)
value_from el t v [] start = refl
value_from el t v (b ∷ bs) start = by_test (λ s. value_from el t v bs s) (b.variable == v)
  where
    by_test : ((s : Option Origin) → fold (found_value v) (option_map (origin_value el t) s) (bindings_at el t bs) ≡ option_map (origin_value el t) (fold (found_origin v) s bs)) → (c : Bool)
        → fold (found_value v) (cond c (Some (origin_value el t b.origin)) (option_map (origin_value el t) start)) (bindings_at el t bs) ≡ option_map (origin_value el t) (fold (found_origin v) (cond c (Some b.origin) start) bs)
    by_test ih true = ih (Some b.origin)
    by_test ih false = ih start

-- a variable's value is that at its origin
pub value_is : (el : Elements) (t : List ℕ) (v : ℕ) (bs : List Binder) → value_of (bindings_at el t bs) v ≡ option_map (origin_value el t) (origin_of bs v)
value_is el t v bs = value_from el t v bs None

-- ---- what is bound

-- the operand compares with no variable, or with one that is bound
abbrev pub IsBound : List Binder → Operand → Type 0
IsBound bs (Constant c) = Unit {0}
IsBound bs (OneOf cs) = Unit {0}
IsBound bs (Variable v) = (o : Origin) × (origin_of bs v ≡ Some o)

abbrev pub at_place : ℕ → Test → Origin
at_place place t = record { place = place; field = t.field }

-- each test that does not bind compares with what is bound before it
abbrev pub AreBound : ℕ → List Test → List Binder → Type 0
AreBound place [] bs = Unit {0}
AreBound place (t ∷ ts) bs =
    MatchBool t.binds (AreBound place ts (binders_with bs t.operand (at_place place t))) (IsBound bs t.operand × AreBound place ts bs)

abbrev pub MembersBound : ℕ → List Condition → List Binder → Type 0
MembersBound place [] bs = Unit {0}
MembersBound place (c ∷ cs) bs = AreBound place c.tests bs × MembersBound (suc place) cs (binders_after place c.tests bs)

abbrev pub HaveBound : ℕ → List Part → List Binder → Type 0
HaveBound place [] bs = Unit {0}
HaveBound place (One c ∷ ps) bs =
    AreBound place c.tests bs × MatchBool c.negated (HaveBound place ps bs) (HaveBound (suc place) ps (binders_after place c.tests bs))
HaveBound place (Group cs ∷ ps) bs = MembersBound place cs bs × HaveBound place ps bs

-- ---- where binders look

pub below_up : (place : ℕ) (bs : List Binder) → AreBelow place bs → AreBelow (suc place) bs
below_up place [] h = tt
below_up place (b ∷ bs) h = (let lt = h.0 in omega arith, below_up place bs h.1)

below_push : (place : ℕ) (bs : List Binder) (b : Binder) → AreBelow place bs → b.origin.place < place → AreBelow place (bs ++ b ∷ [])
below_push place [] b h lt = (lt, tt)
below_push place (c ∷ bs) b h lt = (h.0, below_push place bs b h.1 lt)

pub below_with : (place f : ℕ) (bs : List Binder) (o : Operand) → AreBelow (suc place) bs → AreBelow (suc place) (binders_with bs o (record { place = place; field = f }))
below_with place f bs (Constant c) h = h
below_with place f bs (OneOf cs) h = h
below_with place f bs (Variable v) h = below_push (suc place) bs (record { variable = v; origin = record { place = place; field = f } }) h (omega arith)

pub below_after : (place : ℕ) (ts : List Test) (bs : List Binder) → AreBelow (suc place) bs → AreBelow (suc place) (binders_after place ts bs)
below_after place [] bs h = h
below_after place (t ∷ ts) bs h = by_binds (λ cs h. below_after place ts cs h) t.binds
  where
    by_binds : ((cs : List Binder) → AreBelow (suc place) cs → AreBelow (suc place) (binders_after place ts cs)) → (b : Bool) → AreBelow (suc place) (cond b (binders_after place ts (binders_with bs t.operand (at_place place t))) (binders_after place ts bs))
    by_binds ih true = ih (binders_with bs t.operand (at_place place t)) (below_with place t.field bs t.operand h)
    by_binds ih false = ih bs h
