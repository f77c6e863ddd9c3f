-- The alpha tests of a condition are the same whatever stands before it.
use Rattle.std.proofs.Common.{◌≡◌, ℕ, Bool, true, false, cond, ◌==◌, List, [], ◌∷◌, ◌++◌, map, fold, Option, Some, None, option_map, refl, sym, ap, ap₂, ◌∙◌, arith, append-nil, append_assoc}
use Rattle.std.proofs.lemmas.Bool.{eq-eqb, ne_eqb}
use Rattle.std.proofs.lemmas.List.Sums.{fold-append}
use Rattle.std.specs.List.{cons_option}
use Rattle.ops_base.specs.declared.conditions.Operand.{Operand}
use Rattle.ops_base.specs.declared.conditions.Operand.TheVariants.{Constant, OneOf, Variable}
use Rattle.ops_base.specs.declared.conditions.Test.{Test}
use Rattle.net_base.specs.declared.normal.Origin.{Origin}
use Rattle.net_base.specs.declared.normal.Binder.{Binder}
use Rattle.net_base.specs.declared.normal.NormalOperand.{NormalOperand}
use Rattle.net_base.specs.declared.normal.NormalOperand.TheVariants as normal
use Rattle.net_base.specs.declared.normal.NormalTest.{NormalTest}
use Rattle.net_base.specs.Normal.{AreBelow, binders_with, normal_operand, normal_test, normal_tests, own_operand, alpha_tests}
use Rattle.net_base.proofs.Variables.{at_place}

-- a variable that a test before in the condition binds, and the field
record Own : Type 0 where
  variable : ℕ
  field : ℕ

abbrev binder_at : ℕ → Own → Binder
binder_at place x = record { variable = x.variable; origin = record { place = place; field = x.field } }

abbrev found_origin : ℕ → Option Origin → Binder → Option Origin
found_origin v found b = cond (b.variable == v) (Some b.origin) found

abbrev found_field : ℕ → Option ℕ → Own → Option ℕ
found_field v found x = cond (x.variable == v) (Some x.field) found

abbrev field_of_own : List Own → ℕ → Option ℕ
field_of_own own v = fold (found_field v) None own

abbrev own_with : List Own → Operand → ℕ → List Own
own_with own (Constant c) f = own
own_with own (OneOf cs) f = own
own_with own (Variable v) f = own ++ record { variable = v; field = f } ∷ []

abbrev operand_by_own : List Own → Operand → Option Operand
operand_by_own own (Constant c) = Some (Constant c)
operand_by_own own (OneOf cs) = Some (OneOf cs)
operand_by_own own (Variable v) = option_map (λ f. Variable f) (field_of_own own v)

abbrev tests_by_own : List Test → List Own → List Test
tests_by_own [] own = []
tests_by_own (t ∷ ts) own =
    cond t.binds (tests_by_own ts (own_with own t.operand t.field))
    (cons_option (option_map (λ o. record { field = t.field; pred = t.pred; operand = o; binds = false }) (operand_by_own own t.operand)) (tests_by_own ts own))

-- the own operand of what is normal, where there is one
abbrev own_of : ℕ → Option NormalOperand → Option Operand
own_of place None = None
own_of place (Some o) = own_operand place o

abbrev own_of_origin : ℕ → Option Origin → Option Operand
own_of_origin place o = own_of place (option_map (λ p. normal.Bound p) o)

-- what is bound outside is not the condition's own
outer_none : (place v : ℕ) (bs : List Binder) (start : Option Origin) → AreBelow place bs → own_of_origin place start ≡ None → own_of_origin place (fold (found_origin v) start bs) ≡ None
outer_none place v [] start h e = e
outer_none place v (b ∷ bs) start h e = by_test (λ s q. outer_none place v bs s h.1 q) (b.variable == v)
  where
    other : (b.origin.place == place) ≡ false
    other = let lt = h.0 in ne_eqb b.origin.place place (λ q. absurd (omega arith))

    by_test : ((s : Option Origin) → own_of_origin place s ≡ None → own_of_origin place (fold (found_origin v) s bs) ≡ None) → (c : Bool) → own_of_origin place (fold (found_origin v) (cond c (Some b.origin) start) bs) ≡ None
    by_test ih true = ih (Some b.origin) (ap (λ c. cond c (Some (Variable b.origin.field)) None) other)
    by_test ih false = ih start e

own_is : (place v : ℕ) (own : List Own) (start : Option Origin) (first : Option ℕ) → own_of_origin place start ≡ option_map (λ f. Variable f) first
    → own_of_origin place (fold (found_origin v) start (map (binder_at place) own)) ≡ option_map (λ f. Variable f) (fold (found_field v) first own)
own_is place v [] start first e = e
own_is place v (x ∷ own) start first e = by_test (λ s f q. own_is place v own s f q) (x.variable == v)
  where
    by_test : ((s : Option Origin) (f : Option ℕ) → own_of_origin place s ≡ option_map (λ f. Variable f) f → own_of_origin place (fold (found_origin v) s (map (binder_at place) own)) ≡ option_map (λ f. Variable f) (fold (found_field v) f own)) → (c : Bool)
        → own_of_origin place (fold (found_origin v) (cond c (Some (binder_at place x).origin) start) (map (binder_at place) own)) ≡ option_map (λ f. Variable f) (fold (found_field v) (cond c (Some x.field) first) own)
    by_test ih true = ih (Some (binder_at place x).origin) (Some x.field) (ap (λ c. cond c (Some (Variable x.field)) None) (eq-eqb place place refl))
    by_test ih false = ih start first e

operand_is : (place : ℕ) (o : Operand) (own : List Own) (bs : List Binder) → AreBelow place bs → own_of place (normal_operand (bs ++ map (binder_at place) own) o) ≡ operand_by_own own o
operand_is place (Constant c) own bs h = refl
operand_is place (OneOf cs) own bs h = refl
operand_is place (Variable v) own bs h =
    ap (own_of_origin place) (fold-append (found_origin v) None bs (map (binder_at place) own))
    ∙ own_is place v own (fold (found_origin v) None bs) None (outer_none place v bs None h refl)

map_push : {A B : Type 0} (f : A → B) (xs : List A) (x : A) → map f (xs ++ x ∷ []) ≡ map f xs ++ f x ∷ []
map_push f [] x = refl
map_push f (y ∷ xs) x = ap (λ r. f y ∷ r) (map_push f xs x)

with_is : (place f : ℕ) (o : Operand) (own : List Own) (bs : List Binder) → binders_with (bs ++ map (binder_at place) own) o (record { place = place; field = f }) ≡ bs ++ map (binder_at place) (own_with own o f)
with_is place f (Constant c) own bs = refl
with_is place f (OneOf cs) own bs = refl
with_is place f (Variable v) own bs =
    append_assoc bs (map (binder_at place) own) (record { variable = v; origin = record { place = place; field = f } } ∷ [])
    ∙ ap (λ r. bs ++ r) (sym (map_push (binder_at place) own (record { variable = v; field = f })))

cons_is : (place : ℕ) (t : Test) (o : Option NormalOperand) (ns : List NormalTest)
    → alpha_tests place (cons_option (normal_test t o) ns) ≡ cons_option (option_map (λ p. record { field = t.field; pred = t.pred; operand = p; binds = false }) (own_of place o)) (alpha_tests place ns)
cons_is place t None ns = refl
cons_is place t (Some s) ns = refl

tests_are : (place : ℕ) (ts : List Test) (own : List Own) (bs : List Binder) → AreBelow place bs → alpha_tests place (normal_tests place ts (bs ++ map (binder_at place) own)) ≡ tests_by_own ts own
tests_are place [] own bs h = refl
tests_are place (t ∷ ts) own bs h = by_binds (λ o. tests_are place ts o bs h) t.binds
  where
    by_binds : ((o : List Own) → alpha_tests place (normal_tests place ts (bs ++ map (binder_at place) o)) ≡ tests_by_own ts o) → (b : Bool)
        → alpha_tests place (cond b (normal_tests place ts (binders_with (bs ++ map (binder_at place) own) t.operand (at_place place t))) (cons_option (normal_test t (normal_operand (bs ++ map (binder_at place) own) t.operand)) (normal_tests place ts (bs ++ map (binder_at place) own))))
        ≡ cond b (tests_by_own ts (own_with own t.operand t.field)) (cons_option (option_map (λ o. record { field = t.field; pred = t.pred; operand = o; binds = false }) (operand_by_own own t.operand)) (tests_by_own ts own))
    by_binds ih true = ap (λ z. alpha_tests place (normal_tests place ts z)) (with_is place t.field t.operand own bs) ∙ ih (own_with own t.operand t.field)
    by_binds ih false =
        cons_is place t (normal_operand (bs ++ map (binder_at place) own) t.operand) (normal_tests place ts (bs ++ map (binder_at place) own))
        ∙ ap₂ (λ o as'. cons_option (option_map (λ p. record { field = t.field; pred = t.pred; operand = p; binds = false }) o) as') (operand_is place t.operand own bs h) (ih own)

pub alpha_alone : (place : ℕ) (ts : List Test) (bs : List Binder) → AreBelow place bs → alpha_tests place (normal_tests place ts bs) ≡ alpha_tests 0 (normal_tests 0 ts [])
alpha_alone place ts bs h =
    ap (λ z. alpha_tests place (normal_tests place ts z)) (sym (append-nil bs))
    ∙ (tests_are place ts [] bs h ∙ sym (tests_are 0 ts [] [] tt))
