-- What conditions put at variables, one after the other.
use Rattle.std.proofs.Common.{◌≡◌, ℕ, suc, ◌+◌, ◌<◌, List, [], ◌∷◌, ◌++◌, fold, ◌==◌, cond, Bool, true, false, Option, Some, None, refl, ap, sym, ◌∙◌, subst, length, get_or, take, drop, drop-cons, add-one, append_assoc}
use Rattle.std.proofs.Math.Seq.{take-suc}
use Rattle.std.proofs.lemmas.List.{append-nil}
use Rattle.std.proofs.lemmas.List.Sums.{fold-append}
use Rattle.std.proofs.lemmas.Grind.{flat_map-append}
use Rattle.std.specs.Option.{option_and_then, option_map_or}
use Rattle.ops_base.specs.declared.conditions.Operand.{Operand}
use Rattle.ops_base.specs.declared.conditions.Operand.TheVariants.{Constant, OneOf, Variable}
use Rattle.ops_base.specs.declared.conditions.Test.{Test}
use Rattle.ops_base.specs.declared.elements.Element.{Element}
use Rattle.ops_base.specs.declared.matching.Binding.{Binding}
use Rattle.ops_base.specs.declared.values.Value.{Value}
use Rattle.ops_base.specs.Matching.{value_of, bound_to, operand_holds, after_test, after_tests}
use Rattle.ops_base.specs.Values.{are_same}
use Rattle.ops_base.specs.WorkingMemory.{field_of}
use Rattle.why.specs.Bindings.{values_in}
use Rattle.why.specs.Checking.{variable_in, put_by, put_at, rest_after}

-- later bindings are looked at after earlier ones
pub value_of_joined : (xs ys : List Binding) (v : ℕ) → value_of (xs ++ ys) v ≡ fold (λ found b. cond (b.variable == v) (Some b.value) found) (value_of xs v) ys
value_of_joined xs ys v = fold-append (λ found b. cond (b.variable == v) (Some b.value) found) None xs ys

-- the rest after all values is the rest after the last ones, where the list begins with the first ones
pub rest_after_joined : (xs ys : List Binding) (bound : List Value) → rest_after (values_in (xs ++ ys)) bound ≡ option_and_then (λ r. rest_after (values_in ys) r) (rest_after (values_in xs) bound)
rest_after_joined [] ys bound = refl
rest_after_joined (x ∷ xs) ys [] = refl
rest_after_joined (x ∷ xs) ys (b ∷ bound) = by (rest_after_joined xs ys bound) (are_same b x.value)
  where
    by : rest_after (values_in (xs ++ ys)) bound ≡ option_and_then (λ r. rest_after (values_in ys) r) (rest_after (values_in xs) bound) → (s : Bool)
        → cond s (rest_after (values_in (xs ++ ys)) bound) None ≡ option_and_then (λ r. rest_after (values_in ys) r) (cond s (rest_after (values_in xs) bound) None)
    by ih true = ih
    by ih false = refl

-- a test that binds holds, and puts the value at its variable
pub bound_passes : (t : Test) (e : Element) (bs : List Binding) → t.binds ≡ true → after_test t e bs ≡ Some (bs ++ put_by e t)
bound_passes t e bs is =
    let P : Bool → Type 0 = λ b. cond b (Some (bound_to bs t.operand (field_of e t.field))) (cond (operand_holds t.pred (field_of e t.field) t.operand bs) (Some bs) None) ≡ Some (bs ++ put (cond b (variable_in t.operand) None)) in
    subst P (sym is) (ap Some (by t.operand))
  where
    put : Option ℕ → List Binding
    put o = option_map_or (λ v. record { variable = v; value = field_of e t.field } ∷ []) o []

    by : (o : Operand) → bound_to bs o (field_of e t.field) ≡ bs ++ put (variable_in o)
    by (Constant c) = sym (append-nil bs)
    by (OneOf cs) = sym (append-nil bs)
    by (Variable v) = refl

-- a test that does not bind puts nothing at a variable
pub tested_passes : (t : Test) (e : Element) (bs : List Binding) → t.binds ≡ false → after_test t e bs ≡ cond (operand_holds t.pred (field_of e t.field) t.operand bs) (Some (bs ++ put_by e t)) None
tested_passes t e bs is =
    let P : Bool → Type 0 = λ b. cond b (Some (bound_to bs t.operand (field_of e t.field))) (cond (operand_holds t.pred (field_of e t.field) t.operand bs) (Some bs) None) ≡ cond (operand_holds t.pred (field_of e t.field) t.operand bs) (Some (bs ++ put (cond b (variable_in t.operand) None))) None in
    subst P (sym is) (ap (λ w. cond (operand_holds t.pred (field_of e t.field) t.operand bs) (Some w) None) (sym (append-nil bs)))
  where
    put : Option ℕ → List Binding
    put o = option_map_or (λ v. record { variable = v; value = field_of e t.field } ∷ []) o []

-- one test more
pub after_one : (ts : List Test) (e : Element) (bs : List Binding) (i : ℕ) (d : Test) → i < length ts → after_tests (drop i ts) e bs ≡ option_and_then (λ b. after_tests (drop (i + 1) ts) e b) (after_test (get_or ts i d) e bs)
after_one ts e bs i d lt =
    let P : ℕ → Type 0 = λ n. after_tests (drop i ts) e bs ≡ option_and_then (λ b. after_tests (drop n ts) e b) (after_test (get_or ts i d) e bs) in
    let Q : List Test → Type 0 = λ w. after_tests w e bs ≡ option_and_then (λ b. after_tests (drop (suc i) ts) e b) (after_test (get_or ts i d) e bs) in
    subst P (sym (add-one i)) (subst Q (sym (drop-cons ts i d lt)) refl)

pub put_one : (ts : List Test) (e : Element) (i : ℕ) (d : Test) → i < length ts → put_at (take (i + 1) ts) e ≡ put_at (take i ts) e ++ put_by e (get_or ts i d)
put_one ts e i d lt =
    ap (λ n. put_at (take n ts) e) (add-one i)
    ∙ ap (λ w. put_at w e) (take-suc ts i d lt)
    ∙ flat_map-append (put_by e) (take i ts) (get_or ts i d ∷ [])
    ∙ ap (λ w. put_at (take i ts) e ++ w) (append-nil (put_by e (get_or ts i d)))
