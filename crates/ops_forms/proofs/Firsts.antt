-- Where the first item that passes a test stands, in a list that grows at its end.
use Rattle.std.proofs.Common.{◌≡◌, ℕ, suc, ◌+◌, nat_lt, ◌||◌, Bool, true, false, cond, not, List, [], ◌∷◌, ◌++◌, length, Option, Some, None, refl, ap, sym, ◌∙◌, arith, position, is_some, option_map}
use Prim.Native.Nat.compare
use Rattle.std.proofs.lemmas.Bool.Decides.{nat_tests}
use Rattle.std.specs.List.{list_any, position_or_len}
use Rattle.ops_forms.specs.Firsts.{or_else}

suc_lt : (n l : ℕ) → nat_lt (suc n) (suc l) ≡ nat_lt n l
suc_lt n l = rw (compare.suc-suc (suc n) l) refl

pub position-cons : {X : Type 0} (p : X → Bool) (x : X) (xs : List X) → position p (x ∷ xs) ≡ cond (p x) (Some 0) (option_map suc (position p xs))
position-cons p x xs = by (p x) (position_or_len p xs) (length xs)
  where
    by_test : (b : Bool) (n : ℕ) → cond b (Some (suc n)) None ≡ option_map suc (cond b (Some n) None)
    by_test true n = refl
    by_test false n = refl

    by : (b : Bool) (n l : ℕ) → cond (nat_lt (cond (not b) (1 + n) 0) (suc l)) (Some (cond (not b) (1 + n) 0)) None ≡ cond b (Some 0) (option_map suc (cond (nat_lt n l) (Some n) None))
    by true n l = let test : nat_lt 0 (suc l) ≡ true = grind (arith, nat_tests) in rw test refl
    by false n l = let more : 1 + n ≡ suc n = omega arith in rw (more, suc_lt n l) (by_test (nat_lt n l) n)

pub position_snoc : {X : Type 0} (p : X → Bool) (xs : List X) (x : X) → position p (xs ++ x ∷ []) ≡ or_else (position p xs) (p x) (length xs)
position_snoc p [] x = position-cons p x []
position_snoc p (y ∷ ys) x =
    position-cons p y (ys ++ x ∷ []) ∙ ap (λ o. cond (p y) (Some 0) (option_map suc o)) (position_snoc p ys x)
    ∙ by (p y) (position p ys) (p x) (length ys) ∙ ap (λ o. or_else o (p x) (suc (length ys))) (sym (position-cons p y ys))
  where
    by : (b : Bool) (o : Option ℕ) (c : Bool) (n : ℕ) → cond b (Some 0) (option_map suc (or_else o c n)) ≡ or_else (cond b (Some 0) (option_map suc o)) c (suc n)
    by true o c n = refl
    by false (Some k) c n = refl
    by false None true n = refl
    by false None false n = refl

pub list_any_position : {X : Type 0} (p : X → Bool) (xs : List X) → list_any p xs ≡ is_some (position p xs)
list_any_position p [] = refl
list_any_position p (y ∷ ys) =
    by (p y) (list_any p ys) (position p ys) (list_any_position p ys) ∙ ap is_some (sym (position-cons p y ys))
  where
    by : (b c : Bool) (o : Option ℕ) → c ≡ is_some o → (b || c) ≡ is_some (cond b (Some 0) (option_map suc o))
    by true c o e = refl
    by false c (Some k) e = e
    by false c None e = e
