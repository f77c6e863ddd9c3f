-- Parts of an effect with a property of what they leave if they do not end it, and tests of all items of a list.
use Rattle.std.proofs.Common.{◌≡◌, ℕ, List, [], ◌∷◌, Bool, true, Result, Ok, Err, IfOk, MatchResult, refl}
use Rattle.std.specs.List.{list_all}
use Rattle.std.proofs.lemmas.Bool.{and_parts, and_from}
use Rattle.ops_meaning.specs.Effects.{Effect, going_on, followed_by, outcome_as}

pub ok_behind : {E S T : Type 0} (P : S → Type 0) (Q : T → Type 0) (o : Result S E) (next : S → Result T E) → IfOk o P → ((s : S) → P s → IfOk (next s) Q) → IfOk (followed_by o next) Q
ok_behind P Q (Ok s) next p q = q s p
ok_behind P Q (Err e) next p q = tt

pub ok_on : {E S T : Type 0} (P : S → Type 0) (Q : T → Type 0) (bytes : List ℕ) (o : Result S E) (next : S → Effect E T) → IfOk o P → ((s : S) → P s → IfOk (next s).outcome Q) → IfOk (going_on bytes o next).outcome Q
ok_on P Q bytes (Ok s) next p q = q s p
ok_on P Q bytes (Err e) next p q = tt

pub ok_as : {E F S T : Type 0} (P : S → Type 0) (Q : T → Type 0) (left : S → T) (end : E → F) (o : Result S E) → IfOk o P → ((s : S) → P s → Q (left s)) → IfOk (outcome_as left end o) Q
ok_as P Q left end (Ok s) p q = q s p
ok_as P Q left end (Err e) p q = tt

pub ok_more : {E S : Type 0} (P Q : S → Type 0) (o : Result S E) → IfOk o P → ((s : S) → P s → Q s) → IfOk o Q
ok_more P Q (Ok s) p q = q s p
ok_more P Q (Err e) p q = tt

pub if_ok : {E S : Type 0} (P : S → Type 0) (R : E → Type 0) (o : Result S E) → MatchResult o P R → IfOk o P
if_ok P R (Ok s) p = p
if_ok P R (Err e) p = tt

pub ok_both : {E S : Type 0} (P Q : S → Type 0) (o : Result S E) → IfOk o P → IfOk o Q → IfOk o (λ s. P s × Q s)
ok_both P Q (Ok s) p q = (p, q)
ok_both P Q (Err e) p q = tt

pub all_such : {X : Type 0} (p q : X → Bool) → ((x : X) → p x ≡ true → q x ≡ true) → (xs : List X) → list_all p xs ≡ true → list_all q xs ≡ true
all_such p q f [] h = refl
all_such p q f (x ∷ xs) h =
    let parts = and_parts (p x) (list_all p xs) h in and_from (q x) (list_all q xs) (f x parts.0) (all_such p q f xs parts.1)
