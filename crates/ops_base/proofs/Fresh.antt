-- The next fresh atom: what a search finds, and what one more spelling leaves.
use Rattle.std.proofs.Common.{◌≡◌, ℕ, zero, suc, ◌+◌, ◌-◌, ◌<◌, ◌≤◌, Bool, true, false, cond, List, [], ◌∷◌, map, ◌||◌, Some, refl, sym, ap, ◌∙◌, arith, slice_get, ◌++◌}
use Rattle.std.proofs.lemmas.Bool.{false≢true}
use Rattle.std.proofs.lemmas.Slice.Eq.{bytes_eq-Decides}
use Rattle.std.proofs.lemmas.List.Folds.{list_any_at}
use Rattle.std.proofs.lemmas.Map.Keys.{any_passes_from_place}
use Rattle.std.proofs.lemmas.Map.Views.{Contains-from_any}
use Rattle.std.specs.Prelude.{bytes_eq, codes}
use Rattle.std.specs.List.{list_any, Contains}
use Rattle.ops_base.specs.Names.{AreDistinct, Spellings, fresh_spelling, is_held, first_free, next_fresh, IsNextFresh}
use Rattle.ops_base.proofs.Held.{IsAbsent, distinct-push, kept-push}

-- a test of what the keys spell
pub any-map : {V W : Type 0} (f : V → W) (test : W → Bool) (keys : List V) → list_any test (map f keys) ≡ list_any (λ v. test (f v)) keys
any-map f test [] = refl
any-map f test (k ∷ keys) = ap (λ b. test (f k) || b) (any-map f test keys)

-- ---- the search

-- the search goes on after a number whose spelling is held
search_goes_on : (more left : ℕ) (held : List (List ℕ)) (n : ℕ) → more ≡ suc left → is_held held (fresh_spelling n) ≡ true → first_free more held n ≡ first_free left held (suc n)
search_goes_on zero left held n e test = absurd (omega (arith, e))
search_goes_on (suc more) left held n e test =
    let same : more ≡ left = omega (arith, e) in
    ap (λ b. cond b (first_free more held (suc n)) n) test ∙ ap (λ k. first_free k held (suc n)) same

-- and stops at one whose spelling is not
search_stops : (more : ℕ) (held : List (List ℕ)) (n : ℕ) → 0 < more → is_held held (fresh_spelling n) ≡ false → first_free more held n ≡ n
search_stops zero held n some test = absurd (omega (arith, some))
search_stops (suc more) held n some test = ap (λ b. cond b (first_free more held (suc n)) n) test

-- the same after the number n, up to a last one
pub goes_on_below : (last : ℕ) (held : List (List ℕ)) (n : ℕ) → n < last → is_held held (fresh_spelling (n + 1)) ≡ true → first_free (last - n) held (suc n) ≡ first_free (last - (n + 1)) held (suc (n + 1))
goes_on_below last held n below test =
    let left : last - n ≡ suc (last - (n + 1)) = omega (arith, below) in
    let next : n + 1 ≡ suc n = omega arith in
    ap (first_free (last - n) held) (sym next) ∙ search_goes_on (last - n) (last - (n + 1)) held (n + 1) left test

pub stops_below : (last : ℕ) (held : List (List ℕ)) (n : ℕ) → n < last → is_held held (fresh_spelling (n + 1)) ≡ false → first_free (last - n) held (suc n) ≡ n + 1
stops_below last held n below test =
    let some : 0 < last - n = omega (arith, below) in
    let next : n + 1 ≡ suc n = omega arith in
    ap (first_free (last - n) held) (sym next) ∙ search_stops (last - n) held (n + 1) some test

not_before : (more : ℕ) (held : List (List ℕ)) (n : ℕ) → n ≤ first_free more held n
not_before zero held n = omega arith
not_before (suc more) held n = by (is_held held (fresh_spelling n)) (first_free more held (suc n)) (not_before more held (suc n))
  where
    by : (b : Bool) (found : ℕ) → suc n ≤ found → n ≤ cond b found n
    by true found le = omega arith
    by false found le = omega arith

-- what the search went past is held
passed : (more : ℕ) (held : List (List ℕ)) (n m : ℕ) → n ≤ m → m < first_free more held n → is_held held (fresh_spelling m) ≡ true
passed zero held n m above below = absurd (omega arith)
passed (suc more) held n m above below =
    by (is_held held (fresh_spelling n)) (first_free more held (suc n)) refl below (λ next lt. passed more held (suc n) m next lt)
  where
    by : (b : Bool) (found : ℕ) → is_held held (fresh_spelling n) ≡ b → m < cond b found n → (suc n ≤ m → m < found → is_held held (fresh_spelling m) ≡ true) → is_held held (fresh_spelling m) ≡ true
    by false found is lt rest = absurd (omega arith)
    by true found is lt rest = at (m - n) refl
      where
        at : (k : ℕ) → m - n ≡ k → is_held held (fresh_spelling m) ≡ true
        at zero e =
            let same : n ≡ m = omega arith in ap (λ i. is_held held (fresh_spelling i)) (sym same) ∙ is
        at (suc k) e = rest (omega arith) lt

-- ---- what is held by the test

-- a spelling that no test finds is not held
pub absent_from_test : (held : List (List ℕ)) (s : List ℕ) → is_held held s ≡ false → IsAbsent held s
absent_from_test held s none i h =
    false≢true (sym none ∙ any_passes_from_place (λ t. bytes_eq s t) held i s h ((bytes_eq-Decides s s).1 refl))

not_contained : (held : List (List ℕ)) (s : List ℕ) → is_held held s ≡ false → ¬ Contains held s
not_contained held s none c =
    false≢true (sym none ∙ list_any_at (λ t. bytes_eq s t) held c.0 s c.1 ((bytes_eq-Decides s _).1 (sym c.2)))

contained : (held : List (List ℕ)) (s : List ℕ) → is_held held s ≡ true → Contains held s
contained held s some = Contains-from_any {eq = bytes_eq} (λ x y. (bytes_eq-Decides x y).0) s held some

-- what the search finds is the next
pub next_from_search : (names : Spellings) (n : ℕ) → n ≡ next_fresh names → is_held names.held (fresh_spelling n) ≡ false → IsNextFresh names n
next_from_search names n is none = record {
  above = omega (arith, not_before (18446744073709551615 - names.made) names.held (suc names.made), is);
  free = not_contained names.held (fresh_spelling n) none;
  others = λ m above below. contained names.held (fresh_spelling m)
      (passed (18446744073709551615 - names.made) names.held (suc names.made) m (omega arith) (omega (arith, is)));
}

-- one more spelling keeps them distinct, and nil where it is
pub fresh_keeps : (held all : List (List ℕ)) (s : List ℕ) → all ≡ held ++ s ∷ [] → is_held held s ≡ false → AreDistinct held × (slice_get held 0 ≡ Some (codes "nil")) → AreDistinct all × (slice_get all 0 ≡ Some (codes "nil"))
fresh_keeps held all s e none h =
    rw e (distinct-push held s h.0 (absent_from_test held s none), kept-push held s (codes "nil") 0 h.1)
