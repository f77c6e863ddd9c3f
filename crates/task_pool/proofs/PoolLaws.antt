-- Laws of lists of a pool's entries.
use Rattle.std.proofs.Common.{◌≡◌, ℕ, ◌+◌, List, [], ◌∷◌, ◌++◌, length, eq-eqb, ne_eqb, ◌≢◌, Bool, true, false, sum_by, refl, sym, ap, ◌∙◌, subst, arith}
use Rattle.std.specs.Prelude.{◌==◌, if◌then◌else◌}
use Rattle.std.proofs.lemmas.List.Sums.{sum_by-append, sum_by-cons}
use mathlib.Core.Logic.{dite}
use native.Mathlib.Decide.{ℕ_discrete}
use Rattle.net_base.specs.declared.tasks.Task.{Task}
use Rattle.task_pool.specs.declared.pool.PoolEntry.{PoolEntry}
use Rattle.task_pool.specs.declared.pool.PoolEntry.TheVariants.{Take, Finish, Stop}
use Rattle.task_pool.specs.Pools.{PoolState, is_in, without, rest, after_entry, MayCome, after, IsRun, begun, played, holds_after, holds_from, taken_in, given_in, BalanceLaw, QuietLaw, HoldersLaw}

pub after-append : (p : PoolState) (es fs : List PoolEntry) → after p (es ++ fs) ≡ after (after p es) fs
after-append p [] fs = refl
after-append p (e ∷ es) fs = after-append (after_entry p e) es fs

pub run-append : (p : PoolState) (es fs : List PoolEntry) → IsRun p es → IsRun (after p es) fs → IsRun p (es ++ fs)
run-append p [] fs a b = b
run-append p (e ∷ es) fs a b = (a.0, run-append (after_entry p e) es fs a.1 b)

pub run-rest : (p : PoolState) (es fs : List PoolEntry) → IsRun p (es ++ fs) → IsRun (after p es) fs
run-rest p [] fs a = a
run-rest p (e ∷ es) fs a = run-rest (after_entry p e) es fs a.1

-- ---- what was taken and what waits

pub balance : (h : Task → ℕ) (p : PoolState) (es : List PoolEntry) → IsRun p es → sum_by h (taken_in es) + sum_by h (after p es).queue ≡ sum_by h p.queue + sum_by h (given_in es)
balance h p [] run = omega arith
balance h p (Take w t ∷ es) run =
    let i = balance h (after_entry p (Take w t)) es run.1 in
    let a = ap (sum_by h) run.0.0 in
    let b = sum_by-cons h t (rest p.queue) in
    let c = sum_by-cons h t (taken_in es) in omega (arith, i, a, b, c)
balance h p (Finish w cs ∷ es) run =
    let i = balance h (after_entry p (Finish w cs)) es run.1 in
    let a = sum_by-append h p.queue cs in
    let b = sum_by-append h cs (given_in es) in omega (arith, i, a, b)
balance h p (Stop w ∷ es) run = balance h (after_entry p (Stop w)) es run.1

pub balance_law : BalanceLaw
balance_law first es run h =
    let a = balance h (begun first) es run in
    let b = sum_by-append h (taken_in es) (played first es).queue in
    let c = sum_by-append h first (given_in es) in omega (arith, a, b, c)

-- ---- a quiet pool

no_cons : {t : Task} {l : List Task} → [] ≡ t ∷ l → ⊥
no_cons q = cc

none_in : (w : ℕ) (busy : List ℕ) → busy ≡ [] → is_in w busy ≡ true → ⊥
none_in w busy e is = let z = sym (ap (is_in w) e) ∙ is in cc

pub quiet_ends : (p : PoolState) (es : List PoolEntry) → p.queue ≡ [] → p.busy ≡ [] → IsRun p es → es ≡ []
quiet_ends p [] q b run = refl
quiet_ends p (Take w t ∷ es) q b run = absurd (no_cons (sym q ∙ run.0.0))
quiet_ends p (Finish w cs ∷ es) q b run = absurd (none_in w p.busy b run.0)
quiet_ends p (Stop w ∷ es) q b run = absurd (none_in w p.busy b run.0)

pub quiet_law : QuietLaw
quiet_law first es more quiet run = quiet_ends (played first es) more quiet.queue quiet.busy (run-rest (begun first) es more run)

-- ---- who holds a task

abbrev AreDifferent : List ℕ → Type 0
AreDifferent [] = Unit {0}
AreDifferent (x ∷ xs) = (is_in x xs ≡ false) × AreDifferent xs

not_both : {b : Bool} → b ≡ true → b ≡ false → ⊥
not_both p q = let z = sym p ∙ q in cc

pub fewer : (w : ℕ) (xs : List ℕ) → is_in w xs ≡ true → length (without w xs) + 1 ≡ length xs
fewer w [] a = absurd (let z = a in cc)
fewer w (y ∷ ys) a = dite (ℕ_discrete y w)
    (λ (e : y ≡ w). rw (eq-eqb y w e) (omega arith))
    (λ (n : y ≢ w). rw (ne_eqb y w n) (let i = fewer w ys (subst (λ b. (if b then true else is_in w ys) ≡ true) (ne_eqb y w n) a) in omega (arith, i)))

-- another worker is in as before
still : (w x : ℕ) (xs : List ℕ) → x ≢ w → is_in w (without x xs) ≡ is_in w xs
still w x [] ne = refl
still w x (y ∷ ys) ne = dite (ℕ_discrete y x)
    (λ (e : y ≡ x). rw (eq-eqb y x e) (rw (ne_eqb y w (λ q. ne (sym e ∙ q))) refl))
    (λ (n : y ≢ x). rw (ne_eqb y x n) (ap (λ b. if y == w then true else b) (still w x ys ne)))

gone : (x : ℕ) (xs : List ℕ) → AreDifferent xs → is_in x (without x xs) ≡ false
gone x [] d = refl
gone x (y ∷ ys) d = dite (ℕ_discrete y x)
    (λ (e : y ≡ x). rw (eq-eqb y x e) (subst (λ z. is_in z ys ≡ false) e d.0))
    (λ (n : y ≢ x). rw (ne_eqb y x n) (rw (ne_eqb y x n) (gone x ys d.1)))

-- whoever was not in is not in
less : (w x : ℕ) (xs : List ℕ) → is_in w xs ≡ false → is_in w (without x xs) ≡ false
less w x [] a = refl
less w x (y ∷ ys) a = dite (ℕ_discrete y w)
    (λ (e : y ≡ w). absurd (not_both (ap (λ b. if b then true else is_in w ys) (eq-eqb y w e)) a))
    (λ (n : y ≢ w).
    let b : is_in w ys ≡ false = subst (λ c. (if c then true else is_in w ys) ≡ false) (ne_eqb y w n) a in
    dite (ℕ_discrete y x)
    (λ (e : y ≡ x). rw (eq-eqb y x e) b)
    (λ (m : y ≢ x). rw (ne_eqb y x m) (rw (ne_eqb y w n) (less w x ys b))))

different-without : (x : ℕ) (xs : List ℕ) → AreDifferent xs → AreDifferent (without x xs)
different-without x [] d = tt
different-without x (y ∷ ys) d = dite (ℕ_discrete y x)
    (λ (e : y ≡ x). rw (eq-eqb y x e) d.1)
    (λ (n : y ≢ x). rw (ne_eqb y x n) (less y x ys d.0, different-without x ys d.1))

different-after : (p : PoolState) (e : PoolEntry) → MayCome p e → AreDifferent p.busy → AreDifferent (after_entry p e).busy
different-after p (Take w t) may d = (may.1, d)
different-after p (Finish w cs) may d = different-without w p.busy d
different-after p (Stop w) may d = different-without w p.busy d

left_out : (w q : ℕ) (xs : List ℕ) → AreDifferent xs → is_in w (without q xs) ≡ (if q == w then false else is_in w xs)
left_out w q xs d = dite (ℕ_discrete q w)
    (λ (e : q ≡ w). rw (eq-eqb q w e) (subst (λ z. is_in w (without z xs) ≡ false) (sym e) (gone w xs d)))
    (λ (n : q ≢ w). rw (ne_eqb q w n) (still w q xs n))

holds_one : (w : ℕ) (p : PoolState) (e : PoolEntry) → AreDifferent p.busy → is_in w (after_entry p e).busy ≡ holds_after w (is_in w p.busy) e
holds_one w p (Take q t) d = refl
holds_one w p (Finish q cs) d = left_out w q p.busy d
holds_one w p (Stop q) d = left_out w q p.busy d

holds_all : (w : ℕ) (p : PoolState) (es : List PoolEntry) → IsRun p es → AreDifferent p.busy → is_in w (after p es).busy ≡ holds_from w (is_in w p.busy) es
holds_all w p [] run d = refl
holds_all w p (e ∷ es) run d = holds_all w (after_entry p e) es run.1 (different-after p e run.0 d) ∙ ap (λ b. holds_from w b es) (holds_one w p e d)

pub holders_law : HoldersLaw
holders_law first es run w = holds_all w (begun first) es run tt
