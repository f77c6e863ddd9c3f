-- Weights of the log, by cell and by pass.
use Rattle.std.proofs.Common.{◌≡◌, ℕ, ◌+◌, ◌<◌, ◌≤◌, ◌≢◌, eq-eqb, ne_eqb, List, [], ◌∷◌, ◌++◌, length, map, sum_by, refl, ap, ◌∙◌, suc, zero, arith}
use Rattle.std.specs.Prelude.{if◌then◌else◌, ◌==◌, Option}
use Rattle.std.specs.List.{All}
use Rattle.std.proofs.lemmas.List.Sums.{sum_by-append, sum_by-cons}
use Rattle.std.proofs.lemmas.List.Elements.{All-head, All-tail}
use mathlib.Core.Logic.{dite}
use native.Mathlib.Decide.{ℕ_discrete}
use mathlib.Core.Option.{some}
use lib.ListN.{get_elem?}
use Rattle.net_base.specs.declared.tasks.Task.{Task}
use Rattle.token_line.specs.declared.line.Entry.{Entry}
use Rattle.step_core.specs.Phases.{tasks_of, children_of, entries_of}
use Rattle.step_core.proofs.Adding.{tasks_weight, children_weight}
use Rattle.turn_table.specs.declared.views.Row.{Row as ARow}
use Rattle.turn_table.specs.Log.{IsRow, given_to, weigh}
use Rattle.steal_engine.specs.Sums.{children_in, tasks_in}
use Rattle.steal_engine.specs.declared.rows.Row.{Row}
use Rattle.steal_engine.specs.Rows.{entries, rounds_of}
use Rattle.steal_engine.specs.Logged.{seen_row}

weigh-append : {A : Type 0} (h : A → ℕ) (xs ys : List A) → weigh h (xs ++ ys) ≡ weigh h xs + weigh h ys
weigh-append h [] ys = omega arith
weigh-append h (x ∷ xs) ys = let i = weigh-append h xs ys in omega arith

weigh-zero : {A : Type 0} (xs : List A) → weigh (λ _. 0) xs ≡ 0
weigh-zero [] = refl
weigh-zero (x ∷ xs) = let i = weigh-zero xs in omega arith

weigh-plus : {A : Type 0} (f g : A → ℕ) (xs : List A) → weigh (λ x. f x + g x) xs ≡ weigh f xs + weigh g xs
weigh-plus f g [] = refl
weigh-plus f g (x ∷ xs) = let i = weigh-plus f g xs in omega arith

pub weigh-sum : {A : Type 0} (f : A → ℕ) (xs : List A) → weigh f xs ≡ sum_by f xs
weigh-sum f [] = refl
weigh-sum f (x ∷ xs) = let i = weigh-sum f xs in let a = sum_by-cons f x xs in omega (arith, i, a)

abbrev at : (Entry → ℕ) → ℕ → ARow Entry → ℕ
at f c r = if r.cell == c then f r.entry else 0

abbrev spread : (Entry → ℕ) → ℕ → ℕ → ARow Entry → ℕ
spread f c zero r = 0
spread f c (suc n) r = at f c r + spread f (suc c) n r

module _ (f : Entry → ℕ) where
  one_cell : (c : ℕ) (log : List (ARow Entry)) → weigh f (given_to c log) ≡ weigh (at f c) log
  one_cell c [] = refl
  one_cell c (r ∷ rs) = let i = one_cell c rs in dite (ℕ_discrete r.cell c)
      (λ (e : r.cell ≡ c). rw (eq-eqb r.cell c e) (omega arith))
      (λ (ne : r.cell ≢ c). rw (ne_eqb r.cell c ne) (omega arith))

  spread-before : (c n : ℕ) (r : ARow Entry) → r.cell < c → spread f c n r ≡ 0
  spread-before c zero r low = refl
  spread-before c (suc n) r low =
      let i = spread-before (suc c) n r (omega arith) in
      let ne : r.cell ≢ c = λ e. omega arith in rw (ne_eqb r.cell c ne) (omega arith)

  spread-inside : (c n : ℕ) (r : ARow Entry) → c ≤ r.cell → r.cell < c + n → spread f c n r ≡ f r.entry
  spread-inside c zero r low high = absurd (omega arith)
  spread-inside c (suc n) r low high = dite (ℕ_discrete r.cell c)
      (λ (e : r.cell ≡ c). let z = spread-before (suc c) n r (omega arith) in rw (eq-eqb r.cell c e) (omega arith))
      (λ (ne : r.cell ≢ c). let i = spread-inside (suc c) n r (omega arith) (omega arith) in rw (ne_eqb r.cell c ne) (omega arith))

  many_cells : (log : List (ARow Entry)) (c : ℕ) (xs ys : List Row) → length ys ≡ length xs
      → ((k : ℕ) (x y : Row) → get_elem? xs k ≡ some x → get_elem? ys k ≡ some y → entries y ≡ entries x ++ given_to (k + c) log)
      → weigh (λ (y : Row). weigh f (entries y)) ys ≡ weigh (λ (x : Row). weigh f (entries x)) xs + weigh (spread f c (length xs)) log
  many_cells log c [] [] len is = let z : weigh (spread f c 0) log ≡ 0 = weigh-zero log in omega (arith, z)
  many_cells log c [] (y ∷ ys) len is = absurd (omega arith)
  many_cells log c (x ∷ xs) [] len is = absurd (omega arith)
  many_cells log c (x ∷ xs) (y ∷ ys) len is =
      let i = many_cells log (suc c) xs ys (omega arith) (λ k u v a b. is (suc k) u v a b ∙ ap (λ j. entries u ++ given_to j log) (let e : suc k + c ≡ k + suc c = omega arith in e)) in
      let here = ap (weigh f) (is zero x y refl refl ∙ ap (λ j. entries x ++ given_to j log) (let e : zero + c ≡ c = omega arith in e)) in
      let more = weigh-append f (entries x) (given_to c log) in
      let one = one_cell c log in
      let p = weigh-plus (at f c) (spread f (suc c) (length xs)) log in omega (arith, i, here, more, one, p)

  all_inside : (sign : Entry → Option ℕ) (n : ℕ) (log : List (ARow Entry)) → All (IsRow sign n) log → weigh (spread f 0 n) log ≡ weigh (λ (r : ARow Entry). f r.entry) log
  all_inside sign n [] all = refl
  all_inside sign n (r ∷ rs) all =
      let i = all_inside sign n rs (All-tail (IsRow sign n) r rs all) in
      let low = (All-head (IsRow sign n) r rs all).inside in
      let z = spread-inside 0 n r (omega arith) (omega (arith, low)) in omega (arith, i, z)

  -- the cells have at the end what they had, and all that the log has
  pub whole_log : (sign : Entry → Option ℕ) (log : List (ARow Entry)) (xs ys : List Row) → length ys ≡ length xs → All (IsRow sign (length xs)) log
      → ((k : ℕ) (x y : Row) → get_elem? xs k ≡ some x → get_elem? ys k ≡ some y → entries y ≡ entries x ++ given_to k log)
      → weigh (λ (y : Row). weigh f (entries y)) ys ≡ weigh (λ (x : Row). weigh f (entries x)) xs + weigh (λ (r : ARow Entry). f r.entry) log
  whole_log sign log xs ys len rows is =
      let a = many_cells log 0 xs ys len (λ k x y p q. is k x y p q ∙ ap (λ j. entries x ++ given_to j log) (let e : k ≡ k + 0 = omega arith in e)) in
      let b = all_inside sign (length xs) log rows in omega (arith, a, b)

module _ (h : Task → ℕ) where
  weigh_lines : (f : Entry → ℕ) (xs : List Row) → weigh (λ (x : Row). weigh f (entries x)) xs ≡ sum_by f (entries_of (map seen_row xs))
  weigh_lines f [] = refl
  weigh_lines f (x ∷ xs) =
      let i = weigh_lines f xs in
      let a = weigh-sum f (entries x) in
      let b = sum_by-append f (seen_row x).entries (entries_of (map seen_row xs)) in omega (arith, i, a, b)

  pub lines_entered : (xs : List Row) → sum_by h (tasks_of (entries_of (map seen_row xs))) ≡ weigh (λ (x : Row). weigh (λ (e : Entry). h e.task) (entries x)) xs
  lines_entered xs = let a = tasks_weight h (entries_of (map seen_row xs)) in let b = weigh_lines (λ (e : Entry). h e.task) xs in omega (arith, a, b)

  pub lines_made : (xs : List Row) → sum_by h (children_of (entries_of (map seen_row xs))) ≡ weigh (λ (x : Row). weigh (λ (e : Entry). sum_by h e.children) (entries x)) xs
  lines_made xs = let a = children_weight h (entries_of (map seen_row xs)) in let b = weigh_lines (λ (e : Entry). sum_by h e.children) xs in omega (arith, a, b)

  -- rows as rounds
  pub rows_done : (rows : List (ARow Entry)) → sum_by h (tasks_in (rounds_of rows)) ≡ weigh (λ (r : ARow Entry). h r.entry.task) rows
  rows_done [] = refl
  rows_done (r ∷ rs) = let i = rows_done rs in let a = sum_by-cons h r.entry.task (tasks_in (rounds_of rs)) in omega (arith, i, a)

  pub rows_made : (rows : List (ARow Entry)) → sum_by h (children_in (rounds_of rows)) ≡ weigh (λ (r : ARow Entry). sum_by h r.entry.children) rows
  rows_made [] = refl
  rows_made (r ∷ rs) = let i = rows_made rs in let a = sum_by-append h r.entry.children (children_in (rounds_of rs)) in omega (arith, i, a)
