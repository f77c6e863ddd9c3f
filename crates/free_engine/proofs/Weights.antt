-- Weights of rows, by cell and by worker.
use Rattle.std.proofs.Common.{◌≡◌, ℕ, ◌+◌, ◌<◌, ◌≤◌, ◌≢◌, eq-eqb, ne_eqb, List, [], ◌∷◌, ◌++◌, length, map, sum_by, refl, ap, ◌∙◌, suc, zero, arith}
use Rattle.std.specs.Prelude.{if◌then◌else◌, ◌==◌}
use Rattle.std.proofs.lemmas.List.Sums.{sum_by-append, sum_by-cons}
use mathlib.Core.Logic.{dite}
use native.Mathlib.Decide.{ℕ_discrete}
use mathlib.Core.Option.{some}
use lib.ListN.{get_elem?}
use Rattle.net_base.specs.declared.tasks.Task.{Task}
use Rattle.token_line.specs.declared.line.Entry.{Entry}
use Rattle.step_core.specs.Phases.{tasks_of, children_of, entries_of}
use Rattle.step_core.proofs.Adding.{tasks_weight, children_weight}
use Rattle.turn_table.specs.declared.views.Row.{Row}
use Rattle.turn_table.specs.Log.{given_to, weigh}
use Rattle.task_pool.specs.declared.pool.PoolEntry.{PoolEntry}
use Rattle.task_pool.specs.declared.pool.PoolEntry.TheVariants.{Take, Finish, Stop}
use Rattle.task_pool.specs.Pools.{taken_in, given_in}
use Rattle.free_engine.specs.declared.slots.Slot.{Slot}
use Rattle.free_engine.specs.declared.slots.Slot.TheVariants.{Pool as InPool, Line as InLine}
use Rattle.free_engine.specs.declared.slots.SlotEntry.{SlotEntry}
use Rattle.free_engine.specs.declared.slots.SlotEntry.TheVariants.{OfPool, OfLine}
use Rattle.free_engine.specs.Slots.{entries}
use Rattle.free_engine.specs.Tables.{seen_in}
use Rattle.free_engine.specs.Counts.{Round, rows_of_round, rows_of_rounds, AreInside}

pub weigh-append : {A : Type 0} (h : A → ℕ) (xs ys : List A) → weigh h (xs ++ ys) ≡ weigh h xs + weigh h ys
weigh-append h [] ys = omega arith
weigh-append h (x ∷ xs) ys = let i = weigh-append h xs ys in omega arith

weigh-zero : {A : Type 0} (xs : List A) → weigh (λ _. 0) xs ≡ 0
weigh-zero [] = refl
weigh-zero (x ∷ xs) = let i = weigh-zero xs in omega arith

weigh-plus : {A : Type 0} (f g : A → ℕ) (xs : List A) → weigh (λ x. f x + g x) xs ≡ weigh f xs + weigh g xs
weigh-plus f g [] = refl
weigh-plus f g (x ∷ xs) = let i = weigh-plus f g xs in omega arith

-- ---- what an entry counts for: as a line's task, as a line's children, as taken, as given by a finish

abbrev pub entered : (Task → ℕ) → SlotEntry → ℕ
entered h (OfPool e) = 0
entered h (OfLine e) = h e.task

abbrev pub made : (Task → ℕ) → SlotEntry → ℕ
made h (OfPool e) = 0
made h (OfLine e) = sum_by h e.children

abbrev taken_by : (Task → ℕ) → PoolEntry → ℕ
taken_by h (Take w t) = h t
taken_by h (Finish w cs) = 0
taken_by h (Stop w) = 0

abbrev given_by : (Task → ℕ) → PoolEntry → ℕ
given_by h (Take w t) = 0
given_by h (Finish w cs) = sum_by h cs
given_by h (Stop w) = 0

abbrev pub taken : (Task → ℕ) → SlotEntry → ℕ
taken h (OfPool e) = taken_by h e
taken h (OfLine e) = 0

abbrev pub given : (Task → ℕ) → SlotEntry → ℕ
given h (OfPool e) = given_by h e
given h (OfLine e) = 0

module _ (h : Task → ℕ) where
  pub pool_taken : (es : List PoolEntry) → weigh (taken h) (map OfPool es) ≡ sum_by h (taken_in es)
  pool_taken [] = refl
  pool_taken (Take w t ∷ es) = let i = pool_taken es in let c = sum_by-cons h t (taken_in es) in omega (arith, i, c)
  pool_taken (Finish w cs ∷ es) = let i = pool_taken es in omega (arith, i)
  pool_taken (Stop w ∷ es) = let i = pool_taken es in omega (arith, i)

  pub pool_given : (es : List PoolEntry) → weigh (given h) (map OfPool es) ≡ sum_by h (given_in es)
  pool_given [] = refl
  pool_given (Take w t ∷ es) = let i = pool_given es in omega (arith, i)
  pool_given (Finish w cs ∷ es) = let i = pool_given es in let c = sum_by-append h cs (given_in es) in omega (arith, i, c)
  pool_given (Stop w ∷ es) = let i = pool_given es in omega (arith, i)

  none_entered : (es : List PoolEntry) → weigh (entered h) (map OfPool es) ≡ 0
  none_entered [] = refl
  none_entered (e ∷ es) = let i = none_entered es in omega (arith, i)

  none_made : (es : List PoolEntry) → weigh (made h) (map OfPool es) ≡ 0
  none_made [] = refl
  none_made (e ∷ es) = let i = none_made es in omega (arith, i)

  line_entered : (es : List Entry) → weigh (entered h) (map OfLine es) ≡ sum_by (λ (e : Entry). h e.task) es
  line_entered [] = refl
  line_entered (e ∷ es) = let i = line_entered es in let c = sum_by-cons (λ (x : Entry). h x.task) e es in omega (arith, i, c)

  line_made : (es : List Entry) → weigh (made h) (map OfLine es) ≡ sum_by (λ (e : Entry). sum_by h e.children) es
  line_made [] = refl
  line_made (e ∷ es) = let i = line_made es in let c = sum_by-cons (λ (x : Entry). sum_by h x.children) e es in omega (arith, i, c)

  slot_entered : (x : Slot) → weigh (entered h) (entries x) ≡ sum_by (λ (e : Entry). h e.task) (seen_in x).entries
  slot_entered (InPool q) = none_entered q.value.pool.entries.items
  slot_entered (InLine l) = line_entered l.value.line.entries.items

  slot_made : (x : Slot) → weigh (made h) (entries x) ≡ sum_by (λ (e : Entry). sum_by h e.children) (seen_in x).entries
  slot_made (InPool q) = none_made q.value.pool.entries.items
  slot_made (InLine l) = line_made l.value.line.entries.items

  slots_entered : (xs : List Slot) → weigh (λ (x : Slot). weigh (entered h) (entries x)) xs ≡ sum_by (λ (e : Entry). h e.task) (entries_of (map seen_in xs))
  slots_entered [] = refl
  slots_entered (x ∷ xs) =
      let i = slots_entered xs in
      let a = slot_entered x in
      let b = sum_by-append (λ (e : Entry). h e.task) (seen_in x).entries (entries_of (map seen_in xs)) in omega (arith, i, a, b)

  slots_made : (xs : List Slot) → weigh (λ (x : Slot). weigh (made h) (entries x)) xs ≡ sum_by (λ (e : Entry). sum_by h e.children) (entries_of (map seen_in xs))
  slots_made [] = refl
  slots_made (x ∷ xs) =
      let i = slots_made xs in
      let a = slot_made x in
      let b = sum_by-append (λ (e : Entry). sum_by h e.children) (seen_in x).entries (entries_of (map seen_in xs)) in omega (arith, i, a, b)

  pub lines_entered : (xs : List Slot) → sum_by h (tasks_of (entries_of (map seen_in xs))) ≡ weigh (λ (x : Slot). weigh (entered h) (entries x)) xs
  lines_entered xs = let a = tasks_weight h (entries_of (map seen_in xs)) in let b = slots_entered xs in omega (arith, a, b)

  pub lines_made : (xs : List Slot) → sum_by h (children_of (entries_of (map seen_in xs))) ≡ weigh (λ (x : Slot). weigh (made h) (entries x)) xs
  lines_made xs = let a = children_weight h (entries_of (map seen_in xs)) in let b = slots_made xs in omega (arith, a, b)

-- ---- cells

-- the weight of a row's entry, where it lies in this cell; and in one of n cells from c on
abbrev pub at : (SlotEntry → ℕ) → ℕ → Row SlotEntry → ℕ
at f c r = if r.cell == c then f r.entry else 0

abbrev pub spread : (SlotEntry → ℕ) → ℕ → ℕ → Row SlotEntry → ℕ
spread f c zero r = 0
spread f c (suc n) r = at f c r + spread f (suc c) n r

module _ (f : SlotEntry → ℕ) where
  pub one_cell : (c : ℕ) (log : List (Row SlotEntry)) → weigh f (given_to c log) ≡ weigh (at f c) log
  one_cell c [] = refl
  one_cell c (r ∷ rs) = let i = one_cell c rs in dite (ℕ_discrete r.cell c)
      (λ (e : r.cell ≡ c). rw (eq-eqb r.cell c e) (omega arith))
      (λ (ne : r.cell ≢ c). rw (ne_eqb r.cell c ne) (omega arith))

  spread-before : (c n : ℕ) (r : Row SlotEntry) → r.cell < c → spread f c n r ≡ 0
  spread-before c zero r low = refl
  spread-before c (suc n) r low =
      let i = spread-before (suc c) n r (omega arith) in
      let ne : r.cell ≢ c = λ e. omega arith in rw (ne_eqb r.cell c ne) (omega arith)

  spread-inside : (c n : ℕ) (r : Row SlotEntry) → c ≤ r.cell → r.cell < c + n → spread f c n r ≡ f r.entry
  spread-inside c zero r low high = absurd (omega arith)
  spread-inside c (suc n) r low high = dite (ℕ_discrete r.cell c)
      (λ (e : r.cell ≡ c). let z = spread-before (suc c) n r (omega arith) in rw (eq-eqb r.cell c e) (omega arith))
      (λ (ne : r.cell ≢ c). let i = spread-inside (suc c) n r (omega arith) (omega arith) in rw (ne_eqb r.cell c ne) (omega arith))

  pub many_cells : (log : List (Row SlotEntry)) (c : ℕ) (xs ys : List Slot) → length ys ≡ length xs
      → ((k : ℕ) (x y : Slot) → get_elem? xs k ≡ some x → get_elem? ys k ≡ some y → entries y ≡ entries x ++ given_to (k + c) log)
      → weigh (λ (y : Slot). weigh f (entries y)) ys ≡ weigh (λ (x : Slot). weigh f (entries x)) xs + weigh (spread f c (length xs)) log
  many_cells log c [] [] len is = let z : weigh (spread f c 0) log ≡ 0 = weigh-zero log in omega (arith, z)
  many_cells log c [] (y ∷ ys) len is = absurd (omega arith)
  many_cells log c (x ∷ xs) [] len is = absurd (omega arith)
  many_cells log c (x ∷ xs) (y ∷ ys) len is =
      let i = many_cells log (suc c) xs ys (omega arith) (λ k u v a b. is (suc k) u v a b ∙ ap (λ j. entries u ++ given_to j log) (let e : suc k + c ≡ k + suc c = omega arith in e)) in
      let here = ap (weigh f) (is zero x y refl refl ∙ ap (λ j. entries x ++ given_to j log) (let e : zero + c ≡ c = omega arith in e)) in
      let more = weigh-append f (entries x) (given_to c log) in
      let one = one_cell c log in
      let p = weigh-plus (at f c) (spread f (suc c) (length xs)) log in omega (arith, i, here, more, one, p)

-- ---- rounds

-- a round has as much in its cells of lines as in the pool
module _ (lines w : ℕ) (h : Task → ℕ) where
  round_lines : (f : SlotEntry → ℕ) (x : Round) → x.line < lines → f (OfPool (Take w x.entry.task)) ≡ 0 → f (OfPool (Finish w x.entry.children)) ≡ 0
      → weigh (spread f 1 lines) (rows_of_round w x) ≡ f (OfLine x.entry)
  round_lines f x low a b =
      let r0 : Row SlotEntry = record { pass = w + 1; cell = 0; entry = OfPool (Take w x.entry.task) } in
      let r1 : Row SlotEntry = record { pass = w + 1; cell = x.line + 1; entry = OfLine x.entry } in
      let r2 : Row SlotEntry = record { pass = w + 1; cell = 0; entry = OfPool (Finish w x.entry.children) } in
      let z0 = spread-before f 1 lines r0 (omega arith) in
      let z1 = spread-inside f 1 lines r1 (omega arith) (omega arith) in
      let z2 = spread-before f 1 lines r2 (omega arith) in omega arith

  round_pool : (f : SlotEntry → ℕ) (x : Round) → weigh (at f 0) (rows_of_round w x) ≡ f (OfPool (Take w x.entry.task)) + f (OfPool (Finish w x.entry.children))
  round_pool f x =
      let ne : x.line + 1 ≢ 0 = λ e. omega arith in
      rw (ne_eqb (x.line + 1) 0 ne) (omega arith)

  pub rounds_entered : (xs : List Round) → AreInside lines xs → weigh (spread (entered h) 1 lines) (rows_of_rounds w xs) ≡ weigh (at (taken h) 0) (rows_of_rounds w xs)
  rounds_entered [] inside = refl
  rounds_entered (x ∷ xs) inside =
      let i = rounds_entered xs inside.1 in
      let a = weigh-append (spread (entered h) 1 lines) (rows_of_round w x) (rows_of_rounds w xs) in
      let b = weigh-append (at (taken h) 0) (rows_of_round w x) (rows_of_rounds w xs) in
      let c = round_lines (entered h) x inside.0 refl refl in
      let d = round_pool (taken h) x in omega (arith, i, a, b, c, d)

  pub rounds_made : (xs : List Round) → AreInside lines xs → weigh (spread (made h) 1 lines) (rows_of_rounds w xs) ≡ weigh (at (given h) 0) (rows_of_rounds w xs)
  rounds_made [] inside = refl
  rounds_made (x ∷ xs) inside =
      let i = rounds_made xs inside.1 in
      let a = weigh-append (spread (made h) 1 lines) (rows_of_round w x) (rows_of_rounds w xs) in
      let b = weigh-append (at (given h) 0) (rows_of_round w x) (rows_of_rounds w xs) in
      let c = round_lines (made h) x inside.0 refl refl in
      let d = round_pool (given h) x in omega (arith, i, a, b, c, d)
