-- From lines to cells, and from closed cells to lines.
use Rattle.std.proofs.Common.{◌≡◌, ℕ, zero, suc, ◌+◌, List, [], ◌∷◌, length, map, refl, sym, ap, ap₂, subst, ◌∙◌, arith, slice_get, Some}
use Rattle.std.specs.List.{All, AllByRecursion}
use Rattle.std.proofs.lemmas.List.Elements.{All-from_recursion}
use mathlib.Core.Option.{some, some-injective, some-ne-none}
use lib.ListN.{get_elem?}
use Rattle.work_store.specs.Stored.{Stored}
use Rattle.net_base.specs.declared.net.Net.{Net}
use Rattle.net_base.specs.declared.nodes.Node.{Node}
use Rattle.net_base.specs.declared.tasks.Task.{Task}
use Rattle.token_line.specs.declared.line.Line.{Line}
use Rattle.activation.specs.Acting.{IsCounted}
use Rattle.step_core.specs.Machine.{Seen}
use Rattle.step_core.specs.Worlds.{AreNumbered, seen}
use Rattle.free_engine.specs.declared.slots.Slot.{Slot}
use Rattle.free_engine.specs.declared.slots.Slot.TheVariants.{Pool as InPool, Line as InLine}
use Rattle.free_engine.specs.Counts.{AreFresh}
use Rattle.free_engine.specs.Openings.{AreRows, IsOpened, IsRowOfLine, rows_in}
use Rattle.free_engine.specs.Slots.{IsFresh}
use Rattle.free_engine.specs.Tables.{BeganWith, IsRowOf, IsTable, lines_in, seen_in}
use Rattle.free_engine.specs.Turns.{HasPool, HasRow, IsSetUp}

-- ---- as they are opened

module _ (net : Net) (s : Stored) where
  row_of : (lines i : ℕ) (l : Line) (x : Slot) → IsRowOfLine net s lines l x → l.number ≡ i → HasRow net s lines i x
  row_of lines i l (InPool q) is number = absurd is
  row_of lines i l (InLine c) is number = record { has_net = is.has_net; has_store = is.has_store; of_lines = is.of_lines; is_number = ap (λ (z : Line). z.number) is.is_line ∙ number }

  row_fresh : (lines : ℕ) (l : Line) (x : Slot) → IsRowOfLine net s lines l x → IsFresh x
  row_fresh lines l (InPool q) is = absurd is
  row_fresh lines l (InLine c) is = is.was_line ∙ sym is.is_line

  row_seen : (lines : ℕ) (l : Line) (x : Slot) → IsRowOfLine net s lines l x → seen_in x ≡ seen l
  row_seen lines l (InPool q) is = absurd is
  row_seen lines l (InLine c) is = ap seen is.is_line

  rows_length : (lines : ℕ) (ls : List Line) (xs : List Slot) → AreRows net s lines ls xs → length xs ≡ length ls
  rows_length lines [] [] are = refl
  rows_length lines [] (x ∷ xs) are = absurd are
  rows_length lines (l ∷ ls) [] are = absurd are
  rows_length lines (l ∷ ls) (x ∷ xs) are = let i = rows_length lines ls xs are.1 in omega (arith, i)

  rows_seen : (lines : ℕ) (ls : List Line) (xs : List Slot) → AreRows net s lines ls xs → map seen_in xs ≡ map seen ls
  rows_seen lines [] [] are = refl
  rows_seen lines [] (x ∷ xs) are = absurd are
  rows_seen lines (l ∷ ls) [] are = absurd are
  rows_seen lines (l ∷ ls) (x ∷ xs) are = ap₂ (λ (z : Seen) (zs : List Seen). z ∷ zs) (row_seen lines l x are.0) (rows_seen lines ls xs are.1)

  row_at : (lines : ℕ) (ls : List Line) (xs : List Slot) → AreRows net s lines ls xs → (i : ℕ) (x : Slot) → get_elem? xs i ≡ some x → (l : Line) × (slice_get ls i ≡ Some l) × IsRowOfLine net s lines l x
  row_at lines [] [] are i x at = absurd (some-ne-none x (sym at))
  row_at lines [] (y ∷ ys) are i x at = absurd are
  row_at lines (l ∷ ls) [] are i x at = absurd are
  row_at lines (l ∷ ls) (y ∷ ys) are zero x at = (l, refl, subst (IsRowOfLine net s lines l) (some-injective y x at) are.0)
  row_at lines (l ∷ ls) (y ∷ ys) are (suc i) x at = row_at lines ls ys are.1 i x at

  module _ (workers : ℕ) (first : List Task) (ls : List Line) (values : List Slot) (o : IsOpened net s workers first (length ls) ls values) where
    in_rows : (i : ℕ) (x : Slot) → get_elem? values (suc i) ≡ some x → get_elem? o.rows i ≡ some x
    in_rows i x at = sym (ap (λ l. get_elem? l (suc i)) o.is) ∙ at

    the_pool : (x : Slot) → get_elem? values 0 ≡ some x → o.pool ≡ x
    the_pool x at = some-injective o.pool x (sym (ap (λ l. get_elem? l 0) o.is) ∙ at)

    pub opened_set_up : AreNumbered ls → IsSetUp net s (length ls) workers first values
    opened_set_up numbered = record {
      pool = λ x at. subst (HasPool net s workers first) (the_pool x at) o.has_pool;
      rows = λ i x at.
          let next : i + 1 ≡ suc i = omega arith in
          let r = row_at (length ls) ls o.rows o.are i x (in_rows i x (ap (λ n. get_elem? values n) (sym next) ∙ at)) in
          row_of (length ls) i r.0 x r.2 (numbered i r.0 r.1);
      count = ap length o.is ∙ (let a = rows_length (length ls) ls o.rows o.are in omega (arith, a));
    }

    pub opened_fresh : AreFresh values
    opened_fresh zero x at = subst IsFresh (the_pool x at) o.fresh
    opened_fresh (suc i) x at = let r = row_at (length ls) ls o.rows o.are i x (in_rows i x at) in row_fresh (length ls) r.0 x r.2

    pub opened_lines : lines_in values ≡ map seen ls
    opened_lines = ap lines_in o.is ∙ rows_seen (length ls) ls o.rows o.are

-- ---- as they are closed

module _ (nodes : List Node) (s : Stored) (lines : ℕ) where
  -- line k + i of all stands at place k
  abbrev AreFrom : ℕ → List Slot → Type 0
  AreFrom i xs = (k : ℕ) (x : Slot) → slice_get xs k ≡ Some x → IsRowOf nodes s lines (k + i) x

  next_from : (i : ℕ) (y : Slot) (ys : List Slot) → AreFrom i (y ∷ ys) → AreFrom (suc i) ys
  next_from i y ys are = λ k x at. subst (λ j. IsRowOf nodes s lines j x) (let e : suc k + i ≡ k + suc i = omega arith in e) (are (suc k) x at)

  back_seen : (i : ℕ) (xs : List Slot) → AreFrom i xs → map seen_in xs ≡ map seen (rows_in xs)
  back_seen i [] are = refl
  back_seen i (InPool q ∷ xs) are = absurd (are zero (InPool q) refl)
  back_seen i (InLine l ∷ xs) are = ap (λ (zs : List Seen). seen l.value.line ∷ zs) (back_seen (suc i) xs (next_from i (InLine l) xs are))

  back_length : (i : ℕ) (xs : List Slot) → AreFrom i xs → length (rows_in xs) ≡ length xs
  back_length i [] are = refl
  back_length i (InPool q ∷ xs) are = absurd (are zero (InPool q) refl)
  back_length i (InLine l ∷ xs) are = let h = back_length (suc i) xs (next_from i (InLine l) xs are) in omega (arith, h)

  back_number : (i : ℕ) (xs : List Slot) → AreFrom i xs → (k : ℕ) (l : Line) → slice_get (rows_in xs) k ≡ Some l → l.number ≡ k + i
  back_number i [] are k l at = absurd (cc)
  back_number i (InPool q ∷ xs) are k l at = absurd (are zero (InPool q) refl)
  back_number i (InLine m ∷ xs) are zero l at = let same : m.value.line ≡ l = cc in ap (λ (z : Line). z.number) (sym same) ∙ (are zero (InLine m) refl).number
  back_number i (InLine m ∷ xs) are (suc k) l at = back_number (suc i) xs (next_from i (InLine m) xs are) k l at ∙ (let e : k + suc i ≡ suc k + i = omega arith in e)

  back_counted : (i : ℕ) (xs : List Slot) → AreFrom i xs → AllByRecursion (IsCounted nodes s) (rows_in xs)
  back_counted i [] are = tt
  back_counted i (InPool q ∷ xs) are = absurd (are zero (InPool q) refl)
  back_counted i (InLine l ∷ xs) are =
      let is = are zero (InLine l) refl in (
        subst (λ z. IsCounted nodes z l.value.line) is.has_store (subst (λ (ns : List Node). IsCounted ns l.value.store.value l.value.line) is.has_nodes l.value.counted),
        back_counted (suc i) xs (next_from i (InLine l) xs are),
      )

  module _ (first : List Task) (values : List Slot) (t : IsTable nodes s lines first values) where
    skip : (x : Slot) (xs : List Slot) → BeganWith first x → rows_in (x ∷ xs) ≡ rows_in xs
    skip (InPool q) xs began = refl
    skip (InLine l) xs began = absurd began

    rows_are : rows_in values ≡ rows_in t.rows
    rows_are = ap rows_in t.is ∙ skip t.pool t.rows t.began

    are_from : AreFrom 0 t.rows
    are_from k x at = subst (λ j. IsRowOf nodes s lines j x) (let e : k ≡ k + 0 = omega arith in e) (t.each k x at)

    pub closed_lines : lines_in values ≡ map seen (rows_in values)
    closed_lines = ap lines_in t.is ∙ (back_seen 0 t.rows are_from ∙ ap (map seen) (sym rows_are))

    pub closed_counted : All (IsCounted nodes s) (rows_in values)
    closed_counted = subst (All (IsCounted nodes s)) (sym rows_are) (All-from_recursion (IsCounted nodes s) (rows_in t.rows) (back_counted 0 t.rows are_from))

    pub closed_length : length (rows_in values) ≡ lines
    closed_length = ap length rows_are ∙ (back_length 0 t.rows are_from ∙ t.count)

    pub closed_numbered : AreNumbered (rows_in values)
    closed_numbered k l at = back_number 0 t.rows are_from k l (subst (λ (xs : List Line). slice_get xs k ≡ Some l) rows_are at) ∙ (let e : k + 0 ≡ k = omega arith in e)

-- lists of lines with the same numbers in order
numbers_from : (i : ℕ) (ls ms : List Line) → length ms ≡ length ls → ((k : ℕ) (l : Line) → slice_get ls k ≡ Some l → l.number ≡ k + i) → ((k : ℕ) (l : Line) → slice_get ms k ≡ Some l → l.number ≡ k + i)
    → map (λ (l : Line). l.number) ms ≡ map (λ (l : Line). l.number) ls
numbers_from i [] [] same a b = refl
numbers_from i [] (m ∷ ms) same a b = absurd (omega arith)
numbers_from i (l ∷ ls) [] same a b = absurd (omega arith)
numbers_from i (l ∷ ls) (m ∷ ms) same a b =
    ap₂ (λ (n : ℕ) (ns : List ℕ). n ∷ ns) (b zero m refl ∙ sym (a zero l refl))
    (numbers_from (suc i) ls ms (omega arith) (λ k x at. a (suc k) x at ∙ (let e : suc k + i ≡ k + suc i = omega arith in e)) (λ k x at. b (suc k) x at ∙ (let e : suc k + i ≡ k + suc i = omega arith in e)))

pub same_numbers : (ls ms : List Line) → length ms ≡ length ls → AreNumbered ls → AreNumbered ms → map (λ (l : Line). l.number) ms ≡ map (λ (l : Line). l.number) ls
same_numbers ls ms same a b = numbers_from 0 ls ms same (λ k l at. a k l at ∙ (let e : k ≡ k + 0 = omega arith in e)) (λ k l at. b k l at ∙ (let e : k ≡ k + 0 = omega arith in e))
