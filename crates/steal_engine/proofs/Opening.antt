-- From lines to cells, and from closed cells to lines.
use Rattle.std.proofs.Common.{◌≡◌, ℕ, zero, suc, ◌+◌, ◌≤◌, List, [], ◌∷◌, ◌++◌, length, map, refl, sym, ap, ap₂, subst, ◌∙◌, arith, slice_get, Some, None}
use Rattle.std.specs.List.{All, AllByRecursion}
use Rattle.std.proofs.lemmas.List.{length-map}
use Rattle.std.proofs.lemmas.List.Elements.{All-from_recursion}
use mathlib.Core.Option.{some, some-injective, some-ne-none}
use lib.ListN.{get_elem?}
use Rattle.ops_base.specs.declared.elements.Change.{Change}
use Rattle.ops_base.specs.declared.elements.Element.{Element}
use Rattle.work_store.specs.Stored.{Stored, held_of}
use Rattle.net_base.specs.declared.net.Net.{Net}
use Rattle.net_base.specs.declared.nodes.Node.{Node}
use Rattle.net_base.specs.declared.nodes.Alpha.{Alpha}
use Rattle.net_base.specs.declared.tasks.Task.{Task}
use Rattle.token_line.specs.declared.line.Entry.{Entry}
use Rattle.token_line.specs.declared.line.Line.{Line}
use Rattle.activation.specs.Acting.{IsCounted}
use Rattle.step_core.specs.Machine.{Seen}
use Rattle.step_core.specs.Rounds.{IsUnderWay}
use Rattle.step_core.specs.Worlds.{AreNumbered, placed, seen}
use Rattle.serial_engine.specs.Carrying.{CarriesOn}
use Rattle.turn_table.specs.declared.views.Row.{Row as ARow}
use Rattle.turn_table.specs.declared.views.View.{View}
use Rattle.turn_table.specs.Ends.{Accounts}
use Rattle.turn_table.proofs.Lists.{get_or-at, is_there}
use Rattle.steal_engine.specs.declared.rows.Row.{Row}
use Rattle.steal_engine.specs.Opened.{AreRows, IsRowOfLine, line_in}
use Rattle.steal_engine.specs.Rows.{IsSetUp, entries, name, signature}
use Rattle.steal_engine.specs.Logged.{AreFresh, Balances, seen_row}
use Rattle.steal_engine.specs.Rests.{AreDrained}
use Rattle.steal_engine.proofs.Balanced.{log_law}
use Rattle.steal_engine.proofs.Draining.{rest_law}

-- ---- as they are opened

module _ (net : Net) (s : Stored) where
  pub rows_more : (count : ℕ) (ls : List Line) (l : Line) (xs : List Row) (x : Row) → AreRows net s count ls xs → IsRowOfLine net s count l x → AreRows net s count (ls ++ l ∷ []) (xs ++ x ∷ [])
  rows_more count [] l [] x are is = (is, tt)
  rows_more count [] l (y ∷ ys) x are is = absurd are
  rows_more count (m ∷ ms) l [] x are is = absurd are
  rows_more count (m ∷ ms) l (y ∷ ys) x are is = (are.0, rows_more count ms l ys x are.1 is)

  pub rows_length : (lines : ℕ) (ls : List Line) (xs : List Row) → AreRows net s lines ls xs → length xs ≡ length ls
  rows_length lines [] [] are = refl
  rows_length lines [] (x ∷ xs) are = absurd are
  rows_length lines (l ∷ ls) [] are = absurd are
  rows_length lines (l ∷ ls) (x ∷ xs) are = let i = rows_length lines ls xs are.1 in omega (arith, i)

  rows_seen : (lines : ℕ) (ls : List Line) (xs : List Row) → AreRows net s lines ls xs → map seen_row xs ≡ map seen ls
  rows_seen lines [] [] are = refl
  rows_seen lines [] (x ∷ xs) are = absurd are
  rows_seen lines (l ∷ ls) [] are = absurd are
  rows_seen lines (l ∷ ls) (x ∷ xs) are = ap₂ (λ (z : Seen) (zs : List Seen). z ∷ zs) (ap seen are.0.is_line) (rows_seen lines ls xs are.1)

  row_at : (lines : ℕ) (ls : List Line) (xs : List Row) → AreRows net s lines ls xs → (i : ℕ) (x : Row) → get_elem? xs i ≡ some x → (l : Line) × (slice_get ls i ≡ Some l) × IsRowOfLine net s lines l x
  row_at lines [] [] are i x at = absurd (some-ne-none x (sym at))
  row_at lines [] (y ∷ ys) are i x at = absurd are
  row_at lines (l ∷ ls) [] are i x at = absurd are
  row_at lines (l ∷ ls) (y ∷ ys) are zero x at = (l, refl, subst (IsRowOfLine net s lines l) (some-injective y x at) are.0)
  row_at lines (l ∷ ls) (y ∷ ys) are (suc i) x at = row_at lines ls ys are.1 i x at

  pub opened_set_up : (ls : List Line) (values : List Row) → AreRows net s (length ls) ls values → AreNumbered ls → 1 ≤ length ls → IsSetUp net s (length ls) values
  opened_set_up ls values are numbered least = record {
    rows = λ i x at. let r = row_at (length ls) ls values are i x at in record {
      has_net = r.2.has_net;
      has_store = r.2.has_store;
      of_lines = r.2.of_lines;
      is_number = ap (λ (z : Line). z.number) r.2.is_line ∙ numbered i r.0 r.1;
    };
    count = rows_length (length ls) ls values are;
    some = least;
  }

  pub opened_fresh : (ls : List Line) (values : List Row) → AreRows net s (length ls) ls values → AreFresh values
  opened_fresh ls values are i x at = let r = row_at (length ls) ls values are i x at in r.2.is_line ∙ sym r.2.was_line

entries_unsigned : (es : List Entry) → AllByRecursion (λ (e : Entry). signature e ≡ None) es
entries_unsigned [] = tt
entries_unsigned (e ∷ es) = (refl, entries_unsigned es)

pub all_unsigned : (values : List Row) → All (λ (x : Row). All (λ (e : Entry). signature e ≡ None) (entries x)) values
all_unsigned values k d low = let r = is_there values k low in
    subst (λ (x : Row). All (λ (e : Entry). signature e ≡ None) (entries x)) (sym (get_or-at values k r.0 d r.1)) (All-from_recursion (λ (e : Entry). signature e ≡ None) (entries r.0) (entries_unsigned (entries r.0)))

-- ---- as they are closed

map_twice : {A B : Type 0} (f : A → B) (g : Row → A) (xs : List Row) → map f (map g xs) ≡ map (λ x. f (g x)) xs
map_twice f g [] = refl
map_twice {B = B} f g (x ∷ xs) = ap (λ (bs : List B). f (g x) ∷ bs) (map_twice f g xs)

at_map : (xs : List Row) (i : ℕ) (l : Line) → slice_get (map line_in xs) i ≡ Some l → (x : Row) × (get_elem? xs i ≡ some x) × (line_in x ≡ l)
at_map [] i l e = absurd (cc)
at_map (x ∷ xs) zero l e = (x, refl, cc)
at_map (x ∷ xs) (suc i) l e = at_map xs i l e

-- lists of lines with the same numbers in order
numbers_from : (i : ℕ) (ls ms : List Line) → length ms ≡ length ls → ((k : ℕ) (l : Line) → slice_get ls k ≡ Some l → l.number ≡ k + i) → ((k : ℕ) (l : Line) → slice_get ms k ≡ Some l → l.number ≡ k + i)
    → map (λ (l : Line). l.number) ms ≡ map (λ (l : Line). l.number) ls
numbers_from i [] [] same a b = refl
numbers_from i [] (m ∷ ms) same a b = absurd (omega arith)
numbers_from i (l ∷ ls) [] same a b = absurd (omega arith)
numbers_from i (l ∷ ls) (m ∷ ms) same a b =
    ap₂ (λ (n : ℕ) (ns : List ℕ). n ∷ ns) (b zero m refl ∙ sym (a zero l refl))
    (numbers_from (suc i) ls ms (omega arith) (λ k x at. a (suc k) x at ∙ (let e : suc k + i ≡ k + suc i = omega arith in e)) (λ k x at. b (suc k) x at ∙ (let e : suc k + i ≡ k + suc i = omega arith in e)))

same_numbers : (ls ms : List Line) → length ms ≡ length ls → AreNumbered ls → AreNumbered ms → map (λ (l : Line). l.number) ms ≡ map (λ (l : Line). l.number) ls
same_numbers ls ms same a b = numbers_from 0 ls ms same (λ k l at. a k l at ∙ (let e : k ≡ k + 0 = omega arith in e)) (λ k l at. b k l at ∙ (let e : k ≡ k + 0 = omega arith in e))

module _ (net : Net) (s : Stored) (lines : ℕ) where
  rows_counted : (xs : List Row) → ((i : ℕ) (x : Row) → get_elem? xs i ≡ some x → (x.cell.value.net.value ≡ net) × (x.cell.value.store.value ≡ s)) → AllByRecursion (IsCounted net.nodes s) (map line_in xs)
  rows_counted [] each = tt
  rows_counted (x ∷ xs) each =
      let is = each zero x refl in (
        subst (λ z. IsCounted net.nodes z (line_in x)) is.1 (subst (λ (n : Net). IsCounted n.nodes x.cell.value.store.value (line_in x)) is.0 x.cell.value.counted),
        rows_counted xs (λ i y at. each (suc i) y at),
      )

  module _ (lasts : List Row) (set : IsSetUp net s lines lasts) where
    back_counted : All (IsCounted net.nodes s) (map line_in lasts)
    back_counted = All-from_recursion (IsCounted net.nodes s) (map line_in lasts) (rows_counted lasts (λ i x at. let r = set.rows i x at in (r.has_net, r.has_store)))

    back_length : length (map line_in lasts) ≡ lines
    back_length = length-map lasts line_in ∙ set.count

    back_numbered : AreNumbered (map line_in lasts)
    back_numbered i l at = let r = at_map lasts i l at in ap (λ (z : Line). z.number) (sym r.2) ∙ (set.rows i r.0 r.1).is_number

module _ (net : Net) (s : Stored) (first left : List Task) (ls : List Line) (values : List Row) (are : AreRows net s (length ls) ls values) (numbered : AreNumbered ls) (least : 1 ≤ length ls)
    (v : View Row Entry) (same : v.values ≡ values) (lasts : List Row) (log : List (ARow Entry)) (accounts : Accounts entries name signature v lasts log) (balance : Balances first left log) where
  set_up : IsSetUp net s (length ls) v.values
  set_up = subst (IsSetUp net s (length ls)) (sym same) (opened_set_up net s ls values are numbered least)

  fresh : AreFresh v.values
  fresh = subst AreFresh (sym same) (opened_fresh net s ls values are)

  both : IsSetUp net s (length ls) lasts × AreDrained (held_of s) net.nodes (placed (held_of s) net.nodes (length ls)) (map seen_row v.values) (map seen_row lasts) first left
  both = log_law net s (length ls) first left v lasts log set_up fresh accounts balance

  abbrev way : List Element → List Change → List Seen → List Task → Type 0
  way wm changes seens waiting = IsUnderWay (held_of s) net.alphas net.nodes (placed (held_of s) net.nodes (length ls)) wm changes seens waiting

  pub lines_carry : CarriesOn net.alphas net.nodes s ls first (map line_in lasts) left
  lines_carry wm changes on =
      let was : map seen_row v.values ≡ map seen ls = ap (map seen_row) same ∙ rows_seen net s (length ls) ls values are in
      let now : map seen (map line_in lasts) ≡ map seen_row lasts = map_twice seen line_in lasts in
      subst (λ seens. way wm changes seens left) (sym now)
      (rest_law (held_of s) net.alphas net.nodes (placed (held_of s) net.nodes (length ls)) wm changes (map seen_row v.values) (map seen_row lasts) first left
      (subst (λ seens. way wm changes seens first) (sym was) on) both.1)

  pub lines_counted : All (IsCounted net.nodes s) (map line_in lasts)
  lines_counted = back_counted net s (length ls) lasts both.0

  pub lines_numbers : map (λ (l : Line). l.number) (map line_in lasts) ≡ map (λ (l : Line). l.number) ls
  lines_numbers = same_numbers ls (map line_in lasts) (back_length net s (length ls) lasts both.0) numbered (back_numbered net s (length ls) lasts both.0)

  pub lines_some : 1 ≤ length (map line_in lasts)
  lines_some = subst (λ n. 1 ≤ n) (sym (back_length net s (length ls) lasts both.0)) least

-- ---- one thing after another

pub carries_twice : (alphas : List Alpha) (nodes : List Node) (s : Stored) (ls ms ns : List Line) (first left rest : List Task) → map (λ (l : Line). l.number) ms ≡ map (λ (l : Line). l.number) ls
    → CarriesOn alphas nodes s ls first ms left → CarriesOn alphas nodes s ms left ns rest → CarriesOn alphas nodes s ls first ns rest
carries_twice alphas nodes s ls ms ns first left rest same one two wm changes on =
    let count : length ms ≡ length ls = sym (length-map ms (λ (l : Line). l.number)) ∙ (ap length same ∙ length-map ls (λ (l : Line). l.number)) in
    subst (λ n. IsUnderWay (held_of s) alphas nodes (placed (held_of s) nodes n) wm changes (map seen ns) rest) count
    (two wm changes (subst (λ n. IsUnderWay (held_of s) alphas nodes (placed (held_of s) nodes n) wm changes (map seen ms) left) (sym count) (one wm changes on)))
