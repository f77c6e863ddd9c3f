-- Lines after a log that balances.
use Rattle.std.proofs.Common.{◌≡◌, ℕ, ◌+◌, List, [], ◌∷◌, ◌++◌, length, map, sum_by, refl, sym, ap, ap₂, ◌∙◌, subst, suc, zero, arith, slice_get, Some, option_map}
use Rattle.std.specs.List.{All}
use Rattle.std.proofs.lemmas.Option.{slice_get-map}
use Rattle.std.proofs.lemmas.List.Sums.{sum_by-append}
use Rattle.std.proofs.lemmas.List.Elements.{All-head, All-tail}
use mathlib.Core.Option.{some, some-injective, some-ne-none}
use lib.ListN.{get_elem?}
use Rattle.work_store.specs.Stored.{Stored, held_of}
use Rattle.net_base.specs.declared.net.Net.{Net}
use Rattle.net_base.specs.declared.tasks.Task.{Task}
use Rattle.token_line.specs.declared.line.Entry.{Entry}
use Rattle.step_core.specs.Machine.{Seen}
use Rattle.step_core.specs.Phases.{tasks_of, children_of, before, entries_of, IsPhase}
use Rattle.step_core.specs.Worlds.{placed, seen}
use Rattle.step_core.proofs.Adding.{bag_ext}
use Rattle.turn_table.specs.declared.passes.Pass.{Pass}
use Rattle.turn_table.specs.declared.views.Row.{Row as ARow}
use Rattle.turn_table.specs.declared.views.Share.{Share}
use Rattle.turn_table.specs.declared.views.View.{View}
use Rattle.turn_table.specs.Log.{given_to, rows_of, weigh, sum_below}
use Rattle.turn_table.specs.Ends.{Accounts}
use Rattle.turn_table.specs.Turns.{knows}
use Rattle.steal_engine.specs.Rests.{AreDrained}
use Rattle.steal_engine.specs.declared.rows.Row.{Row}
use Rattle.steal_engine.specs.declared.rows.RowName.{RowName}
use Rattle.steal_engine.specs.Phased.{KeepsPhase}
use Rattle.steal_engine.specs.Rows.{IsRowFor, IsSetUp, entries, name, signature}
use Rattle.steal_engine.specs.Logged.{AreFresh, AreJoined, Balances, LogLaw, seen_row}
use Rattle.steal_engine.proofs.Logging.{lines_entered, lines_made, whole_log}

to_at : {A : Type 0} (xs : List A) (i : ℕ) (x : A) → slice_get xs i ≡ Some x → get_elem? xs i ≡ some x
to_at [] i x e = absurd (cc)
to_at (y ∷ ys) zero x e = let same : y ≡ x = cc in ap some same
to_at (y ∷ ys) (suc i) x e = to_at ys i x e

from_at : {A : Type 0} (xs : List A) (i : ℕ) (x : A) → get_elem? xs i ≡ some x → slice_get xs i ≡ Some x
from_at [] i x e = absurd (some-ne-none x (sym e))
from_at (y ∷ ys) zero x e = ap Some (some-injective y x e)
from_at (y ∷ ys) (suc i) x e = from_at ys i x e

at_same : {A B : Type 0} (xs : List A) (ys : List B) (c : ℕ) (y : B) → length ys ≡ length xs → get_elem? ys c ≡ some y → (x : A) × (get_elem? xs c ≡ some x)
at_same xs [] c y len e = absurd (some-ne-none y (sym e))
at_same [] (z ∷ ys) c y len e = absurd (omega arith)
at_same (x ∷ xs) (z ∷ ys) zero y len e = (x, refl)
at_same (x ∷ xs) (z ∷ ys) (suc c) y len e = at_same xs ys c y (omega arith) e

same_map : {A : Type 0} (f : Row → A) (xs ys : List Row) → length ys ≡ length xs
    → ((k : ℕ) (x y : Row) → get_elem? xs k ≡ some x → get_elem? ys k ≡ some y → f y ≡ f x) → map f ys ≡ map f xs
same_map f [] [] len is = refl
same_map f [] (y ∷ ys) len is = absurd (omega arith)
same_map f (x ∷ xs) [] len is = absurd (omega arith)
same_map {A = A} f (x ∷ xs) (y ∷ ys) len is = ap₂ (λ (b : A) (bs : List A). b ∷ bs) (is zero x y refl refl) (same_map f xs ys (omega arith) (λ k u w a b. is (suc k) u w a b))

map_twice : {A B : Type 0} (f : A → B) (g : Row → A) (xs : List Row) → map f (map g xs) ≡ map (λ x. f (g x)) xs
map_twice f g [] = refl
map_twice {B = B} f g (x ∷ xs) = ap (λ (bs : List B). f (g x) ∷ bs) (map_twice f g xs)

at_map : (xs : List Row) (i : ℕ) (l : Seen) → slice_get (map seen_row xs) i ≡ Some l → (x : Row) × (slice_get xs i ≡ Some x) × (seen_row x ≡ l)
at_map [] i l e = absurd (cc)
at_map (x ∷ xs) zero l e = (x, refl, cc)
at_map (x ∷ xs) (suc i) l e = at_map xs i l e

same_before : (y x : Row) → name y ≡ name x → before (seen_row y) ≡ before (seen_row x)
same_before y x e =
    let l = y.cell.value in
    let m = x.cell.value in
    let first : l.first ≡ m.first = ap (λ (n : RowName). n.first) e in
    bag_ext (before (seen l.line)) (before (seen m.line)) (λ n s t. l.begins n s t ∙ (ap (λ f. before (seen f.value) n s t) first ∙ sym (m.begins n s t)))

module _ (net : Net) (s : Stored) (lines : ℕ) where
  row_kind : (i : ℕ) (y x : Row) → name y ≡ name x → IsRowFor net s lines i x → IsRowFor net s lines i y
  row_kind i y x e is = record {
    has_net = ap (λ (n : RowName). n.net.value) e ∙ is.has_net;
    has_store = ap (λ (n : RowName). n.store.value) e ∙ is.has_store;
    of_lines = ap (λ (n : RowName). n.lines) e ∙ is.of_lines;
    is_number = ap (λ (n : RowName). n.number) e ∙ is.is_number;
  }

  abbrev phase : ℕ → Seen → Type 0
  phase i l = IsPhase (held_of s) net.nodes (placed (held_of s) net.nodes lines) i l

  row_kept : (i : ℕ) (y x : Row) → name y ≡ name x → x.cell.value.line ≡ x.cell.value.first.value → IsRowFor net s lines i y → phase i (seen_row x) → phase i (seen_row y)
  row_kept i y x e fresh is was =
      let l = y.cell.value in
      let first : l.first ≡ x.cell.value.first = ap (λ (n : RowName). n.first) e in
      let from : seen l.first.value ≡ seen x.cell.value.line = ap (λ f. seen f.value) first ∙ ap seen (sym fresh) in
      let keeps = subst (λ k. KeepsPhase net.nodes s lines k l.first.value l.line) is.is_number
      (subst (λ k. KeepsPhase net.nodes s k l.line.number l.first.value l.line) is.of_lines
      (subst (λ z. KeepsPhase net.nodes z l.lines l.line.number l.first.value l.line) is.has_store
      (subst (λ n. KeepsPhase n.nodes l.store.value l.lines l.line.number l.first.value l.line) is.has_net l.phased))) in
      keeps (subst (λ f. phase i f) (sym from) was)

module _ (net : Net) (s : Stored) (lines : ℕ) (first left : List Task) (v : View Row Entry) (lasts : List Row) (log : List (ARow Entry))
    (set : IsSetUp net s lines v.values) (fresh : AreFresh v.values) (accounts : Accounts entries name signature v lasts log) (balance : Balances first left log) where
  cells_at : (c : ℕ) (x y : Row) → get_elem? v.values c ≡ some x → get_elem? lasts c ≡ some y → (entries y ≡ entries x ++ given_to c log) × (name y ≡ name x)
  cells_at c x y a b =
      let z = accounts.cells c x a in
      let same : z.0 ≡ y = some-injective z.0 y (sym z.1 ∙ b) in
      (ap entries (sym same) ∙ z.2, ap name (sym same) ∙ z.3)

  pub at_end : IsSetUp net s lines lasts
  at_end = record {
    rows = λ i y e. let x = at_same v.values lasts i y accounts.count e in row_kind net s lines i y x.0 (cells_at i x.0 y x.1 e).1 (set.rows i x.0 x.1);
    count = accounts.count ∙ set.count;
    some = set.some;
  }

  pub drained : AreDrained (held_of s) net.nodes (placed (held_of s) net.nodes lines) (map seen_row v.values) (map seen_row lasts) first left
  drained = record {
    begins = map_twice before seen_row lasts ∙ (same_map (λ x. before (seen_row x)) v.values lasts accounts.count (λ k x y p q. same_before y x (cells_at k x y p q).1) ∙ sym (map_twice before seen_row v.values));
    phases = λ i l e.
        let y = at_map lasts i l e in
        let at = to_at lasts i y.0 y.1 in
        let x = at_same v.values lasts i y.0 accounts.count at in record {
          was = seen_row x.0;
          at = slice_get-map seen_row v.values i ∙ ap (option_map seen_row) (from_at v.values i x.0 x.1);
          phase = λ was. subst (phase net s lines i) y.2 (row_kept net s lines i y.0 x.0 (cells_at i x.0 y.0 x.1 at).1 (fresh i x.0 x.1) (at_end.rows i y.0 at) was);
        };
    tasks = λ h.
        let a = lines_entered h lasts in
        let b = lines_entered h v.values in
        let c = whole_log (λ (e : Entry). h e.task) signature log v.values lasts accounts.count accounts.rows (λ k x y p q. (cells_at k x y p q).0) in
        let a' = lines_made h lasts in
        let b' = lines_made h v.values in
        let c' = whole_log (λ (e : Entry). sum_by h e.children) signature log v.values lasts accounts.count accounts.rows (λ k x y p q. (cells_at k x y p q).0) in
        let d = balance h in
        let x = sum_by-append h (tasks_of (entries_of (map seen_row lasts)) ++ left) (children_of (entries_of (map seen_row v.values))) in
        let w = sum_by-append h (tasks_of (entries_of (map seen_row lasts))) left in
        let y = sum_by-append h (tasks_of (entries_of (map seen_row v.values))) (first ++ children_of (entries_of (map seen_row lasts))) in
        let z = sum_by-append h first (children_of (entries_of (map seen_row lasts))) in omega (arith, a, b, c, a', b', c', d, x, w, y, z);
  }

pub log_law : LogLaw
log_law net s lines first left v lasts log set fresh accounts balance = (
  at_end net s lines first left v lasts log set fresh accounts balance,
  drained net s lines first left v lasts log set fresh accounts balance,
)

-- ---- the log by passes

module _ (f : ARow Entry → ℕ) (log : List (ARow Entry)) where
  by_pass : (n : ℕ) (ps : List (Pass Row Entry RowName)) (shares : List (Share Entry)) → AreJoined n ps shares → All (λ (x : Share Entry). rows_of x.pass log ≡ x.rows) shares
      → sum_below (n + length ps) (λ p. weigh f (rows_of p log)) ≡ sum_below n (λ p. weigh f (rows_of p log)) + weigh (λ (p : Pass Row Entry RowName). weigh f (knows p).own) ps
  by_pass n [] [] joined all = let e : n + 0 ≡ n = omega arith in ap (λ k. sum_below k (λ p. weigh f (rows_of p log))) e ∙ (omega arith)
  by_pass n [] (x ∷ xs) joined all = absurd joined
  by_pass n (p ∷ ps) [] joined all = absurd joined
  by_pass n (p ∷ ps) (x ∷ xs) joined all =
      let i = by_pass (suc n) ps xs joined.2 (All-tail (λ (y : Share Entry). rows_of y.pass log ≡ y.rows) x xs all) in
      let one : weigh f (rows_of n log) ≡ weigh f (knows p).own = ap (weigh f) (ap (λ k. rows_of k log) (sym joined.0) ∙ (All-head (λ (y : Share Entry). rows_of y.pass log ≡ y.rows) x xs all ∙ joined.1)) in
      let e : n + length (p ∷ ps) ≡ suc n + length ps = omega arith in
      let j = ap (λ k. sum_below k (λ q. weigh f (rows_of q log))) e in omega (arith, i, one, j)

  pub log_by_pass : (v : View Row Entry) (lasts : List Row) → Accounts entries name signature v lasts log → v.own ≡ [] → (ps : List (Pass Row Entry RowName)) → v.splits ≡ length ps → AreJoined 1 ps v.joined
      → weigh f log ≡ weigh (λ (p : Pass Row Entry RowName). weigh f (knows p).own) ps
  log_by_pass v lasts accounts own ps splits joined =
      let a = accounts.weights f in
      let e : v.splits + 1 ≡ 1 + length ps = omega (arith, splits) in
      let b = ap (λ k. sum_below k (λ p. weigh f (rows_of p log))) e in
      let c = by_pass 1 ps v.joined joined accounts.joined in
      let d : weigh f (rows_of 0 log) ≡ 0 = ap (weigh f) (accounts.own ∙ own) in
      omega (arith, a, b, c, d)
