-- Rounds, one after another.
use Rattle.std.proofs.Common.{◌≡◌, ℕ, ◌+◌, ◌<◌, false, List, [], ◌∷◌, ◌++◌, refl, sym, ap, ◌∙◌, append-nil}
use Rattle.std.proofs.lemmas.List.{append_assoc}
use Rattle.turn_table.specs.declared.views.Row.{Row}
use Rattle.task_pool.specs.declared.pool.PoolEntry.TheVariants.{Take, Finish}
use Rattle.free_engine.specs.declared.slots.SlotEntry.{SlotEntry}
use Rattle.free_engine.specs.declared.slots.SlotEntry.TheVariants.{OfPool, OfLine}
use Rattle.free_engine.specs.Counts.{Round, rows_of_round, rows_of_rounds, AreInside, HasWorked}
use Rattle.free_engine.specs.Turns.{has_taken, a_row}
use Rattle.free_engine.proofs.Holding.{let_go}

pub three : (w : ℕ) (x : Round) (o0 o1 o2 o3 : List (Row SlotEntry)) → o1 ≡ o0 ++ a_row w 0 (OfPool (Take w x.entry.task)) → o2 ≡ o1 ++ a_row w (x.line + 1) (OfLine x.entry)
    → o3 ≡ o2 ++ a_row w 0 (OfPool (Finish w x.entry.children)) → o3 ≡ o0 ++ rows_of_round w x
three w x o0 o1 o2 o3 a b c = c ∙ (ap (λ l. l ++ a_row w 0 (OfPool (Finish w x.entry.children))) (b ∙ ap (λ l. l ++ a_row w (x.line + 1) (OfLine x.entry)) a)
    ∙ (append_assoc (o0 ++ a_row w 0 (OfPool (Take w x.entry.task))) (a_row w (x.line + 1) (OfLine x.entry)) (a_row w 0 (OfPool (Finish w x.entry.children)))
    ∙ append_assoc o0 (a_row w 0 (OfPool (Take w x.entry.task))) (a_row w (x.line + 1) (OfLine x.entry) ++ a_row w 0 (OfPool (Finish w x.entry.children)))))

pub round_free : (w : ℕ) (x : Round) (own own' : List (Row SlotEntry)) → own' ≡ own ++ rows_of_round w x → has_taken w own' ≡ false
round_free w x own own' is =
    let o1 = own ++ a_row w 0 (OfPool (Take w x.entry.task)) in
    let o2 = o1 ++ a_row w (x.line + 1) (OfLine x.entry) in
    let_go w x.entry.children o2 own' (is ∙ sym (three w x own o1 o2 (o2 ++ a_row w 0 (OfPool (Finish w x.entry.children))) refl refl refl))

rounds-snoc : (w : ℕ) (xs : List Round) (x : Round) → rows_of_rounds w (xs ++ x ∷ []) ≡ rows_of_rounds w xs ++ rows_of_round w x
rounds-snoc w [] x = append-nil (rows_of_round w x)
rounds-snoc w (y ∷ ys) x = ap (λ l. rows_of_round w y ++ l) (rounds-snoc w ys x) ∙ sym (append_assoc (rows_of_round w y) (rows_of_rounds w ys) (rows_of_round w x))

inside-snoc : (lines : ℕ) (xs : List Round) (x : Round) → AreInside lines xs → x.line < lines → AreInside lines (xs ++ x ∷ [])
inside-snoc lines [] x all low = (low, tt)
inside-snoc lines (y ∷ ys) x all low = (all.0, inside-snoc lines ys x all.1 low)

pub one_more : (lines w : ℕ) (x : Round) (own own' : List (Row SlotEntry)) → x.line < lines → own' ≡ own ++ rows_of_round w x → HasWorked lines w own → HasWorked lines w own'
one_more lines w x own own' low is was = record {
  rounds = was.rounds ++ x ∷ [];
  inside = inside-snoc lines was.rounds x was.inside low;
  own_is = is ∙ (ap (λ l. l ++ rows_of_round w x) was.own_is ∙ sym (rounds-snoc w was.rounds x));
}
