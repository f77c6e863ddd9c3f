-- What the first pass has after passes were joined to it.
use Rattle.std.proofs.Common.{◌≡◌, ◌≢◌, ℕ, zero, suc, ◌+◌, ◌<◌, List, [], ◌∷◌, ◌++◌, length, refl, sym, ap, subst, ◌∙◌, arith}
use mathlib.Core.Option.{some, some-ne-none}
use mathlib.Core.Logic.{dite}
use native.Mathlib.Decide.{ℕ_discrete}
use lib.ListN.{get_elem?}
use Rattle.net_base.specs.declared.tasks.Task.{Task}
use Rattle.turn_table.specs.declared.views.Share.{Share}
use Rattle.turn_table.specs.declared.views.Sight.{Sight}
use Rattle.free_engine.specs.declared.slots.SlotEntry.{SlotEntry}
use Rattle.free_engine.specs.Counts.{HasWorked, SawQuiet}
use Rattle.free_engine.specs.Teams.{AllJoined}

at_longer : {A : Type 0} (xs ys : List A) (i : ℕ) (x : A) → get_elem? xs i ≡ some x → get_elem? (xs ++ ys) i ≡ some x
at_longer [] ys i x e = absurd (some-ne-none x (sym e))
at_longer (z ∷ zs) ys zero x e = e
at_longer (z ∷ zs) ys (suc i) x e = at_longer zs ys i x e

at_end : {A : Type 0} (xs : List A) (x : A) → get_elem? (xs ++ x ∷ []) (length xs) ≡ some x
at_end [] x = refl
at_end (y ∷ ys) x = at_end ys x

at_after : {A : Type 0} (xs ys : List A) (i : ℕ) (x : A) → get_elem? ys i ≡ some x → get_elem? (xs ++ ys) (length xs + i) ≡ some x
at_after [] ys i x e = ap (λ n. get_elem? ys n) (let z : 0 + i ≡ i = omega arith in z) ∙ e
at_after (z ∷ zs) ys i x e = ap (λ n. get_elem? (z ∷ zs ++ ys) n) (let n : length (z ∷ zs) + i ≡ suc (length zs + i) = omega arith in n) ∙ at_after zs ys i x e

-- one more is joined
pub joined_more : (lines n : ℕ) (old new : List (Share SlotEntry)) (share : Share SlotEntry) → length old ≡ n → new ≡ old ++ share ∷ [] → share.pass ≡ n + 1 → HasWorked lines n share.rows
    → AllJoined lines n old → AllJoined lines (n + 1) new
joined_more lines n old new share count is number worked all = λ w below. dite (ℕ_discrete w n)
    (λ (e : w ≡ n). (
      share,
      ap (λ l. get_elem? l w) is ∙ (ap (λ k. get_elem? (old ++ share ∷ []) k) (e ∙ sym count) ∙ at_end old share),
      number ∙ ap (λ k. k + 1) (sym e),
      subst (λ k. HasWorked lines k share.rows) (sym e) worked,
    ))
    (λ (ne : w ≢ n). let r = all w (let low : w < n = omega (arith, below, ne) in low) in (r.0, ap (λ l. get_elem? l w) is ∙ at_longer old (share ∷ []) w r.0 r.1, r.2, r.3))

-- what the other saw is seen
pub saw_after : (first : List Task) (seen more new : List (Sight SlotEntry)) → new ≡ seen ++ more → SawQuiet first more → SawQuiet first new
saw_after first seen more new is saw = record {
  place = length seen + saw.place;
  sight = saw.sight;
  at = ap (λ l. get_elem? l (length seen + saw.place)) is ∙ at_after seen more saw.place saw.sight saw.at;
  cell = saw.cell;
  list = saw.list;
  list_is = saw.list_is;
  quiet = saw.quiet;
}
