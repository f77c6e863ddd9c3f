-- Cells that are made one after another, and lines that are taken out of them.
use Rattle.std.proofs.Common.{◌≡◌, ℕ, List, [], ◌∷◌, ◌++◌, refl, ap, ◌∙◌}
use Rattle.work_store.specs.Stored.{Stored}
use Rattle.net_base.specs.declared.net.Net.{Net}
use Rattle.net_base.specs.declared.tasks.Task.{Task}
use Rattle.token_line.specs.declared.line.Line.{Line}
use Rattle.free_engine.specs.declared.slots.Slot.{Slot}
use Rattle.free_engine.specs.declared.slots.Slot.TheVariants.{Pool as InPool, Line as InLine}
use Rattle.free_engine.specs.Openings.{AreRows, IsOpened, IsRowOfLine, rows_in}

module _ (net : Net) (s : Stored) where
  rows_more : (count : ℕ) (ls : List Line) (l : Line) (xs : List Slot) (x : Slot) → AreRows net s count ls xs → IsRowOfLine net s count l x → AreRows net s count (ls ++ l ∷ []) (xs ++ x ∷ [])
  rows_more count [] l [] x are is = (is, tt)
  rows_more count [] l (y ∷ ys) x are is = absurd are
  rows_more count (m ∷ ms) l [] x are is = absurd are
  rows_more count (m ∷ ms) l (y ∷ ys) x are is = (are.0, rows_more count ms l ys x are.1 is)

  pub one_more_row : (workers : ℕ) (first : List Task) (count : ℕ) (ls : List Line) (l : Line) (values values' : List Slot) (x : Slot)
      → IsOpened net s workers first count ls values → IsRowOfLine net s count l x → values' ≡ values ++ x ∷ [] → IsOpened net s workers first count (ls ++ l ∷ []) values'
  one_more_row workers first count ls l values values' x was is e = record {
    pool = was.pool;
    rows = was.rows ++ x ∷ [];
    is = e ∙ ap (λ (xs : List Slot). xs ++ x ∷ []) was.is;
    has_pool = was.has_pool;
    fresh = was.fresh;
    are = rows_more count ls l was.rows x was.are is;
  }

pub rows_in-snoc : (xs : List Slot) (y : Slot) → rows_in (xs ++ y ∷ []) ≡ rows_in xs ++ rows_in (y ∷ [])
rows_in-snoc [] y = refl
rows_in-snoc (InPool p ∷ xs) y = rows_in-snoc xs y
rows_in-snoc (InLine l ∷ xs) y = ap (λ (ls : List Line). l.value.line ∷ ls) (rows_in-snoc xs y)
