-- One entry more.
use Rattle.std.proofs.Common.{◌≡◌, ℕ, ◌+◌, ◌-◌, ◌<◌, List, [], ◌∷◌, ◌++◌, length, true, false, sym, ap, ◌∙◌, refl, arith}
use Rattle.std.specs.Prelude.{Option, Some, None}
use Rattle.std.specs.Option.{is_some}
use Rattle.net_base.specs.declared.tasks.Task.{Task}
use Rattle.task_pool.specs.declared.pool.PoolEntry.{PoolEntry}
use Rattle.task_pool.specs.declared.pool.PoolEntry.TheVariants.{Take, Finish, Stop}
use Rattle.task_pool.specs.Pools.{is_in, rest, after_entry, MayCome, begun, played, first_stop, holds, HasPlayed, IsQuiet}
use Rattle.task_pool.proofs.PoolLaws.{after-append, run-append, fewer, holders_law}

abbrev pub stop_at : Option ℕ → PoolEntry → Option ℕ
stop_at None (Take w t) = None
stop_at None (Finish w cs) = None
stop_at None (Stop w) = Some w
stop_at (Some by) e = Some by

stop-snoc : (es : List PoolEntry) (e : PoolEntry) → first_stop (es ++ e ∷ []) ≡ stop_at (first_stop es) e
stop-snoc [] (Take w t) = refl
stop-snoc [] (Finish w cs) = refl
stop-snoc [] (Stop w) = refl
stop-snoc (Take w t ∷ es) e = stop-snoc es e
stop-snoc (Finish w cs ∷ es) e = stop-snoc es e
stop-snoc (Stop w ∷ es) e = refl

none-left : (xs : List ℕ) → length xs ≡ 0 → xs ≡ []
none-left [] e = refl
none-left (x ∷ xs) e = absurd (omega arith)

module _ (first queue : List Task) (es : List PoolEntry) (n : ℕ) (stopped : Option ℕ) (was : HasPlayed first queue es n stopped) where
  more : (e : PoolEntry) (queue' : List Task) (n' : ℕ) → MayCome (played first es) e → (after_entry (played first es) e).queue ≡ queue' → length (after_entry (played first es) e).busy ≡ n'
      → HasPlayed first queue' (es ++ e ∷ []) n' (stop_at stopped e)
  more e queue' n' may q b =
      let a : played first (es ++ e ∷ []) ≡ after_entry (played first es) e = after-append (begun first) es (e ∷ []) in
      record {
        run = run-append (begun first) es (e ∷ []) was.run (may, tt);
        queue_is = ap (λ p. p.queue) a ∙ q;
        busy_are = ap (λ p. length p.busy) a ∙ b;
        stop_is = stop-snoc es e ∙ ap (λ s. stop_at s e) was.stop_is;
      }

  is_busy : (w : ℕ) → holds w es ≡ true → is_in w (played first es).busy ≡ true
  is_busy w held = holders_law first es was.run w ∙ held

  pub some_busy : (w : ℕ) → holds w es ≡ true → 0 < n
  some_busy w held = let b = was.busy_are in let f = fewer w (played first es).busy (is_busy w held) in omega (arith, b, f)

  pub takes : (w : ℕ) (t : Task) (ts : List Task) → queue ≡ t ∷ ts → holds w es ≡ false → HasPlayed first ts (es ++ Take w t ∷ []) (n + 1) (stop_at stopped (Take w t))
  takes w t ts e free =
      let q = was.queue_is ∙ e in
      more (Take w t) ts (n + 1) (q ∙ ap (λ l. t ∷ l) (sym (ap rest q)), holders_law first es was.run w ∙ free) (ap rest q) (let b = was.busy_are in omega (arith, b))

  pub finishes : (w : ℕ) (cs : List Task) → holds w es ≡ true → HasPlayed first (queue ++ cs) (es ++ Finish w cs ∷ []) (n - 1) (stop_at stopped (Finish w cs))
  finishes w cs held =
      let inside = is_busy w held in
      more (Finish w cs) (queue ++ cs) (n - 1) inside (ap (λ l. l ++ cs) was.queue_is) (let b = was.busy_are in let f = fewer w (played first es).busy inside in omega (arith, b, f))

  pub stops : (w : ℕ) → holds w es ≡ true → HasPlayed first queue (es ++ Stop w ∷ []) (n - 1) (stop_at stopped (Stop w))
  stops w held =
      let inside = is_busy w held in
      more (Stop w) queue (n - 1) inside was.queue_is (let b = was.busy_are in let f = fewer w (played first es).busy inside in omega (arith, b, f))

  pub is_quiet : queue ≡ [] → n ≡ 0 → IsQuiet first es
  is_quiet q z = record { queue = was.queue_is ∙ q; busy = none-left (played first es).busy (was.busy_are ∙ z) }

pub stays_none : (es : List PoolEntry) (stopped : Option ℕ) → stopped ≡ None → (w : ℕ) (t : Task) → stop_at stopped (Take w t) ≡ stopped
stays_none es stopped e w t = ap (λ s. stop_at s (Take w t)) e ∙ sym e

-- a first stop stays, and where there is none the stop is the first
pub stop_none : (stopped : Option ℕ) (w : ℕ) → is_some stopped ≡ false → stop_at stopped (Stop w) ≡ Some w
stop_none None w e = refl
stop_none (Some by) w e = absurd (let z = e in cc)

pub stop_some : (stopped : Option ℕ) (w : ℕ) → is_some stopped ≡ true → stop_at stopped (Stop w) ≡ stopped
stop_some None w e = absurd (let z = e in cc)
stop_some (Some by) w e = refl

pub finish_same : (stopped : Option ℕ) (w : ℕ) (cs : List Task) → stop_at stopped (Finish w cs) ≡ stopped
finish_same None w cs = refl
finish_same (Some by) w cs = refl
