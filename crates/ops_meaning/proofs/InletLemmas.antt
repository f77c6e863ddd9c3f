-- How calls that perform parts of an effect with what is still to come from an input add up to the whole.
use Rattle.std.proofs.Common.{◌≡◌, ℕ, List, [], ◌++◌, Result, Ok, Err, refl, sym, ◌∙◌, subst, IsTrue}
use Rattle.ops_io.specs.Coming.{Coming, Inlet, preceded_by, Took, MayCome, ComesAfter}
use Rattle.ops_io.specs.Ports.{Port, Put, Stopped, PutsBytes}
use Rattle.ops_io.specs.declared.stop.Stop.{Stop}
use Rattle.ops_io.specs.declared.stop.Stop.TheVariants as stop
use Rattle.ops_io.proofs.PortLemmas.{stopped_more, put_short}
use Rattle.ops_io.proofs.ComingLemmas.{took_nothing, took_then, precede_twice, comes_before, comes_after_last, comes_whole, steady_comes}
use Rattle.ops_meaning.specs.Effects.{Effect, writes, led_by, and_then, told_as, Failure, OfPort, failure_as, Fails, Performs, Pending, PerformsOn, PendingOn}
use Rattle.ops_meaning.proofs.EffectLemmas.{Leaves, performs_led, performs_then, performs_nothing, fails_front, fails_behind, performs_puts, told_leaves, told_fails, told_performs, pending_start, pending_last, pending_step}

-- What a call leaves that performs an effect with what is to come and went well, no read having failed: it took bytes,
-- and whatever may come after them, all was put and this is left.
pub record LeavesOn {E S : Type 0} (s : Coming → S) (before now : Inlet) (old new : Port) (e : Coming → Effect E S) : Type 0 where
  pub taken : List ℕ
  pub took : Took before now taken
  pub steady : now.faults ≡ before.faults
  pub leaves : (c : Coming) → MayCome now c → Leaves (s c) old new (e (preceded_by taken c))

-- what a call leaves that performs an effect with what is to come and fails so
pub record FailsOn {E S : Type 0} (f : Failure E) (before now : Inlet) (old new : Port) (e : Coming → Effect E S) : Type 0 where
  pub taken : List ℕ
  pub took : Took before now taken
  pub fails : (c : Coming) → ComesAfter before now c → Fails f old new (e (preceded_by taken c))

-- ---- by the answer of a call

-- it went well
pub leaves_on : {X F E S : Type 0} (view : X → Coming → S) (failure : F → Failure E) (x : X) (i j : Inlet) (a b : Port) (e : Coming → Effect E S) → j.faults ≡ i.faults → (let r : Result X F = Ok x in PerformsOn view failure r i j a b e) → LeavesOn (view x) i j a b e
leaves_on view failure x i j a b e steady p =
    record { taken = p.taken; took = p.took; steady = steady; leaves = λ c may. p.performs c (steady_comes i j c steady may) }

-- it failed
pub fails_on : {X F E S : Type 0} (view : X → Coming → S) (failure : F → Failure E) (f : F) (i j : Inlet) (a b : Port) (e : Coming → Effect E S) → (let r : Result X F = Err f in PerformsOn view failure r i j a b e) → FailsOn (failure f) i j a b e
fails_on view failure f i j a b e p = record { taken = p.taken; took = p.took; fails = p.performs }

-- so it answers that it went well
pub on_ok : {X F E S : Type 0} (view : X → Coming → S) (failure : F → Failure E) (x : X) (i j : Inlet) (a b : Port) (e : Coming → Effect E S) → LeavesOn (view x) i j a b e → (let r : Result X F = Ok x in PerformsOn view failure r i j a b e)
on_ok view failure x i j a b e p =
    record { taken = p.taken; took = p.took; performs = λ c h. p.leaves c (comes_whole i j c p.steady h) }

-- and so that it failed
pub on_err : {X F E S : Type 0} (view : X → Coming → S) (failure : F → Failure E) (f : F) (i j : Inlet) (a b : Port) (e : Coming → Effect E S) → FailsOn (failure f) i j a b e → (let r : Result X F = Err f in PerformsOn view failure r i j a b e)
on_err view failure f i j a b e p = record { taken = p.taken; took = p.took; performs = p.fails }

-- ---- calls that touch no input

pub leaves_apart : {E S : Type 0} (s : Coming → S) (i : Inlet) (a b : Port) (e : Coming → Effect E S) → ((c : Coming) → Leaves (s c) a b (e c)) → LeavesOn s i i a b e
leaves_apart s i a b e p = record { taken = []; took = took_nothing i; steady = refl; leaves = λ c h. p c }

pub fails_apart : {E S : Type 0} (f : Failure E) (i : Inlet) (a b : Port) (e : Coming → Effect E S) → ((c : Coming) → Fails f a b (e c)) → FailsOn f i i a b e
fails_apart f i a b e p = record { taken = []; took = took_nothing i; fails = λ c h. p c }

pub performs_apart : {X F E S : Type 0} (view : X → Coming → S) (failure : F → Failure E) (r : Result X F) (i : Inlet) (a b : Port) (e : Coming → Effect E S) → ((c : Coming) → Performs (λ x. view x c) failure r a b (e c)) → PerformsOn view failure r i i a b e
performs_apart view failure r i a b e p = record { taken = []; took = took_nothing i; performs = λ c h. p c }

-- nothing is taken and nothing written, and this is left
pub leaves_nothing : {E S : Type 0} (s : Coming → S) (i : Inlet) (a : Port) → IsTrue a.out.whole → LeavesOn {E = E} s i i a a (λ c. writes [] (s c))
leaves_nothing s i a w = leaves_apart s i a a (λ c. writes [] (s c)) (λ c. performs_nothing (s c) a w)

-- a call that puts these bytes
pub puts_apart : {X W E S : Type 0} (s : Coming → S) (failure : W → Failure E) (r : Result X W) (i : Inlet) (a b : Port) (bytes : List ℕ) → ((w : W) → failure w ≡ OfPort stop.Write) → PutsBytes r a b bytes → PerformsOn (λ _ c. s c) failure r i i a b (λ c. writes bytes (s c))
puts_apart s failure r i a b bytes is p =
    performs_apart (λ _ c. s c) failure r i a b (λ c. writes bytes (s c)) (λ c. performs_puts (s c) failure r a b bytes is p)

-- ---- calls that gave up

-- the sink or memory refused before anything of the effect was put, also after bytes were taken
pub stops_on : {E S : Type 0} (why : Stop) (i j : Inlet) (a b : Port) (taken : List ℕ) (e : Coming → Effect E S) → Took i j taken → Stopped why a b [] → FailsOn (OfPort why) i j a b e
stops_on why i j a b taken e t p =
    record { taken = taken; took = t; fails = λ c h. stopped_more why a b [] (e (preceded_by taken c)).bytes p }

-- memory ran out before anything of the effect was put
pub short_on : {E S : Type 0} (i j : Inlet) (a b : Port) (taken : List ℕ) (e : Coming → Effect E S) → Took i j taken → Put a b [] → FailsOn (OfPort stop.OutOfMemory) i j a b e
short_on i j a b taken e t p = stops_on stop.OutOfMemory i j a b taken e t (put_short a b [] [] p)

-- memory ran out after all was put that the effect writes
pub short_behind : {D E S T : Type 0} (s : Coming → S) (i j : Inlet) (a b : Port) (e : Coming → Effect D S) (whole : Coming → Effect E T) → ((c : Coming) → (e c).bytes ≡ (whole c).bytes) → LeavesOn s i j a b e → FailsOn (OfPort stop.OutOfMemory) i j a b whole
short_behind s i j a b e whole same p = record {
  taken = p.taken;
  took = p.took;
  fails = λ c h.
      let put = (p.leaves c (comes_whole i j c p.steady h)).1 in
      let P : List ℕ → Type 0 = Put a b in
      fails_behind a b (whole (preceded_by p.taken c)) (subst P (same (preceded_by p.taken c)) put);
}

-- ---- after a put or a flush

pub performs_on_led : {X F E S : Type 0} (view : X → Coming → S) (failure : F → Failure E) (r : Result X F) (i j : Inlet) (a b c : Port) (xs : List ℕ) (e : Coming → Effect E S) → Put a b xs → PerformsOn view failure r i j b c e → PerformsOn view failure r i j a c (λ z. led_by xs (e z))
performs_on_led view failure r i j a b c xs e p q = record {
  taken = q.taken;
  took = q.took;
  performs = λ z h. performs_led (λ x. view x z) failure r a b c xs (e (preceded_by q.taken z)) p (q.performs z h);
}

-- What follows a put of nothing, as a flush is, is the whole.
pub performs_after : {X F E S : Type 0} (view : X → Coming → S) (failure : F → Failure E) (r : Result X F) (i j : Inlet) (a b c : Port) (e : ℕ → Coming → Effect E S) → Put a b [] → PerformsOn view failure r i j b c (e b.out.column) → PerformsOn view failure r i j a c (e a.out.column)
performs_after view failure r i j a b c e p q =
    let P : ℕ → Type 0 = λ n. PerformsOn view failure r i j b c (e n) in
    performs_on_led view failure r i j a b c [] (e a.out.column) p (subst P p.column q)

-- ---- one part, and then the next

-- Of two calls, in the first of which no read failed, what holds after the second of what the first took, then the
-- second, and then is to come, holds after both.
behind : {E T : Type 0} (i j k : Inlet) (xs ys : List ℕ) (P : Coming → Effect E T → Type 0) (whole : Coming → Effect E T) → j.faults ≡ i.faults → Took j k ys
    → ((c : Coming) → ComesAfter j k c → MayCome j (preceded_by ys c) → P c (whole (preceded_by xs (preceded_by ys c)))) → (c : Coming) → ComesAfter i k c → P c (whole (preceded_by (xs ++ ys) c))
behind i j k xs ys P whole steady took p c h =
    let after = comes_after_last i j k c steady h in
    let Q : Coming → Type 0 = λ d. P c (whole d) in
    subst Q (precede_twice xs ys c) (p c after (comes_before j k ys c took after))

module _ {E S T : Type 0} (s : Coming → S) (i j k : Inlet) (a b c : Port) (e : Coming → Effect E S) (next : ℕ → S → Effect E T) (p : LeavesOn s i j a b e) where
  pub performs_on_then : {Y F : Type 0} (seen : Y → Coming → T) (failure : F → Failure E) (r : Result Y F) → PerformsOn seen failure r j k b c (λ z. next b.out.column (s z)) → PerformsOn seen failure r i k a c (λ z. and_then a.out.column (e z) next)
  performs_on_then seen failure r q = record {
    taken = p.taken ++ q.taken;
    took = took_then i j k p.taken q.taken p.took q.took;
    performs = behind i j k p.taken q.taken (λ z. Performs (λ y. seen y z) failure r a c) (λ z. and_then a.out.column (e z) next) p.steady q.took
        (λ z after may. performs_then (λ y. seen y z) failure (s (preceded_by q.taken z)) r a b c (e (preceded_by p.taken (preceded_by q.taken z))) next (p.leaves (preceded_by q.taken z) may) (q.performs z after));
  }

  pub fails_on_then : (f : Failure E) → FailsOn f j k b c (λ z. next b.out.column (s z)) → FailsOn f i k a c (λ z. and_then a.out.column (e z) next)
  fails_on_then f q =
      let view : (Coming → T) → Coming → T = λ x. x in
      fails_on view (λ g. g) f i k a c (λ z. and_then a.out.column (e z) next) (performs_on_then view (λ g. g) (Err f) (on_err view (λ g. g) f j k b c (λ z. next b.out.column (s z)) q))

  pub leaves_on_then : (t : Coming → T) → LeavesOn t j k b c (λ z. next b.out.column (s z)) → LeavesOn t i k a c (λ z. and_then a.out.column (e z) next)
  leaves_on_then t q =
      let view : (Coming → T) → Coming → T = λ x. x in
      let failure : Failure E → Failure E = λ g. g in
      leaves_on view failure t i k a c (λ z. and_then a.out.column (e z) next) (q.steady ∙ p.steady) (performs_on_then view failure (Ok t) (on_ok view failure t j k b c (λ z. next b.out.column (s z)) q))

-- a part that failed ends the whole
pub fails_on_front : {E S T : Type 0} (f : Failure E) (i j : Inlet) (a b : Port) (column : ℕ) (e : Coming → Effect E S) (next : ℕ → S → Effect E T) → FailsOn f i j a b e → FailsOn f i j a b (λ z. and_then column (e z) next)
fails_on_front f i j a b column e next p =
    record { taken = p.taken; took = p.took; fails = λ c h. fails_front f a b column (e (preceded_by p.taken c)) next (p.fails c h) }

-- ---- effects that are put another way

pub told_leaves_on : {E F S T : Type 0} (left : S → T) (end : E → F) (s : Coming → S) (i j : Inlet) (a b : Port) (e : Coming → Effect E S) → LeavesOn s i j a b e → LeavesOn (λ c. left (s c)) i j a b (λ c. told_as left end (e c))
told_leaves_on left end s i j a b e p =
    record { taken = p.taken; took = p.took; steady = p.steady; leaves = λ c h. told_leaves left end (s c) a b (e (preceded_by p.taken c)) (p.leaves c h) }

pub told_fails_on : {E F S T : Type 0} (left : S → T) (end : E → F) (f : Failure E) (i j : Inlet) (a b : Port) (e : Coming → Effect E S) → FailsOn f i j a b e → FailsOn (failure_as end f) i j a b (λ c. told_as left end (e c))
told_fails_on left end f i j a b e p =
    record { taken = p.taken; took = p.took; fails = λ c h. told_fails left end f a b (e (preceded_by p.taken c)) (p.fails c h) }

pub told_performs_on : {X G E F S T : Type 0} (left : S → T) (end : E → F) (view : X → Coming → S) (failure : G → Failure E) (r : Result X G) (i j : Inlet) (a b : Port) (e : Coming → Effect E S) → PerformsOn view failure r i j a b e → PerformsOn (λ x c. left (view x c)) (λ g. failure_as end (failure g)) r i j a b (λ c. told_as left end (e c))
told_performs_on left end view failure r i j a b e p =
    record { taken = p.taken; took = p.took; performs = λ c h. told_performs left end (λ x. view x c) failure r a b (e (preceded_by p.taken c)) (p.performs c h) }

-- ---- loops

pub pending_on_start : {E S : Type 0} (i : Inlet) (a : Port) (whole : Coming → Effect E S) → IsTrue a.out.whole → PendingOn i i a a whole whole
pending_on_start i a whole w = record { taken = []; took = took_nothing i; steady = refl; pending = λ c h. pending_start a (whole c) w }

module _ {E S : Type 0} (i j k : Inlet) (a b c : Port) (whole rest : Coming → Effect E S) (p : PendingOn i j a b whole rest) where
  -- the rest performs the whole
  pub pending_on_last : {X F : Type 0} (view : X → Coming → S) (failure : F → Failure E) (r : Result X F) → PerformsOn view failure r j k b c rest → PerformsOn view failure r i k a c whole
  pending_on_last view failure r q = record {
    taken = p.taken ++ q.taken;
    took = took_then i j k p.taken q.taken p.took q.took;
    performs = behind i j k p.taken q.taken (λ z. Performs (λ x. view x z) failure r a c) whole p.steady q.took
        (λ z after may. pending_last (λ x. view x z) failure r a b c (whole (preceded_by p.taken (preceded_by q.taken z))) (rest (preceded_by q.taken z)) (p.pending (preceded_by q.taken z) may) (q.performs z after));
  }

  -- the rest fails as the whole
  pub pending_on_fails : (f : Failure E) → FailsOn f j k b c rest → FailsOn f i k a c whole
  pending_on_fails f q =
      let view : (Coming → S) → Coming → S = λ x. x in
      fails_on view (λ g. g) f i k a c whole (pending_on_last view (λ g. g) (Err f) (on_err view (λ g. g) f j k b c rest q))

  -- the rest is done
  pub pending_on_done : (s : Coming → S) → LeavesOn s j k b c rest → LeavesOn s i k a c whole
  pending_on_done s q =
      let view : (Coming → S) → Coming → S = λ x. x in
      let failure : Failure E → Failure E = λ g. g in
      leaves_on view failure s i k a c whole (q.steady ∙ p.steady) (pending_on_last view failure (Ok s) (on_ok view failure s j k b c rest q))

  -- one part more
  pub pending_on_step : {D : Type 0} (s : Coming → D) (e : Coming → Effect E D) (next : ℕ → D → Effect E S) → ((z : Coming) → rest z ≡ and_then b.out.column (e z) next) → LeavesOn s j k b c e → PendingOn i k a c whole (λ z. next c.out.column (s z))
  pending_on_step s e next is q =
      let steady = q.steady ∙ p.steady in
      record {
        taken = p.taken ++ q.taken;
        took = took_then i j k p.taken q.taken p.took q.took;
        steady = steady;
        pending = λ z h. behind i j k p.taken q.taken (λ z w. Pending a c w (next c.out.column (s z))) whole p.steady q.took
            (λ z after may. let d = preceded_by q.taken z in
            pending_step (s z) a b c (whole (preceded_by p.taken d)) (rest d) (e d) next (p.pending d may) (is d) (q.leaves z (comes_whole j k z q.steady after)))
            z (steady_comes i k z steady h);
      }

  -- the next part ends it
  pub pending_on_stop : {D : Type 0} (f : Failure E) (e : Coming → Effect E D) (next : ℕ → D → Effect E S) → ((z : Coming) → rest z ≡ and_then b.out.column (e z) next) → FailsOn f j k b c e → FailsOn f i k a c whole
  pending_on_stop f e next is q =
      let P : (Coming → Effect E S) → Type 0 = FailsOn f j k b c in
      pending_on_fails f (subst P (sym (λ n z. is z n)) (fails_on_front f j k b c b.out.column e next q))
