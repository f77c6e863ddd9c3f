-- How calls that perform parts of an effect add up to the whole.
use Rattle.std.proofs.Common.{◌≡◌, ℕ, List, [], ◌++◌, Result, Ok, Err, refl, sym, ap, ◌∙◌, subst, append_assoc, IsTrue}
use Rattle.std.proofs.lemmas.List.{append-nil}
use Rattle.ops_io.specs.Output.{column_after}
use Rattle.ops_io.specs.Ports.{Port, Put, Stopped, PutsBytes}
use Rattle.ops_io.specs.declared.stop.Stop.{Stop}
use Rattle.ops_io.specs.declared.stop.Stop.TheVariants as stop
use Rattle.ops_io.proofs.PortLemmas.{put_nothing, put_then, stopped_then, stopped_more, put_short}
use Rattle.ops_meaning.specs.Effects.{Effect, writes, led_by, going_on, and_then, told_as, outcome_as, followed_by, silent, Failure, OfPort, OfEffect, failure_as, Fails, Performs, Pending}

-- All was put, and this is left: what a call leaves that performs an effect and answers so.
abbrev pub Leaves : {E S : Type 0} → S → Port → Port → Effect E S → Type 0
Leaves s a b e = (e.outcome ≡ Ok s) × Put a b e.bytes

-- after a put, an effect fails that is led by the bytes that were put
pub fails_led : {E S : Type 0} (f : Failure E) (a b c : Port) (xs : List ℕ) (e : Effect E S) → Put a b xs → Fails f b c e → Fails f a c (led_by xs e)
fails_led (OfPort why) a b c xs e p q = stopped_then why a b c xs e.bytes p q
fails_led (OfEffect f) a b c xs e p q = (q.0, put_then a b c xs e.bytes p q.1)

-- after a put, what a call performs is led by the bytes that were put
pub performs_led : {X F E S : Type 0} (view : X → S) (failure : F → Failure E) (r : Result X F) (a b c : Port) (xs : List ℕ) (e : Effect E S) → Put a b xs → Performs view failure r b c e → Performs view failure r a c (led_by xs e)
performs_led view failure (Ok x) a b c xs e p q = (q.0, put_then a b c xs e.bytes p q.1)
performs_led view failure (Err f) a b c xs e p q = fails_led (failure f) a b c xs e p q

-- what follows a part that left something begins at the column after its bytes
and_then-ok : {E S T : Type 0} (a b : Port) (e : Effect E S) (s : S) (next : ℕ → S → Effect E T) → Leaves s a b e → led_by e.bytes (next b.out.column s) ≡ and_then a.out.column e next
and_then-ok a b e s next p =
    ap (λ n. led_by e.bytes (next n s)) p.1.column ∙ ap (λ o. going_on e.bytes o (next (column_after a.out.column e.bytes))) (sym p.0)

-- one part, and then the next
pub performs_then : {Y F E S T : Type 0} (seen : Y → T) (failure : F → Failure E) (s : S) (r : Result Y F) (a b c : Port) (e : Effect E S) (next : ℕ → S → Effect E T) → Leaves s a b e → Performs seen failure r b c (next b.out.column s) → Performs seen failure r a c (and_then a.out.column e next)
performs_then {E = E} {T = T} seen failure s r a b c e next p q =
    let P : Effect E T → Type 0 = Performs seen failure r a c in
    subst P (and_then-ok a b e s next p) (performs_led seen failure r a b c e.bytes (next b.out.column s) p.1 q)

-- the bytes of a part are the front of those of it and the next
pub and_then-front : {E S T : Type 0} (column : ℕ) (e : Effect E S) (next : ℕ → S → Effect E T) → (more : List ℕ) × ((and_then column e next).bytes ≡ e.bytes ++ more)
and_then-front {E} {S} column e next = by e.outcome
  where
    by : (o : Result S E) → (more : List ℕ) × ((going_on e.bytes o (next (column_after column e.bytes))).bytes ≡ e.bytes ++ more)
    by (Ok s) = ((next (column_after column e.bytes) s).bytes, refl)
    by (Err f) = ([], sym (append-nil e.bytes))

and_then-err : {E S T : Type 0} (column : ℕ) (e : Effect E S) (f : E) (next : ℕ → S → Effect E T) → e.outcome ≡ Err f → (let whole : Effect E T = record { bytes = e.bytes; outcome = Err f } in whole ≡ and_then column e next)
and_then-err column e f next is = ap (λ o. going_on e.bytes o (next (column_after column e.bytes))) (sym is)

-- a part that failed ends the whole
pub fails_front : {E S T : Type 0} (f : Failure E) (a b : Port) (column : ℕ) (e : Effect E S) (next : ℕ → S → Effect E T) → Fails f a b e → Fails f a b (and_then column e next)
fails_front (OfPort why) a b column e next p =
    let front = and_then-front column e next in
    let P : List ℕ → Type 0 = Stopped why a b in
    subst P (sym front.1) (stopped_more why a b e.bytes front.0 p)
fails_front {E = E} {T = T} (OfEffect f) a b column e next p =
    let P : Effect E T → Type 0 = Fails (OfEffect f) a b in subst P (and_then-err column e f next p.0) (refl, p.1)

-- nothing is written, and this is left
pub performs_nothing : {E S : Type 0} (s : S) (a : Port) → IsTrue a.out.whole → Leaves {E = E} s a a (writes [] s)
performs_nothing s a w = (refl, put_nothing a w)

-- memory ran out before anything was written
pub fails_short : {E S : Type 0} (a : Port) (e : Effect E S) → IsTrue a.out.whole → Fails (OfPort stop.OutOfMemory) a a e
fails_short a e w = put_short a a [] e.bytes (put_nothing a w)

-- memory ran out after all was written
pub fails_behind : {E S : Type 0} (a b : Port) (e : Effect E S) → Put a b e.bytes → Fails (OfPort stop.OutOfMemory) a b e
fails_behind a b e p = let P : List ℕ → Type 0 = Stopped stop.OutOfMemory a b in subst P (append-nil e.bytes) (put_short a b e.bytes [] p)

-- a call that gave up, where its failure stands for that
pub fails_stopped : {E S : Type 0} (why : Stop) (f : Failure E) (a b : Port) (e : Effect E S) → f ≡ OfPort why → Stopped why a b e.bytes → Fails f a b e
fails_stopped {E} why f a b e is p = let P : Failure E → Type 0 = λ g. Fails g a b e in subst P (sym is) p

-- ---- puts

-- a call that puts these bytes performs an effect that writes them and leaves this, where a refused write is no end of
-- the effect's own
pub performs_puts : {X W E S : Type 0} (s : S) (failure : W → Failure E) (r : Result X W) (a b : Port) (bytes : List ℕ) → ((w : W) → failure w ≡ OfPort stop.Write) → PutsBytes r a b bytes → Performs (λ _. s) failure r a b (writes bytes s)
performs_puts s failure (Ok x) a b bytes is p = (refl, p)
performs_puts s failure (Err w) a b bytes is p = fails_stopped stop.Write (failure w) a b (writes bytes s) (is w) p

-- ---- effects that are put another way

-- what is left is put another way, where the part came to its end
pub told_leaves : {E F S T : Type 0} (left : S → T) (end : E → F) (s : S) (a b : Port) (e : Effect E S) → Leaves s a b e → Leaves (left s) a b (told_as left end e)
told_leaves left end s a b e p = (ap (outcome_as left end) p.0, p.1)

-- the failure is put another way, where it failed
pub told_fails : {E F S T : Type 0} (left : S → T) (end : E → F) (f : Failure E) (a b : Port) (e : Effect E S) → Fails f a b e → Fails (failure_as end f) a b (told_as left end e)
told_fails left end (OfPort why) a b e p = p
told_fails left end (OfEffect f) a b e p = (ap (outcome_as left end) p.0, p.1)

-- the same of any answer
pub told_performs : {X G E F S T : Type 0} (left : S → T) (end : E → F) (view : X → S) (failure : G → Failure E) (r : Result X G) (a b : Port) (e : Effect E S) → Performs view failure r a b e → Performs (λ x. left (view x)) (λ f. failure_as end (failure f)) r a b (told_as left end e)
told_performs left end view failure (Ok x) a b e p = told_leaves left end (view x) a b e p
told_performs left end view failure (Err f) a b e p = told_fails left end (failure f) a b e p

-- ---- effects that write nothing

-- what follows what went well is the next part, where nothing is written
pub silent_then : {E S T : Type 0} (column : ℕ) (r : Result S E) (next : S → Result T E) → silent (followed_by r next) ≡ and_then column (silent r) (λ _ s. silent (next s))
silent_then column (Ok s) next = refl
silent_then column (Err f) next = refl

-- ---- loops

pub pending_start : {E S : Type 0} (a : Port) (whole : Effect E S) → IsTrue a.out.whole → Pending a a whole whole
pending_start a whole w = record { sofar = []; put = put_nothing a w; bytes = refl; outcome = refl }

effect_is : {E S : Type 0} (xs : List ℕ) (o : Result S E) (e : Effect E S) → xs ≡ e.bytes → o ≡ e.outcome → (let f : Effect E S = record { bytes = xs; outcome = o } in f ≡ e)
effect_is {E} {S} xs o e b q =
    let with_bytes : List ℕ → Effect E S = λ ys. record { bytes = ys; outcome = o } in
    let with_outcome : Result S E → Effect E S = λ r. record { bytes = e.bytes; outcome = r } in
    ap with_bytes b ∙ ap with_outcome q

pending_whole : {E S : Type 0} (a b : Port) (whole rest : Effect E S) (p : Pending a b whole rest) → led_by p.sofar rest ≡ whole
pending_whole a b whole rest p = effect_is (p.sofar ++ rest.bytes) rest.outcome whole (sym p.bytes) (sym p.outcome)

-- the rest performs the whole
pub pending_last : {X F E S : Type 0} (view : X → S) (failure : F → Failure E) (r : Result X F) (a b c : Port) (whole rest : Effect E S) → Pending a b whole rest → Performs view failure r b c rest → Performs view failure r a c whole
pending_last {E = E} {S = S} view failure r a b c whole rest p q =
    let P : Effect E S → Type 0 = Performs view failure r a c in
    subst P (pending_whole a b whole rest p) (performs_led view failure r a b c p.sofar rest p.put q)

-- the rest fails as the whole
pub pending_fails : {E S : Type 0} (f : Failure E) (a b c : Port) (whole rest : Effect E S) → Pending a b whole rest → Fails f b c rest → Fails f a c whole
pending_fails {E} {S} f a b c whole rest p q =
    let P : Effect E S → Type 0 = Fails f a c in
    subst P (pending_whole a b whole rest p) (fails_led f a b c p.sofar rest p.put q)

-- one part more
pub pending_step : {E S T : Type 0} (s : S) (a b c : Port) (whole rest : Effect E T) (e : Effect E S) (next : ℕ → S → Effect E T) → Pending a b whole rest → rest ≡ and_then b.out.column e next → Leaves s b c e → Pending a c whole (next c.out.column s)
pending_step {E} {S} {T} s a b c whole rest e next p is q =
    let led : led_by e.bytes (next c.out.column s) ≡ rest = and_then-ok b c e s next q ∙ sym is in
    record {
      sofar = p.sofar ++ e.bytes;
      put = put_then a b c p.sofar e.bytes p.put q.1;
      bytes = p.bytes ∙ ap (λ (w : Effect E T). p.sofar ++ w.bytes) (sym led) ∙ sym (append_assoc p.sofar e.bytes (next c.out.column s).bytes);
      outcome = p.outcome ∙ ap (λ (w : Effect E T). w.outcome) (sym led);
    }

-- the next part ends it
pub pending_stop : {E S T : Type 0} (f : Failure E) (a b c : Port) (whole rest : Effect E T) (e : Effect E S) (next : ℕ → S → Effect E T) → Pending a b whole rest → rest ≡ and_then b.out.column e next → Fails f b c e → Fails f a c whole
pending_stop {E} {S} {T} f a b c whole rest e next p is q =
    let P : Effect E T → Type 0 = Fails f b c in
    pending_fails f a b c whole rest p (subst P (sym is) (fails_front f b c b.out.column e next q))
