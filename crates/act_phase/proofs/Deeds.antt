-- How what calls leave adds up to what a right side does.
use Rattle.std.proofs.Common.{◌≡◌, ℕ, [], Bool, true, false, Result, Ok, Err, refl, sym, ap, ◌∙◌, subst, IsTrue}
use Rattle.std.specs.Prelude.{IsErrAnd, OnOk}
use Rattle.ops_io.specs.Coming.{Coming}
use Rattle.ops_io.specs.Ports.{Port, Stopped, Flushed}
use Rattle.ops_io.specs.declared.stop.Stop.{Stop}
use Rattle.ops_io.specs.declared.stop.Stop.TheVariants as stop
use Rattle.ops_io.proofs.ComingLemmas.{took_nothing}
use Rattle.ops_io.proofs.PortLemmas.{put_nothing, put_short, flushed_put}
use Rattle.ops_meaning.specs.Acting.{ActionError as Missed, Fault}
use Rattle.ops_meaning.specs.Effects.{Effect, writes, ends_with, silent, followed_by, and_then, outcome_as, Failure, OfPort, OfEffect, Fails, CountsReads}
use Rattle.ops_meaning.proofs.EffectLemmas.{Leaves, fails_stopped}
use Rattle.ops_meaning.proofs.InletLemmas.{leaves_on, fails_on, on_ok, on_err, leaves_apart, fails_apart, pending_on_start, pending_on_last, pending_on_step, pending_on_stop}
use Rattle.ops_meaning.proofs.NamesKept.{names_stay, names_then}
use Rattle.act_phase.specs.Deeds.{Scene, GoesOn, Does, Acts, StillDoes, Gives}
use Rattle.act_phase.specs.Outcomes.{fails_by}
use Rattle.act_phase.specs.declared.outcome.ActionError.{ActionError}
use Rattle.act_phase.specs.declared.outcome.ActionError.TheVariants as mishap

goes_further : {a b c : Port} → GoesOn a b → GoesOn b c → GoesOn a c
goes_further p q = record { whole = q.whole; faults = q.faults ∙ p.faults }

-- ---- single calls

-- nothing is read, this was put, and this is left
pub does_put : {X F E S : Type 0} {view : X → Coming → S} {failure : F → Failure E} {unread : F → Bool} (x : X) (a : Scene) (port : Port) (e : Coming → Effect E S) → ((d : Coming) → Leaves (view x d) a.port port (e d)) → GoesOn a.port port → Does view failure unread (Ok x) a (record a { port = port }) e
does_put {view = view} {failure = failure} x a port e p on = record {
  performs = on_ok view failure x a.inlet a.inlet a.port port e (leaves_apart (view x) a.inlet a.port port e p);
  reads = refl;
  names = names_stay a.names;
  goes_on = on;
}

-- nothing is read and put, and this is left
pub does_nothing : {X F E S : Type 0} {view : X → Coming → S} {failure : F → Failure E} {unread : F → Bool} (x : X) (a : Scene) (e : Coming → Effect E S) → IsTrue a.port.out.whole → ((d : Coming) → e d ≡ writes [] (view x d)) → Does view failure unread (Ok x) a a e
does_nothing {E = E} {S = S} {view = view} x a e w is =
    does_put x a a.port e
    (λ d. let P : Effect E S → Type 0 = Leaves (view x d) a.port a.port in subst P (sym (is d)) (refl, put_nothing a.port w))
    (record { whole = w; faults = refl })

-- nothing is read, and it fails
pub does_fail : {X F E S : Type 0} {view : X → Coming → S} {failure : F → Failure E} {unread : F → Bool} (f : F) (a : Scene) (port : Port) (e : Coming → Effect E S) → ((d : Coming) → Fails (failure f) a.port port (e d)) → unread f ≡ false → Does view failure unread (Err f) a (record a { port = port }) e
does_fail {view = view} {failure = failure} f a port e p known = record {
  performs = on_err view failure f a.inlet a.inlet a.port port e (fails_apart (failure f) a.inlet a.port port e p);
  reads = let P : Bool → Type 0 = λ b. CountsReads b a.inlet.faults a.inlet.faults in subst P (sym known) refl;
  names = names_stay a.names;
  goes_on = tt;
}

-- it comes to an end of its own
pub does_end : {X F E S : Type 0} {view : X → Coming → S} {failure : F → Failure E} {unread : F → Bool} (f : F) (end : E) (a : Scene) (e : Coming → Effect E S) → failure f ≡ OfEffect end → unread f ≡ false → IsTrue a.port.out.whole → ((d : Coming) → e d ≡ ends_with end) → Does view failure unread (Err f) a a e
does_end {E = E} {S = S} f end a e of known w is =
    does_fail f a a.port e
    (λ d. let P : Failure E → Type 0 = λ g. Fails g a.port a.port (e d) in
    let Q : Effect E S → Type 0 = Fails (OfEffect end) a.port a.port in
    subst P (sym of) (subst Q (sym (is d)) (refl, put_nothing a.port w)))
    known

-- the sink or memory refused
pub does_stop : {X F E S : Type 0} {view : X → Coming → S} {failure : F → Failure E} {unread : F → Bool} (why : Stop) (f : F) (a : Scene) (port : Port) (e : Coming → Effect E S) → failure f ≡ OfPort why → unread f ≡ false → ((d : Coming) → Stopped why a.port port (e d).bytes) → Does view failure unread (Err f) a (record a { port = port }) e
does_stop {failure = failure} why f a port e of known p = does_fail f a port e (λ d. fails_stopped why (failure f) a.port port (e d) of (p d)) known

-- ---- one part after another

-- nothing is done yet
pub still_all : {E S : Type 0} (a : Scene) (whole : Coming → Effect E S) → IsTrue a.port.out.whole → StillDoes a a whole whole
still_all a whole w = record {
  pending = pending_on_start a.inlet a.port whole w;
  names = names_stay a.names;
  goes_on = record { whole = w; faults = refl };
}

-- nor after a flush
pub still_flushed : {E S : Type 0} (a : Scene) (port : Port) (whole : Coming → Effect E S) → IsTrue a.port.out.whole → Flushed a.port port → StillDoes a (record a { port = port }) whole whole
still_flushed a port whole w f =
    let put = flushed_put a.port port w f in
    record {
      pending = record { taken = []; took = took_nothing a.inlet; steady = refl; pending = λ d m. record { sofar = []; put = put; bytes = refl; outcome = refl } };
      names = names_stay a.names;
      goes_on = record { whole = put.whole; faults = put.faults };
    }

module _ {E T : Type 0} {a b c : Scene} {whole rest : Coming → Effect E T} where
  -- one part more
  pub still_then : {X F S : Type 0} {view : X → Coming → S} {failure : F → Failure E} {unread : F → Bool} {x : X} {part : Coming → Effect E S} (next : ℕ → S → Effect E T)
      → StillDoes a b whole rest → Does view failure unread (Ok x) b c part → ((d : Coming) → rest d ≡ and_then b.port.out.column (part d) next) → StillDoes a c whole (λ d. next c.port.out.column (view x d))
  still_then {view = view} {failure = failure} {x = x} {part = part} next p q is = record {
    pending = pending_on_step a.inlet b.inlet c.inlet a.port b.port c.port whole rest p.pending (view x) part next is
        (leaves_on view failure x b.inlet c.inlet b.port c.port part q.reads q.performs);
    names = names_then a.names b.names c.names p.names q.names;
    goes_on = goes_further p.goes_on q.goes_on;
  }

  -- the next part fails, and with it the whole
  pub still_stopped : {X Y F S : Type 0} {view : X → Coming → S} (seen : Y → Coming → T) {failure : F → Failure E} {unread : F → Bool} {f : F} {part : Coming → Effect E S} (next : ℕ → S → Effect E T)
      → StillDoes a b whole rest → Does view failure unread (Err f) b c part → ((d : Coming) → rest d ≡ and_then b.port.out.column (part d) next) → Does seen failure unread (Err f) a c whole
  still_stopped {view = view} seen {failure = failure} {unread = unread} {f = f} {part = part} next p q is = record {
    performs = on_err seen failure f a.inlet c.inlet a.port c.port whole
        (pending_on_stop a.inlet b.inlet c.inlet a.port b.port c.port whole rest p.pending (failure f) part next is
        (fails_on view failure f b.inlet c.inlet b.port c.port part q.performs));
    reads = let P : ℕ → Type 0 = λ n. CountsReads (unread f) n c.inlet.faults in subst P p.pending.steady q.reads;
    names = names_then a.names b.names c.names p.names q.names;
    goes_on = tt;
  }

  -- and its failure is handed on
  pub still_fails : {X Y F S : Type 0} {view : X → Coming → S} (seen : Y → Coming → T) {failure : F → Failure E} {unread : F → Bool} (r : Result Y F) {f : F} {part : Coming → Effect E S} (next : ℕ → S → Effect E T)
      → IsErrAnd r (λ g. g ≡ f) → StillDoes a b whole rest → Does view failure unread (Err f) b c part → ((d : Coming) → rest d ≡ and_then b.port.out.column (part d) next) → Does seen failure unread r a c whole
  still_fails seen (Ok y) next h p q is = absurd h
  still_fails {F = F} seen {failure = failure} {unread = unread} (Err g) next h p q is =
      let P : F → Type 0 = λ f. Does seen failure unread (Err f) a c whole in subst P (sym h) (still_stopped seen next p q is)

  -- the rest is done
  pub still_last : {X F : Type 0} {view : X → Coming → T} {failure : F → Failure E} {unread : F → Bool} {r : Result X F} → StillDoes a b whole rest → Does view failure unread r b c rest → Does view failure unread r a c whole
  still_last {X = X} {F = F} {view = view} {failure = failure} {unread = unread} {r = r} p q = record {
    performs = pending_on_last a.inlet b.inlet c.inlet a.port b.port c.port whole rest p.pending view failure r q.performs;
    reads = let P : ℕ → Type 0 = λ n. CountsReads (fails_by unread r) n c.inlet.faults in subst P p.pending.steady q.reads;
    names = names_then a.names b.names c.names p.names q.names;
    goes_on = further r q.goes_on;
  }
    where
      further : (r : Result X F) → OnOk r (GoesOn b.port c.port) → OnOk r (GoesOn a.port c.port)
      further (Ok x) g = goes_further p.goes_on g
      further (Err f) g = tt

module _ {E T : Type 0} {a b : Scene} {whole rest : Coming → Effect E T} where
  -- the rest is the same
  pub still_same : (other : Coming → Effect E T) → StillDoes a b whole rest → ((d : Coming) → rest d ≡ other d) → StillDoes a b whole other
  still_same other p is =
      let P : (Coming → Effect E T) → Type 0 = StillDoes a b whole in subst P (λ i d. is d i) p

  -- nothing is left to be done
  pub still_done : {X F : Type 0} {view : X → Coming → T} {failure : F → Failure E} {unread : F → Bool} (x : X) → StillDoes a b whole rest → ((d : Coming) → rest d ≡ writes [] (view x d)) → Does view failure unread (Ok x) a b whole
  still_done x p is = still_last p (does_nothing x b rest p.goes_on.whole is)

  -- the sink or memory refuses in what is left
  pub still_refused : {X F : Type 0} {view : X → Coming → T} {failure : F → Failure E} {unread : F → Bool} (why : Stop) (r : Result X F) (f : F) (port : Port) → IsErrAnd r (λ g. g ≡ f) → failure f ≡ OfPort why → unread f ≡ false
      → StillDoes a b whole rest → ((d : Coming) → Stopped why b.port port (rest d).bytes) → Does view failure unread r a (record b { port = port }) whole
  still_refused why (Ok x) f port h of known p stopped = absurd h
  still_refused {F = F} {view = view} {failure = failure} {unread = unread} why (Err g) f port h of known p stopped =
      let P : F → Type 0 = λ g. Does view failure unread (Err g) a (record b { port = port }) whole in
      subst P (sym h) (still_last p (does_stop why f b port rest of known stopped))

  -- memory ran out
  pub still_short : {X F : Type 0} {view : X → Coming → T} {failure : F → Failure E} {unread : F → Bool} (r : Result X F) (f : F) → IsErrAnd r (λ g. g ≡ f) → failure f ≡ OfPort stop.OutOfMemory → unread f ≡ false
      → StillDoes a b whole rest → Does view failure unread r a b whole
  still_short r f h of known p = still_refused stop.OutOfMemory r f b.port h of known p (λ d. put_short b.port b.port [] (rest d).bytes (put_nothing b.port p.goes_on.whole))

-- ---- parts that write nothing of their own

silent_then : {E S T : Type 0} (column : ℕ) (r : Result S E) (next : S → Result T E) → silent (followed_by r next) ≡ and_then column (silent r) (λ _ s. silent (next s))
silent_then column (Ok s) next = refl
silent_then column (Err e) next = refl

after : {E S T : Type 0} (column : ℕ) (rest : Coming → Result T E) (next : S → Result T E) (part : Coming → Result S E) → ((d : Coming) → rest d ≡ followed_by (part d) next) → (d : Coming) → silent (rest d) ≡ and_then column (silent (part d)) (λ _ s. silent (next s))
after column rest next part is d = ap silent (is d) ∙ silent_then column (part d) next

module _ {E T : Type 0} {a b c : Scene} {whole : Coming → Effect E T} {rest : Coming → Result T E} where
  -- one part more
  pub silent_step : {X F S : Type 0} {view : X → Coming → S} {failure : F → Failure E} {unread : F → Bool} {x : X} {part : Coming → Result S E} (next : S → Result T E)
      → StillDoes a b whole (λ d. silent (rest d)) → Does view failure unread (Ok x) b c (λ d. silent (part d)) → ((d : Coming) → rest d ≡ followed_by (part d) next) → StillDoes a c whole (λ d. silent (next (view x d)))
  silent_step {part = part} next p q is = still_then (λ _ s. silent (next s)) p q (after b.port.out.column rest next part is)

  -- the next part fails, and its failure is handed on
  pub silent_fails : {X Y F S : Type 0} {view : X → Coming → S} (seen : Y → Coming → T) {failure : F → Failure E} {unread : F → Bool} (r : Result Y F) {f : F} {part : Coming → Result S E} (next : S → Result T E)
      → IsErrAnd r (λ g. g ≡ f) → StillDoes a b whole (λ d. silent (rest d)) → Does view failure unread (Err f) b c (λ d. silent (part d)) → ((d : Coming) → rest d ≡ followed_by (part d) next) → Does seen failure unread r a c whole
  silent_fails seen r {part = part} next h p q is = still_fails seen r (λ _ s. silent (next s)) h p q (after b.port.out.column rest next part is)

-- a call that neither reads nor puts
pub does_given : {X S T : Type 0} {view : X → S} (left : Coming → S → T) (r : Result X ActionError) (what : Result S Missed) (a : Scene) → IsTrue a.port.out.whole → Gives view r what → Acts (λ x d. left d (view x)) r a a (λ d. silent (outcome_as (left d) (λ m. m) what))
does_given left (Ok x) what a w g = does_nothing x a _ w (λ d. ap (λ o. silent (outcome_as (left d) (λ m. m) o)) g)
does_given left (Err (mishap.Fault kind)) what a w g = does_end (mishap.Fault kind) (Fault kind) a _ refl refl w (λ d. ap (λ o. silent (outcome_as (left d) (λ m. m) o)) g)
does_given left (Err mishap.Read) what a w g = absurd g
does_given left (Err mishap.Write) what a w g = absurd g
does_given left (Err mishap.OutOfMemory) what a w g =
    does_stop stop.OutOfMemory mishap.OutOfMemory a a.port _ refl refl (λ d. put_short a.port a.port [] [] (put_nothing a.port w))

-- memory ran out in it
pub gives_short : {X S : Type 0} (view : X → S) (r : Result X ActionError) (what : Result S Missed) → IsErrAnd r (λ f. f ≡ mishap.OutOfMemory) → Gives view r what
gives_short view (Ok x) what h = absurd h
gives_short view (Err f) what h = let P : ActionError → Type 0 = λ f. Gives view (Err f) what in subst P (sym h) tt

-- ---- failed reads

-- What is so where a read has failed is so where that failure is handed on.
pub handed_on : {X F : Type 0} {P : Type 0} (unread : F → Bool) (r : Result X F) (f : F) → IsErrAnd r (λ g. g ≡ f) → (unread f ≡ true → P) → fails_by unread r ≡ true → P
handed_on unread (Ok x) f h p is = absurd h
handed_on unread (Err g) f h p is = p (sym (ap unread h) ∙ is)
