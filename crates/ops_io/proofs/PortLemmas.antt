-- How what functions put adds up: the laws that a caller's loop and its last flush stand on.
use Rattle.std.proofs.Common.{◌≡◌, ℕ, Bool, List, [], ◌++◌, refl, ap, sym, ◌∙◌, append_assoc, subst, IsTrue, Result, Ok, Err, IsErrAnd}
use Rattle.std.proofs.lemmas.List.{append-nil}
use Rattle.ops_io.specs.Outside.{GrewBy, GrewByPrefix}
use Rattle.ops_io.specs.Output.{OutState, column_after}
use Rattle.ops_io.specs.Ports.{Port, port, Put, Stopped, PutsBytes, Underway, Cause, Flushed}
use Rattle.ops_io.specs.declared.stop.Stop.{Stop}
use Rattle.ops_io.specs.declared.stop.Stop.TheVariants as stop
use Rattle.ops_io.proofs.Known.{puts_twice, prefix_after, prefix_more, append_known-nothing, append_known-twice, column-append}
use Rattle.std.specs.Io.KnownBytes.{append_known}

-- Nothing was put.
pub put_nothing : (a : Port) → IsTrue a.out.whole → Put a a []
put_nothing a w = record { out = ([], append-nil a.out.held, sym (append_known-nothing a.taken)); column = refl; whole = w; faults = refl }

-- Two puts are one.
pub put_then : (a b c : Port) (xs ys : List ℕ) → Put a b xs → Put b c ys → Put a c (xs ++ ys)
put_then a b c xs ys p q = record {
  out = puts_twice _ _ _ _ _ _ xs ys p.out q.out;
  column = q.column ∙ ap (λ n. column_after n ys) p.column ∙ sym (column-append a.out.column xs ys);
  whole = q.whole;
  faults = q.faults ∙ p.faults;
}

-- A put, and then a call that gave up.
pub stopped_then : (e : Stop) (a b c : Port) (xs ys : List ℕ) → Put a b xs → Stopped e b c ys → Stopped e a c (xs ++ ys)
stopped_then e a b c xs ys p q =
    let P : ℕ → Type 0 = λ n. Cause e n c.faults in
    record { prefix = prefix_after _ _ _ _ _ xs ys p.out q.prefix; cause = subst P p.faults q.cause }

-- A call that gave up put a prefix of these bytes and of any more.
pub stopped_more : (e : Stop) (a b : Port) (xs ys : List ℕ) → Stopped e a b xs → Stopped e a b (xs ++ ys)
stopped_more e a b xs ys p =
    let P : List ℕ → Type 0 = GrewByPrefix a.taken b.taken in
    record { prefix = subst P (append_assoc a.out.held xs ys) (prefix_more a.taken b.taken (a.out.held ++ xs) ys p.prefix); cause = p.cause }

-- A put, and then a call that puts these bytes.
pub puts_then : {T E : Type 0} (r : Result T E) (a b c : Port) (xs ys : List ℕ) → Put a b xs → PutsBytes r b c ys → PutsBytes r a c (xs ++ ys)
puts_then (Ok x) a b c xs ys p q = put_then a b c xs ys p q
puts_then (Err e) a b c xs ys p q = stopped_then stop.Write a b c xs ys p q

-- A call that was refused with more to come, whose refusal is handed on.
pub puts_refused : {T E : Type 0} (Q : E → Type 0) (r : Result T E) (a b : Port) (xs ys : List ℕ) → IsErrAnd r Q → Stopped stop.Write a b xs → PutsBytes r a b (xs ++ ys)
puts_refused Q (Ok x) a b xs ys h p = absurd h
puts_refused Q (Err e) a b xs ys h p = stopped_more stop.Write a b xs ys p

-- A put, and then a flush that was refused.
pub put_then_stopped : (e : Stop) (a b c : Port) (xs : List ℕ) → Put a b xs → Stopped e b c [] → Stopped e a c xs
put_then_stopped e a b c xs p q = let P : List ℕ → Type 0 = Stopped e a c in subst P (append-nil xs) (stopped_then e a b c xs [] p q)

-- A put after which memory ran out.
pub put_short : (a b : Port) (xs ys : List ℕ) → Put a b xs → Stopped stop.OutOfMemory a b (xs ++ ys)
put_short a b xs ys p = record {
  prefix = prefix_after _ _ _ _ _ xs ys p.out ([], b.out.held ++ ys, refl, sym (append_known-nothing b.taken));
  cause = p.faults;
}

-- A put and a flush: the sink has taken exactly what was held and these bytes.
pub put_flushed : (a b c : Port) (xs : List ℕ) → Put a b xs → Flushed b c → GrewBy a.taken c.taken (a.out.held ++ xs)
put_flushed a b c xs p f =
    f.taken ∙ ap (λ w. append_known w b.out.held) p.out.2 ∙ append_known-twice a.taken p.out.0 b.out.held ∙ ap (append_known a.taken) (sym p.out.1)

-- Bytes that the buffer holds are put.
pub put_held : (a : Port) (out : OutState) (xs : List ℕ) → IsTrue a.out.whole → out ≡ record a.out { held = a.out.held ++ xs; column = column_after a.out.column xs } → Put a (port a.taken a.faults out) xs
put_held a out xs w e =
    let P : OutState → Type 0 = λ o. Put a (port a.taken a.faults o) xs in
    subst P (sym e) (record { out = ([], refl, sym (append_known-nothing a.taken)); column = refl; whole = w; faults = refl })

-- What was put stays put when the buffer is written out.
pub put_then_flushed : (a b c : Port) (xs : List ℕ) → Put a b xs → Flushed b c → Put a c xs
put_then_flushed a b c xs p f =
    let held : c.out.held ≡ [] = ap (λ (o : OutState). o.held) f.out in
    let P : Bool → Type 0 = IsTrue in
    record {
      out = (a.out.held ++ xs, sym (append-nil (a.out.held ++ xs)) ∙ ap (λ w. (a.out.held ++ xs) ++ w) (sym held), put_flushed a b c xs p f);
      column = ap (λ (o : OutState). o.column) f.out ∙ p.column;
      whole = subst P (sym (ap (λ (o : OutState). o.whole) f.out)) p.whole;
      faults = f.faults ∙ p.faults;
    }

-- A put of the next bytes.
pub underway_step : (a b c : Port) (all rest xs more : List ℕ) → Underway a b all rest → rest ≡ xs ++ more → Put b c xs → Underway a c all more
underway_step a b c all rest xs more u e p = record {
  sofar = u.sofar ++ xs;
  split = u.split ∙ ap (λ w. u.sofar ++ w) e ∙ sym (append_assoc u.sofar xs more);
  put = put_then a b c u.sofar xs u.put p;
}

-- A call that gave up at the next bytes.
pub underway_stop : (e : Stop) (a b c : Port) (all rest xs more : List ℕ) → Underway a b all rest → rest ≡ xs ++ more → Stopped e b c xs → Stopped e a c all
underway_stop e a b c all rest xs more u h p =
    let P : List ℕ → Type 0 = Stopped e a c in
    subst P (sym (u.split ∙ ap (λ w. u.sofar ++ w) h)) (stopped_then e a b c u.sofar (xs ++ more) u.put (stopped_more e b c xs more p))

-- Nothing is still to come.
pub underway_done : (a b : Port) (all : List ℕ) → Underway a b all [] → Put a b all
underway_done a b all u = let P : List ℕ → Type 0 = Put a b in subst P (sym (u.split ∙ append-nil u.sofar)) u.put

-- A put and a flush that was refused: the sink has taken a prefix of what was held and these bytes.
pub put_unflushed : (e : Stop) (a b c : Port) (xs : List ℕ) → Put a b xs → Stopped e b c [] → GrewByPrefix a.taken c.taken (a.out.held ++ xs)
put_unflushed e a b c xs p q = (put_then_stopped e a b c xs p q).prefix

-- A flush puts nothing.
pub flushed_put : (a b : Port) → IsTrue a.out.whole → Flushed a b → Put a b []
flushed_put a b w f = put_then_flushed a a b [] (put_nothing a w) f
