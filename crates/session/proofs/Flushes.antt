-- After a part of a session what was put may be written out, which changes nothing of what was performed.
use Rattle.std.proofs.Common.{◌≡◌, ℕ, List, [], Option, Result, Ok, Err, true, false, ◌⊎◌, inl, inr, IsTrue, sym, subst}
use Rattle.std.proofs.lemmas.List.{append-nil}
use Rattle.ops_io.specs.Coming.{Coming, Inlet, preceded_by}
use Rattle.ops_io.specs.Output.{OutState}
use Rattle.ops_io.specs.Ports.{Port, port, Put, Stopped, Flushed}
use Rattle.ops_io.specs.declared.stop.Stop.TheVariants as stop
use Rattle.ops_io.proofs.PortLemmas.{put_nothing, put_then, put_then_stopped, flushed_put}
use Rattle.ops_meaning.specs.Effects.{Effect, Failure, OfPort, PerformsOn}
use Rattle.ops_meaning.proofs.InletLemmas.{FailsOn, on_err}

-- Whether what was put is written out or not, nothing more is put.
pub shown_put : {K A : Type 0} (taken : K → Option (List ℕ)) (faults : K → ℕ) (k m : K) (o p : OutState) → IsTrue o.whole
    → Flushed (port (taken k) (faults k) o) (port (taken m) (faults m) p) ⊎ (A × (p ≡ o) × (m ≡ k)) → Put (port (taken k) (faults k) o) (port (taken m) (faults m) p) []
shown_put taken faults k m o p w (inl f) = flushed_put _ _ w f
shown_put {K = K} taken faults k m o p w (inr h) =
    let a = port (taken k) (faults k) o in
    let P : OutState → Type 0 = λ q. Put a (port (taken k) (faults k) q) [] in
    let Q : K → Type 0 = λ l. Put a (port (taken l) (faults l) p) [] in
    subst Q (sym h.2) (subst P (sym h.1) (put_nothing a w))

-- Where that is refused, it is the sink that refuses.
pub shown_refused : {A B : Type 0} (a b : Port) → Stopped stop.Write a b [] ⊎ ((false ≡ true) × A × B) → Stopped stop.Write a b []
shown_refused a b (inl s) = s
shown_refused a b (inr h) = absurd (let no = h.0 in cc)

module _ {X E S : Type 0} {F : Type 0} {view : X → Coming → S} {failure : F → Failure E} {x : X} {i j : Inlet} {a b c : Port} {e : Coming → Effect E S} (p : let r : Result X F = Ok x in PerformsOn view failure r i j a b e) where
  -- What was performed, and then written out, was performed. So it is where nothing more was put.
  pub performs_still : Put b c [] → (let r : Result X F = Ok x in PerformsOn view failure r i j a c e)
  performs_still q = record {
    taken = p.taken;
    took = p.took;
    performs = λ z h. let done = p.performs z h in
        let xs = (e (preceded_by p.taken z)).bytes in
        let P : List ℕ → Type 0 = Put a c in
        (done.0, subst P (append-nil xs) (put_then a b c xs [] done.1 q));
  }

  -- where the sink refuses that, the call gives up
  pub performs_refused : {G : Type 0} (fails : G → Failure E) (f : G) → fails f ≡ OfPort stop.Write → Stopped stop.Write b c [] → (let r : Result (Coming → S) G = Err f in PerformsOn (λ k. k) fails r i j a c e)
  performs_refused fails f is q =
      let P : Failure E → Type 0 = λ g. FailsOn g i j a c e in
      on_err (λ (k : Coming → S). k) fails f i j a c e
      (subst P (sym is)
      (record {
        taken = p.taken;
        took = p.took;
        fails = λ z h. put_then_stopped stop.Write a b c (e (preceded_by p.taken z)).bytes (p.performs z h).1 q;
      }))
