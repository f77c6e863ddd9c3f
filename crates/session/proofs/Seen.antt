-- What a call performs, where it is told of otherwise.
use Rattle.std.proofs.Common.{◌≡◌, sym, subst, [], Result, Ok, Err, IsTrue}
use Rattle.ops_io.specs.Coming.{Coming, Inlet}
use Rattle.ops_io.specs.Ports.{Port}
use Rattle.ops_io.specs.declared.stop.Stop.TheVariants as stop
use Rattle.ops_meaning.specs.Effects.{Effect, writes, Failure, OfPort, Performs, PerformsOn}
use Rattle.ops_meaning.proofs.EffectLemmas.{performs_nothing, fails_short}
use Rattle.ops_meaning.proofs.InletLemmas.{LeavesOn, FailsOn, leaves_on, fails_on, on_ok, on_err, performs_apart, fails_apart}

module _ {X Y F E S : Type 0} (view : X → Coming → S) (seen : Y → Coming → S) (failure : F → Failure E) (i j : Inlet) (a b : Port) (e f : Coming → Effect E S) (same : (z : Coming) → e z ≡ f z) where
  -- another value stands for what is left, and another effect is the same
  pub seen_ok : (x : X) (y : Y) → ((z : Coming) → view x z ≡ seen y z) → j.faults ≡ i.faults → (let r : Result X F = Ok x in PerformsOn view failure r i j a b e) → (let r : Result Y F = Ok y in PerformsOn seen failure r i j a b f)
  seen_ok x y is steady p =
      let P : (Coming → S) → Type 0 = λ s. LeavesOn s i j a b f in
      let Q : (Coming → Effect E S) → Type 0 = λ g. LeavesOn (view x) i j a b g in
      on_ok seen failure y i j a b f (subst P (λ n z. is z n) (subst Q (λ n z. same z n) (leaves_on view failure x i j a b e steady p)))

  pub seen_err : (x : F) → (let r : Result X F = Err x in PerformsOn view failure r i j a b e) → (let r : Result Y F = Err x in PerformsOn seen failure r i j a b f)
  seen_err x p =
      let Q : (Coming → Effect E S) → Type 0 = λ g. FailsOn (failure x) i j a b g in
      on_err seen failure x i j a b f (subst Q (λ n z. same z n) (fails_on view failure x i j a b e p))

-- a call that writes nothing, and leaves what the effect leaves
pub does_silently : {X F E S : Type 0} (view : X → Coming → S) (failure : F → Failure E) (x : X) (i : Inlet) (a : Port) (e : Coming → Effect E S) → IsTrue a.out.whole → ((z : Coming) → e z ≡ writes [] (view x z)) → (let r : Result X F = Ok x in PerformsOn view failure r i i a a e)
does_silently {E = E} {S = S} view failure x i a e w is =
    performs_apart view failure (Ok x) i a a e (λ z. let P : Effect E S → Type 0 = Performs (λ y. view y z) failure (Ok x) a a in subst P (sym (is z)) (performs_nothing (view x z) a w))

-- memory runs out before anything is done
pub runs_short : {X F E S : Type 0} (view : X → Coming → S) (failure : F → Failure E) (f : F) (i : Inlet) (a : Port) (e : Coming → Effect E S) → failure f ≡ OfPort stop.OutOfMemory → IsTrue a.out.whole → (let r : Result X F = Err f in PerformsOn view failure r i i a a e)
runs_short {E = E} view failure f i a e is w =
    let P : Failure E → Type 0 = λ g. FailsOn g i i a a e in
    on_err view failure f i i a a e (subst P (sym is) (fails_apart (OfPort stop.OutOfMemory) i a a e (λ z. fails_short a (e z) w)))

-- the same is performed, where it is put another way
pub performs_same : {X F E S : Type 0} (view : X → Coming → S) (failure : F → Failure E) (r : Result X F) (i j : Inlet) (a b : Port) (e f : Coming → Effect E S) → ((z : Coming) → e z ≡ f z) → PerformsOn view failure r i j a b e → PerformsOn view failure r i j a b f
performs_same {E = E} {S = S} view failure r i j a b e f same p =
    let P : (Coming → Effect E S) → Type 0 = λ g. PerformsOn view failure r i j a b g in subst P (λ n z. same z n) p
