-- A session that is explained at its end.
use Rattle.std.proofs.Common.{◌≡◌, refl, sym, subst, ℕ, List, Bool, true, false, Result, Ok, Err}
use Rattle.ops_base.specs.declared.elements.Class.{Class}
use Rattle.ops_base.specs.declared.endings.Ending.{Ending}
use Rattle.ops_base.specs.declared.endings.Ending.TheVariants as ending
use Rattle.ops_io.specs.Coming.{Coming, Inlet}
use Rattle.ops_io.specs.Ports.{Port}
use Rattle.ops_meaning.specs.Effects.{Effect, Fails, and_then, writes, Performs, PerformsOn, of_ending}
use Rattle.ops_meaning.specs.Running.{Session as Meant}
use Rattle.ops_meaning.proofs.InletLemmas.{leaves_on, fails_on, on_err, fails_on_front, performs_apart, performs_on_then}
use Rattle.session.specs.Courses.{ends_unread}
use Rattle.session.proofs.Early.{EndsEarly}
use Rattle.why_lines.proofs.Explained.{explained_ends}
use Rattle.why_lines.specs.Explained.{explains, explained_if}

-- it ends as the session does
pub explained_early : (explained : Bool) (classes : List Class) (e : Effect Ending Meant) → EndsEarly e.outcome → EndsEarly (explained_if explained classes e).outcome
explained_early explained classes e early =
    let P : Result Meant Ending → Type 0 = EndsEarly in subst P (sym (explained_ends explained classes e)) early

abbrev next : List Class → ℕ → Meant → Effect Ending Meant
next classes column k = explains classes column k

module _ {X : Type 0} (view : X → Coming → Meant) (classes : List Class) {i j : Inlet} {a b : Port} (e : Coming → Effect Ending Meant) where
  -- a session that fails is not explained
  pub explained_fails : {Y : Type 0} (seen : Y → Coming → Meant) (explained : Bool) (f : Ending) → (let r : Result X Ending = Err f in PerformsOn view of_ending r i j a b e)
      → (let r : Result Y Ending = Err f in PerformsOn seen of_ending r i j a b (λ z. explained_if explained classes (e z)))
  explained_fails seen false f p = on_err seen of_ending f i j a b e (fails_on view of_ending f i j a b e p)
  explained_fails seen true f p =
      on_err seen of_ending f i j a b (λ z. and_then 0 (e z) (next classes)) (fails_on_front (of_ending f) i j a b 0 e (next classes) (fails_on view of_ending f i j a b e p))

  -- where it is not asked for, nothing comes after the session
  pub left_alone : (explained : Bool) (r : Result X Ending) → explained ≡ false → PerformsOn view of_ending r i j a b e → PerformsOn view of_ending r i j a b (λ z. explained_if explained classes (e z))
  left_alone explained r is p =
      let P : Bool → Type 0 = λ t. PerformsOn view of_ending r i j a b (λ z. explained_if t classes (e z)) in subst P (sym is) p

  -- the lines come after the session
  pub explained_after : (explained : Bool) (x : X) (r : Result X Ending) (c : Port) → explained ≡ true → a.out.column ≡ 0 → j.faults ≡ i.faults → (let q : Result X Ending = Ok x in PerformsOn view of_ending q i j a b e)
      → ((z : Coming) → Performs (λ s. view s z) of_ending r b c (explains classes b.out.column (view x z))) → PerformsOn view of_ending r i j a c (λ z. explained_if explained classes (e z))
  explained_after explained x r c is zero_column steady p q =
      let P : Bool → Type 0 = λ t. PerformsOn view of_ending r i j a c (λ z. explained_if t classes (e z)) in
      let Q : ℕ → Type 0 = λ n. PerformsOn view of_ending r i j a c (λ z. and_then n (e z) (next classes)) in
      subst P (sym is) (subst Q zero_column
      (performs_on_then (view x) i j j a b c e (next classes) (leaves_on view of_ending x i j a b e steady p) view of_ending r
      (performs_apart view of_ending r j b c (λ z. explains classes b.out.column (view x z)) q)))

-- ---- the lines

-- a call that writes and does nothing else does not fail as unread
unread_none : {X : Type 0} (f : Ending) (a b : Port) (bytes : List ℕ) (k : Meant) (r : Result X Ending) → r ≡ Err f → Fails (of_ending f) a b (writes bytes k) → ends_unread r ≡ false
unread_none ending.ReadFault a b bytes k r is p = let bad = p.0 in absurd (cc)
unread_none ending.WriteFault a b bytes k r is p = rw is refl
unread_none ending.OutOfMemory a b bytes k r is p = rw is refl
unread_none (ending.Done n e t) a b bytes k r is p = rw is refl
unread_none (ending.Act n r name i kind) a b bytes k q is p = rw is refl
unread_none (ending.Limit n) a b bytes k r is p = rw is refl

pub written_read : {X : Type 0} (r : Result X Ending) (f : Ending) (a b : Port) (bytes : List ℕ) (k : Meant) → r ≡ Err f → Fails (of_ending f) a b (writes bytes k) → ends_unread r ≡ false
written_read r f a b bytes k is p = unread_none f a b bytes k r is p
