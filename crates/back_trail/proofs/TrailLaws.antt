-- The states of a trail, as firings come and are undone.
use Rattle.std.proofs.Common.{◌≡◌, ℕ, zero, suc, ◌+◌, ◌-◌, ◌<◌, ◌≤◌, List, [], ◌∷◌, ◌++◌, length, take, drop, get_or, Option, Some, None, refl, ap, sym, ◌∙◌, subst, arith, length-append}
use Rattle.std.specs.Prelude.{slice_get}
use Rattle.ops_base.specs.WorkingMemory.{Lawful}
use Rattle.cycle.specs.declared.fired.Fired.{Fired}
use Rattle.cycle.specs.Standing.{Standing, after_firing}
use Rattle.back_trail.specs.declared.steps.Step.{Step}
use Rattle.back_trail.specs.declared.steps.Late.{Late}
use Rattle.back_trail.specs.Trails.{Earlier, Begun, last_ones}
use Rattle.back_trail.specs.Kept.{AreLawful, IsLateLawful, IsOver, IsTrail, after_late, after_steps, begun, cut_to, given_up, late_of, one_more, states_from, with_first}

pub states_length : (s : Standing) (ts : List Step) → length (states_from s ts) ≡ length ts
states_length s [] = refl
states_length s (t ∷ ts) = ap suc (states_length (after_firing t.fired s) ts)

states_append : (s : Standing) (xs ys : List Step) → states_from s (xs ++ ys) ≡ states_from s xs ++ states_from (after_steps s xs) ys
states_append s [] ys = refl
states_append s (t ∷ xs) ys =
    ap (λ es. record { standing = s; point = t.point } ∷ es) (states_append (after_firing t.fired s) xs ys)

after_append : (s : Standing) (xs ys : List Step) → after_steps s (xs ++ ys) ≡ after_steps (after_steps s xs) ys
after_append s [] ys = refl
after_append s (t ∷ xs) ys = after_append (after_firing t.fired s) xs ys

lawful_append : (s : Standing) (xs ys : List Step) → AreLawful s xs → AreLawful (after_steps s xs) ys → AreLawful s (xs ++ ys)
lawful_append s [] ys p q = q
lawful_append s (t ∷ xs) ys p q = (p.0, lawful_append (after_firing t.fired s) xs ys p.1 q)

pub states_take : (k : ℕ) (s : Standing) (ts : List Step) → states_from s (take k ts) ≡ take k (states_from s ts)
states_take zero s ts = refl
states_take (suc k) s [] = refl
states_take (suc k) s (t ∷ ts) = ap (λ es. record { standing = s; point = t.point } ∷ es) (states_take k (after_firing t.fired s) ts)

pub lawful_take : (k : ℕ) (s : Standing) (ts : List Step) → AreLawful s ts → AreLawful s (take k ts)
lawful_take zero s ts p = tt
lawful_take (suc k) s [] p = tt
lawful_take (suc k) s (t ∷ ts) p = (p.0, lawful_take k (after_firing t.fired s) ts p.1)

some_is : {X : Type 0} (x y : X) → Some x ≡ Some y → x ≡ y
some_is x y e = cc

-- the state at a place is the one after the firings before it
pub state_at : (k : ℕ) (s : Standing) (ts : List Step) (e : Earlier) → slice_get (states_from s ts) k ≡ Some e → e.standing ≡ after_steps s (take k ts)
state_at k s [] e is = cc
state_at zero s (t ∷ ts) e is = ap (λ (w : Earlier). w.standing) (sym (some_is (record { standing = s; point = t.point }) e is))
state_at (suc k) s (t ∷ ts) e is = state_at k (after_firing t.fired s) ts e is

pub point_at : (k : ℕ) (s : Standing) (ts : List Step) (t : Step) (e : Earlier) → slice_get ts k ≡ Some t → slice_get (states_from s ts) k ≡ Some e → t.point ≡ e.point
point_at k s [] t e there is = cc
point_at zero s (u ∷ ts) t e there is =
    ap (λ (w : Step). w.point) (sym (some_is u t there)) ∙ ap (λ (w : Earlier). w.point) (some_is (record { standing = s; point = u.point }) e is)
point_at (suc k) s (u ∷ ts) t e there is = point_at k (after_firing u.fired s) ts t e there is

-- one firing on: its changes can be done to the state after those before it, and lead to the state after it
pub one_on : (k count : ℕ) (s : Standing) (ts : List Step) (t : Step) → t ≡ get_or ts k t → k < count → count ≤ length ts → AreLawful s (take count ts)
    → Lawful (after_steps s (take k ts)).wm (after_steps s (take k ts)).last t.fired.changes × (after_firing t.fired (after_steps s (take k ts)) ≡ after_steps s (take (suc k) ts))
one_on k count s [] t there lt within lawful = absurd (omega (arith, lt, within))
one_on k zero s (u ∷ ts) t there lt within lawful = absurd (omega (arith, lt))
one_on zero (suc count) s (u ∷ ts) t there lt within lawful =
    let P : Step → Type 0 = λ w. Lawful s.wm s.last w.fired.changes × (after_firing w.fired s ≡ after_firing u.fired s) in
    subst P (sym there) (lawful.0, refl)
one_on (suc k) (suc count) s (u ∷ ts) t there lt within lawful =
    one_on k count (after_firing u.fired s) ts t there (omega (arith, lt)) (omega (arith, within)) lawful.1

-- ---- one firing more

drop_none : {X : Type 0} (n : ℕ) (xs : List X) → n ≡ 0 → drop n xs ≡ xs
drop_none {X} n xs e = ap (λ k. drop k xs) e

one_longer : (o : Standing) (steps : List Step) (t : Step) → length (states_from o (steps ++ t ∷ [])) ≡ length steps + 1
one_longer o steps t = states_length o (steps ++ t ∷ []) ∙ length-append steps (t ∷ [])

pub pushed : (o : Standing) (steps : List Step) (t : Step) (f : Option Step) (next : List Step) → with_first f next ≡ steps ++ t ∷ [] → IsOver f (length steps)
    → begun o (given_up f) next ≡ one_more t (begun o None steps)
pushed o steps t None next is short =
    let number : length (states_from o (steps ++ t ∷ [])) - 32 ≡ 0 = omega (arith, one_longer o steps t, short) in
    let states = ap (states_from o) is ∙ sym (drop_none _ _ number) ∙ ap last_ones (states_append o steps (t ∷ [])) in
    let now = ap (after_steps o) is ∙ after_append o steps (t ∷ []) in
    λ i. record { states = states i; now = now i }
pushed o steps t (Some u) next is full =
    let number : length (states_from o (steps ++ t ∷ [])) - 32 ≡ 1 = omega (arith, one_longer o steps t, full) in
    let states = ap (λ ts. drop 1 (states_from o ts)) is ∙ ap (λ k. drop k (states_from o (steps ++ t ∷ []))) (sym number) ∙ ap last_ones (states_append o steps (t ∷ [])) in
    let now = ap (after_steps o) is ∙ after_append o steps (t ∷ []) in
    λ i. record { states = states i; now = now i }

-- and it is kept as it is to be
pub pushed_kept : (o : Standing) (steps : List Step) (t : Step) (f : Option Step) (next : List Step) → with_first f next ≡ steps ++ t ∷ [] → length next ≤ 32
    → AreLawful o steps → Lawful (after_steps o steps).wm (after_steps o steps).last t.fired.changes → IsTrail o (given_up f) next
pushed_kept o steps t f next is few lawful more =
    by f is
  where
    all : AreLawful o (steps ++ t ∷ [])
    all = lawful_append o steps (t ∷ []) lawful (more, tt)

    by : (f : Option Step) → with_first f next ≡ steps ++ t ∷ [] → IsTrail o (given_up f) next
    by None is =
        let P : List Step → Type 0 = AreLawful o in record { late_lawful = tt; lawful = subst P (sym is) all; few = few }
    by (Some u) is =
        let P : List Step → Type 0 = AreLawful o in
        let h : AreLawful o (u ∷ next) = subst P (sym is) all in record { late_lawful = h.0; lawful = h.1; few = few }

-- both, where the oldest state has caught up
pub push_all : (oldest o : Standing) (late caught : Option Late) (steps next : List Step) (t : Step) (f : Option Step) (b : Begun) → begun oldest (late_of late) steps ≡ b → IsTrail oldest (late_of late) steps
    → caught ≡ None → after_late (late_of caught) o ≡ after_late (late_of late) oldest → with_first f next ≡ steps ++ t ∷ [] → IsOver f (length steps) → length next ≤ 32 → Lawful b.now.wm b.now.last t.fired.changes
    → (last : Option Fired) → last ≡ given_up f → (begun o last next ≡ one_more t b) × IsTrail o last next
push_all oldest o late caught steps next t f b view h none same is over few lawful last given =
    let P : Option Late → Type 0 = λ l. after_late (late_of l) o ≡ after_late (late_of late) oldest in
    let at : o ≡ after_late (late_of late) oldest = subst P none same in
    let Q : Begun → Type 0 = λ w. Lawful w.now.wm w.now.last t.fired.changes in
    let R : Standing → Type 0 = λ s. AreLawful s steps in
    let S : Standing → Type 0 = λ s. Lawful (after_steps s steps).wm (after_steps s steps).last t.fired.changes in
    let T : Option Fired → Type 0 = λ l. IsTrail o l next in (
      ap (λ l. begun o l next) given ∙ pushed o steps t f next is over ∙ ap (λ s. one_more t (begun s None steps)) at ∙ ap (one_more t) view,
      subst T (sym given) (pushed_kept o steps t f next is few (subst R (sym at) h.lawful) (subst S (sym at) (subst Q (sym view) lawful))),
    )

-- ---- counting, and going back

pub count : (o : Standing) (late : Option Fired) (steps : List Step) (b : Begun) → begun o late steps ≡ b → length steps ≡ length b.states
count o late steps b is = sym (states_length (after_late late o) steps) ∙ ap (λ (w : Begun). length w.states) is

-- what is at a place of the states is so of what is kept
at_place : (o : Standing) (late : Option Fired) (steps : List Step) (b : Begun) → begun o late steps ≡ b → (n len : ℕ) → len ≡ length steps → (e : Earlier) → slice_get b.states (length b.states - n) ≡ Some e
    → slice_get (states_from (after_late late o) steps) (len - n) ≡ Some e
at_place o late steps b is n len long e there =
    let P : Begun → Type 0 = λ w. slice_get w.states (length w.states - n) ≡ Some e in
    let states = states_from (after_late late o) steps in
    let place : length states - n ≡ len - n = ap (λ m. m - n) (states_length (after_late late o) steps ∙ sym long) in
    let Q : ℕ → Type 0 = λ m. slice_get states m ≡ Some e in subst Q place (subst P (sym is) there)

at_get : (ts : List Step) (k : ℕ) (t : Step) → t ≡ get_or ts k t → k < length ts → slice_get ts k ≡ Some t
at_get [] k t is h = absurd (omega (arith, h))
at_get (u ∷ ts) zero t is h = ap Some (sym is)
at_get (u ∷ ts) (suc k) t is h = at_get ts k t is (omega (arith, h))

pub point_back : (o : Standing) (late : Option Fired) (steps : List Step) (b : Begun) → begun o late steps ≡ b → (n len : ℕ) → len ≡ length steps → 0 < n → n ≤ length b.states → (u : Step) → u ≡ get_or steps (len - n) u
    → (e : Earlier) → slice_get b.states (length b.states - n) ≡ Some e → u.point ≡ e.point
point_back o late steps b is n len long some within u at e there =
    let number = count o late steps b is in
    point_at (len - n) (after_late late o) steps u e (at_get steps (len - n) u at (omega (arith, long, some, within, number))) (at_place o late steps b is n len long e there)

pub cut_back : (o : Standing) (late : Option Fired) (steps : List Step) (b : Begun) → begun o late steps ≡ b → (n len : ℕ) → len ≡ length steps → (next : List Step) → next ≡ take (len - n) steps
    → (e : Earlier) → slice_get b.states (length b.states - n) ≡ Some e → begun o late next ≡ cut_to n e b
cut_back o late steps b is n len long next nx e there =
    let first = after_late late o in
    let place : len - n ≡ length b.states - n = ap (λ m. m - n) (long ∙ count o late steps b is) in
    let states = ap (states_from first) nx ∙ states_take (len - n) first steps ∙ ap (λ m. take m (states_from first steps)) place ∙ ap (λ (w : Begun). take (length b.states - n) w.states) is in
    let now = ap (after_steps first) nx ∙ sym (state_at (len - n) first steps e (at_place o late steps b is n len long e there)) in
    λ i. record { states = states i; now = now i }

take_shorter : {X : Type 0} (k : ℕ) (xs : List X) → length (take k xs) ≤ length xs
take_shorter zero xs = omega arith
take_shorter (suc k) [] = omega arith
take_shorter (suc k) (x ∷ xs) = let r = take_shorter k xs in omega (arith, r)

pub cut_kept : (o : Standing) (late : Option Fired) (steps : List Step) → IsTrail o late steps → (k : ℕ) (next : List Step) → next ≡ take k steps → IsTrail o late next
cut_kept o late steps h k next nx =
    let P : List Step → Type 0 = λ ts. IsTrail o late ts in
    let short = take_shorter k steps in
    subst P (sym nx) (record { late_lawful = h.late_lawful; lawful = lawful_take k (after_late late o) steps h.lawful; few = omega (arith, h.few, short) })

pub lawful_until : (first oldest o : Standing) (late : Option Fired) (steps slice : List Step) → first ≡ after_late late oldest → oldest ≡ o → slice ≡ steps → (k : ℕ) → IsTrail o late steps → AreLawful first (take k slice)
lawful_until first oldest o late steps slice is was are k h =
    let P : Standing → Type 0 = λ s. AreLawful s (take k slice) in
    let Q : List Step → Type 0 = λ ts. AreLawful (after_late late o) (take k ts) in
    subst P (sym (is ∙ ap (after_late late) was)) (subst Q (sym are) (lawful_take k (after_late late o) steps h.lawful))

pub late_until : (oldest o : Standing) (late : Option Fired) (steps : List Step) → oldest ≡ o → IsTrail o late steps → IsLateLawful oldest late
late_until oldest o late steps is h = let P : Standing → Type 0 = λ s. IsLateLawful s late in subst P (sym is) h.late_lawful

pub remade_at : (first oldest o : Standing) (late : Option Fired) (steps slice : List Step) → first ≡ after_late late oldest → oldest ≡ o → slice ≡ steps → (b : Begun) → begun o late steps ≡ b → (n len : ℕ) → len ≡ length steps
    → (e : Earlier) → slice_get b.states (length b.states - n) ≡ Some e → after_steps first (take (len - n) slice) ≡ e.standing
remade_at first oldest o late steps slice is was are b view n len long e there =
    ap (λ s. after_steps s (take (len - n) slice)) (is ∙ ap (after_late late) was)
    ∙ ap (λ ts. after_steps (after_late late o) (take (len - n) ts)) are
    ∙ sym (state_at (len - n) (after_late late o) steps e (at_place o late steps b view n len long e there))
