-- Which lines have entries once a line has one more, or as many as before, or none.
use Rattle.std.proofs.Common.{◌≡◌, ◌≢◌, ℕ, zero, suc, ◌+◌, ◌<◌, inl, inr, List, [], ◌∷◌, ◌++◌, length, length-append, set, slice_get, get_or, Some, refl, ap, sym, subst, ◌∙◌, arith}
use Rattle.std.proofs.lemmas.List.{length-set}
use Rattle.std.proofs.lemmas.Option.{slice_get_read, slice_get_within}
use Rattle.token_line.specs.declared.line.Entry.{Entry}
use Rattle.token_line.specs.declared.line.Line.{Line}
use Rattle.step_core.specs.inner.Worked.{AreWorked}
use Rattle.step_core.proofs.ListPlaces.{get_left, get_last, get_push, get_set}

module _ (ls : List Line) (k : ℕ) (old new : Line) (worked : List ℕ) (told : AreWorked ls worked) (low : k < length ls) (is : old ≡ get_or ls k old) where
  here : slice_get ls k ≡ Some old
  here = slice_get_read ls (length ls) k old refl low is

  count : ℕ
  count = length new.entries.items

  here_now : (l : Line) → l ≡ new → length l.entries.items ≡ length new.entries.items
  here_now l same = ap (λ (x : Line). length x.entries.items) same

  -- the line has as many entries as before
  pub worked_same : length new.entries.items ≡ length old.entries.items → AreWorked (set ls k new) worked
  worked_same same = record {
    within = λ j i at. let a = told.within j i at in omega (arith, length-set ls k new);
    busy = λ j i l at there. elim (get_set ls k new i l there) [
      | inl h ↦ (let a = told.busy j k old (subst (λ n. slice_get worked j ≡ Some n) h.0 at) here in let b = here_now l h.1 in omega (arith, a, b, same))
      | inr h ↦ told.busy j i l at h.1
    ];
    rest = λ i l there none. elim (get_set ls k new i l there) [
      | inl h ↦ (let a = told.rest k old here (λ j e. none j (e ∙ ap (λ n. Some n) (sym h.0))) in let b = here_now l h.1 in omega (arith, a, b, same))
      | inr h ↦ told.rest i l h.1 none
    ];
    once = told.once;
  }

  module _ (more : length new.entries.items ≡ length old.entries.items + 1) where
    -- it has its first entry
    first : length new.entries.items ≡ 1 → AreWorked (set ls k new) (worked ++ k ∷ [])
    first one = record {
      within = λ j i at. elim (get_push worked k j i at) [
        | inl h ↦ (let a = told.within j i h in omega (arith, length-set ls k new))
        | inr h ↦ (let b = h.1 in omega (arith, b, length-set ls k new))
      ];
      busy = λ j i l at there. elim (get_set ls k new i l there) [
        | inl h ↦ (let b = here_now l h.1 in omega (arith, b, one))
        | inr h ↦ elim (get_push worked k j i at) [
          | inl p ↦ told.busy j i l p h.1
          | inr p ↦ absurd (h.0 p.1)
        ]
      ];
      rest = λ i l there none. elim (get_set ls k new i l there) [
        | inl h ↦ absurd (none (length worked) (get_last worked k (length worked) refl ∙ ap (λ n. Some n) (sym h.0)))
        | inr h ↦ told.rest i l h.1 (λ j e. none j (get_left worked (k ∷ []) j i e))
      ];
      once = λ j j' i at at'. elim (get_push worked k j i at) [
        | inl p ↦ elim (get_push worked k j' i at') [
          | inl q ↦ told.once j j' i p q
          | inr q ↦ absurd (fresh j (p ∙ ap (λ n. Some n) q.1))
        ]
        | inr p ↦ elim (get_push worked k j' i at') [
          | inl q ↦ absurd (fresh j' (q ∙ ap (λ n. Some n) p.1))
          | inr q ↦ p.0 ∙ sym q.0
        ]
      ];
    }
      where
        fresh : (j : ℕ) → slice_get worked j ≢ Some k
        fresh j e = let a = told.busy j k old e here in omega (arith, a, one, more)

    -- it had entries before
    later : length new.entries.items ≢ 1 → AreWorked (set ls k new) worked
    later many = record {
      within = λ j i at. let a = told.within j i at in omega (arith, length-set ls k new);
      busy = λ j i l at there. elim (get_set ls k new i l there) [
        | inl h ↦ (let b = here_now l h.1 in omega (arith, b, more))
        | inr h ↦ told.busy j i l at h.1
      ];
      rest = λ i l there none. elim (get_set ls k new i l there) [
        | inl h ↦ (let a = told.rest k old here (λ j e. none j (e ∙ ap (λ n. Some n) (sym h.0))) in absurd (many (omega (arith, a, more))))
        | inr h ↦ told.rest i l h.1 none
      ];
      once = told.once;
    }

    by : (n : ℕ) → n ≡ length new.entries.items → (worked' : List ℕ) → (length new.entries.items ≡ 1 → worked' ≡ worked ++ k ∷ []) → (length new.entries.items ≢ 1 → worked' ≡ worked) → AreWorked (set ls k new) worked'
    by zero e worked' named kept = absurd (omega (arith, e, more))
    by (suc zero) e worked' named kept = subst (AreWorked (set ls k new)) (sym (named (sym e))) (first (sym e))
    by (suc (suc n)) e worked' named kept = let many : length new.entries.items ≢ 1 = λ q. absurd (omega (arith, e, q)) in subst (AreWorked (set ls k new)) (sym (kept many)) (later many)

  -- the line has one entry more
  pub worked_more : (e : Entry) → new.entries.items ≡ old.entries.items ++ e ∷ [] → (worked' : List ℕ) → (length new.entries.items ≡ 1 → worked' ≡ worked ++ k ∷ []) → (length new.entries.items ≢ 1 → worked' ≡ worked)
      → AreWorked (set ls k new) worked'
  worked_more e entries worked' named kept = by (ap length entries ∙ length-append old.entries.items (e ∷ [])) (length new.entries.items) refl worked' named kept

pub named_within : (ls : List Line) (k : ℕ) (worked worked' : List ℕ) → worked ≡ worked' ++ k ∷ [] → AreWorked ls worked → k < length ls
named_within ls k worked worked' is told = told.within (length worked') k (subst (λ w. slice_get w (length worked') ≡ Some k) (sym is) (get_last worked' k (length worked') refl))

-- the line that was named last has no entry any more
pub worked_less : (ls : List Line) (k : ℕ) (new : Line) (worked worked' : List ℕ) → worked ≡ worked' ++ k ∷ [] → AreWorked ls worked → new.entries.items ≡ [] → AreWorked (set ls k new) worked'
worked_less ls k new worked worked' is told none = record {
  within = λ j i at. let a = told.within j i (before j i at) in omega (arith, length-set ls k new);
  busy = λ j i l at there. elim (get_set ls k new i l there) [
    | inl h ↦ absurd (apart j i at h.0)
    | inr h ↦ told.busy j i l (before j i at) h.1
  ];
  rest = λ i l there others. elim (get_set ls k new i l there) [
    | inl h ↦ (ap (λ (x : Line). length x.entries.items) h.1 ∙ ap length none)
    | inr h ↦ told.rest i l h.1 (λ j e. elim (get_push worked' k j i (subst (λ w. slice_get w j ≡ Some i) is e)) [ inl p ↦ others j p | inr p ↦ h.0 p.1 ])
  ];
  once = λ j j' i at at'. told.once j j' i (before j i at) (before j' i at');
}
  where
    before : (j i : ℕ) → slice_get worked' j ≡ Some i → slice_get worked j ≡ Some i
    before j i at = subst (λ w. slice_get w j ≡ Some i) (sym is) (get_left worked' (k ∷ []) j i at)

    -- it was named once
    apart : (j i : ℕ) → slice_get worked' j ≡ Some i → i ≢ k
    apart j i at same =
        let last : slice_get worked (length worked') ≡ Some i = subst (λ w. slice_get w (length worked') ≡ Some i) (sym is) (get_last worked' k (length worked') refl ∙ ap (λ n. Some n) (sym same)) in
        let low = slice_get_within worked' j i at in
        let e = told.once j (length worked') i (before j i at) last in omega (arith, low, e)

-- where none is named no line has an entry
pub all_rest : (ls : List Line) (worked : List ℕ) → AreWorked ls worked → length worked ≡ 0 → (i : ℕ) (l : Line) → slice_get ls i ≡ Some l → l.entries.items ≡ []
all_rest ls worked told none i l at = is_none l.entries.items (told.rest i l at (λ k e. let low = slice_get_within worked k i e in absurd (omega (arith, low, none))))
  where
    is_none : (es : List Entry) → length es ≡ 0 → es ≡ []
    is_none [] e = refl
    is_none (x ∷ xs) e = absurd (omega arith)
