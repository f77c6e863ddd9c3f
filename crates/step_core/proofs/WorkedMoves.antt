-- What the lines that have entries moved is all that moved.
use Rattle.std.proofs.Common.{◌≡◌, ◌≢◌, ℕ, zero, suc, ◌+◌, ◌<◌, ◌≤◌, ◌==◌, Bool, true, false, cond, List, [], ◌∷◌, ◌++◌, ℤ, pos, ◌+ℤ◌, refl, sym, ap, ap₂, ◌∙◌, arith, inl, inr, length, map, take, get_or, slice_get, Option, Some, None, append-nil}
use Rattle.std.specs.Prelude.{option_map}
use Rattle.std.specs.List.{All}
use Rattle.std.proofs.Math.Seq.{take-suc}
use Rattle.std.proofs.lemmas.Bool.Decides.{Decides-eqb}
use Rattle.std.proofs.lemmas.Grind.{flat_map-append}
use Rattle.std.proofs.lemmas.Int.{ints}
use Rattle.std.proofs.lemmas.List.{length-map, take_all}
use Rattle.std.proofs.lemmas.Option.{slice_get-get_or, slice_get-map}
use Rattle.ops_base.specs.declared.rules.Inst.{Inst}
use Rattle.ops_base.proofs.Members.{IsMember, flat_map_member, member-flat_map}
use Rattle.net_base.specs.declared.nodes.Node.{Node}
use Rattle.token_line.specs.declared.line.Entry.{Entry}
use Rattle.token_line.specs.declared.line.Line.{Line}
use Rattle.step_core.specs.Machine.{Seen}
use Rattle.step_core.specs.inner.Worked.{AreWorked}
use Rattle.step_core.specs.Worlds.{seen}
use Rattle.step_core.specs.declared.gathering.Moved.{Moved}
use Rattle.step_core.specs.inner.Gathering.{moved_at, moved_in, moved_on, moved_over}
use Rattle.step_core.proofs.AddingUp.{member_got, moved_change, moved_change-append}

-- ---- sums over places

-- over the places below the bound
abbrev sum_below : (ℕ → ℤ) → ℕ → ℤ
sum_below h zero = pos 0
sum_below h (suc n) = sum_below h n +ℤ h n

-- over these places
abbrev sum_at : (ℕ → ℤ) → List ℕ → ℤ
sum_at h [] = pos 0
sum_at h (p ∷ ps) = h p +ℤ sum_at h ps

same_below : (a b : ℕ → ℤ) (n : ℕ) → ((j : ℕ) → j < n → a j ≡ b j) → sum_below a n ≡ sum_below b n
same_below a b zero same = refl
same_below a b (suc n) same = ap₂ (λ x y. x +ℤ y) (same_below a b n (λ j low. same j (omega (arith, low)))) (same n (omega arith))

-- two that differ at one place
one_more_below : (a b : ℕ → ℤ) (p n : ℕ) → p < n → ((j : ℕ) → j ≢ p → a j ≡ b j) → b p ≡ pos 0 → sum_below a n ≡ a p +ℤ sum_below b n
one_more_below a b p zero low same none = absurd (omega (arith, low))
one_more_below a b p (suc n) low same none = by (n == p) refl (λ less. one_more_below a b p n less same none)
  where
    by : (v : Bool) → (n == p) ≡ v → (p < n → sum_below a n ≡ a p +ℤ sum_below b n) → sum_below a n +ℤ a n ≡ a p +ℤ (sum_below b n +ℤ b n)
    by true e ih =
        let is : n ≡ p = (Decides-eqb n p).0 e in
        let r = same_below a b n (λ j less. same j (λ q. absurd (omega (arith, less, is, q)))) in
        let x = ap a is in
        let y = ap b is in omega (arith, ints, r, x, y, none)
    by false e ih =
        let other : n ≢ p = (λ q. let h = (Decides-eqb n p).1 q in absurd (let f = sym e ∙ h in cc)) in
        let r = ih (omega (arith, low, other)) in
        let s = same n other in omega (arith, ints, r, s)

abbrev is_in : ℕ → List ℕ → Bool
is_in j [] = false
is_in j (p ∷ ps) = cond (j == p) true (is_in j ps)

in_member : (j : ℕ) (ps : List ℕ) → is_in j ps ≡ true → IsMember j ps
in_member j [] e = absurd (cc)
in_member j (p ∷ ps) e = by (λ f. in_member j ps f) (j == p) refl e
  where
    by : (is_in j ps ≡ true → IsMember j ps) → (v : Bool) → (j == p) ≡ v → cond v true (is_in j ps) ≡ true → IsMember j (p ∷ ps)
    by ih true q f = inl ((Decides-eqb j p).0 q)
    by ih false q f = inr (ih f)

not_in : (j : ℕ) (ps : List ℕ) → (IsMember j ps → ⊥) → is_in j ps ≡ false
not_in j ps off = by (is_in j ps) refl
  where
    by : (v : Bool) → is_in j ps ≡ v → v ≡ false
    by true e = absurd (off (in_member j ps e))
    by false e = refl

-- each place once, and below the bound
abbrev AreOnce : List ℕ → Type 0
AreOnce [] = Unit {0}
AreOnce (p ∷ ps) = (IsMember p ps → ⊥) × AreOnce ps

-- of the places that are named, and nothing of the others
abbrev those_of : (ℕ → ℤ) → List ℕ → ℕ → ℤ
those_of h ps j = cond (is_in j ps) (h j) (pos 0)

sum_those : (h : ℕ → ℤ) (n : ℕ) (ps : List ℕ) → AreOnce ps → ((p : ℕ) → IsMember p ps → p < n) → sum_below (those_of h ps) n ≡ sum_at h ps
sum_those h n [] once low = none n
  where
    none : (m : ℕ) → sum_below (those_of h []) m ≡ pos 0
    none zero = refl
    none (suc m) = let r = none m in omega (arith, ints, r)
sum_those h n (p ∷ ps) once low =
    let r = sum_those h n ps once.1 (λ q m. low q (inr m)) in
    let one = one_more_below (those_of h (p ∷ ps)) (those_of h ps) p n (low p (inl refl)) apart off in
    let own = ap (λ v. cond (cond v true (is_in p ps)) (h p) (pos 0)) ((Decides-eqb p p).1 refl) in omega (arith, ints, r, one, own)
  where
    apart : (j : ℕ) → j ≢ p → those_of h (p ∷ ps) j ≡ those_of h ps j
    apart j ne = by (j == p) refl
      where
        by : (v : Bool) → (j == p) ≡ v → cond (cond v true (is_in j ps)) (h j) (pos 0) ≡ cond (is_in j ps) (h j) (pos 0)
        by true e = absurd (ne ((Decides-eqb j p).0 e))
        by false e = refl

    off : those_of h ps p ≡ pos 0
    off = ap (λ v. cond v (h p) (pos 0)) (not_in p ps once.0)

-- where the others have nothing
sum_named : (h : ℕ → ℤ) (n : ℕ) (ps : List ℕ) → AreOnce ps → ((p : ℕ) → IsMember p ps → p < n) → ((j : ℕ) → j < n → (IsMember j ps → ⊥) → h j ≡ pos 0) → sum_at h ps ≡ sum_below h n
sum_named h n ps once low rest = sym (sum_those h n ps once low) ∙ same_below (those_of h ps) h n (λ j less. at j less (is_in j ps) refl)
  where
    at : (j : ℕ) → j < n → (v : Bool) → is_in j ps ≡ v → those_of h ps j ≡ h j
    at j less true e = ap (λ v. cond v (h j) (pos 0)) e
    at j less false e = ap (λ v. cond v (h j) (pos 0)) e ∙ sym (rest j less (λ m. absurd (let f = sym e ∙ member_in j ps m in cc)))
      where
        member_in : (k : ℕ) (qs : List ℕ) → IsMember k qs → is_in k qs ≡ true
        member_in k [] m = absurd m
        member_in k (q ∷ qs) (inl f) = ap (λ v. cond v true (is_in k qs)) ((Decides-eqb k q).1 f)
        member_in k (q ∷ qs) (inr m) = by (k == q) (member_in k qs m)
          where
            by : (v : Bool) → is_in k qs ≡ true → cond v true (is_in k qs) ≡ true
            by true f = refl
            by false f = f

-- ---- lines

module _ (nodes : List Node) (ls : List Line) (worked : List ℕ) (are : AreWorked ls worked) where
  got : (p : ℕ) (ps : List ℕ) → IsMember p ps → (k : ℕ) × (slice_get ps k ≡ Some p)
  got p [] m = absurd m
  got p (q ∷ ps) (inl e) = (zero, ap Some (sym e))
  got p (q ∷ ps) (inr m) = let r = got p ps m in (suc r.0, r.1)

  each_once : (ps : List ℕ) → ((j k i : ℕ) → slice_get ps j ≡ Some i → slice_get ps k ≡ Some i → j ≡ k) → AreOnce ps
  each_once [] once = tt
  each_once (p ∷ ps) once = (
    (λ m. let r = got p ps m in let e = once zero (suc r.0) p refl r.1 in absurd (omega (arith, e))),
    each_once ps (λ j k i at at'. let e = once (suc j) (suc k) i at at' in omega (arith, e)),
  )

  module _ (i : Inst) where
    abbrev of_place : ℕ → ℤ
    of_place k = moved_change i (moved_in nodes (slice_get (map seen ls) k))

    places_moved : (ps : List ℕ) → moved_change i (moved_at nodes (map seen ls) ps) ≡ sum_at of_place ps
    places_moved [] = refl
    places_moved (p ∷ ps) =
        let a = moved_change-append i (moved_in nodes (slice_get (map seen ls) p)) (moved_at nodes (map seen ls) ps) in
        let r = places_moved ps in omega (arith, ints, a, r)

    first_moved : (k : ℕ) → k ≤ length ls → moved_change i (moved_over nodes (take k (map seen ls))) ≡ sum_below of_place k
    first_moved zero low = refl
    first_moved (suc k) low =
        let n = length-map ls seen in
        let l = get_or (map seen ls) k (record { sums = λ n s t. pos 0; entries = [] }) in
        let less : k < length (map seen ls) = omega (arith, low, n) in
        let b = ap (λ xs. moved_change i (moved_over nodes xs)) (take-suc (map seen ls) k (record { sums = λ n s t. pos 0; entries = [] }) less) in
        let c = ap (moved_change i) (flat_map-append (moved_on nodes) (take k (map seen ls)) (l ∷ [])) in
        let d = moved_change-append i (moved_over nodes (take k (map seen ls))) (moved_over nodes (l ∷ [])) in
        let e = ap (λ o. moved_change i (moved_in nodes o)) (slice_get-get_or (map seen ls) k (record { sums = λ n s t. pos 0; entries = [] }) less) in
        let f = moved_change-append i (moved_on nodes l) [] in
        let r = first_moved k (omega (arith, low)) in omega (arith, ints, b, c, d, e, f, r)

    none_moved : (j : ℕ) → j < length ls → (IsMember j worked → ⊥) → of_place j ≡ pos 0
    none_moved j less off = by (slice_get ls j) refl
      where
        empty : (es : List Entry) → length es ≡ 0 → es ≡ []
        empty [] e = refl
        empty (x ∷ xs) e = absurd (omega (arith, e))

        by : (o : Option Line) → slice_get ls j ≡ o → moved_change i (moved_in nodes (slice_get (map seen ls) j)) ≡ pos 0
        by None at = ap (λ o. moved_change i (moved_in nodes o)) (slice_get-map seen ls j ∙ ap (option_map seen) at)
        by (Some l) at =
            let none = empty l.entries.items (are.rest j l at (λ k e. off (member_got worked k j e))) in
            ap (λ o. moved_change i (moved_in nodes o)) (slice_get-map seen ls j ∙ ap (option_map seen) at)
            ∙ ap (λ es. moved_change i (moved_on nodes (record { sums = (seen l).sums; entries = es }))) none

    pub worked_as_much : moved_change i (moved_at nodes (map seen ls) worked) ≡ moved_change i (moved_over nodes (map seen ls))
    worked_as_much =
        let n = length-map ls seen in
        let all = ap (λ xs. moved_change i (moved_over nodes xs)) (take_all (length ls) (map seen ls) (omega (arith, n))) in
        places_moved worked
        ∙ (sum_named of_place (length ls) worked (each_once worked are.once) (λ p m. let r = got p worked m in are.within r.0 p r.1) none_moved
        ∙ (sym (first_moved (length ls) (omega arith)) ∙ all))

  pub worked_within : (m : Moved) → IsMember m (moved_at nodes (map seen ls) worked) → IsMember m (moved_over nodes (map seen ls))
  worked_within m k =
      let a = flat_map_member (λ j. moved_in nodes (slice_get (map seen ls) j)) m worked k in by a.0 (slice_get (map seen ls) a.0) refl a.2
    where
      by : (j : ℕ) (o : Option Seen) → slice_get (map seen ls) j ≡ o → IsMember m (moved_in nodes o) → IsMember m (moved_over nodes (map seen ls))
      by j None at n = absurd n
      by j (Some l) at n = member-flat_map (moved_on nodes) m l (map seen ls) (member_got (map seen ls) j l at) n

pub all_within : (ls : List Line) (worked : List ℕ) → AreWorked ls worked → All (λ i. i < length ls) worked
all_within ls worked are = λ k d low. are.within k (get_or worked k d) (slice_get-get_or worked k d low)

-- one place more
pub moved_more : (nodes : List Node) (ls : List Line) (places : List ℕ) (k : ℕ) (l : Line) → k < length places → get_or places k 0 < length ls → l ≡ get_or ls (get_or places k 0) l
    → (ms : List Moved) → ms ≡ moved_at nodes (map seen ls) (take k places) → ms ++ moved_on nodes (seen l) ≡ moved_at nodes (map seen ls) (take (k + 1) places)
moved_more nodes ls places k l low within is ms so_far =
    let p : ℕ = get_or places k 0 in
    let more : suc k ≡ k + 1 = omega arith in
    let at : slice_get (map seen ls) p ≡ Some (seen l) = slice_get-map seen ls p ∙ ap (option_map seen) (slice_get-get_or ls p l within ∙ ap Some (sym is)) in
    let one : moved_at nodes (map seen ls) (p ∷ []) ≡ moved_on nodes (seen l) = append-nil (moved_in nodes (slice_get (map seen ls) p)) ∙ ap (moved_in nodes) at in
    ap₂ (λ xs ys. xs ++ ys) so_far (sym one)
    ∙ (sym (flat_map-append (λ i. moved_in nodes (slice_get (map seen ls) i)) (take k places) (p ∷ []))
    ∙ ap (moved_at nodes (map seen ls)) (sym (take-suc places k 0 low) ∙ ap (λ n. take n places) more))
