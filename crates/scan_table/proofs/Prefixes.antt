-- How the longest accepted prefix changes with one byte more.
use Rattle.std.proofs.Common.{◌≡◌, ℕ, suc, ◌+◌, ◌-◌, ◌<◌, ◌≤◌, Bool, true, false, cond, eqb, List, [], ◌∷◌, ◌++◌, length, get_or, take, drop, fold, Option, Some, None, refl, sym, ap, ◌∙◌, arith, inl, inr}
use Rattle.std.specs.List.{slice_range, slice_index}
use Rattle.std.proofs.lemmas.List.{get_or-drop, get_or-take, get_or_past, length-drop, length-take}
use Rattle.std.proofs.lemmas.List.Sums.{fold_more, fold-append}
use Rattle.std.proofs.Math.Seq.{take-add}
use Rattle.std.proofs.lemmas.Bool.{eqb-true, eqb-false, cases_lt}
use Rattle.scan_table.specs.Table.{Table, step_of, state_after, accepted, NoneAccepted, IsLongestWithin}

state_more : (t : Table) (bytes : List ℕ) (from i state byte : ℕ) → from ≤ i → i < length bytes → state ≡ state_after t (slice_range bytes from i) → byte ≡ get_or bytes i 0 → step_of t state byte ≡ state_after t (slice_range bytes from (i + 1))
state_more t bytes from i state byte le lt e b =
    let n : i + 1 - from ≡ (i - from) + 1 = omega arith in
    let long : i - from < length (drop from bytes) = omega (arith, length-drop from bytes) in
    let item : get_or (drop from bytes) (i - from) 0 ≡ byte = get_or-drop from bytes (i - from) 0 ∙ ap (λ (k : ℕ). get_or bytes k 0) (let k : from + (i - from) ≡ i = omega arith in k) ∙ sym b in
    sym (ap (λ (k : ℕ). state_after t (take k (drop from bytes))) n ∙ fold_more (step_of t) 0 (drop from bytes) (i - from) 0 long ∙ ap (λ (x : ℕ). step_of t (state_after t (slice_range bytes from i)) x) item ∙ ap (λ (q : ℕ). step_of t q byte) (sym e))

none_more : (t : Table) (bytes : List ℕ) (from after i : ℕ) → NoneAccepted t bytes from after i → accepted t (slice_range bytes from (i + 1)) ≡ 0 → NoneAccepted t bytes from after (i + 1)
none_more t bytes from after i none zero end low high =
    elim (cases_lt end (i + 1)) [
      | inl lt ↦ none end low (omega arith)
      | inr le ↦ let e : end ≡ i + 1 = omega arith in rw e zero
    ]

longest_none : (t : Table) (bytes : List ℕ) (from : ℕ) → IsLongestWithin t bytes from from None
longest_none t bytes from end low high = absurd (omega arith)

by_kind : (t : Table) (bytes : List ℕ) (from i kind : ℕ) (best : Option (ℕ × ℕ)) (b : Bool) → eqb kind 0 ≡ b → from ≤ i → IsLongestWithin t bytes from i best → accepted t (slice_range bytes from (i + 1)) ≡ kind → IsLongestWithin t bytes from (i + 1) (cond b best (Some (i + 1, kind)))
by_kind t bytes from i kind None true e le so_far a = none_more t bytes from from i so_far (a ∙ eqb-true kind 0 e)
by_kind t bytes from i kind (Some (end, k)) true e le so_far a =
    (so_far.0, (let h : end ≤ i + 1 = omega (arith, so_far.1) in h), so_far.2, so_far.3, none_more t bytes from end i so_far.4 (a ∙ eqb-true kind 0 e))
by_kind t bytes from i kind best false e le so_far a =
    ((let h : from < i + 1 = omega arith in h), (let h : i + 1 ≤ i + 1 = omega arith in h), eqb-false kind 0 e, a, λ end low high. absurd (omega arith))

longest_more : (t : Table) (bytes : List ℕ) (from i kind : ℕ) (best : Option (ℕ × ℕ)) → from ≤ i → IsLongestWithin t bytes from i best → accepted t (slice_range bytes from (i + 1)) ≡ kind → IsLongestWithin t bytes from (i + 1) (cond (eqb kind 0) best (Some (i + 1, kind)))
longest_more t bytes from i kind best le so_far a = by_kind t bytes from i kind best (eqb kind 0) refl le so_far a

-- the state after the bytes up to `at`, and the longest prefix among them
pub record HasRead (t : Table) (bytes : List ℕ) (from at state : ℕ) (best : Option (ℕ × ℕ)) : Type 0 where
  pub leads : state ≡ state_after t (slice_range bytes from at)
  pub longest : IsLongestWithin t bytes from at best

pub read_none : (t : Table) (bytes : List ℕ) (from state : ℕ) → state ≡ 0 → HasRead t bytes from from state None
read_none t bytes from state start =
    let none : 0 ≡ from - from = omega arith in
    record { leads = start ∙ ap (λ (k : ℕ). state_after t (take k (drop from bytes))) none; longest = longest_none t bytes from }

pub read_more : (t : Table) (bytes : List ℕ) (from at state byte next kind : ℕ) (best kept : Option (ℕ × ℕ)) → from ≤ at → at < length bytes → byte ≡ get_or bytes at 0 → next ≡ step_of t state byte → kind ≡ slice_index t.kinds next
    → kept ≡ cond (eqb kind 0) best (Some (at + 1, kind)) → HasRead t bytes from at state best → HasRead t bytes from (at + 1) next kept
read_more t bytes from at state byte next kind best kept low high is step accepts keeps read =
    let after : next ≡ state_after t (slice_range bytes from (at + 1)) = step ∙ state_more t bytes from at state byte low high read.leads is in
    record {
      leads = after;
      longest = rw keeps (longest_more t bytes from at kind best low read.longest (sym (accepts ∙ ap (λ (q : ℕ). slice_index t.kinds q) after)));
    }

-- a state that each byte leads back to is never left
stays : (t : Table) (q : ℕ) → ((byte : ℕ) → byte < 256 → step_of t q byte ≡ q) → (s : List ℕ) → ((i : ℕ) → get_or s i 0 < 256) → fold (step_of t) q s ≡ q
stays t q h [] bytes = refl
stays t q h (b ∷ s) bytes = ap (λ (x : ℕ). fold (step_of t) x s) (h b (bytes 0)) ∙ stays t q h s (λ i. bytes (suc i))

below_drop : (n : ℕ) (bytes : List ℕ) → ((i : ℕ) → get_or bytes i 0 < 256) → (i : ℕ) → get_or (drop n bytes) i 0 < 256
below_drop n bytes h i = rw get_or-drop (h (n + i))

below_take : (n : ℕ) (bytes : List ℕ) → ((i : ℕ) → get_or bytes i 0 < 256) → (i : ℕ) → get_or (take n bytes) i 0 < 256
below_take n bytes h i =
    elim (cases_lt i n) [
      | inl lt ↦ rw (get_or-take n bytes i 0 lt) (h i)
      | inr le ↦ rw (get_or_past (take n bytes) i 0 (omega (arith, length-take n bytes))) (omega arith)
    ]

dead_stays : (t : Table) (bytes : List ℕ) (from i end q : ℕ) → from ≤ i → i ≤ end → ((k : ℕ) → get_or bytes k 0 < 256) → ((byte : ℕ) → byte < 256 → step_of t q byte ≡ q) → q ≡ state_after t (slice_range bytes from i) → state_after t (slice_range bytes from end) ≡ q
dead_stays t bytes from i end q le high below h e =
    let n : end - from ≡ (i - from) + (end - i) = omega arith in
    let parts : slice_range bytes from end ≡ slice_range bytes from i ++ take (end - i) (drop (i - from) (drop from bytes)) = ap (λ (k : ℕ). take k (drop from bytes)) n ∙ take-add (i - from) (end - i) (drop from bytes) in
    ap (state_after t) parts ∙ fold-append (step_of t) 0 (slice_range bytes from i) (take (end - i) (drop (i - from) (drop from bytes))) ∙ ap (λ (x : ℕ). fold (step_of t) x (take (end - i) (drop (i - from) (drop from bytes)))) (sym e)
    ∙ stays t q h (take (end - i) (drop (i - from) (drop from bytes))) (below_take (end - i) _ (below_drop (i - from) _ (below_drop from bytes below)))

pub longest_dead : (t : Table) (bytes : List ℕ) (from i q : ℕ) (best : Option (ℕ × ℕ)) → from ≤ i → i ≤ length bytes → ((k : ℕ) → get_or bytes k 0 < 256) → ((byte : ℕ) → byte < 256 → step_of t q byte ≡ q) → q ≡ state_after t (slice_range bytes from i) → slice_index t.kinds q ≡ 0 → IsLongestWithin t bytes from i best → IsLongestWithin t bytes from (length bytes) best
longest_dead t bytes from i q None le high below h e zero none = λ end low top.
    elim (cases_lt i end) [
      | inl lt ↦ ap (λ (x : ℕ). slice_index t.kinds x) (dead_stays t bytes from i end q le (omega arith) below h e) ∙ zero
      | inr ge ↦ none end low ge
    ]
longest_dead t bytes from i q (Some (past, n)) le high below h e zero found = (
  found.0,
  (let k : past ≤ length bytes = omega (arith, found.1) in k),
  found.2,
  found.3,
  λ end low top.
      elim (cases_lt i end) [
        | inl lt ↦ ap (λ (x : ℕ). slice_index t.kinds x) (dead_stays t bytes from i end q le (omega arith) below h e) ∙ zero
        | inr ge ↦ found.4 end low ge
      ],
)
