-- Lines in the order of their numbers, and their sums.
use Rattle.std.proofs.Common.{◌≡◌, ◌≢◌, ◌≤◌, ◌<◌, ◌+◌, ℕ, zero, suc, List, [], ◌∷◌, ◌++◌, pos, ◌+ℤ◌, refl, ap, subst, arith, map, slice_get, Some}
use Rattle.std.specs.List.{AllByRecursion}
use Rattle.std.proofs.lemmas.Int.{ints}
use Rattle.std.proofs.lemmas.List.{map-append}
use Rattle.net_base.specs.declared.nodes.Node.{Node}
use Rattle.net_base.specs.declared.tasks.Side.{Side}
use Rattle.net_base.specs.Tokens.{Elements}
use Rattle.token_line.specs.declared.line.Entry.{Entry}
use Rattle.token_line.specs.Bags.{Bag, sign_at, signs, after}
use Rattle.step_core.specs.Machine.{Placing, KeepsOneLine, Seen}
use Rattle.step_core.specs.Phases.{total, HoldJust, tasks_of, now, before, AreLawful, entries_of}
use Rattle.step_core.proofs.Signs.{signs-append}
use Rattle.step_core.proofs.Fair.{IsOn, IsWithin, sign_at-off, signs-off, Agrees, AreFair, after_all, after_all_is, lawful_is_fair}

-- ---- what holds of each in a list, with its number

abbrev pub AllFrom : {X : Type 0} → (ℕ → X → Type 0) → ℕ → List X → Type 0
AllFrom P k [] = Unit {0}
AllFrom P k (x ∷ xs) = P k x × AllFrom P (suc k) xs

pub all_from : {X : Type 0} (P : ℕ → X → Type 0) (k : ℕ) (xs : List X) → ((i : ℕ) (x : X) → slice_get xs i ≡ Some x → P (k + i) x) → AllFrom P k xs
all_from P k [] each = tt
all_from P k (x ∷ xs) each = (
  subst (λ j. P j x) (omega arith) (each 0 x refl),
  all_from P (suc k) xs (λ i y at. subst (λ j. P j y) (omega arith) (each (suc i) y at)),
)

pub at_from : {X : Type 0} (P : ℕ → X → Type 0) (k : ℕ) (xs : List X) → AllFrom P k xs → (i : ℕ) (x : X) → slice_get xs i ≡ Some x → P (k + i) x
at_from P k [] all i x at = absurd (cc)
at_from P k (y ∷ ys) all zero x at = let same : y ≡ x = cc in subst (λ z. P (k + 0) z) same (subst (λ j. P j y) (omega arith) all.0)
at_from P k (y ∷ ys) all (suc i) x at = subst (λ j. P j x) (omega arith) (at_from P (suc k) ys all.1 i x at)

-- ---- sums over lines

pub total-append : (xs ys : List Bag) (n : ℕ) (s : Side) (t : List ℕ) → total (xs ++ ys) n s t ≡ total xs n s t +ℤ total ys n s t
total-append [] ys n s t = omega (arith, ints)
total-append (x ∷ xs) ys n s t = omega (arith, ints, total-append xs ys n s t)

-- sums each of which has nothing of another line
abbrev pub AreWithin : Placing → ℕ → List Bag → Type 0
AreWithin line k bags = AllFrom (IsWithin line) k bags

-- what belongs to an earlier line is nowhere in the later ones
pub total-later : (line : Placing) (k : ℕ) (bags : List Bag) → AreWithin line k bags → (n : ℕ) (s : Side) (t : List ℕ) → line n s t < k → total bags n s t ≡ pos 0
total-later line k [] within n s t lt = refl
total-later line k (b ∷ bs) within n s t lt =
    let a : b n s t ≡ pos 0 = within.0 n s t (λ q. absurd (omega arith)) in
    let less : line n s t < suc k = omega arith in
    let c = total-later line (suc k) bs within.1 n s t less in omega (arith, ints, a, c)

-- lines each of which has nothing of another
pub hold_just : (line : Placing) (b : Bag) (bags : List Bag) → ((n : ℕ) (s : Side) (t : List ℕ) → total bags n s t ≡ b n s t) → AreWithin line 0 bags → HoldJust line b bags
hold_just line b bags all within = record {
  all = all;
  apart = λ i c at. subst (λ j. IsWithin line j c) (omega arith) (at_from (IsWithin line) 0 bags within i c at);
}

-- ---- a line

-- line i: its phase is lawful, and has nothing of another line
pub record IsLine (elements : Elements) (nodes : List Node) (line : Placing) (i : ℕ) (l : Seen) : Type 0 where
  pub within : IsWithin line i (before l)
  pub placed : AllByRecursion (IsOn line i) (tasks_of l.entries)
  pub lawful : AreLawful elements nodes (before l) l.entries

abbrev pub AreLines : Elements → List Node → Placing → ℕ → List Seen → Type 0
AreLines elements nodes line k ls = AllFrom (IsLine elements nodes line) k ls

pub before_within : (elements : Elements) (nodes : List Node) (line : Placing) (k : ℕ) (ls : List Seen) → AreLines elements nodes line k ls → AreWithin line k (map before ls)
before_within elements nodes line k [] are = tt
before_within elements nodes line k (l ∷ ls) are = (are.0.within, before_within elements nodes line (suc k) ls are.1)

now-off : (elements : Elements) (nodes : List Node) (line : Placing) (i : ℕ) (l : Seen) → IsLine elements nodes line i l → IsWithin line i (now l)
now-off elements nodes line i l is n s t off =
    let a = is.within n s t off in
    let b = signs-off line i n s t off (tasks_of l.entries) is.placed in omega (arith, ints, a, b)

pub now_within : (elements : Elements) (nodes : List Node) (line : Placing) (k : ℕ) (ls : List Seen) → AreLines elements nodes line k ls → AreWithin line k (map now ls)
now_within elements nodes line k [] are = tt
now_within elements nodes line k (l ∷ ls) are = (now-off elements nodes line k l are.0, now_within elements nodes line (suc k) ls are.1)

-- the sums now are those at the start and the signs of all tasks
pub total_is : (ls : List Seen) (n : ℕ) (s : Side) (t : List ℕ) → total (map now ls) n s t ≡ total (map before ls) n s t +ℤ signs n s t (tasks_of (entries_of ls))
total_is [] n s t = refl
total_is (l ∷ ls) n s t =
    let a = total_is ls n s t in
    let b = ap (signs n s t) (map-append (λ (e : Entry). e.task) l.entries (entries_of ls)) in
    let c = signs-append n s t (tasks_of l.entries) (tasks_of (entries_of ls)) in omega (arith, ints, a, b, c)

-- ---- the entries of all lines, one line after another

AreFair-append : (elements : Elements) (nodes : List Node) (memory : Bag) (xs ys : List Entry) (b : Bag)
    → AreFair elements nodes memory b xs → AreFair elements nodes memory (after_all b xs) ys → AreFair elements nodes memory b (xs ++ ys)
AreFair-append elements nodes memory [] ys b f g = g
AreFair-append elements nodes memory (x ∷ xs) ys b f g = (f.0, AreFair-append elements nodes memory xs ys (after b x.task) f.1 g)

module _ (elements : Elements) (nodes : List Node) (line : Placing) (one : KeepsOneLine elements nodes line) (memory : Bag) where
  phase_is_fair : (i : ℕ) (es : List Entry) (all b : Bag) → Agrees line i all b → IsWithin line i b → AllByRecursion (IsOn line i) (tasks_of es) → AreLawful elements nodes b es → AreFair elements nodes memory all es
  phase_is_fair i [] all b agree within on lawful = tt
  phase_is_fair i (e ∷ es) all b agree within on lawful = (
    lawful_is_fair elements nodes line one memory i all b e agree within on.0 lawful.0,
    phase_is_fair i es (after all e.task) (after b e.task)
        (λ n s t k. ap (λ z. z +ℤ sign_at n s t e.task) (agree n s t k))
        (λ n s t off. let a = within n s t off in let c = sign_at-off line i n s t off e.task on.0 in omega (arith, ints, a, c))
        on.1 lawful.1,
  )

  pub lines_are_fair : (i : ℕ) (ls : List Seen) (all : Bag) → AreLines elements nodes line i ls → ((n : ℕ) (s : Side) (t : List ℕ) → i ≤ line n s t → all n s t ≡ total (map before ls) n s t)
      → AreFair elements nodes memory all (entries_of ls)
  lines_are_fair i [] all are agree = tt
  lines_are_fair i (l ∷ ls) all are agree =
      AreFair-append elements nodes memory l.entries (entries_of ls) all
      (phase_is_fair i l.entries all (before l) here are.0.within are.0.placed are.0.lawful)
      (lines_are_fair (suc i) ls (after_all all l.entries) are.1 later)
    where
      here : Agrees line i all (before l)
      here n s t k =
          let below : line n s t < suc i = omega arith in
          let low : i ≤ line n s t = omega arith in
          let a = total-later line (suc i) (map before ls) (before_within elements nodes line (suc i) ls are.1) n s t below in
          let c = agree n s t low in omega (arith, ints, a, c)

      later : (n : ℕ) (s : Side) (t : List ℕ) → suc i ≤ line n s t → after_all all l.entries n s t ≡ total (map before ls) n s t
      later n s t k =
          let off : line n s t ≢ i = λ q. absurd (omega arith) in
          let low : i ≤ line n s t = omega arith in
          let a = after_all_is all l.entries n s t in
          let b = signs-off line i n s t off (tasks_of l.entries) are.0.placed in
          let z = are.0.within n s t off in
          let c = agree n s t low in omega (arith, ints, a, b, z, c)
