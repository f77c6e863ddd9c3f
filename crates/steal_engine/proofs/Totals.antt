-- What all workers did together.
use Rattle.std.proofs.Common.{◌≡◌, ◌<◌, ℕ, suc, ◌+◌, List, [], ◌∷◌, ap, ap₂, refl, sum_by, arith, map, length, IsTrue, slice_index_or}
use Rattle.std.specs.List.{AllZip, All}
use Rattle.std.proofs.lemmas.List.Sums.{sum_by-cons}
use Rattle.std.proofs.lemmas.List.Elements.{All-head, All-tail}
use Rattle.net_base.specs.declared.tasks.Task.{Task}
use Rattle.steal_engine.specs.declared.rounds.Round.{Round}
use Rattle.steal_engine.specs.declared.seats.Seat.{Seat}
use Rattle.steal_engine.specs.declared.seats.Worked.{Worked}
use Rattle.task_deque.specs.Ends.{of, pushed, popped, thief_of, thief_stolen}
use Rattle.steal_engine.specs.Seats.{HasEnded}
use Rattle.steal_engine.specs.Sums.{children_in, tasks_in}

module _ {A B : Type 0} (R : A → B → Type 0) where
  -- what holds at each place holds of the two lists
  pub zip_from : (xs : List A) (ys : List B) → length ys ≡ length xs → ((i : ℕ) (d : A) (e : B) → i < length xs → R (slice_index_or xs i d) (slice_index_or ys i e)) → AllZip R xs ys
  zip_from [] [] same each = tt
  zip_from [] (y ∷ ys) same each = absurd (omega (arith, same))
  zip_from (x ∷ xs) [] same each = absurd (omega (arith, same))
  zip_from (x ∷ xs) (y ∷ ys) same each = (each 0 x y (omega arith), zip_from xs ys (omega (arith, same)) (λ i d e less. each (suc i) d e (omega (arith, less))))

module _ {J P : Type 0} (ready : P → Type 0) (number : P → ℕ) (rounds : P → List Round) where
  abbrev Ended : Seat J P → Worked J P → Type 0
  Ended = HasEnded ready number rounds

  -- the deques of the ends are as they were
  pub same_owns : (ss : List (Seat J P)) (es : List (Worked J P)) → AllZip Ended ss es → map (λ (e : Worked J P). of e.own) es ≡ map (λ (s : Seat J P). of s.own) ss
  same_owns [] [] z = refl
  same_owns [] (e ∷ es) z = absurd z
  same_owns (s ∷ ss) [] z = absurd z
  same_owns (s ∷ ss) (e ∷ es) z = ap₂ (λ a b. a ∷ b) (ap (λ p. p.0) z.0.same_own) (same_owns ss es z.1)

  pub same_thieves : (ss : List (Seat J P)) (es : List (Worked J P)) → AllZip Ended ss es → map (λ (e : Worked J P). thief_of e.thief) es ≡ map (λ (s : Seat J P). thief_of s.thief) ss
  same_thieves [] [] z = refl
  same_thieves [] (e ∷ es) z = absurd z
  same_thieves (s ∷ ss) [] z = absurd z
  same_thieves (s ∷ ss) (e ∷ es) z = ap₂ (λ a b. a ∷ b) z.0.same_thief (same_thieves ss es z.1)

  module _ (h : Task → ℕ) where
    abbrev done : Worked J P → ℕ
    done e = sum_by h (tasks_in (rounds e.pass))

    abbrev made : Worked J P → ℕ
    made e = sum_by h (children_in (rounds e.pass))

    abbrev dealt : Seat J P → ℕ
    dealt s = sum_by h (pushed s.own)

    abbrev gave : Worked J P → ℕ
    gave e = sum_by h (pushed e.own)

    abbrev took : Worked J P → ℕ
    took e = sum_by h (popped e.own)

    abbrev stole : Worked J P → ℕ
    stole e = sum_by h (thief_stolen e.thief)

    -- where memory ran out at none, all that were done, and all that were pushed, are the children of all, with what
    -- was dealt, popped and stolen
    pub totals : (ss : List (Seat J P)) (es : List (Worked J P)) → AllZip Ended ss es → All (λ (e : Worked J P). IsTrue e.whole) es
        → sum_by done es + sum_by gave es ≡ ((sum_by made es + sum_by dealt ss) + sum_by took es) + sum_by stole es
    totals [] [] z whole = refl
    totals [] (e ∷ es) z whole = absurd z
    totals (s ∷ ss) [] z whole = absurd z
    totals (s ∷ ss) (e ∷ es) z whole =
        let one = z.0.fair (All-head (λ (e : Worked J P). IsTrue e.whole) e es whole) h in
        let rest = totals ss es z.1 (All-tail (λ (e : Worked J P). IsTrue e.whole) e es whole) in
        let a = sum_by-cons done e es in
        let b = sum_by-cons gave e es in
        let c = sum_by-cons made e es in
        let d = sum_by-cons dealt s ss in
        let f = sum_by-cons took e es in
        let g = sum_by-cons stole e es in
        omega (arith, one, rest, a, b, c, d, f, g)
