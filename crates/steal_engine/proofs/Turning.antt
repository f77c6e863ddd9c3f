-- Rows that are turned, and what all workers of a ring did together.
use Rattle.std.proofs.Common.{◌≡◌, ℕ, ◌+◌, List, [], ◌∷◌, ◌++◌, ap, ap₂, sym, refl, ◌∙◌, sum_by, arith, map, length, IsTrue, Bool, subst}
use Rattle.std.specs.List.{AllZip, All}
use Rattle.std.proofs.lemmas.List.{map-append, append_assoc, length-append}
use Rattle.std.proofs.lemmas.List.Sums.{sum_by-append, sum_by-cons}
use Rattle.std.proofs.lemmas.List.Elements.{All-push}
use Rattle.net_base.specs.declared.tasks.Task.{Task}
use Rattle.steal_engine.specs.declared.rounds.Round.{Round}
use Rattle.task_deque.specs.declared.handles.OwnEnd.{OwnEnd}
use Rattle.task_deque.specs.declared.handles.ThiefEnd.{ThiefEnd}
use Rattle.steal_engine.specs.declared.seats.Seat.{Seat}
use Rattle.steal_engine.specs.declared.seats.Worked.{Worked}
use Rattle.task_deque.specs.Ends.{of, pushed, popped, thief_of, thief_stolen}
use Rattle.steal_engine.specs.Ring.{turned}
use Rattle.steal_engine.specs.Seats.{HasEnded}
use Rattle.steal_engine.specs.Sums.{children_in, tasks_in}
use Rattle.steal_engine.specs.Team.{AreOf, weigh_popped, weigh_pushed, weigh_stolen}
use Rattle.steal_engine.proofs.Totals.{same_owns, same_thieves, totals}

-- the last of a row goes before the first of another
pub back_one : {A B : Type 0} (f : A → B) (old new : List A) (x : A) (ys ys' zs : List B) → old ≡ new ++ x ∷ [] → ys' ≡ f x ∷ ys → map f old ++ ys ≡ zs → map f new ++ ys' ≡ zs
back_one f old new x ys ys' zs is is' was =
    ap (λ l. map f new ++ l) is' ∙ (sym (append_assoc (map f new) (f x ∷ []) ys) ∙ (ap (λ l. l ++ ys) (sym (ap (map f) is ∙ map-append f new (x ∷ []))) ∙ was))

pub map_turned : {A B : Type 0} (f : A → B) (xs : List A) → map f (turned xs) ≡ turned (map f xs)
map_turned f [] = refl
map_turned f (x ∷ xs) = map-append f xs (x ∷ [])

last_same : {A : Type 0} (xs ys : List A) (x y : A) → xs ++ x ∷ [] ≡ ys ++ y ∷ [] → (x ≡ y) × (xs ≡ ys)
last_same [] [] x y e = (cc, refl)
last_same [] (b ∷ ys) x y e = absurd (let l = ap length e in let m = length-append ys (y ∷ []) in omega (arith, l, m))
last_same (a ∷ xs) [] x y e = absurd (let l = ap length e in let m = length-append xs (x ∷ []) in omega (arith, l, m))
last_same (a ∷ xs) (b ∷ ys) x y e =
    let head : a ≡ b = cc in
    let tail : xs ++ x ∷ [] ≡ ys ++ y ∷ [] = cc in
    let r = last_same xs ys x y tail in (r.0, ap₂ (λ c cs. c ∷ cs) head r.1)

pub turned_same : {A : Type 0} (xs ys : List A) → turned xs ≡ turned ys → xs ≡ ys
turned_same [] [] e = refl
turned_same [] (y ∷ ys) e = absurd (let l = ap length e in let m = length-append ys (y ∷ []) in omega (arith, l, m))
turned_same (x ∷ xs) [] e = absurd (let l = ap length e in let m = length-append xs (x ∷ []) in omega (arith, l, m))
turned_same (x ∷ xs) (y ∷ ys) e = let r = last_same xs ys x y e in ap₂ (λ c cs. c ∷ cs) r.0 r.1

pub sum_turned : {A : Type 0} (f : A → ℕ) (xs : List A) → sum_by f (turned xs) ≡ sum_by f xs
sum_turned f [] = refl
sum_turned f (x ∷ xs) =
    let a = sum_by-append f xs (x ∷ []) in
    let b = sum_by-cons f x xs in
    let c = sum_by-cons f x [] in omega (arith, a, b, c)

pub sum_map : {A B : Type 0} (f : B → ℕ) (g : A → B) (xs : List A) → sum_by f (map g xs) ≡ sum_by (λ x. f (g x)) xs
sum_map f g [] = refl
sum_map f g (x ∷ xs) =
    let i = sum_map f g xs in
    let a = sum_by-cons f (g x) (map g xs) in
    let b = sum_by-cons (λ y. f (g y)) x xs in omega (arith, i, a, b)

map_twice : {A B C : Type 0} (f : B → C) (g : A → B) (xs : List A) → map f (map g xs) ≡ map (λ x. f (g x)) xs
map_twice f g [] = refl
map_twice {C = C} f g (x ∷ xs) = ap (λ (bs : List C). f (g x) ∷ bs) (map_twice f g xs)

module _ {J P : Type 0} (ready : P → Type 0) (number : P → ℕ) (rounds : P → List Round)
    (ss : List (Seat J P)) (es : List (Worked J P)) (ended : AllZip (HasEnded ready number rounds) ss es)
    (owns : List (OwnEnd J)) (thieves : List (ThiefEnd J)) (seated : map (λ (s : Seat J P). s.own) ss ≡ owns) (seated' : map (λ (s : Seat J P). s.thief) ss ≡ turned thieves)
    (owns' : List (OwnEnd J)) (thieves' : List (ThiefEnd J)) (back : owns' ≡ map (λ (e : Worked J P). e.own) es) (back' : turned thieves' ≡ map (λ (e : Worked J P). e.thief) es) where
  -- each thief that is turned back is that of the owner at its place
  pub of_ring : AreOf owns thieves → AreOf owns' thieves'
  of_ring are =
      let a : map of owns' ≡ map of owns =
      ap (map of) back ∙ (map_twice of (λ (e : Worked J P). e.own) es ∙ (same_owns ready number rounds ss es ended ∙ (sym (map_twice of (λ (s : Seat J P). s.own) ss) ∙ ap (map of) seated))) in
      let b : map thief_of (turned thieves') ≡ map thief_of (turned thieves) =
      ap (map thief_of) back' ∙ (map_twice thief_of (λ (e : Worked J P). e.thief) es ∙ (same_thieves ready number rounds ss es ended ∙ (sym (map_twice thief_of (λ (s : Seat J P). s.thief) ss) ∙ ap (map thief_of) seated'))) in
      let c : map thief_of thieves' ≡ map thief_of thieves = turned_same (map thief_of thieves') (map thief_of thieves) (sym (map_turned thief_of thieves') ∙ (b ∙ map_turned thief_of thieves)) in
      a ∙ (are ∙ sym c)

  -- what all did, with what comes back, is the children of that with what was dealt
  pub team_law : (h : Task → ℕ) (left : ℕ) → All (λ (e : Worked J P). IsTrue e.whole) es → weigh_pushed h owns' ≡ (weigh_popped h owns' + weigh_stolen h thieves') + left
      → sum_by (λ (e : Worked J P). sum_by h (tasks_in (rounds e.pass))) es + left ≡ sum_by (λ (e : Worked J P). sum_by h (children_in (rounds e.pass))) es + weigh_pushed h owns
  team_law h left whole collected =
      let all = totals ready number rounds h ss es ended whole in
      let a : weigh_pushed h owns' ≡ sum_by (λ (e : Worked J P). sum_by h (pushed e.own)) es = ap (weigh_pushed h) back ∙ sum_map (λ (o : OwnEnd J). sum_by h (pushed o)) (λ (e : Worked J P). e.own) es in
      let b : weigh_popped h owns' ≡ sum_by (λ (e : Worked J P). sum_by h (popped e.own)) es = ap (weigh_popped h) back ∙ sum_map (λ (o : OwnEnd J). sum_by h (popped o)) (λ (e : Worked J P). e.own) es in
      let c : weigh_stolen h thieves' ≡ sum_by (λ (e : Worked J P). sum_by h (thief_stolen e.thief)) es =
      sym (sum_turned (λ (t : ThiefEnd J). sum_by h (thief_stolen t)) thieves') ∙ (ap (weigh_stolen h) back' ∙ sum_map (λ (t : ThiefEnd J). sum_by h (thief_stolen t)) (λ (e : Worked J P). e.thief) es) in
      let d : weigh_pushed h owns ≡ sum_by (λ (s : Seat J P). sum_by h (pushed s.own)) ss = ap (weigh_pushed h) (sym seated) ∙ sum_map (λ (o : OwnEnd J). sum_by h (pushed o)) (λ (s : Seat J P). s.own) ss in
      omega (arith, all, collected, a, b, c, d)

pub whole_one : {A : Type 0} (f : A → Bool) (was one now : Bool) (old new all : List A) (x : A) → old ≡ new ++ x ∷ [] → f x ≡ one → (IsTrue now → IsTrue was × IsTrue one)
    → (IsTrue was → All (λ y. IsTrue (f y)) old → All (λ y. IsTrue (f y)) all) → IsTrue now → All (λ y. IsTrue (f y)) new → All (λ y. IsTrue (f y)) all
whole_one f was one now old new all x is has both inv n rest =
    let b = both n in inv b.0 (subst (All (λ y. IsTrue (f y))) (sym is) (All-push (λ y. IsTrue (f y)) new x rest (subst IsTrue (sym has) b.1)))

pub none_turned : {A : Type 0} (xs ys : List A) → length xs ≡ 0 → length ys ≡ 0 → xs ≡ turned ys
none_turned [] [] e f = refl
none_turned [] (y ∷ ys) e f = absurd (omega (arith, f))
none_turned (x ∷ xs) ys e f = absurd (omega (arith, e))
