-- An entry that is lawful on its line is fair to all lines, and so are the entries of all lines, one line after another.
use Rattle.std.proofs.Common.{◌≡◌, ◌≢◌, ℕ, List, [], ◌∷◌, ℤ, pos, ◌+ℤ◌, refl, sym, ap, ap₂, subst, ◌∙◌, arith, slice_get}
use Rattle.std.specs.List.{AllByRecursion}
use Rattle.std.proofs.lemmas.Int.{ints}
use Rattle.std.proofs.lemmas.List.Elements.{recursion_from_All}
use native.Mathlib.Decide.{ℕ_discrete}
use Rattle.net_base.specs.declared.nodes.Node.{Node}
use Rattle.net_base.specs.declared.tasks.Side.{Side}
use Rattle.net_base.specs.declared.tasks.Side.TheVariants.{Left, Right}
use Rattle.net_base.specs.declared.tasks.Task.{Task}
use Rattle.net_base.specs.Tokens.{Elements, Giver, Nothing, Root, Memory, Out}
use Rattle.token_line.specs.declared.line.Entry.{Entry}
use Rattle.token_line.specs.Bags.{Bag, sign_at, signs, after, standing, standing_at}
use Rattle.token_line.specs.Lawful.{giver_of, out_at, IsChildOf, IsLawful}
use Rattle.step_core.specs.Machine.{Placing, place_of, KeepsOneLine}
use Rattle.step_core.specs.Phases.{tasks_of}
use Rattle.step_core.specs.Laws.{put_out}
use Rattle.step_core.proofs.Signs.{sign_at-none, signs-none}
use Rattle.step_core.proofs.Local.{home, out_local, out_none}

-- ---- what is off a line

abbrev pub IsOn : Placing → ℕ → Task → Type 0
IsOn line i x = place_of line x ≡ i

-- these sums have nothing of another line
abbrev pub IsWithin : Placing → ℕ → Bag → Type 0
IsWithin line i b = (n : ℕ) (s : Side) (t : List ℕ) → line n s t ≢ i → b n s t ≡ pos 0

module _ (line : Placing) (i n : ℕ) (s : Side) (t : List ℕ) (off : line n s t ≢ i) where
  apart : (x : Task) → IsOn line i x → n ≡ x.node → s ≡ x.side → t ≡ x.token → ⊥
  apart x on p q r = off (ap₂ (λ a b. line a b t) p q ∙ (ap (line x.node x.side) r ∙ on))

  pub sign_at-off : (x : Task) → IsOn line i x → sign_at n s t x ≡ pos 0
  sign_at-off x on = sign_at-none n s t x (apart x on)

  pub signs-off : (xs : List Task) → AllByRecursion (IsOn line i) xs → signs n s t xs ≡ pos 0
  signs-off xs all = signs-none n s t (IsOn line i) apart xs all

-- ---- fair entries

-- the children of an entry are what its task changes in what the givers put out
abbrev pub IsFair : Elements → List Node → Bag → Bag → Entry → Type 0
IsFair elements nodes memory b e =
    (n : ℕ) (s : Side) (t : List ℕ) → signs n s t e.children +ℤ put_out elements nodes memory b (giver_of nodes n s) n s t ≡ put_out elements nodes memory (after b e.task) (giver_of nodes n s) n s t

abbrev pub AreFair : Elements → List Node → Bag → Bag → List Entry → Type 0
AreFair elements nodes memory b [] = Unit {0}
AreFair elements nodes memory b (e ∷ es) = IsFair elements nodes memory b e × AreFair elements nodes memory (after b e.task) es

abbrev pub after_all : Bag → List Entry → Bag
after_all b [] = b
after_all b (e ∷ es) = after_all (after b e.task) es

pub after_all_is : (b : Bag) (es : List Entry) (n : ℕ) (s : Side) (t : List ℕ) → after_all b es n s t ≡ b n s t +ℤ signs n s t (tasks_of es)
after_all_is b [] n s t = omega (arith, ints)
after_all_is b (e ∷ es) n s t = omega (arith, ints, after_all_is (after b e.task) es n s t)

-- the sums of one line and the sums over all lines are the same on that line
abbrev pub Agrees : Placing → ℕ → Bag → Bag → Type 0
Agrees line i all b = (n : ℕ) (s : Side) (t : List ℕ) → line n s t ≡ i → all n s t ≡ b n s t

no_change : (z : ℤ) (was is a b : ℕ) → was ≡ 0 → is ≡ 0 → a ≡ b → z +ℤ pos was ≡ pos is → z +ℤ pos a ≡ pos b
no_change z was is a b p q r e = omega (arith, ints)

module _ (elements : Elements) (nodes : List Node) (line : Placing) (one : KeepsOneLine elements nodes line) where
  not_child : (p n : ℕ) (s : Side) (t : List ℕ) → (giver_of nodes n s ≡ Out p → ⊥) → (xs : List Task) → AllByRecursion (IsChildOf nodes p) xs → signs n s t xs ≡ pos 0
  not_child p n s t other xs all = signs-none n s t (IsChildOf nodes p) (λ x c a b r. other (ap₂ (giver_of nodes) a b ∙ c)) xs all

  -- over sums that are the same on the token's line a node puts out as much
  same_out : (b c : Bag) (p : ℕ) (t : List ℕ) → ((s : Side) (u : List ℕ) → line p s u ≡ home nodes line p t → b p s u ≡ c p s u) → out_at elements nodes b p t ≡ out_at elements nodes c p t
  same_out b c p t same =
      out_local elements nodes line one p t (standing_at b p Left) (standing_at b p Right) (standing_at c p Left) (standing_at c p Right)
      (λ u k. ap standing (same Left u k)) (λ u k. ap standing (same Right u k))

  nothing_out : (b : Bag) (p : ℕ) (t : List ℕ) → ((s : Side) (u : List ℕ) → line p s u ≡ home nodes line p t → b p s u ≡ pos 0) → out_at elements nodes b p t ≡ 0
  nothing_out b p t empty = same_out b (λ n s u. pos 0) p t empty ∙ out_none elements (slice_get nodes p) t

  pub lawful_is_fair : (memory : Bag) (i : ℕ) (all b : Bag) (e : Entry) → Agrees line i all b → IsWithin line i b → IsOn line i e.task → IsLawful elements nodes b e → IsFair elements nodes memory all e
  lawful_is_fair memory i all b e agree within on lawful n s t = by_giver (giver_of nodes n s) refl
    where
      children : (p : ℕ) → giver_of nodes n s ≡ Out p → p ≡ e.task.node → signs n s t e.children +ℤ pos (out_at elements nodes b p t) ≡ pos (out_at elements nodes (after b e.task) p t)
      children p g here = subst (λ q. signs n s t e.children +ℤ pos (out_at elements nodes b q t) ≡ pos (out_at elements nodes (after b e.task) q t)) (sym here) (lawful.change n s t (g ∙ ap Out here))

      below : AllByRecursion (IsChildOf nodes e.task.node) e.children
      below = recursion_from_All (IsChildOf nodes e.task.node) e.children lawful.below

      by_home : (p : ℕ) → giver_of nodes n s ≡ Out p → p ≡ e.task.node → Dec (home nodes line p t ≡ i)
          → signs n s t e.children +ℤ pos (out_at elements nodes all p t) ≡ pos (out_at elements nodes (after all e.task) p t)
      by_home p g here (yes h) =
          let was = same_out all b p t (λ s' u k. agree p s' u (k ∙ h)) in
          let is = same_out (after all e.task) (after b e.task) p t (λ s' u k. ap (λ z. z +ℤ sign_at p s' u e.task) (agree p s' u (k ∙ h))) in
          let change = children p g here in omega (arith, ints, was, is, change)
      by_home p g here (no h) =
          let off : (s' : Side) (u : List ℕ) → line p s' u ≡ home nodes line p t → line p s' u ≢ i = λ s' u k q. h (sym k ∙ q) in
          let none : (s' : Side) (u : List ℕ) → line p s' u ≡ home nodes line p t → sign_at p s' u e.task ≡ pos 0 = λ s' u k. sign_at-off line i p s' u (off s' u k) e.task on in
          let was = nothing_out b p t (λ s' u k. within p s' u (off s' u k)) in
          let is = nothing_out (after b e.task) p t (λ s' u k. let z = none s' u k in let y = within p s' u (off s' u k) in omega (arith, ints, z, y)) in
          let kept = same_out all (after all e.task) p t (λ s' u k. let z = none s' u k in omega (arith, ints, z)) in
          no_change (signs n s t e.children) (out_at elements nodes b p t) (out_at elements nodes (after b e.task) p t) (out_at elements nodes all p t) (out_at elements nodes (after all e.task) p t) was is kept (children p g here)

      by_node : (p : ℕ) → giver_of nodes n s ≡ Out p → Dec (p ≡ e.task.node) → signs n s t e.children +ℤ pos (out_at elements nodes all p t) ≡ pos (out_at elements nodes (after all e.task) p t)
      by_node p g (yes here) = by_home p g here (ℕ_discrete (home nodes line p t) i)
      by_node p g (no away) =
          let kept = same_out all (after all e.task) p t (λ s' u k. let z = sign_at-none p s' u e.task (λ q v w. away q) in omega (arith, ints, z)) in
          let other = not_child e.task.node n s t (λ c. let q : p ≡ e.task.node = cc in away q) e.children below in
          omega (arith, ints, kept, other)

      by_giver : (g : Giver) → giver_of nodes n s ≡ g → signs n s t e.children +ℤ put_out elements nodes memory all g n s t ≡ put_out elements nodes memory (after all e.task) g n s t
      by_giver Nothing g = let z = not_child e.task.node n s t (λ c. absurd (cc)) e.children below in omega (arith, ints, z)
      by_giver Root g = let z = not_child e.task.node n s t (λ c. absurd (cc)) e.children below in omega (arith, ints, z)
      by_giver Memory g = let z = not_child e.task.node n s t (λ c. absurd (cc)) e.children below in omega (arith, ints, z)
      by_giver (Out p) g = by_node p g (ℕ_discrete p e.task.node)
