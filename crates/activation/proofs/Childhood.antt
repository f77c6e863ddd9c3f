-- The sides to which a node gives are the left ones of the nodes that name it as parent, and the right ones of the groups
-- that name it as giver, each once.
use Rattle.std.proofs.Common.{◌≡◌, ◌≢◌, ℕ, zero, suc, ◌+◌, ◌-◌, ◌<◌, Bool, true, false, cond, ◌==◌, ◌&&◌, List, [], ◌∷◌, ◌++◌, map, refl, sym, ap, ap₂, subst, ◌∙◌, arith, length, slice_get, Option, Some, None}
use Rattle.std.specs.List.{AllByRecursion}
use Rattle.std.proofs.lemmas.Bool.{eqb-true}
use Rattle.std.proofs.lemmas.Bool.Decides.{nat_tests}
use Rattle.std.proofs.lemmas.Option.{slice_get_within}
use Rattle.net_base.specs.declared.nodes.Kind.{Kind}
use Rattle.net_base.specs.declared.nodes.Kind.TheVariants.{Join, Negated, Group, Terminal}
use Rattle.net_base.specs.declared.nodes.Node.{Node}
use Rattle.net_base.specs.declared.tasks.Side.{Side}
use Rattle.net_base.specs.declared.tasks.Side.TheVariants.{Left, Right}
use Rattle.net_base.specs.Sound.{is_parent, is_giver, child_if, children_below, right_if, rights_below, HasChildren, HasRights}
use Rattle.net_base.specs.Tokens.{Out, giver_of_parent, giver_of_kind}
use Rattle.token_line.specs.Bags.{are_same_sides}
use Rattle.token_line.specs.Lawful.{giver_in, giver_of}
use Rattle.activation.specs.inner.Children.{Target, targets}
use Rattle.activation.proofs.Signed.{times_in, all_append}

-- ---- who gives to a side

-- whether node p gives to this side
abbrev pub gives : ℕ → Side → Node → Bool
gives p Left x = is_parent x.parent p
gives p Right x = is_giver x.kind p

-- node p gives to this side of node n
pub record IsChild (nodes : List Node) (p n : ℕ) (s : Side) : Type 0 where
  pub node : Node
  pub at : slice_get nodes n ≡ Some node
  pub given : gives p s node ≡ true

eqb-refl : (n : ℕ) → (n == n) ≡ true
eqb-refl n = grind (arith, nat_tests)

pub eqb-same : (n : ℕ) → (n == n) ≡ true
eqb-same n = eqb-refl n

same_out : (q p : ℕ) → Out q ≡ Out p → (q == p) ≡ true
same_out q p e = let same : q ≡ p = cc in subst (λ r. (q == r) ≡ true) same (eqb-refl q)

pub child_is : (nodes : List Node) (p n : ℕ) (s : Side) → giver_of nodes n s ≡ Out p → IsChild nodes p n s
child_is nodes p n s = by (slice_get nodes n) refl s
  where
    by_parent : (o : Option ℕ) → giver_of_parent o ≡ Out p → is_parent o p ≡ true
    by_parent None h = absurd (cc)
    by_parent (Some q) h = same_out q p h

    by_kind : (k : Kind) → giver_of_kind k ≡ Out p → is_giver k p ≡ true
    by_kind Join h = absurd (cc)
    by_kind Negated h = absurd (cc)
    by_kind (Group giver width members) h = same_out giver p h
    by_kind (Terminal rule) h = absurd (cc)

    by : (o : Option Node) → slice_get nodes n ≡ o → (side : Side) → giver_in o side ≡ Out p → IsChild nodes p n side
    by None at Left h = absurd (cc)
    by None at Right h = absurd (cc)
    by (Some x) at Left h = record { node = x; at = at; given = by_parent x.parent h }
    by (Some x) at Right h = record { node = x; at = at; given = by_kind x.kind h }

pub giver_is : (nodes : List Node) (p n : ℕ) (s : Side) → IsChild nodes p n s → giver_of nodes n s ≡ Out p
giver_is nodes p n s c = ap (λ o. giver_in o s) c.at ∙ by s c.given
  where
    by_parent : (o : Option ℕ) → is_parent o p ≡ true → giver_of_parent o ≡ Out p
    by_parent None h = absurd (cc)
    by_parent (Some q) h = ap Out (eqb-true q p h)

    by_kind : (k : Kind) → is_giver k p ≡ true → giver_of_kind k ≡ Out p
    by_kind Join h = absurd (cc)
    by_kind Negated h = absurd (cc)
    by_kind (Group giver width members) h = ap Out (eqb-true giver p h)
    by_kind (Terminal rule) h = absurd (cc)

    by : (d : Side) → gives p d c.node ≡ true → giver_in (Some c.node) d ≡ Out p
    by Left h = by_parent c.node.parent h
    by Right h = by_kind c.node.kind h

-- ---- the nodes that pass a test, each once

abbrev if_passes : (Node → Bool) → Option Node → ℕ → List ℕ
if_passes test None i = []
if_passes test (Some x) i = cond (test x) (i ∷ []) []

abbrev passing : (Node → Bool) → List Node → ℕ → List ℕ
passing test nodes zero = []
passing test nodes (suc i) = passing test nodes i ++ if_passes test (slice_get nodes i) i

children_pass : (nodes : List Node) (p i : ℕ) → children_below nodes i p ≡ passing (gives p Left) nodes i
children_pass nodes p zero = refl
children_pass nodes p (suc i) = ap₂ (λ a b. a ++ b) (children_pass nodes p i) (by (slice_get nodes i))
  where
    by : (o : Option Node) → child_if o p i ≡ if_passes (gives p Left) o i
    by None = refl
    by (Some x) = refl

rights_pass : (nodes : List Node) (p i : ℕ) → rights_below nodes i p ≡ passing (gives p Right) nodes i
rights_pass nodes p zero = refl
rights_pass nodes p (suc i) = ap₂ (λ a b. a ++ b) (rights_pass nodes p i) (by (slice_get nodes i))
  where
    by : (o : Option Node) → right_if o p i ≡ if_passes (gives p Right) o i
    by None = refl
    by (Some x) = refl

-- how often a number is among these
abbrev times : ℕ → List ℕ → ℕ
times n [] = 0
times n (c ∷ cs) = cond (n == c) 1 0 + times n cs

times-append : (n : ℕ) (xs ys : List ℕ) → times n (xs ++ ys) ≡ times n xs + times n ys
times-append n [] ys = omega arith
times-append n (x ∷ xs) ys = omega (arith, times-append n xs ys)

pub eqb-apart : (n i : ℕ) → n ≢ i → (n == i) ≡ false
eqb-apart n i ne = by (n == i) refl
  where
    by : (b : Bool) → (n == i) ≡ b → b ≡ false
    by true e = absurd (ne (eqb-true n i e))
    by false e = refl

module _ (test : Node → Bool) (nodes : List Node) (n : ℕ) (x : Node) (at : slice_get nodes n ≡ Some x) (passes : test x ≡ true) where
  other_one : (i : ℕ) → n ≢ i → (o : Option Node) → times n (if_passes test o i) ≡ 0
  other_one i ne None = refl
  other_one i ne (Some y) = by (test y)
    where
      by : (b : Bool) → times n (cond b (i ∷ []) []) ≡ 0
      by true = ap (λ z. cond z 1 0 + 0) (eqb-apart n i ne)
      by false = refl

  own_one : times n (if_passes test (slice_get nodes n) n) ≡ 1
  own_one =
      ap (λ o. times n (if_passes test o n)) at
      ∙ (ap (λ b. times n (cond b (n ∷ []) [])) passes ∙ ap (λ b. cond b 1 0 + 0) (eqb-same n))

  none_below : (i : ℕ) → i < suc n → times n (passing test nodes i) ≡ 0
  none_below zero lt = refl
  none_below (suc i) lt =
      let rest = none_below i (omega arith) in
      let here = other_one i (λ e. absurd (omega arith)) (slice_get nodes i) in
      omega (arith, times-append n (passing test nodes i) (if_passes test (slice_get nodes i) i), rest, here)

  one_below : (k : ℕ) → times n (passing test nodes (suc (n + k))) ≡ 1
  one_below zero =
      let e : n + 0 ≡ n = omega arith in
      subst (λ z. times n (passing test nodes (suc z)) ≡ 1) (sym e)
      (omega (arith, times-append n (passing test nodes n) (if_passes test (slice_get nodes n) n), none_below n (omega arith), own_one))
  one_below (suc k) =
      let e : n + suc k ≡ suc (n + k) = omega arith in
      let rest = one_below k in
      let here = other_one (suc (n + k)) (λ q. absurd (omega arith)) (slice_get nodes (suc (n + k))) in
      subst (λ z. times n (passing test nodes (suc z)) ≡ 1) (sym e)
      (omega (arith, times-append n (passing test nodes (suc (n + k))) (if_passes test (slice_get nodes (suc (n + k))) (suc (n + k))), rest, here))

  once_passing : times n (passing test nodes (length nodes)) ≡ 1
  once_passing =
      let last = slice_get_within nodes n x at in
      let e : suc (n + (length nodes - suc n)) ≡ length nodes = omega arith in
      subst (λ z. times n (passing test nodes z) ≡ 1) e (one_below (length nodes - suc n))

-- ---- as targets

target_append : (s : Side) (n : ℕ) (xs ys : List Target) → times_in s n (xs ++ ys) ≡ times_in s n xs + times_in s n ys
target_append s n [] ys = omega arith
target_append s n (x ∷ xs) ys = omega (arith, target_append s n xs ys)

and_side : (b d : Bool) → d ≡ true → (b && d) ≡ b
and_side true d e = e
and_side false d e = refl

and_other : (b d : Bool) → d ≡ false → (b && d) ≡ false
and_other true d e = e
and_other false d e = refl

own_side : (s d : Side) → are_same_sides s d ≡ true → (n : ℕ) (cs : List ℕ) → times_in s n (map (λ c. (d, c)) cs) ≡ times n cs
own_side s d e n [] = refl
own_side s d e n (c ∷ cs) = ap₂ (λ b k. cond b 1 0 + k) (and_side (n == c) (are_same_sides s d) e) (own_side s d e n cs)

other_side : (s d : Side) → are_same_sides s d ≡ false → (n : ℕ) (cs : List ℕ) → times_in s n (map (λ c. (d, c)) cs) ≡ 0
other_side s d e n [] = refl
other_side s d e n (c ∷ cs) = ap₂ (λ b k. cond b 1 0 + k) (and_other (n == c) (are_same_sides s d) e) (other_side s d e n cs)

-- a side to which a node gives is once among its targets
pub times_among : (nodes : List Node) → HasChildren nodes → HasRights nodes → (p n : ℕ) (s : Side) (x : Node) → slice_get nodes p ≡ Some x → IsChild nodes p n s → times_in s n (targets x) ≡ 1
times_among nodes children rights p n s x at c = target_append s n (map (λ k. (Left, k)) x.children) (map (λ k. (Right, k)) x.rights) ∙ by s c.given
  where
    by : (d : Side) → gives p d c.node ≡ true → times_in d n (map (λ k. (Left, k)) x.children) + times_in d n (map (λ k. (Right, k)) x.rights) ≡ 1
    by Left g =
        let a = own_side Left Left refl n x.children in
        let b = other_side Left Right refl n x.rights in
        let e = ap (times n) (children p x at ∙ children_pass nodes p (length nodes)) in
        omega (arith, a, b, e, once_passing (gives p Left) nodes n c.node c.at g)
    by Right g =
        let a = other_side Right Left refl n x.children in
        let b = own_side Right Right refl n x.rights in
        let e = ap (times n) (rights p x at ∙ rights_pass nodes p (length nodes)) in
        omega (arith, a, b, e, once_passing (gives p Right) nodes n c.node c.at g)

-- ---- all of them

are_passing : (test : Node → Bool) (nodes : List Node) (i : ℕ) → AllByRecursion (λ n. (x : Node) × (slice_get nodes n ≡ Some x) × (test x ≡ true)) (passing test nodes i)
are_passing test nodes zero = tt
are_passing test nodes (suc i) =
    all_append (λ n. (x : Node) × (slice_get nodes n ≡ Some x) × (test x ≡ true)) (passing test nodes i) (if_passes test (slice_get nodes i) i) (are_passing test nodes i) (by (slice_get nodes i) refl)
  where
    by_test : (x : Node) → slice_get nodes i ≡ Some x → (b : Bool) → test x ≡ b → AllByRecursion (λ n. (x : Node) × (slice_get nodes n ≡ Some x) × (test x ≡ true)) (cond b (i ∷ []) [])
    by_test x at true p = ((x, at, p), tt)
    by_test x at false p = tt

    by : (o : Option Node) → slice_get nodes i ≡ o → AllByRecursion (λ n. (x : Node) × (slice_get nodes n ≡ Some x) × (test x ≡ true)) (if_passes test o i)
    by None at = tt
    by (Some x) at = by_test x at (test x) refl

all_sides : (nodes : List Node) (p : ℕ) (d : Side) (cs : List ℕ) → AllByRecursion (λ n. (x : Node) × (slice_get nodes n ≡ Some x) × (gives p d x ≡ true)) cs
    → AllByRecursion (λ (c : Target). IsChild nodes p c.1 c.0) (map (λ k. (d, k)) cs)
all_sides nodes p d [] all = tt
all_sides nodes p d (c ∷ cs) all = (record { node = all.0.0; at = all.0.1; given = all.0.2 }, all_sides nodes p d cs all.1)

pub are_children : (nodes : List Node) → HasChildren nodes → HasRights nodes → (p : ℕ) (x : Node) → slice_get nodes p ≡ Some x → AllByRecursion (λ (c : Target). IsChild nodes p c.1 c.0) (targets x)
are_children nodes children rights p x at =
    all_append (λ (c : Target). IsChild nodes p c.1 c.0) (map (λ k. (Left, k)) x.children) (map (λ k. (Right, k)) x.rights)
    (all_sides nodes p Left x.children (subst (AllByRecursion (λ n. (x : Node) × (slice_get nodes n ≡ Some x) × (gives p Left x ≡ true))) (sym (children p x at ∙ children_pass nodes p (length nodes))) (are_passing (gives p Left) nodes (length nodes))))
    (all_sides nodes p Right x.rights (subst (AllByRecursion (λ n. (x : Node) × (slice_get nodes n ≡ Some x) × (gives p Right x ≡ true))) (sym (rights p x at ∙ rights_pass nodes p (length nodes))) (are_passing (gives p Right) nodes (length nodes))))
