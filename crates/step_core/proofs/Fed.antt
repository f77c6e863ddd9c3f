-- The tasks that changes feed are what working memory gives more.
use Rattle.std.proofs.Common.{◌≡◌, ◌≢◌, ◌<◌, ℕ, zero, suc, Bool, true, false, cond, ◌&&◌, List, [], ◌∷◌, ◌++◌, pos, negsuc, ◌+ℤ◌, refl, sym, ap, ap₂, subst, ◌∙◌, arith, length, slice_get, Option, Some, None}
use Rattle.std.specs.List.{AllByRecursion}
use Rattle.std.proofs.lemmas.Int.{ints}
use Rattle.std.proofs.lemmas.Option.{slice_get_within}
use Rattle.std.proofs.lemmas.Bool.Decides.{nat_tests}
use native.Mathlib.Decide.{ℕ_discrete}
use Rattle.ops_base.specs.declared.elements.Element.{Element}
use Rattle.ops_base.specs.declared.elements.Change.{Change}
use Rattle.ops_base.specs.declared.elements.Change.TheVariants.{Add, Remove}
use Rattle.ops_base.specs.WorkingMemory.{without_tag, change_done, done, last_after, Lawful}
use Rattle.ops_base.proofs.Changes.{first_lawful, rest_lawful}
use Rattle.net_base.specs.declared.nodes.Kind.{Kind}
use Rattle.net_base.specs.declared.nodes.Kind.TheVariants.{Join, Negated, Group, Terminal}
use Rattle.net_base.specs.declared.nodes.Node.{Node}
use Rattle.net_base.specs.declared.nodes.Alpha.{Alpha}
use Rattle.net_base.specs.declared.tasks.Side.{Side}
use Rattle.net_base.specs.declared.tasks.Side.TheVariants.{Left, Right}
use Rattle.net_base.specs.declared.tasks.Task.{Task}
use Rattle.net_base.specs.Sound.{takes_elements}
use Rattle.net_base.specs.Tokens.{Elements, Memory, giver_of_parent, giver_of_kind, right_giver, elements_of, passes_alpha, times_passed, memory_gives, given, given_in, tokens}
use Rattle.token_line.specs.Bags.{sign, signs}
use Rattle.token_line.specs.Lawful.{giver_in, giver_of}
use Rattle.step_core.specs.Machine.{passes_in, is_fed, task_at, tasks_below, fed_by, fed_by_all}
use Rattle.step_core.specs.Phases.{sums_over}
use Rattle.step_core.specs.Laws.{NamesAdded}
use Rattle.step_core.proofs.Signs.{signs-append, sign_at-none, sign_at-own}
use Rattle.step_core.proofs.Memory.{find_other, find_new, find_low, find_gone, find_kept, find_there, IsKnown, known_after, first_names, later_names}

-- ---- each fed task goes to a side to which working memory gives

abbrev pub IsFed : List Node → Task → Type 0
IsFed nodes x = giver_of nodes x.node x.side ≡ Memory

pub AllByRecursion-append : {X : Type 0} (P : X → Type 0) (xs ys : List X) → AllByRecursion P xs → AllByRecursion P ys → AllByRecursion P (xs ++ ys)
AllByRecursion-append P [] ys a b = b
AllByRecursion-append P (x ∷ xs) ys a b = (a.0, AllByRecursion-append P xs ys a.1 b)

task_at-fed : (alphas : List Alpha) (nodes : List Node) (plus : Bool) (tag : ℕ) (e : Option Element) (i : ℕ) (o : Option Node) → slice_get nodes i ≡ o → AllByRecursion (IsFed nodes) (task_at alphas plus tag e i o)
task_at-fed alphas nodes plus tag e i None at = tt
task_at-fed alphas nodes plus tag e i (Some x) at = by x.kind refl (passes_in (slice_get alphas x.alpha) e)
  where
    tasks : Bool → List Task
    tasks b = cond b (record { node = i; side = Right; plus = plus; token = tag ∷ [] } ∷ []) []

    if_passed : right_giver x ≡ Memory → (b : Bool) → AllByRecursion (IsFed nodes) (tasks b)
    if_passed is true = (ap (λ o. giver_in o Right) at ∙ is, tt)
    if_passed is false = tt

    by : (k : Kind) → x.kind ≡ k → (b : Bool) → AllByRecursion (IsFed nodes) (tasks (takes_elements k && b))
    by Join is b = if_passed (ap giver_of_kind is) b
    by Negated is b = if_passed (ap giver_of_kind is) b
    by (Group giver width members) is b = tt
    by (Terminal rule) is b = tt

tasks_below-fed : (alphas : List Alpha) (nodes : List Node) (plus : Bool) (tag : ℕ) (e : Option Element) (i : ℕ) → AllByRecursion (IsFed nodes) (tasks_below alphas nodes plus tag e i)
tasks_below-fed alphas nodes plus tag e zero = tt
tasks_below-fed alphas nodes plus tag e (suc i) =
    AllByRecursion-append (IsFed nodes) (tasks_below alphas nodes plus tag e i) (task_at alphas plus tag e i (slice_get nodes i)) (tasks_below-fed alphas nodes plus tag e i) (task_at-fed alphas nodes plus tag e i (slice_get nodes i) refl)

pub fed_by-fed : (elements : Elements) (alphas : List Alpha) (nodes : List Node) (c : Change) → AllByRecursion (IsFed nodes) (fed_by elements alphas nodes c)
fed_by-fed elements alphas nodes (Add e) = tasks_below-fed alphas nodes true e.tag (Some e) (length nodes)
fed_by-fed elements alphas nodes (Remove tag) = tasks_below-fed alphas nodes false tag (elements tag) (length nodes)

-- ---- what they add up to

module _ (alphas : List Alpha) (nodes : List Node) (plus : Bool) (tag : ℕ) (e : Option Element) where
  other_node : (n : ℕ) (s : Side) (t : List ℕ) (i : ℕ) (o : Option Node) → n ≢ i → signs n s t (task_at alphas plus tag e i o) ≡ pos 0
  other_node n s t i None ne = refl
  other_node n s t i (Some x) ne = by (is_fed alphas e x)
    where
      by : (b : Bool) → signs n s t (cond b (record { node = i; side = Right; plus = plus; token = tag ∷ [] } ∷ []) []) ≡ pos 0
      by true = let a = sign_at-none n s t (record { node = i; side = Right; plus = plus; token = tag ∷ [] }) (λ p q r. ne p) in omega (arith, ints, a)
      by false = refl

  below_none : (n : ℕ) (s : Side) (t : List ℕ) (i : ℕ) → ¬ (n < i) → signs n s t (tasks_below alphas nodes plus tag e i) ≡ pos 0
  below_none n s t zero past = refl
  below_none n s t (suc i) past =
      let a = signs-append n s t (tasks_below alphas nodes plus tag e i) (task_at alphas plus tag e i (slice_get nodes i)) in
      let b = below_none n s t i (λ low. past (omega arith)) in
      let c = other_node n s t i (slice_get nodes i) (λ q. past (omega arith)) in omega (arith, ints, a, b, c)

  -- of the node's own tasks alone
  below_own : (n : ℕ) (s : Side) (t : List ℕ) (i : ℕ) → n < i → signs n s t (tasks_below alphas nodes plus tag e i) ≡ signs n s t (task_at alphas plus tag e n (slice_get nodes n))
  below_own n s t zero low = absurd (omega arith)
  below_own n s t (suc i) low = by (λ less. below_own n s t i less) (ℕ_discrete n i)
    where
      a : signs n s t (tasks_below alphas nodes plus tag e (suc i)) ≡ signs n s t (tasks_below alphas nodes plus tag e i) +ℤ signs n s t (task_at alphas plus tag e i (slice_get nodes i))
      a = signs-append n s t (tasks_below alphas nodes plus tag e i) (task_at alphas plus tag e i (slice_get nodes i))

      by : (n < i → signs n s t (tasks_below alphas nodes plus tag e i) ≡ signs n s t (task_at alphas plus tag e n (slice_get nodes n))) → Dec (n ≡ i)
          → signs n s t (tasks_below alphas nodes plus tag e (suc i)) ≡ signs n s t (task_at alphas plus tag e n (slice_get nodes n))
      by ih (yes same) =
          let b = below_none n s t i (λ less. absurd (omega arith)) in
          let c = ap (λ k. signs n s t (task_at alphas plus tag e k (slice_get nodes k))) same in omega (arith, ints, a, b, c)
      by ih (no ne) =
          let b = ih (omega arith) in
          let c = other_node n s t i (slice_get nodes i) ne in omega (arith, ints, a, b, c)

  other_token : (n : ℕ) (t : List ℕ) (o : Option Node) → t ≢ tag ∷ [] → signs n Right t (task_at alphas plus tag e n o) ≡ pos 0
  other_token n t None ne = refl
  other_token n t (Some x) ne = by (is_fed alphas e x)
    where
      by : (b : Bool) → signs n Right t (cond b (record { node = n; side = Right; plus = plus; token = tag ∷ [] } ∷ []) []) ≡ pos 0
      by true = let a = sign_at-none n Right t (record { node = n; side = Right; plus = plus; token = tag ∷ [] }) (λ p q r. ne r) in omega (arith, ints, a)
      by false = refl

  own_token : (n : ℕ) (x : Node) → signs n Right (tag ∷ []) (task_at alphas plus tag e n (Some x)) ≡ cond (is_fed alphas e x) (sign plus) (pos 0)
  own_token n x = by (is_fed alphas e x)
    where
      by : (b : Bool) → signs n Right (tag ∷ []) (cond b (record { node = n; side = Right; plus = plus; token = tag ∷ [] } ∷ []) []) ≡ cond b (sign plus) (pos 0)
      by true = let a = sign_at-own (record { node = n; side = Right; plus = plus; token = tag ∷ [] }) in omega (arith, ints, a)
      by false = refl

  -- over what stands of each element: of this one it changes by its sign, of no other
  fed_change : (wm wm' : List Element) → ((k : ℕ) → tag ≢ k → elements_of wm' k ≡ elements_of wm k)
      → ((a : Option Alpha) → cond (passes_in a e) (sign plus) (pos 0) +ℤ pos (times_passed a (elements_of wm tag)) ≡ pos (times_passed a (elements_of wm' tag)))
      → (n : ℕ) (x : Node) → slice_get nodes n ≡ Some x → takes_elements x.kind ≡ true → (t : List ℕ)
      → signs n Right t (tasks_below alphas nodes plus tag e (length nodes)) +ℤ pos (memory_gives wm (slice_get alphas x.alpha) t) ≡ pos (memory_gives wm' (slice_get alphas x.alpha) t)
  fed_change wm wm' others own n x at takes t = by t
    where
      sum_is : (u : List ℕ) → signs n Right u (tasks_below alphas nodes plus tag e (length nodes)) ≡ signs n Right u (task_at alphas plus tag e n (Some x))
      sum_is u = below_own n Right u (length nodes) (slice_get_within nodes n x at) ∙ ap (λ o. signs n Right u (task_at alphas plus tag e n o)) at

      none : (u : List ℕ) → u ≢ tag ∷ [] → signs n Right u (tasks_below alphas nodes plus tag e (length nodes)) ≡ pos 0
      none u ne = sum_is u ∙ other_token n u (Some x) ne

      own_is : is_fed alphas e x ≡ passes_in (slice_get alphas x.alpha) e
      own_is = ap (λ b. b && passes_in (slice_get alphas x.alpha) e) takes

      by : (u : List ℕ) → signs n Right u (tasks_below alphas nodes plus tag e (length nodes)) +ℤ pos (memory_gives wm (slice_get alphas x.alpha) u) ≡ pos (memory_gives wm' (slice_get alphas x.alpha) u)
      by [] = let a = none [] (λ q. absurd (cc)) in omega (arith, ints, a)
      by (k ∷ []) = at_tag (ℕ_discrete tag k)
        where
          at_tag : Dec (tag ≡ k) → signs n Right (k ∷ []) (tasks_below alphas nodes plus tag e (length nodes)) +ℤ pos (times_passed (slice_get alphas x.alpha) (elements_of wm k)) ≡ pos (times_passed (slice_get alphas x.alpha) (elements_of wm' k))
          at_tag (yes same) = subst (λ j. signs n Right (j ∷ []) (tasks_below alphas nodes plus tag e (length nodes)) +ℤ pos (times_passed (slice_get alphas x.alpha) (elements_of wm j)) ≡ pos (times_passed (slice_get alphas x.alpha) (elements_of wm' j))) same
              (let a = sum_is (tag ∷ []) ∙ (own_token n x ∙ ap (λ b. cond b (sign plus) (pos 0)) own_is) in let b = own (slice_get alphas x.alpha) in ap (λ z. z +ℤ pos (times_passed (slice_get alphas x.alpha) (elements_of wm tag))) a ∙ b)
          at_tag (no ne) =
              let a = none (k ∷ []) (λ q. ne (cc)) in
              let b = ap (λ o. times_passed (slice_get alphas x.alpha) o) (others k ne) in omega (arith, ints, a, b)
      by (k ∷ j ∷ us) = let a = none (k ∷ j ∷ us) (λ q. absurd (cc)) in omega (arith, ints, a)

-- ---- one change

comes : (e : Element) (a : Option Alpha) → cond (passes_in a (Some e)) (pos 1) (pos 0) +ℤ pos (times_passed a None) ≡ pos (times_passed a (Some e))
comes e None = refl
comes e (Some a) = by (passes_alpha a e)
  where
    by : (b : Bool) → cond b (pos 1) (pos 0) +ℤ pos 0 ≡ pos (cond b 1 0)
    by true = refl
    by false = refl

goes : (e : Element) (a : Option Alpha) → cond (passes_in a (Some e)) (negsuc 0) (pos 0) +ℤ pos (times_passed a (Some e)) ≡ pos (times_passed a None)
goes e None = refl
goes e (Some a) = by (passes_alpha a e)
  where
    by : (b : Bool) → cond b (negsuc 0) (pos 0) +ℤ pos (cond b 1 0) ≡ pos 0
    by true = refl
    by false = refl

-- ---- a side to which working memory gives

-- the right side of a node that takes elements
pub record TakesElements (alphas : List Alpha) (nodes : List Node) (n : ℕ) (s : Side) : Type 0 where
  pub node : Node
  pub at : slice_get nodes n ≡ Some node
  pub takes : takes_elements node.kind ≡ true
  pub right : s ≡ Right
  pub gives : (wm : List Element) (t : List ℕ) → sums_over wm alphas nodes n Right t ≡ pos (memory_gives wm (slice_get alphas node.alpha) t)

pub element_side : (alphas : List Alpha) (nodes : List Node) (n : ℕ) (s : Side) → giver_of nodes n s ≡ Memory → TakesElements alphas nodes n s
element_side alphas nodes n s of_memory = by_node (slice_get nodes n) s refl of_memory
  where
    by_parent : (o : Option ℕ) → giver_of_parent o ≡ Memory → ⊥
    by_parent None g = cc
    by_parent (Some p) g = cc

    by_kind : (k : Kind) → giver_of_kind k ≡ Memory → takes_elements k ≡ true
    by_kind Join g = refl
    by_kind Negated g = refl
    by_kind (Group giver width members) g = absurd (cc)
    by_kind (Terminal rule) g = absurd (cc)

    by_node : (o : Option Node) (side : Side) → slice_get nodes n ≡ o → giver_in o side ≡ Memory → TakesElements alphas nodes n side
    by_node None side at g = absurd (cc)
    by_node (Some x) Left at g = absurd (by_parent x.parent g)
    by_node (Some x) Right at g = record {
      node = x;
      at = at;
      takes = by_kind x.kind g;
      right = refl;
      gives = λ wm t.
          ap (λ o. pos (given_in wm alphas nodes right_giver o t)) at ∙ ap (λ h. pos (given h (memory_gives wm (slice_get alphas x.alpha)) (tokens wm alphas nodes) t)) g;
    }

-- an empty working memory gives nothing
pub nothing_given : (alphas : List Alpha) (nodes : List Node) (n : ℕ) (s : Side) (t : List ℕ) → giver_of nodes n s ≡ Memory → sums_over [] alphas nodes n s t ≡ pos 0
nothing_given alphas nodes n s t of_memory =
    let is = element_side alphas nodes n s of_memory in
    ap (λ side. sums_over [] alphas nodes n side t) is.right ∙ (is.gives [] t ∙ none (slice_get alphas is.node.alpha) t)
  where
    passes : (a : Option Alpha) → pos (times_passed a None) ≡ pos 0
    passes None = refl
    passes (Some a) = refl

    none : (a : Option Alpha) (u : List ℕ) → pos (memory_gives [] a u) ≡ pos 0
    none a [] = refl
    none a (tag ∷ []) = passes a
    none a (tag ∷ y ∷ ys) = refl

module _ (elements : Elements) (alphas : List Alpha) (nodes : List Node) where
  change_gives : (last : ℕ) (wm : List Element) (c : Change) → IsKnown elements last wm → Lawful wm last (c ∷ []) → NamesAdded elements (c ∷ [])
      → (n : ℕ) (x : Node) → slice_get nodes n ≡ Some x → takes_elements x.kind ≡ true → (t : List ℕ)
      → signs n Right t (fed_by elements alphas nodes c) +ℤ pos (memory_gives wm (slice_get alphas x.alpha) t) ≡ pos (memory_gives (change_done wm c) (slice_get alphas x.alpha) t)
  change_gives last wm (Add e) k lawful names =
      fed_change alphas nodes true e.tag (Some e) wm (wm ++ e ∷ []) (λ j ne. find_other wm e j (grind (arith, nat_tests)))
      (λ a. let none = find_low wm last e.tag k.low lawful.0 in
      ap (λ o. cond (passes_in a (Some e)) (pos 1) (pos 0) +ℤ pos (times_passed a o)) none ∙ (comes e a ∙ sym (ap (λ o. pos (times_passed a o)) (find_new wm e none))))
  change_gives last wm (Remove tag) k lawful names =
      fed_change alphas nodes false tag (elements tag) wm (without_tag tag wm) (λ j ne. find_kept wm tag j ne)
      (λ a. let there = find_there wm tag lawful.0 in
      ap₂ (λ o p. cond (passes_in a o) (negsuc 0) (pos 0) +ℤ pos (times_passed a p)) (k.name tag there.0 there.1) there.1
      ∙ (goes there.0 a ∙ sym (ap (λ o. pos (times_passed a o)) (find_gone wm tag))))

  fed_gives : (last : ℕ) (wm : List Element) (cs : List Change) → IsKnown elements last wm → Lawful wm last cs → NamesAdded elements cs
      → (n : ℕ) (x : Node) → slice_get nodes n ≡ Some x → takes_elements x.kind ≡ true → (t : List ℕ)
      → signs n Right t (fed_by_all elements alphas nodes cs) +ℤ pos (memory_gives wm (slice_get alphas x.alpha) t) ≡ pos (memory_gives (done wm cs) (slice_get alphas x.alpha) t)
  fed_gives last wm [] k lawful names n x at takes t = omega (arith, ints)
  fed_gives last wm (c ∷ cs) k lawful names n x at takes t =
      let first = first_lawful wm last c cs lawful in
      let named = first_names elements c cs names in
      let a = signs-append n Right t (fed_by elements alphas nodes c) (fed_by_all elements alphas nodes cs) in
      let b = change_gives last wm c k first named n x at takes t in
      let d = fed_gives (last_after last (c ∷ [])) (change_done wm c) cs (known_after elements last wm c k first named) (rest_lawful wm last c cs lawful) (later_names elements c cs names) n x at takes t in
      omega (arith, ints, a, b, d)

  -- what is fed to a side is what working memory gives to it more
  pub fed_is_given : (last : ℕ) (wm : List Element) (cs : List Change) → IsKnown elements last wm → Lawful wm last cs → NamesAdded elements cs
      → (n : ℕ) (s : Side) (t : List ℕ) → giver_of nodes n s ≡ Memory
      → signs n s t (fed_by_all elements alphas nodes cs) +ℤ sums_over wm alphas nodes n s t ≡ sums_over (done wm cs) alphas nodes n s t
  fed_is_given last wm cs k lawful names n s t of_memory =
      let is = element_side alphas nodes n s of_memory in
      subst (λ side. signs n side t (fed_by_all elements alphas nodes cs) +ℤ sums_over wm alphas nodes n side t ≡ sums_over (done wm cs) alphas nodes n side t) (sym is.right)
      (let a = is.gives wm t in
      let b = is.gives (done wm cs) t in
      let c = fed_gives last wm cs k lawful names n is.node is.at is.takes t in omega (arith, ints, a, b, c))
