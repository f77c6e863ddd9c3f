-- The tasks that are made for nodes are those that are due there, and fit.
use Rattle.std.proofs.Common.{◌≡◌, ◌≢◌, ℕ, zero, suc, ◌+◌, ◌<◌, ◌≤◌, Bool, true, false, cond, ◌==◌, ◌&&◌, List, [], ◌∷◌, ◌++◌, pos, ◌+ℤ◌, length, slice_get, nat_le, Option, Some, None, IsSome, refl, sym, ap, ap₂, subst, ◌∙◌, arith, inl, inr}
use Rattle.std.specs.List.{All, AllByRecursion}
use Rattle.std.proofs.lemmas.Int.{ints}
use Rattle.std.proofs.lemmas.Bool.{eqb-true, eqb-false}
use Rattle.std.proofs.lemmas.Bool.Decides.{nat_tests}
use Rattle.std.proofs.lemmas.Option.{slice_get_past}
use Rattle.std.proofs.lemmas.List.Elements.{All-from_recursion, All-cons, All-nil}
use Rattle.std.specs.Option.{option_or}
use Rattle.ops_base.specs.declared.elements.Element.{Element}
use Rattle.ops_base.specs.WorkingMemory.{HasRisingTags}
use Rattle.ops_base.proofs.Members.{IsMember}
use Rattle.ops_base.proofs.InOrder.{AllBefore, TagBelow, tags_in_order}
use Rattle.work_store.specs.Stored.{Stored, held_of, of_tag}
use Rattle.net_base.specs.declared.nodes.Kind.{Kind}
use Rattle.net_base.specs.declared.nodes.Kind.TheVariants.{Join, Negated, Group, Terminal}
use Rattle.net_base.specs.declared.nodes.Node.{Node}
use Rattle.net_base.specs.declared.nodes.Alpha.{Alpha}
use Rattle.net_base.specs.declared.tasks.Side.{Side}
use Rattle.net_base.specs.declared.tasks.Side.TheVariants.{Left, Right}
use Rattle.net_base.specs.declared.tasks.Task.{Task}
use Rattle.net_base.specs.Sound.{takes_elements}
use Rattle.net_base.specs.Tokens.{Tokens, giver_of_parent, giver_of_kind, given, times_passed, memory_gives, elements_of}
use Rattle.token_line.specs.Bags.{signs}
use Rattle.token_line.specs.Held.{TaskFits, is_wide}
use Rattle.token_line.proofs.Fitting.{fits_at}
use Rattle.step_core.specs.Machine.{is_fed, passes_in, task_at}
use Rattle.step_core.proofs.Signs.{signs-append, signs-none, sign_at-none, sign_at-own}
use Rattle.step_core.proofs.Fed.{AllByRecursion-append}
use Rattle.grow_laws.specs.Growing.{outside, AreDue}
use Rattle.grow_laws.specs.Due.{root_tasks, element_tasks, tasks_of_node, tasks_from}

-- ---- their nodes and sides

abbrev IsOf : ℕ → Task → Type 0
IsOf n x = x.node ≡ n

abbrev IsRight : Task → Type 0
IsRight x = x.side ≡ Right

abbrev right_task : ℕ → ℕ → Task
right_task n tag = record { node = n; side = Right; plus = true; token = tag ∷ [] }

module _ (P : Task → Type 0) (alphas : List Alpha) (n : ℕ) (x : Node) where
  one_all : ((tag : ℕ) → P (right_task n tag)) → (e : Element) → AllByRecursion P (task_at alphas true e.tag (Some e) n (Some x))
  one_all p e = by (is_fed alphas (Some e) x)
    where
      by : (b : Bool) → AllByRecursion P (cond b (right_task n e.tag ∷ []) [])
      by true = (p e.tag, tt)
      by false = tt

  elements_all : ((tag : ℕ) → P (right_task n tag)) → (es : List Element) → AllByRecursion P (element_tasks alphas n x es)
  elements_all p [] = tt
  elements_all p (e ∷ es) = AllByRecursion-append P (task_at alphas true e.tag (Some e) n (Some x)) (element_tasks alphas n x es) (one_all p e) (elements_all p es)

root_all : (P : Task → Type 0) (n : ℕ) (o : Option ℕ) → P (record { node = n; side = Left; plus = true; token = [] }) → AllByRecursion P (root_tasks n o)
root_all P n None p = (p, tt)
root_all P n (Some q) p = tt

node_all : (P : Task → Type 0) (alphas : List Alpha) (wm : List Element) (n : ℕ) (o : Option Node) → P (record { node = n; side = Left; plus = true; token = [] }) → ((tag : ℕ) → P (right_task n tag)) → AllByRecursion P (tasks_of_node alphas wm n o)
node_all P alphas wm n None l r = tt
node_all P alphas wm n (Some x) l r = AllByRecursion-append P (root_tasks n x.parent) (element_tasks alphas n x wm) (root_all P n x.parent l) (elements_all P alphas n x r wm)

-- ---- the elements of one node

module _ (alphas : List Alpha) (n : ℕ) (x : Node) where
  -- none has the tag
  none_later : (tag : ℕ) (es : List Element) → ((y : Element) → IsMember y es → tag < y.tag) → signs n Right (tag ∷ []) (element_tasks alphas n x es) ≡ pos 0
  none_later tag [] above = refl
  none_later tag (e ∷ es) above =
      let lt = above e (inl refl) in
      let a = signs-append n Right (tag ∷ []) (task_at alphas true e.tag (Some e) n (Some x)) (element_tasks alphas n x es) in
      let b = other tag e (λ q. absurd (omega (arith, lt, q))) in
      let c = none_later tag es (λ y m. above y (inr m)) in omega (arith, ints, a, b, c)
    where
      other : (tag : ℕ) (e : Element) → (tag ≡ e.tag → ⊥) → signs n Right (tag ∷ []) (task_at alphas true e.tag (Some e) n (Some x)) ≡ pos 0
      other tag e ne = by (is_fed alphas (Some e) x)
        where
          by : (b : Bool) → signs n Right (tag ∷ []) (cond b (right_task n e.tag ∷ []) []) ≡ pos 0
          by true = let a = sign_at-none n Right (tag ∷ []) (right_task n e.tag) (λ p q r. ne (cc)) in omega (arith, ints, a)
          by false = refl

  own_one : (e : Element) → takes_elements x.kind ≡ true → signs n Right (e.tag ∷ []) (task_at alphas true e.tag (Some e) n (Some x)) ≡ pos (times_passed (slice_get alphas x.alpha) (Some e))
  own_one e takes = by (is_fed alphas (Some e) x) ∙ (ap (λ b. pos (cond (b && passes_in (slice_get alphas x.alpha) (Some e)) 1 0)) takes ∙ passed (slice_get alphas x.alpha))
    where
      by : (b : Bool) → signs n Right (e.tag ∷ []) (cond b (right_task n e.tag ∷ []) []) ≡ pos (cond b 1 0)
      by true = let a = sign_at-own (right_task n e.tag) in omega (arith, ints, a)
      by false = refl

      passed : (o : Option Alpha) → pos (cond (passes_in o (Some e)) 1 0) ≡ pos (times_passed o (Some e))
      passed None = refl
      passed (Some a) = refl

  by_tag : takes_elements x.kind ≡ true → (tag : ℕ) (es : List Element) → AllBefore TagBelow es → signs n Right (tag ∷ []) (element_tasks alphas n x es) ≡ pos (times_passed (slice_get alphas x.alpha) (elements_of es tag))
  by_tag takes tag [] before = none (slice_get alphas x.alpha)
    where
      none : (o : Option Alpha) → pos 0 ≡ pos (times_passed o None)
      none None = refl
      none (Some a) = refl
  by_tag takes tag (e ∷ es) before = by (by_tag takes tag es before.1) (e.tag == tag) refl
    where
      a : signs n Right (tag ∷ []) (element_tasks alphas n x (e ∷ es)) ≡ signs n Right (tag ∷ []) (task_at alphas true e.tag (Some e) n (Some x)) +ℤ signs n Right (tag ∷ []) (element_tasks alphas n x es)
      a = signs-append n Right (tag ∷ []) (task_at alphas true e.tag (Some e) n (Some x)) (element_tasks alphas n x es)

      other : e.tag ≢ tag → signs n Right (tag ∷ []) (task_at alphas true e.tag (Some e) n (Some x)) ≡ pos 0
      other ne = sign_off (is_fed alphas (Some e) x)
        where
          sign_off : (b : Bool) → signs n Right (tag ∷ []) (cond b (right_task n e.tag ∷ []) []) ≡ pos 0
          sign_off true = let z = sign_at-none n Right (tag ∷ []) (right_task n e.tag) (λ p q r. ne (cc)) in omega (arith, ints, z)
          sign_off false = refl

      by : signs n Right (tag ∷ []) (element_tasks alphas n x es) ≡ pos (times_passed (slice_get alphas x.alpha) (elements_of es tag)) → (b : Bool) → (e.tag == tag) ≡ b
          → signs n Right (tag ∷ []) (element_tasks alphas n x (e ∷ es)) ≡ pos (times_passed (slice_get alphas x.alpha) (cond b (Some e) (elements_of es tag)))
      by ih true q =
          let same = eqb-true e.tag tag q in
          let b = ap (λ z. signs n Right (z ∷ []) (task_at alphas true e.tag (Some e) n (Some x))) (sym same) ∙ own_one e takes in
          let c = none_later tag es (λ y m. let lt = before.0 y m in omega (arith, lt, same)) in omega (arith, ints, a, b, c)
      by ih false q = let b = other (eqb-false e.tag tag q) in omega (arith, ints, a, b, ih)

  longer : (t : List ℕ) → ((tag : ℕ) → t ≢ tag ∷ []) → (es : List Element) → signs n Right t (element_tasks alphas n x es) ≡ pos 0
  longer t ne es = signs-none n Right t (λ y. (tag : ℕ) × (y.token ≡ tag ∷ [])) (λ y h p q r. ne h.0 (r ∙ h.1)) (element_tasks alphas n x es) (elements_all (λ y. (tag : ℕ) × (y.token ≡ tag ∷ [])) alphas n x (λ tag. (tag, refl)) es)

  of_memory : takes_elements x.kind ≡ true → (wm : List Element) → AllBefore TagBelow wm → (t : List ℕ) → signs n Right t (element_tasks alphas n x wm) ≡ pos (memory_gives wm (slice_get alphas x.alpha) t)
  of_memory takes wm before [] = longer [] (λ tag e. absurd (cc)) wm
  of_memory takes wm before (tag ∷ []) = by_tag takes tag wm before
  of_memory takes wm before (tag ∷ k ∷ ks) = longer (tag ∷ k ∷ ks) (λ j e. absurd (cc)) wm

  -- a node that takes no elements gets none
  not_taken : takes_elements x.kind ≡ false → (es : List Element) → element_tasks alphas n x es ≡ []
  not_taken none [] = refl
  not_taken none (e ∷ es) = ap₂ (λ (b : Bool) (ts : List Task). cond (b && passes_in (slice_get alphas x.alpha) (Some e)) (right_task n e.tag ∷ []) [] ++ ts) none (not_taken none es)

-- ---- all of one node

root_signs : (n : ℕ) (t : List ℕ) (o : Option ℕ) (memory : Tokens) → signs n Left t (root_tasks n o) ≡ pos (given (giver_of_parent o) memory (λ p u. 0) t)
root_signs n [] None memory = let a = sign_at-own (record { node = n; side = Left; plus = true; token = [] }) in omega (arith, ints, a)
root_signs n (k ∷ ks) None memory = let a = sign_at-none n Left (k ∷ ks) (record { node = n; side = Left; plus = true; token = [] }) (λ p q r. absurd (cc)) in omega (arith, ints, a)
root_signs n t (Some p) memory = refl

own_signs : (alphas : List Alpha) (wm : List Element) → AllBefore TagBelow wm → (n : ℕ) (x : Node) (s : Side) (t : List ℕ) → signs n s t (tasks_of_node alphas wm n (Some x)) ≡ pos (outside wm alphas (Some x) s t)
own_signs alphas wm before n x Left t =
    let a = signs-append n Left t (root_tasks n x.parent) (element_tasks alphas n x wm) in
    let b = root_signs n t x.parent (memory_gives wm (slice_get alphas x.alpha)) in
    let c = signs-none n Left t IsRight (λ y h p q r. absurd (let z : Left ≡ Right = q ∙ h in cc)) (element_tasks alphas n x wm) (elements_all IsRight alphas n x (λ tag. refl) wm) in omega (arith, ints, a, b, c)
own_signs alphas wm before n x Right t =
    let a = signs-append n Right t (root_tasks n x.parent) (element_tasks alphas n x wm) in
    let b = signs-none n Right t (λ y. y.side ≡ Left) (λ y h p q r. absurd (let z : Right ≡ Left = q ∙ h in cc)) (root_tasks n x.parent) (root_all (λ y. y.side ≡ Left) n x.parent refl) in
    let c = by_kind x.kind refl in omega (arith, ints, a, b, c)
  where
    by_kind : (k : Kind) → x.kind ≡ k → signs n Right t (element_tasks alphas n x wm) ≡ pos (given (giver_of_kind k) (memory_gives wm (slice_get alphas x.alpha)) (λ p u. 0) t)
    by_kind Join e = of_memory alphas n x (ap takes_elements e) wm before t
    by_kind Negated e = of_memory alphas n x (ap takes_elements e) wm before t
    by_kind (Group g w m) e = ap (signs n Right t) (not_taken alphas n x (ap takes_elements e) wm)
    by_kind (Terminal r) e = ap (signs n Right t) (not_taken alphas n x (ap takes_elements e) wm)

-- ---- all nodes

module _ (alphas : List Alpha) (nodes : List Node) (wm : List Element) (first : ℕ) where
  abbrev at : ℕ → List Task
  at i = cond (nat_le first i) (tasks_of_node alphas wm i (slice_get nodes i)) []

  other_node : (n i : ℕ) (s : Side) (t : List ℕ) → n ≢ i → signs n s t (cond (nat_le first i) (tasks_of_node alphas wm i (slice_get nodes i)) []) ≡ pos 0
  other_node n i s t ne = by (nat_le first i)
    where
      by : (b : Bool) → signs n s t (cond b (tasks_of_node alphas wm i (slice_get nodes i)) []) ≡ pos 0
      by true = signs-none n s t (IsOf i) (λ y h p q r. ne (p ∙ h)) (tasks_of_node alphas wm i (slice_get nodes i)) (node_all (IsOf i) alphas wm i (slice_get nodes i) refl (λ tag. refl))
      by false = refl

  past_none : (n : ℕ) (s : Side) (t : List ℕ) (i : ℕ) → i ≤ n → signs n s t (tasks_from alphas nodes wm first i) ≡ pos 0
  past_none n s t zero le = refl
  past_none n s t (suc i) le =
      let a = signs-append n s t (tasks_from alphas nodes wm first i) (at i) in
      let b = past_none n s t i (omega (arith, le)) in
      let c = other_node n i s t (λ q. absurd (omega (arith, le, q))) in omega (arith, ints, a, b, c)

  own_part : (n : ℕ) (s : Side) (t : List ℕ) (i : ℕ) → n < i → signs n s t (tasks_from alphas nodes wm first i) ≡ signs n s t (cond (nat_le first n) (tasks_of_node alphas wm n (slice_get nodes n)) [])
  own_part n s t zero lt = absurd (omega (arith, lt))
  own_part n s t (suc i) lt = by (λ l. own_part n s t i l) (n == i) refl
    where
      a : signs n s t (tasks_from alphas nodes wm first (suc i)) ≡ signs n s t (tasks_from alphas nodes wm first i) +ℤ signs n s t (at i)
      a = signs-append n s t (tasks_from alphas nodes wm first i) (at i)

      by : (n < i → signs n s t (tasks_from alphas nodes wm first i) ≡ signs n s t (at n)) → (b : Bool) → (n == i) ≡ b → signs n s t (tasks_from alphas nodes wm first (suc i)) ≡ signs n s t (at n)
      by ih true q =
          let same = eqb-true n i q in
          let b = past_none n s t i (omega (arith, same)) in
          let c = ap (λ k. signs n s t (at k)) same in omega (arith, ints, a, b, c)
      by ih false q =
          let ne = eqb-false n i q in
          let b = ih (omega (arith, ne, lt)) in
          let c = other_node n i s t ne in omega (arith, ints, a, b, c)

  -- what is made for all nodes from the first on is due
  pub made_due : HasRisingTags wm → (bound : ℕ) → length nodes ≤ bound → AreDue wm alphas nodes first (tasks_from alphas nodes wm first bound)
  made_due rise bound le n s t = by_node (slice_get nodes n) refl
    where
      in_order : AllBefore TagBelow wm
      in_order = tags_in_order wm rise

      part : (b : Bool) (o : Option Node) → slice_get nodes n ≡ o → signs n s t (cond b (tasks_of_node alphas wm n o) []) ≡ pos (cond b (outside wm alphas o s t) 0)
      part false o e = refl
      part true None e = refl
      part true (Some x) e = own_signs alphas wm in_order n x s t

      nothing : (b : Bool) → pos 0 ≡ pos (cond b 0 0)
      nothing true = refl
      nothing false = refl

      by_bound : (o : Option Node) → slice_get nodes n ≡ o → (b : Bool) → nat_le bound n ≡ b → signs n s t (tasks_from alphas nodes wm first bound) ≡ pos (cond (nat_le first n) (outside wm alphas (slice_get nodes n) s t) 0)
      by_bound o e true q =
          let l : bound ≤ n = grind (arith, nat_tests) in
          past_none n s t bound l ∙ (nothing (nat_le first n) ∙ ap (λ z. pos (cond (nat_le first n) (outside wm alphas z s t) 0)) (sym (slice_get_past nodes n (omega (arith, le, l)))))
      by_bound o e false q =
          let l : n < bound = grind (arith, nat_tests) in
          own_part n s t bound l ∙ part (nat_le first n) (slice_get nodes n) refl

      by_node : (o : Option Node) → slice_get nodes n ≡ o → signs n s t (tasks_from alphas nodes wm first bound) ≡ pos (cond (nat_le first n) (outside wm alphas (slice_get nodes n) s t) 0)
      by_node o e = by_bound o e (nat_le bound n) refl

  -- ---- one node more

  pub none_yet : (i : ℕ) → i ≤ first → tasks_from alphas nodes wm first i ≡ []
  none_yet zero le = refl
  none_yet (suc i) le =
      let off : nat_le first i ≡ false = grind (arith, nat_tests) in
      ap₂ (λ (ts : List Task) (b : Bool). ts ++ cond b (tasks_of_node alphas wm i (slice_get nodes i)) []) (none_yet i (omega (arith, le))) off

  pub one_more : (i : ℕ) (x : Node) → first ≤ i → slice_get nodes i ≡ Some x → tasks_from alphas nodes wm first (i + 1) ≡ tasks_from alphas nodes wm first i ++ tasks_of_node alphas wm i (Some x)
  one_more i x le here =
      let on : nat_le first i ≡ true = grind (arith, nat_tests) in
      ap (tasks_from alphas nodes wm first) (let z : i + 1 ≡ suc i = omega arith in z)
      ∙ ap₂ (λ (b : Bool) (o : Option Node). tasks_from alphas nodes wm first i ++ cond b (tasks_of_node alphas wm i o) []) on here

-- ---- they fit

held_there : (wm : List Element) (e : Element) → IsMember e wm → (f : Element) × (of_tag wm e.tag ≡ Some f)
held_there [] e m = absurd m
held_there (y ∷ ys) e m = by (λ h. held_there ys e h) (y.tag == e.tag) refl m
  where
    by : (IsMember e ys → (f : Element) × (of_tag ys e.tag ≡ Some f)) → (b : Bool) → (y.tag == e.tag) ≡ b → IsMember e (y ∷ ys) → (f : Element) × (cond b (Some y) (of_tag ys e.tag) ≡ Some f)
    by ih true q h = (y, refl)
    by ih false q (inl same) = absurd (eqb-false y.tag e.tag q (ap (λ (z : Element). z.tag) (sym same)))
    by ih false q (inr h) = ih h

module _ (alphas : List Alpha) (nodes : List Node) (s : Stored) where
  held_in : (e : Element) → IsMember e s.elements → IsSome (held_of s e.tag)
  held_in e m = let h = held_there s.elements e m in subst (λ o. IsSome (option_or o (of_tag s.kept e.tag))) (sym h.1) refl

  fit_one : (n : ℕ) (x : Node) → slice_get nodes n ≡ Some x → (e : Element) → IsSome (held_of s e.tag) → AllByRecursion (TaskFits nodes s) (task_at alphas true e.tag (Some e) n (Some x))
  fit_one n x here e held = by x.kind refl (passes_in (slice_get alphas x.alpha) (Some e))
    where
      if_passed : is_wide nodes x Right (e.tag ∷ []) ≡ true → (b : Bool) → AllByRecursion (TaskFits nodes s) (cond b (right_task n e.tag ∷ []) [])
      if_passed width true = (fits_at nodes s n x here Right (e.tag ∷ []) width (All-cons (λ t. IsSome (held_of s t)) e.tag [] held (All-nil (λ t. IsSome (held_of s t)))), tt)
      if_passed width false = tt

      width_of : (k : Kind) → x.kind ≡ k → is_wide nodes (record x { kind = k }) Right (e.tag ∷ []) ≡ true → is_wide nodes x Right (e.tag ∷ []) ≡ true
      width_of k is = subst (λ z. is_wide nodes (record x { kind = z }) Right (e.tag ∷ []) ≡ true) (sym is)

      by : (k : Kind) → x.kind ≡ k → (b : Bool) → AllByRecursion (TaskFits nodes s) (cond (takes_elements k && b) (right_task n e.tag ∷ []) [])
      by Join is b = if_passed (width_of Join is refl) b
      by Negated is b = if_passed (width_of Negated is refl) b
      by (Group giver width members) is b = tt
      by (Terminal rule) is b = tt

  fit_elements : (n : ℕ) (x : Node) → slice_get nodes n ≡ Some x → (es : List Element) → ((e : Element) → IsMember e es → IsSome (held_of s e.tag)) → AllByRecursion (TaskFits nodes s) (element_tasks alphas n x es)
  fit_elements n x here [] held = tt
  fit_elements n x here (e ∷ es) held =
      AllByRecursion-append (TaskFits nodes s) (task_at alphas true e.tag (Some e) n (Some x)) (element_tasks alphas n x es)
      (fit_one n x here e (held e (inl refl))) (fit_elements n x here es (λ y m. held y (inr m)))

  fit_root : (n : ℕ) (x : Node) → slice_get nodes n ≡ Some x → AllByRecursion (TaskFits nodes s) (root_tasks n x.parent)
  fit_root n x here = by x.parent refl
    where
      by : (o : Option ℕ) → x.parent ≡ o → AllByRecursion (TaskFits nodes s) (root_tasks n o)
      by (Some p) e = tt
      by None e = (fits_at nodes s n x here Left [] (subst (λ o. is_wide nodes (record x { parent = o }) Left [] ≡ true) (sym e) refl) (All-nil (λ t. IsSome (held_of s t))), tt)

  fit_node : (n : ℕ) (o : Option Node) → slice_get nodes n ≡ o → AllByRecursion (TaskFits nodes s) (tasks_of_node alphas s.elements n o)
  fit_node n None here = tt
  fit_node n (Some x) here =
      AllByRecursion-append (TaskFits nodes s) (root_tasks n x.parent) (element_tasks alphas n x s.elements) (fit_root n x here) (fit_elements n x here s.elements held_in)

  fit_from : (first i : ℕ) → AllByRecursion (TaskFits nodes s) (tasks_from alphas nodes s.elements first i)
  fit_from first zero = tt
  fit_from first (suc i) =
      AllByRecursion-append (TaskFits nodes s) (tasks_from alphas nodes s.elements first i) (cond (nat_le first i) (tasks_of_node alphas s.elements i (slice_get nodes i)) []) (fit_from first i) (by (nat_le first i))
    where
      by : (b : Bool) → AllByRecursion (TaskFits nodes s) (cond b (tasks_of_node alphas s.elements i (slice_get nodes i)) [])
      by true = fit_node i (slice_get nodes i) refl
      by false = tt

  pub made_fit : (first bound : ℕ) → All (TaskFits nodes s) (tasks_from alphas nodes s.elements first bound)
  made_fit first bound = All-from_recursion (TaskFits nodes s) (tasks_from alphas nodes s.elements first bound) (fit_from first bound)

-- ---- what the whole call returns

module _ (A A' : List Alpha) (N N' : List Node) (s : Stored) (first bound : ℕ) (tasks : List Task) (e : A' ≡ A) (f : N' ≡ N) (is : tasks ≡ tasks_from A' N' s.elements first bound) where
  are : tasks ≡ tasks_from A N s.elements first bound
  are = is ∙ ap₂ (λ xs ns. tasks_from xs ns s.elements first bound) e f

  pub whole_due : HasRisingTags s.elements → length N' ≤ bound → AreDue s.elements A N first tasks
  whole_due rise le = subst (AreDue s.elements A N first) (sym are) (made_due A N s.elements first rise bound (let z = ap length f in omega (arith, z, le)))

  pub whole_fit : All (TaskFits N s) tasks
  whole_fit = subst (All (TaskFits N s)) (sym are) (made_fit A N s first bound)
