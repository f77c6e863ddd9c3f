-- The totals of what the entries of lines moved tell what came and what went.
use Rattle.std.proofs.Common.{◌≡◌, ℕ, zero, suc, ◌<◌, ◌==◌, Bool, true, false, cond, ◌&&◌, nat_lt, List, [], ◌∷◌, ℤ, pos, ◌+ℤ◌, ◌-ℤ◌, refl, sym, ap, ap₂, subst, ◌∙◌, arith, inl, inr, map, filter, fold, slice_get, Option, Some, None}
use Rattle.std.specs.Prelude.{◌↔◌, ◌⊎◌, flat_map, option_map}
use Rattle.std.specs.List.{Contains}
use Rattle.std.proofs.lemmas.Int.{ints}
use Rattle.std.proofs.lemmas.List.Sorted.{Contains-permutation, IsPermutation-sym}
use Rattle.std.proofs.lemmas.Option.{slice_get-map}
use Rattle.std.proofs.lemmas.Bool.Decides.{nat_tests, Decides-eqb}
use Rattle.ops_base.specs.declared.rules.Inst.{Inst}
use Rattle.ops_base.specs.Instances.{Before, IsInOrder}
use Rattle.ops_base.proofs.Filtered.{filter_member, member-filter, all_before-filter}
use Rattle.ops_base.proofs.InOrder.{AllBefore, all_before-map, all_pairs_from_before}
use Rattle.ops_base.proofs.Members.{IsMember, contains_from_member, member_from_contains, flat_map_member, map_member, member-map}
use Rattle.net_base.specs.declared.nodes.Alpha.{Alpha}
use Rattle.net_base.specs.declared.nodes.Kind.{Kind}
use Rattle.net_base.specs.declared.nodes.Kind.TheVariants.{Join, Negated, Group, Terminal}
use Rattle.net_base.specs.declared.nodes.Node.{Node}
use Rattle.net_base.specs.declared.tasks.Side.{Side}
use Rattle.net_base.specs.declared.tasks.Side.TheVariants.{Left, Right}
use Rattle.net_base.specs.declared.tasks.Task.{Task}
use Rattle.net_base.specs.Sound.{IsSound}
use Rattle.token_line.specs.Bags.{Bag, sign, sign_at, signs, standing}
use Rattle.step_core.proofs.Signs.{sign_at-none, sign_at-own}
use Rattle.step_core.specs.Machine.{Seen}
use Rattle.step_core.specs.Phases.{now, before, tasks_of, total}
use Rattle.step_core.specs.Found.{inst}
use Rattle.step_core.specs.Settling.{HaveOwnLines, IsGathered, Stands}
use Rattle.step_core.specs.declared.gathering.Moved.{Moved}
use Rattle.step_core.specs.declared.gathering.Total.{Total}
use Rattle.step_core.specs.inner.Gathering.{AreTold, added, has_come, has_gone, is_moved, is_same, moved_by, moved_on, moved_over, moved_to, rule_in}
use Rattle.step_core.proofs.AddingUp.{AreTotals, ByInst, is_same-itself, is_same-true, moved_change, moved_change-append, moved_change-permutation, own_change, some_total, sorted_totals, total_change}
use Rattle.step_core.proofs.Resting.{only_here}

-- ---- a token that moved

moved_stands : (a b : ℤ) → is_moved a b ≡ true → (0 < standing b) × (standing a ≡ 0)
moved_stands a b m = by (standing a == 0) refl m
  where
    lt : (k : ℕ) → nat_lt 0 k ≡ true → 0 < k
    lt zero e = absurd (cc)
    lt (suc k) e = omega arith

    by : (v : Bool) → (standing a == 0) ≡ v → (v && nat_lt 0 (standing b)) ≡ true → (0 < standing b) × (standing a ≡ 0)
    by true q e = (lt (standing b) e, (Decides-eqb (standing a) 0).0 q)
    by false q e = absurd (cc)

stands_moved : (a b : ℤ) → 0 < standing b → standing a ≡ 0 → is_moved a b ≡ true
stands_moved a b low none = ap₂ (λ v w. v && w) ((Decides-eqb (standing a) 0).1 none) (lt (standing b) low)
  where
    lt : (k : ℕ) → 0 < k → nat_lt 0 k ≡ true
    lt zero e = absurd (omega (arith, e))
    lt (suc k) e = grind (arith, nat_tests)

-- ---- totals that follow the sums

-- where the terminal of an instantiation is
pub record IsTerminalAt (nodes : List Node) (i : Inst) (n : ℕ) : Type 0 where
  pub node : Node
  pub at : slice_get nodes n ≡ Some node
  pub kind : node.kind ≡ Terminal i.rule

-- the terminal of the total's instantiation, at which its token passes the test just where it moved
pub record IsTested (nodes : List Node) (old new : Bag) (f : Total → Bool) (t : Total) : Type 0 where
  pub n : ℕ
  pub terminal : IsTerminalAt nodes t.inst n
  pub test : f t ≡ is_moved (old n Left t.inst.tags) (new n Left t.inst.tags)

module _ (nodes : List Node) (alphas : List Alpha) (sound : IsSound alphas nodes) (old new : Bag) (f : Total → Bool) (ts : List Total)
    (each : (t : Total) → IsMember t ts → IsTested nodes old new f t)
    (some : (i : Inst) (n : ℕ) → IsTerminalAt nodes i n → (old n Left i.tags ≡ new n Left i.tags) ⊎ ((t : Total) × IsMember t ts × (i ≡ t.inst))) where
  abbrev chosen : List Inst
  chosen = map (λ (t : Total). t.inst) (filter f ts)

  chosen_moved : (i : Inst) → IsMember i chosen → Stands nodes new i × ¬ Stands nodes old i
  chosen_moved i m =
      let p = map_member (λ (t : Total). t.inst) i (filter f ts) m in
      let t = p.0 in
      let q = filter_member f t ts p.1 in
      let is = each t q.0 in
      let moved = moved_stands (old is.n Left t.inst.tags) (new is.n Left t.inst.tags) (sym is.test ∙ q.1) in
      let stands : Stands nodes new t.inst = record { n = is.n; node = is.terminal.node; at = is.terminal.at; kind = is.terminal.kind; some = moved.0 } in
      let stood : Stands nodes old t.inst → ⊥ =
      (λ h. (let e : h.n ≡ is.n = sound.one h.n is.n t.inst.rule h.node is.terminal.node h.at is.terminal.at h.kind is.terminal.kind in
      let g = subst (λ n. 0 < standing (old n Left t.inst.tags)) e h.some in omega (arith, g, moved.1))) in
      subst (λ j. Stands nodes new j × ¬ Stands nodes old j) (sym p.2) (stands, stood)

  moved_chosen : (i : Inst) → Stands nodes new i → ¬ Stands nodes old i → IsMember i chosen
  moved_chosen i h none = elim (some i h.n (record { node = h.node; at = h.at; kind = h.kind })) [
    | inl e ↦ absurd (none (record { n = h.n; node = h.node; at = h.at; kind = h.kind; some = subst (λ z. 0 < standing z) (sym e) h.some }))
    | inr p ↦ there p.0 p.1 p.2
  ]
    where
      not_before : (k : ℕ) → standing (old h.n Left i.tags) ≡ k → k ≡ 0
      not_before zero e = refl
      not_before (suc k) e = absurd (none (record { n = h.n; node = h.node; at = h.at; kind = h.kind; some = omega (arith, e) }))

      there : (t : Total) → IsMember t ts → i ≡ t.inst → IsMember i chosen
      there t m e =
          let is = each t m in
          let same : h.n ≡ is.n = sound.one h.n is.n t.inst.rule h.node is.terminal.node h.at is.terminal.at (h.kind ∙ ap (λ (j : Inst). Terminal j.rule) e) is.terminal.kind in
          let old_is : old h.n Left i.tags ≡ old is.n Left t.inst.tags = ap₂ (λ n (j : Inst). old n Left j.tags) same e in
          let new_is : new h.n Left i.tags ≡ new is.n Left t.inst.tags = ap₂ (λ n (j : Inst). new n Left j.tags) same e in
          let pass : f t ≡ true = is.test ∙ stands_moved (old is.n Left t.inst.tags) (new is.n Left t.inst.tags) (subst (λ z. 0 < standing z) new_is h.some) (sym (ap standing old_is) ∙ not_before (standing (old h.n Left i.tags)) refl) in
          subst (λ j. IsMember j chosen) (sym e) (member-map (λ (u : Total). u.inst) t (filter f ts) (member-filter f t ts m pass))

  pub chosen_are : (i : Inst) → Contains chosen i ↔ (Stands nodes new i × ¬ Stands nodes old i)
  chosen_are i = (λ c. chosen_moved i (member_from_contains i chosen c), λ h. contains_from_member i chosen (moved_chosen i h.0 h.1))

  pub chosen_in_order : AllBefore ByInst ts → IsInOrder chosen
  chosen_in_order order = all_pairs_from_before Before chosen (all_before-map ByInst Before (λ (t : Total). t.inst) (filter f ts) (λ t u b. b) (all_before-filter ByInst f ts order))

-- ---- the sum of all lines

abbrev all_signs : ℕ → Side → List ℕ → List Seen → ℤ
all_signs n s t [] = pos 0
all_signs n s t (l ∷ ls) = signs n s t (tasks_of l.entries) +ℤ all_signs n s t ls

total_before : (n : ℕ) (s : Side) (t : List ℕ) (ls : List Seen) → total (map before ls) n s t ≡ total (map now ls) n s t -ℤ all_signs n s t ls
total_before n s t [] = omega (arith, ints)
total_before n s t (l ∷ ls) = let r = total_before n s t ls in omega (arith, ints, r)

module _ (nodes : List Node) (alphas : List Alpha) (sound : IsSound alphas nodes) where
  -- ---- what the tasks moved

  module _ (i : Inst) (n : ℕ) (is : IsTerminalAt nodes i n) where
    no_part : (x : Task) → ((y : Node) → slice_get nodes x.node ≡ Some y → x.side ≡ Left → y.kind ≡ Terminal i.rule → i.tags ≡ x.token → ⊥) → sign_at n Left i.tags x ≡ pos 0
    no_part x off = sign_at-none n Left i.tags x (λ node side token. off is.node (ap (slice_get nodes) (sym node) ∙ is.at) (sym side) is.kind token)

    at_terminal : (x : Task) (sum : ℤ) (y : Node) → slice_get nodes x.node ≡ Some y → x.side ≡ Left → (k : ℕ) → y.kind ≡ Terminal k → (v : Bool) → is_same i (inst k x.token) ≡ v
        → cond v (sign x.plus) (pos 0) +ℤ pos 0 ≡ sign_at n Left i.tags x
    at_terminal x sum y at side k kind true e =
        let same = is_same-true i (inst k x.token) e in
        let rule = ap (λ (j : Inst). j.rule) same in
        let tags = ap (λ (j : Inst). j.tags) same in
        let node : n ≡ x.node = sound.one n x.node i.rule is.node y is.at at is.kind (kind ∙ ap Terminal (sym rule)) in
        let own = sign_at-own x in
        let a : sign_at n Left i.tags x ≡ sign_at x.node x.side x.token x =
        ap₂ (λ m t. sign_at m Left t x) node tags ∙ ap (λ s. sign_at x.node s x.token x) (sym side) in omega (arith, ints, own, a)
    at_terminal x sum y at side k kind false e =
        let z = no_part x (λ y' at' side' kind' token.
        (let f : y ≡ y' = (let g = sym at ∙ at' in cc) in
        let r : k ≡ i.rule = (let g = sym kind ∙ (ap (λ (w : Node). w.kind) f ∙ kind') in cc) in
        let same : i ≡ inst k x.token = ap₂ (λ q t. inst q t) (sym r) token in
        let h = is_same-itself i (inst k x.token) same in absurd (let b = sym e ∙ h in cc))) in omega (arith, ints, z)

    by_kind : (x : Task) (sum : ℤ) (y : Node) → slice_get nodes x.node ≡ Some y → (s : Side) → x.side ≡ s → (k : Kind) → y.kind ≡ k
        → moved_change i (moved_to (rule_in (Some (record y { kind = k })) s) x sum) ≡ sign_at n Left i.tags x
    by_kind x sum y at Right side k kind = sym (no_part x (λ y' at' side' kind' token. (let f = sym side ∙ side' in cc)))
    by_kind x sum y at Left side Join kind = sym (no_part x (λ y' at' side' kind' token. (let g = sym at ∙ at' in let f : y ≡ y' = cc in let h = sym kind ∙ (ap (λ (w : Node). w.kind) f ∙ kind') in cc)))
    by_kind x sum y at Left side Negated kind = sym (no_part x (λ y' at' side' kind' token. (let g = sym at ∙ at' in let f : y ≡ y' = cc in let h = sym kind ∙ (ap (λ (w : Node). w.kind) f ∙ kind') in cc)))
    by_kind x sum y at Left side (Group g w q) kind = sym (no_part x (λ y' at' side' kind' token. (let g = sym at ∙ at' in let f : y ≡ y' = cc in let h = sym kind ∙ (ap (λ (w : Node). w.kind) f ∙ kind') in cc)))
    by_kind x sum y at Left side (Terminal k) kind = at_terminal x sum y at side k kind (is_same i (inst k x.token)) refl

    one_moved : (x : Task) (sum : ℤ) → moved_change i (moved_to (rule_in (slice_get nodes x.node) x.side) x sum) ≡ sign_at n Left i.tags x
    one_moved x sum = by (slice_get nodes x.node) refl
      where
        by : (o : Option Node) → slice_get nodes x.node ≡ o → moved_change i (moved_to (rule_in o x.side) x sum) ≡ sign_at n Left i.tags x
        by None at = sym (no_part x (λ y at' side kind token. (let g = sym at ∙ at' in cc)))
        by (Some y) at = by_kind x sum y at x.side refl y.kind refl

    line_moved : (l : Seen) (xs : List Task) → moved_change i (flat_map (moved_by nodes l) xs) ≡ signs n Left i.tags xs
    line_moved l [] = refl
    line_moved l (x ∷ xs) =
        let a = moved_change-append i (moved_by nodes l x) (flat_map (moved_by nodes l) xs) in
        let b = one_moved x (l.sums x.node Left x.token) in
        let r = line_moved l xs in omega (arith, ints, a, b, r)

    all_moved : (ls : List Seen) → moved_change i (moved_over nodes ls) ≡ all_signs n Left i.tags ls
    all_moved [] = refl
    all_moved (l ∷ ls) =
        let a = moved_change-append i (moved_on nodes l) (moved_over nodes ls) in
        let b = line_moved l (tasks_of l.entries) in
        let r = all_moved ls in omega (arith, ints, a, b, r)

  -- ---- where what moved stands

  -- a task of a line moved it
  pub record IsOfTask (l : Seen) (m : Moved) : Type 0 where
    pub task : Task
    pub member : IsMember task (tasks_of l.entries)
    pub side : task.side ≡ Left
    pub token : m.inst.tags ≡ task.token
    pub terminal : IsTerminalAt nodes m.inst task.node
    pub sum : m.sum ≡ l.sums task.node Left task.token

  of_task : (l : Seen) (x : Task) → IsMember x (tasks_of l.entries) → (m : Moved) → IsMember m (moved_by nodes l x) → IsOfTask l m
  of_task l x in_line m k = by_node (slice_get nodes x.node) refl k
    where
      at_rule : (y : Node) → slice_get nodes x.node ≡ Some y → x.side ≡ Left → (r : ℕ) → y.kind ≡ Terminal r → IsMember m (record { inst = inst r x.token; plus = x.plus; sum = l.sums x.node Left x.token } ∷ []) → IsOfTask l m
      at_rule y at side r kind (inr n) = absurd n
      at_rule y at side r kind (inl e) = record {
        task = x;
        member = in_line;
        side = side;
        token = ap (λ (w : Moved). w.inst.tags) e;
        terminal = record { node = y; at = at; kind = kind ∙ ap (λ (w : Moved). Terminal w.inst.rule) (sym e) };
        sum = ap (λ (w : Moved). w.sum) e;
      }

      by_kind' : (y : Node) → slice_get nodes x.node ≡ Some y → (s : Side) → x.side ≡ s → (q : Kind) → y.kind ≡ q
          → IsMember m (moved_to (rule_in (Some (record y { kind = q })) s) x (l.sums x.node Left x.token)) → IsOfTask l m
      by_kind' y at Right side q kind n = absurd n
      by_kind' y at Left side Join kind n = absurd n
      by_kind' y at Left side Negated kind n = absurd n
      by_kind' y at Left side (Group g w q) kind n = absurd n
      by_kind' y at Left side (Terminal r) kind n = at_rule y at side r kind n

      by_node : (o : Option Node) → slice_get nodes x.node ≡ o → IsMember m (moved_to (rule_in o x.side) x (l.sums x.node Left x.token)) → IsOfTask l m
      by_node None at n = absurd n
      by_node (Some y) at n = by_kind' y at x.side refl y.kind refl n

  module _ (ls : List Seen) (own : HaveOwnLines ls) where
    place_in : {X : Type 0} (x : X) (xs : List X) → IsMember x xs → (i : ℕ) × (slice_get xs i ≡ Some x)
    place_in x [] m = absurd m
    place_in x (y ∷ ys) (inl e) = (zero, ap Some (sym e))
    place_in x (y ∷ ys) (inr m) = let r = place_in x ys m in (suc r.0, r.1)

    bag_at : (j : ℕ) (d : Bag) → slice_get (map now ls) j ≡ Some d → (m : Seen) × (slice_get ls j ≡ Some m) × (d ≡ now m)
    bag_at j d at = by (slice_get ls j) refl (sym (slice_get-map now ls j) ∙ at)
      where
        by : (o : Option Seen) → slice_get ls j ≡ o → option_map now o ≡ Some d → (m : Seen) × (slice_get ls j ≡ Some m) × (d ≡ now m)
        by None q e = absurd (cc)
        by (Some m) q e = let g : now m ≡ d = cc in (m, q, sym g)

    -- the sum of all lines is that of the task's own line
    own_sum : (l : Seen) → IsMember l ls → (x : Task) → IsMember x (tasks_of l.entries) → total (map now ls) x.node x.side x.token ≡ l.sums x.node x.side x.token
    own_sum l in_lines x in_line =
        let p = place_in l ls in_lines in
        only_here x.node x.side x.token (map now ls) p.0 (now l) (slice_get-map now ls p.0 ∙ ap (option_map now) p.1)
        (λ j d at ne. (let b = bag_at j d at in ap (λ (c : Bag). c x.node x.side x.token) b.2 ∙ own p.0 j l b.0 p.1 b.1 ne x (contains_from_member x (tasks_of l.entries) in_line)))

    -- where it stands, and how often now
    pub record IsSummed (i : Inst) (z : ℤ) : Type 0 where
      pub n : ℕ
      pub terminal : IsTerminalAt nodes i n
      pub sum : total (map now ls) n Left i.tags ≡ z

    task_summed : (l : Seen) → IsMember l ls → (m : Moved) → IsOfTask l m → IsSummed m.inst m.sum
    task_summed l in_lines m o = record { n = o.task.node; terminal = o.terminal; sum = ap (total (map now ls) o.task.node Left) o.token ∙ sum_left }
      where
        own_left : total (map now ls) o.task.node Left o.task.token ≡ l.sums o.task.node Left o.task.token
        own_left = subst (λ d. total (map now ls) o.task.node d o.task.token ≡ l.sums o.task.node d o.task.token) o.side (own_sum l in_lines o.task o.member)

        sum_left : total (map now ls) o.task.node Left o.task.token ≡ m.sum
        sum_left = own_left ∙ sym o.sum

    moved_summed : (m : Moved) → IsMember m (moved_over nodes ls) → IsSummed m.inst m.sum
    moved_summed m k =
        let a = flat_map_member (moved_on nodes) m ls k in
        let b = flat_map_member (moved_by nodes a.0) m (tasks_of a.0.entries) a.2 in
        task_summed a.0 a.1 m (of_task a.0 b.0 b.1 m b.2)

    module _ (ms : List Moved) (ts : List Total) (within : (m : Moved) → IsMember m ms → IsMember m (moved_over nodes ls)) (as_much : (i : Inst) → moved_change i ms ≡ moved_change i (moved_over nodes ls)) (are : AreTotals ms ts) where
      total_summed : (t : Total) → IsMember t ts → IsSummed t.inst t.sum
      total_summed t m =
          let o = are.from t m in
          let s = moved_summed o.one (within o.one o.member) in
          subst (λ z. IsSummed t.inst z) o.sum (subst (λ j. IsSummed j o.one.sum) o.inst s)

      changed : (i : Inst) (n : ℕ) → IsTerminalAt nodes i n → total_change i ts ≡ all_signs n Left i.tags ls
      changed i n is = are.change i ∙ (as_much i ∙ all_moved i n is ls)

      before_is : (t : Total) → IsMember t ts → (n : ℕ) → IsTerminalAt nodes t.inst n → total (map now ls) n Left t.inst.tags ≡ t.sum → total (map before ls) n Left t.inst.tags ≡ t.sum -ℤ t.change
      before_is t m n is sum =
          let a = total_before n Left t.inst.tags ls in
          let b = changed t.inst n is in
          let c = own_change ts are.order t m in omega (arith, ints, a, b, c, sum)

      none_changed : (i : Inst) (n : ℕ) → IsTerminalAt nodes i n → (total (map before ls) n Left i.tags ≡ total (map now ls) n Left i.tags) ⊎ ((t : Total) × IsMember t ts × (i ≡ t.inst))
      none_changed i n is = elim (some_total i ts) [
        | inr h ↦ inr h
        | inl z ↦ inl (let a = total_before n Left i.tags ls in let b = changed i n is in omega (arith, ints, a, b, z))
      ]

      come_tested : (t : Total) → IsMember t ts → IsTested nodes (total (map before ls)) (total (map now ls)) has_come t
      come_tested t m =
          let s = total_summed t m in
          let b = before_is t m s.n s.terminal s.sum in
          record { n = s.n; terminal = s.terminal; test = ap₂ is_moved (sym b) (sym s.sum) }

      gone_tested : (t : Total) → IsMember t ts → IsTested nodes (total (map now ls)) (total (map before ls)) has_gone t
      gone_tested t m =
          let s = total_summed t m in
          let b = before_is t m s.n s.terminal s.sum in
          record { n = s.n; terminal = s.terminal; test = ap₂ is_moved (sym s.sum) (sym b) }

      gone_changed : (i : Inst) (n : ℕ) → IsTerminalAt nodes i n → (total (map now ls) n Left i.tags ≡ total (map before ls) n Left i.tags) ⊎ ((t : Total) × IsMember t ts × (i ≡ t.inst))
      gone_changed i n is = elim (none_changed i n is) [ inl e ↦ inl (sym e) | inr h ↦ inr h ]

      pub are_gathered : IsGathered nodes (total (map before ls)) (total (map now ls)) (map (λ (t : Total). t.inst) (filter has_come ts)) (map (λ (t : Total). t.inst) (filter has_gone ts))
      are_gathered = record {
        come_is = chosen_are nodes alphas sound (total (map before ls)) (total (map now ls)) has_come ts come_tested none_changed;
        gone_is = chosen_are nodes alphas sound (total (map now ls)) (total (map before ls)) has_gone ts gone_tested gone_changed;
        come_in_order = chosen_in_order nodes alphas sound (total (map before ls)) (total (map now ls)) has_come ts come_tested none_changed are.order;
        gone_in_order = chosen_in_order nodes alphas sound (total (map now ls)) (total (map before ls)) has_gone ts gone_tested gone_changed are.order;
      }

    -- what is reported of these moves, or of others that stand for them
    module _ (moved : List Moved) (within : (m : Moved) → IsMember m moved → IsMember m (moved_over nodes ls)) (as_much : (i : Inst) → moved_change i moved ≡ moved_change i (moved_over nodes ls)) where
      pub told_gathered : (come gone : List Inst) → AreTold moved come gone → IsGathered nodes (total (map before ls)) (total (map now ls)) come gone
      told_gathered come gone told =
          subst (λ (xs : List Inst). IsGathered nodes (total (map before ls)) (total (map now ls)) xs gone) (sym told.come_is)
          (subst (λ (ys : List Inst). IsGathered nodes (total (map before ls)) (total (map now ls)) (map (λ (t : Total). t.inst) (filter has_come (fold added [] told.sorted))) ys) (sym told.gone_is)
          (are_gathered told.sorted (fold added [] told.sorted)
          (λ m k. within m (member_from_contains m moved (Contains-permutation told.sorted moved m (IsPermutation-sym moved told.sorted told.same) (contains_from_member m told.sorted k))))
          (λ i. moved_change-permutation i moved told.sorted told.same ∙ as_much i)
          (sorted_totals told.sorted told.order)))
