-- What stands from the root down to a node is what stands down to its link: steps, places and depths.
use Rattle.std.proofs.Common.{◌≡◌, ℕ, zero, suc, ◌+◌, ◌<◌, ◌≤◌, List, [], ◌∷◌, ◌++◌, map, length, slice_get, Option, Some, None, unwrap_or, refl, ap, ap₂, subst, sym, ◌∙◌, arith, append-nil, append_assoc, Bool, true, false, cond, ◌&&◌, inl, inr, length-append}
use Rattle.std.proofs.lemmas.Bool.{eq-eqb}
use Rattle.std.proofs.lemmas.List.{length-map}
use Rattle.net_base.specs.declared.nodes.Kind.TheVariants as kind
use Rattle.net_base.specs.declared.nodes.Node.{Node}
use Rattle.net_base.specs.declared.nodes.Alpha.{Alpha}
use Rattle.net_base.specs.declared.normal.NormalCondition.{NormalCondition}
use Rattle.net_base.specs.declared.normal.NormalPart.{NormalPart}
use Rattle.net_base.specs.declared.normal.NormalPart.TheVariants.{One, Group}
use Rattle.net_base.specs.Normal.{alpha_tests}
use Rattle.net_base.specs.Shape.{positives, as_parts}
use Rattle.net_base.specs.Sound.{added_tags, width_above, width_of_node, width_below, left_width, depth_of, depth_above, is_join, up_parent, up_node, goes_up}
use Rattle.net_base.proofs.Steps.{Step, Alone, Many, single_of, singles_of, steps_of, steps_above, single_at, joined, IsStepOf, AreSteps, IsOrdered}
use Rattle.beta_net.specs.declared.links.Link.{Link}
use Rattle.beta_net.specs.declared.paths.End.{End}
use Rattle.beta_net.specs.Linked.{path_above, path_at, path_below, path, path_to, depth_to, depth_in, IsWithin, ArePositive, AreLinks}
use Rattle.beta_net.specs.Built.{IsAlpha, IsConditionNode, IsPartNode, IsNodeOf, IsNodeAt}
use Rattle.beta_net.proofs.Lists.{same_some, get_lt, get_at}
use Rattle.beta_net.proofs.PathLemmas.{path_is, parent_within}
use Rattle.beta_net.proofs.PrefixLemmas.{append-parts, snoc_same, path_same, group_below}
use Rattle.beta_net.proofs.RuleLemmas.{positives-push}

-- each link has its node
abbrev pub HaveNodes : List Link → List Alpha → List Node → Type 0
HaveNodes links alphas nodes = (n : ℕ) (l : Link) → slice_get links n ≡ Some l → (x : Node) × (slice_get nodes n ≡ Some x) × IsNodeOf alphas l x

-- each group has two members or more
abbrev pub AreTwos : List Link → Type 0
AreTwos links = (n : ℕ) (l : Link) (cs : List NormalCondition) → slice_get links n ≡ Some l → l.part ≡ Group cs → 2 ≤ length cs

-- ---- steps

abbrev step_of : ℕ → NormalPart → Step
step_of m (One c) = Alone c.negated (single_of m c)
step_of m (Group cs) = Many m (singles_of m cs)

steps-append : (m : ℕ) (cs ds : List NormalPart) → steps_of m (cs ++ ds) ≡ steps_of m cs ++ steps_of (m + positives cs) ds
steps-append m [] ds = ap (λ k. steps_of k ds) (let z : m ≡ m + 0 = omega arith in z)
steps-append m (Group ms ∷ cs) ds = ap (λ r. Many m (singles_of m ms) ∷ r) (steps-append m cs ds)
steps-append m (One c ∷ cs) ds = ap (λ r. Alone c.negated (single_of m c) ∷ r) (by_sign (λ k. steps-append k cs ds) c.negated)
  where
    by_sign : ((k : ℕ) → steps_of k (cs ++ ds) ≡ steps_of k cs ++ steps_of (k + positives cs) ds) → (b : Bool)
        → cond b (steps_of m (cs ++ ds)) (steps_of (suc m) (cs ++ ds)) ≡ cond b (steps_of m cs) (steps_of (suc m) cs) ++ steps_of (m + cond b (positives cs) (suc (positives cs))) ds
    by_sign ih true = ih m
    by_sign ih false = ih (suc m) ∙ ap (λ k. steps_of (suc m) cs ++ steps_of k ds) (let z : suc m + positives cs ≡ m + suc (positives cs) = omega arith in z)

one_step : (m : ℕ) (p : NormalPart) → steps_of m (p ∷ []) ≡ step_of m p ∷ []
one_step m (Group cs) = refl
one_step m (One c) = by_sign c.negated
  where
    by_sign : (b : Bool) → Alone c.negated (single_of m c) ∷ cond b [] [] ≡ Alone c.negated (single_of m c) ∷ []
    by_sign true = refl
    by_sign false = refl

steps-push : (cs : List NormalPart) (p : NormalPart) → steps_of 0 (cs ++ p ∷ []) ≡ steps_of 0 cs ++ step_of (positives cs) p ∷ []
steps-push cs p =
    steps-append 0 cs (p ∷ [])
    ∙ (ap (λ k. steps_of 0 cs ++ steps_of k (p ∷ [])) (let z : 0 + positives cs ≡ positives cs = omega arith in z) ∙ ap (λ r. steps_of 0 cs ++ r) (one_step (positives cs) p))

joined_steps : (m : ℕ) (cs : List NormalCondition) → ArePositive cs → steps_of m (as_parts cs) ≡ map joined (singles_of m cs)
joined_steps m [] h = refl
joined_steps m (c ∷ cs) h =
    ap (λ b. Alone b (single_of m c) ∷ cond b (steps_of m (as_parts cs)) (steps_of (suc m) (as_parts cs))) h.0 ∙ ap (λ r. Alone false (single_of m c) ∷ r) (joined_steps (suc m) cs h.1)

count_singles : (m : ℕ) (cs : List NormalCondition) → length cs ≡ length (singles_of m cs)
count_singles m [] = refl
count_singles m (c ∷ cs) = ap suc (count_singles (suc m) cs)

alpha_is : (a : Alpha) (c : NormalCondition) (place : ℕ) → IsAlpha c.class (alpha_tests place c.tests) a → a ≡ record { class = c.class; tests = alpha_tests place c.tests }
alpha_is a c place i = ap₂ (λ k ts. record { class = k; tests = ts }) i.0 i.1

-- a node of a condition has its alpha and its join tests
single_is : (alphas : List Alpha) (place : ℕ) (c : NormalCondition) (x : Node) → IsConditionNode alphas place c x → single_at alphas x ≡ single_of place c
single_is alphas place c x h = ap₂ (λ a ts. record { alpha = a; tests = ts }) (h.alpha.at ∙ ap Some (alpha_is h.alpha.alpha c place h.alpha.is)) h.joins

-- what members stand below a parent stand below a link
pub above_some : (links : List Link) (o : Option ℕ) (q : List NormalPart) (cs : List NormalCondition) → 2 ≤ length cs → path_to links o ≡ q ++ as_parts cs → (g : ℕ) × (o ≡ Some g)
above_some links (Some g) q cs two e = (g, refl)
above_some links None q cs two e = absurd (omega (arith, ap length e, length-append q (as_parts cs), length-map cs One))

module _ (links : List Link) (alphas : List Alpha) (nodes : List Node) (a : AreLinks links) (h : HaveNodes links alphas nodes) where
  abbrev pub link_steps : ℕ → List Step
  link_steps n = steps_of 0 (path links n)

  pub steps_to : (o : Option ℕ) → steps_above link_steps o ≡ steps_of 0 (path_to links o)
  steps_to None = refl
  steps_to (Some p) = refl

  -- one part more is one step more
  one_more : (n : ℕ) (l : Link) (x : Node) → slice_get links n ≡ Some l → x.parent ≡ l.parent → link_steps n ≡ steps_above link_steps x.parent ++ step_of l.place l.part ∷ []
  one_more n l x at e =
      ap (steps_of 0) (path_is links a n l at)
      ∙ (steps-push (path_to links l.parent) l.part
      ∙ ap₂ (λ ss m. ss ++ step_of m l.part ∷ []) (sym (ap (steps_above link_steps) e ∙ steps_to l.parent)) (sym (a.each n l at).place))

  pub are_steps : AreTwos links → AreSteps alphas nodes (length links) link_steps
  are_steps twos n node low at =
      let g = get_at links n low in
      let x = h n g.0 g.1 in
      let same = same_some x.0 node (sym x.1 ∙ at) in
      subst (λ (z : Node). IsStepOf alphas link_steps n z z.kind) same (by_part g.0 x.0 g.1 x.2.parent g.0.part refl x.2.part (one_more n g.0 x.0 g.1 x.2.parent))
    where
      by_part : (l : Link) (x : Node) → slice_get links n ≡ Some l → x.parent ≡ l.parent → (p : NormalPart) → l.part ≡ p → IsPartNode alphas l.place l.above p x
          → link_steps n ≡ steps_above link_steps x.parent ++ step_of l.place l.part ∷ [] → IsStepOf alphas link_steps n x x.kind
      by_part l x here up (One c) e k more = subst (IsStepOf alphas link_steps n x) (sym k.kind) (by_sign c.negated refl)
        where
          own : (b : Bool) → c.negated ≡ b → link_steps n ≡ steps_above link_steps x.parent ++ Alone b (single_at alphas x) ∷ []
          own b s =
              more ∙ (ap (λ p. steps_above link_steps x.parent ++ step_of l.place p ∷ []) e
              ∙ ap₂ (λ y z. steps_above link_steps x.parent ++ Alone y z ∷ []) s (sym (single_is alphas l.place c x k)))

          by_sign : (b : Bool) → c.negated ≡ b → IsStepOf alphas link_steps n x (cond b kind.Negated kind.Join)
          by_sign true s = own true s
          by_sign false s = own false s
      by_part l x here up (Group cs) e k more =
          let below = group_below links a n l cs here e in
          let g = above_some links l.above (path_to links l.parent) cs (twos n l cs here e) below.1 in
          let place = (a.each n l here).place in
          subst (IsStepOf alphas link_steps n x) (sym (k.kind ∙ ap (λ o. kind.Group (unwrap_or o 0) l.place (length cs)) g.1)) (record {
            before = (a.each n l here).above g.0 g.1;
            singles = singles_of l.place cs;
            count = count_singles l.place cs;
            down =
                ap (λ o. steps_of 0 (path_to links o)) (sym g.1)
                ∙ (ap (steps_of 0) below.1
                ∙ (steps-append 0 (path_to links l.parent) (as_parts cs)
                ∙ ap₂ (λ ss r. ss ++ r) (sym (ap (steps_above link_steps) up ∙ steps_to l.parent))
                (ap (λ m. steps_of m (as_parts cs)) (let z : 0 + positives (path_to links l.parent) ≡ l.place = omega (arith, place) in z) ∙ joined_steps l.place cs below.0)));
            is = more ∙ ap (λ p. steps_above link_steps x.parent ++ step_of l.place p ∷ []) e;
          })

  -- ---- widths

  added_is : (place : ℕ) (above : Option ℕ) (p : NormalPart) (x : Node) (cs : List NormalPart) → IsPartNode alphas place above p x → positives cs + added_tags x.kind ≡ positives (cs ++ p ∷ [])
  added_is place above (Group ms) x cs k = ap (λ t. positives cs + added_tags t) k.kind ∙ ((let z : positives cs + 0 ≡ positives cs = omega arith in z) ∙ sym (positives-push cs (Group ms)))
  added_is place above (One c) x cs k = ap (λ t. positives cs + added_tags t) k.kind ∙ (by_sign c.negated ∙ sym (positives-push cs (One c)))
    where
      by_sign : (b : Bool) → positives cs + added_tags (cond b kind.Negated kind.Join) ≡ cond b (positives cs) (positives cs + 1)
      by_sign true = omega arith
      by_sign false = refl

  widths_are : (k n : ℕ) (l : Link) → n < k → slice_get links n ≡ Some l → width_below k nodes n ≡ positives (path_below k links n)
  widths_are zero n l lt at = absurd (omega arith)
  widths_are (suc k) n l lt at =
      let x = h n l at in
      ap (width_of_node (width_below k nodes)) x.1
      ∙ (ap (λ o. width_above (width_below k nodes) o + added_tags x.0.kind) x.2.parent
      ∙ (ap (λ w. w + added_tags x.0.kind) (above (λ p q lt' here. widths_are k p q lt' here) (let s : n < suc k = omega arith in s) l.parent (λ p e. (a.each n l at).parent p e))
      ∙ (added_is l.place l.above l.part x.0 (path_above (path_below k links) l.parent) x.2.part ∙ ap (λ o. positives (path_at (path_below k links) o)) (sym at))))
    where
      above : ((p : ℕ) (q : Link) → p < k → slice_get links p ≡ Some q → width_below k nodes p ≡ positives (path_below k links p)) → n < suc k → (o : Option ℕ) → IsWithin o n
          → width_above (width_below k nodes) o ≡ positives (path_above (path_below k links) o)
      above ih le None w = refl
      above ih le (Some p) w =
          let lt' = w p refl in
          let low' = get_lt links n l at in
          let g = get_at links p (omega arith) in
          ih p g.0 (omega arith) g.1

  pub left_width_is : (o : Option ℕ) → IsWithin o (length links) → left_width nodes o ≡ positives (path_to links o)
  left_width_is None w = refl
  left_width_is (Some p) w = let g = get_at links p (w p refl) in widths_are (suc p) p g.0 (omega arith) g.1

  -- ---- depths

  pub depth_is : (o : Option ℕ) → IsWithin o (length links) → depth_above nodes o ≡ depth_to links o
  depth_is None w = refl
  depth_is (Some p) w =
      let g = get_at links p (w p refl) in
      let x = h p g.0 g.1 in
      ap depth_of x.1 ∙ (x.2.depth ∙ ap depth_in (sym g.1))

  -- ---- from the last member up to the group's parent

  last_of : (cs : List NormalCondition) (k : ℕ) → length cs ≡ suc k → ArePositive cs → (front : List NormalCondition) × (c : NormalCondition) × (cs ≡ front ++ c ∷ []) × ArePositive front × (c.negated ≡ false) × (length front ≡ k)
  last_of [] k e p = absurd (omega arith)
  last_of (c ∷ []) k e p = ([], c, refl, tt, p.0, omega arith)
  last_of (c ∷ d ∷ cs) zero e p = absurd (omega arith)
  last_of (c ∷ d ∷ cs) (suc k) e p =
      let r = last_of (d ∷ cs) k (omega arith) p.1 in
      (c ∷ r.0, r.1, ap (λ z. c ∷ z) r.2, (p.0, r.3), r.4, ap suc r.5)

  pub goes : (k : ℕ) (cs : List NormalCondition) (p g : ℕ) → length cs ≡ k → ArePositive cs → p < length links → g < length links → path links g ≡ path links p ++ as_parts cs → goes_up nodes k (Some p) g ≡ true
  goes zero (c ∷ cs) p g e pos lp lg down = absurd (omega arith)
  goes zero [] p g e pos lp lg down =
      let y = get_at links p lp in
      let z = get_at links g lg in
      eq-eqb p g (path_same links a (suc p) p g y.0 z.0 (omega arith) y.1 z.1 (sym (append-nil (path links p)) ∙ sym down))
  goes (suc k) cs p g e pos lp lg down =
      let z = get_at links g lg in
      let x = h g z.0 z.1 in
      let r = last_of cs k e pos in
      let s = snoc_same (path_to links z.0.parent) (path links p ++ as_parts r.0) z.0.part (One r.1)
      (sym (path_is links a g z.0 z.1) ∙ (down ∙ (ap (λ ds. path links p ++ as_parts ds) r.2 ∙ (ap (λ w. path links p ++ w) (append-parts r.0 (r.1 ∷ [])) ∙ sym (append_assoc (path links p) (as_parts r.0) (One r.1 ∷ [])))))) in
      let kind_is : is_join x.0.kind ≡ true = joins x.0 z.0 r.1 r.4 (subst (λ q. IsPartNode alphas z.0.place z.0.above q x.0) s.1 x.2.part) in
      ap (up_node (goes_up nodes k (Some p))) x.1
      ∙ ap₂ (λ b o. b && up_parent (goes_up nodes k (Some p)) o) kind_is x.2.parent
      ∙ up r.0 (λ q lq d. goes k r.0 p q r.5 r.3 lp lq d) z.0.parent (parent_within links a g z.0 z.1) s.0
    where
      joins : (x : Node) (l : Link) (c : NormalCondition) → c.negated ≡ false → IsConditionNode alphas l.place c x → is_join x.kind ≡ true
      joins x l c n k = ap is_join (k.kind ∙ ap (λ b. cond b kind.Negated kind.Join) n)

      not_empty : (q : List NormalPart) → [] ≡ path links p ++ q → ⊥
      not_empty q f =
          let y = get_at links p lp in
          let i = ap length (path_is links a p y.0 y.1) in
          absurd (omega (arith, ap length f, i, length-append (path links p) q, length-append (path_to links y.0.parent) (y.0.part ∷ [])))

      up : (front : List NormalCondition) → ((q : ℕ) → q < length links → path links q ≡ path links p ++ as_parts front → goes_up nodes k (Some p) q ≡ true) → (o : Option ℕ) → IsWithin o (length links) → path_to links o ≡ path links p ++ as_parts front → up_parent (goes_up nodes k (Some p)) o ≡ true
      up front ih None w f = absurd (not_empty (as_parts front) f)
      up front ih (Some q) w f = ih q (w q refl) f

-- ---- nodes of a draft

pub have_nodes : (links : List Link) (ends : List End) (alphas : List Alpha) (nodes : List Node) → ((n : ℕ) (x : Node) → slice_get nodes n ≡ Some x → IsNodeAt links ends alphas n x) → length nodes ≡ length links + length ends → HaveNodes links alphas nodes
have_nodes links ends alphas nodes each count n l at =
    let lt = get_lt links n l at in
    let g = get_at nodes n (omega arith) in
    elim (each n g.0 g.1) [
      | inl h ↦ (g.0, g.1, subst (λ (z : Link). IsNodeOf alphas z g.0) (same_some h.0 l (sym h.1 ∙ at)) h.2)
      | inr h ↦ (let q = h.2 in absurd (omega arith))
    ]

-- the parent of each node is a link before it
pub parent_link : (links : List Link) (ends : List End) (alphas : List Alpha) (n : ℕ) (x : Node) → AreLinks links → ((k : ℕ) (e : End) → slice_get ends k ≡ Some e → IsWithin e.parent (length links)) → IsNodeAt links ends alphas n x → (p : ℕ) → x.parent ≡ Some p → (p < n) × (p < length links)
parent_link links ends alphas n x a w at p e = elim at [
  | inl h ↦ (let lt = (a.each n h.0 h.1).parent p (sym h.2.parent ∙ e) in let low = get_lt links n h.0 h.1 in (lt, omega arith))
  | inr h ↦ (let lt = w h.0 h.1 h.3 p (sym h.4.parent ∙ e) in let q = h.2 in (omega arith, lt))
]

pub ordered : (links : List Link) (ends : List End) (alphas : List Alpha) (nodes : List Node) → AreLinks links → ((k : ℕ) (e : End) → slice_get ends k ≡ Some e → IsWithin e.parent (length links)) → ((n : ℕ) (x : Node) → slice_get nodes n ≡ Some x → IsNodeAt links ends alphas n x) → IsOrdered nodes
ordered links ends alphas nodes a w each n x p at e =
    let g = parent_link links ends alphas n x a w (each n x at) p e in
    let low = get_lt nodes n x at in
    let lt = g.0 in
    let z = get_at nodes p (omega arith) in (lt, z.0, z.1)
