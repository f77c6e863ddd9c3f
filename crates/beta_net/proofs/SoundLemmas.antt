-- The network is sound.
use Rattle.std.proofs.Common.{◌≡◌, ◌≢◌, ℕ, suc, ◌+◌, ◌<◌, ◌≤◌, List, [], ◌∷◌, ◌++◌, length, slice_get, Option, Some, None, unwrap_or, refl, ap, ap₂, subst, sym, ◌∙◌, arith, Bool, true, false, cond, not, inl, inr}
use Rattle.std.specs.Prelude.{All}
use Rattle.std.proofs.lemmas.List.Elements.{All-from_recursion, All-nil}
use Rattle.ops_base.specs.declared.conditions.Part.{Part}
use Rattle.ops_base.specs.declared.conditions.Part.TheVariants as one
use Rattle.ops_base.specs.declared.rules.Rule.{Rule}
use Rattle.ops_base.specs.Valid.{first_is_positive}
use Rattle.net_base.specs.declared.nodes.Kind.TheVariants.{Join, Negated, Group, Terminal}
use Rattle.net_base.specs.declared.nodes.JoinTest.{JoinTest}
use Rattle.net_base.specs.declared.nodes.Node.{Node}
use Rattle.net_base.specs.declared.nodes.Alpha.{Alpha}
use Rattle.net_base.specs.declared.normal.NormalCondition.{NormalCondition}
use Rattle.net_base.specs.declared.normal.NormalPart.{NormalPart}
use Rattle.net_base.specs.declared.normal.NormalPart.TheVariants as part
use Rattle.net_base.specs.Normal.{normal_of, normal_parts, join_tests}
use Rattle.net_base.specs.Shape.{positives, as_parts, normal_form, StandsIn, IsIn, IsPath}
use Rattle.net_base.specs.Sound.{is_join, is_terminal, takes_elements, left_width, depth_above, deepest, goes_up, HasChildren, HasRights, IsSoundAt, IsSound}
use Rattle.net_base.proofs.Places.{AreLow, joins_low, part_found, condition_low, IsGroupOf, group_of, AreGroupsOfTwo}
use Rattle.net_base.proofs.ValidRules.{IsValidRule}
use Rattle.beta_net.specs.declared.links.Link.{Link}
use Rattle.beta_net.specs.declared.paths.End.{End}
use Rattle.beta_net.specs.Linked.{path, path_to, IsWithin, ArePositive, StandsBelow, IsEndOf}
use Rattle.beta_net.specs.Built.{AreBuilt, kind_of, IsPartNode, IsNodeOf, IsTerminalNode, IsNodeAt, IsDraft}
use Rattle.beta_net.specs.Children.{AreFilled}
use Rattle.beta_net.specs.Rights.{giver_of, AreGiven}
use Rattle.beta_net.proofs.Lists.{same_some, get_lt, get_at}
use Rattle.beta_net.proofs.PathLemmas.{parent_within, above_within}
use Rattle.beta_net.proofs.PrefixLemmas.{group_below}
use Rattle.beta_net.proofs.RuleLemmas.{positives-append}
use Rattle.beta_net.proofs.ChildLemmas.{was_node, childless}
use Rattle.beta_net.proofs.RightLemmas.{was_given, unnamed}
use Rattle.beta_net.proofs.DownLemmas.{HaveNodes, AreTwos, have_nodes, parent_link, above_some, goes, left_width_is, depth_is}

abbrev pub AreValidRules : List Rule → Type 0
AreValidRules rules = (k : ℕ) (r : Rule) → slice_get rules k ≡ Some r → IsValidRule r

pub ends_within : (links : List Link) (ends : List End) (rules : List Rule) → AreBuilt links ends rules → (k : ℕ) (e : End) → slice_get ends k ≡ Some e → (r : Rule) × (slice_get rules k ≡ Some r) × IsEndOf links r.conditions e
ends_within links ends rules b k e at =
    let lt = get_lt ends k e at in
    let c = b.count in
    let g = get_at rules k (omega arith) in (g.0, g.1, b.ended k g.0 e g.1 at)

-- filling in the children and the rights changes nothing else
part_kept : (alphas : List Alpha) (place : ℕ) (above : Option ℕ) (p : NormalPart) (y x : Node) → x.kind ≡ y.kind → x.class ≡ y.class → x.alpha ≡ y.alpha → x.joins ≡ y.joins → IsPartNode alphas place above p y → IsPartNode alphas place above p x
part_kept alphas place above (part.One c) y x k c' a j h =
    record { kind = k ∙ h.kind; class = c' ∙ h.class; alpha = record { alpha = h.alpha.alpha; at = ap (slice_get alphas) a ∙ h.alpha.at; is = h.alpha.is }; joins = j ∙ h.joins }
part_kept alphas place above (part.Group cs) y x k c' a j h = record { kind = k ∙ h.kind; class = c' ∙ h.class; alpha = a ∙ h.alpha; joins = j ∙ h.joins }

node_kept : (links : List Link) (ends : List End) (alphas : List Alpha) (n : ℕ) (y x : Node) → x.kind ≡ y.kind → x.parent ≡ y.parent → x.class ≡ y.class → x.alpha ≡ y.alpha → x.joins ≡ y.joins → x.depth ≡ y.depth → IsNodeAt links ends alphas n y → IsNodeAt links ends alphas n x
node_kept links ends alphas n y x k p c a j e at = elim at [
  | inl h ↦ inl (h.0, h.1, record { parent = p ∙ h.2.parent; depth = e ∙ h.2.depth; part = part_kept alphas h.0.place h.0.above h.0.part y x k c a j h.2.part })
  | inr h ↦ inr (h.0, h.1, h.2, h.3, record { kind = k ∙ h.4.kind; parent = p ∙ h.4.parent; class = c ∙ h.4.class; alpha = a ∙ h.4.alpha; joins = j ∙ h.4.joins; depth = e ∙ h.4.depth })
]

pub filled_draft : (links : List Link) (ends : List End) (alphas : List Alpha) (old new : List Node) → AreFilled old new (length old) → IsDraft links ends alphas old → IsDraft links ends alphas new
filled_draft links ends alphas old new f d = record {
  each = λ n x at.
      let y = was_node old new n x f at in
      let e = y.2 in
      node_kept links ends alphas n y.0 x (ap (λ (z : Node). z.kind) e) (ap (λ (z : Node). z.parent) e) (ap (λ (z : Node). z.class) e) (ap (λ (z : Node). z.alpha) e) (ap (λ (z : Node). z.joins) e) (ap (λ (z : Node). z.depth) e) (d.each n y.0 y.1);
  count = f.count ∙ d.count;
  distinct = d.distinct;
  used = d.used;
}

pub given_draft : (links : List Link) (ends : List End) (alphas : List Alpha) (old new : List Node) → AreGiven old new (length old) → IsDraft links ends alphas old → IsDraft links ends alphas new
given_draft links ends alphas old new f d = record {
  each = λ n x at.
      let y = was_given old new n x f at in
      let e = y.2 in
      node_kept links ends alphas n y.0 x (ap (λ (z : Node). z.kind) e) (ap (λ (z : Node). z.parent) e) (ap (λ (z : Node). z.class) e) (ap (λ (z : Node). z.alpha) e) (ap (λ (z : Node). z.joins) e) (ap (λ (z : Node). z.depth) e) (d.each n y.0 y.1);
  count = f.count ∙ d.count;
  distinct = d.distinct;
  used = d.used;
}

-- ---- the first part of a rule

-- it is a positive condition
abbrev IsFirst : NormalPart → Type 0
IsFirst (part.One c) = c.negated ≡ false
IsFirst (part.Group cs) = ⊥

not_false : (b : Bool) → not b ≡ true → b ≡ false
not_false true e = cc
not_false false e = refl

first_of : (ps : List Part) (p : NormalPart) (rest : List NormalPart) → first_is_positive ps ≡ true → normal_parts 0 ps [] ≡ p ∷ rest → IsFirst p
first_of [] p rest f e = cc
first_of (one.Group cs ∷ ps) p rest f e = cc
first_of (one.One d ∷ ps) p rest f e =
    let same : part.One (normal_of 0 d []) ≡ p = cc in subst IsFirst same (not_false d.negated f)

some_first : (ps : List Part) → first_is_positive ps ≡ true → normal_parts 0 ps [] ≢ []
some_first [] f e = cc
some_first (one.Group cs ∷ ps) f e = cc
some_first (one.One d ∷ ps) f e = cc

both_empty : {X : Type 0} (xs ys : List X) → [] ≡ xs ++ ys → ([] ≡ xs) × ([] ≡ ys)
both_empty [] ys e = (refl, e)
both_empty (x ∷ xs) ys e = cc

-- what stands at the top of a path is a positive condition
top_is : (rules : List Rule) → AreValidRules rules → (p : NormalPart) → IsPath rules [] p → IsFirst p
top_is rules valid p h = by h.3
  where
    positive : first_is_positive h.1.conditions ≡ true
    positive = (valid h.0 h.1 h.2).positive

    by : IsIn (normal_form h.1) [] p → IsFirst p
    by (inl i) = first_of h.1.conditions p i.0 positive i.1
    by (inr i) =
        let e = both_empty i.outer (as_parts i.front) i.before_is in
        absurd (first_of h.1.conditions (part.Group (i.front ++ i.member ∷ i.behind)) i.group.0 positive (i.group.1 ∙ ap (λ x. x ++ part.Group (i.front ++ i.member ∷ i.behind) ∷ i.group.0) (sym e.0)))

-- ---- places of a path

front_positive : (front behind : List NormalCondition) → ArePositive (front ++ behind) → positives (as_parts front) ≡ length front
front_positive [] behind h = refl
front_positive (c ∷ front) behind h = ap (λ b. cond b (positives (as_parts front)) (suc (positives (as_parts front)))) h.0 ∙ ap suc (front_positive front behind h.1)

group_in : (rules : List Rule) → AreValidRules rules → (k : ℕ) (r : Rule) → slice_get rules k ≡ Some r → (q : List NormalPart) (cs : List NormalCondition) → StandsIn (normal_form r) q (part.Group cs) → IsGroupOf (0 + positives q) cs (AreGroupsOfTwo r.conditions)
group_in rules valid k r at q cs i = group_of (0 + positives q) cs (AreGroupsOfTwo r.conditions) (part_found 0 r.conditions [] q (part.Group cs) i.0 tt i.1)

path_low : (rules : List Rule) → AreValidRules rules → (q : List NormalPart) (c : NormalCondition) → IsPath rules q (part.One c) → AreLow (positives q) c.tests
path_low rules valid q c h = by h.3
  where
    by : IsIn (normal_form h.1) q (part.One c) → AreLow (positives q) c.tests
    by (inl i) =
        subst (λ m. AreLow m c.tests) (let z : 0 + positives q ≡ positives q = omega arith in z)
        (condition_low (0 + positives q) c (AreGroupsOfTwo h.1.conditions) (part_found 0 h.1.conditions [] q (part.One c) i.0 tt i.1))
    by (inr i) =
        let g = group_in rules valid h.0 h.1 h.2 i.outer (i.front ++ i.member ∷ i.behind) i.group in
        let low = g.low i.front i.member i.behind refl in
        let same : i.member ≡ c = (let e : part.One c ≡ part.One i.member = i.part_is in cc) in
        let f = front_positive i.front (i.member ∷ i.behind) g.positive in
        let count : 0 + positives i.outer + length i.front ≡ positives q = omega (arith, f, ap positives i.before_is, positives-append i.outer (as_parts i.front)) in
        subst (λ m. AreLow m c.tests) count (subst (λ (z : NormalCondition). AreLow (0 + positives i.outer + length i.front) z.tests) same low)

path_two : (rules : List Rule) → AreValidRules rules → (q : List NormalPart) (cs : List NormalCondition) → IsPath rules q (part.Group cs) → 2 ≤ length cs
path_two rules valid q cs h = by h.3
  where
    by : IsIn (normal_form h.1) q (part.Group cs) → 2 ≤ length cs
    by (inl i) = (group_in rules valid h.0 h.1 h.2 q cs i).wide (valid h.0 h.1 h.2).groups
    by (inr i) = let e : part.Group cs ≡ part.One i.member = i.part_is in cc

-- ---- kinds

condition_kind : (c : NormalCondition) → (is_terminal (kind_of c) ≡ false) × (takes_elements (kind_of c) ≡ true)
condition_kind c = by_sign c.negated
  where
    by_sign : (b : Bool) → (is_terminal (cond b Negated Join) ≡ false) × (takes_elements (cond b Negated Join) ≡ true)
    by_sign true = (refl, refl)
    by_sign false = (refl, refl)

true_false : (b : Bool) → b ≡ true → b ≡ false → ⊥
true_false b e f = cc

not_group : (c : NormalCondition) (giver width members : ℕ) → kind_of c ≡ Group giver width members → ⊥
not_group c giver width members e = true_false true refl (sym (condition_kind c).1 ∙ ap takes_elements e)

part_kind : (alphas : List Alpha) (place : ℕ) (above : Option ℕ) (p : NormalPart) (x : Node) → IsPartNode alphas place above p x → is_terminal x.kind ≡ false
part_kind alphas place above (part.One c) x h = ap is_terminal h.kind ∙ (condition_kind c).0
part_kind alphas place above (part.Group cs) x h = ap is_terminal h.kind

pub link_kind : (alphas : List Alpha) (l : Link) (x : Node) (k : ℕ) → IsNodeOf alphas l x → x.kind ≡ Terminal k → ⊥
link_kind alphas l x k h e = true_false true refl (sym (ap is_terminal e) ∙ part_kind alphas l.place l.above l.part x h.part)

deepest_condition : (c : NormalCondition) (o : Option ℕ) → deepest (kind_of c) o ≡ o
deepest_condition c o = by_sign c.negated
  where
    by_sign : (b : Bool) → deepest (cond b Negated Join) o ≡ o
    by_sign true = refl
    by_sign false = refl

giver_condition : (c : NormalCondition) → giver_of (kind_of c) ≡ None
giver_condition c = by_sign c.negated
  where
    by_sign : (b : Bool) → giver_of (cond b Negated Join) ≡ None
    by_sign true = refl
    by_sign false = refl

group_same : (g w m g' w' m' : ℕ) → Group g w m ≡ Group g' w' m' → (g ≡ g') × (w ≡ w') × (m ≡ m')
group_same g w m g' w' m' e = (cc, cc, cc)

-- ---- each node

module _ (links : List Link) (ends : List End) (alphas : List Alpha) (nodes : List Node) (rules : List Rule) (valid : AreValidRules rules) (b : AreBuilt links ends rules) (d : IsDraft links ends alphas nodes) where
  pub have : HaveNodes links alphas nodes
  have = have_nodes links ends alphas nodes d.each d.count

  pub twos : AreTwos links
  twos n l cs at e = path_two rules valid (path_to links l.parent) cs (subst (IsPath rules (path_to links l.parent)) e (b.paths n l at))

  within : (k : ℕ) (e : End) → slice_get ends k ≡ Some e → IsWithin e.parent (length links)
  within k e at = (ends_within links ends rules b k e at).2.within

  places : (n : ℕ) (l : Link) (c : NormalCondition) (x : Node) → slice_get links n ≡ Some l → l.part ≡ part.One c → x.parent ≡ l.parent → x.joins ≡ join_tests l.place c.tests → All (λ (j : JoinTest). j.place < left_width nodes x.parent) x.joins
  places n l c x at e up joins =
      let low = path_low rules valid (path_to links l.parent) c (subst (IsPath rules (path_to links l.parent)) e (b.paths n l at)) in
      let place = (b.linked.each n l at).place in
      let wide = ap (left_width nodes) up ∙ (left_width_is links alphas nodes b.linked have l.parent (parent_within links b.linked n l at) ∙ sym place) in
      let all = joins_low l.place c.tests (subst (λ m. AreLow m c.tests) (sym place) low) in
      subst (λ js. All (λ (j : JoinTest). j.place < left_width nodes x.parent) js) (sym joins)
      (subst (λ m. All (λ (j : JoinTest). j.place < m) (join_tests l.place c.tests)) (sym wide) (All-from_recursion (λ (j : JoinTest). j.place < l.place) (join_tests l.place c.tests) all))

  depth_at : (n : ℕ) (l : Link) (x : Node) (o : Option ℕ) → slice_get links n ≡ Some l → x.depth ≡ l.depth → o ≡ l.above → x.depth ≡ depth_above nodes o + 1
  depth_at n l x o at e same =
      e ∙ ((b.linked.each n l at).depth ∙ ap (λ m. m + 1) (sym (ap (depth_above nodes) same ∙ depth_is links alphas nodes b.linked have l.above (above_within links b.linked n l at))))

  top : (n : ℕ) (l : Link) (p : NormalPart) → slice_get links n ≡ Some l → l.part ≡ p → l.parent ≡ None → IsFirst p
  top n l p at e none = top_is rules valid p (subst (IsPath rules []) e (subst (λ o. IsPath rules (path_to links o) l.part) none (b.paths n l at)))

  parent_some : (n : ℕ) (l : Link) (cs : List NormalCondition) → slice_get links n ≡ Some l → l.part ≡ part.Group cs → (o : Option ℕ) → l.parent ≡ o → (p : ℕ) × (o ≡ Some p)
  parent_some n l cs at e (Some p) f = (p, refl)
  parent_some n l cs at e None f = absurd (top n l (part.Group cs) at e f)

  part_sound : (n : ℕ) (l : Link) (x : Node) → slice_get links n ≡ Some l → IsNodeOf alphas l x → (p : NormalPart) → l.part ≡ p → IsPartNode alphas l.place l.above p x → IsSoundAt alphas nodes n x
  part_sound n l x at h (part.One c) e k = record {
    parent = λ p q. (b.linked.each n l at).parent p (sym h.parent ∙ q);
    root = λ q. ap is_join k.kind ∙ ap (λ s. is_join (cond s Negated Join)) (top n l (part.One c) at e (sym h.parent ∙ q));
    depth = depth_at n l x (deepest x.kind x.parent) at h.depth
        (ap (λ z. deepest z x.parent) k.kind ∙ (deepest_condition c x.parent ∙ (h.parent ∙ sym (subst (StandsBelow links l.parent l.above) e (b.linked.each n l at).below))));
    alpha = λ t. get_lt alphas x.alpha k.alpha.alpha k.alpha.at;
    class = λ t a here. (let same = same_some a k.alpha.alpha (sym here ∙ k.alpha.at) in ap (λ (z : Alpha). z.class) same ∙ (k.alpha.is.0 ∙ sym k.class));
    places = places n l c x at e h.parent k.joins;
    bare = λ t. absurd (true_false (takes_elements x.kind) (ap takes_elements k.kind ∙ (condition_kind c).1) t);
    terminal = λ t. absurd (true_false (is_terminal x.kind) t (ap is_terminal k.kind ∙ (condition_kind c).0));
    group = λ giver width members q. absurd (not_group c giver width members (sym k.kind ∙ q));
  }
  part_sound n l x at h (part.Group cs) e k =
      let below = group_below links b.linked n l cs at e in
      let two = twos n l cs at e in
      let g = above_some links l.above (path_to links l.parent) cs two below.1 in
      let kind : x.kind ≡ Group g.0 l.place (length cs) = k.kind ∙ ap (λ o. Group (unwrap_or o 0) l.place (length cs)) g.1 in
      let p = parent_some n l cs at e l.parent refl in
      let down : path links g.0 ≡ path links p.0 ++ as_parts cs = ap (path_to links) (sym g.1) ∙ (below.1 ∙ ap (λ o. path_to links o ++ as_parts cs) p.1) in
      let up = goes links alphas nodes b.linked have (length cs) cs p.0 g.0 refl below.0 (parent_within links b.linked n l at p.0 p.1) (above_within links b.linked n l at g.0 g.1) down in
      let wide = ap (left_width nodes) h.parent ∙ (left_width_is links alphas nodes b.linked have l.parent (parent_within links b.linked n l at) ∙ sym (b.linked.each n l at).place) in
      record {
        parent = λ p q. (b.linked.each n l at).parent p (sym h.parent ∙ q);
        root = λ q. absurd (top n l (part.Group cs) at e (sym h.parent ∙ q));
        depth = depth_at n l x (deepest x.kind x.parent) at h.depth (ap (λ z. deepest z x.parent) kind ∙ sym g.1);
        alpha = λ t. absurd (true_false (takes_elements x.kind) t (ap takes_elements kind));
        class = λ t. absurd (true_false (takes_elements x.kind) t (ap takes_elements kind));
        places = subst (λ js. All (λ (j : JoinTest). j.place < left_width nodes x.parent) js) (sym k.joins) (All-nil (λ (j : JoinTest). j.place < left_width nodes x.parent));
        bare = λ t. record { joins = ap length k.joins; class = k.class; alpha = k.alpha };
        terminal = λ t. absurd (true_false (is_terminal x.kind) t (ap is_terminal kind));
        group = λ giver width members q.
            let s = group_same g.0 l.place (length cs) giver width members (sym kind ∙ q) in
            record {
              before = subst (λ m. m < n) s.0 ((b.linked.each n l at).above g.0 g.1);
              wide = sym s.1 ∙ sym wide;
              two = subst (λ m. 2 ≤ m) s.2 two;
              down = ap₂ (λ m o. goes_up nodes m x.parent o) (sym s.2) (sym s.0) ∙ (ap (λ o. goes_up nodes (length cs) o g.0) (h.parent ∙ p.1) ∙ up);
            };
      }

  -- the giver of each group is a link before it
  pub giver_link : (n : ℕ) (x : Node) → slice_get nodes n ≡ Some x → (g : ℕ) → giver_of x.kind ≡ Some g → (g < n) × (g < length links)
  giver_link n x at g e = elim (d.each n x at) [
    | inl h ↦ by_part h.0 h.1 h.0.part refl h.2.part
    | inr h ↦ (let bad : None ≡ Some g = sym (ap giver_of h.4.kind) ∙ e in cc)
  ]
    where
      by_part : (l : Link) → slice_get links n ≡ Some l → (p : NormalPart) → l.part ≡ p → IsPartNode alphas l.place l.above p x → (g < n) × (g < length links)
      by_part l here (part.One c) f k = let bad : None ≡ Some g = sym (ap giver_of k.kind ∙ giver_condition c) ∙ e in cc
      by_part l here (part.Group cs) f k =
          let below = group_below links b.linked n l cs here f in
          let z = above_some links l.above (path_to links l.parent) cs (twos n l cs here f) below.1 in
          let same : Some z.0 ≡ Some g = sym (ap giver_of k.kind ∙ ap (λ o. Some (unwrap_or o 0)) z.1) ∙ e in
          let is = same_some z.0 g same in
          let low = get_lt links n l here in
          let lt = (b.linked.each n l here).above z.0 z.1 in (omega arith, omega arith)

  module _ (children : HasChildren nodes) (rights : HasRights nodes) where
    bare_terminal : (n k : ℕ) (x : Node) → slice_get nodes n ≡ Some x → n ≡ length links + k → (length x.children ≡ 0) × (length x.rights ≡ 0)
    bare_terminal n k x at is = (ap length (children n x at ∙ childless nodes n no_child (length nodes)), ap length (rights n x at ∙ unnamed nodes n no_group (length nodes)))
      where
        no_child : (m : ℕ) (y : Node) → slice_get nodes m ≡ Some y → y.parent ≡ Some n → ⊥
        no_child m y here q = let g = parent_link links ends alphas m y b.linked within (d.each m y here) n q in let lt = g.1 in absurd (omega arith)

        no_group : (m : ℕ) (y : Node) → slice_get nodes m ≡ Some y → giver_of y.kind ≡ Some n → ⊥
        no_group m y here q = let g = giver_link m y here n q in let lt = g.1 in absurd (omega arith)

    terminal_sound : (n k : ℕ) (e : End) (x : Node) → slice_get nodes n ≡ Some x → n ≡ length links + k → slice_get ends k ≡ Some e → IsTerminalNode k e x → IsSoundAt alphas nodes n x
    terminal_sound n k e x at is end h = record {
      parent = λ p q. (let lt = within k e end p (sym h.parent ∙ q) in omega arith);
      root = λ q.
          let r = ends_within links ends rules b k e end in
          absurd (some_first r.0.conditions (valid k r.0 r.1).positive (sym r.2.down ∙ ap (path_to links) (sym h.parent ∙ q)));
      depth =
          h.depth ∙ ((ends_within links ends rules b k e end).2.depth
          ∙ ap (λ m. m + 1) (sym (ap₂ (λ z o. depth_above nodes (deepest z o)) h.kind h.parent ∙ depth_is links alphas nodes b.linked have e.parent (within k e end))));
      alpha = λ t. absurd (true_false (takes_elements x.kind) t (ap takes_elements h.kind));
      class = λ t. absurd (true_false (takes_elements x.kind) t (ap takes_elements h.kind));
      places = subst (λ js. All (λ (j : JoinTest). j.place < left_width nodes x.parent) js) (sym h.joins) (All-nil (λ (j : JoinTest). j.place < left_width nodes x.parent));
      bare = λ t. record { joins = ap length h.joins; class = h.class; alpha = h.alpha };
      terminal = λ t. bare_terminal n k x at is;
      group = λ giver width members q. (let bad : Terminal k ≡ Group giver width members = sym h.kind ∙ q in cc);
    }

    -- the number of a terminal is given by its rule
    pub terminal_number : (n k : ℕ) (x : Node) → slice_get nodes n ≡ Some x → x.kind ≡ Terminal k → (e : End) × (slice_get ends k ≡ Some e) × (n ≡ length links + k) × IsTerminalNode k e x
    terminal_number n k x at t = elim (d.each n x at) [
      | inl h ↦ absurd (link_kind alphas h.0 x k h.2 t)
      | inr h ↦ (let same = terminal_same h.0 k (sym h.4.kind ∙ t) in (h.1, ap (slice_get ends) (sym same) ∙ h.3, h.2 ∙ ap (λ j. length links + j) same, subst (λ j. IsTerminalNode j h.1 x) same h.4))
    ]
      where
        terminal_same : (i j : ℕ) → Terminal i ≡ Terminal j → i ≡ j
        terminal_same i j e = cc

    pub one_each : (n m k : ℕ) (x y : Node) → slice_get nodes n ≡ Some x → slice_get nodes m ≡ Some y → x.kind ≡ Terminal k → y.kind ≡ Terminal k → n ≡ m
    one_each n m k x y at to t u = (terminal_number n k x at t).2 ∙ sym (terminal_number m k y to u).2

    pub sound : IsSound alphas nodes
    sound = record {
      each = λ n x at. elim (d.each n x at) [
        | inl h ↦ part_sound n h.0 x h.1 h.2 h.0.part refl h.2.part
        | inr h ↦ terminal_sound n h.0 h.1 x at h.2 h.3 h.4
      ];
      children = children;
      rights = rights;
      one = one_each;
    }
