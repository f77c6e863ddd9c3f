-- A network with another one appended to it is sound, and is that of the productions of both.
use Rattle.std.proofs.Common.{◌≡◌, ℕ, zero, suc, ◌+◌, ◌<◌, ◌≤◌, cond, List, ◌++◌, length, map, slice_get, unwrap_or, Option, Some, None, option_map, refl, sym, ap, ap₂, subst, ◌∙◌, arith, length-append, ◌⊎◌, inl, inr, ◌↔◌}
use Rattle.std.specs.Prelude.{All}
use Rattle.std.proofs.lemmas.List.{length-map}
use Rattle.std.proofs.lemmas.Option.{slice_get_within}
use Rattle.ops_base.specs.declared.elements.Element.{Element}
use Rattle.ops_base.specs.declared.rules.Rule.{Rule}
use Rattle.ops_base.specs.Instances.{IsInst}
use Rattle.net_base.specs.declared.nodes.Kind.{Kind}
use Rattle.net_base.specs.declared.nodes.Kind.TheVariants.{Join, Negated, Group, Terminal}
use Rattle.net_base.specs.declared.nodes.JoinTest.{JoinTest}
use Rattle.net_base.specs.declared.nodes.Node.{Node}
use Rattle.net_base.specs.declared.nodes.Alpha.{Alpha}
use Rattle.net_base.specs.declared.net.Net.{Net}
use Rattle.net_base.specs.Network.{IsTerminalOf, NetOf}
use Rattle.net_base.specs.Sound.{children_below, rights_below, depth_above, is_terminal, goes_up, deepest, IsSoundAt, IsSound}
use Rattle.net_base.specs.Tokens.{Out, giver_of_parent, giver_of_kind, tokens}
use Rattle.net_base.proofs.Terminals.{tokens_least}
use Rattle.beta_net.proofs.Lists.{same_some, get_at}
use Rattle.grow_net.specs.Behind.{HasRulesBelow, StandApart, kind_behind, alpha_behind, node_behind, ArePlaces}
use Rattle.grow_net.proofs.Joined.{get_same, get_behind, get_cases}
use Rattle.grow_net.proofs.Before.{AreOrdered, are_ordered, old_at, depth_old, left_width_old, goes_up_old, tokens_old}
use Rattle.grow_net.proofs.Behind.{new_at, children_old, children_new, rights_old, rights_new, joins_same, depth_new, left_width_new, goes_up_new}
use Rattle.grow_net.proofs.Standing.{takes_same, alpha_new, tokens_new}

-- the kind of an appended node, by what it was
terminal_same : (d rules : ℕ) (k : Kind) → is_terminal (kind_behind d rules k) ≡ is_terminal k
terminal_same d rules Join = refl
terminal_same d rules Negated = refl
terminal_same d rules (Group g w m) = refl
terminal_same d rules (Terminal r) = refl

deepest_behind : (d rules : ℕ) (k : Kind) (o : Option ℕ) → deepest (kind_behind d rules k) (option_map (λ p. d + p) o) ≡ option_map (λ p. d + p) (deepest k o)
deepest_behind d rules Join o = refl
deepest_behind d rules Negated o = refl
deepest_behind d rules (Group g w m) o = refl
deepest_behind d rules (Terminal r) o = refl

pub rule_behind : (d rules j : ℕ) (k : Kind) → kind_behind d rules k ≡ Terminal j → (r : ℕ) × (k ≡ Terminal r) × (j ≡ rules + r)
rule_behind d rules j Join e = absurd (cc)
rule_behind d rules j Negated e = absurd (cc)
rule_behind d rules j (Group g w m) e = absurd (cc)
rule_behind d rules j (Terminal r) e = (r, refl, cc)

group_behind : (d rules : ℕ) (k : Kind) (g w m : ℕ) → kind_behind d rules k ≡ Group g w m → (h : ℕ) × (k ≡ Group h w m) × (g ≡ d + h)
group_behind d rules Join g w m e = absurd (cc)
group_behind d rules Negated g w m e = absurd (cc)
group_behind d rules (Group h v l) g w m e =
    let a : v ≡ w = cc in
    let b : l ≡ m = cc in
    let c : d + h ≡ g = cc in (h, ap₂ (λ x y. Group h x y) a b, sym c)
group_behind d rules (Terminal r) g w m e = absurd (cc)

parent_behind : (d : ℕ) (o : Option ℕ) (p : ℕ) → option_map (λ q. d + q) o ≡ Some p → (q : ℕ) × (o ≡ Some q) × (p ≡ d + q)
parent_behind d None p e = absurd (cc)
parent_behind d (Some q) p e = let c : d + q ≡ p = cc in (q, refl, sym c)

root_behind : (d : ℕ) (o : Option ℕ) → option_map (λ q. d + q) o ≡ None → o ≡ None
root_behind d None e = refl
root_behind d (Some q) e = absurd (cc)

deepest_low : (alphas : List Alpha) (nodes : List Node) (n : ℕ) (x : Node) → IsSoundAt alphas nodes n x → (p : ℕ) → deepest x.kind x.parent ≡ Some p → p < n
deepest_low alphas nodes n x s p e = by x.kind refl e
  where
    by : (k : Kind) → x.kind ≡ k → deepest k x.parent ≡ Some p → p < n
    by Join q f = s.parent p f
    by Negated q f = s.parent p f
    by (Terminal r) q f = s.parent p f
    by (Group g w m) q f = let same : g ≡ p = cc in subst (λ z. z < n) same (s.group g w m q).before

module _ (A more B : List Alpha) (N M : List Node) (rules : ℕ) (places : List ℕ) (a : IsSound A N) (b : IsSound B M) (are : ArePlaces (A ++ more) B places) (low : HasRulesBelow N rules) where
  abbrev C : List Node
  C = map (node_behind (length N) rules places) M

  abbrev all : List Node
  all = N ++ map (node_behind (length N) rules places) M

  ordA : AreOrdered N
  ordA = are_ordered A N a

  ordB : AreOrdered M
  ordB = are_ordered B M b

  old_sound : (n : ℕ) (x : Node) → slice_get N n ≡ Some x → IsSoundAt (A ++ more) all n x
  old_sound n x at =
      let s = a.each n x at in
      let lt = slice_get_within N n x at in
      let up : (p : ℕ) → x.parent ≡ Some p → p < length N = λ p e. (let q = s.parent p e in omega arith) in
      record {
        parent = s.parent;
        root = s.root;
        depth = s.depth ∙ ap (λ z. z + 1) (sym (depth_old N C (deepest x.kind x.parent) (λ p e. let q = deepest_low A N n x s p e in omega arith)));
        alpha = λ takes. (let l = s.alpha takes in let z = length-append A more in omega (arith, l, z));
        class = λ takes d h. s.class takes d (sym (get_same A more x.alpha (s.alpha takes)) ∙ h);
        places = subst (λ w. All (λ (j : JoinTest). j.place < w) x.joins) (sym (left_width_old N C ordA x.parent up)) s.places;
        bare = s.bare;
        terminal = s.terminal;
        group = λ g w m e. let h = s.group g w m e in record {
          before = h.before;
          wide = h.wide ∙ sym (left_width_old N C ordA x.parent up);
          two = h.two;
          down = goes_up_old N C ordA m x.parent g (let q = h.before in omega arith) ∙ h.down;
        };
      }

  new_sound : (n : ℕ) (x : Node) → slice_get M n ≡ Some x → IsSoundAt (A ++ more) all (length N + n) (node_behind (length N) rules places x)
  new_sound n x at =
      let s = b.each n x at in record {
        parent = λ p e. (let q = parent_behind (length N) x.parent p e in let l = s.parent q.0 q.1 in let z = q.2 in omega arith);
        root = λ e. joins_same N M rules places x.kind ∙ s.root (root_behind (length N) x.parent e);
        depth = s.depth ∙ ap (λ z. z + 1) (sym (ap (depth_above all) (deepest_behind (length N) rules x.kind x.parent) ∙ depth_new N M rules places (deepest x.kind x.parent)));
        alpha = λ takes. (let t = sym (takes_same (length N) rules x.kind) ∙ takes in
            let l = s.alpha t in
            let g = get_at B x.alpha l in
            slice_get_within (A ++ more) (alpha_behind places x) g.0 (alpha_new (A ++ more) B places are x t l ∙ g.1));
        class = λ takes d h. (let t = sym (takes_same (length N) rules x.kind) ∙ takes in s.class t d (sym (alpha_new (A ++ more) B places are x t (s.alpha t)) ∙ h));
        places = subst (λ w. All (λ (j : JoinTest). j.place < w) x.joins) (sym (left_width_new N M rules places ordB x.parent)) s.places;
        bare = λ takes. (let t = sym (takes_same (length N) rules x.kind) ∙ takes in
            let h = s.bare t in record { joins = h.joins; class = h.class; alpha = ap (λ z. cond z (unwrap_or (slice_get places x.alpha) 0) 0) t });
        terminal = λ ends. (let h = s.terminal (sym (terminal_same (length N) rules x.kind) ∙ ends) in
            (length-map x.children (λ c. length N + c) ∙ h.0, length-map x.rights (λ c. length N + c) ∙ h.1));
        group = λ g w m e. (let q = group_behind (length N) rules x.kind g w m e in
            let h = s.group q.0 w m q.1 in
            let z = q.2 in record {
              before = (let l = h.before in omega arith);
              wide = h.wide ∙ sym (left_width_new N M rules places ordB x.parent);
              two = h.two;
              down = ap (goes_up all m (option_map (λ p. length N + p) x.parent)) z ∙ (goes_up_new N M rules places ordB m x.parent q.0 ∙ h.down);
            });
      }

  -- the node at a place: an earlier one, or an appended one
  pub record IsNew (n : ℕ) (y : Node) : Type 0 where
    pub place : ℕ
    pub node : Node
    pub was : slice_get M place ≡ Some node
    pub at : n ≡ length N + place
    pub is : y ≡ node_behind (length N) rules places node

  mapped : (o : Option Node) (y : Node) → option_map (node_behind (length N) rules places) o ≡ Some y → (x : Node) × (o ≡ Some x) × (y ≡ node_behind (length N) rules places x)
  mapped None y e = absurd (cc)
  mapped (Some x) y e = (x, refl, sym (same_some (node_behind (length N) rules places x) y e))

  stands : (n : ℕ) (y : Node) → slice_get all n ≡ Some y → (slice_get N n ≡ Some y) ⊎ IsNew n y
  stands n y at = elim (get_cases N C n y at) [
    | inl h ↦ inl h
    | inr h ↦ (let m = mapped (slice_get M h.0) y (sym (new_at N M rules places h.0) ∙ (get_behind N C h.0 ∙ h.2)) in
        inr (record { place = h.0; node = m.0; was = m.1; at = h.1; is = m.2 }))
  ]

  each : (n : ℕ) (y : Node) → slice_get all n ≡ Some y → IsSoundAt (A ++ more) all n y
  each n y at = elim (stands n y at) [
    | inl h ↦ old_sound n y h
    | inr h ↦ subst (λ k. IsSoundAt (A ++ more) all k y) (sym h.at) (subst (IsSoundAt (A ++ more) all (length N + h.place)) (sym h.is) (new_sound h.place h.node h.was))
  ]

  children : (n : ℕ) (y : Node) → slice_get all n ≡ Some y → y.children ≡ children_below all (length all) n
  children n y at = elim (stands n y at) [
    | inl h ↦ a.children n y h ∙ sym (children_old N M rules places ordA n (slice_get_within N n y h))
    | inr h ↦
        ap (λ (z : Node). z.children) h.is
        ∙ (ap (map (λ c. length N + c)) (b.children h.place h.node h.was)
        ∙ (sym (children_new N M rules places ordA h.place) ∙ ap (children_below all (length all)) (sym h.at)))
  ]

  rights : (n : ℕ) (y : Node) → slice_get all n ≡ Some y → y.rights ≡ rights_below all (length all) n
  rights n y at = elim (stands n y at) [
    | inl h ↦ a.rights n y h ∙ sym (rights_old N M rules places ordA n (slice_get_within N n y h))
    | inr h ↦
        ap (λ (z : Node). z.rights) h.is
        ∙ (ap (map (λ c. length N + c)) (b.rights h.place h.node h.was)
        ∙ (sym (rights_new N M rules places ordA h.place) ∙ ap (rights_below all (length all)) (sym h.at)))
  ]

  -- the rule of an appended node
  new_rule : (n j : ℕ) (y : Node) (h : IsNew n y) → y.kind ≡ Terminal j → (r : ℕ) × (h.node.kind ≡ Terminal r) × (j ≡ rules + r)
  new_rule n j y h e = rule_behind (length N) rules j h.node.kind (sym (ap (λ (z : Node). z.kind) h.is) ∙ e)

  one : (n m j : ℕ) (x y : Node) → slice_get all n ≡ Some x → slice_get all m ≡ Some y → x.kind ≡ Terminal j → y.kind ≡ Terminal j → n ≡ m
  one n m j x y at at' e f = elim (stands n x at) [
    | inl g ↦ elim (stands m y at') [
      | inl h ↦ a.one n m j x y g h e f
      | inr h ↦ (let l = low n j x g e in let r = new_rule m j y h f in let z = r.2 in absurd (omega arith))
    ]
    | inr g ↦ elim (stands m y at') [
      | inl h ↦ (let l = low m j y h f in let r = new_rule n j x g e in let z = r.2 in absurd (omega arith))
      | inr h ↦
          let r = new_rule n j x g e in
          let s = new_rule m j y h f in
          let u = r.2 in
          let v = s.2 in
          let w : s.0 ≡ r.0 = omega arith in
          let q = b.one g.place h.place r.0 g.node h.node g.was h.was r.1 (s.1 ∙ ap Terminal w) in
          let c = g.at in
          let d = h.at in omega arith
    ]
  ]

  pub grown_sound : IsSound (A ++ more) (N ++ map (node_behind (length N) rules places) M)
  grown_sound = record { each = each; children = children; rights = rights; one = one }

  -- the giver of an appended node is an appended node
  pub grown_apart : StandApart N (map (node_behind (length N) rules places) M)
  grown_apart = record {
    left = λ n p y at g. (let x = found n y at in left_of x.0.parent p (subst (λ (z : Node). giver_of_parent z.parent ≡ Out p) x.1 g));
    right = λ n p y at g. (let x = found n y at in right_of x.0.kind p (subst (λ (z : Node). giver_of_kind z.kind ≡ Out p) x.1 g));
  }
    where
      found : (n : ℕ) (y : Node) → slice_get (map (node_behind (length N) rules places) M) n ≡ Some y → (x : Node) × (y ≡ node_behind (length N) rules places x)
      found n y at = let m = mapped (slice_get M n) y (sym (new_at N M rules places n) ∙ (get_behind N C n ∙ at)) in (m.0, m.2)

      left_of : (o : Option ℕ) (p : ℕ) → giver_of_parent (option_map (λ q. length N + q) o) ≡ Out p → length N ≤ p
      left_of None p e = absurd (cc)
      left_of (Some q) p e = let c : length N + q ≡ p = cc in omega (arith, c)

      right_of : (k : Kind) (p : ℕ) → giver_of_kind (kind_behind (length N) rules k) ≡ Out p → length N ≤ p
      right_of Join p e = absurd (cc)
      right_of Negated p e = absurd (cc)
      right_of (Group g w m) p e = let c : length N + g ≡ p = cc in omega (arith, c)
      right_of (Terminal r) p e = absurd (cc)

  -- ---- of what productions it is

  module _ (old small grown : Net) (rs ss : List Rule) (count : length rs ≡ rules) (old_alphas : old.alphas ≡ A) (old_nodes : old.nodes ≡ N) (small_alphas : small.alphas ≡ B) (small_nodes : small.nodes ≡ M)
      (alphas_are : grown.alphas ≡ A ++ more) (nodes_are : grown.nodes ≡ N ++ map (node_behind (length N) rules places) M) (of_old : NetOf old rs) (of_small : NetOf small ss) where
    through : {X Y Z : Type 0} → (X ↔ Y) → (Y ↔ Z) → X ↔ Z
    through f g = (λ x. g.0 (f.0 x), λ z. f.1 (g.1 z))

    of_equal : (u v : ℕ) → u ≡ v → (u ≡ 1) ↔ (v ≡ 1)
    of_equal u v e = (λ h. sym e ∙ h, λ h. e ∙ h)

    inst_front : (wm : List Element) (k : ℕ) (tags : List ℕ) → k < length rs → IsInst rs wm (record { rule = k; tags = tags }) ↔ IsInst (rs ++ ss) wm (record { rule = k; tags = tags })
    inst_front wm k tags lt = (
      λ i. (i.0, get_same rs ss k lt ∙ i.1, i.2),
      λ i. (i.0, sym (get_same rs ss k lt) ∙ i.1, i.2),
    )

    inst_behind : (wm : List Element) (k : ℕ) (tags : List ℕ) → IsInst ss wm (record { rule = k; tags = tags }) ↔ IsInst (rs ++ ss) wm (record { rule = length rs + k; tags = tags })
    inst_behind wm k tags = (
      λ i. (i.0, get_behind rs ss k ∙ i.1, i.2),
      λ i. (i.0, sym (get_behind rs ss k) ∙ i.1, i.2),
    )

    tokens_front : (wm : List Element) (n : ℕ) (t : List ℕ) → n < length N → tokens wm grown.alphas grown.nodes n t ≡ tokens wm old.alphas old.nodes n t
    tokens_front wm n t lt =
        ap₂ (λ xs ns. tokens wm xs ns n t) alphas_are nodes_are ∙ (tokens_old A more N C a wm n t lt ∙ sym (ap₂ (λ xs ns. tokens wm xs ns n t) old_alphas old_nodes))

    tokens_behind : (wm : List Element) (n : ℕ) (t : List ℕ) → tokens wm grown.alphas grown.nodes (length N + n) t ≡ tokens wm small.alphas small.nodes n t
    tokens_behind wm n t =
        ap₂ (λ xs ns. tokens wm xs ns (length N + n) t) alphas_are nodes_are
        ∙ (tokens_new (A ++ more) B N M rules places b are wm n t ∙ sym (ap₂ (λ xs ns. tokens wm xs ns n t) small_alphas small_nodes))

    front : (k n : ℕ) → k < length rs → IsTerminalOf old rs k n → IsTerminalOf grown (rs ++ ss) k n
    front k n lt h =
        let at : slice_get N n ≡ Some h.node = sym (ap (λ ns. slice_get ns n) old_nodes) ∙ h.at in
        let l = slice_get_within N n h.node at in
        record {
          node = h.node;
          at = ap (λ ns. slice_get ns n) nodes_are ∙ (old_at N C n l ∙ at);
          kind = h.kind;
          meaning = λ wm w tags. through (of_equal _ _ (tokens_front wm n tags l)) (through (h.meaning wm w tags) (inst_front wm k tags lt));
          once = λ wm tags. tokens_least wm grown.alphas grown.nodes n tags;
        }

    back : (k n : ℕ) → IsTerminalOf small ss k n → IsTerminalOf grown (rs ++ ss) (length rs + k) (length N + n)
    back k n h = record {
      node = node_behind (length N) rules places h.node;
      at = ap (λ ns. slice_get ns (length N + n)) nodes_are
          ∙ (new_at N M rules places n ∙ ap (option_map (node_behind (length N) rules places)) (sym (ap (λ ns. slice_get ns n) small_nodes) ∙ h.at));
      kind = ap (kind_behind (length N) rules) h.kind ∙ ap (λ z. Terminal (z + k)) (sym count);
      meaning = λ wm w tags. through (of_equal _ _ (tokens_behind wm n tags)) (through (h.meaning wm w tags) (inst_behind wm k tags));
      once = λ wm tags. tokens_least wm grown.alphas grown.nodes (length N + n) tags;
    }

    grown_each : (k : ℕ) → k < length (rs ++ ss) → (n : ℕ) × IsTerminalOf grown (rs ++ ss) k n
    grown_each k lt = by (cond_less k (length rs))
      where
        cond_less : (x y : ℕ) → (x < y) ⊎ ((z : ℕ) × (x ≡ y + z))
        cond_less x zero = inr (x, omega arith)
        cond_less zero (suc y) = inl (omega arith)
        cond_less (suc x) (suc y) = elim (cond_less x y) [ inl h ↦ inl (omega (arith, h)) | inr h ↦ inr (h.0, (let q = h.1 in omega arith)) ]

        by : (k < length rs) ⊎ ((z : ℕ) × (k ≡ length rs + z)) → (n : ℕ) × IsTerminalOf grown (rs ++ ss) k n
        by (inl h) = let t = of_old.each k h in (t.0, front k t.0 h t.1)
        by (inr h) =
            let q = h.1 in
            let z = length-append rs ss in
            let t = of_small.each h.0 (omega (arith, lt, z, q)) in
            (length N + t.0, subst (λ j. IsTerminalOf grown (rs ++ ss) j (length N + t.0)) (sym q) (back h.0 t.0 t.1))

    grown_at : (n : ℕ) (y : Node) → slice_get grown.nodes n ≡ Some y → slice_get all n ≡ Some y
    grown_at n y at = sym (ap (λ ns. slice_get ns n) nodes_are) ∙ at

    pub grown_net : NetOf grown (rs ++ ss)
    grown_net = record {
      each = grown_each;
      only = λ n k y at e. (let z = length-append rs ss in elim (stands n y (grown_at n y at)) [
        | inl h ↦ (let l = low n k y h e in omega (arith, l, z, count))
        | inr h ↦
            (let r = new_rule n k y h e in
            let q = r.2 in
            let l = of_small.only h.place r.0 h.node (ap (λ ns. slice_get ns h.place) small_nodes ∙ h.was) r.1 in omega (arith, l, z, q, count))
      ]);
      one = λ n m k x y at at' e f. one n m k x y (grown_at n x at) (grown_at m y at') e f;
    }
