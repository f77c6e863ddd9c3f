-- The counts of the network are the shape of its rules.
use Rattle.std.proofs.Common.{◌≡◌, ℕ, suc, ◌+◌, ◌<◌, List, [], ◌∷◌, ◌++◌, length, slice_get, Option, Some, None, refl, ap, ap₂, subst, sym, ◌∙◌, arith, inl, inr, Bool, true, false, cond, count_by}
use Rattle.std.proofs.lemmas.List.Sums.{sum_by-cons}
use Rattle.ops_base.specs.declared.conditions.Test.{Test}
use Rattle.ops_base.specs.declared.rules.Rule.{Rule}
use Rattle.ops_base.proofs.Members.{IsMember, member_from_contains, contains_from_member}
use Rattle.ops_base.proofs.InOrder.{all_pairs_from_before}
use Rattle.net_base.specs.declared.nodes.Kind.{Kind}
use Rattle.net_base.specs.declared.nodes.Kind.TheVariants.{Join, Negated, Group, Terminal}
use Rattle.net_base.specs.declared.nodes.Node.{Node}
use Rattle.net_base.specs.declared.nodes.Alpha.{Alpha}
use Rattle.net_base.specs.declared.normal.NormalCondition.{NormalCondition}
use Rattle.net_base.specs.declared.normal.NormalPart.{NormalPart}
use Rattle.net_base.specs.declared.normal.NormalPart.TheVariants as part
use Rattle.net_base.specs.Normal.{alpha_tests}
use Rattle.net_base.specs.Sound.{is_join, is_negated, is_terminal, HasChildren, HasRights}
use Rattle.net_base.specs.Shape.{normal_form, is_negative, HasCount, IsPath, IsPathOfSign, IsAlphaList, IsShape, counts_of, positives}
use Rattle.beta_net.specs.declared.links.Link.{Link}
use Rattle.beta_net.specs.declared.paths.End.{End}
use Rattle.beta_net.specs.Linked.{path_to}
use Rattle.beta_net.specs.Built.{HasAlpha, AreBuilt, IsDraft, IsConditionNode, IsPartNode, IsNodeOf}
use Rattle.beta_net.proofs.Lists.{get_lt, get_at}
use Rattle.beta_net.proofs.Picks.{picks, length-picks, picked, pick, picks-apart}
use Rattle.beta_net.proofs.PathLemmas.{path_is}
use Rattle.beta_net.proofs.PrefixLemmas.{path_same, in_found, IsLinkOf}
use Rattle.beta_net.proofs.DownLemmas.{HaveNodes, have_nodes}
use Rattle.beta_net.proofs.SoundLemmas.{AreValidRules, terminal_number}

abbrev Told : Type 0
Told = List NormalPart × NormalPart

-- what stands before a link's part, and the part
abbrev part_at : List Link → Option Link → Told
part_at links None = ([], part.Group [])
part_at links (Some l) = (path_to links l.parent, l.part)

abbrev is_of_sign : Bool → Kind → Bool
is_of_sign true k = is_negated k
is_of_sign false k = is_join k

condition_tells : (sign b : Bool) → is_of_sign sign (cond b Negated Join) ≡ true → b ≡ sign
condition_tells true true e = refl
condition_tells true false e = cc
condition_tells false true e = cc
condition_tells false false e = refl

condition_told : (sign : Bool) → is_of_sign sign (cond sign Negated Join) ≡ true
condition_told true = refl
condition_told false = refl

-- a node has the sign of its part
sign_tells : (sign : Bool) (alphas : List Alpha) (place : ℕ) (above : Option ℕ) (p : NormalPart) (x : Node) → IsPartNode alphas place above p x → is_of_sign sign x.kind ≡ true → is_negative p ≡ sign
sign_tells sign alphas place above (part.One c) x h e = condition_tells sign c.negated (ap (is_of_sign sign) (sym h.kind) ∙ e)
sign_tells true alphas place above (part.Group cs) x h e = refl
sign_tells false alphas place above (part.Group cs) x h e = let bad : false ≡ true = sym (ap (is_of_sign false) h.kind) ∙ e in cc

sign_told : (sign : Bool) (alphas : List Alpha) (place : ℕ) (above : Option ℕ) (p : NormalPart) (x : Node) → IsPartNode alphas place above p x → is_negative p ≡ sign → is_of_sign sign x.kind ≡ true
sign_told sign alphas place above (part.One c) x h e = ap (is_of_sign sign) h.kind ∙ (ap (λ b. is_of_sign sign (cond b Negated Join)) e ∙ condition_told sign)
sign_told true alphas place above (part.Group cs) x h e = ap (is_of_sign true) h.kind
sign_told false alphas place above (part.Group cs) x h e = cc

no_sign : (sign : Bool) (k : ℕ) → is_of_sign sign (Terminal k) ≡ true → ⊥
no_sign true k e = cc
no_sign false k e = cc

zero_plus : (j : ℕ) → 0 + j ≡ j
zero_plus j = omega arith

module _ (links : List Link) (ends : List End) (alphas : List Alpha) (nodes : List Node) (rules : List Rule) (valid : AreValidRules rules) (b : AreBuilt links ends rules) (d : IsDraft links ends alphas nodes) (children : HasChildren nodes) (rights : HasRights nodes) where
  have : HaveNodes links alphas nodes
  have = have_nodes links ends alphas nodes d.each d.count

  abbrev at_link : ℕ → Told
  at_link n = part_at links (slice_get links n)

  -- the link of a node of this sign
  link_of : (sign : Bool) (n : ℕ) (x : Node) → slice_get nodes n ≡ Some x → is_of_sign sign x.kind ≡ true → (l : Link) × (slice_get links n ≡ Some l) × (is_negative l.part ≡ sign)
  link_of sign n x at e = elim (d.each n x at) [
    | inl h ↦ (h.0, h.1, sign_tells sign alphas h.0.place h.0.above h.0.part x h.2.part e)
    | inr h ↦ absurd (no_sign sign h.0 (ap (is_of_sign sign) (sym h.4.kind) ∙ e))
  ]

  -- two links of one path are one
  apart : (n m : ℕ) (l x : Link) → slice_get links n ≡ Some l → slice_get links m ≡ Some x → at_link n ≡ at_link m → n ≡ m
  apart n m l x at to e =
      let p = sym (ap (part_at links) at) ∙ (e ∙ ap (part_at links) to) in
      let q : path_to links l.parent ≡ path_to links x.parent = ap (λ (z : Told). z.0) p in
      let c : l.part ≡ x.part = ap (λ (z : Told). z.1) p in
      path_same links b.linked (suc n) n m l x (omega arith) at to (path_is links b.linked n l at ∙ (ap₂ (λ y z. y ++ z ∷ []) q c ∙ sym (path_is links b.linked m x to)))

  -- the link of a rule's path
  link_found : (q : List NormalPart) (c : NormalPart) → IsPath rules q c → (m : ℕ) × IsLinkOf links q c m
  link_found q c h =
      let n = b.count in
      let lt = get_lt rules h.0 h.1 h.2 in
      let e = get_at ends h.0 (omega arith) in
      let end = b.ended h.0 h.1 e.0 h.2 e.1 in
      in_found links b.linked e.0.parent end.within (normal_form h.1) end.down q c h.3

  pub paths : (sign : Bool) → HasCount Told (IsPathOfSign rules sign) (count_by (λ (x : Node). is_of_sign sign x.kind) nodes)
  paths sign = record {
    all = picks Node Told (λ x. is_of_sign sign x.kind) at_link 0 nodes;
    count = length-picks Node Told (λ x. is_of_sign sign x.kind) at_link 0 nodes;
    apart = all_pairs_from_before (λ x y. x ≡ y → ⊥) (picks Node Told (λ x. is_of_sign sign x.kind) at_link 0 nodes)
        (picks-apart Node Told (λ x. is_of_sign sign x.kind) at_link 0 nodes (λ j k x y at to e f g. set_at j k x y at to e f (sym (ap at_link (zero_plus j)) ∙ (g ∙ ap at_link (zero_plus k)))));
    sound = λ p m. sound_at p (picked Node Told (λ x. is_of_sign sign x.kind) at_link 0 nodes p (member_from_contains p (picks Node Told (λ x. is_of_sign sign x.kind) at_link 0 nodes) m));
    complete = λ p h. contains_from_member p (picks Node Told (λ x. is_of_sign sign x.kind) at_link 0 nodes) (complete_at p h);
  }
    where
      set_at : (j k : ℕ) (x y : Node) → slice_get nodes j ≡ Some x → slice_get nodes k ≡ Some y → is_of_sign sign x.kind ≡ true → is_of_sign sign y.kind ≡ true → at_link j ≡ at_link k → j ≡ k
      set_at j k x y at to e f g = let u = link_of sign j x at e in let v = link_of sign k y to f in apart j k u.0 v.0 u.1 v.1 g

      sound_at : (p : Told) → ((j : ℕ) × (x : Node) × (slice_get nodes j ≡ Some x) × (is_of_sign sign x.kind ≡ true) × (p ≡ at_link (0 + j))) → IsPathOfSign rules sign p
      sound_at p h =
          let u = link_of sign h.0 h.1 h.2 h.3 in
          let is : (path_to links u.0.parent, u.0.part) ≡ p = sym (h.4 ∙ (ap at_link (zero_plus h.0) ∙ ap (part_at links) u.1)) in
          subst (IsPathOfSign rules sign) is (b.paths h.0 u.0 u.1, u.2)

      pair_is : (q : List NormalPart) (c : NormalPart) (p : Told) → q ≡ p.0 → c ≡ p.1 → (q, c) ≡ p
      pair_is q c p e f = ap₂ (λ x y. (x, y)) e f

      complete_at : (p : Told) → IsPathOfSign rules sign p → IsMember p (picks Node Told (λ x. is_of_sign sign x.kind) at_link 0 nodes)
      complete_at p h =
          let f = link_found p.0 p.1 h.0 in
          let x = have f.0 f.1.link f.1.at in
          let s = sign_told sign alphas f.1.link.place f.1.link.above f.1.link.part x.0 x.2.part (ap is_negative f.1.part_is ∙ h.1) in
          let m = pick Node Told (λ x. is_of_sign sign x.kind) at_link 0 f.0 nodes x.0 x.1 s in
          let is : at_link (0 + f.0) ≡ p = ap at_link (zero_plus f.0) ∙ (ap (part_at links) f.1.at ∙ pair_is (path_to links f.1.link.parent) f.1.link.part p f.1.before f.1.part_is) in
          subst (λ z. IsMember z (picks Node Told (λ x. is_of_sign sign x.kind) at_link 0 nodes)) is m

  -- ---- terminals

  abbrev rule_of_kind : Kind → ℕ
  rule_of_kind Join = 0
  rule_of_kind Negated = 0
  rule_of_kind (Group giver width members) = 0
  rule_of_kind (Terminal k) = k

  abbrev rule_of : Option Node → ℕ
  rule_of None = 0
  rule_of (Some x) = rule_of_kind x.kind

  abbrev rule_at : ℕ → ℕ
  rule_at n = rule_of (slice_get nodes n)

  terminal_tells : (k : Kind) → is_terminal k ≡ true → k ≡ Terminal (rule_of_kind k)
  terminal_tells Join e = cc
  terminal_tells Negated e = cc
  terminal_tells (Group giver width members) e = cc
  terminal_tells (Terminal k) e = refl

  number_at : (n : ℕ) (x : Node) → slice_get nodes n ≡ Some x → is_terminal x.kind ≡ true → (rule_at n < length rules) × (n ≡ length links + rule_at n)
  number_at n x at e =
      let k = ap rule_of at in
      let g = terminal_number links ends alphas nodes rules valid b d children rights n (rule_of_kind x.kind) x at (terminal_tells x.kind e) in
      let lt = get_lt ends (rule_of_kind x.kind) g.0 g.1 in
      let c = b.count in
      let is = g.2 in (omega arith, omega arith)

  pub terminals : HasCount ℕ (λ k. k < length rules) (count_by (λ (x : Node). is_terminal x.kind) nodes)
  terminals = record {
    all = picks Node ℕ (λ x. is_terminal x.kind) rule_at 0 nodes;
    count = length-picks Node ℕ (λ x. is_terminal x.kind) rule_at 0 nodes;
    apart = all_pairs_from_before (λ x y. x ≡ y → ⊥) (picks Node ℕ (λ x. is_terminal x.kind) rule_at 0 nodes)
        (picks-apart Node ℕ (λ x. is_terminal x.kind) rule_at 0 nodes (λ j k x y at to e f g. set_at j k x y at to e f (sym (ap rule_at (zero_plus j)) ∙ (g ∙ ap rule_at (zero_plus k)))));
    sound = λ p m. sound_at p (picked Node ℕ (λ x. is_terminal x.kind) rule_at 0 nodes p (member_from_contains p (picks Node ℕ (λ x. is_terminal x.kind) rule_at 0 nodes) m));
    complete = λ k lt. contains_from_member k (picks Node ℕ (λ x. is_terminal x.kind) rule_at 0 nodes) (complete_at k lt);
  }
    where
      set_at : (j k : ℕ) (x y : Node) → slice_get nodes j ≡ Some x → slice_get nodes k ≡ Some y → is_terminal x.kind ≡ true → is_terminal y.kind ≡ true → rule_at j ≡ rule_at k → j ≡ k
      set_at j k x y at to e f g = let u = number_at j x at e in let v = number_at k y to f in u.1 ∙ (ap (λ i. length links + i) g ∙ sym v.1)

      sound_at : (p : ℕ) → ((j : ℕ) × (x : Node) × (slice_get nodes j ≡ Some x) × (is_terminal x.kind ≡ true) × (p ≡ rule_at (0 + j))) → p < length rules
      sound_at p h = let u = number_at h.0 h.1 h.2 h.3 in subst (λ k. k < length rules) (sym (h.4 ∙ ap rule_at (zero_plus h.0))) u.0

      complete_at : (k : ℕ) → k < length rules → IsMember k (picks Node ℕ (λ x. is_terminal x.kind) rule_at 0 nodes)
      complete_at k lt =
          let c = b.count in
          let len = d.count in
          let g = get_at nodes (length links + k) (omega arith) in
          elim (d.each (length links + k) g.0 g.1) [
            | inl h ↦ (let bad = get_lt links (length links + k) h.0 h.1 in absurd (omega arith))
            | inr h ↦
                let q = h.2 in
                let same : h.0 ≡ k = omega arith in
                let m = pick Node ℕ (λ x. is_terminal x.kind) rule_at 0 (length links + k) nodes g.0 g.1 (ap is_terminal h.4.kind) in
                let is : rule_at (0 + (length links + k)) ≡ k = ap rule_at (zero_plus (length links + k)) ∙ (ap rule_of g.1 ∙ (ap rule_of_kind h.4.kind ∙ same)) in
                subst (λ z. IsMember z (picks Node ℕ (λ x. is_terminal x.kind) rule_at 0 nodes)) is m
          ]

  -- ---- alphas

  abbrev list_of : Option Alpha → ℕ × List Test
  list_of None = (0, [])
  list_of (Some x) = (x.class, x.tests)

  abbrev list_at : ℕ → ℕ × List Test
  list_at n = list_of (slice_get alphas n)

  pub alpha_lists : HasCount (ℕ × List Test) (IsAlphaList rules) (length alphas)
  alpha_lists = record {
    all = picks Alpha (ℕ × List Test) (λ x. true) list_at 0 alphas;
    count = length-picks Alpha (ℕ × List Test) (λ x. true) list_at 0 alphas ∙ all_count alphas;
    apart = all_pairs_from_before (λ x y. x ≡ y → ⊥) (picks Alpha (ℕ × List Test) (λ x. true) list_at 0 alphas)
        (picks-apart Alpha (ℕ × List Test) (λ x. true) list_at 0 alphas (λ j k x y at to e f g. set_at j k x y at to (sym (ap list_of at) ∙ (sym (ap list_at (zero_plus j)) ∙ (g ∙ (ap list_at (zero_plus k) ∙ ap list_of to))))));
    sound = λ p m. sound_at p (picked Alpha (ℕ × List Test) (λ x. true) list_at 0 alphas p (member_from_contains p (picks Alpha (ℕ × List Test) (λ x. true) list_at 0 alphas) m));
    complete = λ p h. contains_from_member p (picks Alpha (ℕ × List Test) (λ x. true) list_at 0 alphas) (complete_at p h);
  }
    where
      all_count : (xs : List Alpha) → count_by (λ (x : Alpha). true) xs ≡ length xs
      all_count [] = refl
      all_count (x ∷ xs) = sum_by-cons (λ (z : Alpha). 1) x xs ∙ (let h = all_count xs in omega arith)

      set_at : (j k : ℕ) (x y : Alpha) → slice_get alphas j ≡ Some x → slice_get alphas k ≡ Some y → ◌≡◌ {A = ℕ × List Test} (x.class, x.tests) (y.class, y.tests) → j ≡ k
      set_at j k x y at to g = d.distinct j k x y at to (sym (ap (λ (z : ℕ × List Test). z.0) g), sym (ap (λ (z : ℕ × List Test). z.1) g))

      sound_at : (p : ℕ × List Test) → ((j : ℕ) × (x : Alpha) × (slice_get alphas j ≡ Some x) × (true ≡ true) × (p ≡ list_at (0 + j))) → IsAlphaList rules p
      sound_at p h =
          let u = d.used h.0 h.1 h.2 in
          let l = u.1 in
          let c = u.3.condition in
          let is : (h.1.class, h.1.tests) ≡ p = sym (h.4 ∙ (ap list_at (zero_plus h.0) ∙ ap list_of h.2)) in
          subst (IsAlphaList rules) is (path_to links l.parent, c, subst (IsPath rules (path_to links l.parent)) u.3.part_is (b.paths u.0 l u.2), u.3.is.0, u.3.is.1 ∙ ap (λ m. alpha_tests m c.tests) (b.linked.each u.0 l u.2).place)

      own_is : (l : Link) (x : Node) (q : List NormalPart) (c : NormalCondition) → l.place ≡ positives (path_to links l.parent) → path_to links l.parent ≡ q → l.part ≡ part.One c → IsNodeOf alphas l x → HasAlpha alphas c.class (alpha_tests (positives q) c.tests) x.alpha
      own_is l x q c p e f h =
          let k : IsConditionNode alphas l.place c x = subst (λ (z : NormalPart). IsPartNode alphas l.place l.above z x) f h.part in
          subst (λ m. HasAlpha alphas c.class (alpha_tests m c.tests) x.alpha) (p ∙ ap positives e) k.alpha

      complete_at : (p : ℕ × List Test) → IsAlphaList rules p → IsMember p (picks Alpha (ℕ × List Test) (λ x. true) list_at 0 alphas)
      complete_at p h =
          let f = link_found h.0 (part.One h.1) h.2 in
          let x = have f.0 f.1.link f.1.at in
          let own = own_is f.1.link x.0 h.0 h.1 (b.linked.each f.0 f.1.link f.1.at).place f.1.before f.1.part_is x.2 in
          let m = pick Alpha (ℕ × List Test) (λ x. true) list_at 0 x.0.alpha alphas own.alpha own.at refl in
          let is : list_at (0 + x.0.alpha) ≡ p = ap list_at (zero_plus x.0.alpha) ∙ (ap list_of own.at ∙ ap₂ (λ a z. (a, z)) (own.is.0 ∙ sym h.3) (own.is.1 ∙ sym h.4)) in
          subst (λ z. IsMember z (picks Alpha (ℕ × List Test) (λ x. true) list_at 0 alphas)) is m

  pub shape_is : IsShape rules (counts_of alphas nodes)
  shape_is = record { alpha = alpha_lists; join = paths false; negated = paths true; terminal = terminals }
