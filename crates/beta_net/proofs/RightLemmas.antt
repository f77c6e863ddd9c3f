-- Nodes with the groups whose giver they are.
use Rattle.std.proofs.Common.{◌≡◌, ℕ, zero, suc, ◌+◌, ◌<◌, List, [], ◌∷◌, ◌++◌, length, slice_get, Option, Some, None, refl, ap, ap₂, subst, sym, ◌∙◌, arith, Bool, true, false, cond, ◌==◌, append-nil}
use Rattle.std.proofs.lemmas.Bool.{eqb-true, eqb-false}
use Rattle.net_base.specs.declared.nodes.Node.{Node}
use Rattle.net_base.specs.declared.nodes.Kind.{Kind}
use Rattle.net_base.specs.declared.nodes.Kind.TheVariants.{Join, Negated, Group, Terminal}
use Rattle.net_base.specs.Sound.{is_parent, is_giver, child_if, children_below, HasChildren, right_if, rights_below, HasRights}
use Rattle.beta_net.specs.Rights.{giver_of, AreGiversBefore, AreRightless, AreGiven, AddsRight}
use Rattle.beta_net.proofs.Lists.{same_some, get_lt, get_at}

-- the giver that node n named before
giver_before : (old now : List Node) (n bound : ℕ) (x z : Node) → AreGiven old now bound → slice_get now n ≡ Some x → slice_get old n ≡ Some z → (giver_of z.kind) ≡ (giver_of x.kind)
giver_before old now n bound x z h at was = let q = same_some (record z { rights = rights_below old bound n }) x (sym (h.each n z was) ∙ at) in ap (λ (y : Node). (giver_of y.kind)) q

giver_is : (k : Kind) (n : ℕ) → is_giver k n ≡ is_parent (giver_of k) n
giver_is Join n = refl
giver_is Negated n = refl
giver_is (Group giver width members) n = refl
giver_is (Terminal rule) n = refl

below_is : (old : List Node) (n k : ℕ) (z : Node) (o : Option ℕ) → slice_get old n ≡ Some z → (giver_of z.kind) ≡ o → rights_below old (suc n) k ≡ rights_below old n k ++ cond (is_parent o k) (n ∷ []) []
below_is old n k z o at e =
    ap (λ s. rights_below old n k ++ right_if s k n) at
    ∙ (ap (λ b. rights_below old n k ++ cond b (n ∷ []) []) (giver_is z.kind k) ∙ ap (λ p. rights_below old n k ++ cond (is_parent p k) (n ∷ []) []) e)

-- at the start no node has a child
pub none_given : (nodes : List Node) → AreRightless nodes → AreGiven nodes nodes 0
none_given nodes bare = record { count = refl; each = λ k x at. at ∙ ap Some (same x (bare k x at)) }
  where
    same : (x : Node) → x.rights ≡ [] → x ≡ record x { rights = [] }
    same x e = ap (λ cs. record x { rights = cs }) e

pub given_some : (old now new : List Node) (n p : ℕ) (x : Node) → AreGiven old now n → slice_get now n ≡ Some x → (giver_of x.kind) ≡ Some p → AddsRight now new p n → AreGiven old new (n + 1)
given_some old now new n p x h at e a = subst (AreGiven old new) (let z : suc n ≡ n + 1 = omega arith in z) (record { count = a.count ∙ h.count; each = λ k y was. by_place k y was (p == k) refl })
  where
    low : n < length old
    low = let lt = get_lt now n x at in let c = h.count in omega arith

    below : (k : ℕ) → rights_below old (suc n) k ≡ rights_below old n k ++ cond (p == k) (n ∷ []) []
    below k = let z = get_at old n low in below_is old n k z.0 (Some p) z.1 (giver_before old now n n x z.0 h at z.1 ∙ e)

    by_place : (k : ℕ) (y : Node) → slice_get old k ≡ Some y → (b : Bool) → (p == k) ≡ b → slice_get new k ≡ Some (record y { rights = rights_below old (suc n) k })
    by_place k y was true q =
        let s = eqb-true p k q in
        let g = a.here (record y { rights = rights_below old n k }) (ap (slice_get now) s ∙ h.each k y was) in
        ap (slice_get new) (sym s) ∙ (g ∙ ap (λ ks. Some (record y { rights = ks })) (sym (below k ∙ ap (λ b. rights_below old n k ++ cond b (n ∷ []) []) q)))
    by_place k y was false q =
        let ne = eqb-false p k q in
        a.others k (λ z. ne (sym z)) ∙ (h.each k y was ∙ ap (λ ks. Some (record y { rights = ks })) (sym (below k ∙ (ap (λ b. rights_below old n k ++ cond b (n ∷ []) []) q ∙ append-nil (rights_below old n k)))))

pub given_none : (old now : List Node) (n : ℕ) (x : Node) → AreGiven old now n → slice_get now n ≡ Some x → (giver_of x.kind) ≡ None → AreGiven old now (n + 1)
given_none old now n x h at e = subst (AreGiven old now) (let z : suc n ≡ n + 1 = omega arith in z) (record {
  count = h.count;
  each = λ k y was. (h.each k y was ∙ ap (λ ks. Some (record y { rights = ks })) (sym (below k ∙ append-nil (rights_below old n k))));
})
  where
    below : (k : ℕ) → rights_below old (suc n) k ≡ rights_below old n k ++ []
    below k = let lt = get_lt now n x at in let c = h.count in let z = get_at old n (let s : n < length old = omega arith in s) in below_is old n k z.0 None z.1 (giver_before old now n n x z.0 h at z.1 ∙ e)

-- the giver is in range
pub giver_low : (old now : List Node) (n p : ℕ) (x : Node) → AreGiversBefore old → AreGiven old now n → slice_get now n ≡ Some x → (giver_of x.kind) ≡ Some p → p < length now
giver_low old now n p x o h at e =
    let lt = get_lt now n x at in
    let c = h.count in
    let z = get_at old n (let s : n < length old = omega arith in s) in
    let lt' = o n p z.0 z.1 (giver_before old now n n x z.0 h at z.1 ∙ e) in omega arith

-- the giver that node n names
pub record NamesGiver (nodes : List Node) (n : ℕ) (o : Option ℕ) : Type 0 where
  pub node : Node
  pub at : slice_get nodes n ≡ Some node
  pub is : (giver_of node.kind) ≡ o

pub names_giver : (old now s : List Node) (n bound len : ℕ) (o u : Option ℕ) → AreGiven old now bound → len ≡ length old → n < len → s ≡ now → ((x : Node) → slice_get s n ≡ Some x → o ≡ (giver_of x.kind)) → o ≡ u → NamesGiver now n u
names_giver old now s n bound len o u h l lt e p q =
    let c = h.count in
    let g = get_at now n (omega arith) in
    record { node = g.0; at = g.1; is = sym (p g.0 (ap (λ ls. slice_get ls n) e ∙ g.1)) ∙ q }

-- the node before
pub was_given : (old new : List Node) (n : ℕ) (x : Node) → AreGiven old new (length old) → slice_get new n ≡ Some x → (y : Node) × (slice_get old n ≡ Some y) × (x ≡ record y { rights = rights_below old (length old) n })
was_given old new n x h at =
    let lt = get_lt new n x at in
    let c = h.count in
    let g = get_at old n (let s : n < length old = omega arith in s) in
    (g.0, g.1, same_some x (record g.0 { rights = rights_below old (length old) n }) (sym at ∙ h.each n g.0 g.1))

right_same : (old new : List Node) → AreGiven old new (length old) → (i k : ℕ) → rights_below new i k ≡ rights_below old i k
right_same old new h zero k = refl
right_same old new h (suc i) k = ap₂ (λ a b. a ++ b) (right_same old new h i k) (by_node (slice_get old i) refl)
  where
    by_node : (o : Option Node) → slice_get old i ≡ o → right_if (slice_get new i) k i ≡ right_if o k i
    by_node (Some z) e = ap (λ s. right_if s k i) (h.each i z e)
    by_node None e = ap (λ s. right_if s k i) (none_too (slice_get new i) refl)
      where
        none_too : (o : Option Node) → slice_get new i ≡ o → slice_get new i ≡ None
        none_too None f = f
        none_too (Some x) f = let y = was_given old new i x h f in let bad : None ≡ Some y.0 = sym e ∙ y.1 in cc

pub has_rights : (old new : List Node) → AreGiven old new (length old) → HasRights new
has_rights old new h k x at =
    let y = was_given old new k x h at in
    ap (λ (z : Node). z.rights) y.2 ∙ (sym (right_same old new h (length old) k) ∙ ap (λ n. rights_below new n k) (sym h.count))

-- the children stay
child_kept : (old new : List Node) → AreGiven old new (length old) → (i k : ℕ) → children_below new i k ≡ children_below old i k
child_kept old new h zero k = refl
child_kept old new h (suc i) k = ap₂ (λ a b. a ++ b) (child_kept old new h i k) (by_node (slice_get old i) refl)
  where
    by_node : (o : Option Node) → slice_get old i ≡ o → child_if (slice_get new i) k i ≡ child_if (slice_get old i) k i
    by_node (Some z) e = ap (λ s. child_if s k i) (h.each i z e) ∙ ap (λ s. child_if s k i) (sym e)
    by_node None e = ap (λ s. child_if s k i) (none_too (slice_get new i) refl ∙ sym e)
      where
        none_too : (o : Option Node) → slice_get new i ≡ o → slice_get new i ≡ None
        none_too None f = f
        none_too (Some x) f = let y = was_given old new i x h f in let bad : None ≡ Some y.0 = sym e ∙ y.1 in cc

pub given_children : (old new : List Node) → AreGiven old new (length old) → HasChildren old → HasChildren new
given_children old new h c k x at =
    let y = was_given old new k x h at in
    ap (λ (z : Node). z.children) y.2 ∙ (c k y.0 y.1 ∙ (sym (child_kept old new h (length old) k) ∙ ap (λ n. children_below new n k) (sym h.count)))

-- a number that no node names as giver has no rights
pub unnamed : (nodes : List Node) (k : ℕ) → ((n : ℕ) (x : Node) → slice_get nodes n ≡ Some x → (giver_of x.kind) ≡ Some k → ⊥) → (i : ℕ) → rights_below nodes i k ≡ []
unnamed nodes k h zero = refl
unnamed nodes k h (suc i) = ap₂ (λ a b. a ++ b) (unnamed nodes k h i) (by_node (slice_get nodes i) refl)
  where
    by_giver : (x : Node) → slice_get nodes i ≡ Some x → (o : Option ℕ) → (giver_of x.kind) ≡ o → cond (is_parent o k) (i ∷ []) [] ≡ []
    by_giver x e None q = refl
    by_giver x e (Some p) q = by_same (p == k) refl
      where
        by_same : (b : Bool) → (p == k) ≡ b → cond b (i ∷ []) [] ≡ []
        by_same true s = absurd (h i x e (q ∙ ap Some (eqb-true p k s)))
        by_same false s = refl

    by_node : (o : Option Node) → slice_get nodes i ≡ o → right_if o k i ≡ []
    by_node None e = refl
    by_node (Some x) e = ap (λ b. cond b (i ∷ []) []) (giver_is x.kind k) ∙ by_giver x e (giver_of x.kind) refl
