-- A network is sound if a test holds of each of its nodes and its last node is its only terminal. The test computes, so
-- that a network that is written out is sound by `refl`.
use Rattle.std.proofs.Common.{◌≡◌, ℕ, zero, suc, ◌+◌, ◌<◌, ◌≤◌, Bool, true, false, not, ◌&&◌, ◌||◌, ◌==◌, ltb, leb, List, [], ◌∷◌, length, slice_get, bytes_eq, Option, Some, None, refl, sym, ap, subst, ◌∙◌, arith, true≢false}
use Rattle.std.specs.List.{All}
use Rattle.std.proofs.lemmas.Bool.{leb-true}
use Rattle.std.proofs.lemmas.Bool.Decides.{Decides-eqb, Decides-ltb}
use Rattle.std.proofs.lemmas.List.Elements.{All-cons, All-nil}
use Rattle.std.proofs.lemmas.Option.{slice_get_within}
use Rattle.std.proofs.lemmas.Slice.Eq.{bytes_eq-Decides}
use Rattle.net_base.specs.declared.nodes.Alpha.{Alpha}
use Rattle.net_base.specs.declared.nodes.JoinTest.{JoinTest}
use Rattle.net_base.specs.declared.nodes.Kind.{Kind}
use Rattle.net_base.specs.declared.nodes.Kind.TheVariants.{Join, Negated, Group, Terminal}
use Rattle.net_base.specs.declared.nodes.Node.{Node}
use Rattle.net_base.specs.Sound.{IsBare, IsGroup, IsSound, IsSoundAt, children_below, deepest, depth_above, goes_up, is_join, is_terminal, left_width, rights_below, takes_elements}

-- ---- both hold

left_of : (a b : Bool) → (a && b) ≡ true → a ≡ true
left_of true b h = refl
left_of false b h = absurd (cc)

right_of : (a b : Bool) → (a && b) ≡ true → b ≡ true
right_of true b h = h
right_of false b h = absurd (cc)

-- the second one holds if the first does, or if the first does not
where_true : (a b : Bool) → (not a || b) ≡ true → a ≡ true → b ≡ true
where_true true b h e = h
where_true false b h e = absurd (cc)

where_false : (a b : Bool) → (a || b) ≡ true → a ≡ false → b ≡ true
where_false true b h e = absurd (cc)
where_false false b h e = h

-- ---- the parts of the test

abbrev parent_before : ℕ → Option ℕ → Bool
parent_before n None = true
parent_before n (Some p) = ltb p n

abbrev root_joins : Option ℕ → Kind → Bool
root_joins None k = is_join k
root_joins (Some p) k = true

abbrev has_class : Option Alpha → ℕ → Bool
has_class None c = false
has_class (Some a) c = a.class == c

abbrev are_placed : ℕ → List JoinTest → Bool
are_placed w [] = true
are_placed w (j ∷ js) = ltb j.place w && are_placed w js

abbrev is_bare : Node → Bool
is_bare x = (length x.joins == 0) && ((x.class == 0) && (x.alpha == 0))

abbrev is_end : Node → Bool
is_end x = (length x.children == 0) && (length x.rights == 0)

abbrev is_group : List Node → ℕ → Node → Kind → Bool
is_group nodes n x (Group g w m) = ltb g n && ((w == left_width nodes x.parent) && (leb 2 m && goes_up nodes m x.parent g))
is_group nodes n x Join = true
is_group nodes n x Negated = true
is_group nodes n x (Terminal rule) = true

-- node n passes the test; only the last one may be a terminal
abbrev is_sound_at : List Alpha → List Node → ℕ → Node → Bool
is_sound_at alphas nodes n x =
    (parent_before n x.parent && (root_joins x.parent x.kind && (x.depth == depth_above nodes (deepest x.kind x.parent) + 1)))
    && (((not (takes_elements x.kind) || has_class (slice_get alphas x.alpha) x.class) && (takes_elements x.kind || is_bare x))
    && ((are_placed (left_width nodes x.parent) x.joins && is_group nodes n x x.kind)
    && ((not (is_terminal x.kind) || (is_end x && (n + 1 == length nodes)))
    && (bytes_eq x.children (children_below nodes (length nodes) n) && bytes_eq x.rights (rights_below nodes (length nodes) n)))))

abbrev are_sound : List Alpha → List Node → ℕ → List Node → Bool
are_sound alphas nodes n [] = true
are_sound alphas nodes n (x ∷ xs) = is_sound_at alphas nodes n x && are_sound alphas nodes (suc n) xs

-- the test of a whole network
abbrev pub passes : List Alpha → List Node → Bool
passes alphas nodes = are_sound alphas nodes 0 nodes

-- ---- what each part says

parent_of : (n : ℕ) (o : Option ℕ) → parent_before n o ≡ true → (p : ℕ) → o ≡ Some p → p < n
parent_of n None h p e = absurd (cc)
parent_of n (Some q) h p e = let s : q ≡ p = cc in subst (λ y. y < n) s ((Decides-ltb q n).0 h)

root_of : (o : Option ℕ) (k : Kind) → root_joins o k ≡ true → o ≡ None → is_join k ≡ true
root_of None k h e = h
root_of (Some p) k h e = absurd (cc)

class_of : (o : Option Alpha) (c : ℕ) → has_class o c ≡ true → (a : Alpha) → o ≡ Some a → a.class ≡ c
class_of None c h a e = absurd (cc)
class_of (Some b) c h a e = let s : b ≡ a = cc in subst (λ (y : Alpha). y.class ≡ c) s ((Decides-eqb b.class c).0 h)

there : (alphas : List Alpha) (n : ℕ) (o : Option Alpha) (c : ℕ) → slice_get alphas n ≡ o → has_class o c ≡ true → n < length alphas
there alphas n None c at h = absurd (true≢false (sym h))
there alphas n (Some a) c at h = slice_get_within alphas n a at

placed : (w : ℕ) (js : List JoinTest) → are_placed w js ≡ true → All (λ j. j.place < w) js
placed w [] h = All-nil (λ (j : JoinTest). j.place < w)
placed w (j ∷ js) h =
    let one = left_of (ltb j.place w) (are_placed w js) h in
    let rest = right_of (ltb j.place w) (are_placed w js) h in
    All-cons (λ (i : JoinTest). i.place < w) j js ((Decides-ltb j.place w).0 one) (placed w js rest)

bare : (x : Node) → is_bare x ≡ true → IsBare x
bare x h =
    let rest = right_of (length x.joins == 0) ((x.class == 0) && (x.alpha == 0)) h in
    record {
      joins = (Decides-eqb (length x.joins) 0).0 (left_of (length x.joins == 0) ((x.class == 0) && (x.alpha == 0)) h);
      class = (Decides-eqb x.class 0).0 (left_of (x.class == 0) (x.alpha == 0) rest);
      alpha = (Decides-eqb x.alpha 0).0 (right_of (x.class == 0) (x.alpha == 0) rest);
    }

ends : (x : Node) → is_end x ≡ true → (length x.children ≡ 0) × (length x.rights ≡ 0)
ends x h = (
  (Decides-eqb (length x.children) 0).0 (left_of (length x.children == 0) (length x.rights == 0) h),
  (Decides-eqb (length x.rights) 0).0 (right_of (length x.children == 0) (length x.rights == 0) h),
)

group_parts : (nodes : List Node) (n : ℕ) (x : Node) (g w m : ℕ) → is_group nodes n x (Group g w m) ≡ true → IsGroup nodes n x g w m
group_parts nodes n x g w m h =
    let after = right_of (ltb g n) ((w == left_width nodes x.parent) && (leb 2 m && goes_up nodes m x.parent g)) h in
    let last = right_of (w == left_width nodes x.parent) (leb 2 m && goes_up nodes m x.parent g) after in
    record {
      before = (Decides-ltb g n).0 (left_of (ltb g n) ((w == left_width nodes x.parent) && (leb 2 m && goes_up nodes m x.parent g)) h);
      wide = (Decides-eqb w (left_width nodes x.parent)).0 (left_of (w == left_width nodes x.parent) (leb 2 m && goes_up nodes m x.parent g) after);
      two = leb-true 2 m (left_of (leb 2 m) (goes_up nodes m x.parent g) last);
      down = right_of (leb 2 m) (goes_up nodes m x.parent g) last;
    }

group_of : (nodes : List Node) (n : ℕ) (x : Node) (k : Kind) → is_group nodes n x k ≡ true → (g w m : ℕ) → k ≡ Group g w m → IsGroup nodes n x g w m
group_of nodes n x k h g w m e = group_parts nodes n x g w m (subst (λ z. is_group nodes n x z ≡ true) e h)

-- ---- one node

module _ (alphas : List Alpha) (nodes : List Node) (n : ℕ) (x : Node) (holds : is_sound_at alphas nodes n x ≡ true) where
  abbrev up : Bool
  up = parent_before n x.parent && (root_joins x.parent x.kind && (x.depth == depth_above nodes (deepest x.kind x.parent) + 1))

  abbrev fed : Bool
  fed = (not (takes_elements x.kind) || has_class (slice_get alphas x.alpha) x.class) && (takes_elements x.kind || is_bare x)

  abbrev tested : Bool
  tested = are_placed (left_width nodes x.parent) x.joins && is_group nodes n x x.kind

  abbrev given : Bool
  given = bytes_eq x.children (children_below nodes (length nodes) n) && bytes_eq x.rights (rights_below nodes (length nodes) n)

  abbrev ending : Bool
  ending = not (is_terminal x.kind) || (is_end x && (n + 1 == length nodes))

  up_holds : up ≡ true
  up_holds = left_of up (fed && (tested && (ending && given))) holds

  below_up : (fed && (tested && (ending && given))) ≡ true
  below_up = right_of up (fed && (tested && (ending && given))) holds

  fed_holds : fed ≡ true
  fed_holds = left_of fed (tested && (ending && given)) below_up

  tested_holds : tested ≡ true
  tested_holds = left_of tested (ending && given) (right_of fed (tested && (ending && given)) below_up)

  last_holds : (ending && given) ≡ true
  last_holds = right_of tested (ending && given) (right_of fed (tested && (ending && given)) below_up)

  ending_holds : ending ≡ true
  ending_holds = left_of ending given last_holds

  given_holds : given ≡ true
  given_holds = right_of ending given last_holds

  root_part : (root_joins x.parent x.kind && (x.depth == depth_above nodes (deepest x.kind x.parent) + 1)) ≡ true
  root_part = right_of (parent_before n x.parent) (root_joins x.parent x.kind && (x.depth == depth_above nodes (deepest x.kind x.parent) + 1)) up_holds

  class_part : takes_elements x.kind ≡ true → has_class (slice_get alphas x.alpha) x.class ≡ true
  class_part e =
      where_true (takes_elements x.kind) (has_class (slice_get alphas x.alpha) x.class)
      (left_of (not (takes_elements x.kind) || has_class (slice_get alphas x.alpha) x.class) (takes_elements x.kind || is_bare x) fed_holds) e

  bare_part : takes_elements x.kind ≡ false → is_bare x ≡ true
  bare_part e =
      where_false (takes_elements x.kind) (is_bare x)
      (right_of (not (takes_elements x.kind) || has_class (slice_get alphas x.alpha) x.class) (takes_elements x.kind || is_bare x) fed_holds) e

  end_part : is_terminal x.kind ≡ true → (is_end x && (n + 1 == length nodes)) ≡ true
  end_part e = where_true (is_terminal x.kind) (is_end x && (n + 1 == length nodes)) ending_holds e

  is_last : is_terminal x.kind ≡ true → n + 1 ≡ length nodes
  is_last e = (Decides-eqb (n + 1) (length nodes)).0 (right_of (is_end x) (n + 1 == length nodes) (end_part e))

  children_are : x.children ≡ children_below nodes (length nodes) n
  children_are =
      (bytes_eq-Decides x.children (children_below nodes (length nodes) n)).0
      (left_of (bytes_eq x.children (children_below nodes (length nodes) n)) (bytes_eq x.rights (rights_below nodes (length nodes) n)) given_holds)

  rights_are : x.rights ≡ rights_below nodes (length nodes) n
  rights_are =
      (bytes_eq-Decides x.rights (rights_below nodes (length nodes) n)).0
      (right_of (bytes_eq x.children (children_below nodes (length nodes) n)) (bytes_eq x.rights (rights_below nodes (length nodes) n)) given_holds)

  sound_at : IsSoundAt alphas nodes n x
  sound_at = record {
    parent = parent_of n x.parent (left_of (parent_before n x.parent) (root_joins x.parent x.kind && (x.depth == depth_above nodes (deepest x.kind x.parent) + 1)) up_holds);
    root = root_of x.parent x.kind (left_of (root_joins x.parent x.kind) (x.depth == depth_above nodes (deepest x.kind x.parent) + 1) root_part);
    depth =
        (Decides-eqb x.depth (depth_above nodes (deepest x.kind x.parent) + 1)).0
        (right_of (root_joins x.parent x.kind) (x.depth == depth_above nodes (deepest x.kind x.parent) + 1) root_part);
    alpha = λ e. there alphas x.alpha (slice_get alphas x.alpha) x.class refl (class_part e);
    class = λ e a at. class_of (slice_get alphas x.alpha) x.class (class_part e) a at;
    places = placed (left_width nodes x.parent) x.joins (left_of (are_placed (left_width nodes x.parent) x.joins) (is_group nodes n x x.kind) tested_holds);
    bare = λ e. bare x (bare_part e);
    terminal = λ e. ends x (left_of (is_end x) (n + 1 == length nodes) (end_part e));
    group = group_of nodes n x x.kind (right_of (are_placed (left_width nodes x.parent) x.joins) (is_group nodes n x x.kind) tested_holds);
  }

-- ---- all nodes

at_each : (alphas : List Alpha) (nodes : List Node) (k : ℕ) (xs : List Node) → are_sound alphas nodes k xs ≡ true
    → (n : ℕ) (x : Node) → slice_get xs n ≡ Some x → is_sound_at alphas nodes (k + n) x ≡ true
at_each alphas nodes k [] h n x at = absurd (cc)
at_each alphas nodes k (y ∷ ys) h zero x at =
    let s : y ≡ x = cc in
    let first : k ≡ k + 0 = omega arith in
    subst (λ m. is_sound_at alphas nodes m x ≡ true) first
    (subst (λ z. is_sound_at alphas nodes k z ≡ true) s (left_of (is_sound_at alphas nodes k y) (are_sound alphas nodes (suc k) ys) h))
at_each alphas nodes k (y ∷ ys) h (suc n) x at =
    let rest = right_of (is_sound_at alphas nodes k y) (are_sound alphas nodes (suc k) ys) h in
    let same : suc k + n ≡ k + suc n = omega arith in
    subst (λ m. is_sound_at alphas nodes m x ≡ true) same (at_each alphas nodes (suc k) ys rest n x at)

module _ (alphas : List Alpha) (nodes : List Node) (holds : passes alphas nodes ≡ true) where
  here : (n : ℕ) (x : Node) → slice_get nodes n ≡ Some x → is_sound_at alphas nodes n x ≡ true
  here n x at = let same : 0 + n ≡ n = omega arith in subst (λ m. is_sound_at alphas nodes m x ≡ true) same (at_each alphas nodes 0 nodes holds n x at)

  terminal_is : (x : Node) (k : ℕ) → x.kind ≡ Terminal k → is_terminal x.kind ≡ true
  terminal_is x k e = ap is_terminal e

  pub is_sound : IsSound alphas nodes
  is_sound = record {
    each = λ n x at. sound_at alphas nodes n x (here n x at);
    children = λ n x at. children_are alphas nodes n x (here n x at);
    rights = λ n x at. rights_are alphas nodes n x (here n x at);
    one = λ n m k x y at at' is is'.
        let a = is_last alphas nodes n x (here n x at) (terminal_is x k is) in
        let b = is_last alphas nodes m y (here m y at') (terminal_is y k is') in
        omega (arith, a, b);
  }
