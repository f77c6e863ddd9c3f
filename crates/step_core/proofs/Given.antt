-- What a node puts out over working memory, by the tokens of its two sides.
use Rattle.std.proofs.Common.{◌≡◌, ℕ, zero, suc, ◌<◌, ◌^◌, List, refl, sym, ap₂, subst, arith, slice_get, Option, Some, None}
use mathlib.Core.Path.{fun_ext}
use Rattle.ops_base.specs.declared.elements.Element.{Element}
use Rattle.net_base.specs.declared.nodes.Kind.{Kind}
use Rattle.net_base.specs.declared.nodes.Kind.TheVariants.{Join, Negated, Group, Terminal}
use Rattle.net_base.specs.declared.nodes.Node.{Node}
use Rattle.net_base.specs.declared.nodes.Alpha.{Alpha}
use Rattle.net_base.specs.Sound.{IsSound}
use Rattle.net_base.specs.Tokens.{Elements, Tokens, Giver, Nothing, Root, Memory, Out, left_giver, right_giver, giver_of_parent, giver_of_kind, out_of, given, memory_gives, elements_of, tokens_of_node, tokens_below, tokens, given_in, left_tokens, right_tokens}

-- each parent comes before its children
abbrev pub ParentsFirst : List Node → Type 0
ParentsFirst nodes = (n : ℕ) (x : Node) (p : ℕ) → slice_get nodes n ≡ Some x → x.parent ≡ Some p → p < n

pub parents_first : (alphas : List Alpha) (nodes : List Node) → IsSound alphas nodes → ParentsFirst nodes
parents_first alphas nodes sound n x p at above = (sound.each n x at).parent p above

-- each giver comes before its groups
abbrev pub GroupsLater : List Node → Type 0
GroupsLater nodes = (n : ℕ) (x : Node) (g w m : ℕ) → slice_get nodes n ≡ Some x → x.kind ≡ Group g w m → g < n

pub groups_later : (alphas : List Alpha) (nodes : List Node) → IsSound alphas nodes → GroupsLater nodes
groups_later alphas nodes sound n x g w m at kind = ((sound.each n x at).group g w m kind).before

abbrev pub GiversFirst : List Node → Type 0
GiversFirst nodes = ParentsFirst nodes × GroupsLater nodes

pub givers_first : (alphas : List Alpha) (nodes : List Node) → IsSound alphas nodes → GiversFirst nodes
givers_first alphas nodes sound = (parents_first alphas nodes sound, groups_later alphas nodes sound)

pub left_below : (nodes : List Node) → ParentsFirst nodes → (n : ℕ) (x : Node) (p : ℕ) → slice_get nodes n ≡ Some x → left_giver x ≡ Out p → p < n
left_below nodes first n x p at is = by x.parent refl is
  where
    by : (o : Option ℕ) → x.parent ≡ o → giver_of_parent o ≡ Out p → p < n
    by None e g = absurd (cc)
    by (Some q) e g = let same : q ≡ p = cc in subst (λ r. r < n) same (first n x q at e)

pub right_below : (nodes : List Node) → GroupsLater nodes → (n : ℕ) (x : Node) (p : ℕ) → slice_get nodes n ≡ Some x → right_giver x ≡ Out p → p < n
right_below nodes later n x p at is = by x.kind refl is
  where
    by : (k : Kind) → x.kind ≡ k → giver_of_kind k ≡ Out p → p < n
    by Join q e = absurd (cc)
    by Negated q e = absurd (cc)
    by (Group g w m) q e = let same : g ≡ p = cc in subst (λ r. r < n) same (later n x g w m at q)
    by (Terminal rule) q e = absurd (cc)

-- what a side is given goes by the nodes before it
given_same : (g : Giver) (memory : Tokens) (outs outs' : ℕ → Tokens) (t : List ℕ) → ((p : ℕ) (u : List ℕ) → g ≡ Out p → outs p u ≡ outs' p u) → given g memory outs t ≡ given g memory outs' t
given_same Nothing memory outs outs' t same = refl
given_same Root memory outs outs' t same = refl
given_same Memory memory outs outs' t same = refl
given_same (Out p) memory outs outs' t same = same p t refl

module _ (tags : ℕ) (el : Elements) (wm : List Element) (alphas : List Alpha) (nodes : List Node) (first : GiversFirst nodes) where
  -- the bound does not matter past the node
  pub tokens_same : (j k n : ℕ) (t : List ℕ) → n < j → n < k → tokens_below j tags el wm alphas nodes n t ≡ tokens_below k tags el wm alphas nodes n t
  tokens_same zero k n t a b = absurd (omega arith)
  tokens_same (suc j) zero n t a b = absurd (omega arith)
  tokens_same (suc j) (suc k) n t a b = by_node (λ p u f g. tokens_same j k p u f g) (slice_get nodes n) refl
    where
      by_node : ((p : ℕ) (u : List ℕ) → p < j → p < k → tokens_below j tags el wm alphas nodes p u ≡ tokens_below k tags el wm alphas nodes p u)
          → (o : Option Node) → slice_get nodes n ≡ o
          → tokens_of_node tags el wm alphas (tokens_below j tags el wm alphas nodes) o t ≡ tokens_of_node tags el wm alphas (tokens_below k tags el wm alphas nodes) o t
      by_node ih None at = refl
      by_node ih (Some x) at = ap₂ (λ l r. out_of tags el x.kind x.joins l r t) (fun_ext (λ u. left u)) (fun_ext (λ u. right u))
        where
          left : (u : List ℕ) → given (left_giver x) (memory_gives wm (slice_get alphas x.alpha)) (tokens_below j tags el wm alphas nodes) u ≡ given (left_giver x) (memory_gives wm (slice_get alphas x.alpha)) (tokens_below k tags el wm alphas nodes) u
          left u = given_same (left_giver x) (memory_gives wm (slice_get alphas x.alpha)) (tokens_below j tags el wm alphas nodes) (tokens_below k tags el wm alphas nodes) u
              (λ p v g. let low = left_below nodes first.0 n x p at g in let f : p < j = omega arith in let h : p < k = omega arith in ih p v f h)

          right : (u : List ℕ) → given (right_giver x) (memory_gives wm (slice_get alphas x.alpha)) (tokens_below j tags el wm alphas nodes) u ≡ given (right_giver x) (memory_gives wm (slice_get alphas x.alpha)) (tokens_below k tags el wm alphas nodes) u
          right u = given_same (right_giver x) (memory_gives wm (slice_get alphas x.alpha)) (tokens_below j tags el wm alphas nodes) (tokens_below k tags el wm alphas nodes) u
              (λ p v g. let low = right_below nodes first.1 n x p at g in let f : p < j = omega arith in let h : p < k = omega arith in ih p v f h)

module _ (wm : List Element) (alphas : List Alpha) (nodes : List Node) (first : GiversFirst nodes) where
  -- what a node puts out of its left and right tokens
  pub tokens_are_out : (n : ℕ) (x : Node) (t : List ℕ) → slice_get nodes n ≡ Some x
      → tokens wm alphas nodes n t ≡ out_of (2 ^ 64) (elements_of wm) x.kind x.joins (left_tokens wm alphas nodes n) (right_tokens wm alphas nodes n) t
  tokens_are_out n x t at = subst is_out (sym at) (ap₂ (λ l r. out_of (2 ^ 64) (elements_of wm) x.kind x.joins l r t) (fun_ext (λ u. left u)) (fun_ext (λ u. right u)))
    where
      is_out : Option Node → Type 0
      is_out o =
          tokens_of_node (2 ^ 64) (elements_of wm) wm alphas (tokens_below n (2 ^ 64) (elements_of wm) wm alphas nodes) o t
          ≡ out_of (2 ^ 64) (elements_of wm) x.kind x.joins (given_in wm alphas nodes left_giver o) (given_in wm alphas nodes right_giver o) t

      left : (u : List ℕ) → given (left_giver x) (memory_gives wm (slice_get alphas x.alpha)) (tokens_below n (2 ^ 64) (elements_of wm) wm alphas nodes) u ≡ given (left_giver x) (memory_gives wm (slice_get alphas x.alpha)) (tokens wm alphas nodes) u
      left u = given_same (left_giver x) (memory_gives wm (slice_get alphas x.alpha)) (tokens_below n (2 ^ 64) (elements_of wm) wm alphas nodes) (tokens wm alphas nodes) u
          (λ p v g. tokens_same (2 ^ 64) (elements_of wm) wm alphas nodes first n (suc p) p v (left_below nodes first.0 n x p at g) (omega arith))

      right : (u : List ℕ) → given (right_giver x) (memory_gives wm (slice_get alphas x.alpha)) (tokens_below n (2 ^ 64) (elements_of wm) wm alphas nodes) u ≡ given (right_giver x) (memory_gives wm (slice_get alphas x.alpha)) (tokens wm alphas nodes) u
      right u = given_same (right_giver x) (memory_gives wm (slice_get alphas x.alpha)) (tokens_below n (2 ^ 64) (elements_of wm) wm alphas nodes) (tokens wm alphas nodes) u
          (λ p v g. tokens_same (2 ^ 64) (elements_of wm) wm alphas nodes first n (suc p) p v (right_below nodes first.1 n x p at g) (omega arith))

  -- where there is no node there are none
  pub tokens_none : (n : ℕ) (t : List ℕ) → slice_get nodes n ≡ None → tokens wm alphas nodes n t ≡ 0
  tokens_none n t at = subst (λ o. tokens_of_node (2 ^ 64) (elements_of wm) wm alphas (tokens_below n (2 ^ 64) (elements_of wm) wm alphas nodes) o t ≡ 0) (sym at) refl
