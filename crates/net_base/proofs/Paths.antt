-- What a node puts out is what the steps down to it make of the root's token.
use Rattle.std.proofs.Common.{◌≡◌, ℕ, zero, suc, ◌+◌, ◌<◌, ◌==◌, true, false, cond, List, [], ◌∷◌, ◌++◌, map, refl, sym, ap, ap₂, ◌∙◌, arith, slice_get, Option, Some, None}
use mathlib.Core.Path.{fun_ext}
use Rattle.ops_base.specs.declared.elements.Element.{Element}
use Rattle.net_base.specs.declared.nodes.Kind.{Kind}
use Rattle.net_base.specs.declared.nodes.Kind.TheVariants.{Join, Negated, Group, Terminal}
use Rattle.net_base.specs.declared.nodes.Node.{Node}
use Rattle.net_base.specs.declared.nodes.Alpha.{Alpha}
use Rattle.net_base.specs.Tokens.{Elements, Tokens, covers, count_from, out_of, out_of_join, root_gives, memory_gives, given, giver_of_parent, giver_of_kind, tokens_of_node, tokens_below}
use Rattle.net_base.proofs.Steps.{Single, Step, Alone, Many, out_of_step, walk_members, walk, joined, steps_above, single_at, IsGroupStep, IsStepOf, AreSteps, IsOrdered}

walk-append : (tags : ℕ) (el : Elements) (wm : List Element) (cs ds : List Step) (l : Tokens) (u : List ℕ) → walk tags el wm (cs ++ ds) l u ≡ walk tags el wm ds (λ v. walk tags el wm cs l v) u
walk-append tags el wm [] ds l u = refl
walk-append tags el wm (c ∷ cs) ds l u = walk-append tags el wm cs ds (λ v. out_of_step tags el wm c l v) u

walk-joined : (tags : ℕ) (el : Elements) (wm : List Element) (ss : List Single) (l : Tokens) (u : List ℕ) → walk tags el wm (map joined ss) l u ≡ walk_members el wm ss l u
walk-joined tags el wm [] l u = refl
walk-joined tags el wm (s ∷ ss) l u = walk-joined tags el wm ss (λ v. out_of_join s.tests el l (memory_gives wm s.alpha) v) u

get_before : {X : Type 0} (xs : List X) (n p : ℕ) (x : X) → slice_get xs n ≡ Some x → p < n → (y : X) × (slice_get xs p ≡ Some y)
get_before [] n p x e lt = cc
get_before (z ∷ xs) zero p x e lt = absurd (omega arith)
get_before (z ∷ xs) (suc n) zero x e lt = (z, refl)
get_before (z ∷ xs) (suc n) (suc p) x e lt = get_before xs n p x e (omega arith)

module _ (tags : ℕ) (el : Elements) (wm : List Element) (alphas : List Alpha) (nodes : List Node) (ordered : IsOrdered nodes) (bound : ℕ) (steps : ℕ → List Step) (are : AreSteps alphas nodes bound steps) where
  -- what stands at each node below k is what its steps make
  abbrev Walks : ℕ → Type 0
  Walks k = (p : ℕ) (q : Node) (v : List ℕ) → p < k → p < bound → slice_get nodes p ≡ Some q → tokens_below k tags el wm alphas nodes p v ≡ walk tags el wm (steps p) root_gives v

  pub left_walks : (k n : ℕ) (node : Node) → Walks k → n < suc k → slice_get nodes n ≡ Some node → (o : Option ℕ) → node.parent ≡ o → ((p : ℕ) → o ≡ Some p → p < bound) → (v : List ℕ)
      → given (giver_of_parent o) (memory_gives wm (slice_get alphas node.alpha)) (tokens_below k tags el wm alphas nodes) v ≡ walk tags el wm (steps_above steps o) root_gives v
  left_walks k n node ih lt at None e low v = refl
  left_walks k n node ih lt at (Some p) e low v = let h = ordered n node p at e in let under : p < k = omega (arith, h.0) in ih p h.1 v under (low p refl) h.2

  pub tokens_are_walk : (k n : ℕ) (node : Node) (u : List ℕ) → n < k → n < bound → slice_get nodes n ≡ Some node
      → tokens_below k tags el wm alphas nodes n u ≡ walk tags el wm (steps n) root_gives u
  tokens_are_walk zero n node u lt low at = absurd (omega arith)
  tokens_are_walk (suc k) n node u lt low at =
      ap (λ o. tokens_of_node tags el wm alphas (tokens_below k tags el wm alphas nodes) o u) at
      ∙ by_kind (λ p q v under low' here. tokens_are_walk k p q v under low' here) node.kind (are n node low at)
    where
      left : Walks k → (v : List ℕ) → given (giver_of_parent node.parent) (memory_gives wm (slice_get alphas node.alpha)) (tokens_below k tags el wm alphas nodes) v ≡ walk tags el wm (steps_above steps node.parent) root_gives v
      left ih v = left_walks k n node ih lt at node.parent refl (λ p e. (let h = ordered n node p at e in omega (arith, h.0))) v

      -- the tokens of the giver
      right : Walks k → (giver width members : ℕ) → (g : IsGroupStep steps n node giver width members) → (r : List ℕ)
          → tokens_below k tags el wm alphas nodes giver r ≡ walk_members el wm g.singles (λ v. walk tags el wm (steps_above steps node.parent) root_gives v) r
      right ih giver width members g r =
          let b = g.before in
          let q = get_before nodes n giver node at g.before in
          ih giver q.0 r (omega arith) (omega arith) q.1
          ∙ (ap (λ ss. walk tags el wm ss root_gives r) g.down
          ∙ (walk-append tags el wm (steps_above steps node.parent) (map joined g.singles) root_gives r
          ∙ walk-joined tags el wm g.singles (λ v. walk tags el wm (steps_above steps node.parent) root_gives v) r))

      one_more : (s : Step) → steps n ≡ steps_above steps node.parent ++ s ∷ [] → out_of_step tags el wm s (λ v. walk tags el wm (steps_above steps node.parent) root_gives v) u ≡ walk tags el wm (steps n) root_gives u
      one_more s e = sym (ap (λ ss. walk tags el wm ss root_gives u) e ∙ walk-append tags el wm (steps_above steps node.parent) (s ∷ []) root_gives u)

      by_kind : Walks k → (kind : Kind) → IsStepOf alphas steps n node kind
          → out_of tags el kind node.joins (given (giver_of_parent node.parent) (memory_gives wm (slice_get alphas node.alpha)) (tokens_below k tags el wm alphas nodes))
          (given (giver_of_kind kind) (memory_gives wm (slice_get alphas node.alpha)) (tokens_below k tags el wm alphas nodes)) u
          ≡ walk tags el wm (steps n) root_gives u
      by_kind ih Join e = ap (λ l. out_of tags el Join node.joins l (memory_gives wm (slice_get alphas node.alpha)) u) (fun_ext (left ih)) ∙ one_more (Alone false (single_at alphas node)) e
      by_kind ih Negated e = ap (λ l. out_of tags el Negated node.joins l (memory_gives wm (slice_get alphas node.alpha)) u) (fun_ext (left ih)) ∙ one_more (Alone true (single_at alphas node)) e
      by_kind ih (Group giver width members) g =
          ap₂ (λ l r. out_of tags el (Group giver width members) node.joins l r u) (fun_ext (left ih)) (fun_ext (right ih giver width members g))
          ∙ (ap (λ m. cond (count_from tags (width + m) (covers width u) (λ r. walk_members el wm g.singles (λ v. walk tags el wm (steps_above steps node.parent) root_gives v) r) [] == 0) (walk tags el wm (steps_above steps node.parent) root_gives u) 0) g.count
          ∙ one_more (Many width g.singles) g.is)
      by_kind ih (Terminal rule) e = left ih u ∙ ap (λ ss. walk tags el wm ss root_gives u) (sym e)
