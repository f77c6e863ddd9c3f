-- At a node whose steps are those of a rule, the tokens are the rule's instantiations, each once.
use Rattle.std.proofs.Common.{◌≡◌, ◌≢◌, ℕ, zero, suc, ◌<◌, ◌≤◌, ◌*◌, ◌^◌, ◌==◌, Bool, true, false, cond, ◌⊎◌, inl, inr, subst, Option, None, List, [], ◌∷◌, refl, sym, ap, ◌∙◌, arith, slice_get, Some, length, ◌↔◌}
use Rattle.ops_base.specs.declared.elements.Element.{Element}
use Rattle.ops_base.specs.declared.conditions.Part.{Part}
use Rattle.ops_base.specs.Instances.{Meets}
use Rattle.net_base.specs.declared.nodes.Node.{Node}
use Rattle.net_base.specs.declared.nodes.Alpha.{Alpha}
use Rattle.net_base.specs.declared.normal.NormalPart.{NormalPart}
use Rattle.net_base.specs.declared.normal.NormalPart.TheVariants as part
use Rattle.net_base.specs.Normal.{normal_parts}
use Rattle.net_base.specs.declared.nodes.JoinTest.{JoinTest}
use Rattle.net_base.specs.declared.nodes.Kind.{Kind}
use Rattle.net_base.specs.declared.nodes.Kind.TheVariants.{Join, Negated, Group, Terminal}
use Rattle.net_base.specs.Tokens.{Elements, Tokens, Giver, Nothing, Root, Memory, Out, front, last, joins_hold, count_with, out_of, given, giver_of_parent, giver_of_kind, left_giver, right_giver, times_passed, memory_gives, root_gives, elements_of, tokens_of_node, tokens_below, tokens}
use Rattle.net_base.specs.Network.{IsWm}
use Rattle.net_base.proofs.Variables.{HaveBound}
use Rattle.net_base.proofs.Steps.{Step, walk, matches, steps_of, steps_above, AreSteps, IsOrdered}
use Rattle.net_base.proofs.Chains.{AreWide, GivesSmall, IsSmall, next_length, walk_is}
use Rattle.net_base.proofs.Paths.{left_walks, tokens_are_walk}
use Rattle.net_base.proofs.Instantiations.{accepts, accepted, times_least, member_of, tag_below}

root_length : (u : List ℕ) → length u ≢ 0 → root_gives u ≡ 0
root_length [] ne = absurd (ne refl)
root_length (x ∷ xs) ne = refl

root_small : IsSmall (2 ^ 64) root_gives
root_small [] = inl tt
root_small (x ∷ xs) = inr refl

memory_small : (wm : List Element) → IsWm wm → GivesSmall (2 ^ 64) wm
memory_small wm w a x = by_element (elements_of wm x) refl
  where
    none : (o : Option Alpha) → times_passed o None ≡ 0
    none None = refl
    none (Some b) = refl

    by_element : (o : Option Element) → elements_of wm x ≡ o → (x < 2 ^ 64) ⊎ (times_passed a (elements_of wm x) ≡ 0)
    by_element None e = inr (ap (times_passed a) e ∙ none a)
    by_element (Some y) e = let m = member_of wm x y e in inl (subst (λ (z : ℕ). z < 2 ^ 64) m.1 (tag_below wm w y m.0))

steps_wide : (m : ℕ) (ps : List NormalPart) → AreWide m (steps_of m ps)
steps_wide m [] = tt
steps_wide m (part.One c ∷ ps) = by_sign (λ k. steps_wide k ps) c.negated
  where
    by_sign : ((k : ℕ) → AreWide k (steps_of k ps)) → (b : Bool) → AreWide (next_length b m) (cond b (steps_of m ps) (steps_of (suc m) ps))
    by_sign ih true = ih m
    by_sign ih false = ih (suc m)
steps_wide m (part.Group cs ∷ ps) = (refl, steps_wide m ps)

module _ (wm : List Element) (w : IsWm wm) (alphas : List Alpha) (nodes : List Node) (ordered : IsOrdered nodes) (bound : ℕ) (steps : ℕ → List Step) (are : AreSteps alphas nodes bound steps) where
  -- the tokens of a terminal are those of its parent
  terminal_walk : (n k : ℕ) (node : Node) → slice_get nodes n ≡ Some node → node.kind ≡ Terminal k → ((p : ℕ) → node.parent ≡ Some p → p < bound) → (u : List ℕ)
      → tokens wm alphas nodes n u ≡ walk (2 ^ 64) (elements_of wm) wm (steps_above steps node.parent) root_gives u
  terminal_walk n k node at kind low u =
      ap (λ o. tokens_of_node (2 ^ 64) (elements_of wm) wm alphas (tokens_below n (2 ^ 64) (elements_of wm) wm alphas nodes) o u) at
      ∙ (ap (λ z. out_of (2 ^ 64) (elements_of wm) z node.joins
      (given (giver_of_parent node.parent) (memory_gives wm (slice_get alphas node.alpha)) (tokens_below n (2 ^ 64) (elements_of wm) wm alphas nodes))
      (given (giver_of_kind z) (memory_gives wm (slice_get alphas node.alpha)) (tokens_below n (2 ^ 64) (elements_of wm) wm alphas nodes)) u) kind
      ∙ left_walks (2 ^ 64) (elements_of wm) wm alphas nodes ordered bound steps are n n node
      (λ p q v lt low' here. tokens_are_walk (2 ^ 64) (elements_of wm) wm alphas nodes ordered bound steps are n p q v lt low' here) (omega arith) at node.parent refl low u)

  pub terminal_meets : (n k : ℕ) (node : Node) (ps : List Part) → HaveBound 0 ps [] → slice_get nodes n ≡ Some node → node.kind ≡ Terminal k → ((p : ℕ) → node.parent ≡ Some p → p < bound)
      → steps_above steps node.parent ≡ steps_of 0 (normal_parts 0 ps []) → (u : List ℕ) → (tokens wm alphas nodes n u ≡ 1) ↔ Meets wm ps [] u
  terminal_meets n k node ps have at kind low path u =
      let ss = steps_of 0 (normal_parts 0 ps []) in
      let e : tokens wm alphas nodes n u ≡ matches (2 ^ 64) (elements_of wm) wm ss [] u =
      terminal_walk n k node at kind low u
      ∙ (ap (λ z. walk (2 ^ 64) (elements_of wm) wm z root_gives u) path
      ∙ (walk_is (2 ^ 64) (elements_of wm) wm (memory_small wm w) ss root_gives 0 [] u (steps_wide 0 (normal_parts 0 ps [])) root_length root_small refl ∙ omega arith)) in
      (λ h. accepted wm w ps [] [] u tt have (sym e ∙ h), λ i. e ∙ accepts wm w ps [] [] u tt have i)

-- ---- at most once

kept_least : (b : Bool) (v : ℕ) → v ≤ 1 → cond b v 0 ≤ 1
kept_least true v h = h
kept_least false v h = omega arith

product_least : (a b : ℕ) → a ≤ 1 → b ≤ 1 → a * b ≤ 1
product_least zero b h k = omega arith
product_least (suc zero) b h k = omega arith
product_least (suc (suc a)) b h k = absurd (omega arith)

out_least : (tags : ℕ) (el : Elements) (kind : Kind) (tests : List JoinTest) (l r : Tokens) → ((v : List ℕ) → l v ≤ 1) → ((v : List ℕ) → r v ≤ 1) → (u : List ℕ) → out_of tags el kind tests l r u ≤ 1
out_least tags el Join tests l r left right [] = omega arith
out_least tags el Join tests l r left right (x ∷ xs) =
    kept_least (joins_hold tests el (front x xs) (last x xs)) (l (front x xs) * r (last x xs ∷ [])) (product_least (l (front x xs)) (r (last x xs ∷ [])) (left (front x xs)) (right (last x xs ∷ [])))
out_least tags el Negated tests l r left right u = kept_least (count_with tags Negated tests el u r == 0) (l u) (left u)
out_least tags el (Group giver width members) tests l r left right u = kept_least (count_with tags (Group giver width members) tests el u r == 0) (l u) (left u)
out_least tags el (Terminal rule) tests l r left right u = left u

root_least : (u : List ℕ) → root_gives u ≤ 1
root_least [] = omega arith
root_least (x ∷ xs) = omega arith

memory_least : (wm : List Element) (a : Option Alpha) (u : List ℕ) → memory_gives wm a u ≤ 1
memory_least wm a [] = omega arith
memory_least wm a (tag ∷ []) = times_least a (elements_of wm tag)
memory_least wm a (tag ∷ x ∷ xs) = omega arith

given_least : (g : Giver) (wm : List Element) (a : Option Alpha) (outs : ℕ → Tokens) → ((p : ℕ) (v : List ℕ) → outs p v ≤ 1) → (u : List ℕ) → given g (memory_gives wm a) outs u ≤ 1
given_least Nothing wm a outs each u = omega arith
given_least Root wm a outs each u = root_least u
given_least Memory wm a outs each u = memory_least wm a u
given_least (Out p) wm a outs each u = each p u

below_least : (k tags : ℕ) (el : Elements) (wm : List Element) (alphas : List Alpha) (nodes : List Node) (n : ℕ) (u : List ℕ) → tokens_below k tags el wm alphas nodes n u ≤ 1
below_least zero tags el wm alphas nodes n u = omega arith
below_least (suc k) tags el wm alphas nodes n u = by_node (λ p v. below_least k tags el wm alphas nodes p v) (slice_get nodes n)
  where
    by_node : ((p : ℕ) (v : List ℕ) → tokens_below k tags el wm alphas nodes p v ≤ 1) → (o : Option Node) → tokens_of_node tags el wm alphas (tokens_below k tags el wm alphas nodes) o u ≤ 1
    by_node ih None = omega arith
    by_node ih (Some x) =
        out_least tags el x.kind x.joins _ _
        (given_least (left_giver x) wm (slice_get alphas x.alpha) (tokens_below k tags el wm alphas nodes) ih)
        (given_least (right_giver x) wm (slice_get alphas x.alpha) (tokens_below k tags el wm alphas nodes) ih) u

-- each token stands at most once
pub tokens_least : (wm : List Element) (alphas : List Alpha) (nodes : List Node) (n : ℕ) (u : List ℕ) → tokens wm alphas nodes n u ≤ 1
tokens_least wm alphas nodes n u = below_least (suc n) (2 ^ 64) (elements_of wm) wm alphas nodes n u
