-- The tokens at appended nodes are those that these nodes had alone.
use Rattle.std.proofs.Common.{◌≡◌, ℕ, zero, suc, ◌+◌, ◌<◌, ◌^◌, true, cond, List, ◌++◌, length, map, slice_get, unwrap_or, Option, Some, None, option_map, refl, ap, ap₂, ◌∙◌, arith}
use mathlib.Core.Path.{fun_ext}
use Rattle.ops_base.specs.declared.elements.Element.{Element}
use Rattle.net_base.specs.declared.nodes.Kind.{Kind}
use Rattle.net_base.specs.declared.nodes.Kind.TheVariants.{Join, Negated, Group, Terminal}
use Rattle.net_base.specs.declared.nodes.JoinTest.{JoinTest}
use Rattle.net_base.specs.declared.nodes.Node.{Node}
use Rattle.net_base.specs.declared.nodes.Alpha.{Alpha}
use Rattle.net_base.specs.Sound.{takes_elements, IsSound}
use Rattle.net_base.specs.Tokens.{Elements, Tokens, giver_of_parent, giver_of_kind, left_giver, right_giver, out_of, given, memory_gives, elements_of, tokens_of_node, tokens_below, tokens}
use Rattle.beta_net.proofs.Lists.{get_at}
use Rattle.grow_net.specs.Behind.{kind_behind, alpha_behind, node_behind, ArePlaces}
use Rattle.grow_net.proofs.Before.{are_ordered}
use Rattle.grow_net.proofs.Behind.{new_at}

pub takes_same : (d rules : ℕ) (k : Kind) → takes_elements (kind_behind d rules k) ≡ takes_elements k
takes_same d rules Join = refl
takes_same d rules Negated = refl
takes_same d rules (Group g w m) = refl
takes_same d rules (Terminal r) = refl

out_kind : (tags : ℕ) (el : Elements) (d rules : ℕ) (k : Kind) (tests : List JoinTest) (l r : Tokens) (t : List ℕ) → out_of tags el (kind_behind d rules k) tests l r t ≡ out_of tags el k tests l r t
out_kind tags el d rules Join tests l r t = refl
out_kind tags el d rules Negated tests l r t = refl
out_kind tags el d rules (Group g w m) tests l r t = refl
out_kind tags el d rules (Terminal rule) tests l r t = refl

given_parent : (d : ℕ) (o : Option ℕ) (memory memory' : Tokens) (outs outs' : ℕ → Tokens) (t : List ℕ) → ((p : ℕ) (u : List ℕ) → o ≡ Some p → outs (d + p) u ≡ outs' p u)
    → given (giver_of_parent (option_map (λ p. d + p) o)) memory outs t ≡ given (giver_of_parent o) memory' outs' t
given_parent d None memory memory' outs outs' t h = refl
given_parent d (Some p) memory memory' outs outs' t h = h p t refl

given_kind : (d rules : ℕ) (k : Kind) (memory memory' : Tokens) (outs outs' : ℕ → Tokens) (t : List ℕ) → (takes_elements k ≡ true → memory t ≡ memory' t) → ((g w m : ℕ) (u : List ℕ) → k ≡ Group g w m → outs (d + g) u ≡ outs' g u)
    → given (giver_of_kind (kind_behind d rules k)) memory outs t ≡ given (giver_of_kind k) memory' outs' t
given_kind d rules Join memory memory' outs outs' t m h = m refl
given_kind d rules Negated memory memory' outs outs' t m h = m refl
given_kind d rules (Group g w mm) memory memory' outs outs' t m h = h g w mm t refl
given_kind d rules (Terminal r) memory memory' outs outs' t m h = refl

-- an alpha is at its place
pub alpha_new : (alphas added : List Alpha) (places : List ℕ) → ArePlaces alphas added places → (x : Node) → takes_elements x.kind ≡ true → x.alpha < length added → slice_get alphas (alpha_behind places x) ≡ slice_get added x.alpha
alpha_new alphas added places are x takes lt =
    let c = are.count in
    let g = get_at places x.alpha (omega arith) in
    ap (λ b. slice_get alphas (cond b (unwrap_or (slice_get places x.alpha) 0) 0)) takes
    ∙ (ap (λ o. slice_get alphas (unwrap_or o 0)) g.1 ∙ are.each x.alpha g.0 g.1)

module _ (alphas added : List Alpha) (N M : List Node) (rules : ℕ) (places : List ℕ) (sound : IsSound added M) (are : ArePlaces alphas added places) where
  tokens_below_new : (tags : ℕ) (el : Elements) (wm : List Element) (k j n : ℕ) (t : List ℕ) → length N + n < k → n < j
      → tokens_below k tags el wm alphas (N ++ map (node_behind (length N) rules places) M) (length N + n) t ≡ tokens_below j tags el wm added M n t
  tokens_below_new tags el wm zero j n t a b = absurd (omega arith)
  tokens_below_new tags el wm (suc k) zero n t a b = absurd (omega arith)
  tokens_below_new tags el wm (suc k) (suc j) n t a b =
      ap (λ o. tokens_of_node tags el wm alphas (tokens_below k tags el wm alphas (N ++ map (node_behind (length N) rules places) M)) o t) (new_at N M rules places n)
      ∙ by (λ p u c d. tokens_below_new tags el wm k j p u c d) (slice_get M n) refl
    where
      by : ((p : ℕ) (u : List ℕ) → length N + p < k → p < j → tokens_below k tags el wm alphas (N ++ map (node_behind (length N) rules places) M) (length N + p) u ≡ tokens_below j tags el wm added M p u)
          → (o : Option Node) → slice_get M n ≡ o
          → tokens_of_node tags el wm alphas (tokens_below k tags el wm alphas (N ++ map (node_behind (length N) rules places) M)) (option_map (node_behind (length N) rules places) o) t ≡ tokens_of_node tags el wm added (tokens_below j tags el wm added M) o t
      by ih None at = refl
      by ih (Some x) at =
          out_kind tags el (length N) rules x.kind x.joins _ _ t
          ∙ ap₂ (λ l r. out_of tags el x.kind x.joins l r t) (fun_ext (λ u. left u)) (fun_ext (λ u. right u))
        where
          left : (u : List ℕ)
              → given (giver_of_parent (option_map (λ p. length N + p) x.parent)) (memory_gives wm (slice_get alphas (alpha_behind places x))) (tokens_below k tags el wm alphas (N ++ map (node_behind (length N) rules places) M)) u
              ≡ given (left_giver x) (memory_gives wm (slice_get added x.alpha)) (tokens_below j tags el wm added M) u
          left u = given_parent (length N) x.parent _ _ _ _ u
              (λ p v e. let low = (are_ordered added M sound).0 n p x at e in let c : length N + p < k = omega arith in let d : p < j = omega arith in ih p v c d)

          right : (u : List ℕ)
              → given (giver_of_kind (kind_behind (length N) rules x.kind)) (memory_gives wm (slice_get alphas (alpha_behind places x))) (tokens_below k tags el wm alphas (N ++ map (node_behind (length N) rules places) M)) u
              ≡ given (right_giver x) (memory_gives wm (slice_get added x.alpha)) (tokens_below j tags el wm added M) u
          right u = given_kind (length N) rules x.kind _ _ _ _ u
              (λ takes. ap (λ o. memory_gives wm o u) (alpha_new alphas added places are x takes ((sound.each n x at).alpha takes)))
              (λ g w m v e. let low = (are_ordered added M sound).1 n g w m x at e in let c : length N + g < k = omega arith in let d : g < j = omega arith in ih g v c d)

  pub tokens_new : (wm : List Element) (n : ℕ) (t : List ℕ) → tokens wm alphas (N ++ map (node_behind (length N) rules places) M) (length N + n) t ≡ tokens wm added M n t
  tokens_new wm n t = tokens_below_new (2 ^ 64) (elements_of wm) wm (suc (length N + n)) (suc n) n t (omega arith) (omega arith)
