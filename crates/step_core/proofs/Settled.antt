-- Where each sum is what its giver puts out, just the tokens over working memory stand: by induction on the number of the node.
use Rattle.std.proofs.Common.{◌≡◌, ℕ, zero, suc, ◌<◌, ◌^◌, List, pos, refl, sym, ap, ap₂, ◌∙◌, arith, slice_get, Option, Some, None}
use mathlib.Core.Path.{fun_ext}
use Rattle.std.proofs.lemmas.List.Elements.{recursion_from_All}
use Rattle.ops_base.specs.declared.elements.Element.{Element}
use Rattle.net_base.specs.declared.nodes.Kind.{Kind}
use Rattle.net_base.specs.declared.nodes.Kind.TheVariants.{Join, Negated, Group, Terminal}
use Rattle.net_base.specs.declared.nodes.JoinTest.{JoinTest}
use Rattle.net_base.specs.declared.nodes.Node.{Node}
use Rattle.net_base.specs.declared.nodes.Alpha.{Alpha}
use Rattle.net_base.specs.declared.tasks.Side.{Side}
use Rattle.net_base.specs.declared.tasks.Side.TheVariants.{Left, Right}
use Rattle.net_base.specs.Sound.{left_width, IsSound}
use Rattle.net_base.specs.Tokens.{Elements, Giver, Nothing, Root, Memory, Out, left_giver, right_giver, giver_of_parent, giver_of_kind, out_of, given, given_in, memory_gives, tokens, left_tokens, right_tokens}
use Rattle.token_line.specs.Bags.{Bag, standing, standing_at}
use Rattle.token_line.specs.Lawful.{giver_in, giver_of, out_in, out_at}
use Rattle.step_core.specs.Phases.{sums_over}
use Rattle.step_core.specs.Laws.{put_out}
use Rattle.step_core.proofs.Given.{parents_first, givers_first, groups_later, left_below, right_below, tokens_are_out, tokens_none}
use Rattle.step_core.proofs.Named.{NameWm, left_are_tokens, right_are_tokens, out_same}

pub put_out_same : (elements : Elements) (nodes : List Node) (memory memory' b : Bag) (g : Giver) (n : ℕ) (s : Side) (t : List ℕ) → (g ≡ Memory → memory n s t ≡ memory' n s t)
    → put_out elements nodes memory b g n s t ≡ put_out elements nodes memory' b g n s t
put_out_same elements nodes memory memory' b Nothing n s t same = refl
put_out_same elements nodes memory memory' b Root n s t same = refl
put_out_same elements nodes memory memory' b Memory n s t same = same refl
put_out_same elements nodes memory memory' b (Out p) n s t same = refl

-- a giver comes before the nodes to which it gives
pub giver_below : (alphas : List Alpha) (nodes : List Node) → IsSound alphas nodes → (n : ℕ) (s : Side) (p : ℕ) → giver_of nodes n s ≡ Out p → p < n
giver_below alphas nodes sound n s p is = by_node (slice_get nodes n) s refl is
  where
    by_node : (o : Option Node) (side : Side) → slice_get nodes n ≡ o → giver_in o side ≡ Out p → p < n
    by_node None side at g = absurd (cc)
    by_node (Some x) Left at g = left_below nodes (parents_first alphas nodes sound) n x p at g
    by_node (Some x) Right at g = right_below nodes (groups_later alphas nodes sound) n x p at g

module _ (elements : Elements) (alphas : List Alpha) (nodes : List Node) (sound : IsSound alphas nodes) (wm : List Element) (name : NameWm elements wm) where
  -- what a node puts out over the sums of its tokens over working memory
  pub out_is_tokens : (b : Bag) (p : ℕ) → ((s : Side) (u : List ℕ) → b p s u ≡ sums_over wm alphas nodes p s u) → (t : List ℕ) → out_at elements nodes b p t ≡ tokens wm alphas nodes p t
  out_is_tokens b p are t = by_node (slice_get nodes p) refl
    where
      by_node : (o : Option Node) → slice_get nodes p ≡ o → out_in elements o (standing_at b p Left) (standing_at b p Right) t ≡ tokens wm alphas nodes p t
      by_node None at = sym (tokens_none wm alphas nodes (givers_first alphas nodes sound) p t at)
      by_node (Some x) at =
          ap₂ (λ l r. out_of (2 ^ 64) elements x.kind x.joins l r t) (fun_ext (λ u. ap standing (are Left u))) (fun_ext (λ u. ap standing (are Right u)))
          ∙ (out_same elements wm name (2 ^ 64) (left_width nodes x.parent) x.kind x.joins (left_tokens wm alphas nodes p) (right_tokens wm alphas nodes p)
          (left_are_tokens wm alphas nodes p x at) (λ takes. right_are_tokens wm alphas nodes p x at takes)
          (recursion_from_All (λ (j : JoinTest). j.place < left_width nodes x.parent) x.joins (sound.each p x at).places) t
          ∙ sym (tokens_are_out wm alphas nodes (givers_first alphas nodes sound) p x t at))

  -- what stands over working memory is what the givers put out
  pub over_is_given : (b : Bag) (n : ℕ) (s : Side) (t : List ℕ) → ((p : ℕ) (s' : Side) (u : List ℕ) → p < n → b p s' u ≡ sums_over wm alphas nodes p s' u)
      → put_out elements nodes (sums_over wm alphas nodes) b (giver_of nodes n s) n s t ≡ sums_over wm alphas nodes n s t
  over_is_given b n s t below = by_node (slice_get nodes n) s refl
    where
      by_node : (o : Option Node) (side : Side) → slice_get nodes n ≡ o → put_out elements nodes (sums_over wm alphas nodes) b (giver_in o side) n side t ≡ sums_over wm alphas nodes n side t
      by_node None Left at = sym (ap (λ o. pos (given_in wm alphas nodes left_giver o t)) at)
      by_node None Right at = sym (ap (λ o. pos (given_in wm alphas nodes right_giver o t)) at)
      by_node (Some x) Left at = by_parent x.parent refl ∙ sym (ap (λ o. pos (given_in wm alphas nodes left_giver o t)) at)
        where
          by_parent : (o : Option ℕ) → x.parent ≡ o → put_out elements nodes (sums_over wm alphas nodes) b (giver_of_parent o) n Left t ≡ pos (given (giver_of_parent o) (memory_gives wm (slice_get alphas x.alpha)) (tokens wm alphas nodes) t)
          by_parent None e = refl
          by_parent (Some p) e = let low : p < n = parents_first alphas nodes sound n x p at e in ap pos (out_is_tokens b p (λ s' u. below p s' u low) t)
      by_node (Some x) Right at = by_kind x.kind refl
        where
          by_kind : (k : Kind) → x.kind ≡ k → put_out elements nodes (sums_over wm alphas nodes) b (giver_of_kind k) n Right t ≡ sums_over wm alphas nodes n Right t
          by_kind Join e = refl
          by_kind Negated e = refl
          by_kind (Group g w m) e =
              let low : g < n = groups_later alphas nodes sound n x g w m at e in
              ap pos (out_is_tokens b g (λ s' u. below g s' u low) t)
              ∙ sym (ap (λ o. pos (given_in wm alphas nodes right_giver o t)) at ∙ ap (λ k. pos (given (giver_of_kind k) (memory_gives wm (slice_get alphas x.alpha)) (tokens wm alphas nodes) t)) e)
          by_kind (Terminal rule) e =
              sym (ap (λ o. pos (given_in wm alphas nodes right_giver o t)) at ∙ ap (λ k. pos (given (giver_of_kind k) (memory_gives wm (slice_get alphas x.alpha)) (tokens wm alphas nodes) t)) e)

  pub settled : (memory b : Bag) → ((n : ℕ) (s : Side) (t : List ℕ) → giver_of nodes n s ≡ Memory → memory n s t ≡ sums_over wm alphas nodes n s t)
      → ((n : ℕ) (s : Side) (t : List ℕ) → b n s t ≡ put_out elements nodes memory b (giver_of nodes n s) n s t)
      → (k n : ℕ) (s : Side) (t : List ℕ) → n < k → b n s t ≡ sums_over wm alphas nodes n s t
  settled memory b is_memory is_given zero n s t lt = absurd (omega arith)
  settled memory b is_memory is_given (suc k) n s t lt =
      is_given n s t
      ∙ (put_out_same elements nodes memory (sums_over wm alphas nodes) b (giver_of nodes n s) n s t (is_memory n s t)
      ∙ over_is_given b n s t (λ p s' u low. let less : p < k = omega arith in settled memory b is_memory is_given k p s' u less))
