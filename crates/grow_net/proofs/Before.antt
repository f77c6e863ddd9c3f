-- Nodes at the front of a list: nodes after them change neither their widths nor their tokens.
use Rattle.std.proofs.Common.{◌≡◌, ℕ, zero, suc, ◌+◌, ◌<◌, ◌^◌, ◌&&◌, true, List, ◌++◌, length, slice_get, Option, Some, None, refl, ap, ap₂, subst, ◌∙◌, arith}
use mathlib.Core.Path.{fun_ext}
use Rattle.ops_base.specs.declared.elements.Element.{Element}
use Rattle.net_base.specs.declared.nodes.Kind.{Kind}
use Rattle.net_base.specs.declared.nodes.Kind.TheVariants.{Join, Negated, Group, Terminal}
use Rattle.net_base.specs.declared.nodes.Node.{Node}
use Rattle.net_base.specs.declared.nodes.Alpha.{Alpha}
use Rattle.net_base.specs.Sound.{depth_of, depth_above, added_tags, width_above, width_of_node, width_below, left_width, is_join, takes_elements, up_parent, up_node, goes_up, IsSound}
use Rattle.net_base.specs.Tokens.{Elements, Tokens, Giver, Nothing, Root, Memory, Out, giver_of_parent, giver_of_kind, left_giver, right_giver, out_of, given, given_in, memory_gives, elements_of, tokens_of_node, tokens_below, tokens, left_tokens, right_tokens}
use Rattle.grow_net.proofs.Joined.{get_same}

-- parents and givers come before
abbrev pub AreOrdered : List Node → Type 0
AreOrdered nodes =
    ((n p : ℕ) (x : Node) → slice_get nodes n ≡ Some x → x.parent ≡ Some p → p < n)
    × ((n g w m : ℕ) (x : Node) → slice_get nodes n ≡ Some x → x.kind ≡ Group g w m → g < n)

pub are_ordered : (alphas : List Alpha) (nodes : List Node) → IsSound alphas nodes → AreOrdered nodes
are_ordered alphas nodes sound = (
  λ n p x at e. (sound.each n x at).parent p e,
  λ n g w m x at e. ((sound.each n x at).group g w m e).before,
)

module _ (N C : List Node) where
  pub old_at : (n : ℕ) → n < length N → slice_get (N ++ C) n ≡ slice_get N n
  old_at n lt = get_same N C n lt

  pub depth_old : (o : Option ℕ) → ((p : ℕ) → o ≡ Some p → p < length N) → depth_above (N ++ C) o ≡ depth_above N o
  depth_old None low = refl
  depth_old (Some p) low = ap depth_of (old_at p (low p refl))

  module _ (ord : AreOrdered N) where
    -- ---- widths of the earlier nodes

    width_below_old : (k n : ℕ) → n < length N → width_below k (N ++ C) n ≡ width_below k N n
    width_below_old zero n lt = refl
    width_below_old (suc k) n lt = ap (width_of_node (width_below k (N ++ C))) (old_at n lt) ∙ by (λ p l. width_below_old k p l) (slice_get N n) refl
      where
        by : ((p : ℕ) → p < length N → width_below k (N ++ C) p ≡ width_below k N p) → (o : Option Node) → slice_get N n ≡ o → width_of_node (width_below k (N ++ C)) o ≡ width_of_node (width_below k N) o
        by ih None at = refl
        by ih (Some x) at = ap (λ w. w + added_tags x.kind) (up x.parent refl)
          where
            up : (o : Option ℕ) → x.parent ≡ o → width_above (width_below k (N ++ C)) o ≡ width_above (width_below k N) o
            up None e = refl
            up (Some p) e = let a = ord.0 n p x at e in ih p (omega arith)

    pub left_width_old : (o : Option ℕ) → ((p : ℕ) → o ≡ Some p → p < length N) → left_width (N ++ C) o ≡ left_width N o
    left_width_old None low = refl
    left_width_old (Some p) low = width_below_old (suc p) p (low p refl)

    pub goes_up_old : (k : ℕ) (o : Option ℕ) (n : ℕ) → n < length N → goes_up (N ++ C) k o n ≡ goes_up N k o n
    goes_up_old zero o n lt = refl
    goes_up_old (suc k) o n lt = ap (up_node (goes_up (N ++ C) k o)) (old_at n lt) ∙ by (λ p l. goes_up_old k o p l) (slice_get N n) refl
      where
        by : ((p : ℕ) → p < length N → goes_up (N ++ C) k o p ≡ goes_up N k o p) → (q : Option Node) → slice_get N n ≡ q → up_node (goes_up (N ++ C) k o) q ≡ up_node (goes_up N k o) q
        by ih None at = refl
        by ih (Some x) at = ap (λ b. is_join x.kind && b) (up x.parent refl)
          where
            up : (q : Option ℕ) → x.parent ≡ q → up_parent (goes_up (N ++ C) k o) q ≡ up_parent (goes_up N k o) q
            up None e = refl
            up (Some p) e = let a = ord.0 n p x at e in ih p (omega arith)

-- ---- tokens

-- the input of a side: the output of the nodes before it, and the elements of working memory if it takes them
pub given_alike : (g : Giver) (memory memory' : Tokens) (outs outs' : ℕ → Tokens) (t : List ℕ) → (g ≡ Memory → memory t ≡ memory' t) → ((p : ℕ) (u : List ℕ) → g ≡ Out p → outs p u ≡ outs' p u)
    → given g memory outs t ≡ given g memory' outs' t
given_alike Nothing memory memory' outs outs' t m o = refl
given_alike Root memory memory' outs outs' t m o = refl
given_alike Memory memory memory' outs outs' t m o = m refl
given_alike (Out p) memory memory' outs outs' t m o = o p t refl

pub parent_gives : (o : Option ℕ) (p : ℕ) → giver_of_parent o ≡ Out p → o ≡ Some p
parent_gives None p e = absurd (cc)
parent_gives (Some q) p e = let same : q ≡ p = cc in ap Some same

pub parent_no_memory : (o : Option ℕ) → giver_of_parent o ≡ Memory → ⊥
parent_no_memory None e = absurd (cc)
parent_no_memory (Some q) e = absurd (cc)

pub memory_takes : (k : Kind) → giver_of_kind k ≡ Memory → takes_elements k ≡ true
memory_takes Join e = refl
memory_takes Negated e = refl
memory_takes (Group g w m) e = absurd (cc)
memory_takes (Terminal r) e = absurd (cc)

pub kind_gives : (nodes : List Node) → AreOrdered nodes → (n : ℕ) (x : Node) → slice_get nodes n ≡ Some x → (p : ℕ) → right_giver x ≡ Out p → p < n
kind_gives nodes ord n x at p = by x.kind refl
  where
    by : (k : Kind) → x.kind ≡ k → giver_of_kind k ≡ Out p → p < n
    by Join q e = absurd (cc)
    by Negated q e = absurd (cc)
    by (Group g w m) q e = let same : g ≡ p = cc in subst (λ r. r < n) same (ord.1 n g w m x at q)
    by (Terminal r) q e = absurd (cc)

module _ (A more : List Alpha) (N C : List Node) (sound : IsSound A N) where
  alpha_old : (n : ℕ) (x : Node) → slice_get N n ≡ Some x → takes_elements x.kind ≡ true → slice_get (A ++ more) x.alpha ≡ slice_get A x.alpha
  alpha_old n x at takes = get_same A more x.alpha ((sound.each n x at).alpha takes)

  memory_old : (wm : List Element) (n : ℕ) (x : Node) → slice_get N n ≡ Some x → (t : List ℕ) → right_giver x ≡ Memory → memory_gives wm (slice_get (A ++ more) x.alpha) t ≡ memory_gives wm (slice_get A x.alpha) t
  memory_old wm n x at t m = ap (λ o. memory_gives wm o t) (alpha_old n x at (memory_takes x.kind m))

  tokens_below_old : (tags : ℕ) (el : Elements) (wm : List Element) (k j n : ℕ) (t : List ℕ) → n < k → n < j → n < length N
      → tokens_below k tags el wm (A ++ more) (N ++ C) n t ≡ tokens_below j tags el wm A N n t
  tokens_below_old tags el wm zero j n t a b lt = absurd (omega arith)
  tokens_below_old tags el wm (suc k) zero n t a b lt = absurd (omega arith)
  tokens_below_old tags el wm (suc k) (suc j) n t a b lt =
      ap (λ o. tokens_of_node tags el wm (A ++ more) (tokens_below k tags el wm (A ++ more) (N ++ C)) o t) (old_at N C n lt)
      ∙ by (λ p u c d l. tokens_below_old tags el wm k j p u c d l) (slice_get N n) refl
    where
      by : ((p : ℕ) (u : List ℕ) → p < k → p < j → p < length N → tokens_below k tags el wm (A ++ more) (N ++ C) p u ≡ tokens_below j tags el wm A N p u)
          → (o : Option Node) → slice_get N n ≡ o
          → tokens_of_node tags el wm (A ++ more) (tokens_below k tags el wm (A ++ more) (N ++ C)) o t ≡ tokens_of_node tags el wm A (tokens_below j tags el wm A N) o t
      by ih None at = refl
      by ih (Some x) at = ap₂ (λ l r. out_of tags el x.kind x.joins l r t) (fun_ext (λ u. left u)) (fun_ext (λ u. right u))
        where
          ord : AreOrdered N
          ord = are_ordered A N sound

          left : (u : List ℕ) → given (left_giver x) (memory_gives wm (slice_get (A ++ more) x.alpha)) (tokens_below k tags el wm (A ++ more) (N ++ C)) u ≡ given (left_giver x) (memory_gives wm (slice_get A x.alpha)) (tokens_below j tags el wm A N) u
          left u = given_alike (left_giver x) (memory_gives wm (slice_get (A ++ more) x.alpha)) (memory_gives wm (slice_get A x.alpha)) (tokens_below k tags el wm (A ++ more) (N ++ C)) (tokens_below j tags el wm A N) u
              (λ m. absurd (parent_no_memory x.parent m))
              (λ p v g. let low = ord.0 n p x at (parent_gives x.parent p g) in let c : p < k = omega arith in let d : p < j = omega arith in let l : p < length N = omega arith in ih p v c d l)

          right : (u : List ℕ) → given (right_giver x) (memory_gives wm (slice_get (A ++ more) x.alpha)) (tokens_below k tags el wm (A ++ more) (N ++ C)) u ≡ given (right_giver x) (memory_gives wm (slice_get A x.alpha)) (tokens_below j tags el wm A N) u
          right u = given_alike (right_giver x) (memory_gives wm (slice_get (A ++ more) x.alpha)) (memory_gives wm (slice_get A x.alpha)) (tokens_below k tags el wm (A ++ more) (N ++ C)) (tokens_below j tags el wm A N) u
              (memory_old wm n x at u)
              (λ p v g. let low = kind_gives N ord n x at p g in let c : p < k = omega arith in let d : p < j = omega arith in let l : p < length N = omega arith in ih p v c d l)

  -- the output of the earlier nodes
  pub tokens_old : (wm : List Element) (n : ℕ) (t : List ℕ) → n < length N → tokens wm (A ++ more) (N ++ C) n t ≡ tokens wm A N n t
  tokens_old wm n t lt = tokens_below_old (2 ^ 64) (elements_of wm) wm (suc n) (suc n) n t (omega arith) (omega arith) lt

  -- and the tokens at their sides
  pub left_old : (wm : List Element) (n : ℕ) (t : List ℕ) → n < length N → left_tokens wm (A ++ more) (N ++ C) n t ≡ left_tokens wm A N n t
  left_old wm n t lt = ap (λ o. given_in wm (A ++ more) (N ++ C) left_giver o t) (old_at N C n lt) ∙ by (slice_get N n) refl
    where
      by : (o : Option Node) → slice_get N n ≡ o → given_in wm (A ++ more) (N ++ C) left_giver o t ≡ given_in wm A N left_giver o t
      by None at = refl
      by (Some x) at =
          given_alike (left_giver x) (memory_gives wm (slice_get (A ++ more) x.alpha)) (memory_gives wm (slice_get A x.alpha)) (tokens wm (A ++ more) (N ++ C)) (tokens wm A N) t
          (λ m. absurd (parent_no_memory x.parent m))
          (λ p v g. let low = (are_ordered A N sound).0 n p x at (parent_gives x.parent p g) in tokens_old wm p v (omega arith))

  pub right_old : (wm : List Element) (n : ℕ) (t : List ℕ) → n < length N → right_tokens wm (A ++ more) (N ++ C) n t ≡ right_tokens wm A N n t
  right_old wm n t lt = ap (λ o. given_in wm (A ++ more) (N ++ C) right_giver o t) (old_at N C n lt) ∙ by (slice_get N n) refl
    where
      by : (o : Option Node) → slice_get N n ≡ o → given_in wm (A ++ more) (N ++ C) right_giver o t ≡ given_in wm A N right_giver o t
      by None at = refl
      by (Some x) at =
          given_alike (right_giver x) (memory_gives wm (slice_get (A ++ more) x.alpha)) (memory_gives wm (slice_get A x.alpha)) (tokens wm (A ++ more) (N ++ C)) (tokens wm A N) t
          (memory_old wm n x at t)
          (λ p v g. let low = kind_gives N (are_ordered A N sound) n x at p g in tokens_old wm p v (omega arith))
