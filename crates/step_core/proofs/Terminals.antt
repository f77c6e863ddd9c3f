-- Each token stands at most once over working memory, and at the terminal of a rule just its instantiations stand.
use Rattle.std.proofs.Common.{◌≡◌, ◌≤◌, ◌<◌, ◌^◌, ◌⊎◌, inl, inr, ℕ, zero, suc, Bool, true, false, cond, List, [], ◌∷◌, pos, refl, sym, ap, subst, ◌∙◌, arith, slice_get, length, Option, Some, None}
use Rattle.std.proofs.lemmas.Int.{ints}
use Rattle.std.proofs.lemmas.Option.{slice_get_within, slice_get_cases}
use Rattle.ops_base.specs.declared.elements.Element.{Element}
use Rattle.net_base.specs.declared.nodes.Kind.{Kind}
use Rattle.net_base.specs.declared.nodes.Kind.TheVariants.{Join, Negated, Group, Terminal}
use Rattle.net_base.specs.declared.nodes.Node.{Node}
use Rattle.net_base.specs.declared.nodes.Alpha.{Alpha}
use Rattle.net_base.specs.declared.tasks.Side.TheVariants.{Left}
use Rattle.net_base.specs.Sound.{IsSound}
use Rattle.net_base.specs.Network.{IsTerminalOf}
use Rattle.net_base.specs.Tokens.{root_gives, times_passed, passes_alpha, memory_gives, given, giver_of_parent, giver_of_kind, left_giver, right_giver, given_in, elements_of, out_of, tokens, left_tokens, right_tokens}
use Rattle.net_base.proofs.Steps.{IsOrdered}
use Rattle.net_base.proofs.Terminals.{tokens_least}
use Rattle.step_core.specs.Phases.{total}
use Rattle.step_core.specs.Laws.{OnceLaw, TerminalLaw}
use Rattle.step_core.proofs.Given.{givers_first, tokens_are_out}

-- ---- at most once

passes_least : (a : Option Alpha) (o : Option Element) → times_passed a o ≤ 1
passes_least None o = omega arith
passes_least (Some a) None = omega arith
passes_least (Some a) (Some e) = by (passes_alpha a e)
  where
    by : (b : Bool) → ◌≤◌ (cond b 1 0) 1
    by true = omega arith
    by false = omega arith

memory_least : (wm : List Element) (a : Option Alpha) (t : List ℕ) → memory_gives wm a t ≤ 1
memory_least wm a [] = omega arith
memory_least wm a (tag ∷ []) = passes_least a (elements_of wm tag)
memory_least wm a (tag ∷ x ∷ xs) = omega arith

root_least : (t : List ℕ) → root_gives t ≤ 1
root_least [] = omega arith
root_least (x ∷ xs) = omega arith

there : {X : Type 0} (xs : List X) (i : ℕ) → i < length xs → (x : X) × (slice_get xs i ≡ Some x)
there xs i lt = elim (slice_get_cases xs i).1 [ inl h ↦ (h.0, h.2) | inr h ↦ absurd (omega (arith, h.0)) ]

ordered : (alphas : List Alpha) (nodes : List Node) → IsSound alphas nodes → IsOrdered nodes
ordered alphas nodes sound n x p at above =
    let low = (sound.each n x at).parent p above in
    let last = slice_get_within nodes n x at in
    let within : p < length nodes = omega arith in
    let q = there nodes p within in
    (low, q.0, q.1)

pub once_law : OnceLaw
once_law wm alphas nodes sound n t = (by_left (slice_get nodes n) refl, by_right (slice_get nodes n))
  where
    by_parent : (o : Option ℕ) (x : Node) → slice_get nodes n ≡ Some x → x.parent ≡ o → given (giver_of_parent o) (memory_gives wm (slice_get alphas x.alpha)) (tokens wm alphas nodes) t ≤ 1
    by_parent None x at e = root_least t
    by_parent (Some p) x at e = tokens_least wm alphas nodes p t

    by_left : (o : Option Node) → slice_get nodes n ≡ o → given_in wm alphas nodes left_giver o t ≤ 1
    by_left None at = omega arith
    by_left (Some x) at = by_parent x.parent x at refl

    by_kind : (k : Kind) (a : Option Alpha) → given (giver_of_kind k) (memory_gives wm a) (tokens wm alphas nodes) t ≤ 1
    by_kind Join a = memory_least wm a t
    by_kind Negated a = memory_least wm a t
    by_kind (Group g w m) a = tokens_least wm alphas nodes g t
    by_kind (Terminal rule) a = omega arith

    by_right : (o : Option Node) → given_in wm alphas nodes right_giver o t ≤ 1
    by_right None = omega arith
    by_right (Some x) = by_kind x.kind (slice_get alphas x.alpha)

-- ---- at terminals

pub terminal_law : TerminalLaw
terminal_law net rules line wm bags is well hold n k x at kind t = (
  (λ h. (here.meaning wm well t).0 (omega (arith, ints, sum_is, h)), λ i. let h = (here.meaning wm well t).1 i in omega (arith, ints, sum_is, h)),
  by (tokens wm net.alphas net.nodes n t) sum_is (here.once wm t),
)
  where
    here : IsTerminalOf net rules k n
    here =
        let found = is.each k (is.only n k x at kind) in
        subst (IsTerminalOf net rules k) (sym (is.one n found.0 k x found.1.node at found.1.at kind found.1.kind)) found.1

    sum_is : total bags n Left t ≡ pos (tokens wm net.alphas net.nodes n t)
    sum_is =
        hold.all n Left t
        ∙ ap pos (sym (tokens_are_out wm net.alphas net.nodes (givers_first net.alphas net.nodes net.sound) n x t at
        ∙ ap (λ (q : Kind). out_of (2 ^ 64) (elements_of wm) q x.joins (left_tokens wm net.alphas net.nodes n) (right_tokens wm net.alphas net.nodes n) t) kind))

    by : (v : ℕ) → total bags n Left t ≡ pos v → v ≤ 1 → (total bags n Left t ≡ pos 1) ⊎ (total bags n Left t ≡ pos 0)
    by zero e le = inr e
    by (suc zero) e le = inl e
    by (suc (suc v)) e le = absurd (omega arith)
