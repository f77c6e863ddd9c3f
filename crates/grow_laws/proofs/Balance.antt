-- The tokens of a network are balanced with what is due at the nodes that are appended to it.
use Rattle.std.proofs.Common.{◌≡◌, ℕ, ◌+◌, ◌-◌, ◌<◌, ◌≤◌, Bool, true, false, cond, List, ◌++◌, pos, ◌+ℤ◌, length, slice_get, nat_le, Option, Some, None, refl, sym, ap, ap₂, subst, ◌∙◌, arith}
use mathlib.Core.Path.{fun_ext}
use Rattle.std.proofs.lemmas.Int.{ints}
use Rattle.std.proofs.lemmas.Bool.Decides.{nat_tests}
use Rattle.std.proofs.lemmas.Option.{slice_get_past}
use Rattle.ops_base.specs.declared.elements.Element.{Element}
use Rattle.net_base.specs.declared.nodes.Node.{Node}
use Rattle.net_base.specs.declared.nodes.Alpha.{Alpha}
use Rattle.net_base.specs.declared.tasks.Side.{Side}
use Rattle.net_base.specs.declared.tasks.Side.TheVariants.{Left, Right}
use Rattle.net_base.specs.declared.tasks.Task.{Task}
use Rattle.net_base.specs.Sound.{IsSound}
use Rattle.net_base.specs.Tokens.{Elements, Tokens, Giver, Nothing, Root, Memory, Out, left_giver, right_giver, given, given_in, memory_gives}
use Rattle.net_base.proofs.Instantiations.{member_of}
use Rattle.token_line.specs.Bags.{signs, standing, standing_at}
use Rattle.token_line.specs.Lawful.{giver_in, giver_of, out_in, out_at}
use Rattle.step_core.specs.Phases.{sums_over}
use Rattle.step_core.specs.Laws.{NamesWm, put_out, IsBalanced}
use Rattle.step_core.proofs.Named.{NameWm}
use Rattle.step_core.proofs.Fed.{element_side}
use Rattle.step_core.proofs.Local.{out_none}
use Rattle.step_core.proofs.Settled.{giver_below, over_is_given}
use Rattle.grow_net.specs.Behind.{StandApart}
use Rattle.grow_net.proofs.Joined.{get_behind}
use Rattle.grow_net.proofs.Before.{old_at, left_old, right_old}
use Rattle.grow_laws.specs.Growing.{outside, AreDue, DueLaw}

pub same_some : {X : Type 0} (x y : X) → Some x ≡ Some y → x ≡ y
same_some x y e = cc

pub name_wm : (elements : Elements) (wm : List Element) → NamesWm elements wm → NameWm elements wm
name_wm elements wm names tag e at = let m = member_of wm tag e at in subst (λ k. elements k ≡ Some e) m.1 (names e m.0)

-- there is no token at a node that does not exist
pub nothing_past : (wm : List Element) (alphas : List Alpha) (nodes : List Node) (n : ℕ) → length nodes ≤ n → (s : Side) (t : List ℕ) → sums_over wm alphas nodes n s t ≡ pos 0
nothing_past wm alphas nodes n le Left t = ap (λ o. pos (given_in wm alphas nodes left_giver o t)) (slice_get_past nodes n le)
nothing_past wm alphas nodes n le Right t = ap (λ o. pos (given_in wm alphas nodes right_giver o t)) (slice_get_past nodes n le)

module _ (elements : Elements) (A more : List Alpha) (N C : List Node) (wm : List Element) (sound : IsSound A N) (stand : StandApart N C) (name : NameWm elements wm) where
  pub sums_old : (n : ℕ) (s : Side) (t : List ℕ) → n < length N → sums_over wm (A ++ more) (N ++ C) n s t ≡ sums_over wm A N n s t
  sums_old n Left t lt = ap pos (left_old A more N C sound wm n t lt)
  sums_old n Right t lt = ap pos (right_old A more N C sound wm n t lt)

  -- the earlier nodes have exactly what they are given
  given_old : (n : ℕ) (s : Side) (t : List ℕ) → n < length N
      → put_out elements (N ++ C) (sums_over wm (A ++ more) (N ++ C)) (sums_over wm A N) (giver_of (N ++ C) n s) n s t ≡ sums_over wm A N n s t
  given_old n s t lt =
      ap (λ o. put_out elements (N ++ C) (sums_over wm (A ++ more) (N ++ C)) (sums_over wm A N) (giver_in o s) n s t) (old_at N C n lt)
      ∙ (by_giver (giver_of N n s) refl ∙ over_is_given elements A N sound wm name (sums_over wm A N) n s t (λ p s' u low. refl))
    where
      by_giver : (g : Giver) → giver_of N n s ≡ g
          → put_out elements (N ++ C) (sums_over wm (A ++ more) (N ++ C)) (sums_over wm A N) g n s t ≡ put_out elements N (sums_over wm A N) (sums_over wm A N) g n s t
      by_giver Nothing e = refl
      by_giver Root e = refl
      by_giver Memory e = sums_old n s t lt
      by_giver (Out p) e =
          let low = giver_below A N sound n s p e in
          ap (λ o. pos (out_in elements o (standing_at (sums_over wm A N) p Left) (standing_at (sums_over wm A N) p Right) t)) (old_at N C p (omega (arith, low, lt)))

  -- an appended node has had no output
  nothing_out : (p : ℕ) (t : List ℕ) → length N ≤ p → out_at elements (N ++ C) (sums_over wm A N) p t ≡ 0
  nothing_out p t le =
      ap₂ (λ (l : Tokens) (r : Tokens). out_in elements (slice_get (N ++ C) p) l r t) (fun_ext (λ u. ap standing (nothing_past wm A N p le Left u))) (fun_ext (λ u. ap standing (nothing_past wm A N p le Right u)))
      ∙ out_none elements (slice_get (N ++ C) p) t

  -- so it must get what the root and working memory give
  given_new : (n : ℕ) (s : Side) (t : List ℕ) → length N ≤ n
      → pos (outside wm (A ++ more) (slice_get (N ++ C) n) s t) ≡ put_out elements (N ++ C) (sums_over wm (A ++ more) (N ++ C)) (sums_over wm A N) (giver_of (N ++ C) n s) n s t
  given_new n s t le = by_node (slice_get (N ++ C) n) refl
    where
      by_node : (o : Option Node) → slice_get (N ++ C) n ≡ o
          → pos (outside wm (A ++ more) o s t) ≡ put_out elements (N ++ C) (sums_over wm (A ++ more) (N ++ C)) (sums_over wm A N) (giver_in o s) n s t
      by_node None at = refl
      by_node (Some x) at = by_giver (giver_in (Some x) s) refl
        where
          in_chain : slice_get C (n - length N) ≡ Some x
          in_chain = sym (get_behind N C (n - length N)) ∙ (ap (slice_get (N ++ C)) (let z : length N + (n - length N) ≡ n = omega (arith, le) in z) ∙ at)

          past : (side : Side) (p : ℕ) → giver_in (Some x) side ≡ Out p → length N ≤ p
          past Left p e = stand.left (n - length N) p x in_chain e
          past Right p e = stand.right (n - length N) p x in_chain e

          by_giver : (g : Giver) → giver_in (Some x) s ≡ g
              → pos (given g (memory_gives wm (slice_get (A ++ more) x.alpha)) (λ p u. 0) t) ≡ put_out elements (N ++ C) (sums_over wm (A ++ more) (N ++ C)) (sums_over wm A N) g n s t
          by_giver Nothing e = refl
          by_giver Root e = refl
          by_giver Memory e =
              let is = element_side (A ++ more) (N ++ C) n s (ap (λ o. giver_in o s) at ∙ e) in
              let same = same_some is.node x (sym is.at ∙ at) in
              sym (ap (λ side. sums_over wm (A ++ more) (N ++ C) n side t) is.right ∙ (is.gives wm t ∙ ap (λ (z : Node). pos (memory_gives wm (slice_get (A ++ more) z.alpha) t)) same))
          by_giver (Out p) e = sym (ap pos (nothing_out p t (past s p e)))

  pub due_balance : (tasks : List Task) → AreDue wm (A ++ more) (N ++ C) (length N) tasks → IsBalanced elements (N ++ C) (sums_over wm (A ++ more) (N ++ C)) (sums_over wm A N) tasks
  due_balance tasks due n s t = by (nat_le (length N) n) refl
    where
      by : (b : Bool) → nat_le (length N) n ≡ b
          → sums_over wm A N n s t +ℤ signs n s t tasks ≡ put_out elements (N ++ C) (sums_over wm (A ++ more) (N ++ C)) (sums_over wm A N) (giver_of (N ++ C) n s) n s t
      by true e =
          let le : length N ≤ n = grind (arith, nat_tests) in
          let a = due n s t ∙ ap (λ b. pos (cond b (outside wm (A ++ more) (slice_get (N ++ C) n) s t) 0)) e in
          let c = nothing_past wm A N n le s t in
          let d = given_new n s t le in omega (arith, ints, a, c, d)
      by false e =
          let lt : n < length N = grind (arith, nat_tests) in
          let a = due n s t ∙ ap (λ b. pos (cond b (outside wm (A ++ more) (slice_get (N ++ C) n) s t) 0)) e in
          let d = given_old n s t lt in omega (arith, ints, a, d)

pub due_law : DueLaw
due_law elements alphas more nodes chain wm tasks sound stand names due = due_balance elements alphas more nodes chain wm sound stand (name_wm elements wm names) tasks due
