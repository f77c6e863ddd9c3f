-- A task that became an entry, with the tasks for the children of its node, acts.
use Rattle.std.proofs.Common.{◌≡◌, ℕ, zero, suc, ◌+◌, ◌&&◌, Bool, true, false, Option, None, List, [], ◌∷◌, ◌++◌, pos, ◌+ℤ◌, refl, sym, ap, ap₂, subst, ◌∙◌, arith, length, slice_get, Some}
use Rattle.std.specs.List.{All}
use Rattle.std.proofs.lemmas.Bool.{eqb-true}
use Rattle.std.proofs.lemmas.Bool.Decides.{Decides-eqb}
use Rattle.std.proofs.lemmas.List.Elements.{All-from_recursion, recursion_from_All}
use Rattle.work_store.specs.Stored.{Stored}
use Rattle.net_base.specs.declared.nodes.Alpha.{Alpha}
use Rattle.net_base.specs.declared.nodes.Kind.{Kind}
use Rattle.net_base.specs.declared.nodes.Kind.TheVariants.{Join, Negated, Group, Terminal}
use Rattle.net_base.specs.declared.nodes.Node.{Node}
use Rattle.net_base.specs.declared.tasks.Side.{Side}
use Rattle.net_base.specs.declared.tasks.Side.TheVariants.{Left, Right}
use Rattle.net_base.specs.declared.tasks.Task.{Task}
use Rattle.net_base.specs.Sound.{IsSound, added_tags, goes_up, is_giver, is_join, is_parent, is_terminal, left_width, up_node, up_parent, width}
use Rattle.net_base.specs.Tokens.{Elements, Out}
use Rattle.token_line.specs.declared.line.Entry.{Entry}
use Rattle.token_line.specs.declared.line.Line.{Line}
use Rattle.token_line.specs.Bags.{after, signs}
use Rattle.token_line.specs.Held.{Agrees, Fits, TaskFits, is_right_wide}
use Rattle.token_line.specs.Lawful.{IsChildOf, IsLawful, giver_of, out_at}
use Rattle.token_line.specs.Lines.{sum_in}
use Rattle.token_line.proofs.Fitting.{fits_at, left_is_wide, node_of}
use Rattle.activation.specs.inner.Children.{Target, child, children_at, children_of, targets, targets_of}
use Rattle.activation.specs.inner.Putting.{Put}
use Rattle.activation.specs.inner.Effects.{Effect}
use Rattle.activation.specs.Acting.{Acts, IsEffect, IsOutOf}
use Rattle.activation.proofs.Childhood.{IsChild, are_children, child_is, giver_is, times_among}
use Rattle.activation.proofs.PutOutLemmas.{one_added}
use Rattle.activation.proofs.Widths.{width_is}
use Rattle.activation.proofs.Signed.{all_children, child_signs, times_in}

no_items : {X : Type 0} (xs : List X) → length xs ≡ 0 → xs ≡ []
no_items [] e = refl
no_items (x ∷ xs) e = absurd (omega arith)

-- ---- the giver of a group is so wide

-- going up joins each one takes away a tag
up_wide : (alphas : List Alpha) (nodes : List Node) → IsSound alphas nodes → (k : ℕ) (parent : Option ℕ) (n : ℕ) → goes_up nodes k parent n ≡ true → width nodes n ≡ left_width nodes parent + k
up_wide alphas nodes sound zero None n up = absurd (cc)
up_wide alphas nodes sound zero (Some p) n up = ap (width nodes) (sym (eqb-true p n up)) ∙ omega arith
up_wide alphas nodes sound (suc k) parent n up = by_node (λ q u. up_wide alphas nodes sound k parent q u) (slice_get nodes n) refl up
  where
    by_parent : ((q : ℕ) → goes_up nodes k parent q ≡ true → width nodes q ≡ left_width nodes parent + k)
        → (x : Node) → slice_get nodes n ≡ Some x → (j : Bool) → is_join x.kind ≡ j → (o : Option ℕ) → x.parent ≡ o → (j && up_parent (goes_up nodes k parent) o) ≡ true → width nodes n ≡ left_width nodes parent + suc k
    by_parent ih x at false j o q u = absurd (cc)
    by_parent ih x at true j None q u = absurd (cc)
    by_parent ih x at true j (Some p) q u =
        let w = width_is nodes (λ m p' y there e. (sound.each m y there).parent p' e) n x at in
        let a = ap (left_width nodes) q in
        let one : added_tags x.kind ≡ 1 = one_added x.kind j in
        omega (arith, w, a, one, ih p u)

    by_node : ((q : ℕ) → goes_up nodes k parent q ≡ true → width nodes q ≡ left_width nodes parent + k)
        → (o : Option Node) → slice_get nodes n ≡ o → up_node (goes_up nodes k parent) o ≡ true → width nodes n ≡ left_width nodes parent + suc k
    by_node ih None at u = absurd (cc)
    by_node ih (Some x) at u = by_parent ih x at (is_join x.kind) refl x.parent refl u

pub giver_wide : (alphas : List Alpha) (nodes : List Node) → IsSound alphas nodes → (n : ℕ) (y : Node) → slice_get nodes n ≡ Some y → (giver w m : ℕ) → y.kind ≡ Group giver w m → width nodes giver ≡ w + m
giver_wide alphas nodes sound n y at giver w m q =
    let g = (sound.each n y at).group giver w m q in
    let u = up_wide alphas nodes sound m y.parent giver g.down in
    omega (arith, u, g.wide)

module _ (alphas : List Alpha) (nodes : List Node) (sound : IsSound alphas nodes) (s : Stored) (x : Task) (fits : TaskFits nodes s x) (e : Effect) where
  its_node : (node : Node) × (slice_get nodes x.node ≡ Some node)
  its_node = node_of nodes s x.node x.side x.token fits

  made_are : children_at (slice_get nodes x.node) e.plus e.puts ≡ children_of (targets its_node.0) e.plus e.puts
  made_are = ap (λ o. children_at o e.plus e.puts) its_node.1

  -- ---- what holds of each child

  each_child : (P : Task → Type 0) → ((c : Target) (p : Put) → IsChild nodes x.node c.1 c.0 → IsOutOf nodes s x.node p.token → P (child e.plus p.token c))
      → All (λ p. IsOutOf nodes s x.node p.token) e.puts → All P (children_at (slice_get nodes x.node) e.plus e.puts)
  each_child P each fit =
      subst (All P) (sym made_are)
      (All-from_recursion P (children_of (targets its_node.0) e.plus e.puts)
      (all_children P (λ (c : Target). IsChild nodes x.node c.1 c.0) (λ p. IsOutOf nodes s x.node p.token) e.plus each (targets its_node.0) e.puts
      (are_children nodes sound.children sound.rights x.node its_node.0 its_node.1) (recursion_from_All (λ p. IsOutOf nodes s x.node p.token) e.puts fit)))

  child_fits : (c : Target) (p : Put) → IsChild nodes x.node c.1 c.0 → IsOutOf nodes s x.node p.token → TaskFits nodes s (child e.plus p.token c)
  child_fits c p is out = by c.0 is
    where
      by_parent : (y : Node) → slice_get nodes c.1 ≡ Some y → (o : Option ℕ) → y.parent ≡ o → is_parent o x.node ≡ true → left_width nodes y.parent ≡ width nodes x.node
      by_parent y at None q g = absurd (cc)
      by_parent y at (Some k) q g = ap (left_width nodes) q ∙ ap (width nodes) (eqb-true k x.node g)

      by_kind : (y : Node) → slice_get nodes c.1 ≡ Some y → (k : Kind) → y.kind ≡ k → is_giver k x.node ≡ true → is_right_wide y.kind p.token ≡ true
      by_kind y at Join q g = absurd (cc)
      by_kind y at Negated q g = absurd (cc)
      by_kind y at (Group giver w m) q g =
          let here : giver ≡ x.node = eqb-true giver x.node g in
          let wide = giver_wide alphas nodes sound c.1 y at giver w m q in
          subst (λ k. is_right_wide k p.token ≡ true) (sym q) ((Decides-eqb (length p.token) (w + m)).1 (out.width ∙ (ap (width nodes) (sym here) ∙ wide)))
      by_kind y at (Terminal rule) q g = absurd (cc)

      by : (d : Side) → IsChild nodes x.node c.1 d → Fits nodes s c.1 d p.token
      by Left i = fits_at nodes s c.1 i.node i.at Left p.token (left_is_wide nodes i.node p.token (out.width ∙ sym (by_parent i.node i.at i.node.parent refl i.given))) out.held
      by Right i = fits_at nodes s c.1 i.node i.at Right p.token (by_kind i.node i.at i.node.kind refl i.given) out.held

  -- ---- the law

  module _ (line : Line) (effect : IsEffect nodes s line x e) where
    change_at : (elements : Elements) → Agrees s elements → (n : ℕ) (side : Side) (t : List ℕ) → giver_of nodes n side ≡ Out x.node
        → signs n side t (children_at (slice_get nodes x.node) e.plus e.puts) +ℤ pos (out_at elements nodes (sum_in line) x.node t) ≡ pos (out_at elements nodes (after (sum_in line) x) x.node t)
    change_at elements agrees n side t given = by (is_terminal its_node.0.kind) refl
      where
        once : times_in side n (targets its_node.0) ≡ 1
        once = times_among nodes sound.children sound.rights x.node n side its_node.0 its_node.1 (child_is nodes x.node n side given)

        by : (b : Bool) → is_terminal its_node.0.kind ≡ b
            → signs n side t (children_at (slice_get nodes x.node) e.plus e.puts) +ℤ pos (out_at elements nodes (sum_in line) x.node t) ≡ pos (out_at elements nodes (after (sum_in line) x) x.node t)
        by false inner =
            ap (λ z. z +ℤ pos (out_at elements nodes (sum_in line) x.node t)) (ap (signs n side t) made_are ∙ child_signs side n t (targets its_node.0) e.plus e.puts once)
            ∙ effect.change its_node.0 elements t its_node.1 inner agrees
        by true ends =
            let bare = (sound.each x.node its_node.0 its_node.1).terminal ends in
            let none : targets its_node.0 ≡ [] = ap₂ targets_of (no_items its_node.0.children bare.0) (no_items its_node.0.rights bare.1) in
            let bad : ◌≡◌ {A = ℕ} 0 1 = sym (ap (times_in side n) none) ∙ once in absurd (omega (arith, bad))

    lawful : (elements : Elements) → Agrees s elements → IsLawful elements nodes (sum_in line) (record { task = x; children = children_at (slice_get nodes x.node) e.plus e.puts })
    lawful elements agrees = record {
      below = each_child (IsChildOf nodes x.node) (λ c p is out. giver_is nodes x.node c.1 c.0 is) effect.fit;
      change = change_at elements agrees;
    }

-- the line after its new entry, and what came after the tasks that were there
pub acted : (alphas : List Alpha) (nodes : List Node) → IsSound alphas nodes → (s : Stored) (x : Task) → TaskFits nodes s x
    → (old new : Line) (before now : List Task) (effect : Effect) (e : Entry) → IsEffect nodes s old x effect
    → e.task ≡ x → e.children ≡ children_at (slice_get nodes x.node) effect.plus effect.puts
    → ((n : ℕ) (side : Side) (t : List ℕ) → sum_in new n side t ≡ after (sum_in old) x n side t) → new.entries.items ≡ old.entries.items ++ e ∷ []
    → now ≡ before ++ e.children → Acts nodes s x old new before now
acted alphas nodes sound s x fits old new before now effect e is task children sums entries given = record {
  entry = e;
  task = task;
  entries = entries;
  sums = sums;
  lawful = λ elements agrees. subst (IsLawful elements nodes (sum_in old)) same (lawful alphas nodes sound s x fits effect old is elements agrees);
  fit = subst (All (TaskFits nodes s)) (sym children) (each_child alphas nodes sound s x fits effect (TaskFits nodes s) (child_fits alphas nodes sound s x fits effect) is.fit);
  given = given;
}
  where
    same : record { task = x; children = children_at (slice_get nodes x.node) effect.plus effect.puts } ≡ e
    same = ap₂ (λ a b. record { task = a; children = b }) (sym task) (sym children)
