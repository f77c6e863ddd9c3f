-- What a node puts out, of the tokens that stand at its sides, and how a task changes it.
use Rattle.std.proofs.Common.{◌≡◌, ℕ, ◌^◌, ◌==◌, Bool, true, false, cond, List, [], pos, ◌+ℤ◌, refl, ap, ap₂, ◌∙◌, slice_get, Option, Some, None}
use Rattle.std.specs.List.{All}
use Rattle.std.proofs.lemmas.List.Elements.{All-nil}
use Rattle.work_store.specs.Stored.{Stored}
use Rattle.net_base.specs.declared.nodes.Kind.{Kind}
use Rattle.net_base.specs.declared.nodes.Kind.TheVariants.{Join, Negated, Group, Terminal}
use Rattle.net_base.specs.declared.nodes.Node.{Node}
use Rattle.net_base.specs.declared.tasks.Side.{Side}
use Rattle.net_base.specs.declared.tasks.Side.TheVariants.{Left, Right}
use Rattle.net_base.specs.declared.tasks.Task.{Task}
use Rattle.net_base.specs.Sound.{is_join, is_negated}
use Rattle.net_base.specs.Tokens.{Elements, Tokens, count_with, goes_with, right_width, out_of, out_of_join, out_of_negated}
use Rattle.token_line.specs.declared.line.Line.{Line}
use Rattle.token_line.specs.Bags.{Bag, after, standing_at}
use Rattle.token_line.specs.Held.{Agrees}
use Rattle.token_line.specs.Lawful.{out_in, out_at}
use Rattle.token_line.specs.Lines.{sum_in}
use Rattle.activation.specs.inner.Putting.{Put, changes}
use Rattle.activation.specs.Acting.{IsOutOf, matching, number_put, signed}
use Rattle.activation.proofs.Arrived.{still}
use Rattle.activation.proofs.CountBelow.{count_same}
use Rattle.activation.proofs.JoinChange.{nothing_moves, out_same}

-- ---- the same tokens put out the same

out_in_same : (elements : Elements) (o : Option Node) (l r l' r' : Tokens) → ((v : List ℕ) → l v ≡ l' v) → ((v : List ℕ) → r v ≡ r' v) → (t : List ℕ) → out_in elements o l r t ≡ out_in elements o l' r' t
out_in_same elements None l r l' r' left right t = refl
out_in_same elements (Some node) l r l' r' left right t = by node.kind
  where
    counted : (k : Kind) → out_of_negated (2 ^ 64) k node.joins elements l r t ≡ out_of_negated (2 ^ 64) k node.joins elements l' r' t
    counted k =
        ap₂ (λ c n. cond (c == 0) n 0)
        (count_same (2 ^ 64) (right_width k) (goes_with k node.joins elements t) (goes_with k node.joins elements t) r r' [] (λ v. ap (λ n. cond (goes_with k node.joins elements t v) n 0) (right v))) (left t)

    by : (k : Kind) → out_of (2 ^ 64) elements k node.joins l r t ≡ out_of (2 ^ 64) elements k node.joins l' r' t
    by Join = out_same node.joins elements l r l' r' left right t
    by Negated =
        counted Negated
    by (Group giver width members) = counted (Group giver width members)
    by (Terminal rule) = left t

pub out_at_same : (elements : Elements) (nodes : List Node) (b b' : Bag) (n : ℕ) → ((side : Side) (v : List ℕ) → standing_at b n side v ≡ standing_at b' n side v) → (t : List ℕ) → out_at elements nodes b n t ≡ out_at elements nodes b' n t
out_at_same elements nodes b b' n same t =
    out_in_same elements (slice_get nodes n) (standing_at b n Left) (standing_at b n Right) (standing_at b' n Left) (standing_at b' n Right) (same Left) (same Right) t

-- ---- by the kind of the node

pub join_out : (elements : Elements) (nodes : List Node) (b : Bag) (n : ℕ) (x : Node) → slice_get nodes n ≡ Some x → is_join x.kind ≡ true
    → (t : List ℕ) → out_at elements nodes b n t ≡ out_of_join x.joins elements (standing_at b n Left) (standing_at b n Right) t
join_out elements nodes b n x at join t = ap (λ o. out_in elements o (standing_at b n Left) (standing_at b n Right) t) at ∙ by x.kind join
  where
    by : (k : Kind) → is_join k ≡ true → out_of (2 ^ 64) elements k x.joins (standing_at b n Left) (standing_at b n Right) t ≡ out_of_join x.joins elements (standing_at b n Left) (standing_at b n Right) t
    by Join e = refl
    by Negated e = cc
    by (Group giver width members) e = cc
    by (Terminal rule) e = cc

pub negated_out : (elements : Elements) (nodes : List Node) (b : Bag) (n : ℕ) (x : Node) → slice_get nodes n ≡ Some x → is_negated x.kind ≡ true
    → (t : List ℕ) → out_at elements nodes b n t ≡ cond (matching elements x b n t == 0) (standing_at b n Left t) 0
negated_out elements nodes b n x at negated t = ap (λ o. out_in elements o (standing_at b n Left) (standing_at b n Right) t) at ∙ by x.kind negated
  where
    by : (k : Kind) → is_negated k ≡ true → out_of (2 ^ 64) elements k x.joins (standing_at b n Left) (standing_at b n Right) t ≡ cond (count_with (2 ^ 64) k x.joins elements t (standing_at b n Right) == 0) (standing_at b n Left t) 0
    by Join e = cc
    by Negated e = refl
    by (Group giver width members) e = refl
    by (Terminal rule) e = cc

-- ---- the change of it

-- what is put out, with the sign, is the change of what the node puts out, and fits
pub record IsChange (nodes : List Node) (s : Stored) (line : Line) (x : Task) (plus : Bool) (puts : List Put) : Type 0 where
  pub fit : All (λ p. IsOutOf nodes s x.node p.token) puts
  pub change : (elements : Elements) (t : List ℕ) → Agrees s elements
      → signed plus (number_put t puts) +ℤ pos (out_at elements nodes (sum_in line) x.node t) ≡ pos (out_at elements nodes (after (sum_in line) x) x.node t)

-- a task that changes how often no token stands
pub unchanged : (nodes : List Node) (s : Stored) (line : Line) (x : Task) → changes (sum_in line x.node x.side x.token) x.plus ≡ false → (plus : Bool) → IsChange nodes s line x plus []
unchanged nodes s line x same plus = record {
  fit = All-nil (λ (p : Put). IsOutOf nodes s x.node p.token);
  change = λ elements t agrees.
      nothing_moves plus 0 _ _ refl (out_at_same elements nodes (sum_in line) (after (sum_in line) x) x.node (λ side v. still (sum_in line) x same x.node side v) t);
}
