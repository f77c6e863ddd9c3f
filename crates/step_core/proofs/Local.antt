-- What a node puts out for a token goes by what stands on one line alone.
use Rattle.std.proofs.Common.{◌≡◌, ℕ, ◌*◌, ◌^◌, Bool, true, false, cond, ◌==◌, List, [], ◌∷◌, refl, sym, ap, ap₂, ◌∙◌, slice_get, Option, Some, None}
use Rattle.net_base.specs.declared.nodes.Kind.{Kind}
use Rattle.net_base.specs.declared.nodes.Kind.TheVariants.{Join, Negated, Group, Terminal}
use Rattle.net_base.specs.declared.nodes.Node.{Node}
use Rattle.net_base.specs.declared.tasks.Side.TheVariants.{Left, Right}
use Rattle.net_base.specs.Tokens.{Elements, Tokens, front, last, joins_hold, goes_with, right_width, count_from, count_with, out_of, out_of_negated}
use Rattle.token_line.specs.Lawful.{out_in}
use Rattle.activation.proofs.CountBelow.{count_same}
use Rattle.step_core.specs.Machine.{Placing, KeepsOneLine}

count_local : (tags more : ℕ) (p : List ℕ → Bool) (r r' : Tokens) → ((v : List ℕ) → p v ≡ true → r v ≡ r' v) → count_from tags more p r [] ≡ count_from tags more p r' []
count_local tags more p r r' h = count_same tags more p p r r' [] (λ v. by v (p v) refl)
  where
    by : (v : List ℕ) (b : Bool) → p v ≡ b → cond b (r v) 0 ≡ cond b (r' v) 0
    by v true e = h v e
    by v false e = refl

-- the left token by which a node's token stands
home_token : Kind → List ℕ → List ℕ
home_token Join [] = []
home_token Join (x ∷ xs) = front x xs
home_token Negated t = t
home_token (Group giver width members) t = t
home_token (Terminal rule) t = t

home_in : Placing → ℕ → Option Node → List ℕ → ℕ
home_in line p None t = 0
home_in line p (Some x) t = line p Left (home_token x.kind t)

-- the line by which a node's token stands
pub home : List Node → Placing → ℕ → List ℕ → ℕ
home nodes line p t = home_in line p (slice_get nodes p) t

pub out_local : (elements : Elements) (nodes : List Node) (line : Placing) → KeepsOneLine elements nodes line → (p : ℕ) (t : List ℕ) (l r l' r' : Tokens)
    → ((u : List ℕ) → line p Left u ≡ home nodes line p t → l u ≡ l' u) → ((u : List ℕ) → line p Right u ≡ home nodes line p t → r u ≡ r' u)
    → out_in elements (slice_get nodes p) l r t ≡ out_in elements (slice_get nodes p) l' r' t
unfolding home_token home_in home
out_local elements nodes line one p t l r l' r' left right = by_node (slice_get nodes p) refl left right
  where
    by_node : (o : Option Node) → slice_get nodes p ≡ o → ((u : List ℕ) → line p Left u ≡ home_in line p o t → l u ≡ l' u) → ((u : List ℕ) → line p Right u ≡ home_in line p o t → r u ≡ r' u)
        → out_in elements o l r t ≡ out_in elements o l' r' t
    by_node None at hl hr = refl
    by_node (Some x) at hl hr = by_kind x.kind t refl hl hr
      where
        joined : (k : Kind) → x.kind ≡ k → (u r : List ℕ) → goes_with k x.joins elements u r ≡ true → line p Right r ≡ line p Left u
        joined k is u r holds = sym (one p x u r at (ap (λ q. goes_with q x.joins elements u r) is ∙ holds))

        counted : (k : Kind) (u : List ℕ) → x.kind ≡ k → ((v : List ℕ) → line p Left v ≡ line p Left u → l v ≡ l' v) → ((v : List ℕ) → line p Right v ≡ line p Left u → r v ≡ r' v)
            → out_of_negated (2 ^ 64) k x.joins elements l r u ≡ out_of_negated (2 ^ 64) k x.joins elements l' r' u
        counted k u is fl fr =
            ap₂ (λ k z. cond (k == 0) z 0)
            (count_local (2 ^ 64) (right_width k) (goes_with k x.joins elements u) r r' (λ v holds. fr v (joined k is u v holds))) (fl u refl)

        by_kind : (k : Kind) (u : List ℕ) → x.kind ≡ k → ((v : List ℕ) → line p Left v ≡ line p Left (home_token k u) → l v ≡ l' v) → ((v : List ℕ) → line p Right v ≡ line p Left (home_token k u) → r v ≡ r' v)
            → out_of (2 ^ 64) elements k x.joins l r u ≡ out_of (2 ^ 64) elements k x.joins l' r' u
        by_kind Join [] is fl fr = refl
        by_kind Join (y ∷ ys) is fl fr = by (joins_hold x.joins elements (front y ys) (last y ys)) refl
          where
            by : (b : Bool) → joins_hold x.joins elements (front y ys) (last y ys) ≡ b → cond b (l (front y ys) * r (last y ys ∷ [])) 0 ≡ cond b (l' (front y ys) * r' (last y ys ∷ [])) 0
            by true e = ap₂ ◌*◌ (fl (front y ys) refl) (fr (last y ys ∷ []) (joined Join is (front y ys) (last y ys ∷ []) e))
            by false e = refl
        by_kind Negated u is fl fr = counted Negated u is fl fr
        by_kind (Group giver width members) u is fl fr = counted (Group giver width members) u is fl fr
        by_kind (Terminal rule) u is fl fr = fl u refl

-- over no tokens it puts out none
pub out_none : (elements : Elements) (o : Option Node) (t : List ℕ) → out_in elements o (λ u. 0) (λ u. 0) t ≡ 0
out_none elements None t = refl
out_none elements (Some x) t = by x.kind t
  where
    either : (b : Bool) → ◌≡◌ {A = ℕ} (cond b 0 0) 0
    either true = refl
    either false = refl

    by : (k : Kind) (u : List ℕ) → out_of (2 ^ 64) elements k x.joins (λ v. 0) (λ v. 0) u ≡ 0
    by Join [] = refl
    by Join (y ∷ ys) = either (joins_hold x.joins elements (front y ys) (last y ys))
    by Negated u = either (count_with (2 ^ 64) Negated x.joins elements u (λ v. 0) == 0)
    by (Group giver width members) u = either (count_with (2 ^ 64) (Group giver width members) x.joins elements u (λ v. 0) == 0)
    by (Terminal rule) u = refl
