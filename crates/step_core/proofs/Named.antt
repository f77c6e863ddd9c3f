-- A token that stands over working memory names elements of it, so what a node puts out goes by any function that names these.
use Rattle.std.proofs.Common.{◌≡◌, ◌≢◌, ℕ, zero, suc, ◌+◌, ◌*◌, ◌<◌, ◌^◌, Bool, true, false, cond, ◌==◌, ◌&&◌, List, [], ◌∷◌, length, refl, sym, ap, ap₂, subst, ◌∙◌, arith, slice_get, slice_index, Option, Some, None}
use Rattle.std.specs.List.{AllByRecursion}
use Rattle.ops_base.specs.declared.elements.Element.{Element}
use Rattle.ops_base.specs.Values.{holds_of}
use Rattle.net_base.specs.declared.nodes.Kind.{Kind}
use Rattle.net_base.specs.declared.nodes.Kind.TheVariants.{Join, Negated, Group, Terminal}
use Rattle.net_base.specs.declared.nodes.JoinTest.{JoinTest}
use Rattle.net_base.specs.declared.nodes.Node.{Node}
use Rattle.net_base.specs.declared.nodes.Alpha.{Alpha}
use Rattle.net_base.specs.Sound.{added_tags, takes_elements, width_above, width_of_node, width_below, width, left_width}
use Rattle.net_base.specs.Tokens.{Elements, Tokens, front, last, count_with, goes_with, joins_hold, field_in, out_of, root_gives, times_passed, memory_gives, given, giver_of_parent, giver_of_kind, left_giver, right_giver, elements_of, tokens_of_node, tokens_below, tokens, given_in, left_tokens, right_tokens}
use Rattle.activation.proofs.CountBelow.{count_same}

-- a tag of an element of working memory
abbrev pub IsIn : List Element → ℕ → Type 0
IsIn wm tag = (e : Element) × (elements_of wm tag ≡ Some e)

-- a token of this many tags, each of an element of working memory
pub record IsToken (wm : List Element) (m : ℕ) (t : List ℕ) : Type 0 where
  pub long : length t ≡ m
  pub all : AllByRecursion (IsIn wm) t

-- each token that stands is one
abbrev pub AreTokens : List Element → ℕ → Tokens → Type 0
AreTokens wm m l = (t : List ℕ) → l t ≢ 0 → IsToken wm m t

-- ---- a token of one tag more

front_length : (x : ℕ) (xs : List ℕ) → length (front x xs) ≡ length xs
front_length x [] = refl
front_length x (y ∷ ys) = ap suc (front_length y ys)

all_of_front : (P : ℕ → Type 0) (x : ℕ) (xs : List ℕ) → AllByRecursion P (front x xs) → P (last x xs) → AllByRecursion P (x ∷ xs)
all_of_front P x [] f l = (l, tt)
all_of_front P x (y ∷ ys) f l = (f.0, all_of_front P y ys f.1 l)

-- ---- what stands

kept_some : (b : Bool) (l : ℕ) → cond b l 0 ≢ 0 → l ≢ 0
kept_some true l ne = ne
kept_some false l ne = absurd (ne refl)

product_some : (l r : ℕ) → l * r ≢ 0 → (l ≢ 0) × (r ≢ 0)
product_some zero r ne = absurd (ne (omega arith))
product_some (suc l) zero ne = absurd (ne (omega arith))
product_some (suc l) (suc r) ne = (λ e. absurd (omega arith), λ e. absurd (omega arith))

pub root_tokens : (wm : List Element) → AreTokens wm 0 root_gives
root_tokens wm [] ne = record { long = refl; all = tt }
root_tokens wm (x ∷ xs) ne = absurd (ne refl)

passed_some : (a : Option Alpha) (o : Option Element) → times_passed a o ≢ 0 → (e : Element) × (o ≡ Some e)
passed_some None o ne = absurd (ne refl)
passed_some (Some a) None ne = absurd (ne refl)
passed_some (Some a) (Some e) ne = (e, refl)

pub memory_tokens : (wm : List Element) (a : Option Alpha) → AreTokens wm 1 (memory_gives wm a)
memory_tokens wm a [] ne = absurd (ne refl)
memory_tokens wm a (tag ∷ []) ne = record { long = refl; all = (passed_some a (elements_of wm tag) ne, tt) }
memory_tokens wm a (tag ∷ x ∷ xs) ne = absurd (ne refl)

-- what a node puts out of tokens
out_tokens : (tags : ℕ) (el : Elements) (wm : List Element) (m : ℕ) (kind : Kind) (tests : List JoinTest) (l r : Tokens) → AreTokens wm m l → (takes_elements kind ≡ true → AreTokens wm 1 r) → AreTokens wm (m + added_tags kind) (out_of tags el kind tests l r)
out_tokens tags el wm m Join tests l r left right [] ne = absurd (ne refl)
out_tokens tags el wm m Join tests l r left right (x ∷ xs) ne =
    let both = product_some (l (front x xs)) (r (last x xs ∷ [])) (kept_some (joins_hold tests el (front x xs) (last x xs)) (l (front x xs) * r (last x xs ∷ [])) ne) in
    let a = left (front x xs) both.0 in
    record {
      long = omega (arith, a.long, front_length x xs);
      all = all_of_front (IsIn wm) x xs a.all (right refl (last x xs ∷ []) both.1).all.0;
    }
out_tokens tags el wm m Negated tests l r left right t ne =
    let a = left t (kept_some (count_with tags Negated tests el t r == 0) (l t) ne) in record { long = omega (arith, a.long); all = a.all }
out_tokens tags el wm m (Group giver w k) tests l r left right t ne =
    let a = left t (kept_some (count_with tags (Group giver w k) tests el t r == 0) (l t) ne) in record { long = omega (arith, a.long); all = a.all }
out_tokens tags el wm m (Terminal rule) tests l r left right t ne =
    let a = left t ne in record { long = omega (arith, a.long); all = a.all }

left_tokens_of : (wm : List Element) (memory : Tokens) (widths : ℕ → ℕ) (outs : ℕ → Tokens) → ((p : ℕ) → AreTokens wm (widths p) (outs p))
    → (o : Option ℕ) → AreTokens wm (width_above widths o) (given (giver_of_parent o) memory outs)
left_tokens_of wm memory widths outs each None t ne = root_tokens wm t ne
left_tokens_of wm memory widths outs each (Some p) t ne = each p t ne

right_tokens_of : (wm : List Element) (alpha : Option Alpha) (outs : ℕ → Tokens) (kind : Kind) → takes_elements kind ≡ true → AreTokens wm 1 (given (giver_of_kind kind) (memory_gives wm alpha) outs)
right_tokens_of wm alpha outs Join takes t ne = memory_tokens wm alpha t ne
right_tokens_of wm alpha outs Negated takes t ne = memory_tokens wm alpha t ne
right_tokens_of wm alpha outs (Group giver w k) takes t ne = absurd (cc)
right_tokens_of wm alpha outs (Terminal rule) takes t ne = absurd (cc)

module _ (tags : ℕ) (el : Elements) (wm : List Element) (alphas : List Alpha) (nodes : List Node) where
  -- the tokens of a node have its width
  node_tokens : (k n : ℕ) → AreTokens wm (width_below k nodes n) (tokens_below k tags el wm alphas nodes n)
  node_tokens zero n t ne = absurd (ne refl)
  node_tokens (suc k) n t ne = by_node (λ p. node_tokens k p) (slice_get nodes n) t ne
    where
      by_node : ((p : ℕ) → AreTokens wm (width_below k nodes p) (tokens_below k tags el wm alphas nodes p))
          → (o : Option Node) → AreTokens wm (width_of_node (width_below k nodes) o) (tokens_of_node tags el wm alphas (tokens_below k tags el wm alphas nodes) o)
      by_node ih None u some = absurd (some refl)
      by_node ih (Some x) u some =
          out_tokens tags el wm (width_above (width_below k nodes) x.parent) x.kind x.joins
          (given (left_giver x) (memory_gives wm (slice_get alphas x.alpha)) (tokens_below k tags el wm alphas nodes))
          (given (right_giver x) (memory_gives wm (slice_get alphas x.alpha)) (tokens_below k tags el wm alphas nodes))
          (left_tokens_of wm (memory_gives wm (slice_get alphas x.alpha)) (width_below k nodes) (tokens_below k tags el wm alphas nodes) ih x.parent)
          (λ takes. right_tokens_of wm (slice_get alphas x.alpha) (tokens_below k tags el wm alphas nodes) x.kind takes) u some

module _ (wm : List Element) (alphas : List Alpha) (nodes : List Node) where
  pub left_are_tokens : (n : ℕ) (x : Node) → slice_get nodes n ≡ Some x → AreTokens wm (left_width nodes x.parent) (left_tokens wm alphas nodes n)
  left_are_tokens n x at t ne =
      left_tokens_of wm (memory_gives wm (slice_get alphas x.alpha)) (width nodes) (tokens wm alphas nodes) (λ p u some. node_tokens (2 ^ 64) (elements_of wm) wm alphas nodes (suc p) p u some) x.parent t
      (λ e. ne (ap (λ o. given_in wm alphas nodes left_giver o t) at ∙ e))

  -- the right tokens of a group are those of its giver
  pub group_tokens : (n : ℕ) (x : Node) → slice_get nodes n ≡ Some x → (g w m : ℕ) → x.kind ≡ Group g w m → AreTokens wm (width nodes g) (right_tokens wm alphas nodes n)
  group_tokens n x at g w m kind t ne =
      node_tokens (2 ^ 64) (elements_of wm) wm alphas nodes (suc g) g t
      (λ e. ne (ap (λ o. given_in wm alphas nodes right_giver o t) at ∙ (ap (λ k. given (giver_of_kind k) (memory_gives wm (slice_get alphas x.alpha)) (tokens wm alphas nodes) t) kind ∙ e)))

  pub right_are_tokens : (n : ℕ) (x : Node) → slice_get nodes n ≡ Some x → takes_elements x.kind ≡ true → AreTokens wm 1 (right_tokens wm alphas nodes n)
  right_are_tokens n x at takes t ne =
      right_tokens_of wm (slice_get alphas x.alpha) (tokens wm alphas nodes) x.kind takes t (λ e. ne (ap (λ o. given_in wm alphas nodes right_giver o t) at ∙ e))

-- ---- other functions that name the elements of working memory

abbrev pub NameWm : Elements → List Element → Type 0
NameWm elements wm = (tag : ℕ) (e : Element) → elements_of wm tag ≡ Some e → elements tag ≡ Some e

module _ (elements : Elements) (wm : List Element) (name : NameWm elements wm) where
  named_same : (tag : ℕ) → IsIn wm tag → elements tag ≡ elements_of wm tag
  named_same tag i = name tag i.0 i.1 ∙ sym i.1

  at_place : (t : List ℕ) (place : ℕ) → AllByRecursion (IsIn wm) t → place < length t → elements (slice_index t place) ≡ elements_of wm (slice_index t place)
  at_place [] place all low = absurd (omega arith)
  at_place (x ∷ xs) zero all low = named_same x all.0
  at_place (x ∷ xs) (suc i) all low = let less : i < length xs = omega arith in at_place xs i all.1 less

  joins_same : (m : ℕ) (t : List ℕ) (e : ℕ) → IsToken wm m t → IsIn wm e → (tests : List JoinTest) → AllByRecursion (λ j. j.place < m) tests
      → joins_hold tests elements t e ≡ joins_hold tests (elements_of wm) t e
  joins_same m t e is here [] low = refl
  joins_same m t e is here (j ∷ js) low =
      let within : j.place < length t = omega (arith, is.long, low.0) in
      ap₂ ◌&&◌ (ap₂ (λ a b. holds_of j.pred (field_in a j.field) (field_in b j.other)) (named_same e here) (at_place t j.place is.all within))
      (joins_same m t e is here js low.1)

  either_none : (b c : Bool) → ◌≡◌ {A = ℕ} (cond b 0 0) (cond c 0 0)
  either_none true true = refl
  either_none true false = refl
  either_none false true = refl
  either_none false false = refl

  first_in : (u : List ℕ) → IsToken wm 1 u → IsIn wm (slice_index u 0)
  first_in [] is = let z = is.long in absurd (omega (arith, z))
  first_in (x ∷ xs) is = is.all.0

  pub out_same : (tags m : ℕ) (kind : Kind) (tests : List JoinTest) (l r : Tokens) → AreTokens wm m l → (takes_elements kind ≡ true → AreTokens wm 1 r) → AllByRecursion (λ j. j.place < m) tests
      → (t : List ℕ) → out_of tags elements kind tests l r t ≡ out_of tags (elements_of wm) kind tests l r t
  out_same tags m Join tests l r left right low [] = refl
  out_same tags m Join tests l r left right low (x ∷ xs) = by (l (front x xs)) (r (last x xs ∷ [])) refl refl
    where
      here : Elements → Bool
      here el = joins_hold tests el (front x xs) (last x xs)

      by : (v w : ℕ) → l (front x xs) ≡ v → r (last x xs ∷ []) ≡ w → cond (here elements) (v * w) 0 ≡ cond (here (elements_of wm)) (v * w) 0
      by zero w e f = subst (λ z. cond (here elements) z 0 ≡ cond (here (elements_of wm)) z 0) (omega arith) (either_none (here elements) (here (elements_of wm)))
      by (suc v) zero e f = subst (λ z. cond (here elements) z 0 ≡ cond (here (elements_of wm)) z 0) (omega arith) (either_none (here elements) (here (elements_of wm)))
      by (suc v) (suc w) e f =
          let a = left (front x xs) (λ z. absurd (omega arith)) in
          let b = right refl (last x xs ∷ []) (λ z. absurd (omega arith)) in
          ap (λ j. cond j (suc v * suc w) 0) (joins_same m (front x xs) (last x xs) a b.all.0 tests low)
  out_same tags m Negated tests l r left right low t = by (l t) refl
    where
      free : Elements → Bool
      free el = count_with tags Negated tests el t r == 0

      by : (v : ℕ) → l t ≡ v → cond (free elements) v 0 ≡ cond (free (elements_of wm)) v 0
      by zero e = either_none (free elements) (free (elements_of wm))
      by (suc v) e =
          let a = left t (λ z. absurd (omega arith)) in
          ap (λ c. cond (c == 0) (suc v) 0)
          (count_same tags 1 (goes_with Negated tests elements t) (goes_with Negated tests (elements_of wm) t) r r [] (λ u. by_right u a (r u) refl))
        where
          by_right : (u : List ℕ) → IsToken wm m t → (k : ℕ) → r u ≡ k → cond (goes_with Negated tests elements t u) (r u) 0 ≡ cond (goes_with Negated tests (elements_of wm) t u) (r u) 0
          by_right u a zero none = subst (λ z. cond (goes_with Negated tests elements t u) z 0 ≡ cond (goes_with Negated tests (elements_of wm) t u) z 0) (sym none) (either_none (goes_with Negated tests elements t u) (goes_with Negated tests (elements_of wm) t u))
          by_right u a (suc k) some = ap (λ b. cond b (r u) 0) (joins_same m t (slice_index u 0) a (first_in u (right refl u (λ z. absurd (omega arith)))) tests low)
  out_same tags m (Group giver w k) tests l r left right low t = refl
  out_same tags m (Terminal rule) tests l r left right low t = refl
