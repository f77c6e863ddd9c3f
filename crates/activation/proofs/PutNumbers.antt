-- How often a token is put out, over the entries of a map whose keys are distinct.
use Rattle.std.proofs.Common.{◌≡◌, ◌≢◌, ℕ, ◌+◌, Bool, true, false, cond, ◌&&◌, ◌==◌, List, [], ◌∷◌, ◌++◌, ℤ, pos, refl, sym, ap, ap₂, subst, ◌∙◌, arith, length, slice_index, bytes_eq, Option, Some, None}
use Rattle.std.specs.List.{AllByRecursion, IsDistinct, flat_map}
use Rattle.std.specs.Map.{lookup, keys_of}
use Rattle.std.proofs.lemmas.Bool.Decides.{same_from_decides}
use Rattle.std.proofs.lemmas.List.{same_from_push}
use Rattle.std.proofs.lemmas.Slice.Eq.{bytes_eq-Decides}
use Rattle.net_base.specs.declared.nodes.JoinTest.{JoinTest}
use Rattle.net_base.specs.declared.nodes.Node.{Node}
use Rattle.net_base.specs.Tokens.{Elements, goes_with, joins_hold}
use Rattle.token_line.specs.declared.tokens.TokenCount.{TokenCount}
use Rattle.token_line.specs.Bags.{standing}
use Rattle.activation.specs.inner.Negating.{put_flipped, before_flip}
use Rattle.activation.specs.inner.Putting.{Put, put_if, put_for_left, put_for_right}
use Rattle.activation.specs.Acting.{number_put}
use Rattle.activation.proofs.Signed.{all_append}

-- ---- tests of tokens

pub bytes_true : (a b : List ℕ) → a ≡ b → bytes_eq a b ≡ true
bytes_true a b e = (bytes_eq-Decides a b).1 e

pub bytes_false : (a b : List ℕ) → a ≢ b → bytes_eq a b ≡ false
bytes_false a b ne = by (bytes_eq a b) refl
  where
    by : (r : Bool) → bytes_eq a b ≡ r → r ≡ false
    by true e = absurd (ne ((bytes_eq-Decides a b).0 e))
    by false e = refl

same_test : (a b c d : List ℕ) → (a ≡ b → c ≡ d) → (c ≡ d → a ≡ b) → bytes_eq a b ≡ bytes_eq c d
same_test a b c d to from =
    same_from_decides (bytes_eq a b) (bytes_eq c d) (bytes_eq-Decides a b) (λ e. from ((bytes_eq-Decides c d).0 e), λ e. (bytes_eq-Decides c d).1 (to e))

-- ---- over any entries

number-append : (u : List ℕ) (ps qs : List Put) → number_put u (ps ++ qs) ≡ number_put u ps + number_put u qs
number-append u [] qs = omega arith
number-append u (p ∷ ps) qs = omega (arith, number-append u ps qs)

number_if : (u : List ℕ) (b : Bool) (t : List ℕ) (sum : ℤ) → number_put u (put_if b t sum) ≡ cond b (cond (bytes_eq u t) (standing sum) 0) 0
number_if u true t sum = omega arith
number_if u false t sum = refl

pub nothing : (b : Bool) → ◌≡◌ {A = ℕ} (cond b 0 0) 0
nothing true = refl
nothing false = refl

-- the sum that a look-up finds
abbrev pub sum_at : {V : Type 0} → (V → ℤ) → Option V → ℤ
sum_at sum None = pos 0
sum_at sum (Some v) = sum v

module _ {V : Type 0} (holds : List ℕ → V → Bool) (made : List ℕ → List ℕ) (sum : V → ℤ) where
  -- what is put out, entry by entry
  abbrev puts : List (List ℕ × V) → List Put
  puts es = flat_map (λ e. put_if (holds e.0 e.1) (made e.0) (sum e.1)) es

  -- how often the token of a key is put out, of what a look-up finds
  abbrev pub times_at : List ℕ → Option V → ℕ
  times_at k None = 0
  times_at k (Some v) = cond (holds k v) (standing (sum v)) 0

  number_none : (u : List ℕ) (es : List (List ℕ × V)) → AllByRecursion (λ e. bytes_eq u (made e.0) ≡ false) es → number_put u (puts es) ≡ 0
  number_none u [] all = refl
  number_none u (e ∷ es) all =
      number-append u (put_if (holds e.0 e.1) (made e.0) (sum e.1)) (puts es)
      ∙ ap₂ ◌+◌
      (number_if u (holds e.0 e.1) (made e.0) (sum e.1) ∙ (ap (λ b. cond (holds e.0 e.1) (cond b (standing (sum e.1)) 0) 0) all.0 ∙ nothing (holds e.0 e.1)))
      (number_none u es all.1)

  apart_from : (u k : List ℕ) (es : List (List ℕ × V)) → AllByRecursion (λ e. bytes_eq u (made e.0) ≡ bytes_eq k e.0) es
      → AllByRecursion (λ y. bytes_eq k y ≡ false) (keys_of es) → AllByRecursion (λ e. bytes_eq u (made e.0) ≡ false) es
  apart_from u k [] same others = tt
  apart_from u k (e ∷ es) same others = (same.0 ∙ others.0, apart_from u k es same.1 others.1)

  -- a token that the entry of one key makes and no other
  number_one : (u k : List ℕ) (es : List (List ℕ × V)) → IsDistinct bytes_eq (keys_of es) → AllByRecursion (λ e. bytes_eq u (made e.0) ≡ bytes_eq k e.0) es
      → number_put u (puts es) ≡ times_at k (lookup (bytes_eq k) es)
  unfolding IsDistinct
  number_one u k [] distinct same = refl
  number_one u k (e ∷ es) distinct same =
      number-append u (put_if (holds e.0 e.1) (made e.0) (sum e.1)) (puts es)
      ∙ (ap (λ n. n + number_put u (puts es)) (number_if u (holds e.0 e.1) (made e.0) (sum e.1) ∙ ap (λ b. cond (holds e.0 e.1) (cond b (standing (sum e.1)) 0) 0) same.0)
      ∙ by (number_one u k es distinct.1 same.1) (bytes_eq k e.0) refl)
    where
      by : number_put u (puts es) ≡ times_at k (lookup (bytes_eq k) es) → (b : Bool) → bytes_eq k e.0 ≡ b
          → cond (holds e.0 e.1) (cond b (standing (sum e.1)) 0) 0 + number_put u (puts es) ≡ times_at k (cond b (Some e.1) (lookup (bytes_eq k) es))
      by ih true q =
          let key : k ≡ e.0 = (bytes_eq-Decides k e.0).0 q in
          let rest : number_put u (puts es) ≡ 0 = number_none u es (apart_from u k es same.1 (subst (λ z. AllByRecursion (λ y. bytes_eq z y ≡ false) (keys_of es)) (sym key) distinct.0)) in
          let here : cond (holds e.0 e.1) (standing (sum e.1)) 0 ≡ cond (holds k e.1) (standing (sum e.1)) 0 = ap (λ z. cond (holds z e.1) (standing (sum e.1)) 0) (sym key) in
          omega (arith, rest, here)
      by ih false q =
          let none = nothing (holds e.0 e.1) in
          omega (arith, none, ih)

  -- what holds of each token that an entry makes holds of each that is put out
  all_puts : (P : List ℕ → Type 0) (es : List (List ℕ × V)) → AllByRecursion (λ e. P (made e.0)) es → AllByRecursion (λ p. P p.token) (puts es)
  all_puts P [] all = tt
  all_puts P (e ∷ es) all = all_append (λ (p : Put). P p.token) (put_if (holds e.0 e.1) (made e.0) (sum e.1)) (puts es) (by (holds e.0 e.1)) (all_puts P es all.1)
    where
      by : (b : Bool) → AllByRecursion (λ p. P p.token) (put_if b (made e.0) (sum e.1))
      by true = (all.0, tt)
      by false = tt

-- where the test goes by the key alone, that is as often as the sum says that is found
by_sum : {V : Type 0} (join : List ℕ → Bool) (made : List ℕ → List ℕ) (sum : V → ℤ) (k : List ℕ) (o : Option V) → times_at (λ q v. join q) made sum k o ≡ cond (join k) (standing (sum_at sum o)) 0
by_sum join made sum k None = sym (nothing (join k))
by_sum join made sum k (Some v) = refl

-- ---- for a left token

abbrev pub right_of : List (List ℕ × TokenCount) → List ℕ → ℤ
right_of es k = sum_at (λ (c : TokenCount). c.sum) (lookup (bytes_eq k) es)

module _ (tests : List JoinTest) (elements : Elements) (t : List ℕ) where
  by_keys : (k : ℕ) (es : List (List ℕ × TokenCount)) → AllByRecursion (λ e. length e.0 ≡ 1) es
      → AllByRecursion (λ e. bytes_eq (t ++ k ∷ []) (t ++ slice_index e.0 0 ∷ []) ≡ bytes_eq (k ∷ []) e.0) es
  by_keys k [] all = tt
  by_keys k (e ∷ es) all = (by e.0 all.0, by_keys k es all.1)
    where
      by : (q : List ℕ) → length q ≡ 1 → bytes_eq (t ++ k ∷ []) (t ++ slice_index q 0 ∷ []) ≡ bytes_eq (k ∷ []) q
      by [] one = absurd (omega arith)
      by (x ∷ []) one =
          same_test (t ++ k ∷ []) (t ++ x ∷ []) (k ∷ []) (x ∷ [])
          (λ e. ap (λ z. z ∷ []) (same_from_push t t k x e).1) (λ e. ap (λ z. t ++ z) e)
      by (x ∷ y ∷ ys) one = absurd (omega arith)

  -- it with the tag k after it is put out as often as k stands, if they join
  pub left_number : (k : ℕ) (es : List (List ℕ × TokenCount)) → IsDistinct bytes_eq (keys_of es) → AllByRecursion (λ e. length e.0 ≡ 1) es
      → number_put (t ++ k ∷ []) (put_for_left tests elements t es) ≡ cond (joins_hold tests elements t k) (standing (right_of es (k ∷ []))) 0
  left_number k es distinct one =
      number_one (λ q v. joins_hold tests elements t (slice_index q 0)) (λ q. t ++ slice_index q 0 ∷ []) (λ (c : TokenCount). c.sum) (t ++ k ∷ []) (k ∷ []) es distinct (by_keys k es one)
      ∙ by_sum (λ q. joins_hold tests elements t (slice_index q 0)) (λ q. t ++ slice_index q 0 ∷ []) (λ (c : TokenCount). c.sum) (k ∷ []) (lookup (bytes_eq (k ∷ [])) es)

  all_of : (u : List ℕ) → ((x : ℕ) → u ≢ t ++ x ∷ []) → (es : List (List ℕ × TokenCount)) → AllByRecursion (λ e. bytes_eq u (t ++ slice_index e.0 0 ∷ []) ≡ false) es
  all_of u ne [] = tt
  all_of u ne (e ∷ es) = (bytes_false u (t ++ slice_index e.0 0 ∷ []) (ne (slice_index e.0 0)), all_of u ne es)

  -- a token that is not it with one tag more is not put out
  pub left_none : (u : List ℕ) → ((x : ℕ) → u ≢ t ++ x ∷ []) → (es : List (List ℕ × TokenCount)) → number_put u (put_for_left tests elements t es) ≡ 0
  left_none u ne es = number_none (λ q v. joins_hold tests elements t (slice_index q 0)) (λ q. t ++ slice_index q 0 ∷ []) (λ (c : TokenCount). c.sum) u es (all_of u ne es)

  pub all_left : (P : List ℕ → Type 0) (es : List (List ℕ × TokenCount)) → AllByRecursion (λ e. P (t ++ slice_index e.0 0 ∷ [])) es → AllByRecursion (λ p. P p.token) (put_for_left tests elements t es)
  all_left P es all = all_puts (λ q v. joins_hold tests elements t (slice_index q 0)) (λ q. t ++ slice_index q 0 ∷ []) (λ (c : TokenCount). c.sum) P es all

-- ---- for a right token

abbrev pub left_of : List (List ℕ × TokenCount) → List ℕ → ℤ
left_of es k = sum_at (λ (c : TokenCount). c.sum) (lookup (bytes_eq k) es)

module _ (tests : List JoinTest) (elements : Elements) (tag : ℕ) where
  by_fronts : (f : List ℕ) (es : List (List ℕ × TokenCount)) → AllByRecursion (λ e. bytes_eq (f ++ tag ∷ []) (e.0 ++ tag ∷ []) ≡ bytes_eq f e.0) es
  by_fronts f [] = tt
  by_fronts f (e ∷ es) =
      (same_test (f ++ tag ∷ []) (e.0 ++ tag ∷ []) f e.0 (λ q. (same_from_push f e.0 tag tag q).0) (λ q. ap (λ z. z ++ tag ∷ []) q), by_fronts f es)

  -- a left token with its tag after it is put out as often as that token stands, if they join
  pub right_number : (f : List ℕ) (es : List (List ℕ × TokenCount)) → IsDistinct bytes_eq (keys_of es)
      → number_put (f ++ tag ∷ []) (put_for_right tests elements tag es) ≡ cond (joins_hold tests elements f tag) (standing (left_of es f)) 0
  right_number f es distinct =
      number_one (λ q v. joins_hold tests elements q tag) (λ q. q ++ tag ∷ []) (λ (c : TokenCount). c.sum) (f ++ tag ∷ []) f es distinct (by_fronts f es)
      ∙ by_sum (λ q. joins_hold tests elements q tag) (λ q. q ++ tag ∷ []) (λ (c : TokenCount). c.sum) f (lookup (bytes_eq f) es)

  all_with : (u : List ℕ) → ((g : List ℕ) → u ≢ g ++ tag ∷ []) → (es : List (List ℕ × TokenCount)) → AllByRecursion (λ e. bytes_eq u (e.0 ++ tag ∷ []) ≡ false) es
  all_with u ne [] = tt
  all_with u ne (e ∷ es) = (bytes_false u (e.0 ++ tag ∷ []) (ne e.0), all_with u ne es)

  -- a token that does not end with its tag is not put out
  pub right_none : (u : List ℕ) → ((g : List ℕ) → u ≢ g ++ tag ∷ []) → (es : List (List ℕ × TokenCount)) → number_put u (put_for_right tests elements tag es) ≡ 0
  right_none u ne es = number_none (λ q v. joins_hold tests elements q tag) (λ q. q ++ tag ∷ []) (λ (c : TokenCount). c.sum) u es (all_with u ne es)

  pub all_right : (P : List ℕ → Type 0) (es : List (List ℕ × TokenCount)) → AllByRecursion (λ e. P (e.0 ++ tag ∷ [])) es → AllByRecursion (λ p. P p.token) (put_for_right tests elements tag es)
  all_right P es all = all_puts (λ q v. joins_hold tests elements q tag) (λ q. q ++ tag ∷ []) (λ (c : TokenCount). c.sum) P es all

-- ---- for a right token of a negated node

module _ (node : Node) (elements : Elements) (r : List ℕ) (plus : Bool) where
  -- whether the left token is taken back or put out again
  abbrev pub flips : List ℕ → TokenCount → Bool
  flips q c = (c.blockers == before_flip plus) && goes_with node.kind node.joins elements q r

  each_itself : (t : List ℕ) (es : List (List ℕ × TokenCount)) → AllByRecursion (λ e. bytes_eq t e.0 ≡ bytes_eq t e.0) es
  each_itself t [] = tt
  each_itself t (e ∷ es) = (refl, each_itself t es)

  -- how often a left token flips, of what is kept of it
  abbrev pub flipped_at : List ℕ → Option TokenCount → ℕ
  flipped_at t o = times_at flips (λ q. q) (λ c. c.sum) t o

  pub flipped_number : (t : List ℕ) (es : List (List ℕ × TokenCount)) → IsDistinct bytes_eq (keys_of es) → number_put t (put_flipped node elements r plus es) ≡ flipped_at t (lookup (bytes_eq t) es)
  flipped_number t es distinct = number_one flips (λ q. q) (λ c. c.sum) t t es distinct (each_itself t es)

  pub all_flipped : (P : List ℕ → Type 0) (es : List (List ℕ × TokenCount)) → AllByRecursion (λ e. P e.0) es → AllByRecursion (λ p. P p.token) (put_flipped node elements r plus es)
  all_flipped P es all = all_puts flips (λ q. q) (λ c. c.sum) P es all
