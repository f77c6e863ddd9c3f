-- Step after step over all tokens, or over the tags of one: the same.
use Rattle.std.proofs.Common.{◌≡◌, ◌≢◌, ℕ, zero, suc, ◌+◌, ◌*◌, ◌<◌, Bool, true, false, cond, ◌==◌, List, [], ◌∷◌, ◌++◌, take, Option, refl, sym, ap, ap₂, subst, ◌∙◌, arith, length, append_assoc, append-nil, length-append, ◌⊎◌, inl, inr}
use Rattle.ops_base.specs.declared.elements.Element.{Element}
use Rattle.net_base.specs.declared.nodes.JoinTest.{JoinTest}
use Rattle.net_base.specs.declared.nodes.Kind.TheVariants.{Negated}
use Rattle.std.proofs.lemmas.Bool.{eqb-true, eq-eqb}
use Rattle.std.proofs.lemmas.Slice.Eq.{bytes_eq-Decides}
use Rattle.net_base.specs.declared.nodes.Alpha.{Alpha}
use Rattle.net_base.specs.Tokens.{Elements, Tokens, joins_hold, covers, count_from, front, last, count_with, out_of_join, memory_gives}
use Rattle.net_base.proofs.Steps.{Single, Step, Alone, Many, out_of_step, walk_members, none_covers, none_joins, none_takes, take_one, takes, walk, matches}
use Rattle.net_base.proofs.Tuples.{AreSmall, small-append, small_behind, tuples_none, tuples_each, take_front, split_front}

front-push : (y : ℕ) (ys : List ℕ) (x : ℕ) → front y (ys ++ x ∷ []) ≡ y ∷ ys
front-push y [] x = refl
front-push y (z ∷ zs) x = ap (λ r. y ∷ r) (front-push z zs x)

last-push : (y : ℕ) (ys : List ℕ) (x : ℕ) → last y (ys ++ x ∷ []) ≡ x
last-push y [] x = refl
last-push y (z ∷ zs) x = last-push z zs x

length-front : (y : ℕ) (ys : List ℕ) → length (front y ys) ≡ length ys
length-front y [] = refl
length-front y (z ∷ zs) = ap suc (length-front z zs)

join-push : (joins : List JoinTest) (el : Elements) (l r : Tokens) (t : List ℕ) (x : ℕ) → out_of_join joins el l r (t ++ x ∷ []) ≡ cond (joins_hold joins el t x) (l t * r (x ∷ [])) 0
join-push joins el l r [] x = refl
join-push joins el l r (y ∷ ys) x = ap₂ (λ f z. cond (joins_hold joins el f z) (l f * r (z ∷ [])) 0) (front-push y ys x) (last-push y ys x)

-- no token of another length stands
abbrev pub IsOfLength : ℕ → Tokens → Type 0
IsOfLength m l = (u : List ℕ) → length u ≢ m → l u ≡ 0

nothing : (b : Bool) (n : ℕ) → n ≡ 0 → cond b n 0 ≡ 0
nothing true n e = e
nothing false n e = refl

join_length : (joins : List JoinTest) (el : Elements) (l r : Tokens) (m : ℕ) → IsOfLength m l → IsOfLength (suc m) (out_of_join joins el l r)
join_length joins el l r m of [] ne = refl
join_length joins el l r m of (x ∷ xs) ne =
    let e = of (front x xs) (λ q. ne (omega (arith, q, length-front x xs))) in
    nothing (joins_hold joins el (front x xs) (last x xs)) (l (front x xs) * r (last x xs ∷ [])) (omega (arith, ap (λ z. z * r (last x xs ∷ [])) e))

-- the length after a condition, which is negated where b says so
abbrev pub next_length : Bool → ℕ → ℕ
next_length true m = m
next_length false m = suc m

next_least : (b : Bool) (m k : ℕ) → k < m → k < next_length b m
next_least true m k lt = lt
next_least false m k lt = omega arith

take_out : (j : Bool) (a r n : ℕ) → cond j (a * r) 0 * n ≡ a * cond j (r * n) 0
take_out true a r n = omega arith
take_out false a r n = omega arith

keep_out : (j : Bool) (a n : ℕ) → cond j a 0 * n ≡ a * cond j n 0
keep_out true a n = omega arith
keep_out false a n = omega arith

-- tags that working memory gives are below the bound
abbrev pub GivesSmall : ℕ → List Element → Type 0
GivesSmall tags wm = (a : Option Alpha) (x : ℕ) → (x < tags) ⊎ (memory_gives wm a (x ∷ []) ≡ 0)

-- no token with another tag stands
abbrev pub IsSmall : ℕ → Tokens → Type 0
IsSmall tags l = (u : List ℕ) → AreSmall tags u ⊎ (l u ≡ 0)

-- the groups stand after as many tags as they say
abbrev pub AreWide : ℕ → List Step → Type 0
AreWide m [] = Unit {0}
AreWide m (Alone b s ∷ ss) = AreWide (next_length b m) ss
AreWide m (Many width ms ∷ ss) = (width ≡ m) × AreWide m ss

small_whole : (tags x : ℕ) (xs : List ℕ) → AreSmall tags (front x xs) → last x xs < tags → AreSmall tags (x ∷ xs)
small_whole tags x [] f lt = (lt, tt)
small_whole tags x (y ∷ ys) f lt = (f.0, small_whole tags y ys f.1 lt)

kept_small : (tags : ℕ) (b : Bool) (l : Tokens) (u : List ℕ) → AreSmall tags u ⊎ (l u ≡ 0) → AreSmall tags u ⊎ (cond b (l u) 0 ≡ 0)
kept_small tags b l u (inl s) = inl s
kept_small tags b l u (inr e) = inr (nothing b (l u) e)

same_zero : (a b : ℕ) → (a ≡ 0 → b ≡ 0) → (b ≡ 0 → a ≡ 0) → (a == 0) ≡ (b == 0)
same_zero a b f g = by (a == 0) refl (b == 0) refl
  where
    by : (p : Bool) → (a == 0) ≡ p → (q : Bool) → (b == 0) ≡ q → p ≡ q
    by true e true h = refl
    by false e false h = refl
    by true e false h = sym (eq-eqb b 0 (f (eqb-true a 0 e))) ∙ h
    by false e true h = sym e ∙ eq-eqb a 0 (g (eqb-true b 0 h))

zero_factor : (a n : ℕ) → suc a * n ≡ 0 → n ≡ 0
zero_factor a zero e = refl
zero_factor a (suc n) e = absurd (omega arith)

module _ (tags : ℕ) (el : Elements) (wm : List Element) (gives : GivesSmall tags wm) where
  join_small : (s : Single) (l : Tokens) → IsSmall tags l → IsSmall tags (out_of_join s.tests el l (memory_gives wm s.alpha))
  join_small s l h [] = inr refl
  join_small s l h (x ∷ xs) = by (h (front x xs)) (gives s.alpha (last x xs))
    where
      by : AreSmall tags (front x xs) ⊎ (l (front x xs) ≡ 0) → (last x xs < tags) ⊎ (memory_gives wm s.alpha (last x xs ∷ []) ≡ 0)
          → AreSmall tags (x ∷ xs) ⊎ (cond (joins_hold s.tests el (front x xs) (last x xs)) (l (front x xs) * memory_gives wm s.alpha (last x xs ∷ [])) 0 ≡ 0)
      by (inl f) (inl lt) = inl (small_whole tags x xs f lt)
      by (inr e) g = inr (nothing (joins_hold s.tests el (front x xs) (last x xs)) (l (front x xs) * memory_gives wm s.alpha (last x xs ∷ [])) (omega (arith, ap (λ z. z * memory_gives wm s.alpha (last x xs ∷ [])) e)))
      by (inl f) (inr e) = inr (nothing (joins_hold s.tests el (front x xs) (last x xs)) (l (front x xs) * memory_gives wm s.alpha (last x xs ∷ [])) (omega (arith, ap (λ z. l (front x xs) * z) e)))

  -- ---- the members of a group

  members_short : (ss : List Single) (l : Tokens) (m : ℕ) (u : List ℕ) → IsOfLength m l → length u < m → walk_members el wm ss l u ≡ 0
  members_short [] l m u of lt = of u (λ q. absurd (omega arith))
  members_short (s ∷ ss) l m u of lt =
      members_short ss (λ v. out_of_join s.tests el l (memory_gives wm s.alpha) v) (suc m) u (join_length s.tests el l (memory_gives wm s.alpha) m of) (omega arith)

  members_is : (ss : List Single) (l : Tokens) (m : ℕ) (t xs : List ℕ) → IsOfLength m l → length t ≡ m → walk_members el wm ss l (t ++ xs) ≡ l t * takes el wm ss t xs
  members_is [] l m t [] of e = ap l (append-nil t) ∙ omega arith
  members_is [] l m t (x ∷ xs) of e =
      let long : length (t ++ x ∷ xs) ≢ m = λ q. absurd (omega (arith, q, e, length-append t (x ∷ xs))) in
      omega (arith, of (t ++ x ∷ xs) long)
  members_is (s ∷ ss) l m t [] of e =
      let a = ap (walk_members el wm ss (λ v. out_of_join s.tests el l (memory_gives wm s.alpha) v)) (append-nil t) in
      let b = members_short ss (λ v. out_of_join s.tests el l (memory_gives wm s.alpha) v) (suc m) t (join_length s.tests el l (memory_gives wm s.alpha) m of) (omega arith) in
      omega (arith, a, b)
  members_is (s ∷ ss) l m t (x ∷ ys) of e =
      let a = members_is ss (λ v. out_of_join s.tests el l (memory_gives wm s.alpha) v) (suc m) (t ++ x ∷ []) ys (join_length s.tests el l (memory_gives wm s.alpha) m of) (omega (arith, e, length-append t (x ∷ []))) in
      let b = ap (walk_members el wm ss (λ v. out_of_join s.tests el l (memory_gives wm s.alpha) v)) (append_assoc t (x ∷ []) ys) in
      let c = ap (λ z. z * takes el wm ss (t ++ x ∷ []) ys) (join-push s.tests el l (memory_gives wm s.alpha) t x) in
      sym b ∙ (a ∙ (c ∙ take_out (joins_hold s.tests el t x) (l t) (memory_gives wm s.alpha (x ∷ [])) (takes el wm ss (t ++ x ∷ []) ys)))

  -- where the token stands, tokens of the members cover it just where the members take tags after it
  covered : (ss : List Single) (l : Tokens) (width : ℕ) (t : List ℕ) (a : ℕ) → IsOfLength width l → length t ≡ width → AreSmall tags t → l t ≡ suc a → none_covers tags el wm width ss l t ≡ none_takes tags el wm ss t
  covered ss l width t a of long small stands =
      same_zero (count_from tags (width + length ss) (covers width t) (λ r. walk_members el wm ss l r) []) (count_from tags (length ss) (λ v. true) (λ v. takes el wm ss t v) [])
      (λ none. tuples_none tags (length ss) (λ v. true) (λ v. takes el wm ss t v) [] (λ v e s p. taken none v e s))
      (λ none. tuples_none tags (width + length ss) (covers width t) (λ r. walk_members el wm ss l r) [] (λ r e s p. covering none r e s p))
    where
      take_long : (r : List ℕ) → take width r ≡ take (length t) r
      take_long r = ap (λ k. take k r) (sym long)

      taken : count_from tags (width + length ss) (covers width t) (λ r. walk_members el wm ss l r) [] ≡ 0 → (v : List ℕ) → length v ≡ length ss → AreSmall tags v → takes el wm ss t v ≡ 0
      taken none v e s =
          let z = tuples_each tags (width + length ss) (covers width t) (λ r. walk_members el wm ss l r) [] (t ++ v) none (omega (arith, e, long, length-append t v)) (small-append tags t v small s)
          ((bytes_eq-Decides t (take width (t ++ v))).1 (sym (take_long (t ++ v) ∙ take_front t v))) in
          zero_factor a (takes el wm ss t v) (ap (λ n. n * takes el wm ss t v) (sym stands) ∙ (sym (members_is ss l width t v of long) ∙ z))

      covering : count_from tags (length ss) (λ v. true) (λ v. takes el wm ss t v) [] ≡ 0 → (r : List ℕ) → length r ≡ width + length ss → AreSmall tags r → covers width t r ≡ true → walk_members el wm ss l r ≡ 0
      covering none r e s c =
          let q = split_front t r (sym (take_long r) ∙ sym ((bytes_eq-Decides t (take width r)).0 c)) in
          let z = tuples_each tags (length ss) (λ v. true) (λ v. takes el wm ss t v) [] q.0 none (omega (arith, e, long, ap length q.1, length-append t q.0)) (small_behind tags t q.0 (subst (AreSmall tags) q.1 s)) refl in
          ap (walk_members el wm ss l) q.1 ∙ (members_is ss l width t q.0 of long ∙ (ap (λ n. l t * n) z ∙ omega arith))

  group_is : (ss : List Single) (l : Tokens) (width : ℕ) (t : List ℕ) (n : ℕ) → IsOfLength width l → IsSmall tags l → length t ≡ width
      → cond (none_covers tags el wm width ss l t) (l t) 0 * n ≡ l t * cond (none_takes tags el wm ss t) n 0
  group_is ss l width t n of small long = by (l t) refl (small t)
    where
      none : l t ≡ 0 → cond (none_covers tags el wm width ss l t) (l t) 0 * n ≡ l t * cond (none_takes tags el wm ss t) n 0
      none e =
          ap (λ z. z * n) (nothing (none_covers tags el wm width ss l t) (l t) e)
          ∙ ((let z : 0 * n ≡ 0 * cond (none_takes tags el wm ss t) n 0 = omega arith in z) ∙ ap (λ z. z * cond (none_takes tags el wm ss t) n 0) (sym e))

      by : (a : ℕ) → l t ≡ a → AreSmall tags t ⊎ (l t ≡ 0) → cond (none_covers tags el wm width ss l t) (l t) 0 * n ≡ l t * cond (none_takes tags el wm ss t) n 0
      by a e (inr z) = none z
      by zero e (inl s) = none e
      by (suc a) e (inl s) = ap (λ b. cond b (l t) 0 * n) (covered ss l width t a of long s e) ∙ keep_out (none_takes tags el wm ss t) (l t) n

  -- ---- steps

  alone_length : (s : Single) (l : Tokens) (m : ℕ) (b : Bool) → IsOfLength m l → IsOfLength (next_length b m) (λ u. out_of_step tags el wm (Alone b s) l u)
  alone_length s l m true of = λ u ne. nothing (count_with tags Negated s.tests el u (memory_gives wm s.alpha) == 0) (l u) (of u ne)
  alone_length s l m false of = join_length s.tests el l (memory_gives wm s.alpha) m of

  alone_small : (s : Single) (l : Tokens) (b : Bool) → IsSmall tags l → IsSmall tags (λ u. out_of_step tags el wm (Alone b s) l u)
  alone_small s l true small = λ u. kept_small tags (count_with tags Negated s.tests el u (memory_gives wm s.alpha) == 0) l u (small u)
  alone_small s l false small = join_small s l small

  many_length : (width : ℕ) (ms : List Single) (l : Tokens) (m : ℕ) → IsOfLength m l → IsOfLength m (λ u. out_of_step tags el wm (Many width ms) l u)
  many_length width ms l m of u ne = nothing (none_covers tags el wm width ms l u) (l u) (of u ne)

  many_small : (width : ℕ) (ms : List Single) (l : Tokens) → IsSmall tags l → IsSmall tags (λ u. out_of_step tags el wm (Many width ms) l u)
  many_small width ms l small u = kept_small tags (none_covers tags el wm width ms l u) l u (small u)

  walk_short : (ss : List Step) (l : Tokens) (m : ℕ) (u : List ℕ) → IsOfLength m l → length u < m → walk tags el wm ss l u ≡ 0
  walk_short [] l m u of lt = of u (λ q. absurd (omega arith))
  walk_short (Alone b s ∷ ss) l m u of lt = walk_short ss (λ v. out_of_step tags el wm (Alone b s) l v) (next_length b m) u (alone_length s l m b of) (next_least b m (length u) lt)
  walk_short (Many width ms ∷ ss) l m u of lt = walk_short ss (λ v. out_of_step tags el wm (Many width ms) l v) m u (many_length width ms l m of) lt

  -- a token comes out as often as its first tags came in and the steps take the rest
  pub walk_is : (ss : List Step) (l : Tokens) (m : ℕ) (t xs : List ℕ) → AreWide m ss → IsOfLength m l → IsSmall tags l → length t ≡ m → walk tags el wm ss l (t ++ xs) ≡ l t * matches tags el wm ss t xs
  walk_is [] l m t [] wide of small e = ap l (append-nil t) ∙ omega arith
  walk_is [] l m t (x ∷ xs) wide of small e =
      let long : length (t ++ x ∷ xs) ≢ m = λ q. absurd (omega (arith, q, e, length-append t (x ∷ xs))) in
      omega (arith, of (t ++ x ∷ xs) long)
  walk_is (Many width ms ∷ ss) l m t xs wide of small e =
      walk_is ss (λ u. out_of_step tags el wm (Many width ms) l u) m t xs wide.1 (many_length width ms l m of) (many_small width ms l small) e
      ∙ group_is ms l width t (matches tags el wm ss t xs) (subst (λ k. IsOfLength k l) (sym wide.0) of) small (e ∙ sym wide.0)
  walk_is (Alone b s ∷ ss) l m t xs wide of small e = by_sign (λ l' m' t' ys w o k q. walk_is ss l' m' t' ys w o k q) b wide
    where
      by_tags : ((l' : Tokens) (m' : ℕ) (t' ys : List ℕ) → AreWide m' ss → IsOfLength m' l' → IsSmall tags l' → length t' ≡ m' → walk tags el wm ss l' (t' ++ ys) ≡ l' t' * matches tags el wm ss t' ys)
          → AreWide (suc m) ss
          → (ys : List ℕ) → walk tags el wm ss (λ u. out_of_join s.tests el l (memory_gives wm s.alpha) u) (t ++ ys) ≡ l t * take_one el wm s (λ u zs. matches tags el wm ss u zs) t ys
      by_tags ih w [] =
          let a = ap (walk tags el wm ss (λ u. out_of_join s.tests el l (memory_gives wm s.alpha) u)) (append-nil t) in
          let b = walk_short ss (λ u. out_of_join s.tests el l (memory_gives wm s.alpha) u) (suc m) t (join_length s.tests el l (memory_gives wm s.alpha) m of) (omega arith) in
          omega (arith, a, b)
      by_tags ih w (x ∷ ys) =
          let a = ih (λ u. out_of_join s.tests el l (memory_gives wm s.alpha) u) (suc m) (t ++ x ∷ []) ys w (join_length s.tests el l (memory_gives wm s.alpha) m of) (join_small s l small) (omega (arith, e, length-append t (x ∷ []))) in
          let b = ap (walk tags el wm ss (λ u. out_of_join s.tests el l (memory_gives wm s.alpha) u)) (append_assoc t (x ∷ []) ys) in
          let c = ap (λ z. z * matches tags el wm ss (t ++ x ∷ []) ys) (join-push s.tests el l (memory_gives wm s.alpha) t x) in
          sym b ∙ (a ∙ (c ∙ take_out (joins_hold s.tests el t x) (l t) (memory_gives wm s.alpha (x ∷ [])) (matches tags el wm ss (t ++ x ∷ []) ys)))

      by_sign : ((l' : Tokens) (m' : ℕ) (t' ys : List ℕ) → AreWide m' ss → IsOfLength m' l' → IsSmall tags l' → length t' ≡ m' → walk tags el wm ss l' (t' ++ ys) ≡ l' t' * matches tags el wm ss t' ys)
          → (b : Bool) → AreWide (next_length b m) ss
          → walk tags el wm ss (λ u. out_of_step tags el wm (Alone b s) l u) (t ++ xs)
          ≡ l t * cond b (cond (none_joins tags el wm s t) (matches tags el wm ss t xs) 0) (take_one el wm s (λ u zs. matches tags el wm ss u zs) t xs)
      by_sign ih true w =
          ih (λ u. out_of_step tags el wm (Alone true s) l u) m t xs w (alone_length s l m true of) (alone_small s l true small) e
          ∙ keep_out (none_joins tags el wm s t) (l t) (matches tags el wm ss t xs)
      by_sign ih false w = by_tags ih w xs
