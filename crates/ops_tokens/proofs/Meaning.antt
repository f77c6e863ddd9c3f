-- What is left after a byte means what it should, so a text is matched exactly where its meaning holds.
use Rattle.std.proofs.Common.{◌≡◌, ℕ, zero, suc, ◌⊎◌, Bool, true, false, cond, leb, List, [], ◌∷◌, ◌++◌, refl, sym, ap, ◌∙◌, subst, arith, inl, inr}
use Rattle.std.specs.Prelude.{◌&&◌, ◌||◌}
use Rattle.std.proofs.lemmas.Bool.{false≢true, leb-true, le-leb, and_parts}
use Rattle.ops_tokens.specs.Regex.{Regex, Never, Empty, One, Then, Or, Many, Matches, Repeats, nullable, same, among, joined, either, behind, after, matches}
use Rattle.ops_tokens.proofs.Residuals.{same-is}

abbrev split : List ℕ → List ℕ → List ℕ → Type 0
split s x y = s ≡ x ++ y

or_true : (a c : Bool) → (a || c) ≡ true → (a ≡ true) ⊎ (c ≡ true)
or_true true c e = inl refl
or_true false c e = inr e

-- the empty text
nullable-matches : (r : Regex) → nullable r ≡ true → Matches r []
nullable-matches Never e = absurd cc
nullable-matches Empty e = refl
nullable-matches (One low high) e = absurd cc
nullable-matches (Then a c) e = let h = and_parts (nullable a) (nullable c) e in ([], [], refl, nullable-matches a h.0, nullable-matches c h.1)
nullable-matches (Or a c) e = elim (or_true (nullable a) (nullable c) e) [ inl h ↦ inl (nullable-matches a h) | inr h ↦ inr (nullable-matches c h) ]
nullable-matches (Many a) e = (0, refl)

nil_parts : (x y : List ℕ) → [] ≡ x ++ y → (x ≡ []) × (y ≡ [])
nil_parts [] y e = (refl, sym e)
nil_parts (b ∷ x) y e = absurd cc

or_left : (a c : Bool) → a ≡ true → (a || c) ≡ true
or_left true c e = refl
or_left false c e = absurd cc

or_right : (a c : Bool) → c ≡ true → (a || c) ≡ true
or_right true c e = refl
or_right false c e = e

and_both : (a c : Bool) → a ≡ true → c ≡ true → (a && c) ≡ true
and_both true c e f = f
and_both false c e f = absurd cc

matches-nullable : (r : Regex) (s : List ℕ) → s ≡ [] → Matches r s → nullable r ≡ true
matches-nullable Never s n m = absurd m
matches-nullable Empty s n m = refl
matches-nullable (One low high) s n m = absurd (let e = sym n ∙ m.1 in cc)
matches-nullable (Then a c) s n (x, y, e, ma, mc) = let p = nil_parts x y (sym n ∙ e) in and_both (nullable a) (nullable c) (matches-nullable a x p.0 ma) (matches-nullable c y p.1 mc)
matches-nullable (Or a c) s n m = elim m [ inl h ↦ or_left (nullable a) (nullable c) (matches-nullable a s n h) | inr h ↦ or_right (nullable a) (nullable c) (matches-nullable c s n h) ]
matches-nullable (Many a) s n m = refl

-- a choice without what stands twice
among-matches : (a c : Regex) (s : List ℕ) → among a c ≡ true → Matches a s → Matches c s
among-matches a (Or x y) s e m = elim (or_true (same a x) (among a y) e) [ inl h ↦ inl (subst (λ (r : Regex). Matches r s) (same-is a x h) m) | inr h ↦ inr (among-matches a y s h m) ]
among-matches a Never s e m = subst (λ (r : Regex). Matches r s) (same-is a Never e) m
among-matches a Empty s e m = subst (λ (r : Regex). Matches r s) (same-is a Empty e) m
among-matches a (One l h) s e m = subst (λ (r : Regex). Matches r s) (same-is a (One l h) e) m
among-matches a (Then x y) s e m = subst (λ (r : Regex). Matches r s) (same-is a (Then x y) e) m
among-matches a (Many x) s e m = subst (λ (r : Regex). Matches r s) (same-is a (Many x) e) m

abbrev IsEither : Regex → Regex → Regex → List ℕ → Type 0
IsEither r a c s = (Matches r s → Matches a s ⊎ Matches c s) × (Matches a s ⊎ Matches c s → Matches r s)

chosen : (a c : Regex) (s : List ℕ) (b : Bool) → among a c ≡ b → IsEither (cond b c (Or a c)) a c s
chosen a c s true e = (λ m. inr m, λ m. elim m [ inl h ↦ among-matches a c s e h | inr h ↦ h ])
chosen a c s false e = (λ m. m, λ m. m)

joined-is : (a c : Regex) (s : List ℕ) → IsEither (joined a c) a c s
joined-is a Never s = (λ m. inl m, λ m. elim m [ inl h ↦ h | inr h ↦ absurd h ])
joined-is a Empty s = chosen a Empty s (among a Empty) refl
joined-is a (One l h) s = chosen a (One l h) s (among a (One l h)) refl
joined-is a (Then x y) s = chosen a (Then x y) s (among a (Then x y)) refl
joined-is a (Or x y) s = chosen a (Or x y) s (among a (Or x y)) refl
joined-is a (Many x) s = chosen a (Many x) s (among a (Many x)) refl

either-is : (a c : Regex) (s : List ℕ) → IsEither (either a c) a c s
either-is Never c s = (λ m. inr m, λ m. elim m [ inl h ↦ absurd h | inr h ↦ h ])
either-is Empty c s = joined-is Empty c s
either-is (One l h) c s = joined-is (One l h) c s
either-is (Then x y) c s = joined-is (Then x y) c s
either-is (Many x) c s = joined-is (Many x) c s
either-is (Or x y) c s =
    let j = joined-is x (either y c) s in
    let k = either-is y c s in (
      λ m. elim (j.0 m) [ inl h ↦ inl (inl h) | inr h ↦ elim (k.0 h) [ inl i ↦ inl (inr i) | inr i ↦ inr i ] ],
      λ m. elim m [ inl h ↦ elim h [ inl i ↦ j.1 (inl i) | inr i ↦ j.1 (inr (k.1 (inl i))) ] | inr h ↦ j.1 (inr (k.1 (inr h))) ],
    )

abbrev Same : Regex → Regex → List ℕ → Type 0
Same r q s = (Matches r s → Matches q s) × (Matches q s → Matches r s)

behind-is : (a c : Regex) (s : List ℕ) → Same (behind a c) (Then a c) s
behind-is Never c s = (λ m. absurd m, λ m. absurd (m.3))
behind-is Empty c s = (λ m. ([], s, refl, refl, m), λ (x, y, e, mx, my). subst (λ (t : List ℕ). Matches c t) (sym (e ∙ ap (λ (t : List ℕ). t ++ y) mx)) my)
behind-is (One l h) c s = (λ m. m, λ m. m)
behind-is (Then x y) c s = (λ m. m, λ m. m)
behind-is (Or x y) c s = (λ m. m, λ m. m)
behind-is (Many x) c s = (λ m. m, λ m. m)

abbrev After : Regex → ℕ → List ℕ → Type 0
After r b s = (Matches (after r b) s → Matches r (b ∷ s)) × (Matches r (b ∷ s) → Matches (after r b) s)

heads : (b c : ℕ) (s t : List ℕ) → b ∷ s ≡ c ∷ t → (b ≡ c) × (s ≡ t)
heads b c s t e = (cc, cc)

one-is : (low high b : ℕ) (s : List ℕ) (x y : Bool) → leb low b ≡ x → leb b high ≡ y → (Matches (cond (x && y) Empty Never) s → Matches (One low high) (b ∷ s)) × (Matches (One low high) (b ∷ s) → Matches (cond (x && y) Empty Never) s)
one-is low high b s true true e f =
    (λ m. (b, ap (λ (t : List ℕ). b ∷ t) m, leb-true low b e, leb-true b high f), λ (c, h, lo, hi). (heads b c s [] h).1)
one-is low high b s true false e f =
    (λ m. absurd m, λ (c, h, lo, hi). let same : b ≡ c = (heads b c s [] h).0 in absurd (false≢true (sym f ∙ le-leb b high (omega arith))))
one-is low high b s false y e f =
    (λ m. absurd m, λ (c, h, lo, hi). let same : b ≡ c = (heads b c s [] h).0 in absurd (false≢true (sym e ∙ le-leb low b (omega arith))))

then_front : (a c : Regex) (b : ℕ) (s : List ℕ) (n : Bool) → nullable a ≡ n → ((t : List ℕ) → After a b t) → After c b s → (Matches (Then (after a b) c) s ⊎ Matches (cond n (after c b) Never) s → Matches (Then a c) (b ∷ s)) × (Matches (Then a c) (b ∷ s) → Matches (Then (after a b) c) s ⊎ Matches (cond n (after c b) Never) s)
then_front a c b s true e ia ic = (
  λ m. elim m [
    | inl (x, y, h, mx, my) ↦ (b ∷ x, y, ap (λ (t : List ℕ). b ∷ t) h, (ia x).0 mx, my)
    | inr h ↦ ([], b ∷ s, refl, nullable-matches a e, ic.0 h)
  ],
  λ (x, y, h, mx, my). back x y h mx my,
)
  where
    back : (x y : List ℕ) → b ∷ s ≡ x ++ y → Matches a x → Matches c y → Matches (Then (after a b) c) s ⊎ Matches (after c b) s
    back [] y h mx my = inr (ic.1 (subst (λ (t : List ℕ). Matches c t) (sym h) my))
    back (d ∷ x) y h mx my = let p = heads b d s (x ++ y) h in inl (x, y, p.1, (ia x).1 (subst (λ (k : ℕ). Matches a (k ∷ x)) (sym p.0) mx), my)
then_front a c b s false e ia ic = (
  λ m. elim m [
    | inl (x, y, h, mx, my) ↦ (b ∷ x, y, ap (λ (t : List ℕ). b ∷ t) h, (ia x).0 mx, my)
    | inr h ↦ absurd h
  ],
  λ (x, y, h, mx, my). back x y h mx my,
)
  where
    back : (x y : List ℕ) → b ∷ s ≡ x ++ y → Matches a x → Matches c y → Matches (Then (after a b) c) s ⊎ ⊥
    back [] y h mx my = absurd (false≢true (sym e ∙ matches-nullable a [] refl mx))
    back (d ∷ x) y h mx my = let p = heads b d s (x ++ y) h in inl (x, y, p.1, (ia x).1 (subst (λ (k : ℕ). Matches a (k ∷ x)) (sym p.0) mx), my)

many_back : (a : Regex) (b : ℕ) (s : List ℕ) → ((t : List ℕ) → After a b t) → (n : ℕ) (whole : List ℕ) → whole ≡ b ∷ s → Repeats (Matches a) n whole → Matches (Then (after a b) (Many a)) s
many_back a b s ia zero whole w m = absurd (let e = sym w ∙ m in cc)
many_back a b s ia (suc n) whole w ([], y, e, mx, my) = many_back a b s ia n y (sym e ∙ w) my
many_back a b s ia (suc n) whole w (d ∷ x, y, e, mx, my) =
    let p = heads b d s (x ++ y) (sym w ∙ e) in (x, y, p.1, (ia x).1 (subst (λ (k : ℕ). Matches a (k ∷ x)) (sym p.0) mx), (n, my))

pub after-is : (r : Regex) (b : ℕ) (s : List ℕ) → After r b s
after-is Never b s = (λ m. absurd m, λ m. absurd m)
after-is Empty b s = (λ m. absurd m, λ m. absurd (let e = m in cc))
after-is (One low high) b s = one-is low high b s (leb low b) (leb b high) refl refl
after-is (Then a c) b s =
    let t = then_front a c b s (nullable a) refl (after-is a b) (after-is c b s) in
    let k = behind-is (after a b) c s in
    let j = either-is (behind (after a b) c) (cond (nullable a) (after c b) Never) s in (
      λ m. t.0 (elim (j.0 m) [ inl h ↦ inl (k.0 h) | inr h ↦ inr h ]),
      λ m. j.1 (elim (t.1 m) [ inl h ↦ inl (k.1 h) | inr h ↦ inr h ]),
    )
after-is (Or a c) b s =
    let j = either-is (after a b) (after c b) s in (
      λ m. elim (j.0 m) [ inl h ↦ inl ((after-is a b s).0 h) | inr h ↦ inr ((after-is c b s).0 h) ],
      λ m. j.1 (elim m [ inl h ↦ inl ((after-is a b s).1 h) | inr h ↦ inr ((after-is c b s).1 h) ]),
    )
after-is (Many a) b s =
    let k = behind-is (after a b) (Many a) s in (
      λ m. let (x, y, e, mx, my) = k.0 m in (suc my.0, (b ∷ x, y, ap (λ (t : List ℕ). b ∷ t) e, (after-is a b x).0 mx, my.1)),
      λ m. k.1 (many_back a b s (after-is a b) m.0 (b ∷ s) refl m.1),
    )

-- the test says just what the expression means
pub matches-is : (s : List ℕ) (r : Regex) → (matches r s ≡ true → Matches r s) × (Matches r s → matches r s ≡ true)
matches-is [] r = (nullable-matches r, matches-nullable r [] refl)
matches-is (b ∷ s) r = let i = matches-is s (after r b) in let a = after-is r b s in (λ e. a.0 (i.0 e), λ m. i.1 (a.1 m))
