-- One code more at the end of the chains, and the walk along one chain.
use Rattle.std.proofs.Common.{◌≡◌, ◌≢◌, ℕ, ◌<◌, ◌≤◌, List, [], ◌∷◌, ◌++◌, length, slice_get, get_or, Option, Some, None, refl, ap, subst, sym, ◌∙◌, arith, inl, inr, length-append, Bool, true, false, cond, eqb}
use Rattle.std.proofs.lemmas.Bool.{eqb-true, eqb-false}
use Rattle.std.proofs.lemmas.List.{length-map}
use Rattle.beta_net.specs.declared.chains.Entry.{Entry}
use Rattle.beta_net.specs.Chained.{reach, IsLast, codes_in, AreChained}
use Rattle.beta_net.proofs.Lists.{same_some, get_left, get_seam, get_lt, get_of, get_push, get_back, get_map, map_push}

last_stays : (codes : List ℕ) (x code bound : ℕ) (o : Option ℕ) → bound ≤ length codes → IsLast codes code bound o → IsLast (codes ++ x ∷ []) code bound o
last_stays codes x code bound o le h = record {
  within = h.within;
  coded = λ p e. get_left codes (x ∷ []) p code (h.coded p e);
  last = λ n lt at. h.last n lt (get_back codes (x ∷ []) n code (omega arith) at);
}

last_new : (codes : List ℕ) (x : ℕ) → IsLast (codes ++ x ∷ []) x (length (codes ++ x ∷ [])) (Some (length codes))
last_new codes x = record {
  within = omega (arith, length-append codes (x ∷ []));
  coded = λ p e. (let q : length codes ≡ p = cc in subst (λ n. slice_get (codes ++ x ∷ []) n ≡ Some x) q (get_seam codes x []));
  last = λ n lt at. omega (arith, length-append codes (x ∷ []));
}

last_other : (codes : List ℕ) (x code : ℕ) (o : Option ℕ) → x ≢ code → IsLast codes code (length codes) o → IsLast (codes ++ x ∷ []) code (length (codes ++ x ∷ [])) o
last_other codes x code o ne h = record {
  within = (let w = h.within in omega (arith, length-append codes (x ∷ [])));
  coded = λ p e. get_left codes (x ∷ []) p code (h.coded p e);
  last = λ n lt at. elim (get_push codes x n code at) [
    | inl g ↦ h.last n (get_lt codes n code g) g
    | inr g ↦ absurd (ne (sym g.1))
  ];
}

last_push : (codes : List ℕ) (x code : ℕ) (o : Option ℕ) → IsLast codes code (length codes) o → IsLast (codes ++ x ∷ []) code (length (codes ++ x ∷ [])) (cond (eqb x code) (Some (length codes)) o)
last_push codes x code o h = by_code (eqb x code) refl
  where
    by_code : (b : Bool) → eqb x code ≡ b → IsLast (codes ++ x ∷ []) code (length (codes ++ x ∷ [])) (cond b (Some (length codes)) o)
    by_code true e = subst (λ c. IsLast (codes ++ x ∷ []) c (length (codes ++ x ∷ [])) (Some (length codes))) (eqb-true x code e) (last_new codes x)
    by_code false e = last_other codes x code o (eqb-false x code e) h

pub no_chains : (entries : List Entry) (f : ℕ → Option ℕ) → entries ≡ [] → ((q : ℕ) → f q ≡ None) → AreChained entries f
no_chains entries f e none = subst (λ es. AreChained es f) (sym e) (record {
  earlier = λ n x at. (let lt = get_lt [] n x at in absurd (omega arith));
  newest = λ code. subst (IsLast [] code 0) (sym (none code)) (record { within = omega arith; coded = λ p q. cc; last = λ n lt at. absurd (omega arith) });
})

pub chain_more : (entries new : List Entry) (code n : ℕ) (earlier : Option ℕ) (f g : ℕ → Option ℕ) → AreChained entries f → earlier ≡ f code → n ≡ length entries → ((q : ℕ) → g q ≡ cond (eqb code q) (Some n) (f q))
    → new ≡ entries ++ record { code = code; earlier = earlier } ∷ [] → AreChained new g
chain_more entries new code n earlier f g h is at updates grown = subst (λ es. AreChained es g) (sym grown) (record {
  earlier = λ m e here. subst (λ cs. IsLast cs e.code m e.earlier) (sym codes) (elim (get_push entries x m e here) [
    | inl q ↦ last_stays (codes_in entries) code e.code m e.earlier (let lt = get_lt entries m e q in omega (arith, length-map entries (λ (e : Entry). e.code))) (h.earlier m e q)
    | inr q ↦ last_stays (codes_in entries) code e.code m e.earlier (let p = q.0 in omega (arith, length-map entries (λ (e : Entry). e.code)))
        (subst (λ (z : Entry). IsLast (codes_in entries) z.code m z.earlier) (sym q.1) (subst (λ k. IsLast (codes_in entries) code k earlier) (sym q.0) (subst (IsLast (codes_in entries) code (length entries)) (sym is) (h.newest code))))
  ]);
  newest = λ q.
      let old : IsLast (codes_in entries) q (length (codes_in entries)) (f q) = subst (λ k. IsLast (codes_in entries) q k (f q)) (sym (length-map entries (λ (e : Entry). e.code))) (h.newest q) in
      let more = last_push (codes_in entries) code q (f q) old in
      let told : cond (eqb code q) (Some (length (codes_in entries))) (f q) ≡ g q = ap (λ k. cond (eqb code q) (Some k) (f q)) (length-map entries (λ (e : Entry). e.code) ∙ sym at) ∙ sym (updates q) in
      let long : length (codes_in entries ++ code ∷ []) ≡ length (entries ++ x ∷ []) = omega (arith, length-append (codes_in entries) (code ∷ []), length-append entries (x ∷ []), length-map entries (λ (e : Entry). e.code)) in
      subst (λ cs. IsLast cs q (length (entries ++ x ∷ [])) (g q)) (sym codes) (subst (λ k. IsLast (codes_in entries ++ code ∷ []) q k (g q)) long (subst (IsLast (codes_in entries ++ code ∷ []) q (length (codes_in entries ++ code ∷ []))) told more));
})
  where
    x : Entry
    x = record { code = code; earlier = earlier }

    codes : codes_in (entries ++ record { code = code; earlier = earlier } ∷ []) ≡ codes_in entries ++ code ∷ []
    codes = map_push (λ (e : Entry). e.code) entries (record { code = code; earlier = earlier })

-- ---- the walk along one chain

-- All numbers of this kind are below what o reaches, where each of them has this code, and o tells one of as many
-- numbers as there are codes.
pub record Covers (codes : List ℕ) (code count : ℕ) (Is : ℕ → Type 0) (o : Option ℕ) : Type 0 where
  pub below : (p : ℕ) → o ≡ Some p → p < length codes
  pub there : (p : ℕ) → o ≡ Some p → p < count
  pub coded : (p : ℕ) → o ≡ Some p → slice_get codes p ≡ Some code
  pub all : (n : ℕ) → Is n → n < reach o

reach_of : (o : Option ℕ) (p k : ℕ) → reach o ≤ k → o ≡ Some p → p < k
reach_of o p k le e = let r = ap reach e in omega arith

pub covers_first : (codes : List ℕ) (code count : ℕ) (Is : ℕ → Type 0) (o : Option ℕ) → length codes ≡ count → ((n : ℕ) → Is n → slice_get codes n ≡ Some code) → IsLast codes code (length codes) o → Covers codes code count Is o
covers_first codes code count Is o len has h = record {
  below = λ p e. reach_of o p (length codes) h.within e;
  there = λ p e. (let lt = reach_of o p (length codes) h.within e in omega arith);
  coded = h.coded;
  all = λ n i. h.last n (get_lt codes n code (has n i)) (has n i);
}

pub covers_next : (codes : List ℕ) (code count : ℕ) (Is : ℕ → Type 0) (o e : Option ℕ) (n : ℕ) → ((k : ℕ) → Is k → slice_get codes k ≡ Some code) → Covers codes code count Is o → o ≡ Some n → (Is n → ⊥) → IsLast codes code n e → Covers codes code count Is e
covers_next codes code count Is o e n has h is other l = record {
  below = λ p q. (let lt = reach_of e p n l.within q in let low = h.below n is in omega arith);
  there = λ p q. (let lt = reach_of e p n l.within q in let low = h.there n is in omega arith);
  coded = l.coded;
  all = λ k i.
      let a = h.all k i in
      let b = ap reach is in
      let ne : k ≢ n = λ q. other (subst Is q i) in
      l.last k (omega arith) (has k i);
}

pub covers_none : (codes : List ℕ) (code count : ℕ) (Is : ℕ → Type 0) (o : Option ℕ) → Covers codes code count Is o → o ≡ None → (n : ℕ) → Is n → ⊥
covers_none codes code count Is o h e n i = let a = h.all n i in let b = ap reach e in absurd (omega arith)

-- the walk goes back
pub reach_falls : (codes : List ℕ) (code n : ℕ) (o e : Option ℕ) → o ≡ Some n → IsLast codes code n e → reach e < reach o
reach_falls codes code n o e is l = let w = l.within in let r = ap reach is in omega arith

-- ---- an entry's own

pub earlier_is : (entries : List Entry) (f : ℕ → Option ℕ) (codes : List ℕ) (n : ℕ) (x : Entry) → AreChained entries f → codes_in entries ≡ codes → n < length codes → x ≡ get_or entries n x → (code : ℕ) → slice_get codes n ≡ Some code → IsLast codes code n x.earlier
earlier_is entries f codes n x h e lt is code at =
    let long = ap length e in
    let here = get_of entries n x (omega (arith, long, length-map entries (λ (e : Entry). e.code))) is in
    let same : x.code ≡ code = same_some x.code code (sym (get_map (λ (e : Entry). e.code) entries n x here) ∙ (ap (λ cs. slice_get cs n) e ∙ at)) in
    subst (λ cs. IsLast cs code n x.earlier) e (subst (λ k. IsLast (codes_in entries) k n x.earlier) same (h.earlier n x here))

pub chained_same : (entries new : List Entry) (f g : ℕ → Option ℕ) → AreChained entries f → new ≡ entries → ((q : ℕ) → g q ≡ f q) → AreChained new g
chained_same entries new f g h e same = subst (λ es. AreChained es g) (sym e) (record {
  earlier = h.earlier;
  newest = λ code. subst (IsLast (codes_in entries) code (length entries)) (sym (same code)) (h.newest code);
})
