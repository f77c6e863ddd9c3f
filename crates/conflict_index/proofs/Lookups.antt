-- What the maps of an index hold once a key is put or taken.
use Rattle.std.proofs.Common.{◌≡◌, ◌≢◌, ◌≤◌, List, [], ◌∷◌, ◌++◌, ◌-◌, length, slice_get, length-append, Bool, true, false, cond, Option, Some, None, refl, ap, sym, ◌∙◌, subst, inl, inr, ◌⊎◌, arith}
use Rattle.std.specs.Prelude.{◌↔◌, Contains}
use Rattle.std.specs.Bool.{Decides}
use Rattle.std.specs.declared.vec.IntoIter.{IntoIter}
use Rattle.std.specs.Vec.Iter.{into_iter_items, into_iter_len, into_iter_steps}
use Rattle.std.specs.BTreeMap as tree
use Rattle.std.specs.BTreeMap.{BTreeMap, is_at}
use Rattle.std.specs.HashMap as hash
use Rattle.std.specs.HashMap.{HashMap}
use Rattle.std.specs.Cmp.{IsEquivalence}
use Rattle.std.specs.Cmp.Rules.{comparing}
use Rattle.std.specs.declared.cmp.Ordering.{Ordering}
use Rattle.std.specs.declared.cmp.Ordering.TheVariants.{Less, Equal, Greater}
use Rattle.std.specs.Ordering.{nat_cmp, is_eq}
use Rattle.std.proofs.Common.{rules}
use Rattle.std.proofs.lemmas.Cmp.{tied_itself}
use Rattle.std.proofs.lemmas.Bool.{false≢true}
use Rattle.std.proofs.Math.Seq.{get_or-append_seam}
use Rattle.std.proofs.lemmas.Option.{slice_get-get_or}
use Rattle.std.proofs.lemmas.Map.Views.{btree_map_get_iff, hash_map_get_iff}
use Rattle.ops_base.specs.declared.commands.Strategy.{Strategy}
use Rattle.ops_base.specs.declared.commands.Strategy.TheVariants.{Lex, Mea}
use Rattle.ops_base.specs.declared.rules.Inst.{Inst}
use Rattle.ops_base.proofs.InstOrder.{both_equal, equal_numbers}
use Rattle.ops_base.proofs.Members.{member_from_contains, contains_from_member, member_left, member_right, member_cases}
use Rattle.resolution.specs.Keys.{Key, compare_keys, same_keys}
use Rattle.resolution.proofs.SameKeys.{same_parts, same_keys-Decides, tied_keys}
use Rattle.conflict_index.specs.declared.rank.Held.{Held}
use Rattle.conflict_index.specs.Rank.{Rank}
use Rattle.conflict_index.specs.Ranking.{under, compare_by_strategy, compare_ranks, compare_ranks_total}
use Rattle.conflict_index.specs.Keeping.{Gains, Loses, AreToldApart}

-- ---- keys and ranks are told apart

pub same_keys_equiv : IsEquivalence same_keys
same_keys_equiv = search (comparing, rules)

pub same_keys_exact : (a b : Key) → same_keys a b ≡ true → a ≡ b
same_keys_exact a b e = (same_keys-Decides a b).0 e

keys_tied : (s t : Strategy) (a b : Key) → under s t (compare_keys s a b) ≡ Equal → a.first ≡ b.first → (s ≡ t) × (a ≡ b)
keys_tied Lex Lex a b e f =
    let t = tied_keys Lex a b e in (refl, same_parts a b f t.sorted t.specificity t.rule t.tags)
keys_tied Lex Mea a b e f = cc
keys_tied Mea Lex a b e f = cc
keys_tied Mea Mea a b e f =
    let t = tied_keys Mea a b e in (refl, same_parts a b f t.sorted t.specificity t.rule t.tags)

pub tied_ranks : (a b : Rank) → compare_ranks a b ≡ Equal → a ≡ b
tied_ranks a b e =
    let p = both_equal (compare_by_strategy a b) (nat_cmp a.key.first b.key.first) e in
    let q = keys_tied a.strategy b.strategy a.key b.key p.0 (equal_numbers a.key.first b.key.first p.1) in
    λ i. record { strategy = q.0 i; key = q.1 i }

is_equal : (o : Ordering) → is_eq o ≡ true → o ≡ Equal
is_equal Less e = cc
is_equal Equal e = refl
is_equal Greater e = cc

pub rank_found : (k q : Rank) → Decides (is_at (compare_ranks k) q) (k ≡ q)
rank_found k q = (
  λ e. tied_ranks k q (is_equal (compare_ranks k q) e),
  λ e. (let P : Rank → Type 0 = λ r. is_eq (compare_ranks k r) ≡ true in subst P e (ap is_eq (tied_itself compare_ranks_total k))),
)

-- ---- a map as a function

updated_none : {K X : Type 0} (f g : K → Option X) (test : K → Bool) (k : K) → ((q : K) → Decides (test q) (k ≡ q)) → ((q : K) → g q ≡ cond (test q) None (f q))
    → (q : K) (v : X) → (g q ≡ Some v) ↔ ((f q ≡ Some v) × (k ≢ q))
updated_none {K} {X} f g test k d e q v = by_test (test q) (d q) (e q)
  where
    by_test : (b : Bool) → Decides b (k ≡ q) → g q ≡ cond b None (f q) → (g q ≡ Some v) ↔ ((f q ≡ Some v) × (k ≢ q))
    by_test true h s = (λ t. cc, λ t. absurd (t.1 (h.0 refl)))
    by_test false h s = (λ t. (sym s ∙ t, λ same. false≢true (h.1 same)), λ t. s ∙ t.0)

updated_some : {K X : Type 0} (f g : K → Option X) (test : K → Bool) (k : K) (w : X) → ((q : K) → Decides (test q) (k ≡ q)) → ((q : K) → g q ≡ cond (test q) (Some w) (f q))
    → (q : K) (v : X) → (g q ≡ Some v) ↔ (((k ≡ q) × (w ≡ v)) ⊎ ((f q ≡ Some v) × (k ≢ q)))
updated_some {K} {X} f g test k w d e q v = by_test (test q) (d q) (e q)
  where
    inner : Some w ≡ Some v → w ≡ v
    inner p = cc

    by_test : (b : Bool) → Decides b (k ≡ q) → g q ≡ cond b (Some w) (f q) → (g q ≡ Some v) ↔ (((k ≡ q) × (w ≡ v)) ⊎ ((f q ≡ Some v) × (k ≢ q)))
    by_test true h s = (λ t. inl (h.0 refl, inner (sym s ∙ t)), λ t. elim t [ inl p ↦ s ∙ ap Some p.1 | inr p ↦ absurd (p.1 (h.0 refl)) ])
    by_test false h s = (
      λ t. inr (sym s ∙ t, λ same. false≢true (h.1 same)),
      λ t. elim t [ inl p ↦ absurd (false≢true (h.1 p.0)) | inr p ↦ s ∙ p.0 ],
    )

-- ---- the maps of an index

pub waiting_has : (m : BTreeMap Rank Held) → tree.IsOrdered compare_ranks m → (q : Rank) (v : Held) → (tree.get compare_ranks m q ≡ Some v) ↔ Contains m.entries (q, v)
waiting_has m o q v = btree_map_get_iff compare_ranks_total tied_ranks m o q v

pub fired_has : {S : Type 0} (m : HashMap Key Inst S) → hash.IsUnique same_keys m → (q : Key) (v : Inst) → (hash.get same_keys m q ≡ Some v) ↔ Contains m.entries (q, v)
fired_has m o q v = hash_map_get_iff same_keys_equiv same_keys_exact m o q v

pub waiting_loses : (m n : BTreeMap Rank Held) (k : Rank) → tree.IsOrdered compare_ranks m → tree.IsOrdered compare_ranks n → tree.Updates compare_ranks m n k None
    → (e : Rank × Held) → Contains n.entries e ↔ (Contains m.entries e × (k ≢ e.0))
waiting_loses m n k o p u e =
    let s = updated_none (tree.get compare_ranks m) (tree.get compare_ranks n) (is_at (compare_ranks k)) k (rank_found k) u.0 e.0 e.1 in (
      λ h. (let t = s.0 ((waiting_has n p e.0 e.1).1 h) in ((waiting_has m o e.0 e.1).0 t.0, t.1)),
      λ h. (waiting_has n p e.0 e.1).0 (s.1 ((waiting_has m o e.0 e.1).1 h.0, h.1)),
    )

pub fired_loses : {S : Type 0} (m n : HashMap Key Inst S) (k : Key) → hash.IsUnique same_keys m → hash.IsUnique same_keys n → hash.Updates same_keys m n k None
    → (e : Key × Inst) → Contains n.entries e ↔ (Contains m.entries e × (k ≢ e.0))
fired_loses m n k o p u e =
    let s = updated_none (hash.get same_keys m) (hash.get same_keys n) (same_keys k) k (same_keys-Decides k) u.0 e.0 e.1 in (
      λ h. (let t = s.0 ((fired_has n p e.0 e.1).1 h) in ((fired_has m o e.0 e.1).0 t.0, t.1)),
      λ h. (fired_has n p e.0 e.1).0 (s.1 ((fired_has m o e.0 e.1).1 h.0, h.1)),
    )

pub waiting_gains : (m n : BTreeMap Rank Held) (k : Rank) (v : Held) → tree.IsOrdered compare_ranks m → tree.IsOrdered compare_ranks n → tree.Updates compare_ranks m n k (Some v)
    → ((e : Rank × Held) → Contains m.entries e → k ≡ e.0 → v ≡ e.1) → Gains ((k, v) ∷ []) m.entries n.entries
waiting_gains m n k v o p u one e =
    let s = updated_some (tree.get compare_ranks m) (tree.get compare_ranks n) (is_at (compare_ranks k)) k v (rank_found k) u.0 e.0 e.1 in (
      λ h. elim (s.0 ((waiting_has n p e.0 e.1).1 h)) [
        | inl t ↦ inr (contains_from_member e ((k, v) ∷ []) (inl (λ i. (sym t.0 i, sym t.1 i))))
        | inr t ↦ inl ((waiting_has m o e.0 e.1).0 t.0)
      ],
      λ h. (waiting_has n p e.0 e.1).0 (s.1 (elim h [
        | inl t ↦ old t (is_at (compare_ranks k) e.0) (rank_found k e.0)
        | inr t ↦ elim (member_from_contains e ((k, v) ∷ []) t) [
          | inl g ↦ inl (sym (ap (λ (w : Rank × Held). w.0) g), sym (ap (λ (w : Rank × Held). w.1) g))
          | inr g ↦ absurd g
        ]
      ])),
    )
  where
    old : Contains m.entries e → (b : Bool) → Decides b (k ≡ e.0) → ((k ≡ e.0) × (v ≡ e.1)) ⊎ ((tree.get compare_ranks m e.0 ≡ Some e.1) × (k ≢ e.0))
    old t true d = inl (d.0 refl, one e t (d.0 refl))
    old t false d = inr ((waiting_has m o e.0 e.1).1 t, λ same. false≢true (d.1 same))

pub fired_gains : {S : Type 0} (m n : HashMap Key Inst S) (k : Key) (v : Inst) → hash.IsUnique same_keys m → hash.IsUnique same_keys n → hash.Updates same_keys m n k (Some v)
    → hash.get same_keys m k ≡ None → Gains ((k, v) ∷ []) m.entries n.entries
fired_gains m n k v o p u none e =
    let s = updated_some (hash.get same_keys m) (hash.get same_keys n) (same_keys k) k v (same_keys-Decides k) u.0 e.0 e.1 in (
      λ h. elim (s.0 ((fired_has n p e.0 e.1).1 h)) [
        | inl t ↦ inr (contains_from_member e ((k, v) ∷ []) (inl (λ i. (sym t.0 i, sym t.1 i))))
        | inr t ↦ inl ((fired_has m o e.0 e.1).0 t.0)
      ],
      λ h. (fired_has n p e.0 e.1).0 (s.1 (elim h [
        | inl t ↦ inr ((fired_has m o e.0 e.1).1 t, apart t)
        | inr t ↦ elim (member_from_contains e ((k, v) ∷ []) t) [
          | inl g ↦ inl (sym (ap (λ (w : Key × Inst). w.0) g), sym (ap (λ (w : Key × Inst). w.1) g))
          | inr g ↦ absurd g
        ]
      ])),
    )
  where
    apart : Contains m.entries e → k ≢ e.0
    apart t same =
        let P : Key → Type 0 = λ q. hash.get same_keys m q ≡ None in
        let a : hash.get same_keys m e.0 ≡ None = subst P same none in
        let b = (fired_has m o e.0 e.1).1 t in
        cc

-- ---- one key more

pub loses_more : {K X : Type 0} (ks ls : List K) (k : K) (old mid new : List (K × X)) → Loses ks old mid → ((e : K × X) → Contains new e ↔ (Contains mid e × (k ≢ e.0))) → ls ≡ ks ++ k ∷ [] → Loses ls old new
loses_more {K} {X} ks ls k old mid new a b is e = (
  λ h. (let t = b e in let m = t.0 h in let o = a e in let q = o.0 m.0 in (q.0, λ c. elim (split c) [ inl r ↦ q.1 r | inr r ↦ m.1 (sym r) ])),
  λ h. (b e).1 ((a e).1 (h.0, λ c. h.1 (left c)), λ same. h.1 (right (sym same))),
)
  where
    split : Contains ls e.0 → Contains ks e.0 ⊎ (e.0 ≡ k)
    split c =
        let P : List K → Type 0 = λ xs. Contains xs e.0 in
        elim (member_cases e.0 ks (k ∷ []) (member_from_contains e.0 (ks ++ k ∷ []) (subst P is c))) [
          | inl m ↦ inl (contains_from_member e.0 ks m)
          | inr m ↦ elim m [ inl same ↦ inr same | inr none ↦ absurd none ]
        ]

    left : Contains ks e.0 → Contains ls e.0
    left c =
        let P : List K → Type 0 = λ xs. Contains xs e.0 in
        subst P (sym is) (contains_from_member e.0 (ks ++ k ∷ []) (member_left e.0 ks (k ∷ []) (member_from_contains e.0 ks c)))

    right : e.0 ≡ k → Contains ls e.0
    right same =
        let P : List K → Type 0 = λ xs. Contains xs e.0 in
        subst P (sym is) (contains_from_member e.0 (ks ++ k ∷ []) (member_right e.0 ks (k ∷ []) (inl same)))

-- what was left to add, after one is added
pub gains_more : {X : Type 0} (x : X) (left rest old mid new : List X) → left ≡ x ∷ rest → Gains (x ∷ []) mid new → (y : X)
    → (Contains mid y ⊎ Contains left y) ↔ (Contains new y ⊎ Contains rest y)
gains_more {X} x left rest old mid new is g y = (
  λ h. elim h [
    | inl m ↦ inl ((g y).1 (inl m))
    | inr l ↦ elim (member_from_contains y (x ∷ rest) (let P : List X → Type 0 = λ xs. Contains xs y in subst P is l)) [
      | inl e ↦ inl ((g y).1 (inr (contains_from_member y (x ∷ []) (inl e))))
      | inr m ↦ inr (contains_from_member y rest m)
    ]
  ],
  λ h. elim h [
    | inl n ↦ elim ((g y).0 n) [
      | inl m ↦ inl m
      | inr l ↦ elim (member_from_contains y (x ∷ []) l) [
        | inl e ↦ inr (let P : List X → Type 0 = λ xs. Contains xs y in subst P (sym is) (contains_from_member y (x ∷ rest) (inl e)))
        | inr none ↦ absurd none
      ]
    ]
    | inr r ↦ inr (let P : List X → Type 0 = λ xs. Contains xs y in subst P (sym is) (contains_from_member y (x ∷ rest) (inr (member_from_contains y rest r))))
  ],
)

-- ---- adding one after another

-- those that are there and those that are left are the same as at first
abbrev pub AddsUp : List (Rank × Held) → List (Rank × Held) → List (Rank × Held) → List (Rank × Held) → Type 0
AddsUp old added now left = (e : Rank × Held) → (Contains now e ⊎ Contains left e) ↔ (Contains old e ⊎ Contains added e)

contains_first : {X : Type 0} (x : X) (left rest : List X) → left ≡ x ∷ rest → Contains left x
contains_first {X} x left rest e =
    let P : List X → Type 0 = λ xs. Contains xs x in subst P (sym e) (contains_from_member x (x ∷ rest) (inl refl))

pub added_one : (old added : List (Rank × Held)) (m n : BTreeMap Rank Held) (left rest : List (Rank × Held)) (k : Rank) (v : Held) → AreToldApart old added → AddsUp old added m.entries left
    → left ≡ (k, v) ∷ rest → tree.IsOrdered compare_ranks m → tree.IsOrdered compare_ranks n → tree.Updates compare_ranks m n k (Some v) → Gains ((k, v) ∷ []) m.entries n.entries
added_one old added m n left rest k v a s is o p u =
    waiting_gains m n k v o p u
    (λ e h same.
    ap (λ (w : Rank × Held). w.1)
    (a (k, v) e ((s (k, v)).0 (inr (contains_first (k, v) left rest is))) ((s e).0 (inl h)) same))

pub adds_up : (old added now next left rest : List (Rank × Held)) (x : Rank × Held) → AddsUp old added now left → left ≡ x ∷ rest → Gains (x ∷ []) now next → AddsUp old added next rest
adds_up old added now next left rest x s is g e =
    let t = gains_more x left rest old now next is g e in (λ h. (s e).0 (t.1 h), λ h. t.0 ((s e).1 h))

pub added_all : (old added now left : List (Rank × Held)) → AddsUp old added now left → left ≡ [] → Gains added old now
added_all old added now left s is e = (
  λ h. (s e).0 (inl h),
  λ h. elim ((s e).1 h) [
    | inl n ↦ n
    | inr l ↦ absurd (member_from_contains e [] (let P : List (Rank × Held) → Type 0 = λ xs. Contains xs e in subst P is l))
  ],
)

pub same_entries : (old added now left : List (Rank × Held)) → AddsUp old added now left → (e : Rank × Held) → Contains now e → Contains old e ⊎ Contains added e
same_entries old added now left s e h = (s e).0 (inl h)

pub one_more_at_most : (b : Bool) → cond b 0 1 ≤ 1
one_more_at_most true = omega arith
one_more_at_most false = omega arith

pub no_items : {A X : Type 0} (s t : IntoIter X A) (o : Option X) → o ≡ None → into_iter_steps s o t → length (into_iter_items s) ≡ into_iter_len s → into_iter_items s ≡ []
no_items {A} {X} s t o e h l =
    let P : Option X → Type 0 = λ w. into_iter_steps s w t in nothing (into_iter_items s) (l ∙ (subst P e h).0)
  where
    nothing : (xs : List X) → length xs ≡ 0 → xs ≡ []
    nothing [] e = refl
    nothing (x ∷ xs) e = absurd (omega (arith, e))

-- what stands at the last place
pub last_of : {X : Type 0} (front : List X) (x y : X) (xs : List X) → xs ≡ front ++ x ∷ [] → slice_get xs (length xs - 1) ≡ Some y → x ≡ y
last_of {X} front x y xs e h =
    let P : List X → Type 0 = λ ws. slice_get ws (length ws - 1) ≡ Some y in
    at_end front (subst P e h)
  where
    inner : Some x ≡ Some y → x ≡ y
    inner p = cc

    get_end : (ws : List X) → slice_get (ws ++ x ∷ []) (length (ws ++ x ∷ []) - 1) ≡ Some x
    get_end ws =
        let n : length (ws ++ x ∷ []) - 1 ≡ length ws = omega (arith, length-append ws (x ∷ [])) in
        ap (λ n. slice_get (ws ++ x ∷ []) n) n
        ∙ slice_get-get_or (ws ++ x ∷ []) (length ws) x (omega (arith, length-append ws (x ∷ [])))
        ∙ ap Some (get_or-append_seam ws x [] x)

    at_end : (ws : List X) → slice_get (ws ++ x ∷ []) (length (ws ++ x ∷ []) - 1) ≡ Some y → x ≡ y
    at_end ws g = inner (sym (get_end ws) ∙ g)
