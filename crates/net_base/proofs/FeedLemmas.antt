-- What is looked up: numbers of list items, the index of the alphas, and what an element finds in it.
use Rattle.std.proofs.Common.{◌≡◌, ◌≢◌, ℕ, zero, suc, ◌+◌, ◌<◌, Bool, true, false, cond, ◌||◌, ◌&&◌, ◌==◌, List, [], ◌∷◌, ◌++◌, length, slice_get, Option, Some, None, refl, sym, ap, subst, ◌∙◌, arith, add-one, append-nil, inl, inr}
use Rattle.std.specs.List.{list_any, list_all, flat_map, All, AllPairs, Contains}
use Rattle.std.specs.Prelude.{IsTrue}
use Rattle.std.proofs.lemmas.Bool.{eqb-true, eqb-false, and_parts, and_from}
use Rattle.std.proofs.lemmas.Bool.Decides.{Decides-eqb}
use Rattle.ops_base.specs.declared.values.Pred.{Pred}
use Rattle.ops_base.specs.declared.values.Pred.TheVariants.{Eq, Ne, Lt, Le, Gt, Ge, SameKind}
use Rattle.ops_base.specs.declared.conditions.Operand.{Operand}
use Rattle.ops_base.specs.declared.conditions.Operand.TheVariants as operand
use Rattle.ops_base.specs.declared.conditions.Test.{Test}
use Rattle.ops_base.specs.declared.elements.Element.{Element}
use Rattle.ops_base.specs.Values.{are_same}
use Rattle.ops_base.specs.WorkingMemory.{field_of}
use Rattle.ops_base.proofs.Members.{IsMember, all_from_members, contains_from_member, member_left, member_right, member-flat_map, flat_map_member, member_cases}
use Rattle.net_base.specs.declared.nodes.Alpha.{Alpha}
use Rattle.net_base.specs.declared.nodes.Node.{Node}
use Rattle.net_base.specs.declared.rows.Rows.{Rows}
use Rattle.net_base.specs.Sound.{takes_elements}
use Rattle.net_base.specs.declared.keys.Constant.{Constant}
use Rattle.net_base.specs.declared.keys.Key.{Key}
use Rattle.net_base.specs.declared.alpha_index.AlphaIndex.{AlphaIndex}
use Rattle.net_base.specs.Tokens.{alpha_test_holds, passes_alpha}
use Rattle.net_base.specs.Rows.{AddsTo, row_at}
use Rattle.net_base.specs.Feeds.{takes_from, number_if, numbers_below, constant_if, constant_of, constant_or, first_constant, has_constant, IsCandidate, key_of, has_key, has_field, IsIndexBelow, IsIndex, AddsAlpha, found_by, found_at, found_in}
use Rattle.net_base.proofs.KeyLemmas.{key_Decides}
use Rattle.net_base.proofs.Apart.{NoTwice, no_twice_append, no_twice-flat_map, pairs_from_no_twice, no_twice_from_pairs}
use Rattle.net_base.proofs.Sames.{value_Decides}

-- ---- one number more

pub numbers_more : {X : Type 0} (test : X → Bool) (xs : List X) (i : ℕ) (x : X) → slice_get xs i ≡ Some x → numbers_below test xs (i + 1) ≡ numbers_below test xs i ++ cond (test x) (i ∷ []) []
numbers_more test xs i x at = ap (numbers_below test xs) (add-one i) ∙ ap (λ o. numbers_below test xs i ++ number_if test o i) at

-- one node more takes the elements of its alpha
pub takers_more : (nodes : List Node) (i : ℕ) (x : Node) (old new : Rows) → slice_get nodes i ≡ Some x → takes_elements x.kind ≡ true → AddsTo old new x.alpha i
    → ((alpha : ℕ) → row_at old alpha ≡ numbers_below (takes_from alpha) nodes i) → (alpha : ℕ) → row_at new alpha ≡ numbers_below (takes_from alpha) nodes (i + 1)
takers_more nodes i x old new at lives adds h alpha =
    adds alpha ∙ (ap (λ ns. ns ++ cond (x.alpha == alpha) (i ∷ []) []) (h alpha)
    ∙ sym (numbers_more (takes_from alpha) nodes i x at ∙ ap (λ b. numbers_below (takes_from alpha) nodes i ++ cond (b && (x.alpha == alpha)) (i ∷ []) []) lives))

-- another node takes none
pub takers_same : (nodes : List Node) (i : ℕ) (x : Node) (rows : Rows) → slice_get nodes i ≡ Some x → takes_elements x.kind ≡ false
    → ((alpha : ℕ) → row_at rows alpha ≡ numbers_below (takes_from alpha) nodes i) → (alpha : ℕ) → row_at rows alpha ≡ numbers_below (takes_from alpha) nodes (i + 1)
takers_same nodes i x rows at ends h alpha =
    h alpha
    ∙ sym (numbers_more (takes_from alpha) nodes i x at
    ∙ (ap (λ b. numbers_below (takes_from alpha) nodes i ++ cond (b && (x.alpha == alpha)) (i ∷ []) []) ends ∙ append-nil (numbers_below (takes_from alpha) nodes i)))

-- one alpha more
pub index_more : (alphas : List Alpha) (i : ℕ) (a : Alpha) (old new : AlphaIndex) → slice_get alphas i ≡ Some a → IsIndexBelow alphas i old → AddsAlpha old new i a → IsIndexBelow alphas (i + 1) new
index_more alphas i a old new at h adds = record {
  found = λ k. (adds.found k ∙ (ap (λ ns. ns ++ cond (has_key k a) (i ∷ []) []) (h.found k) ∙ sym (numbers_more (has_key k) alphas i a at)));
  fields = λ n b c low here first. by_place n b c low here first (n == i) refl;
  once = adds.once h.once;
}
  where
    by_place : (n : ℕ) (b : Alpha) (c : Constant) → n < i + 1 → slice_get alphas n ≡ Some b → first_constant b.tests ≡ Some c → (t : Bool) → (n == i) ≡ t → has_field new b.class c.field ≡ true
    by_place n b c low here first true e =
        let same : Some b ≡ Some a = sym here ∙ (ap (slice_get alphas) (eqb-true n i e) ∙ at) in
        let is : b ≡ a = cc in
        subst (λ (z : Alpha). has_field new z.class c.field ≡ true) (sym is) (adds.field c (ap (λ (z : Alpha). first_constant z.tests) (sym is) ∙ first))
    by_place n b c low here first false e =
        let ne = eqb-false n i e in adds.stay b.class c.field (h.fields n b c (omega arith) here first)

-- ---- members

pub number_in : {X : Type 0} (test : X → Bool) (xs : List X) (n : ℕ) (x : X) → slice_get xs n ≡ Some x → test x ≡ true → (i : ℕ) → n < i → IsMember n (numbers_below test xs i)
number_in test xs n x at passes zero low = absurd (omega arith)
number_in test xs n x at passes (suc i) low = by_place (λ l. number_in test xs n x at passes i l) (n == i) refl
  where
    here : n ≡ i → IsMember n (number_if test (slice_get xs i) i)
    here e = subst (λ k. IsMember n (number_if test (slice_get xs k) k)) e (subst (λ o. IsMember n (number_if test o n)) (sym at) (subst (λ b. IsMember n (cond b (n ∷ []) [])) (sym passes) (inl refl)))

    by_place : (n < i → IsMember n (numbers_below test xs i)) → (b : Bool) → (n == i) ≡ b → IsMember n (numbers_below test xs i ++ number_if test (slice_get xs i) i)
    by_place before true e = member_right n (numbers_below test xs i) (number_if test (slice_get xs i) i) (here (eqb-true n i e))
    by_place before false e = (let ne = eqb-false n i e in member_left n (numbers_below test xs i) (number_if test (slice_get xs i) i) (before (omega arith)))

-- the item of each number is there and passes
pub record HasNumber {X : Type 0} (test : X → Bool) (xs : List X) (n i : ℕ) : Type 0 where
  pub item : X
  pub at : slice_get xs n ≡ Some item
  pub passes : test item ≡ true
  pub below : n < i

last_number : {X : Type 0} (test : X → Bool) (xs : List X) (n i : ℕ) (o : Option X) → slice_get xs i ≡ o → IsMember n (number_if test o i) → HasNumber test xs n (suc i)
last_number test xs n i None e m = absurd m
last_number test xs n i (Some x) e m = by_test (test x) refl m
  where
    by_test : (b : Bool) → test x ≡ b → IsMember n (cond b (i ∷ []) []) → HasNumber test xs n (suc i)
    by_test true q (inl s) = record { item = x; at = subst (λ k. slice_get xs k ≡ Some x) (sym s) e; passes = q; below = omega arith }
    by_test true q (inr s) = absurd s
    by_test false q s = absurd s

pub number_of : {X : Type 0} (test : X → Bool) (xs : List X) (n i : ℕ) → IsMember n (numbers_below test xs i) → HasNumber test xs n i
number_of test xs n zero m = absurd m
number_of test xs n (suc i) m = elim (member_cases n (numbers_below test xs i) (number_if test (slice_get xs i) i) m) [
  | inl a ↦ (let r = number_of test xs n i a in let low = r.below in record { item = r.item; at = r.at; passes = r.passes; below = omega arith })
  | inr b ↦ last_number test xs n i (slice_get xs i) refl b
]

pub numbers_apart : {X : Type 0} (test : X → Bool) (xs : List X) (i : ℕ) → NoTwice (numbers_below test xs i)
numbers_apart test xs zero = tt
numbers_apart {X} test xs (suc i) =
    no_twice_append (numbers_below test xs i) (number_if test (slice_get xs i) i) (numbers_apart test xs i) (by_item (slice_get xs i))
    (λ n a b. (let low = (number_of test xs n i a).below in let is = is_last (slice_get xs i) n b in absurd (omega arith)))
  where
    by_test : (b : Bool) → NoTwice (cond b (i ∷ []) [])
    by_test true = (λ m. absurd m, tt)
    by_test false = tt

    by_item : (o : Option X) → NoTwice (number_if test o i)
    by_item None = tt
    by_item (Some x) = by_test (test x)

    is_in : (b : Bool) (n : ℕ) → IsMember n (cond b (i ∷ []) []) → n ≡ i
    is_in true n (inl e) = e
    is_in true n (inr m) = absurd m
    is_in false n m = absurd m

    is_last : (o : Option X) (n : ℕ) → IsMember n (number_if test o i) → n ≡ i
    is_last None n m = absurd m
    is_last (Some x) n m = is_in (test x) n m

-- a number that a test finds in a list is a member
found_member : (f : ℕ) (xs : List ℕ) → list_any (λ g. g == f) xs ≡ true → IsMember f xs
found_member f [] e = cc
found_member f (x ∷ xs) e = by_first (found_member f xs) (x == f) refl
  where
    by_first : (list_any (λ g. g == f) xs ≡ true → IsMember f xs) → (b : Bool) → (x == f) ≡ b → IsMember f (x ∷ xs)
    by_first rest true q = inl (sym (eqb-true x f q))
    by_first rest false q = inr (rest (ap (λ b. b || list_any (λ g. g == f) xs) (sym q) ∙ e))

-- ---- an element that passes has the constant

test_wants : (e : Element) (f : ℕ) (c : Constant) (pred : Pred) (o : Operand) → constant_if pred o f ≡ Some c → alpha_test_holds e (record { field = f; pred = pred; operand = o; binds = false }) ≡ true → are_same (field_of e c.field) c.value ≡ true
test_wants e f c Eq (operand.Constant v) is holds =
    let same : record { field = f; value = v } ≡ c = cc in
    subst (λ (z : Constant). are_same (field_of e z.field) z.value ≡ true) same holds
test_wants e f c Eq (operand.OneOf vs) is holds = cc
test_wants e f c Eq (operand.Variable v) is holds = cc
test_wants e f c Ne o is holds = cc
test_wants e f c Lt o is holds = cc
test_wants e f c Le o is holds = cc
test_wants e f c Gt o is holds = cc
test_wants e f c Ge o is holds = cc
test_wants e f c SameKind o is holds = cc

one_wants : (e : Element) (t : Test) (c : Constant) → constant_of t ≡ Some c → alpha_test_holds e t ≡ true → are_same (field_of e c.field) c.value ≡ true
one_wants e t c = by_binds t.binds refl
  where
    by_binds : (b : Bool) → t.binds ≡ b → constant_of t ≡ Some c → alpha_test_holds e t ≡ true → are_same (field_of e c.field) c.value ≡ true
    by_binds true q is holds = (let bad : None ≡ Some c = ap (λ b. cond b None (constant_if t.pred t.operand t.field)) (sym q) ∙ is in cc)
    by_binds false q is holds =
        test_wants e t.field c t.pred t.operand (ap (λ b. cond b None (constant_if t.pred t.operand t.field)) (sym q) ∙ is)
        (ap (λ b. alpha_test_holds e (record t { binds = b })) (sym q) ∙ holds)

first_wants : (e : Element) (c : Constant) (ts : List Test) → first_constant ts ≡ Some c → list_all (alpha_test_holds e) ts ≡ true → are_same (field_of e c.field) c.value ≡ true
first_wants e c [] is all = cc
first_wants e c (t ∷ ts) is all = by_first (first_wants e c ts) (constant_of t) refl
  where
    by_first : (first_constant ts ≡ Some c → list_all (alpha_test_holds e) ts ≡ true → are_same (field_of e c.field) c.value ≡ true) → (o : Option Constant) → constant_of t ≡ o → are_same (field_of e c.field) c.value ≡ true
    by_first rest None q = rest (ap (λ o. constant_or o (first_constant ts)) (sym q) ∙ is) (and_parts (alpha_test_holds e t) (list_all (alpha_test_holds e) ts) all).1
    by_first rest (Some d) q =
        one_wants e t c (q ∙ (ap (λ o. constant_or o (first_constant ts)) (sym q) ∙ is)) (and_parts (alpha_test_holds e t) (list_all (alpha_test_holds e) ts) all).0

pub get_low : {X : Type 0} (xs : List X) (n : ℕ) (x : X) → slice_get xs n ≡ Some x → n < length xs
get_low [] n x e = cc
get_low (y ∷ xs) zero x e = omega arith
get_low (y ∷ xs) (suc n) x e = let h = get_low xs n x e in omega arith

-- ---- what an element finds

module _ (alphas : List Alpha) (index : AlphaIndex) (h : IsIndex alphas index) where
  -- an alpha is found by its key, and by no other
  by_key : (n : ℕ) (a : Alpha) (k : Key) → slice_get alphas n ≡ Some a → key_of a ≡ k → IsMember n (found_by index k.class k.constant)
  by_key n a k at is = subst (IsMember n) (sym (h.found k)) (number_in (has_key k) alphas n a at ((key_Decides (key_of a) k).1 is) (length alphas) (get_low alphas n a at))

  key_found : (n : ℕ) (k : Key) → IsMember n (found_by index k.class k.constant) → (a : Alpha) × (slice_get alphas n ≡ Some a) × (key_of a ≡ k)
  key_found n k m =
      let r = number_of (has_key k) alphas n (length alphas) (subst (IsMember n) (h.found k) m) in
      (r.item, r.at, (key_Decides (key_of r.item) k).0 r.passes)

  module _ (e : Element) where
    passed_found : (n : ℕ) (a : Alpha) (o : Option Constant) → slice_get alphas n ≡ Some a → e.class ≡ a.class → first_constant a.tests ≡ o → has_constant e o ≡ true → IsMember n (found_in index e)
    passed_found n a None at class first has =
        member_left n (found_by index e.class None) (flat_map (found_at index e) (row_at index.fields e.class))
        (by_key n a (record { class = e.class; constant = None }) at (λ i. record { class = sym class i; constant = first i }))
    passed_found n a (Some c) at class first has =
        let value : field_of e c.field ≡ c.value = (value_Decides (field_of e c.field) c.value).0 has in
        let wants : first_constant a.tests ≡ Some (record { field = c.field; value = field_of e c.field }) =
        first ∙ ap (λ v. Some (record { field = c.field; value = v })) (sym value) in
        let there = by_key n a (record { class = e.class; constant = Some (record { field = c.field; value = field_of e c.field }) }) at (λ i. record { class = sym class i; constant = wants i }) in
        let known = found_member c.field (row_at index.fields e.class) (ap (λ k. has_field index k c.field) class ∙ h.fields n a c (get_low alphas n a at) at first) in
        member_right n (found_by index e.class None) (flat_map (found_at index e) (row_at index.fields e.class))
        (member-flat_map (found_at index e) n c.field (row_at index.fields e.class) known there)

    wants_of : (a : Alpha) → list_all (alpha_test_holds e) a.tests ≡ true → (o : Option Constant) → first_constant a.tests ≡ o → has_constant e o ≡ true
    wants_of a all None first = refl
    wants_of a all (Some c) first = first_wants e c a.tests first all

    -- each alpha that the element passes is among those that it finds
    pub found_passed : (found : List ℕ) → found ≡ found_in index e → (n : ℕ) (a : Alpha) → slice_get alphas n ≡ Some a → IsTrue (passes_alpha a e) → Contains found n
    found_passed found is n a at passes =
        let parts = and_parts (e.class == a.class) (list_all (alpha_test_holds e) a.tests) passes in
        subst (λ ns. Contains ns n) (sym is) (contains_from_member n (found_in index e)
        (passed_found n a (first_constant a.tests) at (eqb-true e.class a.class parts.0) refl (wants_of a parts.1 (first_constant a.tests) refl)))

    candidate : (n : ℕ) (a : Alpha) (o : Option Constant) → slice_get alphas n ≡ Some a → key_of a ≡ record { class = e.class; constant = o } → has_constant e o ≡ true → IsCandidate alphas e n
    candidate n a o at is has = record {
      alpha = a;
      at = at;
      able = and_from (e.class == a.class) (has_constant e (first_constant a.tests)) ((Decides-eqb e.class a.class).1 (sym (ap (λ (k : Key). k.class) is)))
          (ap (λ (k : Key). has_constant e k.constant) is ∙ has);
    }

    found_able : (n : ℕ) → IsMember n (found_in index e) → IsCandidate alphas e n
    found_able n m = elim (member_cases n (found_by index e.class None) (flat_map (found_at index e) (row_at index.fields e.class)) m) [
      | inl a ↦ (let r = key_found n (record { class = e.class; constant = None }) a in candidate n r.0 None r.1 r.2 refl)
      | inr b ↦
          let f = flat_map_member (found_at index e) n (row_at index.fields e.class) b in
          let c : Constant = record { field = f.0; value = field_of e f.0 } in
          let r = key_found n (record { class = e.class; constant = Some c }) f.2 in
          candidate n r.0 (Some c) r.1 r.2 ((value_Decides c.value c.value).1 refl)
    ]

    -- all that it finds are alphas that it can pass
    pub all_able : (found : List ℕ) → found ≡ found_in index e → All (IsCandidate alphas e) found
    all_able found is = subst (All (IsCandidate alphas e)) (sym is) (all_from_members (IsCandidate alphas e) (found_in index e) found_able)

    same_alpha : (n : ℕ) (a b : Alpha) → slice_get alphas n ≡ Some a → slice_get alphas n ≡ Some b → a ≡ b
    same_alpha n a b at here = let q : Some a ≡ Some b = sym at ∙ here in cc

    one_key : (n : ℕ) (k q : Key) → IsMember n (found_by index k.class k.constant) → IsMember n (found_by index q.class q.constant) → k ≡ q
    one_key n k q m l =
        let r = key_found n k m in
        let s = key_found n q l in
        sym r.2 ∙ (ap key_of (same_alpha n r.0 s.0 r.1 s.1) ∙ s.2)

    no_twice_by : (k : Key) → NoTwice (found_by index k.class k.constant)
    no_twice_by k = subst NoTwice (sym (h.found k)) (numbers_apart (has_key k) alphas (length alphas))

    one_field : (f g n : ℕ) → IsMember n (found_at index e f) → IsMember n (found_at index e g) → f ≡ g
    one_field f g n m l =
        let c : Constant = record { field = f; value = field_of e f } in
        let d : Constant = record { field = g; value = field_of e g } in
        let q = ap (λ (k : Key). k.constant) (one_key n (record { class = e.class; constant = Some c }) (record { class = e.class; constant = Some d }) m l) in
        let p : c ≡ d = cc in
        ap (λ (z : Constant). z.field) p

    apart_by : (n : ℕ) → IsMember n (found_by index e.class None) → IsMember n (flat_map (found_at index e) (row_at index.fields e.class)) → ⊥
    apart_by n m l =
        let f = flat_map_member (found_at index e) n (row_at index.fields e.class) l in
        let c : Constant = record { field = f.0; value = field_of e f.0 } in
        let q = ap (λ (k : Key). k.constant) (one_key n (record { class = e.class; constant = None }) (record { class = e.class; constant = Some c }) m f.2) in
        cc

    -- no alpha is found twice
    pub found_once : (found : List ℕ) → found ≡ found_in index e → AllPairs (λ n m. n ≢ m) found
    found_once found is = subst (AllPairs (λ n m. n ≢ m)) (sym is) (pairs_from_no_twice (found_in index e)
        (no_twice_append (found_by index e.class None) (flat_map (found_at index e) (row_at index.fields e.class)) (no_twice_by (record { class = e.class; constant = None }))
        (no_twice-flat_map (found_at index e) (row_at index.fields e.class) (no_twice_from_pairs (row_at index.fields e.class) (h.once e.class))
        (λ f. no_twice_by (record { class = e.class; constant = Some (record { field = f; value = field_of e f }) })) one_field) apart_by))
