-- Pairs with keys of which none is there twice, once one of them is written, added or taken out.
use Rattle.std.proofs.Common.{not, nat_lt, inl, inr, ◌≡◌, ℕ, zero, suc, ◌+◌, ◌<◌, Bool, true, false, cond, ◌||◌, List, [], ◌∷◌, ◌++◌, length, map, slice_get, slice_index_or, slice_set, Option, Some, None, IfSome, IsOk, Result, Ok, Err, OnOk, OnErr, refl, sym, ap, ap₂, subst, ◌∙◌, arith, add-one, append_assoc, position, drop, is_some, true≢false, ◌≤◌}
use Rattle.std.specs.Cmp.{IsEquivalence}
use Rattle.std.specs.List.{AllByRecursion, IsDistinct, list_any, prefix_len, swap_remove}
use Rattle.std.specs.List.Sorted.{IsPermutation}
use Rattle.std.specs.Map.{keys_of, lookup, values_of}
use Rattle.std.specs.declared.vec.Vec.{Vec}
use Rattle.std.proofs.lemmas.List.Sorted.{IsPermutation-map, IsPermutation-swap_remove}
use Rattle.std.proofs.lemmas.Map.Keys.{IsDistinct-IsPermutation, IsDistinct-head, IsDistinct-push, IsDistinct-tail}
use Rattle.std.proofs.lemmas.List.Quantifiers.{position-Some}
use Rattle.std.proofs.lemmas.Map.Entries.{length-keys_of}
use Rattle.std.proofs.lemmas.Option.{get_or_from_slice_get, slice_get_cases, slice_get_within}
use Rattle.indexmap.specs.IndexMap.{IndexMap, insert_entry, set_value_at, spare}
use Rattle.indexmap.proofs.CallerLemmas.{insert_entry-new}
use Rattle.indexmap.proofs.MapLemmas.{absent_before, Found-position, lookup_permutation, some_index}
use Rattle.token_line.specs.inner.SmallMap.{pairs_in}
use Rattle.token_line.specs.inner.SmallMapLends.{list_with_value, room_with_value}
use Rattle.token_line.specs.declared.small_map.Room.{Room}
use Rattle.token_line.specs.declared.small_map.Room.TheVariants.{Few, Many}

pub on_ok_at : {T E P : Type 0} (r : Result T E) → OnOk r P → IsOk r → P
on_ok_at (Ok x) h ok = h
on_ok_at (Err e) h ok = absurd (cc)

-- a place among the keys is one among the pairs
before_map : {X Y : Type 0} (p : Y → Bool) (f : X → Y) (xs : List X) → prefix_len p (map f xs) ≡ prefix_len (λ x. p (f x)) xs
before_map p f [] = refl
before_map p f (x ∷ xs) = ap (λ n. cond (p (f x)) (1 + n) 0) (before_map p f xs)

length_map : {X Y : Type 0} (f : X → Y) (xs : List X) → length (map f xs) ≡ length xs
length_map f [] = refl
length_map f (x ∷ xs) = ap suc (length_map f xs)

pub position-map : {X Y : Type 0} (p : Y → Bool) (f : X → Y) (xs : List X) → position p (map f xs) ≡ position (λ x. p (f x)) xs
position-map p f xs = ap₂ (λ n m. cond (nat_lt n m) (Some n) None) (before_map (λ y. not (p y)) f xs) (length_map f xs)

pub no_keys : {K : Type 0} (eq : K → K → Bool) → IsDistinct eq []
unfolding IsDistinct
no_keys eq = tt

module _ {K : Type 0} {eq : K → K → Bool} (laws : IsEquivalence eq) where
  -- one key is like two that are not alike
  two_alike : (m a b : K) → eq m a ≡ true → eq m b ≡ true → eq a b ≡ false → ⊥
  two_alike m a b p q r = true≢false (sym q ∙ (laws.congr m a b p ∙ r))

  exchanged : {R : Type 0} (m a b : K) (x y z : R) → eq a b ≡ false → cond (eq m a) x (cond (eq m b) y z) ≡ cond (eq m b) y (cond (eq m a) x z)
  exchanged m a b x y z r = by (eq m a) refl (eq m b) refl
    where
      by : (c : Bool) → eq m a ≡ c → (d : Bool) → eq m b ≡ d → cond c x (cond d y z) ≡ cond d y (cond c x z)
      by true p true q = absurd (two_alike m a b p q r)
      by true p false q = refl
      by false p true q = refl
      by false p false q = refl

module _ {K V : Type 0} where
  -- ---- one is written

  pub value_of_pair : (es : List (K × V)) (i : ℕ) (e : K × V) → slice_get es i ≡ Some e → slice_get (values_of es) i ≡ Some e.1
  value_of_pair [] i e at = absurd (cc)
  value_of_pair (x ∷ xs) zero e at = let same : x ≡ e = cc in ap (λ (y : K × V). Some y.1) same
  value_of_pair (x ∷ xs) (suc i) e at = value_of_pair xs i e at

  pub keys_set : (es : List (K × V)) (i : ℕ) (w : V) → keys_of (set_value_at es i w) ≡ keys_of es
  keys_set [] i w = refl
  keys_set (e ∷ es) zero w = refl
  keys_set (e ∷ es) (suc i) w = ap (λ ks. e.0 ∷ ks) (keys_set es i w)

  pub within_set : (es : List (K × V)) (i : ℕ) (v w : V) → slice_get (values_of es) i ≡ Some v → i < length (set_value_at es i w)
  within_set [] i v w at = absurd (cc)
  within_set (x ∷ xs) zero v w at = omega arith
  within_set (x ∷ xs) (suc i) v w at = omega (arith, within_set xs i v w at)

  set_missing : (es : List (K × V)) (i : ℕ) (w : V) → slice_get es i ≡ None → es ≡ set_value_at es i w
  set_missing [] i w none = refl
  set_missing (e ∷ es) zero w none = absurd (cc)
  set_missing (e ∷ es) (suc i) w none = ap (λ l. e ∷ l) (set_missing es i w none)

  set_pair : (es : List (K × V)) (i : ℕ) (e : K × V) (w : V) → slice_get es i ≡ Some e → slice_set es i (e.0, w) ≡ set_value_at es i w
  set_pair [] i e w at = refl
  set_pair (x ∷ xs) zero e w at = let same : x ≡ e = cc in ap (λ (y : K × V). (y.0, w) ∷ xs) (sym same)
  set_pair (x ∷ xs) (suc i) e w at = ap (λ l. x ∷ l) (set_pair xs i e w at)

  list_set : {G : Type 0} (list : Vec (K × V) G) (i : ℕ) (w : V) (o : Option (K × V)) → slice_get list.items i ≡ o → (list_with_value list i w o).items ≡ set_value_at list.items i w
  list_set list i w None at = set_missing list.items i w at
  list_set list i w (Some e) at = set_pair list.items i e w at

  pub pairs_set : (room : Room K V) (i : ℕ) (w : V) → pairs_in (room_with_value room i w) ≡ set_value_at (pairs_in room) i w
  pairs_set (Few list) i w = list_set list i w (slice_get list.items i) refl
  pairs_set (Many map) i w = refl

  -- the keys from a place on
  pub keys_left : (es : List (K × V)) (i : ℕ) (e : K × V) → slice_get es i ≡ Some e → drop i (keys_of es) ≡ e.0 ∷ drop (suc i) (keys_of es)
  keys_left [] i e at = absurd (cc)
  keys_left (x ∷ xs) zero e at = let same : x ≡ e = cc in ap (λ (y : K × V). y.0 ∷ keys_of xs) same
  keys_left (x ∷ xs) (suc i) e at = keys_left xs i e at

  -- ---- the value of a key

  pub found_value : (test : K → Bool) (es : List (K × V)) (i : ℕ) (e : K × V) → position test (keys_of es) ≡ Some i → slice_get es i ≡ Some e → lookup test es ≡ Some e.1
  found_value test es i e is at = (Found-position test es i is).value ∙ value_of_pair es i e at

  pub found_at : (test : K → Bool) (es : List (K × V)) (i : ℕ) (v : V) → position test (keys_of es) ≡ Some i → slice_get (values_of es) i ≡ Some v → lookup test es ≡ Some v
  found_at test es i v is at = (Found-position test es i is).value ∙ at

  pub missing_value : (test : K → Bool) (es : List (K × V)) → position test (keys_of es) ≡ None → lookup test es ≡ None
  missing_value test es is = by (lookup test es) refl
    where
      by : (o : Option V) → lookup test es ≡ o → o ≡ None
      by None e = refl
      by (Some v) e = absurd (true≢false (sym (ap is_some e) ∙ (sym (some_index test es) ∙ ap is_some is)))

  -- ---- one is added

  -- the last value is written
  pub set_last : (es : List (K × V)) (k : K) (v w : V) → set_value_at (es ++ (k, v) ∷ []) (length es) w ≡ es ++ (k, w) ∷ []
  set_last [] k v w = refl
  set_last (e ∷ es) k v w = ap (λ l. e ∷ l) (set_last es k v w)

  pub value_last : (es : List (K × V)) (k : K) (v : V) → slice_get (values_of (es ++ (k, v) ∷ [])) (length es) ≡ Some v
  value_last [] k v = refl
  value_last (e ∷ es) k v = value_last es k v

  none_among : (eq : K → K → Bool) (es : List (K × V)) (k : K) → lookup (eq k) es ≡ None → list_any (eq k) (keys_of es) ≡ false
  none_among eq [] k none = refl
  none_among eq (e ∷ es) k none = by (none_among eq es k) (eq k e.0) refl none
    where
      by : (lookup (eq k) es ≡ None → list_any (eq k) (keys_of es) ≡ false) → (b : Bool) → eq k e.0 ≡ b → cond b (Some e.1) (lookup (eq k) es) ≡ None → list_any (eq k) (keys_of (e ∷ es)) ≡ false
      by ih true p n = absurd (cc)
      by ih false p n = ap (λ b. b || list_any (eq k) (keys_of es)) p ∙ ih n

  pub keys_push : (es : List (K × V)) (k : K) (v : V) → keys_of (es ++ (k, v) ∷ []) ≡ keys_of es ++ k ∷ []
  keys_push [] k v = refl
  keys_push (e ∷ es) k v = ap (λ ks. e.0 ∷ ks) (keys_push es k v)

  module _ {eq : K → K → Bool} (laws : IsEquivalence eq) where
    pub push_apart : (es new : List (K × V)) (k : K) (v : V) → IsDistinct eq (keys_of es) → lookup (eq k) es ≡ None → new ≡ es ++ (k, v) ∷ [] → IsDistinct eq (keys_of new)
    push_apart es new k v apart none is =
        subst (λ l. IsDistinct eq (keys_of l)) (sym is)
        (subst (IsDistinct eq) (sym (keys_push es k v)) (IsDistinct-push laws (keys_of es) k apart (none_among eq es k none)))

    pub pushed_or_not : {T E : Type 0} (r : Result T E) (es new : List (K × V)) (k : K) (v : V) → IsDistinct eq (keys_of es) → lookup (eq k) es ≡ None
        → OnOk r (new ≡ es ++ (k, v) ∷ []) → OnErr r (new ≡ es) → IsDistinct eq (keys_of new)
    pushed_or_not (Ok x) es new k v apart none ok err = push_apart es new k v apart none ok
    pushed_or_not (Err e) es new k v apart none ok err = subst (λ l. IsDistinct eq (keys_of l)) (sym err) apart

    -- ---- one is taken out

    pub remove_moves : (es : List (K × V)) (i : ℕ) (e : K × V) → slice_get es i ≡ Some e → IsPermutation es (e ∷ swap_remove es i e)
    remove_moves es i e at = IsPermutation-swap_remove es i e (slice_get_within es i e at) (sym (get_or_from_slice_get es i e e at))

    pub remove_apart_all : (es : List (K × V)) (i : ℕ) (e : K × V) → slice_get es i ≡ Some e → IsDistinct eq (keys_of es) → IsDistinct eq (keys_of (e ∷ swap_remove es i e))
    remove_apart_all es i e at apart =
        IsDistinct-IsPermutation eq (λ a b. laws.symm a b) (keys_of es) (keys_of (e ∷ swap_remove es i e))
        (IsPermutation-map (λ (x : K × V). x.0) es (e ∷ swap_remove es i e) (remove_moves es i e at)) apart

    pub removed_apart : (es new : List (K × V)) (i : ℕ) → i < length es → IsDistinct eq (keys_of es) → IfSome (slice_get es i) (λ e. new ≡ swap_remove es i e) → IsDistinct eq (keys_of new)
    removed_apart es new i within apart is = elim (slice_get_cases es i).1 [
      | inl h ↦
          let gone : new ≡ swap_remove es i h.0 = subst (λ o. IfSome o (λ (e : K × V). new ≡ swap_remove es i e)) h.2 is in
          subst (λ l. IsDistinct eq (keys_of l)) (sym gone)
          (IsDistinct-tail eq h.0.0 (keys_of (swap_remove es i h.0)) (remove_apart_all es i h.0 h.2 apart))
      | inr h ↦ absurd (omega (arith, h.0, within))
    ]

    -- ---- what a look-up finds

    -- no key is like one that is not there
    unlike : (es : List (K × V)) (k m : K) → AllByRecursion (λ y. eq k y ≡ false) (keys_of es) → eq m k ≡ true → lookup (eq m) es ≡ None
    unlike [] k m all like = refl
    unlike (x ∷ xs) k m all like = ap (λ b. cond b (Some x.1) (lookup (eq m) xs)) (laws.congr m k x.0 like ∙ all.0) ∙ unlike xs k m all.1 like

    apart_at : (es : List (K × V)) (k : K) (i : ℕ) (e : K × V) → AllByRecursion (λ y. eq k y ≡ false) (keys_of es) → slice_get es i ≡ Some e → eq k e.0 ≡ false
    apart_at [] k i e all at = absurd (cc)
    apart_at (x ∷ xs) k zero e all at = let same : x ≡ e = cc in ap (λ (y : K × V). eq k y.0) (sym same) ∙ all.0
    apart_at (x ∷ xs) k (suc i) e all at = apart_at xs k i e all.1 at

    pub set_lookup : (es : List (K × V)) (i : ℕ) (e : K × V) (w : V) → IsDistinct eq (keys_of es) → slice_get es i ≡ Some e
        → (m : K) → lookup (eq m) (set_value_at es i w) ≡ cond (eq m e.0) (Some w) (lookup (eq m) es)
    set_lookup [] i e w apart at m = absurd (cc)
    set_lookup (x ∷ xs) zero e w apart at m =
        let same : x ≡ e = cc in
        subst (λ (y : K × V). cond (eq m x.0) (Some w) (lookup (eq m) xs) ≡ cond (eq m y.0) (Some w) (cond (eq m x.0) (Some x.1) (lookup (eq m) xs))) same (by (eq m x.0))
      where
        by : (b : Bool) → cond b (Some w) (lookup (eq m) xs) ≡ cond b (Some w) (cond b (Some x.1) (lookup (eq m) xs))
        by true = refl
        by false = refl
    set_lookup (x ∷ xs) (suc i) e w apart at m =
        ap (λ o. cond (eq m x.0) (Some x.1) o) (set_lookup xs i e w (IsDistinct-tail eq x.0 (keys_of xs) apart) at m)
        ∙ exchanged laws m x.0 e.0 (Some x.1) (Some w) (lookup (eq m) xs) (apart_at xs x.0 i e (IsDistinct-head eq x.0 (keys_of xs) apart) at)

    pub push_lookup : (es : List (K × V)) (k : K) (v : V) → lookup (eq k) es ≡ None → (m : K) → lookup (eq m) (es ++ (k, v) ∷ []) ≡ cond (eq m k) (Some v) (lookup (eq m) es)
    push_lookup [] k v none m = refl
    push_lookup (x ∷ xs) k v none m = by (push_lookup xs k v) (eq k x.0) refl none
      where
        by : (lookup (eq k) xs ≡ None → (m : K) → lookup (eq m) (xs ++ (k, v) ∷ []) ≡ cond (eq m k) (Some v) (lookup (eq m) xs))
            → (b : Bool) → eq k x.0 ≡ b → cond b (Some x.1) (lookup (eq k) xs) ≡ None
            → cond (eq m x.0) (Some x.1) (lookup (eq m) (xs ++ (k, v) ∷ [])) ≡ cond (eq m k) (Some v) (cond (eq m x.0) (Some x.1) (lookup (eq m) xs))
        by ih true p n = absurd (cc)
        by ih false p n = ap (λ o. cond (eq m x.0) (Some x.1) o) (ih n m) ∙ exchanged laws m x.0 k (Some x.1) (Some v) (lookup (eq m) xs) (laws.symm x.0 k ∙ p)

    pub remove_lookup : (es : List (K × V)) (i : ℕ) (e : K × V) → IsDistinct eq (keys_of es) → slice_get es i ≡ Some e
        → (m : K) → lookup (eq m) (swap_remove es i e) ≡ cond (eq m e.0) None (lookup (eq m) es)
    remove_lookup es i e apart at m = by (eq m e.0) refl
      where
        found : cond (eq m e.0) (Some e.1) (lookup (eq m) (swap_remove es i e)) ≡ lookup (eq m) es
        found = lookup_permutation laws es (e ∷ swap_remove es i e) (remove_moves es i e at) (remove_apart_all es i e at apart) (eq m) (laws.congr m)

        by : (b : Bool) → eq m e.0 ≡ b → lookup (eq m) (swap_remove es i e) ≡ cond b None (lookup (eq m) es)
        by true p = unlike (swap_remove es i e) e.0 m (IsDistinct-head eq e.0 (keys_of (swap_remove es i e)) (remove_apart_all es i e at apart)) p
        by false p = ap (λ b. cond b (Some e.1) (lookup (eq m) (swap_remove es i e))) (sym p) ∙ found

    pub removed_values : (es new : List (K × V)) (i : ℕ) → IsDistinct eq (keys_of es) → IfSome (slice_get es i) (λ e. new ≡ swap_remove es i e)
        → IfSome (slice_get es i) (λ e. (m : K) → lookup (eq m) new ≡ cond (eq m e.0) None (lookup (eq m) es))
    removed_values es new i apart gone = by (slice_get es i) refl gone
      where
        by : (o : Option (K × V)) → slice_get es i ≡ o → IfSome o (λ e. new ≡ swap_remove es i e) → IfSome o (λ e. (m : K) → lookup (eq m) new ≡ cond (eq m e.0) None (lookup (eq m) es))
        by None at is = tt
        by (Some e) at is = λ m. ap (lookup (eq m)) is ∙ remove_lookup es i e apart at m

    -- the pair at the place of a key
    key_at : (es : List (K × V)) (i : ℕ) (e : K × V) (d : K) → slice_get es i ≡ Some e → slice_index_or (keys_of es) i d ≡ e.0
    key_at [] i e d at = absurd (cc)
    key_at (x ∷ xs) zero e d at = let same : x ≡ e = cc in ap (λ (y : K × V). y.0) same
    key_at (x ∷ xs) (suc i) e d at = key_at xs i e d at

    pub pair_of : (es : List (K × V)) (i : ℕ) (k : K) → position (eq k) (keys_of es) ≡ Some i → (e : K × V) × ((slice_get es i ≡ Some e) × (eq k e.0 ≡ true))
    pair_of es i k is =
        let own = position-Some (eq k) (keys_of es) i k is in
        elim (slice_get_cases es i).1 [
          | inl h ↦ (h.0, (h.2, ap (eq k) (sym (key_at es i h.0 k h.2)) ∙ own.1))
          | inr h ↦ absurd (omega (arith, h.0, own.0, length-keys_of es))
        ]

    -- the same once the value at that place is another
    pub written_lookup : (es : List (K × V)) (i : ℕ) (k : K) (w : V) → IsDistinct eq (keys_of es) → position (eq k) (keys_of es) ≡ Some i
        → (m : K) → lookup (eq m) (set_value_at es i w) ≡ cond (eq m k) (Some w) (lookup (eq m) es)
    written_lookup es i k w apart is m =
        let own = pair_of es i k is in
        set_lookup es i own.0 w apart own.1.0 m
        ∙ ap (λ b. cond b (Some w) (lookup (eq m) es)) (laws.symm m own.0.0 ∙ (sym (laws.congr k own.0.0 m own.1.1) ∙ laws.symm k m))

    -- one more of those of a list goes to a map that has room for them
    module _ {S T E : Type 0} (map new : IndexMap K V S) (all more rest : List (K × V)) (k : K) (v : V) (r : Result T E) where
      pub fills : IsDistinct eq (keys_of all) → all ≡ map.entries ++ more → more ≡ (k, v) ∷ rest → length more ≤ spare map
          → OnOk r (new.entries ≡ insert_entry eq map.entries k v) → (0 < spare map → IsOk r) → spare map ≤ spare new + 1
          → (all ≡ new.entries ++ rest) × (length rest ≤ spare new)
      fills apart is more_is room entries succeeds falls =
          let whole : all ≡ map.entries ++ (k, v) ∷ rest = is ∙ ap (λ l. map.entries ++ l) more_is in
          let some : length more ≡ length rest + 1 = ap length more_is ∙ sym (add-one (length rest)) in
          let none : lookup (eq k) map.entries ≡ None = absent_before laws map.entries rest (k, v) (subst (λ l. IsDistinct eq (keys_of l)) whole apart) in
          let last : new.entries ≡ map.entries ++ (k, v) ∷ [] = on_ok_at r entries (succeeds (omega arith)) ∙ insert_entry-new eq map k v none in
          (whole ∙ (sym (append_assoc map.entries ((k, v) ∷ []) rest) ∙ ap (λ l. l ++ rest) (sym last)), omega arith)
