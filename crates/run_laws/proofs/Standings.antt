-- The instantiations that stand if a production is removed or added.
use Rattle.std.proofs.Common.{◌≡◌, ℕ, List, [], ◌∷◌, ◌++◌, length, Bool, true, false, not, ◌==◌, ◌&&◌, ◌||◌, if◌then◌else◌, Option, Some, None, refl, sym, ap, ◌∙◌, arith}
use Rattle.std.specs.Prelude.{◌<◌, filter, option_map, All}
use Rattle.std.specs.List.{cons_option, filter_map}
use Rattle.std.specs.Cmp.{nat_cmp_is}
use Rattle.std.specs.declared.cmp.Ordering.TheVariants.{Equal}
use Rattle.std.proofs.lemmas.Bool.{false≢true}
use Rattle.std.proofs.lemmas.Bool.Decides.{Decides-eqb}
use Rattle.std.proofs.lemmas.List.Elements.{All-head, All-tail}
use Rattle.ops_base.specs.declared.elements.Element.{Element}
use Rattle.ops_base.specs.declared.direct.Partial.{Partial}
use Rattle.ops_base.specs.declared.rules.Inst.{Inst}
use Rattle.ops_base.specs.declared.rules.Rule.{Rule}
use Rattle.ops_base.specs.ConflictSet.{conflict_set, insts_of, matches_of}
use Rattle.ops_base.specs.Live.{without, moved, renumbered, moved_inst, moved_insts}
use Rattle.ops_base.specs.Refraction.{is_among, is_same_inst, same_tags, unfired}
use Rattle.ops_base.proofs.InstOrder.{equal_numbers}
use Rattle.ops_base.proofs.LiveLaws.{conflict_set-append, conflict_set-without, moved_order}

-- ---- those that pass a test, among those that are left

module _ {X Y : Type 0} (f : X → Option Y) (p : Y → Bool) (q : X → Bool) (agree : (x : X) (y : Y) → f x ≡ Some y → p y ≡ q x) where
  pub filter_moved : (xs : List X) → filter p (filter_map f xs) ≡ filter_map f (filter q xs)
  filter_moved [] = refl
  filter_moved (x ∷ xs) = by (f x) refl (q x) refl (filter_moved xs)
    where
      by : (o : Option Y) → f x ≡ o → (b : Bool) → q x ≡ b → filter p (filter_map f xs) ≡ filter_map f (filter q xs)
          → filter p (cons_option (f x) (filter_map f xs)) ≡ filter_map f (if q x then x ∷ filter q xs else filter q xs)
      by None e true g rest =
          ap (λ o. filter p (cons_option o (filter_map f xs))) e ∙ rest
          ∙ sym (ap (λ b. filter_map f (if b then x ∷ filter q xs else filter q xs)) g ∙ ap (λ o. cons_option o (filter_map f (filter q xs))) e)
      by None e false g rest =
          ap (λ o. filter p (cons_option o (filter_map f xs))) e ∙ rest
          ∙ sym (ap (λ b. filter_map f (if b then x ∷ filter q xs else filter q xs)) g)
      by (Some y) e true g rest =
          ap (λ o. filter p (cons_option o (filter_map f xs))) e
          ∙ ap (λ b. if b then y ∷ filter p (filter_map f xs) else filter p (filter_map f xs)) (agree x y e ∙ g)
          ∙ ap (λ ys. y ∷ ys) rest
          ∙ sym (ap (λ b. filter_map f (if b then x ∷ filter q xs else filter q xs)) g ∙ ap (λ o. cons_option o (filter_map f (filter q xs))) e)
      by (Some y) e false g rest =
          ap (λ o. filter p (cons_option o (filter_map f xs))) e
          ∙ ap (λ b. if b then y ∷ filter p (filter_map f xs) else filter p (filter_map f xs)) (agree x y e ∙ g)
          ∙ rest
          ∙ sym (ap (λ b. filter_map f (if b then x ∷ filter q xs else filter q xs)) g)

-- ---- numbers that moved

-- no two productions get the same number
moved_apart : (k n m i : ℕ) → moved k n ≡ Some i → moved k m ≡ Some i → n ≡ m
moved_apart k n m i e f = equal_numbers n m (sym (moved_order k n m i i e f) ∙ sym (nat_cmp_is i i Equal refl))

same_numbers : (k n m i j : ℕ) → moved k n ≡ Some i → moved k m ≡ Some j → (i == j) ≡ (n == m)
same_numbers k n m i j e f = by (i == j) (n == m) refl refl
  where
    by : (a b : Bool) → (i == j) ≡ a → (n == m) ≡ b → (i == j) ≡ (n == m)
    by true true g h = g ∙ sym h
    by false false g h = g ∙ sym h
    by true false g h =
        let one : moved k m ≡ Some i = f ∙ ap Some (sym ((Decides-eqb i j).0 g)) in
        absurd (false≢true (sym h ∙ (Decides-eqb n m).1 (moved_apart k n m i e one)))
    by false true g h =
        let one : Some i ≡ Some j = sym e ∙ (ap (moved k) ((Decides-eqb n m).0 h) ∙ f) in
        let same : i ≡ j = cc in
        absurd (false≢true (sym g ∙ (Decides-eqb i j).1 same))

same_moved : (k a b : ℕ) (i j : Inst) → moved k i.rule ≡ Some a → moved k j.rule ≡ Some b → is_same_inst (renumbered i a) (renumbered j b) ≡ is_same_inst i j
same_moved k a b i j e f = ap (λ t. t && same_tags i.tags j.tags) (same_numbers k i.rule j.rule a b e f)

-- an instantiation of a production that stays is not one of the production that is removed
not_gone : (k a : ℕ) (i j : Inst) → moved k i.rule ≡ Some a → moved k j.rule ≡ None → is_same_inst i j ≡ false
not_gone k a i j e f = ap (λ t. t && same_tags i.tags j.tags) (by (i.rule == j.rule) refl)
  where
    by : (b : Bool) → (i.rule == j.rule) ≡ b → b ≡ false
    by false h = refl
    by true h =
        let one : Some a ≡ None = sym e ∙ (ap (moved k) ((Decides-eqb i.rule j.rule).0 h) ∙ f) in
        absurd (cc)

among_moved : (k a : ℕ) (i : Inst) (fired : List Inst) → moved k i.rule ≡ Some a → is_among (moved_insts k fired) (renumbered i a) ≡ is_among fired i
among_moved k a i [] e = refl
among_moved k a i (j ∷ fired) e = by (moved k j.rule) refl (among_moved k a i fired e)
  where
    by : (o : Option ℕ) → moved k j.rule ≡ o → is_among (moved_insts k fired) (renumbered i a) ≡ is_among fired i
        → is_among (cons_option (option_map (renumbered j) (moved k j.rule)) (moved_insts k fired)) (renumbered i a) ≡ (is_same_inst i j || is_among fired i)
    by None f rest =
        ap (λ o. is_among (cons_option (option_map (renumbered j) o) (moved_insts k fired)) (renumbered i a)) f
        ∙ rest ∙ sym (ap (λ b. b || is_among fired i) (not_gone k a i j e f))
    by (Some b) f rest =
        ap (λ o. is_among (cons_option (option_map (renumbered j) o) (moved_insts k fired)) (renumbered i a)) f
        ∙ ap (λ t. t || is_among (moved_insts k fired) (renumbered i a)) (same_moved k a b i j e f)
        ∙ ap (λ t. is_same_inst i j || t) rest

-- ---- a production is removed

pub stands_without : (k : ℕ) (rules : List Rule) (wm : List Element) (fired : List Inst)
    → unfired (conflict_set (without k rules) wm) (moved_insts k fired) ≡ moved_insts k (unfired (conflict_set rules wm) fired)
stands_without k rules wm fired =
    ap (λ found. unfired found (moved_insts k fired)) (conflict_set-without rules k wm)
    ∙ filter_moved (moved_inst k) (λ i. not (is_among (moved_insts k fired) i)) (λ i. not (is_among fired i)) agree (conflict_set rules wm)
  where
    agree : (i j : Inst) → moved_inst k i ≡ Some j → not (is_among (moved_insts k fired) j) ≡ not (is_among fired i)
    agree i j e = by (moved k i.rule) refl
      where
        by : (o : Option ℕ) → moved k i.rule ≡ o → not (is_among (moved_insts k fired) j) ≡ not (is_among fired i)
        by None f =
            let none : None ≡ Some j = sym (ap (option_map (renumbered i)) f) ∙ e in
            absurd (cc)
        by (Some a) f =
            let one : Some (renumbered i a) ≡ Some j = sym (ap (option_map (renumbered i)) f) ∙ e in
            let same : renumbered i a ≡ j = cc in
            ap (λ (x : Inst). not (is_among (moved_insts k fired) x)) (sym same) ∙ ap not (among_moved k a i fired f)

-- ---- a production is added

-- none of these is of a production with this number
new_among : (n : ℕ) (i : Inst) (fired : List Inst) → i.rule ≡ n → All (λ j. j.rule < n) fired → is_among fired i ≡ false
new_among n i [] e below = refl
new_among n i (j ∷ fired) e below =
    ap (λ t. (t && same_tags i.tags j.tags) || is_among fired i) (by (i.rule == j.rule) refl)
    ∙ new_among n i fired e (All-tail (λ (x : Inst). x.rule < n) j fired below)
  where
    by : (b : Bool) → (i.rule == j.rule) ≡ b → b ≡ false
    by false h = refl
    by true h =
        let same = (Decides-eqb i.rule j.rule).0 h in
        let lower = All-head (λ (x : Inst). x.rule < n) j fired below in
        absurd (omega (arith, same, e, lower))

all_new : (n : ℕ) (fired : List Inst) (ps : List Partial) → All (λ j. j.rule < n) fired → unfired (insts_of n ps) fired ≡ insts_of n ps
all_new n fired [] below = refl
all_new n fired (p ∷ ps) below =
    let i : Inst = record { rule = n; tags = p.tags } in
    ap (λ b. if not b then i ∷ unfired (insts_of n ps) fired else unfired (insts_of n ps) fired) (new_among n i fired refl below)
    ∙ ap (λ is. i ∷ is) (all_new n fired ps below)

unfired_append : (xs ys fired : List Inst) → unfired (xs ++ ys) fired ≡ unfired xs fired ++ unfired ys fired
unfired_append [] ys fired = refl
unfired_append (x ∷ xs) ys fired = by (not (is_among fired x)) (unfired_append xs ys fired)
  where
    by : (b : Bool) → unfired (xs ++ ys) fired ≡ unfired xs fired ++ unfired ys fired
        → (if b then x ∷ unfired (xs ++ ys) fired else unfired (xs ++ ys) fired) ≡ (if b then x ∷ unfired xs fired else unfired xs fired) ++ unfired ys fired
    by true rest = ap (λ is. x ∷ is) rest
    by false rest = rest

pub stands_with : (rules : List Rule) (r : Rule) (wm : List Element) (fired : List Inst) → All (λ i. i.rule < length rules) fired
    → unfired (conflict_set (rules ++ r ∷ []) wm) fired ≡ unfired (conflict_set rules wm) fired ++ insts_of (length rules) (matches_of wm r.conditions)
stands_with rules r wm fired below =
    ap (λ found. unfired found fired) (conflict_set-append rules r wm)
    ∙ unfired_append (conflict_set rules wm) (insts_of (length rules) (matches_of wm r.conditions)) fired
    ∙ ap (λ is. unfired (conflict_set rules wm) fired ++ is) (all_new (length rules) fired (matches_of wm r.conditions) below)
