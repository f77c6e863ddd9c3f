-- What becomes of the conflict set, and of dominance, where a production comes or goes.
use Rattle.std.proofs.Common.{◌≡◌, ℕ, zero, suc, ◌+◌, ◌<◌, ◌≤◌, List, [], ◌∷◌, ◌++◌, length, Option, Some, None, refl, ap, sym, ◌∙◌, subst, arith}
use Rattle.std.specs.Prelude.{slice_get, option_map, unwrap_or}
use Rattle.std.specs.List.{filter_map}
use Rattle.std.specs.declared.cmp.Ordering.{Ordering}
use Rattle.std.specs.declared.cmp.Ordering.TheVariants.{Less, Equal, Greater}
use Rattle.std.specs.Ordering.{MatchOrdering, nat_cmp, ordering_then}
use Rattle.std.specs.Cmp.{nat_cmp_is}
use Rattle.std.proofs.lemmas.Cmp.{ranked}
use Rattle.std.specs.Cmp.Lexicographic.{slice_cmp}
use Rattle.std.proofs.lemmas.List.Elements.{filter_map-append}
use Rattle.std.proofs.lemmas.List.{append-nil, append_assoc}
use Rattle.ops_base.specs.declared.commands.Strategy.{Strategy}
use Rattle.ops_base.specs.declared.commands.Strategy.TheVariants.{Lex, Mea}
use Rattle.ops_base.specs.declared.direct.Partial.{Partial}
use Rattle.ops_base.specs.declared.elements.Element.{Element}
use Rattle.ops_base.specs.declared.rules.Inst.{Inst}
use Rattle.ops_base.specs.declared.rules.Rule.{Rule}
use Rattle.ops_base.specs.ConflictSet.{matches_of, insts_of, insts_from, conflict_set}
use Rattle.ops_base.specs.Dominance.{compare_insts, compare_lex, dominates, downwards, first_tag, is_greater, specificity_of}
use Rattle.ops_base.specs.Live.{without, moved, renumbered, moved_inst, moved_insts}

-- ---- numbers

not_suc_le_zero : (n : ℕ) → suc n ≤ 0 → ⊥
not_suc_le_zero n h = omega arith

moved_same : (n : ℕ) → moved n n ≡ None
moved_same zero = refl
moved_same (suc n) = ap (option_map suc) (moved_same n)

moved_above : (k m : ℕ) → k ≤ m → moved k (suc m) ≡ Some m
moved_above zero m h = refl
moved_above (suc k) zero h = absurd (not_suc_le_zero k h)
moved_above (suc k) (suc m) h = ap (option_map suc) (moved_above k m (omega (arith, h)))

moved_below : (k n : ℕ) → n < k → moved k n ≡ Some n
moved_below zero n h = absurd (not_suc_le_zero n h)
moved_below (suc k) zero h = refl
moved_below (suc k) (suc n) h = ap (option_map suc) (moved_below k n (omega (arith, h)))

-- ---- the conflict set

-- What comes last has the next number.
pub insts_from-append : (n : ℕ) (rules : List Rule) (r : Rule) (wm : List Element) → insts_from n (rules ++ r ∷ []) wm ≡ insts_from n rules wm ++ insts_of (n + length rules) (matches_of wm r.conditions)
insts_from-append n [] r wm =
    append-nil (insts_of n (matches_of wm r.conditions)) ∙ ap (λ k. insts_of k (matches_of wm r.conditions)) (omega arith)
insts_from-append n (s ∷ rules) r wm =
    ap (λ is. insts_of n (matches_of wm s.conditions) ++ is) (insts_from-append (n + 1) rules r wm)
    ∙ sym (append_assoc (insts_of n (matches_of wm s.conditions)) (insts_from (n + 1) rules wm) (insts_of ((n + 1) + length rules) (matches_of wm r.conditions)))
    ∙ ap (λ k. (insts_of n (matches_of wm s.conditions) ++ insts_from (n + 1) rules wm) ++ insts_of k (matches_of wm r.conditions)) (omega arith)

pub conflict_set-append : (rules : List Rule) (r : Rule) (wm : List Element) → conflict_set (rules ++ r ∷ []) wm ≡ conflict_set rules wm ++ insts_of (length rules) (matches_of wm r.conditions)
conflict_set-append rules r wm =
    insts_from-append 0 rules r wm ∙ ap (λ k. conflict_set rules wm ++ insts_of k (matches_of wm r.conditions)) (omega arith)

-- what one production gives, where each of its instantiations moves alike
each_moved : (k n : ℕ) (ps : List Partial) (m : ℕ) → moved k n ≡ Some m → moved_insts k (insts_of n ps) ≡ insts_of m ps
each_moved k n [] m e = refl
each_moved k n (p ∷ ps) m e =
    ap (λ o. Rattle.std.specs.List.cons_option (option_map (renumbered (record { rule = n; tags = p.tags })) o) (moved_insts k (insts_of n ps))) e
    ∙ ap (λ is. record { rule = m; tags = p.tags } ∷ is) (each_moved k n ps m e)

each_gone : (k n : ℕ) (ps : List Partial) → moved k n ≡ None → moved_insts k (insts_of n ps) ≡ []
each_gone k n [] e = refl
each_gone k n (p ∷ ps) e =
    ap (λ o. Rattle.std.specs.List.cons_option (option_map (renumbered (record { rule = n; tags = p.tags })) o) (moved_insts k (insts_of n ps))) e ∙ each_gone k n ps e

-- those after the one that goes have a number less
all_above : (k m : ℕ) (rules : List Rule) (wm : List Element) → k ≤ m → moved_insts k (insts_from (suc m) rules wm) ≡ insts_from m rules wm
all_above k m [] wm h = refl
all_above k m (r ∷ rules) wm h =
    filter_map-append (moved_inst k) (insts_of (suc m) (matches_of wm r.conditions)) (insts_from (suc m + 1) rules wm)
    ∙ ap (λ is. is ++ moved_insts k (insts_from (suc m + 1) rules wm)) (each_moved k (suc m) (matches_of wm r.conditions) m (moved_above k m h))
    ∙ ap (λ is. insts_of m (matches_of wm r.conditions) ++ is)
    (ap (λ n. moved_insts k (insts_from n rules wm)) (omega arith) ∙ all_above k (m + 1) rules wm (omega arith))

-- Where a production goes, so do its instantiations, and the others are as they were, under their new numbers.
pub insts_from-without : (n k : ℕ) (rules : List Rule) (wm : List Element) → insts_from n (without k rules) wm ≡ moved_insts (n + k) (insts_from n rules wm)
insts_from-without n k [] wm = refl
insts_from-without n zero (r ∷ rules) wm =
    let e : n ≡ n + 0 = omega arith in
    sym (filter_map-append (moved_inst (n + 0)) (insts_of n (matches_of wm r.conditions)) (insts_from (n + 1) rules wm)
    ∙ ap (λ is. is ++ moved_insts (n + 0) (insts_from (n + 1) rules wm))
    (ap (λ k. moved_insts k (insts_of n (matches_of wm r.conditions))) (sym e) ∙ each_gone n n (matches_of wm r.conditions) (moved_same n))
    ∙ ap (λ m. moved_insts (n + 0) (insts_from m rules wm)) (omega arith)
    ∙ all_above (n + 0) n rules wm (omega arith))
insts_from-without n (suc k) (r ∷ rules) wm =
    sym (filter_map-append (moved_inst (n + suc k)) (insts_of n (matches_of wm r.conditions)) (insts_from (n + 1) rules wm)
    ∙ ap (λ is. is ++ moved_insts (n + suc k) (insts_from (n + 1) rules wm)) (each_moved (n + suc k) n (matches_of wm r.conditions) n (moved_below (n + suc k) n (omega arith)))
    ∙ ap (λ is. insts_of n (matches_of wm r.conditions) ++ is)
    (ap (λ j. moved_insts j (insts_from (n + 1) rules wm)) (omega arith) ∙ sym (insts_from-without (n + 1) k rules wm)))

pub conflict_set-without : (rules : List Rule) (k : ℕ) (wm : List Element) → conflict_set (without k rules) wm ≡ moved_insts k (conflict_set rules wm)
conflict_set-without rules k wm =
    insts_from-without 0 k rules wm ∙ ap (λ j. moved_insts j (conflict_set rules wm)) (omega arith)

-- ---- dominance

-- a production that stays is found under its new number
pub without_get : {X : Type 0} (k n m : ℕ) (xs : List X) → moved k n ≡ Some m → slice_get (without k xs) m ≡ slice_get xs n
without_get k n m [] e = refl
without_get zero zero m (x ∷ xs) e = cc
without_get zero (suc n) m (x ∷ xs) e = let same : n ≡ m = cc in ap (slice_get xs) (sym same)
without_get (suc k) zero m (x ∷ xs) e =
    let same : 0 ≡ m = cc in ap (slice_get (x ∷ without k xs)) (sym same)
without_get {X} (suc k) (suc n) m (x ∷ xs) e = by (moved k n) refl (λ j f. without_get k n j xs f)
  where
    by : (o : Option ℕ) → moved k n ≡ o → ((j : ℕ) → moved k n ≡ Some j → slice_get (without k xs) j ≡ slice_get xs n) → slice_get (x ∷ without k xs) m ≡ slice_get xs n
    by None f later = (let g : option_map suc None ≡ Some m = ap (option_map suc) (sym f) ∙ e in cc)
    by (Some j) f later =
        let g : option_map suc (Some j) ≡ Some m = ap (option_map suc) (sym f) ∙ e in
        let same : suc j ≡ m = cc in
        ap (slice_get (x ∷ without k xs)) (sym same) ∙ later j f

cmp_suc : (n m : ℕ) → nat_cmp (suc n) (suc m) ≡ nat_cmp n m
cmp_suc n m = sym (nat_cmp_is (suc n) (suc m) (nat_cmp n m) (by (nat_cmp n m) (ranked n m (nat_cmp n m) refl)))
  where
    by : (o : Ordering) → MatchOrdering o (n < m) (n ≡ m) (m < n) → MatchOrdering o (suc n < suc m) (suc n ≡ suc m) (suc m < suc n)
    by Less h = omega (arith, h)
    by Equal h = ap suc h
    by Greater h = omega (arith, h)

-- numbers keep their order
pub moved_order : (k n m i j : ℕ) → moved k n ≡ Some i → moved k m ≡ Some j → nat_cmp i j ≡ nat_cmp n m
moved_order zero zero m i j e f = cc
moved_order zero (suc n) zero i j e f = cc
moved_order zero (suc n) (suc m) i j e f =
    let a : n ≡ i = cc in
    let b : m ≡ j = cc in ap (λ x. nat_cmp x j) (sym a) ∙ ap (nat_cmp n) (sym b) ∙ sym (cmp_suc n m)
moved_order (suc k) zero zero i j e f =
    let a : 0 ≡ i = cc in
    let b : 0 ≡ j = cc in ap (λ x. nat_cmp x j) (sym a) ∙ ap (nat_cmp 0) (sym b)
moved_order (suc k) zero (suc m) i j e f = by (moved k m) refl
  where
    by : (o : Option ℕ) → moved k m ≡ o → nat_cmp i j ≡ nat_cmp 0 (suc m)
    by None g = (let h : option_map suc None ≡ Some j = ap (option_map suc) (sym g) ∙ f in cc)
    by (Some y) g =
        let h : option_map suc (Some y) ≡ Some j = ap (option_map suc) (sym g) ∙ f in
        let a : 0 ≡ i = cc in
        let b : suc y ≡ j = cc in
        ap (λ x. nat_cmp x j) (sym a) ∙ ap (nat_cmp 0) (sym b) ∙ sym (nat_cmp_is 0 (suc y) Less (omega arith)) ∙ nat_cmp_is 0 (suc m) Less (omega arith)
moved_order (suc k) (suc n) zero i j e f = by (moved k n) refl
  where
    by : (o : Option ℕ) → moved k n ≡ o → nat_cmp i j ≡ nat_cmp (suc n) 0
    by None g = (let h : option_map suc None ≡ Some i = ap (option_map suc) (sym g) ∙ e in cc)
    by (Some x) g =
        let h : option_map suc (Some x) ≡ Some i = ap (option_map suc) (sym g) ∙ e in
        let a : suc x ≡ i = cc in
        let b : 0 ≡ j = cc in
        ap (λ z. nat_cmp z j) (sym a) ∙ ap (nat_cmp (suc x)) (sym b) ∙ sym (nat_cmp_is (suc x) 0 Greater (omega arith)) ∙ nat_cmp_is (suc n) 0 Greater (omega arith)
moved_order (suc k) (suc n) (suc m) i j e f = by (moved k n) (moved k m) refl refl (λ x y g h. moved_order k n m x y g h)
  where
    by : (o p : Option ℕ) → moved k n ≡ o → moved k m ≡ p → ((x y : ℕ) → moved k n ≡ Some x → moved k m ≡ Some y → nat_cmp x y ≡ nat_cmp n m) → nat_cmp i j ≡ nat_cmp (suc n) (suc m)
    by None p g h later = (let l : option_map suc None ≡ Some i = ap (option_map suc) (sym g) ∙ e in cc)
    by (Some x) None g h later = (let l : option_map suc None ≡ Some j = ap (option_map suc) (sym h) ∙ f in cc)
    by (Some x) (Some y) g h later =
        let l : option_map suc (Some x) ≡ Some i = ap (option_map suc) (sym g) ∙ e in
        let r : option_map suc (Some y) ≡ Some j = ap (option_map suc) (sym h) ∙ f in
        let a : suc x ≡ i = cc in
        let b : suc y ≡ j = cc in
        ap (λ z. nat_cmp z j) (sym a) ∙ ap (nat_cmp (suc x)) (sym b) ∙ cmp_suc x y ∙ later x y g h ∙ sym (cmp_suc n m)

specificity_stays : (rules : List Rule) (k n m : ℕ) → moved k n ≡ Some m → specificity_of (without k rules) m ≡ specificity_of rules n
specificity_stays rules k n m e =
    ap (λ o. unwrap_or (option_map (λ (r : Rule). r.specificity) o) 0) (without_get k n m rules e)

lex_stays : (rules : List Rule) (k a b : ℕ) (i j : Inst) → moved k i.rule ≡ Some a → moved k j.rule ≡ Some b → compare_lex (without k rules) (renumbered i a) (renumbered j b) ≡ compare_lex rules i j
lex_stays rules k a b i j e f =
    let rest = slice_cmp nat_cmp i.tags j.tags in
    ap (λ x. ordering_then (slice_cmp nat_cmp (downwards i.tags) (downwards j.tags)) (ordering_then (nat_cmp x (specificity_of (without k rules) b)) (ordering_then (nat_cmp b a) rest))) (specificity_stays rules k i.rule a e)
    ∙ ap (λ x. ordering_then (slice_cmp nat_cmp (downwards i.tags) (downwards j.tags)) (ordering_then (nat_cmp (specificity_of rules i.rule) x) (ordering_then (nat_cmp b a) rest))) (specificity_stays rules k j.rule b f)
    ∙ ap (λ x. ordering_then (slice_cmp nat_cmp (downwards i.tags) (downwards j.tags)) (ordering_then (nat_cmp (specificity_of rules i.rule) (specificity_of rules j.rule)) (ordering_then x rest))) (moved_order k j.rule i.rule b a f e)

-- Those that stay dominate each other as they did.
pub dominance_stays : (strategy : Strategy) (rules : List Rule) (k a b : ℕ) (i j : Inst) → moved k i.rule ≡ Some a → moved k j.rule ≡ Some b → dominates strategy (without k rules) (renumbered i a) (renumbered j b) ≡ dominates strategy rules i j
dominance_stays Lex rules k a b i j e f = ap is_greater (lex_stays rules k a b i j e f)
dominance_stays Mea rules k a b i j e f =
    ap (λ x. is_greater (ordering_then (nat_cmp (first_tag i) (first_tag j)) x)) (lex_stays rules k a b i j e f)
