-- Tokens that go together at a node have one code, and one line.
use Rattle.std.proofs.Common.{◌≡◌, ℕ, zero, suc, ◌%◌, true, take, slice_index, List, [], ◌∷◌, map, fold, slice_index_or, refl, sym, ap, ap₂, ◌∙◌}
use Rattle.std.specs.List.{AllByRecursion}
use Rattle.std.proofs.lemmas.Bool.Decides.{Decides-eqb, Decides-int_eq}
use Rattle.std.proofs.lemmas.List.Elements.{All-filter, filter_passes, recursion_from_All}
use Rattle.std.proofs.lemmas.Slice.Eq.{bytes_eq-Decides}
use Rattle.std.proofs.lemmas.List.Sums.{AllPass-from_list_all}
use Rattle.ops_base.specs.declared.values.Sym.{Sym}
use Rattle.ops_base.specs.declared.values.Value.{Value}
use Rattle.ops_base.specs.declared.values.Value.TheVariants.{Symbol, Whole}
use Rattle.ops_base.specs.declared.values.Pred.{Pred}
use Rattle.ops_base.specs.declared.values.Pred.TheVariants.{Eq, Ne, Lt, Le, Gt, Ge, SameKind}
use Rattle.ops_base.specs.Values.{are_same, holds_of}
use Rattle.net_base.specs.declared.nodes.Kind.{Kind}
use Rattle.net_base.specs.declared.nodes.Kind.TheVariants.{Join, Negated, Group, Terminal}
use Rattle.net_base.specs.declared.nodes.JoinTest.{JoinTest}
use Rattle.net_base.specs.declared.tasks.Side.TheVariants.{Left, Right}
use Rattle.net_base.specs.Tokens.{Elements, covers, goes_with, join_test_holds, joins_hold}
use Rattle.net_base.specs.Sound.{takes_elements}
use Rattle.token_line.specs.Numbers.{value_code, mixed, is_equal, equalities, own_value, own_codes, kept_codes, codes_at, kept_at}
use Rattle.token_line.specs.OneLine.{HaveOneValue, OneLine, JoinedOnOneLine, JoinedWithOneCode}

-- ---- values

same_symbols : (a b : Sym) → a.0 ≡ b.0 → Symbol a ≡ Symbol b
same_symbols a b e = λ k. Symbol (record { 0 = e k })

same_values : (a b : Value) → are_same a b ≡ true → a ≡ b
same_values (Symbol a) (Symbol b) e = same_symbols a b ((Decides-eqb a.0 b.0).0 e)
same_values (Symbol a) (Whole y) e = cc
same_values (Whole x) (Symbol b) e = cc
same_values (Whole x) (Whole y) e = ap Whole ((Decides-int_eq x y).0 e)

equal_values : (p : Pred) (a b : Value) → is_equal p ≡ true → holds_of p a b ≡ true → a ≡ b
equal_values Eq a b e h = same_values a b h
equal_values Ne a b e h = cc
equal_values Lt a b e h = cc
equal_values Le a b e h = cc
equal_values Gt a b e h = cc
equal_values Ge a b e h = cc
equal_values SameKind a b e h = cc

-- a test for equality that holds finds one value on both sides
one_value : (elements : Elements) (t : List ℕ) (e : ℕ) (j : JoinTest) → is_equal j.pred ≡ true → join_test_holds elements t e j ≡ true → own_value elements Left t j ≡ own_value elements Right (e ∷ []) j
one_value elements t e j equal holds = sym (equal_values j.pred (own_value elements Right (e ∷ []) j) (own_value elements Left t j) equal holds)

joined_have_one_value : (elements : Elements) (tests : List JoinTest) (t : List ℕ) (e : ℕ) → joins_hold tests elements t e ≡ true → HaveOneValue elements tests t e
joined_have_one_value elements tests t e joined k d lt =
    one_value elements t e (slice_index_or (equalities tests) k d)
    (filter_passes (λ (j : JoinTest). is_equal j.pred) tests k d lt)
    (All-filter (λ (j : JoinTest). is_equal j.pred) (λ j. join_test_holds elements t e j ≡ true) tests (AllPass-from_list_all (join_test_holds elements t e) tests joined) k d lt)

-- ---- lines

map_agree : {X Y : Type 0} (f g : X → Y) (xs : List X) → AllByRecursion (λ x. f x ≡ g x) xs → map f xs ≡ map g xs
map_agree f g [] h = refl
map_agree f g (x ∷ xs) h = ap₂ (λ y ys. y ∷ ys) h.0 (map_agree f g xs h.1)

one_code : (elements : Elements) (tests : List JoinTest) (t : List ℕ) (e : ℕ) → HaveOneValue elements tests t e
    → map (λ j. value_code (own_value elements Left t j)) (equalities tests) ≡ map (λ j. value_code (own_value elements Right (e ∷ []) j)) (equalities tests)
one_code elements tests t e agree =
    map_agree (λ j. value_code (own_value elements Left t j)) (λ j. value_code (own_value elements Right (e ∷ []) j)) (equalities tests)
    (recursion_from_All (λ j. value_code (own_value elements Left t j) ≡ value_code (own_value elements Right (e ∷ []) j)) (equalities tests) (λ k d lt. ap value_code (agree k d lt)))

take_twice : (n : ℕ) (xs : List ℕ) → take n (take n xs) ≡ take n xs
take_twice zero xs = refl
take_twice (suc n) [] = refl
take_twice (suc n) (x ∷ xs) = ap (λ ys. x ∷ ys) (take_twice n xs)

-- what covers a left token has its first tags
first_tags : (width : ℕ) (t r : List ℕ) → covers width t r ≡ true → take width t ≡ take width r
first_tags width t r c = ap (take width) ((bytes_eq-Decides t (take width r)).0 c) ∙ take_twice width r

-- a test looks at the first tag of a right token alone
one_element : (elements : Elements) (tests : List JoinTest) (r : List ℕ)
    → map (λ j. value_code (own_value elements Right r j)) (equalities tests) ≡ map (λ j. value_code (own_value elements Right (slice_index r 0 ∷ []) j)) (equalities tests)
one_element elements tests r = refl

same_kept : (elements : Elements) (kind : Kind) (tests : List JoinTest) (t r : List ℕ) → goes_with kind tests elements t r ≡ true → kept_codes elements kind tests Left t ≡ kept_codes elements kind tests Right r
same_kept elements Join tests t r c = one_code elements tests t (slice_index r 0) (joined_have_one_value elements tests t (slice_index r 0) c)
same_kept elements Negated tests t r c = one_code elements tests t (slice_index r 0) (joined_have_one_value elements tests t (slice_index r 0) c)
same_kept elements (Group giver width members) tests t r c = first_tags width t r c
same_kept elements (Terminal rule) tests t r c = refl

same_codes : (elements : Elements) (kind : Kind) (tests : List JoinTest) (t r : List ℕ) → goes_with kind tests elements t r ≡ true → own_codes elements kind tests Left t ≡ own_codes elements kind tests Right r
same_codes elements Join tests t r c = same_kept elements Join tests t r c
same_codes elements Negated tests t r c = same_kept elements Negated tests t r c
same_codes elements (Group giver width members) tests t r c = first_tags width t r c
same_codes elements (Terminal rule) tests t r c = cc

agreed_codes : (elements : Elements) (kind : Kind) (tests : List JoinTest) (t : List ℕ) (e : ℕ) → takes_elements kind ≡ true → HaveOneValue elements tests t e → own_codes elements kind tests Left t ≡ own_codes elements kind tests Right (e ∷ [])
agreed_codes elements Join tests t e takes agree = one_code elements tests t e agree
agreed_codes elements Negated tests t e takes agree = one_code elements tests t e agree
agreed_codes elements (Group giver width members) tests t e takes agree = cc
agreed_codes elements (Terminal rule) tests t e takes agree = cc

pub one_line : OneLine
one_line elements nodes lines n x t e at takes agree =
    let left = ap (λ o. codes_at elements o Left t) at in
    let right = ap (λ o. codes_at elements o Right (e ∷ [])) at in
    ap (λ codes. fold mixed n codes % lines) (left ∙ (agreed_codes elements x.kind x.joins t e takes agree ∙ sym right))

pub joined_on_one_line : JoinedOnOneLine
joined_on_one_line elements nodes lines n x t r at c =
    let left = ap (λ o. codes_at elements o Left t) at in
    let right = ap (λ o. codes_at elements o Right r) at in
    ap (λ codes. fold mixed n codes % lines) (left ∙ (same_codes elements x.kind x.joins t r c ∙ sym right))

pub joined_with_one_code : JoinedWithOneCode
joined_with_one_code elements nodes n x t r at c =
    ap (λ codes. fold mixed n codes)
    (ap (λ o. kept_at elements o Left t) at ∙ (same_kept elements x.kind x.joins t r c ∙ sym (ap (λ o. kept_at elements o Right r) at)))
