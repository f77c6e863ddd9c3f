-- The pieces that words are cut into are those that they spell.
use Rattle.std.proofs.Common.{◌≡◌, ◌↔◌, ◌==◌, ◌&&◌, ◌||◌, ◌+◌, ℕ, suc, Bool, cond, true, false, not, List, [], ◌∷◌, ◌++◌, map, take, drop, codes, Option, Some, None, is_some, refl, sym, ap, subst, arith}
use Rattle.std.specs.List.{after_first, before_first, list_any, position_or_len}
use Rattle.std.specs.Str.{bytes_eq}
use Rattle.std.proofs.lemmas.Bool.{eqb-true, true≢false}
use Rattle.ops_jobs.specs.CommandLine.{Piece, Sort, Word, ends_options, file, flag_sort, flagged, given, gives, is_dashed, is_flag, is_option, names, opens, option_sort, pieces_from, pieces_of, raises, read_as, sort_of, unknown, with_piece}
use Rattle.ops_jobs.specs.Laws.{Spells, apart, attached, closed, named, nothing, raised}
use Rattle.ops_jobs.proofs.EachOption.{each_flag, each_option}

-- ---- a word cut at its first `=`

-- it is what stands before that, the `=`, and what stands after it
rejoined : (word : Word) → list_any (λ b. b == 61) word ≡ true → before_first (λ b. b == 61) word ++ 61 ∷ after_first (λ b. b == 61) word ≡ word
rejoined [] has = absurd (true≢false (sym has))
rejoined (b ∷ bs) has = go (b == 61) refl (position_or_len (λ c. c == 61) bs) has (rejoined bs)
  where
    go : (t : Bool) → (b == 61) ≡ t → (n : ℕ) → (t || list_any (λ c. c == 61) bs) ≡ true → (list_any (λ c. c == 61) bs ≡ true → take n bs ++ 61 ∷ drop (n + 1) bs ≡ bs)
        → take (cond (not t) (1 + n) 0) (b ∷ bs) ++ 61 ∷ drop (cond (not t) (1 + n) 0 + 1) (b ∷ bs) ≡ b ∷ bs
    go true e n has rest = ap (λ x. x ∷ bs) (sym (eqb-true b 61 e))
    go false e n has rest =
        let one : 1 + n ≡ suc n = omega arith in
        let two : 1 + n + 1 ≡ suc (n + 1) = omega arith in
        rw (two, one) (ap (λ x. b ∷ x) (rest has))

-- and without one it is what stands before it
whole : (word : Word) → list_any (λ b. b == 61) word ≡ false → before_first (λ b. b == 61) word ≡ word
whole [] lacks = refl
whole (b ∷ bs) lacks = go (b == 61) (position_or_len (λ c. c == 61) bs) lacks (whole bs)
  where
    go : (t : Bool) (n : ℕ) → (t || list_any (λ c. c == 61) bs) ≡ false → (list_any (λ c. c == 61) bs ≡ false → take n bs ≡ bs) → take (cond (not t) (1 + n) 0) (b ∷ bs) ≡ b ∷ bs
    go true n lacks rest = absurd (true≢false lacks)
    go false n lacks rest =
        let one : 1 + n ≡ suc n = omega arith in
        rw one (ap (λ x. b ∷ x) (rest lacks))

-- ---- the sort of a word

-- how a word of this sort is spelled
abbrev IsSpelled : Sort → Word → Type 0
IsSpelled ends_options word = word ≡ codes "--"
IsSpelled (gives option value) word = (is_option option ≡ true) × (word ≡ codes "--" ++ (option ++ (codes "=" ++ value)))
IsSpelled (opens option) word = (is_option option ≡ true) × (word ≡ codes "--" ++ option)
IsSpelled (raises flag) word = (is_flag flag ≡ true) × (word ≡ codes "--" ++ flag)
IsSpelled unknown word = Unit {0}
IsSpelled names word = is_dashed word ≡ false

abbrev valued : Word → Option Word
valued rest = cond (list_any (λ b. b == 61) rest) (Some (after_first (λ b. b == 61) rest)) None

-- a word after its two dashes, where its name is an option's or a flag's
abbrev named_sort : Word → Bool → Bool → Option Word → Sort
named_sort name s f value = cond s (option_sort name value) (cond f (flag_sort name value) unknown)

abbrev long_sort : Word → Sort
long_sort rest = cond (bytes_eq rest []) ends_options
    (named_sort (before_first (λ b. b == 61) rest) (is_option (before_first (λ b. b == 61) rest)) (is_flag (before_first (λ b. b == 61) rest)) (valued rest))

long_is_spelled : (rest : Word) → IsSpelled (long_sort rest) (45 ∷ 45 ∷ rest)
long_is_spelled [] = refl
long_is_spelled (c ∷ cs) = go (is_option name) refl (is_flag name) refl (list_any (λ b. b == 61) (c ∷ cs)) refl
  where
    name : Word
    name = before_first (λ b. b == 61) (c ∷ cs)

    go : (s : Bool) → is_option name ≡ s → (f : Bool) → is_flag name ≡ f → (t : Bool) → list_any (λ b. b == 61) (c ∷ cs) ≡ t
        → IsSpelled (named_sort name s f (cond t (Some (after_first (λ b. b == 61) (c ∷ cs))) None)) (45 ∷ 45 ∷ c ∷ cs)
    go true known f e true has = (known, ap (λ x. 45 ∷ 45 ∷ x) (sym (rejoined (c ∷ cs) has)))
    go true known f e false lacks = (known, ap (λ x. 45 ∷ 45 ∷ x) (sym (whole (c ∷ cs) lacks)))
    go false other true known true has = tt
    go false other true known false lacks = (known, ap (λ x. 45 ∷ 45 ∷ x) (sym (whole (c ∷ cs) lacks)))
    go false other false strange t e = tt

sort_is_spelled : (word : Word) → IsSpelled (sort_of word) word
sort_is_spelled [] = refl
sort_is_spelled (a ∷ []) = go (a == 45)
  where
    go : (t : Bool) → IsSpelled (cond (t && false) ends_options names) (a ∷ [])
    go true = refl
    go false = refl
sort_is_spelled (a ∷ b ∷ rest) = go (a == 45) refl (b == 45) refl
  where
    go : (s : Bool) → (a == 45) ≡ s → (t : Bool) → (b == 45) ≡ t
        → IsSpelled (cond (s && (t && bytes_eq rest [])) ends_options
        (cond (s && t && is_option (before_first (λ c. c == 61) rest)) (option_sort (before_first (λ c. c == 61) rest) (valued rest))
        (cond (s && t && is_flag (before_first (λ c. c == 61) rest)) (flag_sort (before_first (λ c. c == 61) rest) (valued rest)) (cond s unknown names)))) (a ∷ b ∷ rest)
    go false other t e = other
    go true dash false other = tt
    go true dash true also =
        subst (λ x. IsSpelled (long_sort rest) (x ∷ b ∷ rest)) (sym (eqb-true a 45 dash))
        (subst (λ x. IsSpelled (long_sort rest) (45 ∷ x ∷ rest)) (sym (eqb-true b 45 also)) (long_is_spelled rest))

sort-attached : (option : Word) → is_option option ≡ true → (value : Word) → sort_of (codes "--" ++ (option ++ (codes "=" ++ value))) ≡ gives option value
sort-attached = each_option (λ option. (value : Word) → sort_of (codes "--" ++ (option ++ (codes "=" ++ value))) ≡ gives option value) (λ v. refl) (λ v. refl) (λ v. refl) (λ v. refl)

sort-apart : (option : Word) → is_option option ≡ true → sort_of (codes "--" ++ option) ≡ opens option
sort-apart = each_option (λ option. sort_of (codes "--" ++ option) ≡ opens option) refl refl refl refl

sort-raised : (flag : Word) → is_flag flag ≡ true → sort_of (codes "--" ++ flag) ≡ raises flag
sort-raised = each_flag (λ flag. sort_of (codes "--" ++ flag) ≡ raises flag) refl refl refl refl

sort-named : (name : Word) → is_dashed name ≡ false → sort_of name ≡ names
sort-named [] plain = refl
sort-named (a ∷ []) plain = go (a == 45)
  where
    go : (t : Bool) → cond (t && false) ends_options names ≡ names
    go true = refl
    go false = refl
sort-named (a ∷ b ∷ rest) plain = rw plain refl

-- ---- what is read is spelled

with_piece_parts : (piece : Piece) (read : Option (List Piece)) (pieces : List Piece) → with_piece piece read ≡ Some pieces
    → (more : List Piece) × (read ≡ Some more) × (piece ∷ more ≡ pieces)
with_piece_parts piece None pieces e = absurd (true≢false (sym (ap is_some e)))
with_piece_parts piece (Some more) pieces e = (more, refl, (cc))

-- the words spell the pieces, where an option may wait for its value
abbrev SpellFrom : Option Word → List Word → List Piece → Type 0
SpellFrom None words pieces = Spells words pieces
SpellFrom (Some option) words pieces =
    (value : Word) × (rest : List Word) × (more : List Piece) × (words ≡ value ∷ rest) × (pieces ≡ given option value ∷ more) × (is_dashed value ≡ false) × Spells rest more

by_sort : (word : Word) (words : List Word) (s : Sort) (pieces : List Piece) → IsSpelled s word → read_as s word words (pieces_from words) ≡ Some pieces
    → ((waiting : Option Word) (more : List Piece) → pieces_from words waiting ≡ Some more → SpellFrom waiting words more) → Spells (word ∷ words) pieces
by_sort word words ends_options pieces is e rest =
    let same : map file words ≡ pieces = cc in
    subst (Spells (word ∷ words)) same (subst (λ w. Spells (w ∷ words) (map file words)) (sym is) (closed words))
by_sort word words (gives option value) pieces is e rest =
    let parts = with_piece_parts (given option value) (pieces_from words None) pieces e in
    subst (Spells (word ∷ words)) parts.2
    (subst (λ w. Spells (w ∷ words) (given option value ∷ parts.0)) (sym is.1) (attached option value words parts.0 is.0 (rest None parts.0 parts.1)))
by_sort word words (opens option) pieces is e rest =
    let parts = rest (Some option) pieces e in
    subst (Spells (word ∷ words)) (sym parts.4) (subst (λ ws. Spells (word ∷ ws) (given option parts.0 ∷ parts.2)) (sym parts.3)
    (subst (λ w. Spells (w ∷ parts.0 ∷ parts.1) (given option parts.0 ∷ parts.2)) (sym is.1) (apart option parts.0 parts.1 parts.2 is.0 parts.5 parts.6)))
by_sort word words (raises flag) pieces is e rest =
    let parts = with_piece_parts (flagged flag) (pieces_from words None) pieces e in
    subst (Spells (word ∷ words)) parts.2
    (subst (λ w. Spells (w ∷ words) (flagged flag ∷ parts.0)) (sym is.1) (raised flag words parts.0 is.0 (rest None parts.0 parts.1)))
by_sort word words unknown pieces is e rest = absurd (true≢false (sym (ap is_some e)))
by_sort word words names pieces is e rest =
    let parts = with_piece_parts (file word) (pieces_from words None) pieces e in
    subst (Spells (word ∷ words)) parts.2 (named word words parts.0 is (rest None parts.0 parts.1))

taken : (word : Word) (words : List Word) (option : Word) (pieces : List Piece) → cond (is_dashed word) None (with_piece (given option word) (pieces_from words None)) ≡ Some pieces
    → ((more : List Piece) → pieces_from words None ≡ Some more → Spells words more) → SpellFrom (Some option) (word ∷ words) pieces
taken word words option pieces e rest = go (is_dashed word) refl e
  where
    go : (t : Bool) → is_dashed word ≡ t → cond t None (with_piece (given option word) (pieces_from words None)) ≡ Some pieces → SpellFrom (Some option) (word ∷ words) pieces
    go true dashed none = absurd (true≢false (sym (ap is_some none)))
    go false plain some =
        let parts = with_piece_parts (given option word) (pieces_from words None) pieces some in
        (word, words, parts.0, refl, sym parts.2, plain, rest parts.0 parts.1)

spelled : (words : List Word) (waiting : Option Word) (pieces : List Piece) → pieces_from words waiting ≡ Some pieces → SpellFrom waiting words pieces
unfolding pieces_from
spelled [] None pieces e =
    let same : [] ≡ pieces = cc in
    subst (Spells []) same nothing
spelled [] (Some option) pieces e = absurd (true≢false (sym (ap is_some e)))
spelled (word ∷ words) None pieces e = by_sort word words (sort_of word) pieces (sort_is_spelled word) e (spelled words)
spelled (word ∷ words) (Some option) pieces e = taken word words option pieces e (spelled words None)

-- ---- and what is spelled is read

read : (words : List Word) (pieces : List Piece) → Spells words pieces → pieces_from words None ≡ Some pieces
unfolding pieces_from
read _ _ nothing = refl
read _ _ (attached option value words pieces known rest) = rw (sort-attached option known value, read words pieces rest) refl
read _ _ (apart option value words pieces known plain rest) = rw (sort-apart option known, plain, read words pieces rest) refl
read _ _ (raised flag words pieces known rest) = rw (sort-raised flag known, read words pieces rest) refl
read _ _ (named name words pieces plain rest) = rw (sort-named name plain, read words pieces rest) refl
read _ _ (closed files) = refl

pub spelled_as_read : (words : List Word) (pieces : List Piece) → (pieces_of words ≡ Some pieces) ↔ Spells words pieces
spelled_as_read words pieces = (spelled words None pieces, read words pieces)
