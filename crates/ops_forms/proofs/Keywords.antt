-- A keyword is found among those that are as long as the symbol.
use Rattle.std.proofs.Common.{◌≡◌, ℕ, ◌==◌, ◌<◌, nat_lt, Bool, true, false, List, [], ◌∷◌, length, if◌then◌else◌, refl, sym, ap, ◌∙◌, true≢false}
use Rattle.std.specs.Prelude.{bytes_eq}
use Rattle.std.proofs.lemmas.Bool.{lt-ltb}
use Rattle.std.proofs.lemmas.Bool.Decides.{Decides-eqb}
use Rattle.std.proofs.lemmas.Slice.Eq.{bytes_eq-Decides}
use Rattle.ops_grammar.specs.Words.{keyword_of_symbol}
use Rattle.ops_forms.specs.Keywords.{Entry, first_like, keywords, among, as_long_as, longer}

found_among : (keep : ℕ → Bool) (s : List ℕ) → keep (length s) ≡ true → (es : List Entry) → first_like s es ≡ first_like s (among keep es)
found_among keep s kept [] = refl
found_among keep s kept (e ∷ es) = by_kept (found_among keep s kept es) (keep (length e.0)) refl (bytes_eq s e.0) refl
  where
    -- a word of another length is not the one
    other : keep (length e.0) ≡ false → bytes_eq s e.0 ≡ true → true ≡ false
    other q same = sym kept ∙ ap (λ w. keep (length w)) ((bytes_eq-Decides s e.0).0 same) ∙ q

    by_kept : first_like s es ≡ first_like s (among keep es) → (k : Bool) → keep (length e.0) ≡ k → (b : Bool) → bytes_eq s e.0 ≡ b
        → (if b then e.1 else first_like s es) ≡ first_like s (if k then e ∷ among keep es else among keep es)
    by_kept rest true q true same = ap (λ b. if b then e.1 else first_like s (among keep es)) (sym same)
    by_kept rest true q false same = rest ∙ ap (λ b. if b then e.1 else first_like s (among keep es)) (sym same)
    by_kept rest false q true same = absurd (true≢false (other q same))
    by_kept rest false q false same = rest

all_are : (s : List ℕ) → keyword_of_symbol s ≡ first_like s keywords
all_are s = refl

same : (n : ℕ) → (n == n) ≡ true
same n = (Decides-eqb n n).1 refl

-- it is one of those that are as long
pub by_length : (s : List ℕ) (n : ℕ) → length s ≡ n → keyword_of_symbol s ≡ first_like s (as_long_as n)
by_length s n is = all_are s ∙ found_among (λ m. m == n) s (ap (λ m. m == n) is ∙ same n) keywords

pub by_more : (s : List ℕ) → 7 < length s → keyword_of_symbol s ≡ first_like s longer
by_more s more = all_are s ∙ found_among (λ m. nat_lt 7 m) s (lt-ltb 7 (length s) more) keywords
