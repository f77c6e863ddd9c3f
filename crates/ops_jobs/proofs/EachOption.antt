-- The options, the flags and the modes, one by one.
use Rattle.std.proofs.Common.{◌≡◌, ◌||◌, Bool, true, false, codes, refl, sym, subst}
use Rattle.std.specs.Str.{bytes_eq}
use Rattle.std.proofs.lemmas.Slice.Eq.{bytes_eq-Decides}
use Rattle.std.proofs.lemmas.Bool.{true≢false}
use Rattle.ops_jobs.specs.CommandLine.{Word, is_flag, is_mode, is_option}

-- what holds of each of the four holds of whatever is an option
pub each_option : (P : Word → Type 0) → P (codes "match") → P (codes "workers") → P (codes "lines") → P (codes "limit")
    → (name : Word) → is_option name ≡ true → P name
each_option P a b c d name is =
    go (bytes_eq (codes "match") name) (bytes_eq (codes "workers") name) (bytes_eq (codes "lines") name) (bytes_eq (codes "limit") name) refl refl refl refl is
  where
    same : (other : Word) → bytes_eq other name ≡ true → P other → P name
    same other e p = subst P ((bytes_eq-Decides other name).0 e) p

    go : (s t u v : Bool) → bytes_eq (codes "match") name ≡ s → bytes_eq (codes "workers") name ≡ t → bytes_eq (codes "lines") name ≡ u → bytes_eq (codes "limit") name ≡ v
        → (s || (t || (u || (v || false)))) ≡ true → P name
    go true t u v e f g h is = same _ e a
    go false true u v e f g h is = same _ f b
    go false false true v e f g h is = same _ g c
    go false false false true e f g h is = same _ h d
    go false false false false e f g h is = absurd (true≢false (sym is))

-- what holds of the four flags holds of whatever is a flag
pub each_flag : (P : Word → Type 0) → P (codes "gen") → P (codes "net") → P (codes "why") → P (codes "overlap") → (name : Word) → is_flag name ≡ true → P name
each_flag P a b c d name is =
    go (bytes_eq (codes "gen") name) (bytes_eq (codes "net") name) (bytes_eq (codes "why") name) (bytes_eq (codes "overlap") name) refl refl refl refl is
  where
    go : (s t u v : Bool) → bytes_eq (codes "gen") name ≡ s → bytes_eq (codes "net") name ≡ t → bytes_eq (codes "why") name ≡ u → bytes_eq (codes "overlap") name ≡ v
        → (s || (t || (u || (v || false)))) ≡ true → P name
    go true t u v e f g h is = subst P ((bytes_eq-Decides (codes "gen") name).0 e) a
    go false true u v e f g h is = subst P ((bytes_eq-Decides (codes "net") name).0 f) b
    go false false true v e f g h is = subst P ((bytes_eq-Decides (codes "why") name).0 g) c
    go false false false true e f g h is = subst P ((bytes_eq-Decides (codes "overlap") name).0 h) d
    go false false false false e f g h is = absurd (true≢false (sym is))

-- and what holds of the three modes holds of whatever is one
pub each_mode : (P : Word → Type 0) → P (codes "gen") → P (codes "net") → P (codes "why") → (name : Word) → is_mode name ≡ true → P name
each_mode P a b c name is = go (bytes_eq (codes "gen") name) (bytes_eq (codes "net") name) (bytes_eq (codes "why") name) refl refl refl is
  where
    go : (s t u : Bool) → bytes_eq (codes "gen") name ≡ s → bytes_eq (codes "net") name ≡ t → bytes_eq (codes "why") name ≡ u → (s || (t || (u || false))) ≡ true → P name
    go true t u e f g is = subst P ((bytes_eq-Decides (codes "gen") name).0 e) a
    go false true u e f g is = subst P ((bytes_eq-Decides (codes "net") name).0 f) b
    go false false true e f g is = subst P ((bytes_eq-Decides (codes "why") name).0 g) c
    go false false false e f g is = absurd (true≢false (sym is))
