-- Regular expressions over bytes, and what they mean.
use Rattle.std.specs.Prelude.{◌≡◌, ℕ, zero, suc, ◌≤◌, ◌⊎◌, ◌==◌, ◌&&◌, ◌||◌, Bool, true, false, List, [], ◌∷◌, ◌++◌, fold, nat_le, if◌then◌else◌}

-- an expression
pub data Regex : Type 0 where
  Never : Regex
  Empty : Regex
  -- a byte from low to high
  One : (low high : ℕ) → Regex
  Then : (a c : Regex) → Regex
  Or : (a c : Regex) → Regex
  Many : (a : Regex) → Regex

-- this many texts of P, one after the other
abbrev pub Repeats : (List ℕ → Type 0) → ℕ → List ℕ → Type 0
Repeats P zero s = s ≡ []
Repeats P (suc n) s = (x y : List ℕ) × (s ≡ x ++ y) × P x × Repeats P n y

-- what an expression means: the texts that it matches
abbrev pub Matches : Regex → List ℕ → Type 0
Matches Never s = ⊥
Matches Empty s = s ≡ []
Matches (One low high) s = (b : ℕ) × (s ≡ b ∷ []) × (low ≤ b) × (b ≤ high)
Matches (Then a c) s = (x y : List ℕ) × (s ≡ x ++ y) × Matches a x × Matches c y
Matches (Or a c) s = Matches a s ⊎ Matches c s
Matches (Many a) s = (n : ℕ) × Repeats (Matches a) n s

-- the expression matches the empty text
abbrev pub nullable : Regex → Bool
nullable Never = false
nullable Empty = true
nullable (One low high) = false
nullable (Then a c) = nullable a && nullable c
nullable (Or a c) = nullable a || nullable c
nullable (Many a) = true

-- the two expressions are written alike
abbrev pub same : Regex → Regex → Bool
same Never Never = true
same Empty Empty = true
same (One a b) (One c d) = (a == c) && (b == d)
same (Then a b) (Then c d) = same a c && same b d
same (Or a b) (Or c d) = same a c && same b d
same (Many a) (Many c) = same a c
same _ _ = false

-- a is one of the choices of the second
abbrev pub among : Regex → Regex → Bool
among a (Or x y) = same a x || among a y
among a c = same a c

-- a or the second, which may have it already
abbrev pub joined : Regex → Regex → Regex
joined a Never = a
joined a c = if among a c then c else Or a c

-- a or c, with nothing twice
abbrev pub either : Regex → Regex → Regex
either Never c = c
either (Or x y) c = joined x (either y c)
either a c = joined a c

-- a and then c, written shorter where a is Never or Empty
abbrev pub behind : Regex → Regex → Regex
behind Never c = Never
behind Empty c = c
behind a c = Then a c

-- what is left of an expression after the byte
abbrev pub after : Regex → ℕ → Regex
after Never b = Never
after Empty b = Never
after (One low high) b = if nat_le low b && nat_le b high then Empty else Never
after (Then a c) b = either (behind (after a b) c) (if nullable a then after c b else Never)
after (Or a c) b = either (after a b) (after c b)
after (Many a) b = behind (after a b) (Many a)

-- the test of a text, byte by byte
abbrev pub matches : Regex → List ℕ → Bool
matches r s = nullable (fold after r s)
