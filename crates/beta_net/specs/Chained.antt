-- Numbers that are chained by their codes: each refers to the one before it that has the same code.
use Rattle.std.specs.Prelude.{◌≡◌, ◌<◌, ◌≤◌, ℕ, suc, List, map, length, slice_get, Option, Some, None}
use Rattle.beta_net.specs.declared.chains.Entry.{Entry}

-- one more than the number that is given, or 0 if none is
abbrev pub reach : Option ℕ → ℕ
reach None = 0
reach (Some n) = suc n

-- o is the last number below the bound that has this code, if there is one
pub record IsLast (codes : List ℕ) (code bound : ℕ) (o : Option ℕ) : Type 0 where
  pub within : reach o ≤ bound
  pub coded : (p : ℕ) → o ≡ Some p → slice_get codes p ≡ Some code
  pub last : (n : ℕ) → n < bound → slice_get codes n ≡ Some code → n < reach o

abbrev pub codes_in : List Entry → List ℕ
codes_in entries = map (λ e. e.code) entries

-- each entry refers to the last one before it with its code, and `newest_of` returns the last of all with each code
pub record AreChained (entries : List Entry) (newest_of : ℕ → Option ℕ) : Type 0 where
  pub earlier : (n : ℕ) (e : Entry) → slice_get entries n ≡ Some e → IsLast (codes_in entries) e.code n e.earlier
  pub newest : (code : ℕ) → IsLast (codes_in entries) code (length entries) (newest_of code)
