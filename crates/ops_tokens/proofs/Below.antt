-- Tests of each number below a limit, which compute.
use Rattle.std.proofs.Common.{◌≡◌, ℕ, zero, suc, ◌<◌, Bool, true, arith, inl, inr}
use Rattle.std.specs.Prelude.{◌&&◌}
use Rattle.std.proofs.lemmas.Bool.{cases_lt, and_parts}

-- the test passes at each number below n
unfoldable pub all_below : (ℕ → Bool) → ℕ → Bool
all_below test zero = true
all_below test (suc n) = test n && all_below test n

pub all_below-at : (test : ℕ → Bool) (n k : ℕ) → all_below test n ≡ true → k < n → test k ≡ true
unfolding all_below
all_below-at test zero k e lt = absurd (omega arith)
all_below-at test (suc n) k e lt =
    let parts = and_parts (test n) (all_below test n) e in
    elim (cases_lt k n) [
      | inl below ↦ all_below-at test n k parts.1 below
      | inr above ↦ let same : k ≡ n = omega arith in rw same parts.0
    ]
