-- The trail of a session in which nothing was done yet.
use Rattle.std.proofs.Common.{◌≡◌, sym, subst, ℕ, ◌≤◌, List, length, Bool, true, false, cond, Option, Some, None}
use Rattle.ops_base.specs.declared.rules.Rule.{Rule}
use Rattle.ops_base.specs.Names.{Spellings}
use Rattle.ops_meaning.specs.Running.{Course}
use Rattle.back_trail.specs.Trails.{Trailed, nothing_kept}
use Rattle.session.specs.Trailing.{IsNamedFrom, IsTrailOf}

-- it is that of whatever the session has come to
pub begun_trail : (rules : List Rule) (m : Course) (keeps : Bool) (trail : Option Trailed) → trail ≡ cond keeps (Some nothing_kept) None → IsTrailOf rules m trail
begun_trail rules m keeps trail is = subst (IsTrailOf rules m) (sym is) (by keeps)
  where
    by : (b : Bool) → IsTrailOf rules m (cond b (Some nothing_kept) None)
    by true = (λ s e. absurd (cc), tt)
    by false = tt

-- its points reach as far as all names in use do
pub begun_named : (least : ℕ) (names : Spellings) (keeps : Bool) (trail : Option Trailed) → trail ≡ cond keeps (Some nothing_kept) None → least ≤ length names.held → IsNamedFrom least names trail
begun_named least names keeps trail is low = subst (IsNamedFrom least names) (sym is) (by keeps)
  where
    by : (b : Bool) → IsNamedFrom least names (cond b (Some nothing_kept) None)
    by true = low
    by false = tt
