-- A session that is explained ends as it does without that.
use Rattle.std.proofs.Common.{◌≡◌, ℕ, List, Bool, true, false, Result, Ok, Err, refl}
use Rattle.ops_base.specs.declared.elements.Class.{Class}
use Rattle.ops_base.specs.declared.endings.Ending.{Ending}
use Rattle.ops_io.specs.Output.{column_after}
use Rattle.ops_meaning.specs.Effects.{Effect, going_on}
use Rattle.ops_meaning.specs.Running.{Session}
use Rattle.why_lines.specs.Explained.{explains, explained_if}

pub explained_ends : (explained : Bool) (classes : List Class) (e : Effect Ending Session) → (explained_if explained classes e).outcome ≡ e.outcome
explained_ends false classes e = refl
explained_ends true classes e = by (column_after 0 e.bytes) e.bytes e.outcome
  where
    by : (column : ℕ) (bytes : List ℕ) (o : Result Session Ending) → (going_on bytes o (λ k. explains classes column k)).outcome ≡ o
    by column bytes (Ok k) = refl
    by column bytes (Err f) = refl
