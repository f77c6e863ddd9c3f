-- A session that explains the productions in force after its commands are done.
use Rattle.std.specs.Prelude.{ℕ, List, Bool, true, false}
use Rattle.ops_base.specs.declared.elements.Class.{Class}
use Rattle.ops_base.specs.declared.endings.Ending.{Ending}
use Rattle.ops_meaning.specs.Effects.{Effect, and_then}
use Rattle.ops_meaning.specs.Running.{Session, lists}
use Rattle.why_lines.specs.WhyLines.{why_lines}

-- The lines that explain the productions in force over working memory, with the spellings in use.
abbrev pub explains : List Class → ℕ → Session → Effect Ending Session
explains classes column k = lists column (why_lines k.course.names classes k.rules k.course.wm) k

-- A session from column 0; if it is to be explained and it reached the end of its commands, these lines follow.
abbrev pub explained_if : Bool → List Class → Effect Ending Session → Effect Ending Session
explained_if true classes e = and_then 0 e (λ column k. explains classes column k)
explained_if false classes e = e
