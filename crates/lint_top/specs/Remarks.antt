-- The warnings of a text that is a program, in the order of their places.
use Rattle.std.specs.Prelude.{ℕ, List, [], ◌∷◌, ◌++◌, map, take, nat_le, if◌then◌else◌}
use Rattle.ops_base.specs.declared.elements.Class.{Class}
use Rattle.ops_base.specs.declared.rules.Rule.{Rule}
use Rattle.ops_base.specs.declared.commands.Command.{Command}
use Rattle.lint_rules.specs.Slips.{slips_of}
use Rattle.program_slips.specs.Lacking.{lacking}
use Rattle.program_slips.specs.Alike.{twins}
use Rattle.program_slips.specs.Lone.{lone}
use Rattle.lint_top.specs.declared.remarks.Remark.{Remark}
use Rattle.lint_top.specs.declared.remarks.Remark.TheVariants as remark
use Rattle.lint_top.specs.declared.remarks.TheConstants.{MOST_WARNINGS}

-- the byte at which it is
abbrev pub at_of : Remark → ℕ
at_of (remark.Word w) = w.first
at_of (remark.Asked a) = a.at
at_of (remark.Twin t) = t.at
at_of (remark.Lone n) = n.first

-- the leading ones that are at this place or before it, and the rest from the first one after it on
abbrev pub up_to : ℕ → List Remark → List Remark
up_to at [] = []
up_to at (r ∷ rs) = if nat_le (at_of r) at then r ∷ up_to at rs else []

abbrev pub beyond : ℕ → List Remark → List Remark
beyond at [] = []
beyond at (r ∷ rs) = if nat_le (at_of r) at then beyond at rs else r ∷ rs

-- two sorted lists, merged into one sorted list
abbrev pub merged : List Remark → List Remark → List Remark
merged rs [] = rs
merged rs (s ∷ ss) = up_to (at_of s) rs ++ s ∷ merged (beyond (at_of s) rs) ss

-- the warnings of productions: those that have the same conditions as an earlier one, what they ask for in vain, and
-- their unused variables
abbrev pub of_program : List ℕ → List Class → List Rule → List Rule → List Command → List Remark
of_program text classes rules templates commands =
    merged (merged (map remark.Twin (twins rules)) (map remark.Asked (lacking classes rules templates commands)))
    (map remark.Lone (lone text rules commands))

-- the first warnings of a text that is this program
abbrev pub remarks : List ℕ → List Class → List Rule → List Rule → List Command → List Remark
remarks text classes rules templates commands =
    take MOST_WARNINGS (merged (of_program text classes rules templates commands) (map remark.Word (take MOST_WARNINGS (slips_of text))))
