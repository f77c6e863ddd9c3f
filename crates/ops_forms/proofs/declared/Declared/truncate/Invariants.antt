use Rattle.std.proofs.Common.{◌≡◌, take, length}
use Rattle.ops_forms.proofs.declared.Declared.truncate.Given as goal

abbrev pub invariant-items : goal.invariant-items
invariant-items g l = take l.len l.self ≡ take l.len l.fn.self

abbrev pub decreases-items : goal.decreases-items
decreases-items g l = length l.self
