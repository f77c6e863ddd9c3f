use Rattle.std.proofs.Common.{◌≡◌, ◌++◌, drop}
use Rattle.ops_base.specs.Names.{spellings}
use Rattle.program_slips.specs.Alike.{twins_by, twins}
use Rattle.program_slips.proofs.alike.twins_in.Given as goal

abbrev pub invariant-loop-rule : goal.invariant-loop-rule
invariant-loop-rule l = twins l.rules ≡ l.found.items ++ twins_by (spellings l.texts.keys) l.names.items (drop l.rule-index l.rules)
