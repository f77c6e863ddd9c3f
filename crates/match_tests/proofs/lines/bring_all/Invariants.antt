use Rattle.std.proofs.Common.{◌%◌, slice_index}
use Rattle.token_line.specs.Coded.{HasCodes}
use Rattle.match_tests.proofs.lines.bring_all.Given as goal

abbrev pub invariant-loop-tag : goal.invariant-loop-tag
invariant-loop-tag l = HasCodes (λ t. slice_index t 0 % 3) l.line
