use Rattle.std.proofs.Common.{◌≡◌, ◌++◌, drop}
use Rattle.ops_base.specs.WorkingMemory.{shown}
use Rattle.why_lines.specs.WhyLines.{lines_from, why_lines, text_of}
use Rattle.why_lines.proofs.lines.why_text.Given as goal

abbrev pub invariant-loop-rule : goal.invariant-loop-rule
invariant-loop-rule l =
    l.text.items ++ text_of (lines_from l.names l.program.classes l.program.rules (shown l.wm) l.rule (drop l.rule l.program.rules))
    ≡ text_of (why_lines l.names l.program.classes l.program.rules (shown l.wm))
