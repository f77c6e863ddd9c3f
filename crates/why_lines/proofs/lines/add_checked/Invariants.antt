use Rattle.std.proofs.Common.{◌≡◌, ◌++◌, map, drop}
use Rattle.why_lines.specs.WhyLines.{found_line, text_of}
use Rattle.why_lines.proofs.lines.add_checked.Given as goal

abbrev pub invariant-loop-item : goal.invariant-loop-item
invariant-loop-item l =
    l.text.items ++ text_of (map (found_line l.names l.program.classes l.program.rules l.spots) (drop l.item-index l.found))
    ≡ l.fn.text.items ++ text_of (map (found_line l.names l.program.classes l.program.rules l.spots) l.found)
