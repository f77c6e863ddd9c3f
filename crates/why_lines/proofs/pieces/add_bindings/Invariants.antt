use Rattle.std.proofs.Common.{◌≡◌, ◌++◌, drop, true}
use Rattle.why_lines.specs.WhyLines.{bindings_text}
use Rattle.why_lines.proofs.pieces.add_bindings.Given as goal

abbrev pub invariant-loop-spot : goal.invariant-loop-spot
invariant-loop-spot l =
    l.text.items ++ bindings_text l.names l.classes l.is_first (drop l.spot-index l.spots) l.left
    ≡ l.fn.text.items ++ bindings_text l.names l.classes true l.spots l.values
