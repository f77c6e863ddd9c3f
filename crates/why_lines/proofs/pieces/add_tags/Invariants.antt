use Rattle.std.proofs.Common.{◌≡◌, ◌++◌, drop}
use Rattle.ops_meaning.specs.Layout.{tags_text}
use Rattle.why_lines.proofs.pieces.add_tags.Given as goal

abbrev pub invariant-loop-tag : goal.invariant-loop-tag
invariant-loop-tag l = l.text.items ++ tags_text (drop l.tag-index l.tags) ≡ l.fn.text.items ++ tags_text l.tags
