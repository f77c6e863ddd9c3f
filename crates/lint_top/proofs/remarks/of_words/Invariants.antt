use Rattle.std.proofs.Common.{◌≡◌, ◌++◌, drop}
use Rattle.std.specs.Prelude.{map}
use Rattle.lint_top.specs.declared.remarks.Remark.TheVariants as remark
use Rattle.lint_top.proofs.remarks.of_words.Given as goal

abbrev pub invariant-loop-word : goal.invariant-loop-word
invariant-loop-word l = map remark.Word l.words ≡ l.remarks.items ++ map remark.Word (drop l.word-index l.words)
