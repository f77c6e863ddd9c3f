use Rattle.std.proofs.Common.{◌≡◌, drop}
use Rattle.std.specs.List.{list_all}
use Rattle.ops_jobs.specs.Words.{word_bytes}
use Rattle.lint_top.specs.Whole.{is_file}
use Rattle.lint_top.proofs.lint.all_files.Given as goal

abbrev pub invariant-loop-word : goal.invariant-loop-word
invariant-loop-word l = list_all is_file (word_bytes l.words) ≡ list_all is_file (drop l.word-index (word_bytes l.words))
