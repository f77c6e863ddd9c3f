use Rattle.std.proofs.Common.{◌≡◌, ◌<◌, ◌∙◌, [], length, get_or, sym, arith}
use Rattle.std.proofs.lemmas.List.{length-map}
use Rattle.std.specs.List.{list_all}
use Rattle.ops_jobs.specs.Words.{word_bytes}
use Rattle.joined_files.proofs.Loads.{name_is}
use Rattle.lint_top.specs.Whole.{is_file}
use Rattle.lint_top.proofs.Words.{word_more, word_less}
use Rattle.lint_top.proofs.lint.all_files.Goals as goal

pub loop-word-preserved : goal.loop-word-preserved
loop-word-preserved c =
    let words = word_bytes c.args.words.now in
    let i = c.loop-word.word-index in
    let word = c.as_bytes.result.now in
    let within : i < length words = simp length-map (omega arith) in
    let is : word ≡ get_or words i [] = name_is c.args.words.now i c.word-item.result word (omega arith) c.word-item.is c.as_bytes.ensures.value in
    word_more words (list_all is_file words) i word within is c.loop-word.invariant (sym c.is_file.ensures ∙ c.if-not-is_file.false)

pub returns-then-not-is_file : goal.returns-then-not-is_file
returns-then-not-is_file c =
    let words = word_bytes c.args.words.now in
    let i = c.loop-word.word-index in
    let word = c.as_bytes.result.now in
    let within : i < length words = simp length-map (omega arith) in
    let is : word ≡ get_or words i [] = name_is c.args.words.now i c.word-item.result word (omega arith) c.word-item.is c.as_bytes.ensures.value in
    word_less words (list_all is_file words) i word within is c.loop-word.invariant (sym c.is_file.ensures ∙ c.if-not-is_file.true)
