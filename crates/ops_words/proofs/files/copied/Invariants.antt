use Rattle.std.proofs.Common.{◌≡◌, take, map}
use Rattle.ops_jobs.specs.Words.{word_bytes}
use Rattle.ops_words.proofs.files.copied.Given as goal

abbrev pub invariant-loop-name : goal.invariant-loop-name
invariant-loop-name l = word_bytes l.copies.items ≡ map (λ name. name.now) (take l.name-index l.names)
