use Rattle.std.proofs.Common.{◌≡◌, ap}
use Rattle.clap.specs.Values.{kind_of}
use Rattle.clap.specs.Simple.{app_of}
use Rattle.ops_jobs.specs.Words.{word_bytes}
use Rattle.ops_words.specs.Found.{fault_of}
use Rattle.ops_words.specs.declared.faults.WordsFault.TheVariants.{Usage}
use Rattle.ops_words.proofs.Finding.{finds_words, refuses_words, texts_are}
use Rattle.ops_words.proofs.command.find_words.Goals as goal

pub returns-in-Ok-clause-found : goal.returns-in-Ok-clause-found
returns-in-Ok-clause-found c =
    finds_words (word_bytes c.args.words.now) (app_of c.in_ok-command.command) c.in-Ok.matches (texts_are c.args.words.now) c.in_ok-command.ensures c.in-Ok.ensures.matches c.in-Ok.ensures.kinds

pub returns-in-Err-clause-usage : goal.returns-in-Err-clause-usage
returns-in-Err-clause-usage c = λ same.
    let answered : fault_of c.kind.result ≡ fault_of (kind_of c.in-Err.error) = ap fault_of c.kind.ensures in
    let usage : fault_of (kind_of c.in-Err.error) ≡ Usage = cc in
    refuses_words (word_bytes c.args.words.now) (app_of c.in_ok-command.command) c.in-Err.error (texts_are c.args.words.now) c.in_ok-command.ensures c.in-Err.ensures.kinds usage
