use Rattle.ops_grammar.proofs.ReadsProgram.{program-read}
use Rattle.ops_check.proofs.laws.spelling_is_read_back.Goals as goal

pub returns : goal.returns
returns c = program-read
