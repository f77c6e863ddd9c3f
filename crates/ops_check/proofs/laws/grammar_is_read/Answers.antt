use Rattle.ops_grammar.proofs.Standing.{text-read}
use Rattle.ops_check.proofs.laws.grammar_is_read.Goals as goal

pub returns : goal.returns
returns c = text-read c.args.text.now
