use Rattle.ops_jobs.proofs.Spelling.{spelled_as_read}
use Rattle.ops_jobs.proofs.laws.words_spell_their_pieces.Goals as goal

pub returns : goal.returns
returns c = spelled_as_read
