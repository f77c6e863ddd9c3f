use Rattle.ops_base.proofs.FeedingLaws.{fed_anew}
use Rattle.ops_base.proofs.live.working_memory_is_fed_again.Goals as goal

pub returns : goal.returns
returns c = λ classes wm last rise within. let f = fed_anew classes wm last rise within in (f.lawful, f.elements, f.tag)
