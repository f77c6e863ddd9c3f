use Rattle.std.proofs.Common.{◌∙◌}
use Rattle.back_trail.proofs.MarkLaws.{insert_is}
use Rattle.back_trail.proofs.marks.put_mark.Goals as goal

pub returns-clause-ok : goal.returns-clause-ok
returns-clause-ok c = c.in_ok-insert.ensures.keys ∙ insert_is c.args.inst c.args.marks.now.keys
