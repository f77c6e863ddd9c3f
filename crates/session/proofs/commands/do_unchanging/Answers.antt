use Rattle.session.proofs.Plain.{named_above, plain_left}
use Rattle.session.proofs.commands.do_unchanging.Goals as goal

pub returns-in-Back-clause-performs : goal.returns-in-Back-clause-performs
returns-in-Back-clause-performs g c = λ z. rw c.in-Back.is (c.go_back.ensures.performs z)

pub returns-in_default-clause-performs : goal.returns-in_default-clause-performs
returns-in_default-clause-performs g c = λ z. c.do_plain.ensures.performs z

pub do_plain-requires-clause-plain : goal.do_plain-requires-clause-plain
do_plain-requires-clause-plain g c = plain_left c.args.command.now c.requires.unchanging c.in_default.not-Back

pub returns-in_default-clause-named : goal.returns-in_default-clause-named
returns-in_default-clause-named g c = named_above c.args.names.now c.args.undoable.trail c.do_plain.result c.do_plain.ensures.named
