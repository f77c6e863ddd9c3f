use Rattle.std.proofs.Common.{◌∙◌, sym}
use Rattle.ops_meaning.proofs.RisingTags.{session_goes}
use Rattle.act_phase.specs.Outcomes.{setting_of}
use Rattle.act_phase.proofs.Held.{holds_program}
use Rattle.session.proofs.Early.{session_early}
use Rattle.session.proofs.Explained.{explained_early}
use Rattle.session.proofs.HeldSession.{session_held}
use Rattle.session.proofs.SessionEnds.{ends_on, ended_reads, ended_unread, ended_done}
use Rattle.session.proofs.whole.run_session.Goals as goal

pub returns-clause-ends : goal.returns-clause-ends
returns-clause-ends g c =
    rw c.known_ending.ensures
    (ends_on _ g.B.M.Matcher.stored c.do_all-done.new.live.program.rules c.do_all-done.new.names c.do_all-done.result _ _ _ _ _ c.do_all-done.ensures.none_waits c.do_all-done.ensures.performs)

pub returns-clause-reads : goal.returns-clause-reads
returns-clause-reads g c =
    rw c.known_ending.ensures (ended_reads _ g.B.M.Matcher.stored c.do_all-done.new.live.program.rules c.do_all-done.result _ _ c.do_all-done.ensures.reads)

pub returns-clause-written : goal.returns-clause-written
returns-clause-written g c = λ is.
    c.do_all-done.ensures.written (ended_unread _ g.B.M.Matcher.stored c.do_all-done.new.live.program.rules c.do_all-done.result (sym c.known_ending.ensures ∙ is))

pub returns-clause-flushed : goal.returns-clause-flushed
returns-clause-flushed g c = λ empty firings elements last_tag is.
    ended_done _ g.B.M.Matcher.stored c.do_all-done.new.live.program.rules c.do_all-done.new.names c.do_all-done.result _ _ _ _ _ _ firings elements last_tag
    (λ z. explained_early c.args.context.now.is_explained c.args.live.now.program.classes _ (session_early (setting_of c.args.live.now.program 0) c.args.context.now.limit c.args.live.now.program.commands c.args.names.now z)) c.do_all-done.ensures.performs
    (c.do_all-done.ensures.flushed empty) (sym c.known_ending.ensures ∙ is)

pub returns-clause-sets : goal.returns-clause-sets
returns-clause-sets g c = session_goes (setting_of c.args.live.now.program 0) c.args.context.now.limit c.args.live.now.program.commands c.args.names.now

pub returns-clause-held : goal.returns-clause-held
returns-clause-held g c = λ h.
    (holds_program c.args.names.now c.do_all-done.new.names c.args.live.now.program (c.do_all-done.ensures.names) h, session_held c.args.live.now.program c.args.context.now.limit c.args.names.now h)
