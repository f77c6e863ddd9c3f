use Rattle.std.proofs.Common.{sym, ◌∙◌}
use Rattle.program_slips.proofs.Meeting.{met_map, met_stays}
use Rattle.program_slips.proofs.texts.meet.Goals as goal

pub returns-in-Some-clause-place : goal.returns-in-Some-clause-place
returns-in-Some-clause-place c = c.in-Some.ensures.index ∙ sym (met_map (λ v. v.items) c.args.text.now c.args.texts.now.keys)

pub returns-in-Some-clause-texts : goal.returns-in-Some-clause-texts
returns-in-Some-clause-texts c = sym (met_stays (λ v. v.items) c.args.text.now c.args.texts.now.keys c.in-Some.place (sym c.in-Some.ensures.index))

pub returns-in_ok-add-in-None-clause-place : goal.returns-in_ok-add-in-None-clause-place
returns-in_ok-add-in-None-clause-place c = c.in-None.ensures.index ∙ sym (met_map (λ v. v.items) c.args.text.now c.args.texts.now.keys)
