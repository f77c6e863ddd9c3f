use Rattle.std.proofs.Common.{ap, ◌∙◌}
use Rattle.std.proofs.lemmas.Result.{err_from_is_err_and}
use Rattle.act_phase.specs.Asking.{action_asks}
use Rattle.act_phase.proofs.Between.{is_next, does_next}
use Rattle.act_phase.proofs.acting.Acting.next.Goals as goal

pub returns-clause-does : goal.returns-clause-does
returns-clause-does g c = λ a is.
    does_next _ c.args.self.now c.self.view_is c.in-Some.action.now a
    (is_next _ c.args.self.now c.self.view_is c.in-Some.action a c.get.result c.get.ensures.lookup.1 c.in-Some.is c.requires.some is) c.in_ok-act_at.ensures.does

pub returns-clause-untouched : goal.returns-clause-untouched
returns-clause-untouched g c = λ a is none.
    c.in_ok-act_at.ensures.untouched
    (ap action_asks (is_next _ c.args.self.now c.self.view_is c.in-Some.action a c.get.result c.get.ensures.lookup.1 c.in-Some.is c.requires.some is) ∙ none)

pub returns-in_err-act_at-clause-does : goal.returns-in_err-act_at-clause-does
returns-in_err-act_at-clause-does g c = λ a is.
    let p = err_from_is_err_and c.from_residual.result c.from_residual.ensures.1 in
    rw (p.1, p.2) (does_next _ c.args.self.now c.self.view_is c.in-Some.action.now a
    (is_next _ c.args.self.now c.self.view_is c.in-Some.action a c.get.result c.get.ensures.lookup.1 c.in-Some.is c.requires.some is) c.in_err-act_at.ensures.does)

pub returns-in_err-act_at-clause-untouched : goal.returns-in_err-act_at-clause-untouched
returns-in_err-act_at-clause-untouched g c = λ a is none.
    c.in_err-act_at.ensures.untouched
    (ap action_asks (is_next _ c.args.self.now c.self.view_is c.in-Some.action a c.get.result c.get.ensures.lookup.1 c.in-Some.is c.requires.some is) ∙ none)
