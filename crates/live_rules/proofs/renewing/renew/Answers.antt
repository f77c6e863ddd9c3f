-- Where no production was removed, the state is that of the first of the productions in force, and all marks stay.
use Rattle.std.proofs.Common.{List, sym, subst}
use Rattle.ops_base.specs.declared.rules.Rule.{Rule}
use Rattle.live_rules.specs.Renewing.{IsOf}
use Rattle.live_rules.proofs.Placed.{ok_so}
use Rattle.live_rules.proofs.Unmoved.{are_first, course_follows}
use Rattle.live_rules.proofs.renewing.renew.Goals as goal

pub grow_all-requires-clause-within : goal.grow_all-requires-clause-within
grow_all-requires-clause-within g c = (are_first c.in-Some.first c.requires.from.leads c.in-Some.ensures).within

pub grow_all-requires-clause-before : goal.grow_all-requires-clause-before
grow_all-requires-clause-before g c =
    let from = c.requires.from in
    let P : List Rule → Type 0 = λ rules. IsOf g.B.M.Matcher.stands_for rules c.args.state in
    subst P (sym (are_first c.in-Some.first from.leads c.in-Some.ensures).first) (record { stands = from.stands; specificities = from.specificities })

pub returns-clause-course : goal.returns-clause-course
returns-clause-course g c =
    let from = c.requires.from in
    let first = are_first c.in-Some.first from.leads c.in-Some.ensures in
    ok_so _ _ c.grow_all.result
    (λ s same. course_follows g.B.M.Matcher.stored c.args.state c.args.moved.now c.in-Some.first from.old c.args.program.now.rules (g.B.M.Matcher.stored c.args.state.matcher).elements c.in-Some.ensures first (c.index-index.ensures.set from.old from.stands) s same)
    c.grow_all.ensures.course
