use Rattle.std.proofs.Common.{◌∙◌, ap, refl, List, Bool, ◌++◌, ◌∷◌, [], false}
use Rattle.live_rules.specs.Moves.{without_any}
use Rattle.session.specs.declared.session.Session.{Session}
use Rattle.session.proofs.Changing.{added_meant, added_under_way}
use Rattle.session.proofs.changes.add_production.Goals as goal

pub returns-clause-meant : goal.returns-clause-meant
returns-clause-meant g c =
    added_meant g.M.Matcher.stored g.M.Matcher.stands_for c.args.live.now.program c.add.new.self.program c.args.session c.in_ok-session.session c.in_ok-session.moved c.args.rule.name c.in_ok-number.number
    c.in_ok-session.ensures.session c.in_ok-number.ensures.number c.add.new.moved c.in_ok-number.ensures.moved c.in_ok-session.ensures.meant c.in_ok-session.ensures.under_way c.args.rule c.push.new.self
    (c.in_ok-push.ensures.ok ∙ ap (λ (bs : List Bool). bs ++ false ∷ []) (c.without_any-breaks.ensures ∙ ap (λ (s : Session g.row.M.Denot g.row.M-Hand.Denot). without_any c.in_ok-number.number s.breaks) c.in_ok-session.ensures.session))
    refl c.in_ok-number.ensures.program.rules_are

pub returns-clause-under_way : goal.returns-clause-under_way
returns-clause-under_way g c =
    added_under_way g.M.Matcher.stored g.M.Matcher.stands_for c.args.live.now.program c.add.new.self.program c.args.session c.in_ok-session.session c.in_ok-session.moved c.args.rule.name c.in_ok-number.number
    c.in_ok-session.ensures.session c.in_ok-number.ensures.number c.add.new.moved c.in_ok-number.ensures.moved c.in_ok-session.ensures.meant c.in_ok-session.ensures.under_way c.args.rule c.push.new.self
    (c.in_ok-push.ensures.ok ∙ ap (λ (bs : List Bool). bs ++ false ∷ []) (c.without_any-breaks.ensures ∙ ap (λ (s : Session g.row.M.Denot g.row.M-Hand.Denot). without_any c.in_ok-number.number s.breaks) c.in_ok-session.ensures.session))
    refl c.in_ok-number.ensures.program.rules_are
