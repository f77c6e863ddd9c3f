use Rattle.std.proofs.Common.{[], ◌∷◌, ◌∙◌, length, length-append, ap, arith}
use Rattle.steal_engine.specs.Team.{IsFresh}
use Rattle.steal_engine.proofs.Weighing.{dealt, first_of, more, others_of}
use Rattle.steal_engine.proofs.deques.deal_one.Goals as goal

pub returns-in_ok-push_back-in-Ok-clause-more : goal.returns-in_ok-push_back-in-Ok-clause-more
returns-in_ok-push_back-in-Ok-clause-more g c h = dealt h _ _ _ c.in-Some.first c.push.new.self c.args.task c.in-Some.ensures.items c.in_ok-push_back-in-Ok.ensures.items c.in-Ok.ensures.pushed

pub returns-in_ok-push_back-in-Ok-clause-count : goal.returns-in_ok-push_back-in-Ok-clause-count
returns-in_ok-push_back-in-Ok-clause-count g c =
    let a = ap length c.in-Some.ensures.items in
    let b = ap length c.in_ok-push_back-in-Ok.ensures.items in
    let d = length-append c.pop_front.new.self.items (c.push.new.self ∷ []) in omega (arith, a, b, d)

pub returns-in_ok-push_back-in-Ok-clause-fresh : goal.returns-in_ok-push_back-in-Ok-clause-fresh
returns-in_ok-push_back-in-Ok-clause-fresh g c =
    let first = c.in-Some.first in
    let is = c.in-Some.ensures.items in
    let own = c.push.new.self in
    let e = c.in-Ok.ensures in
    let was = first_of IsFresh _ _ first is c.requires.fresh in
    let now : IsFresh own = record { whole = ap (λ p. p.1) e.own ∙ was.whole; popped_none = e.popped ∙ was.popped_none; stolen_none = e.stolen ∙ was.stolen_none } in
    more IsFresh _ _ own c.in_ok-push_back-in-Ok.ensures.items (others_of IsFresh _ _ first is c.requires.fresh) now
