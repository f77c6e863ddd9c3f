use Rattle.std.proofs.Common.{◌≡◌, ◌∙◌, ◌-◌, length, refl, arith}
use Rattle.back_trail.specs.Kept.{late_of}
use Rattle.live_rules.proofs.Placed.{ok_so}
use Rattle.back_trail.proofs.TrailLaws.{count, lawful_until, remade_at}
use Rattle.back_trail.proofs.kept.Kept.remade.Goals as goal

pub overflow_sub-before : goal.overflow_sub-before
overflow_sub-before c =
    let number = count c.self.inside.oldest (late_of c.self.inside.late) c.self.inside.steps.items c.args.self.now c.self.view_is in
    let long : c.len.result ≡ length c.self.inside.steps.items = omega (arith, c.len.ensures, c.self.inside.steps.ok) in omega (arith, c.requires.within, number, long)

pub after_first-requires-clause-lawful : goal.after_first-requires-clause-lawful
after_first-requires-clause-lawful c =
    lawful_until c.in_ok-first.first c.in_ok-oldest.oldest c.self.inside.oldest (late_of c.self.inside.late) c.self.inside.steps.items c.self.inside.steps.items c.in_ok-first.ensures c.in_ok-oldest.ensures refl
    (c.len.result - c.args.n) c.self.invariant

pub returns : goal.returns
returns c =
    ok_so _ _ c.after_first.result
    (λ r is e there. is
    ∙ remade_at c.in_ok-first.first c.in_ok-oldest.oldest c.self.inside.oldest (late_of c.self.inside.late) c.self.inside.steps.items c.self.inside.steps.items c.in_ok-first.ensures c.in_ok-oldest.ensures refl
    c.args.self.now c.self.view_is c.args.n c.len.result (omega (arith, c.len.ensures, c.self.inside.steps.ok)) e there)
    c.after_first.ensures
