use Rattle.std.proofs.Common.{◌≡◌, ◌≤◌, ◌+◌, suc, length, ap, sym, ◌∙◌, ◌++◌, take, drop, arith}
use Rattle.live_rules.specs.Moves.{without_any}
use Rattle.live_rules.proofs.Numbers.{without-parts, without_past}
use Rattle.live_rules.proofs.live.without_any.Goals as goal

pub returns-then-len-number : goal.returns-then-len-number
returns-then-len-number g c =
    let past : length c.args.items ≤ c.in-Some.number = omega (arith, c.len.ensures, c.if-len-number.true) in
    sym (ap (λ o. without_any o c.args.items) c.in-Some.is ∙ without_past c.in-Some.number c.args.items past)

pub returns : goal.returns
returns g c =
    let next : c.in-Some.number + 1 ≡ suc c.in-Some.number = omega arith in
    c.from_vec.ensures ∙ c.remove.ensures.by_index.2
    ∙ ap (λ rs. take c.in-Some.number rs ++ drop (c.in-Some.number + 1) rs) c.into_vec-items.ensures
    ∙ ap (λ k. take c.in-Some.number c.args.items ++ drop k c.args.items) next
    ∙ without-parts c.in-Some.number c.args.items ∙ ap (λ o. without_any o c.args.items) (sym c.in-Some.is)
