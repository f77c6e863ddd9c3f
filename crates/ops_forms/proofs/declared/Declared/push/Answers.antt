use Rattle.std.proofs.Common.{◌==◌, sym, ◌∙◌}
use Rattle.ops_forms.proofs.Firsts.{position_snoc}
use Rattle.ops_forms.proofs.declared.Declared.push.Goals as goal

pub invariant_of-self-in-Ok : goal.invariant_of-self-in-Ok
invariant_of-self-in-Ok g c = λ n.
    c.in-Ok.ensures.ok n ∙ rw (c.self.invariant n, c.title.ensures, c.len-place.ensures, c.self.inside.list.ok.0, c.in_ok-push.ensures.items) (sym (position_snoc (λ x. g.T.Titled.title x == n) c.self.inside.list.items c.args.item))
