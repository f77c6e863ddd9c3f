use Rattle.ops_forms.proofs.Noted.{class_noted, class_forgotten}
use Rattle.ops_forms.proofs.classes.Classes.push.Goals as goal

pub invariant_of-self-in-Ok : goal.invariant_of-self-in-Ok
invariant_of-self-in-Ok c = λ n. class_noted n c.self.inside.list _ c.args.class _ _ _ c.in_ok-push.ensures.ok c.len-place.ensures (c.self.invariant n) (c.in-Ok.ensures.ok n)

pub invariant_of-self-in-Err : goal.invariant_of-self-in-Err
invariant_of-self-in-Err c = λ n. class_forgotten n c.self.inside.list _ _ c.args.class _ _ _ _ c.in_ok-push.ensures.ok c.truncate.ensures c.len-place.ensures (c.self.invariant n) (c.in-Err.ensures.err n)
