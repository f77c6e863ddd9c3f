use Rattle.std.proofs.Common.{◌==◌, is_some, ap, sym, ◌∙◌}
use Rattle.ops_forms.proofs.Firsts.{list_any_position}
use Rattle.ops_forms.proofs.vectors.is_one_of.Goals as goal

pub returns : goal.returns
returns c = c.is_some.ensures ∙ ap is_some c.place_of.ensures ∙ sym (list_any_position (λ n. n.0 == c.args.name.0) c.args.names.now)
