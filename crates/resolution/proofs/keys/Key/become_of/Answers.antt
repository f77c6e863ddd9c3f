use Rattle.std.proofs.Common.{◌++◌, List, ℕ, ap, ◌∙◌}
use Rattle.ops_base.specs.Dominance.{downwards}
use Rattle.resolution.proofs.Halves.{is_key_from}
use Rattle.resolution.proofs.keys.Key.become_of.Goals as goal

pub returns : goal.returns
returns c =
    is_key_from c.args.program.now.rules c.args.inst.now c.fill.new.numbers.items c.specificity_in-self-inside.result
    (c.in_ok-fill.ensures ∙ ap (λ (tags : List ℕ). downwards tags ++ tags) c.as_slice.ensures)
    c.specificity_in-self-inside.ensures
