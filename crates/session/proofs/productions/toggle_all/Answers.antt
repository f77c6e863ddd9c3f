use Rattle.std.proofs.Common.{◌∙◌, ap, sym, ◌+◌, drop}
use Rattle.ops_meaning.specs.Running.{all_toggled, toggled}
use Rattle.session.proofs.ProductionLemmas.{toggled_here}
use Rattle.session.proofs.productions.toggle_all.Goals as goal

pub loop-name-preserved : goal.loop-name-preserved
loop-name-preserved c =
    ap (all_toggled c.args.rules.now (drop (c.loop-name.name-index + 1) c.args.given.now)) (c.toggle.ensures ∙ ap (λ o. toggled o c.loop-name.breaks.items) c.rule_named.ensures)
    ∙ sym (toggled_here c.args.rules.now c.args.given.now c.loop-name.name-index _ c.loop-name.breaks.items c.loop-name-test.true)
    ∙ c.loop-name.invariant
