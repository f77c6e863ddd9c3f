use Rattle.std.proofs.Common.{◌≡◌, drop}
use Rattle.ops_meaning.specs.Running.{all_toggled}
use Rattle.session.proofs.productions.toggle_all.Given as goal

abbrev pub invariant-loop-name : goal.invariant-loop-name
invariant-loop-name l = all_toggled l.rules (drop l.name-index l.given) l.breaks.items ≡ all_toggled l.rules l.given l.fn.breaks
