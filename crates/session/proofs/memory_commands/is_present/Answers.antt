use Rattle.std.proofs.Common.{◌∙◌}
use Rattle.session.proofs.Removals.{looked_up}
use Rattle.session.proofs.memory_commands.is_present.Goals as goal

pub returns : goal.returns
returns c = c.is_some.ensures ∙ looked_up c.args.store.now.elements c.args.tag c.get.result c.get.ensures
