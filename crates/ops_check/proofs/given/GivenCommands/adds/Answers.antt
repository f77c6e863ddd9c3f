use Rattle.std.proofs.Common.{◌==◌, List, is_some, ap, sym, ◌∙◌}
use Rattle.std.specs.List.{list_any}
use Rattle.ops_base.specs.declared.values.Sym.{Sym}
use Rattle.ops_base.specs.declared.commands.Command.{Command}
use Rattle.ops_grammar.specs.Grammar.{added_by, has_title}
use Rattle.ops_forms.proofs.Firsts.{list_any_position}
use Rattle.ops_check.proofs.Titles.{name_among}
use Rattle.ops_check.proofs.given.GivenCommands.adds.Goals as goal

pub returns : goal.returns
returns c =
    c.is_some.ensures
    ∙ ap is_some c.place_of.ensures
    ∙ sym (list_any_position (λ (s : Sym). s.0 == c.args.name.0) c.self.inside.added)
    ∙ ap (list_any (λ (s : Sym). s.0 == c.args.name.0)) c.self.invariant.2
    ∙ name_among c.args.name c.self.inside.list.items
    ∙ ap (λ (cs : List Command). has_title c.args.name (added_by cs)) c.self.view_is
