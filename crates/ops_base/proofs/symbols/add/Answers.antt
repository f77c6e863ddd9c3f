use Rattle.std.proofs.Common.{ap, ◌∙◌}
use Rattle.std.specs.Prelude.{bytes_eq}
use Rattle.std.specs.List.{list_any}
use Rattle.ops_base.proofs.Held.{keys-new}
use Rattle.ops_base.proofs.symbols.add.Goals as goal

pub returns-clause-ok : goal.returns-clause-ok
returns-clause-ok c =
    let items = c.in_ok-copy.ensures.items in
    keys-new (λ v. v.items) (λ v. bytes_eq c.in_ok-copy.copy.items v.items) c.args.held.now.keys c.insert.new.self.keys c.in_ok-copy.copy c.args.spelling.now
    c.in_ok-insert.ensures.keys (ap (λ s. list_any (λ v. bytes_eq s v.items) c.args.held.now.keys) items ∙ c.requires) items
