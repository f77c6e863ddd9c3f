-- A key is found by what it spells.
use Rattle.std.proofs.Common.{sym, ◌∙◌}
use Rattle.std.specs.Prelude.{bytes_eq}
use Rattle.ops_base.proofs.Fresh.{any-map}
use Rattle.ops_base.proofs.symbols.is_held.Goals as goal

pub returns : goal.returns
returns c =
    c.contains.ensures ∙ sym (any-map (λ v. v.items) (λ s. bytes_eq c.args.spelling.now s) c.args.held.now.keys)
