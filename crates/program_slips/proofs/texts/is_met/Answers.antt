-- A key is found by its spelling.
use Rattle.std.proofs.Common.{sym, ◌∙◌}
use Rattle.std.specs.Prelude.{bytes_eq}
use Rattle.ops_base.proofs.Fresh.{any-map}
use Rattle.program_slips.proofs.texts.is_met.Goals as goal

pub returns : goal.returns
returns c =
    c.contains.ensures ∙ sym (any-map (λ v. v.items) (λ s. bytes_eq c.args.text.now s) c.args.texts.now.keys)
