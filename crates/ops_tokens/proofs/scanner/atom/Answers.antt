use Rattle.std.proofs.Common.{List, ℕ, ◌∙◌, ap}
use Rattle.ops_tokens.specs.Numbers.{whole_value}
use Rattle.ops_tokens.specs.Tokens.{number}
use Rattle.ops_tokens.proofs.Atoms.{atom-whole, slice-run}
use Rattle.ops_tokens.proofs.scanner.atom.Goals as goal

pub returns-in-Whole : goal.returns-in-Whole
returns-in-Whole c =
    c.number.ensures
    ∙ ap (λ (s : List ℕ). number (whole_value s) c.args.first c.args.past) (slice-run c.args.text.now c.args.first c.args.past c.requires.run.end)
    ∙ atom-whole c.args.first c.args.past _ c.requires.run.end (rw c.in-Whole.is at c.requires.run.kind_is)
