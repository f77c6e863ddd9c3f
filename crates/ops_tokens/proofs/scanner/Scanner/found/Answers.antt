use Rattle.std.proofs.Common.{◌∙◌, ap}
use Rattle.ops_tokens.specs.Tokens.{token_at, standing}
use Rattle.ops_tokens.proofs.Atoms.{standing-end, standing-begun}
use Rattle.ops_tokens.proofs.scanner.Scanner.found.Goals as goal

pub returns-then-first-text : goal.returns-then-first-text
unfolding token_at
returns-then-first-text c = standing-end c.args.text.now c.gap_end-first.result c.if-first-text.true ∙ ap (standing c.args.text.now) c.gap_end-first.ensures.end

pub returns : goal.returns
unfolding token_at
returns c = c.begun.ensures ∙ standing-begun c.args.text.now c.gap_end-first.result c.if-first-text.false ∙ ap (standing c.args.text.now) c.gap_end-first.ensures.end
