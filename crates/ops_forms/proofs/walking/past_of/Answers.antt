use Rattle.std.proofs.Common.{sym}
use Rattle.ops_forms.proofs.Borders.{past_at_last}
use Rattle.ops_forms.proofs.walking.past_of.Goals as goal

pub returns-in-Some : goal.returns-in-Some
returns-in-Some c = sym (past_at_last 0 c.args.tokens.now c.in-Some.token.now (sym c.in-Some.ensures.value))
