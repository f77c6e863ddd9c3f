use Rattle.std.proofs.Common.{◌∙◌, sym, arith, subst}
use Rattle.scan_table.specs.Table.{Table, IsLongest}
use Rattle.ops_tokens.proofs.Runs.{FindsRow, finds_row, has_kind, kind-run}
use Rattle.ops_tokens.proofs.scanner.Scanner.run.Goals.{After-longest}
use Rattle.ops_tokens.proofs.scanner.Scanner.run.Goals as goal

found : (c : After-longest) → FindsRow c.args.text.now c.args.first c.longest.result
found c =
    finds_row c.args.text.now c.args.first c.requires (λ i. omega (arith, c.type_inv.text i)) c.longest.result
    (subst (λ (t : Table). IsLongest t c.args.text.now c.args.first c.longest.result) c.args.self.now.is_program_table c.longest.ensures)

pub returns-in_err-past : goal.returns-in_err-past
returns-in_err-past c = rw c.from_residual.ensures (rw c.in_err-past.was at (found (goal.at.returns-in_err-past c).After-longest))

pub returns-in_err-of_row : goal.returns-in_err-of_row
returns-in_err-of_row c = absurd (has_kind _ _ _ _ (rw c.in_ok-past.was at (found (goal.at.returns-in_err-of_row c).After-longest)) (sym c.of_row.ensures ∙ c.in_err-of_row.was))

pub returns : goal.returns
returns c = kind-run _ _ _ _ _ (rw c.in_ok-past.was at (found (goal.at.returns c).After-longest)) (sym c.of_row.ensures ∙ c.in_ok-of_row.was)
