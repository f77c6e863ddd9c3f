use Rattle.std.proofs.Common.{◌≡◌, ℕ, List, [], get_or, subst, sym, ◌∙◌}
use Rattle.std.proofs.lemmas.List.{get_or_default}
use Rattle.std.proofs.lemmas.Bool.{false≢true}
use Rattle.scan_table.specs.Table.{AreBelow}
use Rattle.scan_table.proofs.dfa.are_rows_below.Goals as goal

pub returns-then-not-are_below : goal.returns-then-not-are_below
returns-then-not-are_below g c =
    let at : c.row-item.result ≡ get_or c.args.rows.now c.loop-row.row-index [] = c.row-item.is ∙ get_or_default c.args.rows.now c.loop-row.row-index c.row-item.result [] c.loop-row-test.true in
    (λ e. absurd (false≢true e), λ all. rw c.if-not-are_below.true at (c.are_below.ensures.1 (subst (λ (xs : List ℕ). AreBelow c.args.limit xs) (sym at) (all c.loop-row.row-index c.loop-row-test.true))))
