-- The token is kept only under its own code.
use Rattle.std.proofs.Common.{◌%◌, ◌∙◌, ap, slice_index, sym}
use Rattle.token_line.proofs.Coded.{coded_alone}
use Rattle.match_tests.proofs.lines.bring.Goals as goal

pub add-requires : goal.add-requires
add-requires c =
    let x = c.in_ok-task.task in
    coded_alone (λ t. slice_index t 0 % 3) c.args.line.now c.requires x.node (c.tag_at-code.result % 3) x.side x.token
    (ap (λ k. k % 3) (c.tag_at-code.ensures ∙ ap (λ t. slice_index t 0) (sym c.in_ok-task.ensures)))
