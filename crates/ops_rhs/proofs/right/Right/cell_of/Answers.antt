use Rattle.std.proofs.Common.{◌≡◌, ◌∙◌, sym, ap, rules}
use Rattle.ops_grammar.specs.Grammar.{natural_of}
use Rattle.ops_rhs.specs.Taking.{seen, numbered_by}
use Rattle.ops_rhs.proofs.Designated.{numbered_is}
use Rattle.ops_rhs.proofs.right.Right.cell_of.Goals as goal

pub returns-in-Whole : goal.returns-in-Whole
returns-in-Whole c = λ s i.
    let n = natural_of c.in-Whole.number in
    let by : c.numbered_cell.result ≡ numbered_by n c.args.around.now.conditions.now = search rules in
    rw c.in-Whole.is (by ∙ ap (numbered_by n) (sym i.conditions) ∙ sym (numbered_is n (seen s c.args.self.now)))
