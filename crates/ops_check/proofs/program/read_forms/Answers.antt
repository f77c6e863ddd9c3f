use Rattle.std.proofs.Common.{◌∙◌}
use Rattle.ops_check.specs.Answered.{rest_of}
use Rattle.ops_check.specs.Walks.{view}
use Rattle.ops_check.proofs.Texts.{fault_comes, nothing_more}
use Rattle.ops_check.proofs.program.read_forms.Goals as goal

pub returns-in-Ok-None : goal.returns-in-Ok-None
returns-in-Ok-None c =
    let none = rw c.in-Ok-None.field-0-is at c.in-Ok-None.ensures in
    c.forms.invariant.so_far ∙ nothing_more c.args.text.now c.forms.names c.forms.from (view c.forms.draft) none

pub returns-in-Err : goal.returns-in-Err
returns-in-Err c =
    let rest = rest_of c.args.text.now c.forms.names c.forms.from (view c.forms.draft) in
    fault_comes c.args.text.now c.forms.from (rest_of c.args.text.now c.args.names.now 0 (view c.args.draft.now)) rest c.forms.names (view c.forms.draft) c.in-Err.fault c.forms.invariant.so_far c.in-Err.ensures
