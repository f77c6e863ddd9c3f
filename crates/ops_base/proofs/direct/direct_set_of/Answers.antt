-- What is computed is the conflict set.
use Rattle.std.proofs.Common.{◌∙◌, ap}
use Rattle.ops_base.specs.WorkingMemory.{shown}
use Rattle.ops_base.specs.ConflictSet.{conflict_set}
use Rattle.ops_base.proofs.ConflictSetLaws.{computed_is, computed_only, computed_of}
use Rattle.ops_base.proofs.direct.direct_set_of.Goals as goal

pub returns-clause-set : goal.returns-clause-set
returns-clause-set c = λ rising.
    computed_is c.args.program.now.rules (shown c.args.wm.now) c.from_vec.result rising
    (c.from_vec.ensures ∙ c.in_ok-found.ensures ∙ ap (λ rules. conflict_set rules (shown c.args.wm.now)) c.as_slice.ensures)

pub returns-clause-only : goal.returns-clause-only
returns-clause-only c = λ rising.
    computed_only c.args.program.now.rules (shown c.args.wm.now) c.from_vec.result rising
    (c.from_vec.ensures ∙ c.in_ok-found.ensures ∙ ap (λ rules. conflict_set rules (shown c.args.wm.now)) c.as_slice.ensures)

pub returns-clause-rules : goal.returns-clause-rules
returns-clause-rules c =
    computed_of c.args.program.now.rules (shown c.args.wm.now) c.from_vec.result
    (c.from_vec.ensures ∙ c.in_ok-found.ensures ∙ ap (λ rules. conflict_set rules (shown c.args.wm.now)) c.as_slice.ensures)
