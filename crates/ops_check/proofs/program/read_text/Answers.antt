use Rattle.std.proofs.Common.{arith, ◌∙◌, Ok}
use Rattle.ops_check.proofs.Texts.{reads_long, reads_first, answered}
use Rattle.ops_check.specs.Answered.{read_of}
use Rattle.ops_check.proofs.program.read_text.Goals as goal

pub returns-then-text-gt-LONGEST_TEXT : goal.returns-then-text-gt-LONGEST_TEXT
returns-then-text-gt-LONGEST_TEXT c = reads_long c.args.text.now (omega arith)

pub returns-in-Ok : goal.returns-in-Ok
returns-in-Ok c = reads_first c.args.text.now (omega arith) ∙ rw (c.in_ok-names.ensures, c.new-draft.ensures) at c.in-Ok.ensures

pub returns-in-Err : goal.returns-in-Err
returns-in-Err c = answered c.args.text.now _ _ (Ok (read_of c.read_forms.new.draft c.read_forms.new.names)) c.in-Err.fault c.in_ok-names.ensures c.new-draft.ensures (omega arith) c.in-Err.ensures
