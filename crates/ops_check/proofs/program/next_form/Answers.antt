use Rattle.ops_check.proofs.Texts.{lex_fault, stray_fault}
use Rattle.ops_check.proofs.program.next_form.Goals as goal

pub returns-in-Err-Lex : goal.returns-in-Err-Lex
returns-in-Err-Lex c = λ names s.
    let h = rw c.in-Err-Lex.field-0-is at c.in-Err-Lex.ensures in rw c.fault_of.ensures (lex_fault c.args.text.now names c.args.from s c.in-Err-Lex.fault h.0 h.1)

pub returns-in-Err-Stray : goal.returns-in-Err-Stray
returns-in-Err-Stray c = λ names s.
    let h = rw c.in-Err-Stray.field-0-is at c.in-Err-Stray.ensures in stray_fault c.args.text.now names c.args.from c.in-Err-Stray.at s h
