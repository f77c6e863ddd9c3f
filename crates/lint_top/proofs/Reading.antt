-- What is reported of a text that is a program.
use Rattle.std.proofs.Common.{◌≡◌, ℕ, List, Result, Ok, Err, sym, ap, ◌∙◌}
use Rattle.std.specs.Prelude.{IfOk}
use Rattle.ops_base.specs.declared.elements.Class.{Class}
use Rattle.ops_grammar.specs.Reads.{Read, Placed}
use Rattle.joined_files.specs.declared.parts.Part.{Part}
use Rattle.lint_top.specs.declared.remarks.Remark.{Remark}
use Rattle.lint_top.specs.Remarks.{remarks}
use Rattle.lint_top.specs.Report.{of_remarks, of_read}

pub if_more : {T E : Type 0} (P Q : T → Type 0) (r : Result T E) → IfOk r P → ((v : T) → P v → Q v) → IfOk r Q
if_more P Q (Ok v) h f = f v h
if_more P Q (Err e) h f = h

pub read_is : (names : List (List ℕ)) (text : List ℕ) (parts : List Part) (read : Result Read Placed) (p : Read) (classes : List Class) (found : List Remark)
    → read ≡ Ok p → classes ≡ p.classes → found ≡ remarks text p.classes p.rules p.templates p.commands
    → of_remarks names text parts p.names classes found ≡ of_read names text parts read
read_is names text parts read p classes found is same finds =
    ap (λ cs. of_remarks names text parts p.names cs found) same ∙ ap (λ rs. of_remarks names text parts p.names p.classes rs) finds
    ∙ ap (of_read names text parts) (sym is)
