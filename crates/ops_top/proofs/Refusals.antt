-- A text that is refused.
use Rattle.std.proofs.Common.{◌≡◌, ℕ, List, ap, sym, ◌∙◌}
use Rattle.ops_base.specs.declared.endings.Fault.{Fault}
use Rattle.ops_io.specs.Coming.{Coming}
use Rattle.ops_jobs.specs.declared.jobs.Job.{Job}
use Rattle.ops_grammar.specs.Places.{line_of}
use Rattle.ops_top.specs.Whole.{refused_at, answer_read, answer_to}
use Rattle.ops_check.specs.declared.faults.ProgramFault.TheVariants as refusal
use Rattle.ops_check.specs.Answered.{IsRefusal}

-- a refusal is answered with its line and column, whatever the input is
pub refusal_is : (text : List ℕ) (f : Fault) (line column : ℕ) (job : Job) (coming : Coming) → IsRefusal text (refusal.At f line column) → refused_at f line column ≡ answer_to job coming text
refusal_is text f line column job coming p =
    ap (λ (n : ℕ). refused_at f n column) p.2 ∙ ap (refused_at f (line_of text p.0)) p.3 ∙ ap (answer_read job coming text) (sym p.1)
