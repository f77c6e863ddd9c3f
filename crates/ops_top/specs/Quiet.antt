-- Whether a program asks for an atom of the input: where none does, the input is left alone.
use Rattle.std.specs.Prelude.{ℕ, List, Bool, false, Option, option_map, unwrap_or, Result, Ok, Err}
use Rattle.act_phase.specs.Asking.{session_asks}
use Rattle.ops_grammar.specs.Reads.{Read, Placed, reads}
use Rattle.ops_jobs.specs.CommandLine.{job_of}
use Rattle.ops_top.specs.Whole.{Gathered, Joined, gathered_for, readable}

-- The text is a program, and `accept` stands in it: in a production that stands before the commands, in one that a
-- command adds, or in one that an action builds.
abbrev pub text_asks : Result Read Placed → Bool
text_asks (Ok p) = session_asks p.rules p.templates p.commands
text_asks (Err p) = false

-- so is what the text of a job comes to
abbrev pub gathered_asks : Gathered → Bool
gathered_asks (Joined text) = text_asks (reads text)
gathered_asks g = false

-- The words fit, and what their files or their workload come to is such a program, where the files have these contents
-- and the load of this number failed.
abbrev pub words_ask : List (List ℕ) → List (Option (List ℕ)) → Option ℕ → Bool
words_ask words contents broken = unwrap_or (option_map (λ job. gathered_asks (gathered_for job (readable contents broken))) (job_of words)) false
