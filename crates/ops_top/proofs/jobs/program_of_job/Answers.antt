use Rattle.ops_top.specs.Whole.{files_in}
use Rattle.ops_top.proofs.Contents.{contents_map}
use Rattle.ops_top.proofs.Runs.{files_reply, text_reply}
use Rattle.ops_top.proofs.jobs.program_of_job.Goals as goal

pub returns-in-Err-read_program-clause-fault : goal.returns-in-Err-read_program-clause-fault
returns-in-Err-read_program-clause-fault g c =
    contents_map (g.H.Shelf.told c.args.shelf.now) (files_in c.args.job.now) _ _ (λ contents e. text_reply c.in-Err-read_program.fault c.in-Ok.text.items c.args.job.now _ c.in-Err-read_program.ensures.fault e) c.in-Ok.ensures.text

pub returns-in-Err-clause-fault : goal.returns-in-Err-clause-fault
returns-in-Err-clause-fault g c =
    contents_map (g.H.Shelf.told c.args.shelf.now) (files_in c.args.job.now) _ _ (λ contents h. files_reply c.in-Err.fault c.args.job.now _ h) c.in-Err.ensures.fault
