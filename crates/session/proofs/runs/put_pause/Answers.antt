use Rattle.session.proofs.runs.put_pause.Goals as goal

pub returns-in-Halted : goal.returns-in-Halted
returns-in-Halted g c = record { puts = rw c.in-Halted.is c.put_line.ensures.puts }

pub returns-in-Broken : goal.returns-in-Broken
returns-in-Broken g c = record { puts = rw c.in-Broken.is c.put_name_line.ensures.puts }

pub returns-in-Counted : goal.returns-in-Counted
returns-in-Counted g c = record { puts = rw c.in-Counted.is c.put_line-in-Counted.ensures.puts }
