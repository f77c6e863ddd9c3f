use Rattle.std.specs.Prelude.{ℕ, ◌∷◌, ◌++◌}
use Rattle.ops_base.specs.declared.commands.Command.TheVariants as command
use Rattle.run_laws.specs.Firings.{FindsAll}
use Rattle.run_laws.proofs.Seen.{firing_seen}
use Rattle.run_laws.proofs.Sessions.{each_firing_finds, each_firing_finds_anywhere, session_whole}
use Rattle.run_laws.proofs.laws.firings_find_what_they_name.Goals as goal

pub returns-clause-firings : goal.returns-clause-firings
returns-clause-firings c = each_firing_finds

pub returns-clause-any : goal.returns-clause-any
returns-clause-any c = λ s limit n before after count names coming k column i valid goes.
    (firing_seen (λ s column i m. (at : ℕ) → FindsAll s at i m) s limit n before after count names coming k i (each_firing_finds_anywhere s limit (before ++ command.Run count ∷ after) names coming valid) goes).1 column

pub returns-clause-elements : goal.returns-clause-elements
returns-clause-elements c = session_whole
