-- What fits is what fits the network and the store.
use Rattle.token_line.specs.Held.{TaskFits}
use Rattle.steal_engine.proofs.sharing.share.Given as goal

abbrev pub ghosts-share_picked : goal.ghosts-share_picked
ghosts-share_picked g a = record { fits = λ x. TaskFits a.net.now.nodes a.store.now x }
