-- What came and what went are all that came and went.
use Rattle.std.proofs.Common.{List, map, refl, subst}
use Rattle.step_core.specs.Worlds.{seen}
use Rattle.step_core.specs.declared.gathering.Moved.{Moved}
use Rattle.step_core.specs.inner.Gathering.{AreTold}
use Rattle.step_core.proofs.WhatMoved.{told_gathered}
use Rattle.step_core.proofs.gathering.gather.Goals as goal

pub returns : goal.returns
returns c =
    let net = c.args.net.now in
    let come = c.in_ok-gathered.gathered.come.items in
    let gone = c.in_ok-gathered.gathered.gone.items in
    told_gathered net.nodes net.alphas net.sound (map seen c.args.lines.now) c.requires.own _ (λ m k. k) (λ i. refl) come gone
    (subst (λ (ms : List Moved). AreTold ms come gone) c.in_ok-moved.ensures c.in_ok-gathered.ensures)
