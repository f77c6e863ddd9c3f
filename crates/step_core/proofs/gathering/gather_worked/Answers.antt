-- What the lines that have entries moved is all that moved.
use Rattle.std.proofs.Common.{List, map, subst}
use Rattle.step_core.specs.Worlds.{seen}
use Rattle.step_core.specs.declared.gathering.Moved.{Moved}
use Rattle.step_core.specs.inner.Gathering.{AreTold, moved_at}
use Rattle.step_core.proofs.WhatMoved.{told_gathered}
use Rattle.step_core.proofs.WorkedMoves.{all_within, worked_as_much, worked_within}
use Rattle.step_core.proofs.gathering.gather_worked.Goals as goal

pub look_over_places-requires : goal.look_over_places-requires
look_over_places-requires c = record { within = all_within c.args.lines.now c.args.worked.now c.requires.worked; told = c.requires.told }

pub returns : goal.returns
returns c =
    let net = c.args.net.now in
    let ls = c.args.lines.now in
    let worked = c.args.worked.now in
    let come = c.in_ok-gathered.gathered.come.items in
    let gone = c.in_ok-gathered.gathered.gone.items in
    told_gathered net.nodes net.alphas net.sound (map seen ls) c.requires.own (moved_at net.nodes (map seen ls) worked) (worked_within net.nodes ls worked c.requires.worked) (worked_as_much net.nodes ls worked c.requires.worked) come gone
    (subst (λ (ms : List Moved). AreTold ms come gone) c.in_ok-moved.ensures c.in_ok-gathered.ensures)
