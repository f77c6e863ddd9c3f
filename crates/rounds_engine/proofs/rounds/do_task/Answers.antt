-- The line has one entry more, and the others are as they were.
use Rattle.std.proofs.Common.{◌-◌, ◌<◌, ap, get_or, length, arith}
use Rattle.activation.specs.Acting.{Acts}
use Rattle.rounds_engine.proofs.Results.{on_ok}
use Rattle.rounds_engine.proofs.Sharing.{acts_at, kept_set}
use Rattle.rounds_engine.proofs.rounds.do_task.Goals as goal

pub returns-clause-acts : goal.returns-clause-acts
returns-clause-acts c =
    let nodes = c.args.ground.now.net.now.nodes in
    let s = c.args.ground.now.store.now in
    let x = c.args.placed.now.task in
    let ls = c.args.lines.now in
    let k = c.args.placed.now.line - c.args.first in
    let old = get_or ls k c.index-lines-placed.result in
    let before = c.args.made.now.items in
    let now = c.activate_coded.new.out.items in
    let low : c.args.placed.now.line - c.args.first < length ls = (let a = c.requires.from in let b = c.requires.below in omega (arith, a, b)) in
    on_ok _ _ c.activate_coded.result (λ (acts : Acts nodes s x old c.activate_coded.new.line before now). acts_at nodes s x old c.activate_coded.new.line before now acts ls k low (ap (get_or ls k) c.index-lines-placed.is)) c.activate_coded.ensures.ok

pub returns-clause-kept : goal.returns-clause-kept
returns-clause-kept c =
    let ls = c.args.lines.now in
    let k = c.args.placed.now.line - c.args.first in
    let old = get_or ls k c.index-lines-placed.result in
    kept_set c.args.ground.now.net.now.nodes c.args.ground.now.store.now ls k old c.activate_coded.new.line c.requires.counted (ap (get_or ls k) c.index-lines-placed.is) c.activate_coded.ensures.counted c.activate_coded.ensures.number
