-- One shard more has the lines up to the next one.
use Rattle.std.proofs.Common.{◌≡◌, ◌-◌, refl, subst, ◌∙◌, arith}
use Rattle.rounds_engine.specs.declared.shards.Shard.{Shard}
use Rattle.rounds_engine.specs.Sharing.{IsFirstLine}
use Rattle.rounds_engine.proofs.Boundaries.{first_at_end, first_rises, more_lines, no_lines}
use Rattle.rounds_engine.proofs.shards.bare_shards.Goals as goal

pub overflow_sub-next : goal.overflow_sub-next
overflow_sub-next c = first_rises c.args.shards c.args.lines c.loop-shard.shard c.loop-shard.first c.first_line-next.result c.loop-shard.invariant.begins c.first_line-next.ensures

pub loop-shard-init : goal.loop-shard-init
loop-shard-init c = no_lines c.args.shards c.args.lines c.new-bare.result.items c.new-bare.ensures.items

pub loop-shard-preserved : goal.loop-shard-preserved
loop-shard-preserved c =
    let y : Shard = record { number = c.loop-shard.shard; first = c.loop-shard.first; count = c.first_line-next.result - c.loop-shard.first; tasks = c.new.result } in
    more_lines c.args.shards c.args.lines c.loop-shard.shard c.loop-shard.first c.first_line-next.result c.loop-shard.bare.items c.push.new.self.items y c.loop-shard.invariant c.first_line-next.ensures refl refl c.new.ensures.items
    c.in_ok-push.ensures.items

pub returns-clause-lines : goal.returns-clause-lines
returns-clause-lines c =
    let s = c.args.shards in
    let lines = c.args.lines in
    let some = c.requires.some in
    let room = c.requires.room in
    let last : c.loop-shard.shard ≡ s = (let a = c.loop-shard-test.false in let b = c.loop-shard.auto.shard-end in omega (arith, a, b)) in
    c.loop-shard.invariant.total ∙ first_at_end s lines c.loop-shard.first (omega (arith, some)) (omega (arith, some, room)) (subst (λ k. IsFirstLine s lines k c.loop-shard.first) last c.loop-shard.invariant.begins)
