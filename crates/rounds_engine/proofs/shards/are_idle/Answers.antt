-- One shard more has no task.
use Rattle.std.proofs.Common.{◌≡◌, ◌+◌, ◌<◌, ◌++◌, ◌∷◌, ◌==◌, List, [], true, length, take, sym, ap, ap₂, ◌∙◌, arith}
use Rattle.std.specs.Vec.{vec_len}
use Rattle.std.proofs.lemmas.Bool.Decides.{nat_tests}
use Rattle.std.proofs.lemmas.Grind.{flat_map-append}
use Rattle.std.proofs.lemmas.List.{nil_from_length, take_all, take_more}
use Rattle.net_base.specs.declared.tasks.Task.{Task}
use Rattle.rounds_engine.specs.declared.shards.Shard.{Shard}
use Rattle.rounds_engine.specs.Sharing.{tasks_in, tasks_of_shards}
use Rattle.rounds_engine.proofs.shards.are_idle.Goals as goal

pub loop-shard-preserved : goal.loop-shard-preserved
loop-shard-preserved c =
    let xs = c.args.shards.now in
    let i = c.loop-shard.shard-index in
    let x = c.shard-item.result in
    let low : i < length xs = (let a = c.loop-shard-test.true in omega (arith, a)) in
    let more : take i xs ++ x ∷ [] ≡ take (i + 1) xs = ap (λ (y : Shard). take i xs ++ y ∷ []) c.shard-item.is ∙ sym (take_more xs i x low) in
    let empty : (vec_len x.tasks == 0) ≡ true = grind (arith, c.is_empty.ensures, c.if-not-is_empty.false) in
    let none : x.tasks.items ≡ [] = nil_from_length x.tasks.items (sym x.tasks.ok.0 ∙ grind (arith, nat_tests, empty)) in
    ap tasks_of_shards (sym more)
    ∙ (flat_map-append (λ (y : Shard). tasks_in y.tasks.items) (take i xs) (x ∷ [])
    ∙ ap₂ (λ (a : List Task) (b : List Task). a ++ b) c.loop-shard.invariant (ap (λ ps. tasks_in ps ++ []) none))

pub returns : goal.returns
returns c = λ is.
    let xs = c.args.shards.now in
    ap tasks_of_shards (sym (take_all c.loop-shard.shard-index xs (let a = c.loop-shard-test.false in omega (arith, a)))) ∙ c.loop-shard.invariant
