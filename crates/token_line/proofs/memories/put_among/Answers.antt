-- The memory of the code is written, or comes new, and each other memory is as it was.
use Rattle.std.proofs.Common.{◌∙◌, ◌&&◌, ap, bytes_eq, cond, nat_eq, sym}
use Rattle.std.specs.Map.{lookup}
use Rattle.std.proofs.lemmas.Cmp.{nat_eq_equiv}
use Rattle.indexmap.specs.IndexMap.{set_value_at}
use Rattle.token_line.specs.Bags.{are_same_sides}
use Rattle.token_line.specs.declared.memory.CodeMemory.{CodeMemory}
use Rattle.token_line.specs.inner.Codes.{tokens_of}
use Rattle.token_line.specs.inner.Pairs.{cell_of, place_of}
use Rattle.token_line.specs.Sums.{side_of}
use Rattle.token_line.proofs.LineLemmas.{always_err, bare, put_seen, same_seen}
use Rattle.token_line.proofs.SmallMapLemmas.{found_at, missing_value, push_lookup, within_set, written_lookup}
use Rattle.token_line.proofs.memories.put_among.Goals as goal

pub put-requires-clause-place : goal.put-requires-clause-place
put-requires-clause-place c =
    let at = found_at (nat_eq c.args.spot.now.code) c.args.others.now c.in-Some.place c.value_mut.result.now (sym c.find.ensures ∙ c.in-Some.is) c.value_mut.ensures.value in
    c.requires.token ∙ ap (λ o. place_of (tokens_of o c.args.task.now.side) c.args.task.now.token) at

pub drop_if_empty-requires : goal.drop_if_empty-requires
drop_if_empty-requires c = within_set c.args.others.now c.in-Some.place c.value_mut.result.now c.put.new.self c.value_mut.ensures.value

pub push-requires : goal.push-requires
push-requires c = missing_value (nat_eq c.args.spot.now.code) c.args.others.now (sym c.find.ensures ∙ c.in-None.is)

pub returns-in_err-put-in-Some-clause-err : goal.returns-in_err-put-in-Some-clause-err
returns-in_err-put-in-Some-clause-err c =
    let code = c.args.spot.now.code in
    let old = c.args.others.now in
    let place = c.in-Some.place in
    let was = c.value_mut.result.now in
    let new = c.put.new.self in
    let is = sym c.find.ensures ∙ c.in-Some.is in
    let at = found_at (nat_eq code) old place was is c.value_mut.ensures.value in
    always_err c.from_residual.result
    (λ m s t. same_seen (λ q. lookup (nat_eq q) old) (λ q. lookup (nat_eq q) (set_value_at old place new)) code m (λ o. cell_of (tokens_of o s) t) was new
    (written_lookup nat_eq_equiv old place code new c.len-apart.ensures.apart is m) at (ap (λ (x : CodeMemory). cell_of (side_of x s) t) c.in_err-put-in-Some.ensures.err))

pub returns-in_ok-put-in-Some-clause-ok : goal.returns-in_ok-put-in-Some-clause-ok
returns-in_ok-put-in-Some-clause-ok c = λ m s t.
    let x = c.args.task.now in
    let code = c.args.spot.now.code in
    let old = c.args.others.now in
    let place = c.in-Some.place in
    let was = c.value_mut.result.now in
    let new = c.put.new.self in
    let is = sym c.find.ensures ∙ c.in-Some.is in
    let at = found_at (nat_eq code) old place was is c.value_mut.ensures.value in
    c.drop_if_empty.ensures m s t
    ∙ put_seen (λ q. lookup (nat_eq q) old) (λ q. lookup (nat_eq q) (set_value_at old place new)) code m (λ o. cell_of (tokens_of o s) t) new
    (are_same_sides s x.side && bytes_eq t x.token) c.args.cell (written_lookup nat_eq_equiv old place code new c.len-apart.ensures.apart is m)
    (c.in_ok-put-in-Some.ensures.ok s t ∙ ap (λ o. cond (are_same_sides s x.side && bytes_eq t x.token) c.args.cell (cell_of (tokens_of o s) t)) (sym at))

pub returns-in_ok-push-in-None-clause-ok : goal.returns-in_ok-push-in-None-clause-ok
returns-in_ok-push-in-None-clause-ok c = λ m s t.
    let x = c.args.task.now in
    let code = c.args.spot.now.code in
    let old = c.args.others.now in
    let fresh = c.put-in-None.new.self in
    let none = missing_value (nat_eq code) old (sym c.find.ensures ∙ c.in-None.is) in
    let own = are_same_sides s x.side && bytes_eq t x.token in
    let first = c.in_ok-put-in-None.ensures.ok s t ∙ ap (λ kept. cond own c.args.cell (cell_of kept t)) (bare c.new-memory.result c.new-memory.ensures.left c.new-memory.ensures.right s) in
    put_seen (λ q. lookup (nat_eq q) old) (λ q. lookup (nat_eq q) c.push.new.self) code m (λ o. cell_of (tokens_of o s) t) fresh own c.args.cell
    (ap (lookup (nat_eq m)) c.in_ok-push-in-None.ensures.ok ∙ push_lookup nat_eq_equiv old code fresh none m)
    (first ∙ ap (λ o. cond own c.args.cell (cell_of (tokens_of o s) t)) (sym none))
