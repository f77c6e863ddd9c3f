-- What is kept of the token, by its place, and of every other token as before.
use Rattle.std.proofs.Common.{◌∙◌, OnOk, Result, Ok, Err, ap, bytes_eq, cond, sym}
use Rattle.token_line.specs.inner.Pairs.{cell_of}
use Rattle.token_line.proofs.PairLemmas.{place_missing, push_by_place, remove_by_place, same_by_place, set_by_place}
use Rattle.token_line.proofs.tokens.Tokens.put.Goals as goal

on_ok : {T E P Q : Type 0} (r : Result T E) → (P → Q) → OnOk r P → OnOk r Q
on_ok (Ok x) f h = f h
on_ok (Err e) f h = tt

pub push-requires-clause-absent : goal.push-requires-clause-absent
push-requires-clause-absent c = place_missing c.args.self.now c.args.token.now (sym c.requires.place ∙ c.in_default.is)

pub returns-in-Some-cell-clause-ok : goal.returns-in-Some-cell-clause-ok
returns-in-Some-cell-clause-ok c =
    on_ok c.push.result
    (λ more t. push_by_place c.args.self.now c.len-pairs.ensures.pairs c.args.token.now (sym c.requires.place ∙ c.in_default.is) c.in-Some-cell.cell c.push.new.self more t
    ∙ ap (λ o. cond (bytes_eq t c.args.token.now) o (cell_of c.args.self.now t)) (sym c.in-Some-cell.is))
    c.push.ensures.ok

pub returns-in-None-clause-ok : goal.returns-in-None-clause-ok
returns-in-None-clause-ok c = λ t.
    same_by_place c.args.self.now c.len-pairs.ensures.pairs c.args.token.now (sym c.requires.place ∙ c.in_default.is) t
    ∙ ap (λ o. cond (bytes_eq t c.args.token.now) o (cell_of c.args.self.now t)) (sym c.in-None.is)

pub returns-in-Some-cell-2-clause-ok : goal.returns-in-Some-cell-2-clause-ok
returns-in-Some-cell-2-clause-ok c = λ t.
    set_by_place c.args.self.now c.len-pairs.ensures.pairs c.args.token.now c.in-Some.place (sym c.requires.place ∙ c.in-Some.is) c.in-Some-cell-2.cell c.set.new.self c.set.ensures t
    ∙ ap (λ o. cond (bytes_eq t c.args.token.now) o (cell_of c.args.self.now t)) (sym c.in-Some-cell-2.is)

pub returns-in-None-cell-clause-ok : goal.returns-in-None-cell-clause-ok
returns-in-None-cell-clause-ok c = λ t.
    remove_by_place c.args.self.now c.len-pairs.ensures.pairs c.args.token.now c.in-Some.place (sym c.requires.place ∙ c.in-Some.is) c.remove.new.self c.remove.ensures t
    ∙ ap (λ o. cond (bytes_eq t c.args.token.now) o (cell_of c.args.self.now t)) (sym c.in-None-cell.is)
