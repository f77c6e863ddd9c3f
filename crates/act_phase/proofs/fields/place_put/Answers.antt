use Rattle.std.proofs.Common.{◌+◌, ap, refl, sym, length, drop, ◌∙◌, arith}
use Rattle.std.proofs.lemmas.List.{drop_all}
use Rattle.ops_meaning.specs.Acting.{terms_placed}
use Rattle.ops_meaning.specs.Effects.{silent}
use Rattle.act_phase.specs.State.{doing_of, filled_of}
use Rattle.act_phase.proofs.Deeds.{still_all, still_done}
use Rattle.act_phase.proofs.Placing.{placed_fits, term_ok, term_err, placed_ok, placed_err}
use Rattle.act_phase.specs.Asking.{term_asks}
use Rattle.act_phase.proofs.Asking.{none_at, both_then}
use Rattle.act_phase.proofs.fields.place_put.Goals as goal

pub loop-term-init : goal.loop-term-init
loop-term-init g c = record { does = still_all _ _ c.requires.whole; untouched = λ _. (refl, refl) }

pub returns-in_err-values-clause-does : goal.returns-in_err-values-clause-does
returns-in_err-values-clause-does g c =
    let l = c.loop-term in
    let items = c.as_slice-term-items.ensures in
    term_err c.args.doing.now.setting.classes c.args.doing.now c.args.put.now.terms l.at l.term-index c.term-item.result l.fields.items (rw items at c.loop-term-test.true) (rw items at c.term-item.is) l.invariant.does
    _ _ c.in_err-values.field-0.0 c.from_residual.ensures.1 c.in_err-values.ensures.does

pub returns-in_err-place_values-clause-does : goal.returns-in_err-place_values-clause-does
returns-in_err-place_values-clause-does g c =
    let l = c.loop-term in
    let items = c.as_slice-term-items.ensures in
    let evaluated = term_ok c.args.doing.now.setting.classes c.args.doing.now c.args.put.now.terms l.at l.term-index c.term-item.result l.fields.items (rw items at c.loop-term-test.true) (rw items at c.term-item.is) l.invariant.does
    c.in_ok-values.values c.in_ok-values.ensures.does in
    placed_err c.args.doing.now.setting.classes c.args.doing.now (drop (l.term-index + 1) c.args.put.now.terms) l.at l.fields.items c.in_ok-values.values c.as_slice.result.now c.as_slice.ensures evaluated
    (λ (x : Unit {0}). c.place_values.new.fields.items) _ _ c.in_err-place_values.field-0.0 c.from_residual-in_err-place_values.ensures.1 c.in_err-place_values.ensures

pub overflow_add-at : goal.overflow_add-at
overflow_add-at g c =
    let l = c.loop-term in
    let within = placed_fits c.as_slice.result.now l.fields.items c.place_values.new.fields.items l.at c.in_ok-place_values.ensures in
    let same = ap length (c.as_slice-in-loop-term.ensures ∙ sym c.as_slice.ensures) in
    omega (arith, within, same, l.auto.at-fits)

pub loop-term-preserved : goal.loop-term-preserved
loop-term-preserved g c =
    let l = c.loop-term in
    let items = c.as_slice-term-items.ensures in
    let evaluated = term_ok c.args.doing.now.setting.classes c.args.doing.now c.args.put.now.terms l.at l.term-index c.term-item.result l.fields.items (rw items at c.loop-term-test.true) (rw items at c.term-item.is) l.invariant.does
    c.in_ok-values.values c.in_ok-values.ensures.does in
    record {
      does = placed_ok c.args.doing.now.setting.classes c.args.doing.now (drop (l.term-index + 1) c.args.put.now.terms) l.at l.fields.items c.in_ok-values.values c.as_slice.result.now c.as_slice.ensures evaluated
          c.place_values.new.fields.items c.as_slice-in-loop-term.result.now c.in_ok-place_values.ensures c.as_slice-in-loop-term.ensures;
      untouched = λ none. both_then (l.invariant.untouched none) (c.in_ok-values.ensures.untouched (none_at term_asks c.args.put.now.terms l.term-index c.term-item.result (rw items at c.loop-term-test.true) (rw items at c.term-item.is) none));
    }

pub returns-in_err-values-clause-untouched : goal.returns-in_err-values-clause-untouched
returns-in_err-values-clause-untouched g c =
    let l = c.loop-term in
    let items = c.as_slice-term-items.ensures in
    λ none. both_then (l.invariant.untouched none) (c.in_err-values.ensures.untouched (none_at term_asks c.args.put.now.terms l.term-index c.term-item.result (rw items at c.loop-term-test.true) (rw items at c.term-item.is) none))

pub returns-in_err-place_values-clause-untouched : goal.returns-in_err-place_values-clause-untouched
returns-in_err-place_values-clause-untouched g c =
    let l = c.loop-term in
    let items = c.as_slice-term-items.ensures in
    λ none. both_then (l.invariant.untouched none) (c.in_ok-values.ensures.untouched (none_at term_asks c.args.put.now.terms l.term-index c.term-item.result (rw items at c.loop-term-test.true) (rw items at c.term-item.is) none))

pub returns-clause-does : goal.returns-clause-does
returns-clause-does g c =
    let l = c.loop-term in
    still_done _ l.invariant.does
    (λ d. ap (λ rest. silent (terms_placed c.args.doing.now.setting.classes l.at rest (filled_of l.fields.items (doing_of c.args.doing.now l.names d))))
    (drop_all l.term-index c.args.put.now.terms (rw c.as_slice-term-items.ensures at c.loop-term-test.false)))

pub returns-clause-untouched : goal.returns-clause-untouched
returns-clause-untouched g c = c.loop-term.invariant.untouched
