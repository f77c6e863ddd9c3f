use Rattle.std.proofs.Common.{rules, arith, ◌≡◌, ℕ, ◌*◌, ◌^◌, ◌<◌, length, get_or, ap, ◌∙◌, sym, refl, below_more}
use mathlib.Core.Option.{some-injective}
use lib.ListN.{get_elem?}
use Rattle.atomic_table.proofs.Lists.{at_index}
use Rattle.turn_table.specs.Log.{IsAt}
use Rattle.turn_table.proofs.Lists.{is_inside, all_at}
use Rattle.turn_table.proofs.opening.words_of.Goals as goal

pub overflow_mul-count : goal.overflow_mul-count
overflow_mul-count g c =
    let at = ap (λ l. get_elem? l c.loop-value.value-index) (sym c.deref-value-items.ensures.value)
    ∙ at_index _ c.loop-value.value-index c.value-item.result c.loop-value-test.true c.value-item.is in
    let room = all_at (λ value. length (g.T.Kept.entries value) < 2 ^ 63) c.args.values.now.items c.loop-value.value-index c.value-item.result c.requires at in let n = c.count.ensures in let small : c.count.result < 2 ^ 63 = omega arith in omega arith

pub loop-value-preserved : goal.loop-value-preserved
loop-value-preserved g c =
    let i : ℕ = c.loop-value.value-index in
    let all = c.push.new.self.items in
    let at = ap (λ l. get_elem? l i) (sym c.deref-value-items.ensures.value)
    ∙ at_index _ i c.value-item.result c.loop-value-test.true c.value-item.is in
    let was = c.loop-value.invariant in
    let by = c.in_ok-push.ensures.by_index in record {
      count = search rules;
      each = λ k x low. below_more (λ j. IsAt c.args.values.now.items j x → get_or all j 0 ≡ 2 * length (g.T.Kept.entries x)) i
          (λ j below e. by.0 j 0 (let n = was.count in omega arith) ∙ was.each j x below e)
          (λ e. let last : get_or all i 0 ≡ 2 * c.count.result = ap (λ n. get_or all n 0) (sym was.count) ∙ by.1 0 refl in last ∙ (ap (λ n. 2 * n) c.count.ensures ∙ ap (λ y. 2 * length (g.T.Kept.entries y)) (some-injective _ x (sym at ∙ e))))
          k low;
    }

pub returns-clause-each : goal.returns-clause-each
returns-clause-each g c = λ k x at. c.loop-value.invariant.each k x (let low = is_inside _ k x at in let n = ap length c.deref-value-items.ensures.value in let end = c.loop-value-test.false in omega arith) at
