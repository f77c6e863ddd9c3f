use Rattle.std.proofs.Common.{rules, arith, ◌≡◌, ℕ, length, get_or, ap, ◌∙◌, sym, Some, below_more, false, get_or-set_other}
use Rattle.std.specs.Mem.Slots.{slots_items, slots_len, slots_filled}
use mathlib.Core.Option.{some, some-injective}
use lib.ListN.{get_elem?}
use Rattle.atomic_table.proofs.Lists.{at_longer, at_last}
use Rattle.turn_table.specs.Log.{IsAt}
use Rattle.turn_table.proofs.Lists.{is_inside, same_some, set_false}
use Rattle.turn_table.proofs.closing.taken.Goals as goal

pub unreachable-requires : goal.unreachable-requires
unreachable-requires g c = let was = c.loop-cell.invariant in let slots = was.slots in let low = c.loop-cell-test.true in
    let end = c.slot_count-cell-end.ensures in
    let home = c.requires.home c.loop-cell.cell (omega arith) in
    c.in_default.not-Some home.0 (some-injective c.take.result (Some home.0) (sym c.take.ensures.value ∙ (ap (λ l. get_elem? l c.loop-cell.cell) was.items ∙ home.1)))

pub loop-cell-preserved : goal.loop-cell-preserved
loop-cell-preserved g c = let was = c.loop-cell.invariant in let i : ℕ = c.loop-cell.cell in let others = c.take.ensures.others in
    let pushed = c.push_reserved.ensures.items in record {
      left = λ k le low. ap (λ f. get_or f k false) others.1
          ∙ (get_or-set_other (slots_filled c.loop-cell.closed.slots) i k false false (λ e. omega arith) ∙ was.left k (omega arith) (let long = others.2 in omega arith));
      gone = λ k low. below_more (λ j. get_or (slots_filled c.take.new.self.slots) j false ≡ false) i
          (λ j below. ap (λ f. get_or f j false) others.1 ∙ (get_or-set_other (slots_filled c.loop-cell.closed.slots) i j false false (λ e. omega arith) ∙ was.gone j below))
          (ap (λ f. get_or f i false) others.1 ∙ set_false (slots_filled c.loop-cell.closed.slots) i) k low;
      items = others.0 ∙ was.items;
      slots = search rules;
      count = search rules;
      room = search rules;
      values = λ k value low. below_more (λ j. IsAt (slots_items c.args.closed.slots) j (Some value) → IsAt c.push_reserved.new.self.items j value) i
          (λ j below e. ap (λ l. get_elem? l j) pushed ∙ at_longer _ _ j value (was.values j value below e))
          (λ e. let same = same_some c.in-Some.value value (some-injective _ _ (sym c.in-Some.ensures.value ∙ (ap (λ l. get_elem? l i) was.items ∙ e))) in
          ap (λ l. get_elem? l i) pushed ∙ (at_last c.loop-cell.cells.items c.in-Some.value i (search rules) ∙ ap some same))
          k low;
    }

pub returns-clause-values : goal.returns-clause-values
returns-clause-values g c = let was = c.loop-cell.invariant in let slots = was.slots in let end = c.loop-cell-test.false in
    let last = c.slot_count-cell-end.ensures in
    λ k value e. was.values k value (let low = is_inside _ k _ e in let long : length (slots_items c.args.closed.slots) ≡ slots_len c.args.closed.slots = search rules in omega arith) e
