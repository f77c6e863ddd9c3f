use Rattle.std.proofs.Common.{rules, arith, ◌≡◌, length, ap, ◌∙◌, sym}
use Rattle.std.specs.Mem.Slots.{slots_items, slots_len}
use Rattle.turn_table.proofs.Bounds.{reads, is_home, ends, before_reading}
use Rattle.turn_table.proofs.cells.Cells.close.Goals as goal

pub load-requires : goal.load-requires
load-requires g c = let is = c.requires.first.0 in let words = c.args.self.words in let some = c.args.self.some in (
  search rules,
  omega arith,
  reads _ _ _ _ _ _ _ _ record { in_use = is.0.in_use; not_ended = is.0.not_ended; holds_nothing = is.2; is_0 = is.0.same_number ∙ c.requires.first.1 } (is.0.same_apart ∙ c.requires.all_joined),
)

pub taken-requires-clause-home : goal.taken-requires-clause-home
taken-requires-clause-home g c = let is = c.requires.first.0 in let did = c.load.ensures.2 in
    let long : length (slots_items c.close_with.result.slots) ≡ slots_len c.close_with.result.slots = search rules in
    λ cell low. is_home _ _ _ _ _ _ _ _ record {
      in_use = ap (λ m. m.0.in_use) did ∙ is.0.in_use;
      holds_nothing = ap (λ m. m.0.held) did ∙ is.2;
      is_0 = ap (λ m. m.0.number) did ∙ (is.0.same_number ∙ c.requires.first.1);
      alone = ap (λ m. m.0.apart) did ∙ (is.0.same_apart ∙ c.requires.all_joined);
    }
    c.close_with.ensures.values.2 cell (omega arith)

pub returns-clause-log : goal.returns-clause-log
returns-clause-log g c = let is = c.requires.first.0 in let did = c.load.ensures.2 in
    let long : length (slots_items c.close_with.result.slots) ≡ slots_len c.close_with.result.slots = search rules in
    let many : length c.taken.result.items ≡ slots_len c.close_with.result.slots = search rules in
    before_reading _ _ _ c.args.pass.seat.me.0 c.load.new.seat.me.0 c.taken.result.items c.load.new.seat.me.0.log _ (ap (λ m. m.0) did) (ap (λ s. s.me.0.log) (sym c.of.ensures))
    (ends _ _ _ _ _ _ _ _ c.taken.result.items record {
      in_use = ap (λ m. m.0.in_use) did ∙ is.0.in_use;
      holds_nothing = ap (λ m. m.0.held) did ∙ is.2;
      is_0 = ap (λ m. m.0.number) did ∙ (is.0.same_number ∙ c.requires.first.1);
      alone = ap (λ m. m.0.apart) did ∙ (is.0.same_apart ∙ c.requires.all_joined);
    }
    (ap (λ m. m.0.ended) did)
    c.close_with.ensures.values.2
    (many ∙ sym long)
    c.taken.ensures.values)
