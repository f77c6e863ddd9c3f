use Rattle.std.proofs.Common.{rules, ◌∙◌}
use Rattle.turn_table.proofs.Parts.{splits}
use Rattle.turn_table.proofs.cells.Cells.split.Goals as goal

pub split_seat-seat-requires : goal.split_seat-seat-requires
split_seat-seat-requires g c = let is = c.requires.first.0 in let words = c.args.self.now.words in
    let some = c.args.self.now.some in
    (search rules, search rules, splits _ _ _ _ _ _ record { in_use = is.0.in_use; not_ended = is.0.not_ended; holds_nothing = is.2; is_0 = is.0.same_number ∙ c.requires.first.1 })
