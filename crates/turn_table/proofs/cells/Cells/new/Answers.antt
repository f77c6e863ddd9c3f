use Rattle.std.proofs.Common.{rules, ℕ, List, ap, sym, subst, Option}
use Rattle.atomic_table.specs.Table.{opening}
use Rattle.turn_table.specs.Views.{opened}
use Rattle.turn_table.specs.Rule.{Keeps}
use Rattle.turn_table.proofs.Bounds.{starts}
use Rattle.turn_table.proofs.cells.Cells.new.Goals as goal

pub new-requires : goal.new-requires
new-requires g c = let key = ap (λ v. v.items) c.of-first.ensures in let words = c.as_slice.ensures.value in
    let slots = c.in_ok-slots.ensures in
    subst (λ (t : List g.row.T.Denot × List ℕ × List (Option g.row.T.Denot)). Keeps g.T.Kept.entries g.T.Kept.name g.T.Kept.signature t.0 (opening t.1 t.2 (opened t.0))) (λ i. (sym key i, sym words i, sym slots i))
    (starts g.T.Kept.entries g.T.Kept.name g.T.Kept.signature c.args.values.items c.in_ok-words.words.items (search rules) c.in_ok-words.ensures.each c.requires.unsigned)
