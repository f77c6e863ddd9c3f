use Rattle.back_trail.proofs.SoundLaws.{held_copy, rises_from}
use Rattle.back_trail.proofs.oldest.Oldest.copy_of.Goals as goal

pub store_of-requires : goal.store_of-requires
store_of-requires g c = rises_from (g.M.Matcher.stored c.args.state.now.matcher) c.store.result.now c.store.ensures c.last_tag-last.ensures.kept c.last_tag-last.ensures.above

pub invariant_of-result : goal.invariant_of-result
invariant_of-result g c =
    held_copy (g.M.Matcher.stored c.args.state.now.matcher) c.store.result.now c.in_ok-store.store c.last_tag-last.result c.last_tag-last.ensures.last c.last_tag-last.ensures.kept c.last_tag-last.ensures.above
    c.store.ensures c.in_ok-store.ensures.elements c.in_ok-store.ensures.last c.in_ok-marks-2.marks.keys c.in_ok-marks.field-0.items c.in_ok-marks-2.ensures c.in_ok-marks.ensures.in_order
