use Rattle.std.proofs.Common.{rules}
use Rattle.std.proofs.lemmas.Map.Made.{map_same_pairs}
use Rattle.conflict_index.specs.Keeping.{marked_held}
use Rattle.conflict_index.proofs.standing.mark_in_place.Goals as goal

pub returns-clause-entries : goal.returns-clause-entries
returns-clause-entries c =
    map_same_pairs _ (marked_held c.args.inst.now) _ (λ k v b w f' t. search rules) _ _ c.retain.ensures.filtered
