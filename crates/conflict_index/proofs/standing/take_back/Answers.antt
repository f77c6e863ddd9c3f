use Rattle.std.proofs.Common.{rules, not}
use Rattle.std.proofs.lemmas.Map.Made.{filter_same_pairs}
use Rattle.ops_base.specs.Refraction.{is_among}
use Rattle.conflict_index.proofs.standing.take_back.Goals as goal

pub returns-clause-entries : goal.returns-clause-entries
returns-clause-entries c =
    filter_same_pairs _ (λ e. not (is_among c.args.insts.now e.1.inst)) _ (λ k v b w f' t. search rules) _ _ c.retain.ensures.filtered
