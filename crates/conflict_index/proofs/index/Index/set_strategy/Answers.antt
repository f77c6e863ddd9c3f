use Rattle.std.proofs.Common.{List, ap, ◌∙◌}
use Rattle.std.specs.HashMap.{spare}
use Rattle.conflict_index.specs.Indexed.{Indexed, Member}
use Rattle.conflict_index.proofs.Kept.{told_anew, anew_view, anew_kept}
use Rattle.conflict_index.proofs.index.Index.set_strategy.Goals as goal

pub ranked_anew-requires : goal.ranked_anew-requires
ranked_anew-requires c =
    told_anew c.self.inside.strategy c.args.strategy c.self.inside.waiting.entries c.self.inside.fired.entries (spare c.self.inside.fired) c.self.invariant

pub invariant_of-self : goal.invariant_of-self
invariant_of-self c =
    anew_kept c.self.inside.strategy c.args.strategy c.self.inside.waiting.entries c.in_ok-self-inside.field-0.entries c.self.inside.fired.entries (spare c.self.inside.fired) c.self.invariant
    c.in_ok-self-inside.ensures.same c.in_ok-self-inside.ensures.ordered c.in_ok-self-inside.ensures.number

pub returns-clause-ok : goal.returns-clause-ok
returns-clause-ok c =
    ap (λ (ms : List Member). record { strategy = c.args.strategy; members = ms })
    (anew_view c.self.inside.strategy c.args.strategy c.self.inside.waiting.entries c.in_ok-self-inside.field-0.entries c.self.inside.fired.entries (spare c.self.inside.fired) c.self.invariant
    c.in_ok-self-inside.ensures.same)
    ∙ ap (λ (v : Indexed). record { strategy = c.args.strategy; members = v.members }) c.self.view_is
