use Rattle.std.proofs.Common.{map, take, ap, ◌∙◌}
use Rattle.ops_base.specs.declared.direct.Partial.{Partial}
use Rattle.ops_base.specs.ConflictSet.{matches_of}
use Rattle.ops_base.specs.WorkingMemory.{shown}
use Rattle.why.proofs.PartialMatches.{up_to}
use Rattle.why.proofs.partials.upto.Goals as goal

pub returns-clause-all : goal.returns-clause-all
returns-clause-all c =
    let first = ap (take c.args.k) c.parts_of.ensures in
    up_to c.args.program.now.rules (shown c.args.wm.now) c.args.rule c.args.k c.from_vec.result c.requires.there c.requires.rising
    (c.from_vec.ensures ∙ c.in_ok-tags.ensures ∙ ap (map (λ (p : Partial). p.tags)) (c.in_ok-found.ensures ∙ ap (matches_of (shown c.args.wm.now)) first))

pub returns-clause-computed : goal.returns-clause-computed
returns-clause-computed c =
    let first = ap (take c.args.k) c.parts_of.ensures in
    c.from_vec.ensures ∙ c.in_ok-tags.ensures ∙ ap (map (λ (p : Partial). p.tags)) (c.in_ok-found.ensures ∙ ap (matches_of (shown c.args.wm.now)) first)
