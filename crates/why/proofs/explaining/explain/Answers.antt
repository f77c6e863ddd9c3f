use Rattle.std.proofs.Common.{◌≡◌, [], ◌∙◌, ap, arith, rules}
use Rattle.std.proofs.lemmas.Grind.{common_steps}
use Rattle.ops_base.specs.declared.conditions.Part.{Part}
use Rattle.ops_base.specs.ConflictSet.{matches_of}
use Rattle.ops_base.specs.WorkingMemory.{shown}
use Rattle.why.proofs.Explanations.{parts_bound, parts_missing, parts_found, parts_explained}
use Rattle.why.proofs.explaining.explain.Goals as goal

pub returns-then-is_empty-clause-explains : goal.returns-then-is_empty-clause-explains
returns-then-is_empty-clause-explains c =
    let all : matches_of (shown c.args.wm.now) c.parts_of-parts.result.now ≡ [] = first_of (grind (arith, common_steps), search rules) in
    let place = c.in_ok-place.ensures in
    parts_missing c.args.program.now.rules (shown c.args.wm.now) c.args.rule c.in_ok-place.place c.parts_of-parts.result.now c.parts_of-parts.ensures c.requires.there place.first place.last all place.none place.before

pub returns-then-is_empty-clause-computed : goal.returns-then-is_empty-clause-computed
returns-then-is_empty-clause-computed c =
    let all : matches_of (shown c.args.wm.now) c.parts_of-parts.result.now ≡ [] = first_of (grind (arith, common_steps), search rules) in
    parts_explained c.args.program.now.rules (shown c.args.wm.now) c.args.rule c.in_ok-place.place c.parts_of-parts.result.now c.parts_of-parts.ensures all c.in_ok-place.ensures.computed

pub returns-clause-explains : goal.returns-clause-explains
returns-clause-explains c =
    parts_bound c.args.program.now.rules (shown c.args.wm.now) c.args.rule c.parts_of-parts.result.now c.in_ok-found.found.items c.from_vec.result c.parts_of-parts.ensures c.requires.there c.requires.rising c.in_ok-found.ensures
    (λ none. first_of (grind (arith, common_steps), search rules)) (c.from_vec.ensures ∙ c.in_ok-insts.ensures)

pub returns-clause-computed : goal.returns-clause-computed
returns-clause-computed c =
    parts_found c.args.program.now.rules (shown c.args.wm.now) c.args.rule c.parts_of-parts.result.now c.in_ok-found.found.items c.from_vec.result c.parts_of-parts.ensures c.in_ok-found.ensures
    (λ none. first_of (grind (arith, common_steps), search rules)) (c.from_vec.ensures ∙ c.in_ok-insts.ensures)
