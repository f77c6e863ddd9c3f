-- What the keys' comparison says of the instantiations.
use Rattle.std.proofs.Common.{◌∙◌}
use Rattle.resolution.proofs.KeyLaws.{compare_keys_total, compare_keys-compare_insts, compare_insts_says, compare_insts_equal}
use Rattle.resolution.proofs.compare.Goals as goal

pub returns-clause-dominance : goal.returns-clause-dominance
returns-clause-dominance c = λ rules i j a b.
    compare_insts_says c.args.strategy rules i j c.compare_by.result
    (c.compare_by.ensures ∙ compare_keys-compare_insts c.args.strategy rules i j c.args.a.now c.args.b.now a b)

pub returns-clause-equal : goal.returns-clause-equal
returns-clause-equal c = λ rules i j a b.
    compare_insts_equal c.args.strategy rules i j c.compare_by.result
    (c.compare_by.ensures ∙ compare_keys-compare_insts c.args.strategy rules i j c.args.a.now c.args.b.now a b)

pub returns-clause-instantiations : goal.returns-clause-instantiations
returns-clause-instantiations c = λ rules i j a b.
    c.compare_by.ensures ∙ compare_keys-compare_insts c.args.strategy rules i j c.args.a.now c.args.b.now a b

pub returns-clause-total_order : goal.returns-clause-total_order
returns-clause-total_order c = compare_keys_total c.args.strategy
