-- The results of small formulas and of predicates, as computed from the definitions.
use Rattle.std.proofs.Common.{refl}
use Rattle.run_laws.specs.Computing.{SumsAre, QuotientsAre, OperandsAre}
use Rattle.run_laws.specs.Predicates.{EqualityHolds, OrderHolds, KindHolds}

pub sums : SumsAre
sums = (refl, refl, refl, refl, refl, refl, refl, refl, refl, refl)

pub quotients : QuotientsAre
quotients = (refl, refl, refl, refl, refl, refl, refl, refl)

pub operands : OperandsAre
operands = (refl, refl, refl)

pub equality : EqualityHolds
equality = (((refl, refl, refl), (refl, refl, refl), (refl, refl)), (refl, refl, refl), (refl, refl, refl), (refl, refl))

pub order : OrderHolds
order = (((refl, refl, refl), (refl, refl, refl), (refl, refl)), ((refl, refl, refl), (refl, refl, refl), (refl, refl)), ((refl, refl, refl), (refl, refl, refl), (refl, refl)), (refl, refl, refl), (refl, refl, refl), (refl, refl))

pub kind : KindHolds
kind = ((refl, refl, refl), (refl, refl, refl), (refl, refl))
