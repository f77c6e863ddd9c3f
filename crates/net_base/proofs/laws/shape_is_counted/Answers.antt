-- The computed numbers are the shape, and the only one.
use Rattle.net_base.proofs.ShapeOf.{shape_is_counted-counted, shape_is_counted-one}
use Rattle.net_base.proofs.laws.shape_is_counted.Goals as goal

pub returns-clause-counted : goal.returns-clause-counted
returns-clause-counted c = shape_is_counted-counted

pub returns-clause-one : goal.returns-clause-one
returns-clause-one c = shape_is_counted-one
