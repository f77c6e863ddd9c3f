-- What a test binds comes after what was bound before.
use Rattle.std.proofs.Common.{◌≡◌, ◌≤◌, List, ◌++◌, length, take, ap, ◌∙◌, arith}
use Rattle.std.proofs.lemmas.List.{length-take, take-append-le}
use Rattle.ops_base.specs.declared.conditions.Operand.{Operand}
use Rattle.ops_base.specs.declared.conditions.Operand.TheVariants.{Constant, OneOf, Variable}
use Rattle.net_base.specs.declared.normal.Binder.{Binder}
use Rattle.net_base.specs.declared.normal.Origin.{Origin}
use Rattle.net_base.specs.Normal.{binders_with}

-- the first binders stay the first where more come after them
first-append : (firsts binders more : List Binder) → take (length firsts) binders ≡ firsts → take (length firsts) (binders ++ more) ≡ firsts
first-append firsts binders more h =
    let enough : length firsts ≤ length binders = omega (arith, length-take (length firsts) binders, ap length h) in
    take-append-le (length firsts) binders more enough ∙ h

-- the first binders stay the first where an operand is bound
pub still_first : (firsts binders : List Binder) (operand : Operand) (origin : Origin)
    → take (length firsts) binders ≡ firsts → take (length firsts) (binders_with binders operand origin) ≡ firsts
still_first firsts binders (Constant value) origin h = h
still_first firsts binders (OneOf values) origin h = h
still_first firsts binders (Variable variable) origin h = first-append firsts binders _ h
