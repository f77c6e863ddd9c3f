-- The slips of small texts, as the definitions compute them.
use Rattle.std.proofs.Common.{refl}
use Rattle.ops_tokens.specs.Tokens.{token_at}
use Rattle.ops_tokens.specs.Spellings.{is_operator, is_whole, is_fraction, is_variable}
use Rattle.ops_tokens.specs.Numbers.{decimal}
use Rattle.lint_rules.specs.SmallTexts.{SlipsAreFound, NoSlipIsFound}

pub found : SlipsAreFound
unfolding token_at is_operator is_whole is_fraction is_variable decimal
found = (refl, refl, refl, refl, refl, refl, refl, refl, refl, refl, refl, refl)

pub none : NoSlipIsFound
unfolding token_at is_operator is_whole is_fraction is_variable decimal
none = (refl, refl, refl, refl, refl, refl, refl, refl, refl)
