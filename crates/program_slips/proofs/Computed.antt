-- The variables of small productions, as the definitions compute them.
use Rattle.std.proofs.Common.{refl}
use Rattle.ops_tokens.specs.Tokens.{token_at}
use Rattle.ops_tokens.specs.Spellings.{is_operator, is_whole, is_fraction, is_variable}
use Rattle.ops_tokens.specs.Numbers.{decimal}
use Rattle.program_slips.specs.SmallTexts.{LoneAreFound}

pub lone_are_found : LoneAreFound
unfolding token_at is_operator is_whole is_fraction is_variable decimal
lone_are_found = (refl, refl, refl, refl, refl, refl, refl, refl, refl, refl)
