use Rattle.std.proofs.Common.{◌∙◌}
use Rattle.ops_base.specs.Names.{spellings}
use Rattle.program_slips.proofs.Walking.{lone_is}
use Rattle.program_slips.proofs.lone_words.lone_in.Goals as goal

pub returns-clause-lone : goal.returns-clause-lone
returns-clause-lone c =
    lone_is c.args.text.now c.as_slice-named.result.now c.in_ok-lone.lone.items (spellings c.in_ok-again.again.keys) c.in_ok-lone.ensures.lone c.in_ok-again.ensures
    (c.as_slice-named.ensures.value ∙ c.in_ok-found.ensures.named)
