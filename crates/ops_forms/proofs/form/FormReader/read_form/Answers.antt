use Rattle.std.proofs.Common.{sym}
use Rattle.ops_forms.proofs.Reading.{stray_token, no_token}
use Rattle.ops_forms.proofs.form.FormReader.read_form.Goals as goal

pub returns-in_default : goal.returns-in_default
returns-in_default c =
    let said = rw c.in-Ok-Some.field-0-is at c.in-Ok-Some.ensures in
    stray_token c.args.text.now c.args.from c.in-Ok-Some.token c.requires (sym said.token) c.in_default.not-Left

pub returns-in-Err : goal.returns-in-Err
returns-in-Err c = rw c.no_form.ensures (no_token c.args.text.now c.args.from c.in-Err.fault (sym c.in-Err.ensures.token))
