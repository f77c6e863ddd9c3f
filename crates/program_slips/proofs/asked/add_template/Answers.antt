use Rattle.std.proofs.Common.{◌++◌, ◌≤◌, length, sym, ap, ◌∙◌, arith}
use Rattle.std.proofs.lemmas.List.{append-nil}
use Rattle.std.proofs.lemmas.Option.{slice_get_past}
use Rattle.program_slips.specs.Asked.{asks_of_template}
use Rattle.program_slips.proofs.asked.add_template.Goals as goal

pub returns-in-None : goal.returns-in-None
returns-in-None c =
    let templates = c.args.templates.now in
    let asks = c.args.asks.now.items in
    let looked = c.in-None.ensures.lookup in
    let past : length templates ≤ c.args.template = omega (arith, looked) in
    let none = slice_get_past templates c.args.template past in
    sym (ap (λ o. asks ++ asks_of_template o) none ∙ append-nil asks)
