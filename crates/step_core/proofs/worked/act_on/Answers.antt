-- The line that the task's code tells has one entry more, and the others are as they were.
use Rattle.std.proofs.Common.{◌≡◌, ◌<◌, ◌++◌, ◌∷◌, [], length, sym, ap, subst, ◌∙◌, arith}
use Rattle.std.proofs.lemmas.List.{get_or-set_same}
use Rattle.std.proofs.lemmas.List.Elements.{All-set}
use Rattle.work_store.specs.Stored.{held_of}
use Rattle.token_line.specs.declared.line.Line.{Line}
use Rattle.token_line.specs.Numbers.{line_number}
use Rattle.activation.specs.Acting.{IsCounted}
use Rattle.step_core.specs.inner.Worked.{AreWorked}
use Rattle.step_core.proofs.Activating.{acts_on, seen_same, numbers_same}
use Rattle.step_core.proofs.Results.{on_err}
use Rattle.step_core.proofs.WorkedLines.{worked_more, worked_same}
use Rattle.step_core.proofs.worked.act_on.Goals as goal

pub returns-clause-acts : goal.returns-clause-acts
returns-clause-acts g c =
    let net = c.args.net.now in
    let x = c.args.task.now in
    let lines = c.len.ensures ∙ c.args.lines.now.ok.0 in
    let low : c.place_of-place.result.line < length c.args.lines.now.items = (let b = c.place_of-place.ensures.below in omega (arith, b, lines)) in
    acts_on net.nodes c.args.store.now x c.requires.fits c.index_mut-line.result.now c.activate_coded.new.line c.args.out.now.items c.activate_coded.new.out.items c.in_ok-activate_coded.ensures.ok net.alphas net.sound
    c.args.lines.now.items c.place_of-place.result.line (c.place_of-place.ensures.line ∙ ap (λ n. line_number (held_of c.args.store.now) net.nodes n x.node x.side x.token) lines) low c.index_mut-line.ensures.value

pub returns-clause-told : goal.returns-clause-told
returns-clause-told g c =
    let ls = c.args.lines.now.items in
    let k = c.place_of-place.result.line in
    let lines = c.len.ensures ∙ c.args.lines.now.ok.0 in
    let low : k < length ls = (let b = c.place_of-place.ensures.below in omega (arith, b, lines)) in
    let read : c.index.result.now ≡ c.activate_coded.new.line = c.index.ensures ∙ get_or-set_same ls k c.activate_coded.new.line c.index.result.now low in
    let count = ap (λ (l : Line). length l.entries.items) read in
    let acts = c.in_ok-activate_coded.ensures.ok in
    worked_more ls k c.index_mut-line.result.now c.activate_coded.new.line c.args.worked.now.items c.requires.told low c.index_mut-line.ensures.value acts.entry acts.entries c.name_worked.new.worked.items
    (λ one. c.name_worked.ensures.first (count ∙ one) ∙ ap (λ w. w ++ k ∷ []) c.reserve.ensures.items) (λ many. c.name_worked.ensures.later (λ one. many (sym count ∙ one)) ∙ c.reserve.ensures.items)

pub returns-in_err-activate_coded-clause-told : goal.returns-in_err-activate_coded-clause-told
returns-in_err-activate_coded-clause-told g c =
    let ls = c.args.lines.now.items in
    let k = c.place_of-place.result.line in
    let lines = c.len.ensures ∙ c.args.lines.now.ok.0 in
    let low : k < length ls = (let b = c.place_of-place.ensures.below in omega (arith, b, lines)) in
    subst (AreWorked _) (sym c.reserve.ensures.items)
    (worked_same ls k c.index_mut-line.result.now c.activate_coded.new.line c.args.worked.now.items c.requires.told low c.index_mut-line.ensures.value (ap length c.in_err-activate_coded.ensures.same_entries))

pub returns-clause-counted : goal.returns-clause-counted
returns-clause-counted g c = All-set (IsCounted c.args.net.now.nodes c.args.store.now) c.args.lines.now.items c.place_of-place.result.line c.activate_coded.new.line c.activate_coded.ensures.counted c.requires.counted

pub returns-in_err-activate_coded-clause-counted : goal.returns-in_err-activate_coded-clause-counted
returns-in_err-activate_coded-clause-counted g c = All-set (IsCounted c.args.net.now.nodes c.args.store.now) c.args.lines.now.items c.place_of-place.result.line c.activate_coded.new.line c.activate_coded.ensures.counted c.requires.counted

pub returns-clause-numbers : goal.returns-clause-numbers
returns-clause-numbers g c = numbers_same c.args.lines.now.items c.place_of-place.result.line c.index_mut-line.result.now c.activate_coded.new.line c.index_mut-line.ensures.value c.activate_coded.ensures.number

pub returns-in_err-activate_coded-clause-numbers : goal.returns-in_err-activate_coded-clause-numbers
returns-in_err-activate_coded-clause-numbers g c = numbers_same c.args.lines.now.items c.place_of-place.result.line c.index_mut-line.result.now c.activate_coded.new.line c.index_mut-line.ensures.value c.activate_coded.ensures.number

pub returns-in_err-activate_coded-clause-same_seen : goal.returns-in_err-activate_coded-clause-same_seen
returns-in_err-activate_coded-clause-same_seen g c =
    on_err _ c.from_residual-in_err-activate_coded.result
    (seen_same c.args.lines.now.items c.place_of-place.result.line c.index_mut-line.result.now c.activate_coded.new.line c.index_mut-line.ensures.value c.in_err-activate_coded.ensures.same_sums c.in_err-activate_coded.ensures.same_entries)
