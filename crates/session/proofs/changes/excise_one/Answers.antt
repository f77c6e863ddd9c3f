use Rattle.std.proofs.Common.{◌∙◌, ap, sym, subst, refl, List, ℕ}
use Rattle.std.proofs.lemmas.Result.{err_from_is_err_and}
use Rattle.ops_base.specs.declared.rules.Rule.{Rule}
use Rattle.ops_io.specs.Ports.{Put, Stopped, port}
use Rattle.ops_io.specs.declared.stop.Stop.TheVariants as stop
use Rattle.ops_meaning.specs.Layout.{unknown_line}
use Rattle.ops_meaning.specs.Running.{rule_named}
use Rattle.live_rules.specs.Moves.{without_any}
use Rattle.session.specs.declared.session.Session.{Session}
use Rattle.session.proofs.Lines.{one_line}
use Rattle.session.proofs.Changing.{told_unknown, untold_unknown, excise_short, taken_known, taken_meant, taken_under_way}
use Rattle.session.proofs.changes.excise_one.Goals as goal

pub returns-in_err-session-in-Some : goal.returns-in_err-session-in-Some
returns-in_err-session-in-Some g c =
    let p = err_from_is_err_and c.from_residual.result c.from_residual.ensures.1 in
    rw p.1
    (excise_short g.M.Matcher.stored g.M.Matcher.stands_for c.args.live.now.program c.args.names.now c.args.session c.requires.under_way c.args.name c.args.live.now.program p.0 _ p.2 c.requires.whole)

pub returns-in_ok-session-in-Some : goal.returns-in_ok-session-in-Some
returns-in_ok-session-in-Some g c =
    let known = sym (c.rule_named.ensures ∙ ap (λ (rs : List Rule). rule_named rs c.args.name) c.as_slice.ensures) ∙ c.in-Some.is in
    let apart = c.in_ok-session-in-Some.ensures in
    let taken = c.excise-number.ensures in
    let cut = c.without_any-breaks.ensures ∙ ap (λ (s : Session g.row.M.Denot g.row.M-Hand.Denot). without_any c.excise-number.result s.breaks) apart.session in
    taken_known g.M.Matcher.stored g.M.Matcher.stands_for c.args.live.now.program c.args.names.now c.args.session c.requires.under_way c.args.name c.excise-number.new.self.program _ _ c.in-Some.field-0 known c.requires.whole
    (taken_meant g.M.Matcher.stored g.M.Matcher.stands_for c.args.live.now.program c.excise-number.new.self.program c.args.session c.in_ok-session-in-Some.session c.in_ok-session-in-Some.moved c.args.name c.excise-number.result
    apart.session taken.number c.excise-number.new.moved taken.moved apart.meant apart.under_way c.without_any-breaks.result cut taken.program.rules_are)
    (taken_under_way g.M.Matcher.stored g.M.Matcher.stands_for c.args.live.now.program c.excise-number.new.self.program c.args.session c.in_ok-session-in-Some.session c.in_ok-session-in-Some.moved c.args.name c.excise-number.result
    apart.session taken.number c.excise-number.new.moved taken.moved apart.meant apart.under_way c.without_any-breaks.result cut taken.program.rules_are)
    (let q = taken.program in record { rules_are = refl; commands_are = q.commands_are; classes = q.classes; templates = q.templates; text = q.text })

pub returns-in_err-put_name_line-in-None : goal.returns-in_err-put_name_line-in-None
returns-in_err-put_name_line-in-None g c =
    let unknown = sym (c.rule_named.ensures ∙ ap (λ (rs : List Rule). rule_named rs c.args.name) c.as_slice.ensures) ∙ c.in-None.is in
    let p = err_from_is_err_and c.from_residual-in_err-put_name_line-in-None.result c.from_residual-in_err-put_name_line-in-None.ensures.1 in
    let a = port (g.K.Sink.taken c.args.sink.now) (g.K.Sink.faults c.args.sink.now) c.args.out.now in
    let b = port (g.K.Sink.taken c.put_name_line.new.sink) (g.K.Sink.faults c.put_name_line.new.sink) c.put_name_line.new.out in
    let P : List ℕ → Type 0 = Stopped stop.Write a b in
    rw p.1
    (untold_unknown g.M.Matcher.stored g.M.Matcher.stands_for c.args.live.now.program c.args.names.now c.args.session c.requires.under_way c.args.name p.0 a b p.2 unknown
    (subst P (sym (one_line a.out.column (unknown_line c.args.names.now c.args.name))) c.in_err-put_name_line-in-None.ensures.puts))

pub returns-in_ok-put_name_line-in-None : goal.returns-in_ok-put_name_line-in-None
returns-in_ok-put_name_line-in-None g c =
    let unknown = sym (c.rule_named.ensures ∙ ap (λ (rs : List Rule). rule_named rs c.args.name) c.as_slice.ensures) ∙ c.in-None.is in
    let a = port (g.K.Sink.taken c.args.sink.now) (g.K.Sink.faults c.args.sink.now) c.args.out.now in
    let b = port (g.K.Sink.taken c.put_name_line.new.sink) (g.K.Sink.faults c.put_name_line.new.sink) c.put_name_line.new.out in
    let P : List ℕ → Type 0 = Put a b in
    told_unknown g.M.Matcher.stored g.M.Matcher.stands_for c.args.live.now.program c.args.names.now c.args.session c.requires.under_way c.args.name a b unknown
    (subst P (sym (one_line a.out.column (unknown_line c.args.names.now c.args.name))) c.in_ok-put_name_line-in-None.ensures.puts)
