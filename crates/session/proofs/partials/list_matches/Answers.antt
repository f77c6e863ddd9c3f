use Rattle.std.proofs.Common.{refl, ◌∙◌, ap, [], false}
use Rattle.std.specs.List.{flat_map}
use Rattle.std.proofs.lemmas.Result.{err_from_is_err_and}
use Rattle.ops_meaning.specs.Running.{matches_told}
use Rattle.work_store.specs.Stored.{Stored}
use Rattle.session.specs.Courses.{meant_by}
use Rattle.session.proofs.Deeds.{listed, given_up}
use Rattle.session.proofs.UnderWay.{all_stored}
use Rattle.session.proofs.partials.list_matches.Goals as goal

pub returns-in_err-put_matches : goal.returns-in_err-put_matches
returns-in_err-put_matches g c =
    let p = err_from_is_err_and c.from_residual.result c.from_residual.ensures.1 in
    rw (p.1, p.2)
    (given_up g.M.Matcher.stored g.M.Matcher.stands_for c.args.program.now.rules c.args.names.now c.args.session c.args.session (λ z. refl) _ _
    (λ k. flat_map (matches_told k.course.names c.args.program.now.rules k.course.wm) c.args.given.now)
    (flat_map (matches_told c.args.names.now c.args.program.now.rules c.store.result.now.elements) c.as_slice-given.result.now)
    (λ z.
    ap (λ (x : Stored). flat_map (matches_told c.args.names.now c.args.program.now.rules x.elements) c.as_slice-given.result.now) c.store.ensures
    ∙ ap (flat_map (matches_told c.args.names.now c.args.program.now.rules (g.M.Matcher.stored c.args.session.state.matcher).elements)) c.as_slice-given.ensures
    ∙ ap (λ wm. flat_map (matches_told c.args.names.now c.args.program.now.rules wm) c.args.given.now) (all_stored g.M.Matcher.stored c.args.session c.args.names.now z c.requires.none_waits))
    c.in_err-put_matches.field-0.0 c.in_err-put_matches.ensures.reads c.in_err-put_matches.ensures.performs)

pub returns : goal.returns
returns g c =
    listed g.M.Matcher.stored g.M.Matcher.stands_for c.args.program.now.rules c.args.names.now c.args.session c.args.session (λ z. refl) _ _
    (λ k. flat_map (matches_told k.course.names c.args.program.now.rules k.course.wm) c.args.given.now)
    (flat_map (matches_told c.args.names.now c.args.program.now.rules c.store.result.now.elements) c.as_slice-given.result.now)
    (λ z.
    ap (λ (x : Stored). flat_map (matches_told c.args.names.now c.args.program.now.rules x.elements) c.as_slice-given.result.now) c.store.ensures
    ∙ ap (flat_map (matches_told c.args.names.now c.args.program.now.rules (g.M.Matcher.stored c.args.session.state.matcher).elements)) c.as_slice-given.ensures
    ∙ ap (λ wm. flat_map (matches_told c.args.names.now c.args.program.now.rules wm) c.args.given.now) (all_stored g.M.Matcher.stored c.args.session c.args.names.now z c.requires.none_waits))
    (c.in_ok-put_matches.ensures.performs (meant_by g.M.Matcher.stored c.args.program.now.rules c.args.session c.args.names.now (record { bytes = []; fails = false }))).1 c.requires.under_way
