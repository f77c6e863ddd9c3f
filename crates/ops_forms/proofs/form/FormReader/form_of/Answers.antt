use Rattle.std.proofs.Common.{sym, arith}
use Rattle.ops_forms.proofs.Reading.{open_first, open_more, closed_form, open_form, cut_form}
use Rattle.ops_forms.proofs.form.FormReader.form_of.Goals.{in-Ok-Some+in_ok-push-in-Ok-Some+then-depth-eq0, in-Ok-None, in-Err}
use Rattle.ops_forms.proofs.form.FormReader.form_of.Goals as goal

pub loop-token-init : goal.loop-token-init
loop-token-init c = rw (c.in_ok-push.ensures.items, c.in_ok-tokens.ensures.items) (open_first c.args.text.now c.args.left c.requires.opens c.requires.some c.requires.lies)

pub loop-token-preserved : goal.loop-token-preserved
loop-token-preserved c =
    let said = rw c.in-Ok-Some.field-0-is at c.in-Ok-Some.ensures in
    let behind = c.depth_behind-depth.ensures in
    rw (c.in_ok-push-in-Ok-Some.ensures.items, behind)
    (open_more c.args.text.now c.args.left c.loop-token.tokens.items c.loop-token.past c.loop-token.depth c.in-Ok-Some.token c.loop-token.invariant (sym said.token) (omega (arith, behind, c.if-depth-eq0.false)))

pub returns : goal.returns
returns c = elim c.match-next_token.branch [
  | in-Ok-Some+in_ok-push-in-Ok-Some+then-depth-eq0 w ↦
      let said = rw w.in-Ok-Some.field-0-is at w.in-Ok-Some.ensures in
      rw (w.tokens-is, w.past-is, w.end-is)
      (closed_form c.args.text.now c.args.left w.push-in-Ok-Some.new.self c.loop-token.tokens.items c.loop-token.past c.loop-token.depth w.in-Ok-Some.token
      w.in_ok-push-in-Ok-Some.ensures.items c.loop-token.invariant (sym said.token) (omega (arith, w.depth_behind-depth.ensures, w.if-depth-eq0.true)))
  | in-Ok-None w ↦
      let said = rw w.in-Ok-None.field-0-is at w.in-Ok-None.ensures in
      rw (w.tokens-is, w.past-is, w.end-is) (open_form c.args.text.now c.args.left c.loop-token.tokens c.loop-token.past c.loop-token.depth c.loop-token.invariant (sym said.token))
  | in-Err w ↦
      rw (w.tokens-is, w.past-is, w.end-is)
      (cut_form c.args.text.now c.args.left c.loop-token.tokens c.loop-token.past c.loop-token.depth w.in-Err.fault c.loop-token.invariant (sym w.in-Err.ensures.token))
]
