use Rattle.std.proofs.Common.{◌≡◌, ℕ, ◌+◌, ◌<◌, List, ◌++◌, length, drop, ap, sym, ◌∙◌, arith}
use Rattle.ops_base.specs.WorkingMemory.{shown}
use Rattle.why_lines.specs.WhyLines.{lines_from, text_of}
use Rattle.why_lines.proofs.Sums.{rules_here}
use Rattle.why_lines.proofs.lines.why_text.Goals as goal

pub loop-rule-preserved : goal.loop-rule-preserved
loop-rule-preserved c =
    let rules = c.args.program.now.rules in
    let classes = c.args.program.now.classes in
    let wm = shown c.args.wm.now in
    let rule = c.loop-rule.rule in
    let lt : rule < length rules = omega (arith, c.len-rule-end.ensures, c.loop-rule-test.true) in
    ap (λ (w : List ℕ). w ++ text_of (lines_from c.args.names.now classes rules wm (rule + 1) (drop (rule + 1) rules))) c.in_ok-add_rule.ensures
    ∙ sym (rules_here c.args.names.now classes rules wm rule c.loop-rule.text.items lt)
    ∙ c.loop-rule.invariant
