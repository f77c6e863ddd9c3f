-- One token more is looked at.
use Rattle.std.proofs.Common.{◌<◌, ◌++◌, length, sym, ap, ◌∙◌, arith}
use Rattle.ops_tokens.specs.Tokens.{spelling}
use Rattle.ops_grammar.specs.Words.{lexed_at}
use Rattle.lint_rules.specs.Slips.{after, slip_of, slips_among, slips_of, warnings_of}
use Rattle.lint_rules.proofs.Walking.{all_lie, one_bracket, one_more, one_noted}
use Rattle.lint_rules.proofs.walk.word_slips.Goals as goal

pub words-preserved : goal.words-preserved
words-preserved c =
    let text = c.args.text.now in
    let t = c.in-Some.token in
    let before = c.words.context in
    let rest = (lexed_at text t.past).tokens in
    let spelled = c.spelling_of-spelling.ensures in
    let slip = c.slip_of-slip.ensures ∙ ap (slip_of t.kind before) spelled in
    let next = c.after-context.ensures ∙ ap (after t.kind before) spelled in
    let stands = c.in-Some.ensures.1 in
    let bracket = one_bracket t.kind before c.spelling_of-spelling.result.now in
    let depth = ap (λ n. n.depth) c.after-context.ensures in
    let depth_before = c.words.invariant.depth in
    let begins = stands.begins in
    let some = stands.some in
    let count = c.len.ensures in
    let test = c.words-test.true in
    let room : length c.words.found.items < c.args.most = omega (arith, count, test) in
    record {
      found = one_more text before t (lexed_at text c.words.from).tokens rest (slips_of text) c.words.found.items c.note.new.found.items c.slip_of-slip.result c.words.invariant.found c.in-Some.ensures.0 c.in_ok-note.ensures c.after-context.result
          (ap (λ s. warnings_of t s ++ slips_among text (after t.kind before (spelling text t)) rest) (sym slip) ∙ ap (λ x. warnings_of t c.slip_of-slip.result ++ slips_among text x rest) (sym next));
      within = stands.lies.within;
      depth = omega (arith, bracket, depth, depth_before, begins, some);
      places = all_lie text t c.slip_of-slip.result c.words.found.items c.note.new.found.items c.in_ok-note.ensures stands.lies c.words.invariant.places;
      few = one_noted t c.slip_of-slip.result c.words.found.items c.note.new.found.items c.args.most c.in_ok-note.ensures room;
    }
