use Rattle.std.proofs.Common.{◌++◌, sym, ap, ◌∙◌, arith}
use Rattle.ops_grammar.specs.Words.{lexed, lexed_at}
use Rattle.program_slips.specs.Lone.{after_word, named_by, named_among, at_start}
use Rattle.program_slips.proofs.Walking.{all_lie, one_bracket, one_more}
use Rattle.program_slips.proofs.words.variables_in.Goals as goal

pub words-preserved : goal.words-preserved
words-preserved c =
    let text = c.args.text.now in
    let t = c.in-Some.token in
    let before = c.words.standing in
    let rest = (lexed_at text t.past).tokens in
    let next = c.after_word-standing.ensures ∙ ap (after_word t.kind before) c.spelling_of.ensures in
    let stands = c.in-Some.ensures.1 in
    let bracket = one_bracket t.kind before c.spelling_of.result.now in
    let formula = ap (λ s. s.formula) c.after_word-standing.ensures in
    let formula_before = c.words.invariant.formula in
    let begins = stands.begins in
    let some = stands.some in
    record {
      named = one_more text before c.after_word-standing.result t (lexed_at text c.words.from).tokens rest (named_among text at_start (lexed text).tokens) c.words.named.items c.note.new.named.items
          c.words.invariant.named c.in-Some.ensures.0 c.in_ok-note.ensures
          (ap (λ x. named_by t.kind before t.first t.past ++ named_among text x rest) (sym next));
      formula = omega (arith, bracket, formula, formula_before, begins, some);
      inside = stands.lies.within;
      within = all_lie text before t c.words.named.items c.note.new.named.items c.in_ok-note.ensures stands.lies c.words.invariant.within;
    }
