use Rattle.std.proofs.Common.{rules, arith, suc, append_assoc, ◌∷◌, [], sym, ◌∙◌}
use Rattle.ops_forms.proofs.words.words_of.Goals as goal

pub words-preserved : goal.words-preserved
words-preserved c =
    let e = c.in-Some.ensures.cases.0 in
    let words = rw e at c.words.invariant.words in
    let names = rw e at c.words.invariant.names in
    let lie = rw e at c.words.invariant.lie in
    record {
      words = words ∙ rw (c.in_ok-push.ensures.items, c.word_before.ensures, c.in_ok-word.ensures.word, c.in_ok-word.ensures.names) (sym (append_assoc _ (_ ∷ []) _));
      names = search rules;
      lie = λ k d lt. lie (suc k) d (omega (arith, lt));
    }
