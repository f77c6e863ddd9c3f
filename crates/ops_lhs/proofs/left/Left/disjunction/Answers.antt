use Rattle.std.proofs.Common.{◌≡◌, ◌<◌, ◌+◌, ◌∷◌, ◌++◌, ◌∙◌, sym, ap, Some, false, take, drop, arith}
use Rattle.std.proofs.lemmas.Result.{err_from_is_err_and}
use Rattle.ops_grammar.specs.Grammar.{State, Next, Choice, after, goes, atom_of, closes_choice, constant_by, with_choice_of}
use Rattle.ops_forms.specs.PlaceWalks.{goes_onward}
use Rattle.ops_forms.proofs.Walks.{fails_as_among}
use Rattle.ops_lhs.specs.Taking.{seen, IsAround}
use Rattle.ops_lhs.proofs.Ways.{choice_first, choice_onward, choice_added, constant_fails}
use Rattle.ops_lhs.proofs.left.Left.disjunction.Goals as goal

pub choices-preserved : goal.choices-preserved
choices-preserved c =
    let w = c.in_ok-word.word in
    let words = c.args.words.now in
    let f = c.args.field in
    let v = c.in-Some.value in
    let old = c.choices.self in
    let is : atom_of w.kind w.name ≡ Some v = sym c.atom_of.ensures ∙ c.in-Some.is in
    let goes_on : closes_choice w.keyword ≡ false = sym c.closes_choice.ensures ∙ c.if-closes_choice.false in
    let behind : c.in_ok-word.after ≡ c.choices.rest + 1 = c.in_ok-word.ensures.1 in
    record {
      same = λ more ws s i.
          let rest = drop c.in_ok-word.after words in
          c.choices.invariant.same more ws s i
          ∙ choice_first f (drop c.choices.rest words) rest more w v ws (seen s old) c.in_ok-word.ensures.0 goes_on is
          ∙ ap (after (goes (rest ++ more)) w) (c.in_ok-begin_constant.ensures (λ t. Next (Choice f ∷ ws) (with_choice_of t v)) s i)
          ∙ ap (λ (t : State). goes (rest ++ more) (Choice f ∷ ws) t) (sym (choice_added c.begin_constant.new.self c.add_choice.new.self v c.in_ok-add_choice.ensures s));
      cut = λ n lt on ws s i.
          let rest = drop c.in_ok-word.after (take n words) in
          let here : c.choices.rest < n = omega (arith, lt, behind) in
          c.choices.invariant.cut n here on ws s i
          ∙ choice_onward f on (drop c.choices.rest (take n words)) rest w v ws (seen s old) (c.in_ok-word.ensures.3 n here) goes_on is
          ∙ ap (after (goes_onward on rest) w) (c.in_ok-begin_constant.ensures (λ t. Next (Choice f ∷ ws) (with_choice_of t v)) s i)
          ∙ ap (λ (t : State). goes_onward on rest (Choice f ∷ ws) t) (sym (choice_added c.begin_constant.new.self c.add_choice.new.self v c.in_ok-add_choice.ensures s));
      from = let so_far = c.choices.invariant.from in omega (arith, so_far, behind);
    }

pub returns-in_err-begin_constant-clause-reads : goal.returns-in_err-begin_constant-clause-reads
returns-in_err-begin_constant-clause-reads c =
    let w = c.in_ok-word.word in
    let words = c.args.words.now in
    let f = c.args.field in
    let v = c.in-Some.value in
    let old = c.choices.self in
    let rest = drop c.in_ok-word.after words in
    let is : atom_of w.kind w.name ≡ Some v = sym c.atom_of.ensures ∙ c.in-Some.is in
    let goes_on : closes_choice w.keyword ≡ false = sym c.closes_choice.ensures ∙ c.if-closes_choice.false in
    let q = err_from_is_err_and c.from_residual-in_err-begin_constant.result c.from_residual-in_err-begin_constant.ensures.1 in
    rw (q.1, q.2) (fails_as_among (IsAround c.args.around.now) _ (λ more ws s. after (goes (rest ++ more)) w (constant_by w.keyword (λ t. Next (Choice f ∷ ws) (with_choice_of t v)) (seen s old)))
    (λ more ws s i. c.choices.invariant.same more ws s i ∙ choice_first f (drop c.choices.rest words) rest more w v ws (seen s old) c.in_ok-word.ensures.0 goes_on is)
    c.in_err-begin_constant.field-0.0
    (constant_fails _ c.args.around.now w old c.begin_constant.new.self c.in_err-begin_constant.field-0.0 c.begin_constant.result c.in_err-begin_constant.was c.begin_constant.ensures rest (λ ws t. Next (Choice f ∷ ws) (with_choice_of t v))))
