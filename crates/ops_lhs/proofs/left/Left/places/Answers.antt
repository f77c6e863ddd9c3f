use Rattle.std.proofs.Common.{◌≡◌, ℕ, ◌<◌, ◌≤◌, ◌∷◌, ◌++◌, ◌∙◌, sym, ap, ◌+◌, nat_lt, take, drop, rules, arith}
use Rattle.std.proofs.lemmas.Result.{err_from_is_err_and}
use Rattle.ops_base.specs.Valid.{most_fields}
use Rattle.ops_grammar.specs.Grammar.{goes, after, InPattern, Several, within, place}
use Rattle.ops_forms.specs.PlaceWalks.{goes_onward}
use Rattle.ops_forms.proofs.Ways.{several_first}
use Rattle.ops_lhs.proofs.Ways.{several_onward}
use Rattle.ops_lhs.specs.Taking.{seen, IsAround}
use Rattle.ops_forms.proofs.Walks.{fails_as_among, fails_under_among}
use Rattle.ops_lhs.proofs.left.Left.places.Goals as goal

pub returns-in_err-rest-clause-reads : goal.returns-in_err-rest-clause-reads
returns-in_err-rest-clause-reads c =
    let w = c.in_ok-word.word in
    let rest = drop c.in_ok-word.after c.args.words.now in
    let p = err_from_is_err_and c.from_residual-in_err-rest.result c.from_residual-in_err-rest.ensures.1 in
    rw (p.1, p.2) (fails_as_among (IsAround c.args.around.now) _ _
    (λ more ws s i. c.places.invariant.same more ws s i ∙ several_first InPattern c.places.next (drop c.places.rest c.args.words.now) rest more w ws (seen s c.places.self) c.in_ok-word.ensures.0 (sym c.ends_values.ensures ∙ c.if-ends_values.false))
    c.in_err-rest.field-0.0
    (fails_under_among (IsAround c.args.around.now) (λ more ws s. after (goes (rest ++ more)) w (within (nat_lt c.places.next most_fields) (place c.places.next w ws (seen s c.places.self)))) (λ ws. Several InPattern (c.places.next + 1) ∷ ws) c.in_err-rest.field-0.0 c.in_err-rest.ensures.acts))

pub places-preserved : goal.places-preserved
places-preserved c =
    let w = c.in_ok-word.word in
    let words = c.args.words.now in
    let rest = c.in_ok-rest.rest in
    let other = sym c.ends_values.ensures ∙ c.if-ends_values.false in
    let one_more : c.in_ok-next.next ≡ c.places.next + 1 = search rules in
    let behind : c.in_ok-word.after ≤ rest = c.in_ok-rest.ensures.within in
    let before : c.in_ok-word.after ≡ c.places.rest + 1 = c.in_ok-word.ensures.1 in
    record {
      same = λ more ws s i.
          c.places.invariant.same more ws s i
          ∙ several_first InPattern c.places.next (drop c.places.rest words) (drop c.in_ok-word.after words) more w ws (seen s c.places.self) c.in_ok-word.ensures.0 other
          ∙ c.in_ok-rest.ensures.acts more (Several InPattern (c.places.next + 1) ∷ ws) s i
          ∙ ap (λ (next : ℕ). goes (drop rest words ++ more) (Several InPattern next ∷ ws) (seen s c.next_place_from.new.self)) (sym one_more);
      cut = λ n lt on ws s i.
          let here : c.places.rest < n = omega (arith, lt, behind, before) in
          let there : rest ≤ n = omega (arith, lt) in
          c.places.invariant.cut n here on ws s i
          ∙ several_onward InPattern c.places.next on (drop c.places.rest (take n words)) (drop c.in_ok-word.after (take n words)) w ws (seen s c.places.self) (c.in_ok-word.ensures.3 n here) other
          ∙ c.in_ok-rest.ensures.cut n there on (Several InPattern (c.places.next + 1) ∷ ws) s i
          ∙ ap (λ (next : ℕ). goes_onward on (drop rest (take n words)) (Several InPattern next ∷ ws) (seen s c.next_place_from.new.self)) (sym one_more);
      from = let so_far = c.places.invariant.from in omega (arith, so_far, behind, before);
    }
