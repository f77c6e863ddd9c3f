use Rattle.std.proofs.Common.{◌≡◌, ◌<◌, ◌∷◌, ◌∙◌, sym, false, take, drop, arith}
use Rattle.ops_grammar.specs.Grammar.{BoundValue, Closes, EndsWhole, ToBind, after, is_right, value_for}
use Rattle.ops_forms.specs.PlaceWalks.{goes_onward}
use Rattle.ops_forms.proofs.Walks.{goes_as_among, cut_goes_as_among}
use Rattle.ops_rhs.specs.Taking.{seen, IsAround}
use Rattle.ops_rhs.proofs.Ways.{bound_first, bound_onward}
use Rattle.ops_rhs.proofs.right.Right.bound_value.Goals as goal

pub returns-clause-reads : goal.returns-clause-reads
returns-clause-reads c =
    goes_as_among (IsAround c.args.around.now) _ _
    (λ more ws s _. bound_first (drop c.args.at c.args.words.now) (drop c.in_ok-word.rest c.args.words.now) more c.in_ok-word.word ws (seen s c.args.self.now) c.in_ok-word.ensures.0 (sym c.is_right.ensures ∙ c.if-is_right.false))
    c.args.words.now (λ s. seen s c.written_value_from.new.self) c.written_value_from.result c.written_value_from.ensures.acts

pub returns-clause-cut : goal.returns-clause-cut
returns-clause-cut c =
    let w = c.in_ok-word.word in
    let words = c.args.words.now in
    let old = c.args.self.now in
    let other : is_right w.kind ≡ false = sym c.is_right.ensures ∙ c.if-is_right.false in
    cut_goes_as_among (IsAround c.args.around.now) (λ cut on ws s. goes_onward on (drop c.args.at cut) (BoundValue ∷ ws) (seen s old))
    (λ cut on ws s. after (goes_onward on (drop c.in_ok-word.rest cut)) w (value_for ToBind w (Closes EndsWhole ∷ ws) (seen s old)))
    words c.in_ok-word.rest
    (λ n le on ws s i.
    let before : c.args.at < n = omega (arith, le, c.in_ok-word.ensures.1) in
    bound_onward on (drop c.args.at (take n words)) (drop c.in_ok-word.rest (take n words)) w ws (seen s old) (c.in_ok-word.ensures.3 n before) other)
    (λ s. seen s c.written_value_from.new.self) c.written_value_from.result c.written_value_from.ensures.within c.written_value_from.ensures.cut
