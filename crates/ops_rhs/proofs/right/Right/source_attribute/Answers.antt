use Rattle.std.proofs.Common.{◌≡◌, ℕ, ◌<◌, ◌≤◌, ◌==◌, ◌∷◌, ◌∙◌, sym, ap, true, None, Some, take, drop, position, arith}
use Rattle.ops_base.specs.declared.elements.Class.{Class}
use Rattle.ops_base.specs.declared.endings.Fault.TheVariants as fault
use Rattle.ops_grammar.specs.Grammar.{SourceAttribute, SourceEnd, Closes, EndsWhole, is_name}
use Rattle.ops_forms.specs.PlaceWalks.{goes_onward}
use Rattle.ops_forms.proofs.Walks.{goes_as_among, refused_among, cut_goes_as_among}
use Rattle.ops_rhs.specs.Taking.{seen, target_of, source_class, IsAround}
use Rattle.ops_rhs.proofs.Ways.{source_is, source_unknown, source_found, source_found_onward}
use Rattle.ops_rhs.proofs.right.Right.source_attribute.Goals as goal

pub returns-in_default-clause-reads : goal.returns-in_default-clause-reads
returns-in_default-clause-reads c =
    let w = c.in_ok-word.word in
    let r = c.args.self.now in
    let named : is_name w.kind ≡ true = sym c.is_name.ensures ∙ c.if-not-is_name.false in
    let none : position (λ a. a.0 == w.name.0) (source_class c.args.around.now r).attrs ≡ None = sym c.field_of_source.ensures ∙ c.in_default.is in
    refused_among (IsAround c.args.around.now) _ fault.UnknownAttribute w
    (λ more ws s i. source_unknown (target_of c.args.target) (drop c.args.at c.args.words.now) (drop c.in_ok-word.rest c.args.words.now) more w ws (seen s r) c.in_ok-word.ensures.0 named (ap (λ (x : Class). position (λ a. a.0 == w.name.0) x.attrs) (source_is c.args.around.now r s i) ∙ none))
    c.args.words.now (λ s. seen s r) _ c.refused-in_default.ensures

pub returns-clause-reads : goal.returns-clause-reads
returns-clause-reads c =
    let w = c.in_ok-word.word in
    let r = c.args.self.now in
    let named : is_name w.kind ≡ true = sym c.is_name.ensures ∙ c.if-not-is_name.false in
    let at : position (λ a. a.0 == w.name.0) (source_class c.args.around.now r).attrs ≡ Some c.in-Some.field = sym c.field_of_source.ensures ∙ c.in-Some.is in
    goes_as_among (IsAround c.args.around.now) _ _
    (λ more ws s i. source_found (target_of c.args.target) (drop c.args.at c.args.words.now) (drop c.in_ok-word.rest c.args.words.now) more w ws (seen s r) c.in_ok-word.ensures.0 named c.in-Some.field (ap (λ (x : Class). position (λ a. a.0 == w.name.0) x.attrs) (source_is c.args.around.now r s i) ∙ at))
    c.args.words.now (λ s. seen s c.source_ends.new.self) c.source_ends.result c.source_ends.ensures.reads

pub returns-clause-cut : goal.returns-clause-cut
returns-clause-cut c =
    let w = c.in_ok-word.word in
    let r = c.args.self.now in
    let words = c.args.words.now in
    let goal_of = target_of c.args.target in
    let named : is_name w.kind ≡ true = sym c.is_name.ensures ∙ c.if-not-is_name.false in
    let at : position (λ a. a.0 == w.name.0) (source_class c.args.around.now r).attrs ≡ Some c.in-Some.field = sym c.field_of_source.ensures ∙ c.in-Some.is in
    let before : (n : ℕ) → c.in_ok-word.rest ≤ n → c.args.at < n = λ n le. omega (arith, le, c.in_ok-word.ensures.1) in
    cut_goes_as_among (IsAround c.args.around.now)
    (λ cut on ws s. goes_onward on (drop c.args.at cut) (SourceAttribute goal_of ∷ ws) (seen s r))
    (λ cut on ws s. goes_onward on (drop c.in_ok-word.rest cut) (SourceEnd goal_of w.name ∷ Closes EndsWhole ∷ ws) (record (seen s r) { source_field = c.in-Some.field }))
    words c.in_ok-word.rest
    (λ n le on ws s i. source_found_onward goal_of on (drop c.args.at (take n words)) (drop c.in_ok-word.rest (take n words)) w ws (seen s r) (c.in_ok-word.ensures.3 n (before n le)) named c.in-Some.field (ap (λ (x : Class). position (λ a. a.0 == w.name.0) x.attrs) (source_is c.args.around.now r s i) ∙ at))
    (λ s. seen s c.source_ends.new.self) c.source_ends.result c.source_ends.ensures.within c.source_ends.ensures.cut
