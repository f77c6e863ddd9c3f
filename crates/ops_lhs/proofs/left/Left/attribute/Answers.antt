use Rattle.std.proofs.Common.{◌≡◌, ◌∷◌, ◌++◌, ◌∙◌, sym, ap, true, Some, ◌≤◌, ◌<◌, ℕ, take, drop, slice_get, List, arith}
use Rattle.ops_base.specs.declared.elements.Class.{Class}
use Rattle.ops_base.specs.declared.endings.Fault.TheVariants as fault
use Rattle.ops_grammar.specs.Grammar.{goes, is_name, InPattern, Attribute, Several, Place, Terms}
use Rattle.ops_lhs.specs.Taking.{seen, IsAround}
use Rattle.ops_forms.proofs.Walks.{to_refused_among, goes_to_as_among, goes_to_among, peek_goes_to_as_among, peek_goes_to_among}
use Rattle.ops_forms.proofs.Ways.{attribute_unknown, attribute_several, attribute_one, attribute_several_onward, attribute_one_onward}
use Rattle.ops_forms.specs.PlaceWalks.{goes_onward}
use Rattle.ops_lhs.proofs.left.Left.attribute.Goals as goal

pub returns-in_default-field_of-clause-reads : goal.returns-in_default-field_of-clause-reads
returns-in_default-field_of-clause-reads c =
    let w = c.in_ok-word.word in
    let named : is_name w.kind ≡ true = sym c.is_name.ensures ∙ c.if-not-is_name.false in
    let there : slice_get c.args.around.now.classes.now c.args.self.now.class ≡ Some c.in-Some.class.now = sym c.in-Some.ensures in
    to_refused_among (IsAround c.args.around.now) (Terms InPattern) _ fault.UnknownAttribute w
    (λ more ws s i. attribute_unknown InPattern c.in-Some.class.now (drop c.args.at c.args.words.now) (drop c.in_ok-word.rest c.args.words.now) more w ws (seen s c.args.self.now) c.in_ok-word.ensures.0 named (ap (λ (cs : List Class). slice_get cs c.args.self.now.class) i.classes ∙ there) (sym c.field_of.ensures ∙ c.in_default-field_of.is))
    c.args.words.now (λ s. seen s c.args.self.now) _ c.refused-in_default-field_of.ensures

pub returns-then-is_vector-clause-reads : goal.returns-then-is_vector-clause-reads
returns-then-is_vector-clause-reads c =
    let w = c.in_ok-word.word in
    let named : is_name w.kind ≡ true = sym c.is_name.ensures ∙ c.if-not-is_name.false in
    let there : slice_get c.args.around.now.classes.now c.args.self.now.class ≡ Some c.in-Some.class.now = sym c.in-Some.ensures in
    goes_to_as_among (IsAround c.args.around.now) (Terms InPattern) _ _
    (λ more ws s i. attribute_several InPattern c.in-Some.class.now (drop c.args.at c.args.words.now) (drop c.in_ok-word.rest c.args.words.now) more w ws (seen s c.args.self.now) c.in_ok-word.ensures.0 named (ap (λ (cs : List Class). slice_get cs c.args.self.now.class) i.classes ∙ there) c.in-Some-field_of.field (sym c.in-Some-field_of.ensures) (sym c.is_vector.ensures ∙ c.if-is_vector.true))
    c.args.words.now (λ s. seen s c.places.new.self) c.places.result c.places.ensures.reads

pub returns-clause-reads : goal.returns-clause-reads
returns-clause-reads c =
    let w = c.in_ok-word.word in
    let named : is_name w.kind ≡ true = sym c.is_name.ensures ∙ c.if-not-is_name.false in
    let there : slice_get c.args.around.now.classes.now c.args.self.now.class ≡ Some c.in-Some.class.now = sym c.in-Some.ensures in
    goes_to_as_among (IsAround c.args.around.now) (Terms InPattern) _ _
    (λ more ws s i. attribute_one InPattern c.in-Some.class.now (drop c.args.at c.args.words.now) (drop c.in_ok-word.rest c.args.words.now) more w ws (seen s c.args.self.now) c.in_ok-word.ensures.0 named (ap (λ (cs : List Class). slice_get cs c.args.self.now.class) i.classes ∙ there) c.in-Some-field_of.field (sym c.in-Some-field_of.ensures) (sym c.is_vector.ensures ∙ c.if-is_vector.false))
    c.args.words.now (λ s. seen s c.place.new.self) c.place.result
    (goes_to_among (IsAround c.args.around.now) (Terms InPattern) (λ more ws s. goes (drop c.in_ok-word.rest c.args.words.now ++ more) (Place c.in-Some-field_of.field ∷ ws) (seen s c.args.self.now)) c.args.words.now (λ s. seen s c.place.new.self) c.place.result c.place.ensures.reads)

pub returns-then-is_vector-clause-cut : goal.returns-then-is_vector-clause-cut
returns-then-is_vector-clause-cut c =
    let w = c.in_ok-word.word in
    let words = c.args.words.now in
    let named : is_name w.kind ≡ true = sym c.is_name.ensures ∙ c.if-not-is_name.false in
    let there : slice_get c.args.around.now.classes.now c.args.self.now.class ≡ Some c.in-Some.class.now = sym c.in-Some.ensures in
    let before : (n : ℕ) → c.in_ok-word.rest ≤ n → c.args.at < n = λ n le. omega (arith, le, c.in_ok-word.ensures.1) in
    peek_goes_to_as_among (IsAround c.args.around.now) (Terms InPattern)
    (λ cut on ws s. goes_onward on (drop c.args.at cut) (Attribute InPattern ∷ ws) (seen s c.args.self.now))
    (λ cut on ws s. goes_onward on (drop c.in_ok-word.rest cut) (Several InPattern c.in-Some-field_of.field ∷ ws) (seen s c.args.self.now))
    words c.in_ok-word.rest
    (λ n le on ws s i. attribute_several_onward InPattern c.in-Some.class.now on (drop c.args.at (take n words)) (drop c.in_ok-word.rest (take n words)) w ws (seen s c.args.self.now) (c.in_ok-word.ensures.3 n (before n le)) named (ap (λ (cs : List Class). slice_get cs c.args.self.now.class) i.classes ∙ there) c.in-Some-field_of.field (sym c.in-Some-field_of.ensures) (sym c.is_vector.ensures ∙ c.if-is_vector.true))
    (λ s. seen s c.places.new.self) c.places.result c.places.ensures.within c.places.ensures.cut

pub returns-clause-cut : goal.returns-clause-cut
returns-clause-cut c =
    let w = c.in_ok-word.word in
    let words = c.args.words.now in
    let named : is_name w.kind ≡ true = sym c.is_name.ensures ∙ c.if-not-is_name.false in
    let there : slice_get c.args.around.now.classes.now c.args.self.now.class ≡ Some c.in-Some.class.now = sym c.in-Some.ensures in
    let before : (n : ℕ) → c.in_ok-word.rest ≤ n → c.args.at < n = λ n le. omega (arith, le, c.in_ok-word.ensures.1) in
    peek_goes_to_as_among (IsAround c.args.around.now) (Terms InPattern)
    (λ cut on ws s. goes_onward on (drop c.args.at cut) (Attribute InPattern ∷ ws) (seen s c.args.self.now))
    (λ cut on ws s. goes_onward on (drop c.in_ok-word.rest cut) (Place c.in-Some-field_of.field ∷ Terms InPattern ∷ ws) (seen s c.args.self.now))
    words c.in_ok-word.rest
    (λ n le on ws s i. attribute_one_onward InPattern c.in-Some.class.now on (drop c.args.at (take n words)) (drop c.in_ok-word.rest (take n words)) w ws (seen s c.args.self.now) (c.in_ok-word.ensures.3 n (before n le)) named (ap (λ (cs : List Class). slice_get cs c.args.self.now.class) i.classes ∙ there) c.in-Some-field_of.field (sym c.in-Some-field_of.ensures) (sym c.is_vector.ensures ∙ c.if-is_vector.false))
    (λ s. seen s c.place.new.self) c.place.result c.place.ensures.within
    (peek_goes_to_among (IsAround c.args.around.now) (Terms InPattern) (λ cut on ws s. goes_onward on (drop c.in_ok-word.rest cut) (Place c.in-Some-field_of.field ∷ ws) (seen s c.args.self.now)) words (λ s. seen s c.place.new.self) c.place.result c.place.ensures.cut)
