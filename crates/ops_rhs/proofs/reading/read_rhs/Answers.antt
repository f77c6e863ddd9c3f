use Rattle.std.proofs.Common.{◌≡◌, ◌-◌, ◌∙◌, sym, ap, subst, length, List, arith}
use Rattle.ops_grammar.specs.declared.words.Word.{Word}
use Rattle.ops_forms.specs.PlaceWalks.{AreBehind, words_of_scope}
use Rattle.ops_forms.specs.declared.scope.Scope.{Scope}
use Rattle.ops_forms.proofs.Borders.{words_made, names_made, counted}
use Rattle.ops_rhs.specs.declared.sides.Sight.{Sight}
use Rattle.ops_rhs.specs.RightSides.{IsBracket, ReadsRight, RefusesRight, IsRightSide, IsRefused, sight_of}
use Rattle.ops_rhs.proofs.Borders.{right_side_at, refused_is}
use Rattle.ops_rhs.proofs.reading.read_rhs.Goals as goal

pub overflow_sub-place : goal.overflow_sub-place
overflow_sub-place c =
    let scope = c.args.scope.now in
    let made = c.as_slice-2.ensures.value ∙ c.in_ok-words.ensures.words ∙ words_made scope c.args.tokens.now c.args.from c.as_slice.result.now c.as_slice.ensures.value in
    let behind : AreBehind IsBracket (words_of_scope scope c.args.tokens.now c.args.from) c.in-Ok.rest.now = subst (λ (ws : List Word). AreBehind IsBracket ws c.in-Ok.rest.now) made c.in-Ok.ensures.ok.behind in
    let all = counted IsBracket scope c.args.tokens.now c.args.from c.in-Ok.rest.now c.requires.within behind in
    omega (arith, all)

pub overflow_sub-place-in-Ok : goal.overflow_sub-place-in-Ok
overflow_sub-place-in-Ok c =
    let scope = c.args.scope.now in
    let made = c.as_slice-2.ensures.value ∙ c.in_ok-words.ensures.words ∙ words_made scope c.args.tokens.now c.args.from c.as_slice.result.now c.as_slice.ensures.value in
    let behind : AreBehind IsBracket (words_of_scope scope c.args.tokens.now c.args.from) c.in-Ok.rest.now = subst (λ (ws : List Word). AreBehind IsBracket ws c.in-Ok.rest.now) made c.in-Ok.ensures.ok.behind in
    let all = counted IsBracket scope c.args.tokens.now c.args.from c.in-Ok.rest.now c.requires.within behind in
    omega (arith, all)

pub returns-in-Ok-clause-ok : goal.returns-in-Ok-clause-ok
returns-in-Ok-clause-ok c =
    let scope = c.args.scope.now in
    let tokens = c.args.tokens.now in
    let from = c.args.from in
    let rest = c.in-Ok.rest.now in
    let side = c.in-Ok.side in
    let place = length tokens - length rest - 1 in
    let made = c.as_slice-2.ensures.value ∙ c.in_ok-words.ensures.words ∙ words_made scope tokens from c.as_slice.result.now c.as_slice.ensures.value in
    let names = c.in_ok-words.ensures.names ∙ names_made scope tokens from c.as_slice.result.now c.as_slice.ensures.value in
    let after : c.put_sight.new.scope ≡ record scope { names = c.words_of.new.names; values = side.sight.values; elements = side.sight.elements; cells = side.sight.cells; conditions = side.sight.conditions; variables = side.sight.variables; counted = side.sight.counted; holes = side.sight.holes; templates = side.sight.templates } =
    c.put_sight.ensures ∙ ap (λ (x : Scope). record x { values = side.sight.values; elements = side.sight.elements; cells = side.sight.cells; conditions = side.sight.conditions; variables = side.sight.variables; counted = side.sight.counted; holes = side.sight.holes; templates = side.sight.templates }) c.take_sight-sight.ensures.scope in
    let declared = ap (λ (x : Scope). x.classes) c.take_sight-sight.ensures.scope in
    let by_words = subst (λ (ws : List Word). ReadsRight c.take_sight-sight.new.scope.classes c.take_sight-sight.result ws rest side.actions.items side.sight) made c.in-Ok.ensures.ok in
    let by_sight = subst (λ (x : Sight). ReadsRight c.take_sight-sight.new.scope.classes x (words_of_scope scope tokens from) rest side.actions.items side.sight) c.take_sight-sight.ensures.sight by_words in
    let reads : ReadsRight scope.classes (sight_of scope) (words_of_scope scope tokens from) rest side.actions.items side.sight = subst (λ xs. ReadsRight xs (sight_of scope) (words_of_scope scope tokens from) rest side.actions.items side.sight) declared by_sight in
    subst (λ (new : Scope). IsRightSide scope new tokens from side.actions.items place) (sym after)
    (right_side_at scope _ tokens from rest side.actions.items c.requires.within reads names)

pub returns-clause-err : goal.returns-clause-err
returns-clause-err c =
    let scope = c.args.scope.now in
    let tokens = c.args.tokens.now in
    let from = c.args.from in
    let made = c.as_slice-2.ensures.value ∙ c.in_ok-words.ensures.words ∙ words_made scope tokens from c.as_slice.result.now c.as_slice.ensures.value in
    let declared = ap (λ (x : Scope). x.classes) c.take_sight-sight.ensures.scope in
    let by_words = subst (λ (ws : List Word). RefusesRight c.take_sight-sight.new.scope.classes c.take_sight-sight.result ws c.in-Err.refusal) made c.in-Err.ensures.err in
    let by_sight = subst (λ (x : Sight). RefusesRight c.take_sight-sight.new.scope.classes x (words_of_scope scope tokens from) c.in-Err.refusal) c.take_sight-sight.ensures.sight by_words in
    let refuses : RefusesRight scope.classes (sight_of scope) (words_of_scope scope tokens from) c.in-Err.refusal = subst (λ xs. RefusesRight xs (sight_of scope) (words_of_scope scope tokens from) c.in-Err.refusal) declared by_sight in
    subst (IsRefused scope tokens from) (sym c.fault_of.ensures) (refused_is scope tokens from c.in-Err.refusal c.in-Err.ensures.placed refuses)
