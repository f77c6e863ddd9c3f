use Rattle.std.proofs.Common.{◌-◌, ◌∙◌, sym, subst, refl, length, List, [], arith}
use Rattle.ops_base.specs.declared.conditions.Part.{Part}
use Rattle.ops_grammar.specs.declared.words.Named.{Named}
use Rattle.ops_grammar.specs.declared.words.Word.{Word}
use Rattle.ops_forms.specs.declared.scope.Scope.{Scope}
use Rattle.ops_forms.specs.PlaceWalks.{words_of_scope}
use Rattle.ops_forms.proofs.Borders.{words_made, names_made, counted}
use Rattle.ops_lhs.specs.LeftSides.{ReadsLeft, RefusesLeft, IsArrow, AreBehindArrow, IsLeftSide, IsRefused}
use Rattle.ops_lhs.proofs.Borders.{left_side_is, refused_is}
use Rattle.ops_lhs.proofs.reading.read_lhs.Goals as goal

pub overflow_sub-place : goal.overflow_sub-place
overflow_sub-place c =
    let scope = c.args.scope.now in
    let made = c.as_slice-2.ensures.value ∙ c.in_ok-words.ensures.words ∙ words_made scope c.args.tokens.now c.args.from c.as_slice.result.now c.as_slice.ensures.value in
    let behind : AreBehindArrow (words_of_scope scope c.args.tokens.now c.args.from) c.in-Ok.rest.now = subst (λ (ws : List Word). AreBehindArrow ws c.in-Ok.rest.now) made c.in-Ok.ensures.behind in
    let all = counted IsArrow scope c.args.tokens.now c.args.from c.in-Ok.rest.now c.requires.within behind in
    omega (arith, all)

pub overflow_sub-place-in-Ok : goal.overflow_sub-place-in-Ok
overflow_sub-place-in-Ok c =
    let scope = c.args.scope.now in
    let made = c.as_slice-2.ensures.value ∙ c.in_ok-words.ensures.words ∙ words_made scope c.args.tokens.now c.args.from c.as_slice.result.now c.as_slice.ensures.value in
    let behind : AreBehindArrow (words_of_scope scope c.args.tokens.now c.args.from) c.in-Ok.rest.now = subst (λ (ws : List Word). AreBehindArrow ws c.in-Ok.rest.now) made c.in-Ok.ensures.behind in
    let all = counted IsArrow scope c.args.tokens.now c.args.from c.in-Ok.rest.now c.requires.within behind in
    omega (arith, all)

pub returns-in-Ok-clause-ok : goal.returns-in-Ok-clause-ok
returns-in-Ok-clause-ok c =
    let scope = c.args.scope.now in
    let tokens = c.args.tokens.now in
    let from = c.args.from in
    let rest = c.in-Ok.rest.now in
    let side = c.in-Ok.side in
    let place = length tokens - length rest - 1 in
    let made = c.as_slice-2.ensures.value ∙ c.in_ok-words.ensures.words ∙ words_made scope tokens from c.as_slice.result.now c.as_slice.ensures.value in
    let behind = subst (λ (ws : List Word). AreBehindArrow ws rest) made c.in-Ok.ensures.behind in
    let outermost = subst (λ (xs : List Named). ReadsLeft scope.classes xs c.as_slice-2.result.now rest side.conditions.items side.values side.elements side.variables side.counted side.holes.items) c.new-none.ensures c.in-Ok.ensures.ok in
    let reads = subst (λ (ws : List Word). ReadsLeft scope.classes [] ws rest side.conditions.items side.values side.elements side.variables side.counted side.holes.items) made outermost in
    let names = c.in_ok-words.ensures.names ∙ names_made scope tokens from c.as_slice.result.now c.as_slice.ensures.value in
    subst (λ (cs : List Part). IsLeftSide scope c.show.new.scope tokens from cs place) (sym c.in_ok-conditions-in-Ok.ensures.conditions)
    (subst (λ (new : Scope). IsLeftSide scope new tokens from side.conditions.items place) (sym c.in_ok-conditions-in-Ok.ensures.ok)
    (left_side_is scope tokens from rest c.requires.within behind _ side.conditions.items reads names refl refl))

pub returns-clause-err : goal.returns-clause-err
returns-clause-err c =
    let scope = c.args.scope.now in
    let tokens = c.args.tokens.now in
    let from = c.args.from in
    let made = c.as_slice-2.ensures.value ∙ c.in_ok-words.ensures.words ∙ words_made scope tokens from c.as_slice.result.now c.as_slice.ensures.value in
    let outermost = subst (λ (xs : List Named). RefusesLeft scope.classes xs c.as_slice-2.result.now c.in-Err.refusal) c.new-none.ensures c.in-Err.ensures.err in
    let refuses = subst (λ (ws : List Word). RefusesLeft scope.classes [] ws c.in-Err.refusal) made outermost in
    subst (IsRefused scope tokens from) (sym c.fault_of.ensures) (refused_is scope tokens from c.in-Err.refusal refuses)
