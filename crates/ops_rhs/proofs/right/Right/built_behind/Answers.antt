use Rattle.std.proofs.Common.{◌≡◌, ℕ, ◌+◌, ◌<◌, ◌≤◌, ◌∷◌, ◌++◌, ◌∙◌, Vec, refl, sym, ap, true, take, drop, length, arith}
use Rattle.std.proofs.Math.ListN.{length-append}
use Rattle.std.proofs.lemmas.Result.{err_from_is_err_and}
use Rattle.std.specs.declared.alloc.Global.{Global}
use Rattle.ops_base.specs.declared.rules.Rule.{Rule}
use Rattle.ops_base.specs.Valid.{cells_of}
use Rattle.ops_grammar.specs.declared.words.Word.{Word}
use Rattle.ops_grammar.specs.Grammar.{State, Actions, goes, nothing_read, outer_of, right_begun, with_template}
use Rattle.ops_forms.specs.Sights.{cells_from}
use Rattle.ops_forms.specs.PlaceWalks.{goes_onward}
use Rattle.ops_forms.proofs.Walks.{cut_taken, fails_as_among}
use Rattle.ops_rhs.specs.Taking.{seen, view, built_rule, IsAround, MayBuild}
use Rattle.ops_rhs.proofs.Built.{after_left, at_place, fails_inside, inner_around, right_begins, side_closed, side_closed_onward, template_is}
use Rattle.ops_rhs.proofs.right.Right.built_behind.Goals as goal

pub returns-clause-reads : goal.returns-clause-reads
returns-clause-reads c =
    let old = c.args.self.now in
    let left = c.args.left in
    let name = c.args.name in
    let words = c.args.words.now in
    let begun = c.new-right.result in
    let right = c.built_actions.new.self in
    let new = c.end_build.new.self in
    let place = c.in_ok-place.place in
    let closing = c.in_ok-place.ensures.closing in
    let rest = drop (place + 1) words in
    let started = c.new-right.ensures ∙ ap (λ (v : Vec Rule Global). record (right_begun nothing_read) { values = left.values; elements = left.elements; variables = left.variables; counted = left.counted; holes = left.holes.items; templates = v.items }) c.replace-templates.ensures.value in
    let cells = c.in_ok-cells.ensures ∙ ap cells_of c.deref.ensures.value in
    let conditions = c.in_ok-conditions.ensures ∙ ap (cells_from 0) c.deref-2.ensures.value in
    let count : c.len.result + c.len-2.result ≡ length (cells_of left.conditions.items ++ right.further.items) = omega (arith, length-append (cells_of left.conditions.items) right.further.items, c.len.ensures, c.len-2.ensures, ap length cells) in
    let ended = c.in_ok-end_build.ensures
    ∙ ap (λ (w : Word). with_template (outer_of (view old)) (view right) (built_rule name left.conditions.items right (c.len.result + c.len-2.result) old.begun w.past)) (at_place words place closing.bracket rest _ closing.there) in
    λ more ws s may.
    let behind = after_left old right begun new left name s in
    ap (goes (drop c.args.at words ++ more) (Actions true ∷ ws)) (right_begins old right begun new left name s started)
    ∙ c.in_ok-place.ensures.reads more ws behind (inner_around old right begun new left name s _ may refl refl (c.as_slice.ensures ∙ cells) (c.as_slice-2.ensures ∙ conditions))
    ∙ side_closed (drop place words) rest more closing.bracket ws (seen behind right) closing.there closing.is
    ∙ ap (goes (rest ++ more) ws) (sym (template_is old right begun new left name s c.args.classes.now (c.len.result + c.len-2.result) closing.bracket.past may count ended))

pub returns-clause-cut : goal.returns-clause-cut
returns-clause-cut c =
    let old = c.args.self.now in
    let left = c.args.left in
    let name = c.args.name in
    let words = c.args.words.now in
    let begun = c.new-right.result in
    let right = c.built_actions.new.self in
    let new = c.end_build.new.self in
    let place = c.in_ok-place.place in
    let closing = c.in_ok-place.ensures.closing in
    let started = c.new-right.ensures ∙ ap (λ (v : Vec Rule Global). record (right_begun nothing_read) { values = left.values; elements = left.elements; variables = left.variables; counted = left.counted; holes = left.holes.items; templates = v.items }) c.replace-templates.ensures.value in
    let cells = c.in_ok-cells.ensures ∙ ap cells_of c.deref.ensures.value in
    let conditions = c.in_ok-conditions.ensures ∙ ap (cells_from 0) c.deref-2.ensures.value in
    let count : c.len.result + c.len-2.result ≡ length (cells_of left.conditions.items ++ right.further.items) = omega (arith, length-append (cells_of left.conditions.items) right.further.items, c.len.ensures, c.len-2.ensures, ap length cells) in
    let ended = c.in_ok-end_build.ensures
    ∙ ap (λ (w : Word). with_template (outer_of (view old)) (view right) (built_rule name left.conditions.items right (c.len.result + c.len-2.result) old.begun w.past)) (at_place words place closing.bracket (drop (place + 1) words) _ closing.there) in
    λ n le on ws s may.
    let behind = after_left old right begun new left name s in
    let rest = drop (place + 1) (take n words) in
    let upto : place ≤ n = omega (arith, le) in
    let past : place < n = omega (arith, le) in
    ap (goes_onward on (drop c.args.at (take n words)) (Actions true ∷ ws)) (right_begins old right begun new left name s started)
    ∙ c.in_ok-place.ensures.cut n upto on ws behind (inner_around old right begun new left name s _ may refl refl (c.as_slice.ensures ∙ cells) (c.as_slice-2.ensures ∙ conditions))
    ∙ side_closed_onward on (drop place (take n words)) rest closing.bracket ws (seen behind right) (cut_taken words place (place + 1) n closing.bracket closing.there refl past) closing.is
    ∙ ap (goes_onward on rest ws) (sym (template_is old right begun new left name s c.args.classes.now (c.len.result + c.len-2.result) closing.bracket.past may count ended))

pub returns-in_err-place-clause-reads : goal.returns-in_err-place-clause-reads
returns-in_err-place-clause-reads c =
    let old = c.args.self.now in
    let left = c.args.left in
    let name = c.args.name in
    let words = c.args.words.now in
    let begun = c.new-right.result in
    let classes = c.args.classes.now in
    let started = c.new-right.ensures ∙ ap (λ (v : Vec Rule Global). record (right_begun nothing_read) { values = left.values; elements = left.elements; variables = left.variables; counted = left.counted; holes = left.holes.items; templates = v.items }) c.replace-templates.ensures.value in
    let cells = c.in_ok-cells.ensures ∙ ap cells_of c.deref.ensures.value in
    let conditions = c.in_ok-conditions.ensures ∙ ap (cells_from 0) c.deref-2.ensures.value in
    let p = err_from_is_err_and c.from_residual-in_err-place.result c.from_residual-in_err-place.ensures.1 in
    rw (p.1, p.2) (fails_as_among (MayBuild classes) _ (λ more ws s. goes (drop c.args.at words ++ more) (Actions true ∷ ws) (seen (after_left old begun begun old left name s) begun))
    (λ more ws s may. ap (goes (drop c.args.at words ++ more) (Actions true ∷ ws)) (right_begins old begun begun old left name s started))
    c.in_err-place.field-0.0
    (fails_inside (MayBuild classes) (IsAround _) (λ more ws s. goes (drop c.args.at words ++ more) (Actions true ∷ ws) (seen s begun)) (λ s. after_left old begun begun old left name s) (λ ws. ws)
    (λ s may. inner_around old begun begun old left name s _ may refl refl (c.as_slice.ensures ∙ cells) (c.as_slice-2.ensures ∙ conditions))
    c.in_err-place.field-0.0 c.in_err-place.ensures.reads))
