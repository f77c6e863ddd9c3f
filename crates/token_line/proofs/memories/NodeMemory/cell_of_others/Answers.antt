-- Under a code that is done nothing is kept of the token, and what is left decides.
use Rattle.std.proofs.Common.{◌∙◌, ℕ, Option, add-one, ap, drop, suc, sym}
use Rattle.std.specs.Map.{keys_of}
use Rattle.token_line.specs.declared.tokens.TokenCount.{TokenCount}
use Rattle.token_line.specs.inner.Codes.{cell_under, first_some}
use Rattle.token_line.proofs.Filed.{none_then, some_then}
use Rattle.token_line.proofs.SmallMapLemmas.{keys_left}
use Rattle.token_line.proofs.memories.NodeMemory.cell_of_others.Goals as goal

pub loop-place-preserved : goal.loop-place-preserved
loop-place-preserved c =
    let f : ℕ → Option TokenCount = λ k. cell_under c.args.self.now k c.args.side c.args.token.now in
    let others = c.args.self.now.others in
    let i = c.loop-place.place in
    let code = c.pair.result.0.now in
    c.loop-place.invariant
    ∙ (ap (first_some f) (keys_left others i (code, c.pair.result.1.now) c.pair.ensures)
    ∙ (none_then f code (drop (suc i) (keys_of others)) (sym c.cell_under.ensures ∙ c.in_default.is)
    ∙ ap (λ k. first_some f (drop k (keys_of others))) (sym (add-one i))))

pub returns-in-Some : goal.returns-in-Some
returns-in-Some c =
    let f : ℕ → Option TokenCount = λ k. cell_under c.args.self.now k c.args.side c.args.token.now in
    let others = c.args.self.now.others in
    let i = c.loop-place.place in
    let code = c.pair.result.0.now in
    sym (c.loop-place.invariant
    ∙ (ap (first_some f) (keys_left others i (code, c.pair.result.1.now) c.pair.ensures)
    ∙ some_then f code (drop (suc i) (keys_of others)) c.in-Some.cell (sym c.cell_under.ensures ∙ c.in-Some.is)))
