use Rattle.std.proofs.Common.{◌≡◌, ℕ, zero, suc, ◌+◌, [], ◌∷◌, ◌++◌, Some, ap, sym, ◌∙◌, arith}
use Rattle.live_rules.specs.Moves.{Places, numbered_from, unmoved}
use Rattle.live_rules.proofs.moved.Moved.nothing.Goals as goal

-- one number more
numbered_push : (first n : ℕ) → numbered_from first (suc n) ≡ numbered_from first n ++ Some (first + n) ∷ []
numbered_push first zero = ap (λ k. Some k ∷ []) (omega arith)
numbered_push first (suc n) =
    ap (λ (rest : Places). Some first ∷ rest) (numbered_push (suc first) n ∙ ap (λ k. numbered_from (suc first) n ++ Some k ∷ []) (omega arith))

pub loop-number-preserved : goal.loop-number-preserved
loop-number-preserved c =
    let same : c.loop-number.number ≡ 0 + c.loop-number.number = omega arith in
    let next : suc c.loop-number.number ≡ c.loop-number.number + 1 = omega arith in
    c.in_ok-push.ensures.items ∙ ap (λ (ps : Places). ps ++ Some c.loop-number.number ∷ []) c.loop-number.invariant
    ∙ ap (λ k. unmoved c.loop-number.number ++ Some k ∷ []) same
    ∙ sym (numbered_push 0 c.loop-number.number) ∙ ap unmoved next
