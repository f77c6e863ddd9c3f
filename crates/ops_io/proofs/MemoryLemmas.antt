-- What a read of bytes in memory moves.
use Rattle.std.proofs.Common.{◌≡◌, ℕ, ◌+◌, ◌-◌, ◌≤◌, List, ◌++◌, ap, sym, ◌∙◌, take, drop, length, arith}
use Rattle.std.proofs.lemmas.Grind.{common_steps}
use Rattle.std.proofs.lemmas.List.{length-take, length-drop, take-append-drop}
use Rattle.std.proofs.Math.Seq.{take-append_seam, drop-drop}

-- What is left is what was copied to the front of the buffer, and then what is left after it.
pub read_part : (xs src copied buf : List ℕ) (at count : ℕ) → src ≡ xs → copied ≡ take ((at + count) - at) (drop at src) → at + count ≤ length xs → drop at xs ≡ take count (copied ++ drop count buf) ++ drop (at + count) xs
read_part xs src copied buf at count e f h =
    let amount : (at + count) - at ≡ count = omega arith in
    let is : copied ≡ take count (drop at xs) = f ∙ ap (λ w. take w (drop at src)) amount ∙ ap (λ w. take count (drop at w)) e in
    let long : length copied ≡ count = ap length is ∙ grind (arith, common_steps, length-take {A = ℕ}, length-drop {A = ℕ}) in
    let front : take count (copied ++ drop count buf) ≡ copied = ap (λ w. take w (copied ++ drop count buf)) (sym long) ∙ take-append_seam copied (drop count buf) in
    sym (take-append-drop count (drop at xs)) ∙ ap (λ w. take count (drop at xs) ++ w) (drop-drop count at xs ∙ ap (λ w. drop w xs) (omega arith)) ∙ ap (λ w. w ++ drop (at + count) xs) (sym is ∙ sym front)
