use Rattle.std.proofs.Common.{◌≡◌, ◌+◌, ◌≤◌, ◌∷◌, drop, length, refl, arith}
use Rattle.std.proofs.lemmas.Grind.{common_steps}
use Rattle.ops_forms.proofs.Walks.{cut_taken}
use Rattle.ops_forms.proofs.walking.first_of.Goals as goal

pub returns-in-Some : goal.returns-in-Some
returns-in-Some c =
    let words = c.args.words.now in
    let first : drop c.args.at words ≡ c.in-Some.word.now ∷ drop (c.args.at + 1) words = grind (arith, common_steps) in
    let within : c.args.at + 1 ≤ length words = grind (arith, common_steps) in
    (first, refl, within, λ n lt. cut_taken words c.args.at (c.args.at + 1) n c.in-Some.word.now first refl lt)
