use Rattle.std.proofs.Common.{◌≡◌, ℕ, ◌-◌, suc, List, [], ◌∷◌, ◌==◌, length, Option, Some, ap, ◌∙◌, arith}
use Rattle.std.specs.List.{slice_get}
use Rattle.joined_files.specs.Files.{ends_in_line}
use Rattle.joined_files.proofs.files.ends_in_line.Goals as goal

-- the last byte decides
last_decides : (xs : List ℕ) (b : ℕ) → (let o : Option ℕ = Some b in o ≡ slice_get xs (length xs - 1)) → (b == 10) ≡ ends_in_line xs
last_decides [] b h = cc
last_decides (x ∷ []) b h = let e : b ≡ x = cc in ap (λ n. n == 10) e
last_decides (x ∷ y ∷ ys) b h =
    let past : length (x ∷ y ∷ ys) - 1 ≡ suc (length (y ∷ ys) - 1) = omega arith in
    last_decides (y ∷ ys) b (h ∙ ap (slice_get (x ∷ y ∷ ys)) past)

pub returns-in-Some : goal.returns-in-Some
returns-in-Some c = last_decides c.args.bytes.now c.in-Some.byte.now c.in-Some.ensures.value
