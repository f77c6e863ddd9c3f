-- The pieces that what is printed is put in.
use Rattle.std.proofs.Common.{◌≡◌, ℕ, ◌+◌, ◌-◌, ◌≤◌, List, [], ◌∷◌, ◌++◌, take, codes, ap, sym, ◌∙◌, append_assoc, arith}
use Rattle.std.proofs.lemmas.Grind.{common_steps}
use Rattle.std.proofs.lemmas.List.{replicate-append-replicate, take-replicate}
use Rattle.ops_meaning.specs.Layout.{spaces, tab_bytes}

-- some spaces, and the rest
pub spaces_split : (left next : ℕ) (some : List ℕ) → some ≡ spaces next → next ≤ left → spaces left ≡ some ++ spaces (left - next)
spaces_split left next some e h =
    let whole : next + (left - next) ≡ left = omega arith in
    ap spaces (sym whole) ∙ sym (replicate-append-replicate next (left - next) 32) ∙ ap (λ (xs : List ℕ). xs ++ spaces (left - next)) (sym e)

-- some of 64 spaces
pub take_spaces : (next : ℕ) → next ≤ 64 → take next (spaces 64) ≡ spaces next
take_spaces next h = take-replicate next 64 32 h

-- a tab to a column that is reached already
pub tab_further : (n column : ℕ) → n ≤ column → tab_bytes n column ≡ 10 ∷ spaces (n - 1)
tab_further n column h = grind (arith, common_steps)

-- the pieces of the line of the limit
pub limit_pieces : (fresh firings : List ℕ) → fresh ++ ((codes "ops: limit of " ++ firings ++ codes " firings reached") ++ 10 ∷ []) ≡ fresh ++ (codes "ops: limit of " ++ firings ++ codes " firings reached\n")
limit_pieces fresh firings = simp append_assoc

-- the pieces of the line of the firings that are kept
pub kept_pieces : (fresh kept : List ℕ) → fresh ++ ((codes "back -- " ++ kept ++ codes " firings kept") ++ 10 ∷ []) ≡ fresh ++ (codes "back -- " ++ kept ++ codes " firings kept\n")
kept_pieces fresh kept = simp append_assoc

-- texts one after another, as they are put
nine : (fresh a b c d e f g h end : List ℕ) → fresh ++ ((a ++ b ++ c ++ d ++ e ++ f ++ g ++ h) ++ end) ≡ fresh ++ ((a ++ b ++ c) ++ (d ++ ((e ++ f ++ g) ++ (h ++ end))))
nine fresh a b c d e f g h end = simp append_assoc

-- the pieces of the line of an act fault
pub act_fault_pieces : (fresh firing name action what : List ℕ) → fresh ++ ((codes "ops: firing " ++ firing ++ codes ": " ++ name ++ codes ": action " ++ action ++ codes ": " ++ what) ++ 10 ∷ []) ≡ fresh ++ ((codes "ops: firing " ++ firing ++ codes ": ") ++ (name ++ ((codes ": action " ++ action ++ codes ": ") ++ (what ++ 10 ∷ []))))
act_fault_pieces fresh firing name action what = nine fresh (codes "ops: firing ") firing (codes ": ") name (codes ": action ") action (codes ": ") what (10 ∷ [])
