-- What a store keeps true of its elements.
use Rattle.std.proofs.Common.{◌≡◌, ℕ, ◌≤◌, List, ◌++◌, subst, arith, length-append}
use Rattle.std.specs.List.{All}
use Rattle.std.proofs.lemmas.List.{map-append, get_or_append_left}
use Rattle.ops_base.specs.WorkingMemory.{tags_of}
use Rattle.ops_meaning.specs.Kept.{WellKept}
use Rattle.work_store.specs.Stored.{Stored, IsStored}

all_front : (P : ℕ → Type 0) (xs ys : List ℕ) → All P (xs ++ ys) → All P xs
all_front P xs ys h k d within =
    subst P (get_or_append_left xs ys d k within) (h k d (omega (arith, length-append xs ys)))

-- the elements of a store are well kept
pub stored_kept : (s t : Stored) → s ≡ t → IsStored s → WellKept t.elements t.last
stored_kept s t is p =
    let below : List ℕ → Type 0 = All (λ t. t ≤ s.last) in
    let P : Stored → Type 0 = λ w. WellKept w.elements w.last in
    subst P is (p.rising, all_front (λ t. t ≤ s.last) (tags_of s.elements) (tags_of s.kept) (subst below (map-append (λ e. e.tag) s.elements s.kept) p.below))
