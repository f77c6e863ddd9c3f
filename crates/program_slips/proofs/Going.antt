-- One more item of those that are looked at.
use Rattle.std.proofs.Common.{◌≡◌, ℕ, ◌+◌, ◌<◌, List, ◌∷◌, ◌++◌, length, drop, get_or, sym, ap, ◌∙◌, append_assoc}
use Rattle.std.specs.Prelude.{flat_map}
use Rattle.std.proofs.lemmas.List.{drop_more}

pub item_more : {A B : Type 0} (f : A → List B) (xs : List A) (i : ℕ) (x : A) (all found new : List B) → i < length xs → x ≡ get_or xs i x
    → all ≡ found ++ flat_map f (drop i xs) → new ≡ found ++ f x → all ≡ new ++ flat_map f (drop (i + 1) xs)
item_more f xs i x all found new within is sofar adds =
    let rest = drop (i + 1) xs in
    sofar ∙ ap (λ ys. found ++ flat_map f ys) (drop_more xs i x within ∙ ap (λ y. y ∷ rest) (sym is))
    ∙ sym (append_assoc found (f x) (flat_map f rest)) ∙ ap (λ ys. ys ++ flat_map f rest) (sym adds)
