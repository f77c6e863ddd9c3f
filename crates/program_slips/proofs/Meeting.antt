-- Texts that were met, and those that are new.
use Rattle.std.proofs.Common.{◌≡◌, ℕ, List, [], ◌∷◌, ◌++◌, length, map, cond, Bool, true, false, Option, Some, None, refl, sym, ap, ◌∙◌}
use Rattle.std.specs.Prelude.{bytes_eq, position, nat_lt, is_some}
use Rattle.std.specs.List.{list_any, position_or_len}
use Rattle.ops_base.specs.Names.{is_held}
use Rattle.ops_base.proofs.Fresh.{any-map}
use Rattle.ops_base.proofs.Held.{map-append, place-map, length-map}
use Rattle.ops_forms.proofs.Firsts.{list_any_position}
use Rattle.program_slips.specs.Texts.{met_at, with_text}

module _ {V : Type 0} (f : V → List ℕ) (s : List ℕ) where
  pub met_map : (keys : List V) → met_at (map f keys) s ≡ position (λ v. bytes_eq s (f v)) keys
  met_map keys =
      let P : ℕ → ℕ → Option ℕ = λ p n. cond (nat_lt p n) (Some p) None in
      ap (λ p. P p (length (map f keys))) (place-map f s keys) ∙ ap (λ n. P (position_or_len (λ v. bytes_eq s (f v)) keys) n) (length-map f keys)

  -- what was met remains met
  pub met_stays : (keys : List V) (i : ℕ) → position (λ v. bytes_eq s (f v)) keys ≡ Some i → with_text (map f keys) s ≡ map f keys
  met_stays keys i e =
      let held : is_held (map f keys) s ≡ true = list_any_position (λ t. bytes_eq s t) (map f keys) ∙ ap is_some (met_map keys ∙ e) in
      ap (λ b. cond b (map f keys) (map f keys ++ s ∷ [])) held

  -- what is inserted is met afterwards
  pub met_new : (keys new : List V) (copy : V) → new ≡ cond (list_any (λ v. bytes_eq s (f v)) keys) keys (keys ++ copy ∷ []) → f copy ≡ s → map f new ≡ with_text (map f keys) s
  met_new keys new copy e is =
      ap (map f) e ∙ by (list_any (λ v. bytes_eq s (f v)) keys) ∙ ap (λ b. cond b (map f keys) (map f keys ++ s ∷ [])) (sym (any-map f (λ t. bytes_eq s t) keys))
    where
      by : (b : Bool) → map f (cond b keys (keys ++ copy ∷ [])) ≡ cond b (map f keys) (map f keys ++ s ∷ [])
      by true = refl
      by false = map-append f keys (copy ∷ []) ∙ ap (λ t. map f keys ++ t ∷ []) is
