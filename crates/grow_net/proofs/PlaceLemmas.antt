-- Places among alphas that are known and those that come after them.
use Rattle.std.proofs.Common.{◌≡◌, ℕ, ◌+◌, ◌<◌, List, [], ◌∷◌, ◌++◌, length, slice_get, get_or, Some, sym, ap, subst, ◌∙◌, append-nil, append_assoc, length-append, ◌⊎◌, inl, inr}
use Rattle.std.specs.Prelude.{Contains}
use Rattle.ops_base.proofs.Members.{IsMember, member_from_contains, contains_from_member, member_cases}
use Rattle.net_base.specs.declared.nodes.Alpha.{Alpha}
use Rattle.beta_net.proofs.Lists.{get_left, get_seam, get_push, get_of}
use Rattle.grow_net.specs.Behind.{HaveNoneInCommon, ArePlaces, AddsPlace}
use Rattle.grow_net.proofs.Joined.{get_behind}

pub place_found : (known more : List Alpha) (a : Alpha) (p : ℕ) → slice_get known p ≡ Some a → AddsPlace known more more a p
place_found known more a p at = record { rest = []; grown = sym (append-nil more); at = get_left known more p a at; fresh = λ h. h }

pub place_added : (known old new : List Alpha) (a c : Alpha) (p : ℕ) → c ≡ a → new ≡ old ++ c ∷ [] → p ≡ length known + length old → (Contains known a → ⊥) → AddsPlace known old new a p
place_added known old new a c p same grown is none = record {
  rest = c ∷ [];
  grown = grown;
  at = ap (slice_get (known ++ new)) is ∙ (get_behind known new (length old) ∙ (ap (λ z. slice_get z (length old)) grown ∙ (get_seam old c [] ∙ ap Some same)));
  fresh = λ h x has known_has. by h x known_has (member_cases x old (c ∷ []) (subst (IsMember x) grown (member_from_contains x new has)));
}
  where
    by : HaveNoneInCommon known old → (x : Alpha) → Contains known x → IsMember x old ⊎ IsMember x (c ∷ []) → ⊥
    by h x known_has (inl m) = h x (contains_from_member x old m) known_has
    by h x known_has (inr (inl e)) = none (subst (λ z. Contains known z) (e ∙ same) known_has)
    by h x known_has (inr (inr e)) = absurd e

-- the first of the added alphas have their places, and none that came is known
pub record ArePlacedSo (known more added : List Alpha) (places : List ℕ) (bound : ℕ) : Type 0 where
  pub count : length places ≡ bound
  pub each : (n p : ℕ) → slice_get places n ≡ Some p → (a : Alpha) × (slice_get added n ≡ Some a) × (slice_get (known ++ more) p ≡ Some a)
  pub fresh : HaveNoneInCommon known more

pub placed_none : (known more added : List Alpha) (places : List ℕ) → more ≡ [] → places ≡ [] → ArePlacedSo known more added places 0
placed_none known more added places none empty = record {
  count = ap length empty;
  each = λ n p at. absurd (let e = sym (ap (λ z. slice_get z n) empty) ∙ at in cc);
  fresh = λ a has known_has. absurd (member_from_contains a [] (subst (λ z. Contains z a) none has));
}

pub placed_next : (known old new added : List Alpha) (places places' : List ℕ) (bound p : ℕ) (a : Alpha) → bound < length added → a ≡ get_or added bound a → places' ≡ places ++ p ∷ [] → AddsPlace known old new a p
    → ArePlacedSo known old added places bound → ArePlacedSo known new added places' (bound + 1)
placed_next known old new added places places' bound p a low is grown adds h = record {
  count = ap length grown ∙ (length-append places (p ∷ []) ∙ ap (λ z. z + 1) h.count);
  each = λ n q at. by n q (get_push places p n q (sym (ap (λ z. slice_get z n) grown) ∙ at));
  fresh = adds.fresh h.fresh;
}
  where
    by : (n q : ℕ) → (slice_get places n ≡ Some q) ⊎ ((n ≡ length places) × (q ≡ p)) → (b : Alpha) × (slice_get added n ≡ Some b) × (slice_get (known ++ new) q ≡ Some b)
    by n q (inl at) =
        let e = h.each n q at in
        (e.0, e.1, ap (λ z. slice_get z q) (ap (λ z. known ++ z) adds.grown ∙ sym (append_assoc known old adds.rest)) ∙ get_left (known ++ old) adds.rest q e.0 e.2)
    by n q (inr e) = (a, ap (slice_get added) (e.0 ∙ h.count) ∙ get_of added bound a low is, ap (slice_get (known ++ new)) e.1 ∙ adds.at)

pub placed_all : (known more added : List Alpha) (places : List ℕ) (bound : ℕ) → bound ≡ length added → ArePlacedSo known more added places bound → ArePlaces (known ++ more) added places
placed_all known more added places bound all h = record {
  count = h.count ∙ all;
  each = λ n p at. let e = h.each n p at in e.2 ∙ sym e.1;
}
