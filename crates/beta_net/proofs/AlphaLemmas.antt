-- An alpha that is found, or one alpha more.
use Rattle.std.proofs.Common.{◌≡◌, ℕ, List, [], ◌∷◌, ◌++◌, length, map, slice_get, Some, refl, ap, ap₂, subst, sym, ◌∙◌, arith, ◌⊎◌, inl, inr, append-nil, ◌<◌, get_or, Bool, false, true≢false, ◌↔◌, IsTrue}
use Rattle.ops_base.specs.declared.conditions.Test.{Test}
use Rattle.net_base.specs.declared.nodes.Alpha.{Alpha}
use Rattle.beta_net.specs.declared.alphas.Alphas.{Alphas}
use Rattle.beta_net.specs.Codes.{alpha_code}
use Rattle.beta_net.specs.Built.{IsAlpha, HasAlpha, IsNewAlpha, AreAlphas, AddsAlpha, code_of_alpha}
use Rattle.beta_net.proofs.Lists.{same_some, get_seam, get_push, get_map, get_lt, get_of, map_push}

pub alpha_coded : (alphas : List Alpha) (codes : List ℕ) (class : ℕ) (tests : List Test) (code : ℕ) → codes ≡ map code_of_alpha alphas → code ≡ alpha_code class tests → (n : ℕ) → HasAlpha alphas class tests n → slice_get codes n ≡ Some code
alpha_coded alphas codes class tests code e q n h =
    ap (λ cs. slice_get cs n) e ∙ (get_map code_of_alpha alphas n h.alpha h.at ∙ ap Some (ap₂ alpha_code h.is.0 h.is.1 ∙ sym q))

pub no_alphas : (s : Alphas) → s.list.items ≡ [] → s.chains ≡ [] → AreAlphas s
no_alphas s e codes = record {
  distinct = λ n m a b at. (let lt = get_lt [] n a (ap (λ ls. slice_get ls n) (sym e) ∙ at) in absurd (omega arith));
  codes = codes ∙ ap (map code_of_alpha) (sym e);
}

pub alpha_old : (s : Alphas) (class : ℕ) (tests : List Test) (n : ℕ) → AreAlphas s → HasAlpha s.list.items class tests n → AddsAlpha s s class tests n
alpha_old s class tests n a h = record { more = []; grown = sym (append-nil s.list.items); has = h; only = λ m x at. inl at; alphas = a }

pub alpha_new : (old new : Alphas) (x : Alpha) (n code : ℕ) → AreAlphas old → new.list.items ≡ old.list.items ++ x ∷ [] → new.chains ≡ old.chains ++ code ∷ [] → code ≡ code_of_alpha x → n ≡ length old.list.items → IsNewAlpha old.list.items x.class x.tests → AddsAlpha old new x.class x.tests n
alpha_new old new x n code a grown codes coded at fresh = record {
  more = x ∷ [];
  grown = grown;
  has = record { alpha = x; at = ap₂ slice_get grown at ∙ get_seam old.list.items x []; is = (refl, refl) };
  only = λ m y here. elim (get_push old.list.items x m y (ap (λ ls. slice_get ls m) (sym grown) ∙ here)) [ inl h ↦ inl h | inr h ↦ inr (ap (λ (z : Alpha). z.class) h.1, ap (λ (z : Alpha). z.tests) h.1) ];
  alphas = record {
    distinct = λ m k y z hm hk i.
        by_both m k y z (get_push old.list.items x m y (ap (λ ls. slice_get ls m) (sym grown) ∙ hm)) (get_push old.list.items x k z (ap (λ ls. slice_get ls k) (sym grown) ∙ hk)) i;
    codes = codes ∙ (ap₂ (λ cs y. cs ++ y ∷ []) a.codes coded ∙ (sym (map_push code_of_alpha old.list.items x) ∙ ap (map code_of_alpha) (sym grown)));
  };
}
  where
    by_both : (m k : ℕ) (y z : Alpha) → ((slice_get old.list.items m ≡ Some y) ⊎ ((m ≡ length old.list.items) × (y ≡ x))) → ((slice_get old.list.items k ≡ Some z) ⊎ ((k ≡ length old.list.items) × (z ≡ x))) → IsAlpha y.class y.tests z → m ≡ k
    by_both m k y z (inl g) (inl h) i = a.distinct m k y z g h i
    by_both m k y z (inl g) (inr h) i =
        absurd (fresh m (record { alpha = y; at = g; is = (sym i.0 ∙ ap (λ (w : Alpha). w.class) h.1, sym i.1 ∙ ap (λ (w : Alpha). w.tests) h.1) }))
    by_both m k y z (inr g) (inl h) i =
        absurd (fresh k (record { alpha = z; at = h; is = (i.0 ∙ ap (λ (w : Alpha). w.class) g.1, i.1 ∙ ap (λ (w : Alpha). w.tests) g.1) }))
    by_both m k y z (inr g) (inr h) i = g.0 ∙ sym h.0

-- an alpha that is another is not this one
pub other_alpha : (alphas : List Alpha) (class : ℕ) (tests : List Test) (n : ℕ) (a : Alpha) (b : Bool) → n < length alphas → a ≡ get_or alphas n a → (IsTrue b ↔ IsAlpha class tests a) → b ≡ false → HasAlpha alphas class tests n → ⊥
other_alpha alphas class tests n a b lt is tells differs h =
    let same = same_some h.alpha a (sym h.at ∙ get_of alphas n a lt is) in
    true≢false (sym (tells.1 (subst (IsAlpha class tests) same h.is)) ∙ differs)
