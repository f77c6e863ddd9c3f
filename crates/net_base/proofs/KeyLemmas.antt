-- Keys are the same exactly where they are equal.
use Rattle.std.proofs.Common.{◌≡◌, ◌==◌, ◌&&◌, Option, Some, None, refl, sym, ap, subst}
use Rattle.std.specs.Prelude.{Decides}
use Rattle.std.specs.Option.{option_eq}
use Rattle.std.proofs.lemmas.Bool.Decides.{Decides-eqb, Decides-like, Decides-and}
use Rattle.ops_base.specs.declared.values.Value.{Value}
use Rattle.ops_base.specs.declared.values.Value.TheVariants.{Symbol, Whole}
use Rattle.ops_base.specs.contracts.values.ValuePartialEq.TheImpl as value
use Rattle.ops_base.specs.Values.{are_same}
use Rattle.net_base.specs.declared.keys.Constant.{Constant}
use Rattle.net_base.specs.declared.keys.Key.{Key}
use Rattle.net_base.specs.contracts.keys.ConstantPartialEq.TheImpl as constant
use Rattle.net_base.specs.Keys.{same_key}
use Rattle.net_base.proofs.Sames.{value_Decides}

value_is : (a b : Value) → value.ghosts.eq a b ≡ are_same a b
value_is (Symbol a) (Symbol b) = refl
value_is (Symbol a) (Whole y) = refl
value_is (Whole x) (Symbol b) = refl
value_is (Whole x) (Whole y) = refl

same_value_Decides : (a b : Value) → Decides (value.ghosts.eq a b) (a ≡ b)
same_value_Decides a b = subst (λ t. Decides t (a ≡ b)) (sym (value_is a b)) (value_Decides a b)

same_constants : (c d : Constant) → c.field ≡ d.field → c.value ≡ d.value → c ≡ d
same_constants c d f v = λ k. record { field = f k; value = v k }

constant_Decides : (c d : Constant) → Decides (constant.ghosts.eq c d) (c ≡ d)
constant_Decides c d =
    Decides-like (c.field == d.field && value.ghosts.eq c.value d.value) (λ h. same_constants c d h.0 h.1)
    (λ e. (ap (λ (w : Constant). w.field) e, ap (λ (w : Constant). w.value) e))
    (Decides-and (c.field == d.field) (value.ghosts.eq c.value d.value) (Decides-eqb c.field d.field) (same_value_Decides c.value d.value))

option_Decides : (o p : Option Constant) → Decides (option_eq constant.ghosts.eq o p) (o ≡ p)
option_Decides None None = (λ e. refl, λ e. refl)
option_Decides None (Some d) = (λ e. cc, λ e. cc)
option_Decides (Some c) None = (λ e. cc, λ e. cc)
option_Decides (Some c) (Some d) = (λ e. ap Some ((constant_Decides c d).0 e), λ e. (constant_Decides c d).1 (cc))

same_keys : (k q : Key) → k.class ≡ q.class → k.constant ≡ q.constant → k ≡ q
same_keys k q f v = λ i. record { class = f i; constant = v i }

pub key_Decides : (k q : Key) → Decides (same_key k q) (k ≡ q)
key_Decides k q =
    Decides-like (k.class == q.class && option_eq constant.ghosts.eq k.constant q.constant) (λ h. same_keys k q h.0 h.1)
    (λ e. (ap (λ (w : Key). w.class) e, ap (λ (w : Key). w.constant) e))
    (Decides-and (k.class == q.class) (option_eq constant.ghosts.eq k.constant q.constant) (Decides-eqb k.class q.class) (option_Decides k.constant q.constant))
