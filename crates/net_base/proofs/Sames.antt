-- Each test of sameness is true exactly where the two are equal.
use mathlib.Core.Bool.{beq}
use Rattle.std.proofs.Common.{◌≡◌, ℕ, zero, suc, Bool, ◌==◌, ◌&&◌, List, refl, sym, ap, ◌∙◌}
use Rattle.std.specs.Prelude.{Decides}
use Rattle.std.specs.Cmp.{booleans_Decides}
use Rattle.std.specs.Cmp.Lexicographic.{pointwise}
use Rattle.std.proofs.lemmas.Bool.Decides.{Decides-eqb, Decides-int_eq, Decides-like, Decides-and}
use Rattle.std.proofs.lemmas.Slice.Eq.{slice_eq-Decides}
use Rattle.ops_base.specs.declared.values.Sym.{Sym}
use Rattle.ops_base.specs.declared.values.Value.{Value}
use Rattle.ops_base.specs.declared.values.Value.TheVariants.{Symbol, Whole}
use Rattle.ops_base.specs.declared.values.Pred.{Pred}
use Rattle.ops_base.specs.declared.values.Pred.TheVariants.{Eq, Ne, Lt, Le, Gt, Ge, SameKind}
use Rattle.ops_base.specs.declared.conditions.Operand.{Operand}
use Rattle.ops_base.specs.declared.conditions.Operand.TheVariants as operand
use Rattle.ops_base.specs.declared.conditions.Test.{Test}
use Rattle.ops_base.specs.Values.{are_same}
use Rattle.net_base.specs.declared.normal.Origin.{Origin}
use Rattle.net_base.specs.declared.normal.NormalOperand.{NormalOperand}
use Rattle.net_base.specs.declared.normal.NormalOperand.TheVariants as normal
use Rattle.net_base.specs.declared.normal.NormalTest.{NormalTest}
use Rattle.net_base.specs.declared.normal.NormalCondition.{NormalCondition}
use Rattle.net_base.specs.declared.normal.NormalPart.{NormalPart}
use Rattle.net_base.specs.declared.normal.NormalPart.TheVariants.{One, Group}
use Rattle.net_base.specs.Counting.{pred_number, are_same_preds, are_same_operands, are_same_tests, are_same_normal_operands, are_same_normal_tests, are_same_conditions, are_same_parts, Path, are_same_paths, are_same_alpha_lists}

-- of lists, where that of their items is so
each_Decides : {A : Type 0} {E : A → A → Bool} → ((a b : A) → Decides (E a b) (a ≡ b)) → (xs ys : List A) → Decides (pointwise E xs ys) (xs ≡ ys)
each_Decides {E} same xs ys = slice_eq-Decides same xs ys (pointwise E xs ys) refl

-- ---- values and predicates

same_symbols : (a b : Sym) → a.0 ≡ b.0 → Symbol a ≡ Symbol b
same_symbols a b e = λ k. Symbol (record { 0 = e k })

pub value_Decides : (a b : Value) → Decides (are_same a b) (a ≡ b)
value_Decides (Symbol a) (Symbol b) =
    (λ e. same_symbols a b ((Decides-eqb a.0 b.0).0 e), λ e. (let q : a ≡ b = cc in (Decides-eqb a.0 b.0).1 (ap (λ (s : Sym). s.0) q)))
value_Decides (Symbol a) (Whole y) = (λ e. cc, λ e. cc)
value_Decides (Whole x) (Symbol b) = (λ e. cc, λ e. cc)
value_Decides (Whole x) (Whole y) = (λ e. ap Whole ((Decides-int_eq x y).0 e), λ e. (Decides-int_eq x y).1 (cc))

pred_of : ℕ → Pred
pred_of zero = Eq
pred_of (suc zero) = Ne
pred_of (suc (suc zero)) = Lt
pred_of (suc (suc (suc zero))) = Le
pred_of (suc (suc (suc (suc zero)))) = Gt
pred_of (suc (suc (suc (suc (suc zero))))) = Ge
pred_of (suc (suc (suc (suc (suc (suc n)))))) = SameKind

pred_back : (p : Pred) → pred_of (pred_number p) ≡ p
unfolding pred_of
pred_back Eq = refl
pred_back Ne = refl
pred_back Lt = refl
pred_back Le = refl
pred_back Gt = refl
pred_back Ge = refl
pred_back SameKind = refl

pred_Decides : (p q : Pred) → Decides (are_same_preds p q) (p ≡ q)
pred_Decides p q =
    Decides-like (pred_number p == pred_number q) (λ e. sym (pred_back p) ∙ (ap pred_of e ∙ pred_back q)) (λ e. ap pred_number e)
    (Decides-eqb (pred_number p) (pred_number q))

-- ---- tests

operand_Decides : (o p : Operand) → Decides (are_same_operands o p) (o ≡ p)
operand_Decides (operand.Constant a) (operand.Constant b) = (λ e. ap operand.Constant ((value_Decides a b).0 e), λ e. (value_Decides a b).1 (cc))
operand_Decides (operand.Constant a) (operand.OneOf ys) = (λ e. cc, λ e. cc)
operand_Decides (operand.Constant a) (operand.Variable w) = (λ e. cc, λ e. cc)
operand_Decides (operand.OneOf xs) (operand.Constant b) = (λ e. cc, λ e. cc)
operand_Decides (operand.OneOf xs) (operand.OneOf ys) =
    (λ e. ap operand.OneOf ((each_Decides value_Decides xs ys).0 e), λ e. (each_Decides value_Decides xs ys).1 (cc))
operand_Decides (operand.OneOf xs) (operand.Variable w) = (λ e. cc, λ e. cc)
operand_Decides (operand.Variable v) (operand.Constant b) = (λ e. cc, λ e. cc)
operand_Decides (operand.Variable v) (operand.OneOf ys) = (λ e. cc, λ e. cc)
operand_Decides (operand.Variable v) (operand.Variable w) = (λ e. ap operand.Variable ((Decides-eqb v w).0 e), λ e. (Decides-eqb v w).1 (cc))

same_tests : (t u : Test) → t.field ≡ u.field → t.pred ≡ u.pred → t.operand ≡ u.operand → t.binds ≡ u.binds → t ≡ u
same_tests t u f p o b = λ k. record { field = f k; pred = p k; operand = o k; binds = b k }

test_Decides : (t u : Test) → Decides (are_same_tests t u) (t ≡ u)
test_Decides t u =
    Decides-like (are_same_tests t u) (λ h. same_tests t u h.0.0.0 h.0.0.1 h.0.1 h.1)
    (λ e. (((ap (λ (w : Test). w.field) e, ap (λ (w : Test). w.pred) e), ap (λ (w : Test). w.operand) e), ap (λ (w : Test). w.binds) e))
    (Decides-and (t.field == u.field && are_same_preds t.pred u.pred && are_same_operands t.operand u.operand) (beq t.binds u.binds)
    (Decides-and (t.field == u.field && are_same_preds t.pred u.pred) (are_same_operands t.operand u.operand)
    (Decides-and (t.field == u.field) (are_same_preds t.pred u.pred) (Decides-eqb t.field u.field) (pred_Decides t.pred u.pred))
    (operand_Decides t.operand u.operand))
    (booleans_Decides t.binds u.binds))

same_origins : (o p : Origin) → o.place ≡ p.place → o.field ≡ p.field → o ≡ p
same_origins o p a b = λ k. record { place = a k; field = b k }

origin_Decides : (o p : Origin) → Decides (o.place == p.place && o.field == p.field) (o ≡ p)
origin_Decides o p =
    Decides-like (o.place == p.place && o.field == p.field) (λ h. same_origins o p h.0 h.1)
    (λ e. (ap (λ (w : Origin). w.place) e, ap (λ (w : Origin). w.field) e))
    (Decides-and (o.place == p.place) (o.field == p.field) (Decides-eqb o.place p.place) (Decides-eqb o.field p.field))

normal_operand_Decides : (o p : NormalOperand) → Decides (are_same_normal_operands o p) (o ≡ p)
normal_operand_Decides (normal.Constant a) (normal.Constant b) = (λ e. ap normal.Constant ((value_Decides a b).0 e), λ e. (value_Decides a b).1 (cc))
normal_operand_Decides (normal.Constant a) (normal.OneOf ys) = (λ e. cc, λ e. cc)
normal_operand_Decides (normal.Constant a) (normal.Bound w) = (λ e. cc, λ e. cc)
normal_operand_Decides (normal.OneOf xs) (normal.Constant b) = (λ e. cc, λ e. cc)
normal_operand_Decides (normal.OneOf xs) (normal.OneOf ys) =
    (λ e. ap normal.OneOf ((each_Decides value_Decides xs ys).0 e), λ e. (each_Decides value_Decides xs ys).1 (cc))
normal_operand_Decides (normal.OneOf xs) (normal.Bound w) = (λ e. cc, λ e. cc)
normal_operand_Decides (normal.Bound v) (normal.Constant b) = (λ e. cc, λ e. cc)
normal_operand_Decides (normal.Bound v) (normal.OneOf ys) = (λ e. cc, λ e. cc)
normal_operand_Decides (normal.Bound v) (normal.Bound w) = (λ e. ap normal.Bound ((origin_Decides v w).0 e), λ e. (origin_Decides v w).1 (cc))

same_normal_tests : (t u : NormalTest) → t.field ≡ u.field → t.pred ≡ u.pred → t.operand ≡ u.operand → t ≡ u
same_normal_tests t u f p o = λ k. record { field = f k; pred = p k; operand = o k }

normal_test_Decides : (t u : NormalTest) → Decides (are_same_normal_tests t u) (t ≡ u)
normal_test_Decides t u =
    Decides-like (are_same_normal_tests t u) (λ h. same_normal_tests t u h.0.0 h.0.1 h.1)
    (λ e. ((ap (λ (w : NormalTest). w.field) e, ap (λ (w : NormalTest). w.pred) e), ap (λ (w : NormalTest). w.operand) e))
    (Decides-and (t.field == u.field && are_same_preds t.pred u.pred) (are_same_normal_operands t.operand u.operand)
    (Decides-and (t.field == u.field) (are_same_preds t.pred u.pred) (Decides-eqb t.field u.field) (pred_Decides t.pred u.pred))
    (normal_operand_Decides t.operand u.operand))

-- ---- conditions, paths and alpha lists

same_conditions : (c d : NormalCondition) → c.negated ≡ d.negated → c.class ≡ d.class → c.tests ≡ d.tests → c ≡ d
same_conditions c d n k t = λ i. record { negated = n i; class = k i; tests = t i }

condition_Decides : (c d : NormalCondition) → Decides (are_same_conditions c d) (c ≡ d)
condition_Decides c d =
    Decides-like (are_same_conditions c d) (λ h. same_conditions c d h.0.0 h.0.1 h.1)
    (λ e. ((ap (λ (w : NormalCondition). w.negated) e, ap (λ (w : NormalCondition). w.class) e), ap (λ (w : NormalCondition). w.tests) e))
    (Decides-and (beq c.negated d.negated && c.class == d.class) (pointwise are_same_normal_tests c.tests d.tests)
    (Decides-and (beq c.negated d.negated) (c.class == d.class) (booleans_Decides c.negated d.negated) (Decides-eqb c.class d.class))
    (each_Decides normal_test_Decides c.tests d.tests))

same_pairs : {X Y : Type 0} (a b : X × Y) → a.0 ≡ b.0 → a.1 ≡ b.1 → a ≡ b
same_pairs a b e f = λ k. (e k, f k)

part_Decides : (p q : NormalPart) → Decides (are_same_parts p q) (p ≡ q)
part_Decides (One c) (One d) = (λ e. ap One ((condition_Decides c d).0 e), λ e. (condition_Decides c d).1 (cc))
part_Decides (One c) (Group ds) = (λ e. cc, λ e. cc)
part_Decides (Group cs) (One d) = (λ e. cc, λ e. cc)
part_Decides (Group cs) (Group ds) = (λ e. ap Group ((each_Decides condition_Decides cs ds).0 e), λ e. (each_Decides condition_Decides cs ds).1 (cc))

pub are_same_paths-Decides : (p q : Path) → Decides (are_same_paths p q) (p ≡ q)
are_same_paths-Decides p q =
    Decides-like (are_same_paths p q) (λ h. same_pairs p q h.0 h.1) (λ e. (ap (λ (w : Path). w.0) e, ap (λ (w : Path). w.1) e))
    (Decides-and (pointwise are_same_parts p.0 q.0) (are_same_parts p.1 q.1) (each_Decides part_Decides p.0 q.0) (part_Decides p.1 q.1))

pub are_same_alpha_lists-Decides : (a b : ℕ × List Test) → Decides (are_same_alpha_lists a b) (a ≡ b)
are_same_alpha_lists-Decides a b =
    Decides-like (are_same_alpha_lists a b) (λ h. same_pairs a b h.0 h.1) (λ e. (ap (λ (w : ℕ × List Test). w.0) e, ap (λ (w : ℕ × List Test). w.1) e))
    (Decides-and (a.0 == b.0) (pointwise are_same_tests a.1 b.1) (Decides-eqb a.0 b.0) (each_Decides test_Decides a.1 b.1))
