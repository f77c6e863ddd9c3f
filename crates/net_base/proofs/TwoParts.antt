-- The normal tests of an element are its alpha tests and its join tests.
use Rattle.std.proofs.Common.{◌≡◌, ◌≢◌, ℕ, zero, suc, Bool, true, false, cond, ◌==◌, ◌&&◌, List, [], ◌∷◌, ◌++◌, Option, Some, None, option_map, slice_index, refl, sym, ap, ap₂, ◌∙◌, length}
use Rattle.std.proofs.Math.Seq.{get_or-append_seam}
use Rattle.std.proofs.lemmas.Bool.{eqb-true, eqb-false}
use Rattle.std.specs.List.{list_all, cons_option}
use Rattle.ops_base.specs.declared.conditions.Operand.TheVariants.{Variable}
use Rattle.ops_base.specs.declared.elements.Element.{Element}
use Rattle.ops_base.specs.Values.{holds_of}
use Rattle.ops_base.specs.WorkingMemory.{field_of}
use Rattle.net_base.specs.declared.normal.Origin.{Origin}
use Rattle.net_base.specs.declared.normal.NormalOperand.{NormalOperand}
use Rattle.net_base.specs.declared.normal.NormalOperand.TheVariants as normal
use Rattle.net_base.specs.declared.normal.NormalTest.{NormalTest}
use Rattle.net_base.specs.Normal.{own_operand, joined_origin, alpha_tests, join_tests}
use Rattle.net_base.specs.Tokens.{Elements, field_in, alpha_test_holds, join_test_holds}
use Rattle.net_base.proofs.Variables.{origin_value}
use Rattle.net_base.proofs.OneElement.{normal_operand_holds, normal_test_holds}

-- a further tag changes no other place
pub at_other : (t : List ℕ) (x p : ℕ) → p ≢ length t → slice_index (t ++ x ∷ []) p ≡ slice_index t p
at_other [] x zero ne = absurd (ne refl)
at_other [] x (suc p) ne = refl
at_other (y ∷ t) x zero ne = refl
at_other (y ∷ t) x (suc p) ne = at_other t x p (λ e. ne (ap suc e))

pub at_own : (t : List ℕ) (x : ℕ) → slice_index (t ++ x ∷ []) (length t) ≡ x
at_own t x = get_or-append_seam t x [] 0

and_left : (h r a j : Bool) → r ≡ (a && j) → (h && r) ≡ ((h && a) && j)
and_left true r a j e = e
and_left false r a j e = refl

and_right : (h r a j : Bool) → r ≡ (a && j) → (h && r) ≡ (a && (h && j))
and_right true r a j e = e
and_right false r true j e = refl
and_right false r false j e = refl

pub two_parts : (el : Elements) (t : List ℕ) (x : ℕ) (e : Element) (ns : List NormalTest) → el x ≡ Some e
    → list_all (normal_test_holds el (t ++ x ∷ []) e) ns ≡ (list_all (alpha_test_holds e) (alpha_tests (length t) ns) && list_all (join_test_holds el t x) (join_tests (length t) ns))
two_parts el t x e [] is = refl
two_parts el t x e (n ∷ ns) is = by_operand (two_parts el t x e ns is) n.operand
  where
    by_place : (list_all (normal_test_holds el (t ++ x ∷ []) e) ns ≡ (list_all (alpha_test_holds e) (alpha_tests (length t) ns) && list_all (join_test_holds el t x) (join_tests (length t) ns))) → (o : Origin) (b : Bool) → (o.place == length t) ≡ b
        → (holds_of n.pred (field_of e n.field) (origin_value el (t ++ x ∷ []) o) && list_all (normal_test_holds el (t ++ x ∷ []) e) ns)
        ≡ (list_all (alpha_test_holds e) (cons_option (option_map (λ p. record { field = n.field; pred = n.pred; operand = p; binds = false }) (cond b (Some (Variable o.field)) None)) (alpha_tests (length t) ns))
        && list_all (join_test_holds el t x) (cons_option (option_map (λ (s : Origin). record { field = n.field; pred = n.pred; place = s.place; other = s.field }) (cond b None (Some o))) (join_tests (length t) ns)))
    by_place ih o true q =
        ap (λ (z : Option Element). holds_of n.pred (field_of e n.field) (field_in z o.field) && list_all (normal_test_holds el (t ++ x ∷ []) e) ns) (ap (λ p. el (slice_index (t ++ x ∷ []) p)) (eqb-true o.place (length t) q) ∙ (ap el (at_own t x) ∙ is))
        ∙ and_left (holds_of n.pred (field_of e n.field) (field_of e o.field)) (list_all (normal_test_holds el (t ++ x ∷ []) e) ns) (list_all (alpha_test_holds e) (alpha_tests (length t) ns)) (list_all (join_test_holds el t x) (join_tests (length t) ns)) ih
    by_place ih o false q =
        ap₂ (λ (y z : Option Element). holds_of n.pred (field_in y n.field) (field_in z o.field) && list_all (normal_test_holds el (t ++ x ∷ []) e) ns) (sym is) (ap el (at_other t x o.place (eqb-false o.place (length t) q)))
        ∙ and_right (holds_of n.pred (field_in (el x) n.field) (field_in (el (slice_index t o.place)) o.field)) (list_all (normal_test_holds el (t ++ x ∷ []) e) ns) (list_all (alpha_test_holds e) (alpha_tests (length t) ns)) (list_all (join_test_holds el t x) (join_tests (length t) ns)) ih

    by_operand : (list_all (normal_test_holds el (t ++ x ∷ []) e) ns ≡ (list_all (alpha_test_holds e) (alpha_tests (length t) ns) && list_all (join_test_holds el t x) (join_tests (length t) ns))) → (o : NormalOperand)
        → (normal_operand_holds n.pred (field_of e n.field) o el (t ++ x ∷ []) && list_all (normal_test_holds el (t ++ x ∷ []) e) ns)
        ≡ (list_all (alpha_test_holds e) (cons_option (option_map (λ p. record { field = n.field; pred = n.pred; operand = p; binds = false }) (own_operand (length t) o)) (alpha_tests (length t) ns))
        && list_all (join_test_holds el t x) (cons_option (option_map (λ (s : Origin). record { field = n.field; pred = n.pred; place = s.place; other = s.field }) (joined_origin (length t) o)) (join_tests (length t) ns)))
    by_operand ih (normal.Constant c) = and_left (normal_operand_holds n.pred (field_of e n.field) (normal.Constant c) el (t ++ x ∷ [])) (list_all (normal_test_holds el (t ++ x ∷ []) e) ns) (list_all (alpha_test_holds e) (alpha_tests (length t) ns)) (list_all (join_test_holds el t x) (join_tests (length t) ns)) ih
    by_operand ih (normal.OneOf cs) = and_left (normal_operand_holds n.pred (field_of e n.field) (normal.OneOf cs) el (t ++ x ∷ [])) (list_all (normal_test_holds el (t ++ x ∷ []) e) ns) (list_all (alpha_test_holds e) (alpha_tests (length t) ns)) (list_all (join_test_holds el t x) (join_tests (length t) ns)) ih
    by_operand ih (normal.Bound o) = by_place ih o (o.place == length t) refl
