-- A pattern of constants matches what the positive condition with these constants matches.
use Rattle.std.proofs.Common.{◌≡◌, ℕ, suc, List, [], ◌∷◌, ◌++◌, filter, Bool, true, false, cond, ◌==◌, ◌&&◌, Option, Some, None, is_some, refl, ap, sym, ◌∙◌}
use Rattle.std.specs.Prelude.{option_and_then}
use Rattle.std.specs.List.{flat_map, list_all, AllByRecursion}
use Rattle.std.specs.List.Sorted.{IsStrictlySortedBy}
use Rattle.std.specs.Ordering.{nat_cmp}
use Rattle.std.specs.declared.cmp.Ordering.TheVariants.{Less}
use Rattle.std.proofs.lemmas.Map.Keys.{sorted_from_strictly_increasing, IsStrictlyIncreasing-from_sorted}
use Rattle.ops_base.specs.declared.commands.Command.TheVariants as command
use Rattle.ops_base.specs.declared.commands.Fixed.{Fixed}
use Rattle.ops_base.specs.declared.conditions.Test.{Test}
use Rattle.ops_base.specs.declared.elements.Element.{Element}
use Rattle.ops_base.specs.declared.matching.Binding.{Binding}
use Rattle.ops_base.specs.declared.values.Value.{Value}
use Rattle.ops_base.specs.Matching.{after_tests, match_of}
use Rattle.ops_base.specs.Values.{are_same}
use Rattle.ops_base.specs.WorkingMemory.{field_of, tags_of, HasRisingTags}
use Rattle.ops_meaning.specs.Acting.{Setting}
use Rattle.ops_meaning.specs.Running.{Session, has_values, meets, lists, element_lines, command_done}
use Rattle.run_laws.specs.Patterns.{equalities, condition_with, meeting}

-- ---- one condition

-- these bindings, if the test passes
abbrev kept : Bool → List Binding → Option (List Binding)
kept b bindings = cond b (Some bindings) None

module _ (e : Element) (bindings : List Binding) where
  -- the values from a field on, and then the other tests
  values_met : (rest : List Test) (r : Bool) (field : ℕ) (vs : List Value) → after_tests rest e bindings ≡ kept r bindings → after_tests (equalities field vs ++ rest) e bindings ≡ kept (has_values e field vs && r) bindings
  values_met rest r field [] h = h
  values_met rest r field (v ∷ vs) h = by (are_same (field_of e field) v) (values_met rest r (suc field) vs h)
    where
      by : (b : Bool) → after_tests (equalities (suc field) vs ++ rest) e bindings ≡ kept (has_values e (suc field) vs && r) bindings
          → option_and_then (λ b. after_tests (equalities (suc field) vs ++ rest) e b) (cond b (Some bindings) None) ≡ kept ((b && has_values e (suc field) vs) && r) bindings
      by true ih = ih
      by false ih = refl

  puts_met : (puts : List Fixed) → after_tests (flat_map (λ p. equalities p.field p.values) puts) e bindings ≡ kept (list_all (λ p. has_values e p.field p.values) puts) bindings
  puts_met [] = refl
  puts_met (p ∷ puts) = values_met (flat_map (λ p. equalities p.field p.values) puts) (list_all (λ p. has_values e p.field p.values) puts) p.field p.values (puts_met puts)

pub pattern_met : (class : ℕ) (puts : List Fixed) (e : Element) (bindings : List Binding) → match_of (condition_with class puts) e bindings ≡ cond (meets (Some (class, puts)) e) (Some bindings) None
pattern_met class puts e bindings = by (e.class == class)
  where
    by : (b : Bool) → cond b (after_tests (flat_map (λ p. equalities p.field p.values) puts) e bindings) None ≡ cond (b && list_all (λ p. has_values e p.field p.values) puts) (Some bindings) None
    by true = puts_met e bindings puts
    by false = refl

-- ---- all of working memory

same_filter : {X : Type 0} (p q : X → Bool) → ((x : X) → p x ≡ q x) → (xs : List X) → filter p xs ≡ filter q xs
same_filter p q h [] = refl
same_filter p q h (x ∷ xs) =
    ap (λ b. cond b (x ∷ filter p xs) (filter p xs)) (h x) ∙ ap (λ ys. cond (q x) (x ∷ ys) ys) (same_filter p q h xs)

is_met : (b : Bool) → b ≡ is_some {T = List Binding} (cond b (Some []) None)
is_met true = refl
is_met false = refl

shown_are : (class : ℕ) (puts : List Fixed) (wm : List Element) → filter (meets (Some (class, puts))) wm ≡ meeting (condition_with class puts) wm
shown_are class puts wm =
    same_filter (meets (Some (class, puts))) (λ e. is_some (match_of (condition_with class puts) e [])) (λ e. is_met (meets (Some (class, puts)) e) ∙ ap is_some (sym (pattern_met class puts e []))) wm

pub pattern_listed : (s : Setting) (limit column class : ℕ) (puts : List Fixed) (k : Session)
    → command_done s limit column (command.Ppwm (Some (class, puts))) k ≡ lists column (element_lines k.course.names s.classes (meeting (condition_with class puts) k.course.wm)) k
pattern_listed s limit column class puts k =
    ap (λ es. lists column (element_lines k.course.names s.classes es) k) (shown_are class puts k.course.wm)

-- ---- in the order of the tags

each_kept : (P : ℕ → Type 0) (p : Element → Bool) (wm : List Element) → AllByRecursion P (tags_of wm) → AllByRecursion P (tags_of (filter p wm))
each_kept P p [] h = h
each_kept P p (e ∷ wm) h = by (p e) (each_kept P p wm h.1)
  where
    by : (b : Bool) → AllByRecursion P (tags_of (filter p wm)) → AllByRecursion P (tags_of (cond b (e ∷ filter p wm) (filter p wm)))
    by true ih = (h.0, ih)
    by false ih = ih

sorted_kept : (p : Element → Bool) (wm : List Element) → IsStrictlySortedBy nat_cmp (tags_of wm) → IsStrictlySortedBy nat_cmp (tags_of (filter p wm))
unfolding IsStrictlySortedBy
sorted_kept p [] h = h
sorted_kept p (e ∷ wm) h = by (p e) (sorted_kept p wm h.1)
  where
    by : (b : Bool) → IsStrictlySortedBy nat_cmp (tags_of (filter p wm)) → IsStrictlySortedBy nat_cmp (tags_of (cond b (e ∷ filter p wm) (filter p wm)))
    by true ih = (each_kept (λ y. nat_cmp e.tag y ≡ Less) p wm h.0, ih)
    by false ih = ih

-- the elements that a test keeps are in the order of their tags
pub rising_kept : (p : Element → Bool) (wm : List Element) → HasRisingTags wm → HasRisingTags (filter p wm)
rising_kept p wm h =
    IsStrictlyIncreasing-from_sorted (tags_of (filter p wm)) (sorted_kept p wm (sorted_from_strictly_increasing (tags_of wm) h))
