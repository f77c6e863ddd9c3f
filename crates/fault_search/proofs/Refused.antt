-- The fault that a refusal shows by its line and its column.
use Rattle.std.proofs.Common.{◌≡◌, ℕ, ◌≤◌, List, length, Option, Some, None, Ok, Err, sym, ap, ◌∙◌, subst}
use Rattle.ops_base.specs.declared.endings.Fault.{Fault}
use Rattle.ops_grammar.specs.Places.{line_of, column_of}
use Rattle.ops_grammar.specs.Reads.{Read, reads}
use Rattle.ops_grammar.proofs.ReadsWithin.{reads-within}
use Rattle.ops_check.specs.Answered.{IsRefusal}
use Rattle.ops_check.specs.declared.faults.ProgramFault.TheVariants as refusal
use Rattle.fault_search.specs.declared.first.PlacedFault.{PlacedFault}
use Rattle.fault_search.specs.First.{fault_of_read, fault_of_text}

module _ (text copy : List ℕ) (e : copy ≡ text) where
  pub no_fault : (r : Read) → reads copy ≡ Ok r → None ≡ fault_of_text text
  no_fault r is = ap fault_of_read (sym (ap reads (sym e) ∙ is))

  module _ (f : Fault) (line column at : ℕ) (r : IsRefusal copy (refusal.At f line column)) (only : (k : ℕ) → k ≤ length text → line ≡ line_of text k → column ≡ column_of text k → at ≡ k) where
    there : reads text ≡ Err (record { fault = f; at = r.0 })
    there = ap reads (sym e) ∙ r.1

    inside : r.0 ≤ length text
    inside = reads-within text (record { fault = f; at = r.0 }) there

    is : at ≡ r.0
    is = only r.0 inside (r.2 ∙ ap (λ t. line_of t r.0) e) (r.3 ∙ ap (λ t. column_of t r.0) e)

    pub the_fault : Some (record { fault = f; at = at }) ≡ fault_of_text text
    the_fault =
        let P : ℕ → Option PlacedFault = λ n. Some (record { fault = f; at = n }) in
        ap P is ∙ ap fault_of_read (sym there)

    pub within : at ≤ length text
    within = subst (λ (n : ℕ). n ≤ length text) (sym is) inside
