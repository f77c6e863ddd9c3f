use Rattle.std.proofs.Common.{◌≡◌, ◌++◌, List, ℕ, ap, sym, subst}
use Rattle.std.specs.Prelude.{Result, Ok, Err, IfOk}
use Rattle.ops_base.specs.declared.rules.Inst.{Inst}
use Rattle.ops_base.specs.declared.rules.Rule.{Rule}
use Rattle.ops_base.specs.Dominance.{downwards, specificity_of}
use Rattle.resolution.specs.Keys.{Key, IsKey, key_from}
use Rattle.resolution.proofs.Halves.{is_key_from}
use Rattle.resolution.proofs.key.Goals as goal

is_key : {E : Type 0} (rules : List Rule) (i : Inst) (tags : List ℕ) (specificity : ℕ) (r : Result Key E) → tags ≡ i.tags → specificity ≡ specificity_of rules i.rule
    → IfOk r (λ k. k ≡ key_from (downwards tags ++ tags) i.rule specificity) → IfOk r (λ k. IsKey rules i k)
is_key rules i tags specificity (Ok k) t s e =
    subst (IsKey rules i) (sym e) (is_key_from rules i (downwards tags ++ tags) specificity (ap (λ (xs : List ℕ). downwards xs ++ xs) t) s)
is_key rules i tags specificity (Err f) t s e = tt

pub returns : goal.returns
returns c =
    is_key c.args.program.now.rules c.args.inst.now _ c.specificity_in-specificity.result c.key_of.result c.as_slice.ensures
    c.specificity_in-specificity.ensures c.key_of.ensures
