use Rattle.std.proofs.Common.{◌≡◌, List, sym, subst}
use Rattle.std.specs.Prelude.{◌↔◌, Contains}
use Rattle.ops_base.specs.declared.rules.Inst.{Inst}
use Rattle.conflict_index.specs.Indexed.{Indexed, insts_of}
use Rattle.cycle.proofs.state.State.adopt.Goals as goal

-- what was asked of these is asked of what was put into its place
moved : {M : Type 0} (found : M → List Inst) (m n : M) (x y : Indexed) → n ≡ m → y ≡ x → ((i : Inst) → Contains (insts_of x.members) i ↔ Contains (found m) i) → (i : Inst)
    → Contains (insts_of y.members) i ↔ Contains (found n) i
moved {M} found m n x y e f h i =
    let P : Indexed → Type 0 = λ w. Contains (insts_of w.members) i ↔ Contains (found n) i in
    let Q : M → Type 0 = λ w. Contains (insts_of x.members) i ↔ Contains (found w) i in
    subst P (sym f) (subst Q (sym e) (h i))

pub of-requires-clause-same : goal.of-requires-clause-same
of-requires-clause-same g c =
    moved g.M.Matcher.found c.args.matcher c.in_ok-matcher.matcher c.args.index c.in_ok-index.index.value c.in_ok-matcher.ensures c.in_ok-index.ensures.ok c.requires.same
