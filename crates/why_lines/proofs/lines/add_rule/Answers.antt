use Rattle.std.proofs.Common.{◌≡◌, List, subst, sym, ◌∙◌}
use Rattle.std.specs.Prelude.{Contains}
use Rattle.ops_base.specs.WorkingMemory.{shown}
use Rattle.ops_base.proofs.Members.{member-map, member_from_contains, contains_from_member}
use Rattle.why.specs.declared.explaining.BoundInst.{BoundInst}
use Rattle.why.specs.declared.explaining.Why.{Why}
use Rattle.why.specs.Explaining.{Explains, insts_in}
use Rattle.why_lines.proofs.lines.add_rule.Goals as goal

pub add_checked-requires-clause-right : goal.add_checked-requires-clause-right
add_checked-requires-clause-right c = λ b m.
    let P : Why → Type 0 = Explains c.args.program.now.rules (shown c.args.wm.now) c.args.rule in
    let all = subst P c.in-Found.is c.in_ok-found.ensures.explains in
    let Q : List BoundInst → Type 0 = λ bs. Contains bs b in
    let there = subst Q c.as_slice.ensures m in
    let inst = contains_from_member b.inst (insts_in c.in-Found.found) (member-map (λ (x : BoundInst). x.inst) b c.in-Found.found (member_from_contains b c.in-Found.found there)) in
    ((all.sound b.inst inst).1, all.bound b there)
