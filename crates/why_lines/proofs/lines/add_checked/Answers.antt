use Rattle.std.proofs.Common.{◌≡◌, ℕ, ◌+◌, List, ◌++◌, true, false, map, drop, ap, sym, subst, ◌∙◌}
use Rattle.ops_base.specs.declared.values.Value.{Value}
use Rattle.ops_base.specs.WorkingMemory.{shown}
use Rattle.ops_base.proofs.Members.{contains_from_member}
use Rattle.why.specs.Bindings.{Binds}
use Rattle.why_lines.specs.WhyLines.{found_line, text_of}
use Rattle.why_lines.proofs.Sums.{items_here, member_at}
use Rattle.why_lines.proofs.lines.add_checked.Goals as goal
use Rattle.why_lines.proofs.lines.add_checked.Goals.{then-check+in_ok-add_found, else-check}

pub loop-item-preserved : goal.loop-item-preserved
loop-item-preserved c =
    let found = c.args.found.now in
    let item = c.item-item.result in
    let i = c.loop-item.item-index in
    let line = found_line c.args.names.now c.args.program.now.classes c.args.program.now.rules c.args.spots.now in
    let here = items_here line found i item c.loop-item.text.items c.loop-item-test.true c.item-item.is in
    let P : List Value → Type 0 = Binds c.args.program.now.rules (shown c.args.wm.now) item.inst in
    let right = c.requires.right item (contains_from_member item found (member_at found i item c.loop-item-test.true c.item-item.is)) in
    let yes : c.check.result ≡ true = c.check.ensures.1 (right.0, subst P (sym c.as_slice.ensures) right.1) in
    elim c.if-check.branch [
      | then-check+in_ok-add_found w ↦ rw w.text-is (ap (λ (t : List ℕ). t ++ text_of (map line (drop (i + 1) found))) w.in_ok-add_found.ensures ∙ sym here ∙ c.loop-item.invariant)
      | else-check w ↦ absurd (let bad : true ≡ false = sym yes ∙ w.if-check.false in cc)
    ]
