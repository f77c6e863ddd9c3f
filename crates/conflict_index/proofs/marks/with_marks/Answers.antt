-- Of what comes, those before the one at hand are members, and the marks before it are of none that is left.
use Rattle.std.proofs.Common.{◌≡◌, ◌+◌, ◌∷◌, ◌++◌, [], List, take, drop, map, ap, sym, ◌∙◌, subst, inl, inr, arith}
use Rattle.std.specs.Prelude.{Contains}
use Rattle.std.proofs.lemmas.List.{drop_more, take_more, take_all, map-append, take-append-drop}
use Rattle.ops_base.specs.declared.rules.Inst.{Inst}
use Rattle.ops_base.specs.Instances.{Before}
use Rattle.ops_base.proofs.InOrder.{AllBefore, before_from_all_pairs}
use Rattle.ops_base.proofs.InstOrder.{before_differs}
use Rattle.ops_base.proofs.Members.{IsMember, member_from_contains, contains_from_member, map_member}
use Rattle.conflict_index.specs.Indexed.{Member}
use Rattle.conflict_index.specs.Keeping.{all_members, HasSame}
use Rattle.conflict_index.specs.Marks.{member_with, members_with}
use Rattle.conflict_index.specs.Rank.{Rank}
use Rattle.conflict_index.proofs.Looking.{append_before, from_place}
use Rattle.conflict_index.proofs.Restored.{same_more}
use Rattle.conflict_index.proofs.marks.with_marks.Goals as goal

pub add_one-requires-clause-apart : goal.add_one-requires-clause-apart
add_one-requires-clause-apart c = λ m h same.
    let come = c.args.come.now in
    let k = c.loop-inst.inst-index in
    let inst = c.inst-item.result in
    let make = member_with c.args.program.now.rules c.args.marks.now in
    let first : drop k come ≡ inst ∷ drop (k + 1) come =
    drop_more come k inst c.loop-inst-test.true ∙ ap (λ (i : Inst). i ∷ drop (k + 1) come) (sym c.inst-item.is) in
    let f = map_member make m (take k come) (member_from_contains m (map make (take k come)) ((c.loop-inst.invariant.members m).0 h)) in
    let P : List Inst → Type 0 = IsMember inst in
    let Q : List Inst → Type 0 = AllBefore Before in
    let before : Before f.0 inst = append_before Before (take k come) (drop k come) (subst Q (sym (take-append-drop k come)) (before_from_all_pairs Before come c.requires.come_in_order)) f.0 inst f.1 (subst P (sym first) (inl (λ i. inst))) in
    before_differs f.0 inst before (ap (λ (w : Member). w.inst) (sym f.2) ∙ same ∙ c.in_ok-copy.ensures)

pub loop-inst-preserved : goal.loop-inst-preserved
loop-inst-preserved c =
    let rules = c.args.program.now.rules in
    let marks = c.args.marks.now in
    let come = c.args.come.now in
    let k = c.loop-inst.inst-index in
    let inst = c.inst-item.result in
    let make = member_with rules marks in
    let first : drop k come ≡ inst ∷ drop (k + 1) come =
    drop_more come k inst c.loop-inst-test.true ∙ ap (λ (i : Inst). i ∷ drop (k + 1) come) (sym c.inst-item.is) in
    let P : List Inst → Type 0 = λ is. Contains is inst in
    let here : Contains (drop k come) inst = subst P (sym first) (contains_from_member inst (inst ∷ drop (k + 1) come) (inl (λ i. inst))) in
    let order : AllBefore Before (inst ∷ drop (k + 1) come) = subst (AllBefore Before) first (from_place k come c.requires.come_in_order) in
    let marked : c.look-next.result.1 ≡ (make inst).fired = c.look-next.ensures.found ∙ c.loop-inst.invariant.marks inst here in
    let specific : c.in_ok-rank.rank.key.specificity ≡ (make inst).specificity = ap (λ (r : Rank). r.key.specificity) c.in_ok-rank.ensures in
    let made : record { inst = c.in_ok-copy.field-0; specificity = c.in_ok-rank.rank.key.specificity; fired = c.look-next.result.1 } ≡ make inst =
    λ i. record { inst = c.in_ok-copy.ensures i; specificity = specific i; fired = marked i } in
    let more : members_with rules marks (take (k + 1) come) ≡ members_with rules marks (take k come) ++ make inst ∷ [] =
    ap (map make) (take_more come k inst c.loop-inst-test.true ∙ ap (λ (i : Inst). take k come ++ i ∷ []) (sym c.inst-item.is)) ∙ map-append make (take k come) (inst ∷ []) in
    record {
      kept = c.in_ok-add_one.ensures.kept;
      members = same_more (make inst) (record { inst = c.in_ok-copy.field-0; specificity = c.in_ok-rank.rank.key.specificity; fired = c.look-next.result.1 }) (members_with rules marks (take k come)) (members_with rules marks (take (k + 1) come))
          (all_members c.loop-inst.waiting.entries c.loop-inst.fired.entries) (all_members c.add_one.new.waiting.entries c.add_one.new.fired.entries) c.loop-inst.invariant.members c.in_ok-add_one.ensures.members made more;
      room = omega (arith, c.in_ok-add_one.ensures.room, c.loop-inst.invariant.room, c.loop-inst-test.true);
      marks = λ i h. (
          let m = member_from_contains i (drop (k + 1) come) h in
          let Q : List Inst → Type 0 = λ is. Contains is i in
          c.look-next.ensures.later i (order.0 i m) ∙ c.loop-inst.invariant.marks i (subst Q (sym first) (contains_from_member i (inst ∷ drop (k + 1) come) (inr m)))
          );
    }

pub returns-clause-members : goal.returns-clause-members
returns-clause-members c =
    let P : List Inst → Type 0 = λ is. HasSame (members_with c.args.program.now.rules c.args.marks.now is) (all_members c.loop-inst.waiting.entries c.loop-inst.fired.entries) in
    subst P (take_all c.loop-inst.inst-index c.args.come.now (omega (arith, c.loop-inst-test.false))) c.loop-inst.invariant.members
