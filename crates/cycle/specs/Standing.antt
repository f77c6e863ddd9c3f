-- What a firing changes in a state: working memory, the marks, and the last tag.
use Rattle.std.specs.Prelude.{ℕ, List, [], ◌∷◌, ◌↔◌, Contains, filter, not}
use Rattle.std.specs.Ordering.{match_ordering}
use Rattle.ops_base.specs.declared.elements.Element.{Element}
use Rattle.ops_base.specs.declared.rules.Inst.{Inst}
use Rattle.ops_base.specs.Instances.{IsInOrder, by_rule_and_tags}
use Rattle.ops_base.specs.Refraction.{is_among}
use Rattle.ops_base.specs.WorkingMemory.{done, last_after}
use Rattle.work_store.specs.Stored.{Stored}
use Rattle.conflict_index.specs.Indexed.{fired_of}
use Rattle.cycle.specs.States.{Held}
use Rattle.cycle.specs.declared.fired.Fired.{Fired}

-- working memory, the marks in the order of the conflict set, and the last tag that was assigned
pub record Standing : Type 0 where
  pub wm : List Element
  pub fired : List Inst
  pub last : ℕ

-- the same for a state, if `stored` gives the store of its matcher
abbrev pub standing : {M : Type 0} → (M → Stored) → Held M → Standing
standing stored s = record {
  wm = (stored s.matcher).elements;
  fired = fired_of s.index.members;
  last = (stored s.matcher).last;
}

-- these instantiations, which are in order, with this one inserted at its place
abbrev pub with_inst : Inst → List Inst → List Inst
with_inst i [] = i ∷ []
with_inst i (j ∷ insts) = match_ordering (by_rule_and_tags i j) (i ∷ j ∷ insts) (i ∷ insts) (j ∷ with_inst i insts)

-- exactly what was found before and is not found now, in order
pub record AreGone (before now gone : List Inst) : Type 0 where
  pub are : (i : Inst) → Contains gone i ↔ (Contains before i × ¬ Contains now i)
  pub in_order : IsInOrder gone

-- these instantiations without those that are gone
abbrev pub without_gone : List Inst → List Inst → List Inst
without_gone gone insts = filter (λ i. not (is_among gone i)) insts

-- what a firing leaves: its changes are made, the instantiation is marked, and marks of instantiations that are gone
-- are dropped
abbrev pub after_firing : Fired → Standing → Standing
after_firing f s = record {
  wm = done s.wm f.changes;
  fired = without_gone f.gone (with_inst f.inst s.fired);
  last = last_after s.last f.changes;
}
