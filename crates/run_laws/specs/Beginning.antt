-- The state in which a right side begins.
use Rattle.std.specs.Prelude.{◌≡◌, All, Contains, slice_get, Some}
use Rattle.ops_base.specs.declared.direct.Partial.{Partial}
use Rattle.ops_base.specs.declared.rules.Inst.{Inst}
use Rattle.ops_base.specs.declared.rules.Rule.{Rule}
use Rattle.ops_base.specs.ConflictSet.{matches_of}
use Rattle.ops_base.specs.WorkingMemory.{tags_of}
use Rattle.ops_meaning.specs.Acting.{Setting, Given, begun}

-- the tags of the instantiation, and the bindings with which its right side begins
abbrev pub begun_match : Setting → Given → Inst → Partial
begun_match s g i = record { tags = i.tags; bindings = (begun s i g).bindings }

-- The instantiation is of a rule. The walk over the rule's conditions ends at these tags with these bindings, and with
-- no others. The cells hold the elements with these tags, each of which is in working memory.
pub record BeginsAsMatched (s : Setting) (g : Given) (i : Inst) : Type 0 where
  pub rule : Rule
  pub there : slice_get s.rules i.rule ≡ Some rule
  pub accepted : Contains (matches_of g.wm rule.conditions) (begun_match s g i)
  pub only : (p : Partial) → Contains (matches_of g.wm rule.conditions) p → p.tags ≡ i.tags → p ≡ begun_match s g i
  pub cells : tags_of (begun s i g).cells ≡ i.tags
  pub elements : All (Contains g.wm) (begun s i g).cells
