-- Members of a new index, with marks from an old one.
use Rattle.std.specs.Prelude.{List, map}
use Rattle.ops_base.specs.declared.rules.Inst.{Inst}
use Rattle.ops_base.specs.declared.rules.Rule.{Rule}
use Rattle.ops_base.specs.Dominance.{specificity_of}
use Rattle.ops_base.specs.Refraction.{is_among}
use Rattle.conflict_index.specs.Indexed.{Member}

-- an instantiation with the specificity of its production, marked as fired exactly if it is among the marks
abbrev pub member_with : List Rule → List Inst → Inst → Member
member_with rules marks i = record { inst = i; specificity = specificity_of rules i.rule; fired = is_among marks i }

abbrev pub members_with : List Rule → List Inst → List Inst → List Member
members_with rules marks come = map (member_with rules marks) come
