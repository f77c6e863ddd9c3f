-- The contents of an index of the conflict set.
use Rattle.std.specs.Prelude.{◌≡◌, ℕ, List, [], map, filter, Bool, not, All}
use Rattle.ops_base.specs.declared.commands.Strategy.{Strategy}
use Rattle.ops_base.specs.declared.commands.Strategy.TheVariants.{Lex}
use Rattle.ops_base.specs.declared.rules.Inst.{Inst}
use Rattle.ops_base.specs.declared.rules.Rule.{Rule}
use Rattle.ops_base.specs.Dominance.{downwards, first_tag, is_greater, specificity_of}
use Rattle.resolution.specs.Keys.{Key, compare_keys}

-- an instantiation of the conflict set, the specificity that its production had when it came, and whether it is marked
-- as fired
pub record Member : Type 0 where
  pub inst : Inst
  pub specificity : ℕ
  pub fired : Bool

-- the strategy in force, and the members in the order of rule and tags
pub record Indexed : Type 0 where
  pub strategy : Strategy
  pub members : List Member

-- no members, under LEX
abbrev pub nothing_indexed : Indexed
nothing_indexed = record { strategy = Lex; members = [] }

abbrev pub insts_of : List Member → List Inst
insts_of members = map (λ m. m.inst) members

-- the members that have not fired
abbrev pub waiting : List Member → List Member
waiting members = filter (λ m. not m.fired) members

-- the instantiations that are marked as fired
abbrev pub fired_of : List Member → List Inst
fired_of members = insts_of (filter (λ m. m.fired) members)

-- the key of an instantiation whose production has this specificity
abbrev pub key_with : Inst → ℕ → Key
key_with i specificity = record {
  first = first_tag i;
  sorted = downwards i.tags;
  specificity = specificity;
  rule = i.rule;
  tags = i.tags;
}

abbrev pub key_of : Member → Key
key_of m = key_with m.inst m.specificity

-- the first dominates the second, according to the specificities that are kept with them
abbrev pub outranks : Strategy → Member → Member → Bool
outranks strategy m n = is_greater (compare_keys strategy (key_of m) (key_of n))

-- each member is kept with the specificity that its production has among these rules
abbrev pub KeepsSpecificities : List Rule → List Member → Type 0
KeepsSpecificities rules members = All (λ m. m.specificity ≡ specificity_of rules m.inst.rule) members
