-- Links: the paths of rules' normal parts, each once.
use Rattle.std.specs.Prelude.{◌≡◌, ◌<◌, ◌+◌, ℕ, zero, suc, Bool, false, not, List, [], ◌∷◌, ◌++◌, map, length, slice_get, Option, Some, None, ◌⊎◌, if◌then◌else◌}
use Rattle.std.specs.List.{AllByRecursion}
use Rattle.ops_base.specs.declared.conditions.Condition.{Condition}
use Rattle.ops_base.specs.declared.conditions.Part.{Part}
use Rattle.ops_base.specs.declared.conditions.Part.TheVariants as part
use Rattle.net_base.specs.declared.normal.Binder.{Binder}
use Rattle.net_base.specs.declared.normal.NormalCondition.{NormalCondition}
use Rattle.net_base.specs.declared.normal.NormalPart.{NormalPart}
use Rattle.net_base.specs.declared.normal.NormalPart.TheVariants.{One, Group}
use Rattle.net_base.specs.Normal.{binders_after, normal_of, normal_members, normal_parts}
use Rattle.net_base.specs.Shape.{positives, as_parts, IsIn}
use Rattle.beta_net.specs.declared.links.Link.{Link}
use Rattle.beta_net.specs.declared.links.Links.{Links}
use Rattle.beta_net.specs.declared.paths.End.{End}
use Rattle.beta_net.specs.Codes.{part_code}

-- ---- the parts of a path

abbrev pub path_above : (ℕ → List NormalPart) → Option ℕ → List NormalPart
path_above paths None = []
path_above paths (Some p) = paths p

abbrev pub path_at : (ℕ → List NormalPart) → Option Link → List NormalPart
path_at paths None = []
path_at paths (Some l) = path_above paths l.parent ++ l.part ∷ []

-- for each link whose number is below the bound
abbrev pub path_below : ℕ → List Link → ℕ → List NormalPart
path_below zero links n = []
path_below (suc k) links n = path_at (path_below k links) (slice_get links n)

-- the parts from the first one down to that of a link
abbrev pub path : List Link → ℕ → List NormalPart
path links n = path_below (suc n) links n

abbrev pub path_to : List Link → Option ℕ → List NormalPart
path_to links o = path_above (path links) o

abbrev pub depth_in : Option Link → ℕ
depth_in None = 0
depth_in (Some l) = l.depth

abbrev pub depth_to : List Link → Option ℕ → ℕ
depth_to links None = 0
depth_to links (Some p) = depth_in (slice_get links p)

-- ---- one part of a rule after this many positive conditions

abbrev pub normal_part : ℕ → Part → List Binder → NormalPart
normal_part place (part.One c) binders = One (normal_of place c binders)
normal_part place (part.Group cs) binders = Group (normal_members place cs binders)

abbrev pub is_positive : Part → Bool
is_positive (part.One c) = not c.negated
is_positive (part.Group cs) = false

-- the binders that are visible after it
abbrev pub binders_past : ℕ → Part → List Binder → List Binder
binders_past place (part.One c) binders = if c.negated then binders else binders_after place c.tests binders
binders_past place (part.Group cs) binders = binders

-- the binders after all members of a group
abbrev pub binders_past_members : ℕ → List Condition → List Binder → List Binder
binders_past_members place [] binders = binders
binders_past_members place (c ∷ cs) binders = binders_past_members (suc place) cs (binders_after place c.tests binders)

-- ---- links

abbrev pub IsWithin : Option ℕ → ℕ → Type 0
IsWithin o n = (p : ℕ) → o ≡ Some p → p < n

abbrev pub link_code : Link → ℕ
link_code l = part_code l.parent l.part

-- l is the link of this parent and part
abbrev pub IsOf : Option ℕ → NormalPart → Link → Type 0
IsOf parent p l = (l.parent ≡ parent) × (l.part ≡ p)

abbrev pub ArePositive : List NormalCondition → Type 0
ArePositive cs = AllByRecursion (λ (c : NormalCondition). c.negated ≡ false) cs

-- a condition is below its parent, a group is below the path of its members
abbrev pub StandsBelow : List Link → Option ℕ → Option ℕ → NormalPart → Type 0
StandsBelow links parent above (One c) = above ≡ parent
StandsBelow links parent above (Group cs) = ArePositive cs × (path_to links above ≡ path_to links parent ++ as_parts cs)

-- link n is well-formed
pub record IsFit (links : List Link) (n : ℕ) (l : Link) : Type 0 where
  pub parent : IsWithin l.parent n
  pub above : IsWithin l.above n
  pub place : l.place ≡ positives (path_to links l.parent)
  pub depth : l.depth ≡ depth_to links l.above + 1
  pub below : StandsBelow links l.parent l.above l.part

-- no two links have the same parent and part
pub record AreLinks (links : List Link) : Type 0 where
  pub each : (n : ℕ) (l : Link) → slice_get links n ≡ Some l → IsFit links n l
  pub distinct : (n m : ℕ) (l k : Link) → slice_get links n ≡ Some l → slice_get links m ≡ Some k → IsOf l.parent l.part k → n ≡ m

pub record IsLinked (t : Links) : Type 0 where
  pub links : AreLinks t.list.items
  pub codes : t.chains ≡ map link_code t.list.items

-- n is a link of this parent and part
pub record Stands (links : List Link) (parent : Option ℕ) (p : NormalPart) (n : ℕ) : Type 0 where
  pub link : Link
  pub at : slice_get links n ≡ Some link
  pub of : IsOf parent p link

-- no link is of this parent and part
abbrev pub IsNew : List Link → Option ℕ → NormalPart → Type 0
IsNew links parent p = (n : ℕ) → Stands links parent p n → ⊥

-- n is a link of this parent and part, and all links that were there stay
pub record Adds (old new : Links) (parent : Option ℕ) (p : NormalPart) (n : ℕ) : Type 0 where
  pub more : List Link
  pub grown : new.list.items ≡ old.list.items ++ more
  pub stands : Stands new.list.items parent p n
  pub only : (m : ℕ) (l : Link) → slice_get new.list.items m ≡ Some l → (m ≡ n) ⊎ (slice_get old.list.items m ≡ Some l)
  pub linked : IsLinked new

-- ---- links of a rule

-- all links that were there stay, and each link is old or of such a path
pub record Grows (old new : Links) (Such : List NormalPart → NormalPart → Type 0) : Type 0 where
  pub more : List Link
  pub grown : new.list.items ≡ old.list.items ++ more
  pub only : (m : ℕ) (l : Link) → slice_get new.list.items m ≡ Some l → (slice_get old.list.items m ≡ Some l) ⊎ Such (path_to new.list.items l.parent) l.part
  pub linked : IsLinked new

-- a member of a group after q, and the parts before it
pub record IsMemberAfter (q : List NormalPart) (cs : List NormalCondition) (before : List NormalPart) (p : NormalPart) : Type 0 where
  pub front : List NormalCondition
  pub member : NormalCondition
  pub behind : List NormalCondition
  pub all_is : cs ≡ front ++ member ∷ behind
  pub before_is : before ≡ q ++ as_parts front
  pub part_is : p ≡ One member

-- the links of these members after a parent; o is the last
pub record AddsMembers (old new : Links) (parent : Option ℕ) (cs : List NormalCondition) (o : Option ℕ) : Type 0 where
  pub grows : Grows old new (IsMemberAfter (path_to old.list.items parent) cs)
  pub within : IsWithin o (length new.list.items)
  pub down : path_to new.list.items o ≡ path_to old.list.items parent ++ as_parts cs

-- a part after q, or a member of it
abbrev pub IsPartAfter : List NormalPart → NormalPart → List NormalPart → NormalPart → Type 0
IsPartAfter q (One c) before p = (before ≡ q) × (p ≡ One c)
IsPartAfter q (Group cs) before p = ((before ≡ q) × (p ≡ Group cs)) ⊎ IsMemberAfter q cs before p

-- the links of this part after a parent; n is its own
pub record AddsPart (old new : Links) (parent : Option ℕ) (p : NormalPart) (n : ℕ) : Type 0 where
  pub grows : Grows old new (IsPartAfter (path_to old.list.items parent) p)
  pub low : n < length new.list.items
  pub down : path new.list.items n ≡ path_to old.list.items parent ++ p ∷ []

-- a rule with these parts ends here
pub record IsEndOf (links : List Link) (ps : List Part) (e : End) : Type 0 where
  pub within : IsWithin e.parent (length links)
  pub down : path_to links e.parent ≡ normal_parts 0 ps []
  pub depth : e.depth ≡ depth_to links e.parent + 1

-- the links of the rule's paths, and all links that were there
pub record AddsRule (old new : Links) (ps : List Part) (e : End) : Type 0 where
  pub grows : Grows old new (IsIn (normal_parts 0 ps []))
  pub ends : IsEndOf new.list.items ps e
