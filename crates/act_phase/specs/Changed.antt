-- Working memory as a right side changes it.
use Rattle.std.specs.Prelude.{◌≡◌, ℕ, ◌-◌, ◌<◌, ◌≤◌, List, [], ◌∷◌, ◌++◌, fold, Bool, not, ◌&&◌, ◌||◌, ◌==◌, nat_lt, nat_le, if◌then◌else◌, true, Option, Some, None}
use Rattle.std.specs.BTreeSet.{contains}
use Rattle.std.specs.List.{list_any}
use Rattle.std.specs.Option.{option_or}
use Rattle.std.specs.Ordering.{nat_cmp}
use Rattle.ops_base.specs.declared.elements.Element.{Element}
use Rattle.ops_base.specs.declared.elements.Change.{Change}
use Rattle.ops_base.specs.declared.elements.Change.TheVariants as change
use Rattle.ops_base.specs.WorkingMemory.{done, Lawful, last_after}
use Rattle.ops_meaning.specs.Acting.{has_tag}
use Rattle.act_phase.specs.declared.removed_tags.RemovedTags.{RemovedTags}

-- the tag is one of the removed tags
abbrev pub is_among : RemovedTags → ℕ → Bool
is_among gone tag = list_any (λ t. t == tag) gone.few.items || contains nat_cmp gone.more tag

-- working memory at the start, the changes since then in order, and the last tag that was assigned
pub record Changed : Type 0 where
  pub start : List Element
  pub changes : List Change
  pub last : ℕ

-- working memory now
abbrev pub memory_of : Changed → List Element
memory_of c = done c.start c.changes

abbrev pub unchanged : List Element → ℕ → Changed
unchanged start last = record { start = start; changes = []; last = last }

-- with one more change
abbrev pub with_change : Changed → Change → Changed
with_change c change = record c { changes = c.changes ++ change ∷ [] }

-- the element with this tag is removed if it is present
abbrev pub with_removed : Changed → ℕ → Changed
with_removed c tag = if has_tag (memory_of c) tag then with_change c (change.Remove tag) else c

-- an element with the next tag is added
abbrev pub with_added : Changed → Element → Changed
with_added c e = with_change (record c { last = e.tag }) (change.Add e)

-- `new` is `old` with more changes.
pub record GoesOnTo (old new : Changed) : Type 0 where
  pub start : new.start ≡ old.start
  pub more : List Change
  pub changes : new.changes ≡ old.changes ++ more

-- the element that a change adds, if it has this tag
abbrev pub added_by : ℕ → Change → Option Element
added_by tag (change.Add e) = if e.tag == tag then Some e else None
added_by tag (change.Remove removed) = None

-- the element with this tag that was added last
abbrev pub last_added : List Change → ℕ → Option Element
last_added changes tag = fold (λ found c. option_or (added_by tag c) found) None changes

-- a tag that was assigned since the first of these
abbrev pub is_new : ℕ → ℕ → ℕ → Bool
is_new first next tag = nat_le first tag && nat_lt tag next

-- Which tags are present after the changes: those of the start and the new ones, except those that are gone. A tag that
-- is gone is below the next tag, and a tag of the start is below the first new one. The changes are lawful, and the
-- next tag is unused.
pub record AreCounted (start : List Element) (changes : List Change) (gone : ℕ → Bool) (first next : ℕ) : Type 0 where
  pub present : (t : ℕ) → has_tag (done start changes) t ≡ (not (gone t) && (has_tag start t || is_new first next t))
  pub positive : 0 < first
  pub order : first ≤ next
  pub gone_below : (t : ℕ) → gone t ≡ true → t < next
  pub start_below : (t : ℕ) → has_tag start t ≡ true → t < first
  pub lawful : Lawful start (first - 1) changes
  pub free : last_after (first - 1) changes < next
