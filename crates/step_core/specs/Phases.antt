-- What lines hold, their phases, and the bundle that the phases of all lines form.
use Rattle.std.specs.Prelude.{◌≡◌, ◌≢◌, ℕ, List, [], ◌∷◌, ◌++◌, pos, ◌+ℤ◌, ◌-ℤ◌, map, flat_map, sum_by, slice_get, Some, All}
use Rattle.ops_base.specs.declared.elements.Element.{Element}
use Rattle.ops_base.specs.declared.elements.Change.{Change}
use Rattle.net_base.specs.declared.nodes.Node.{Node}
use Rattle.net_base.specs.declared.nodes.Alpha.{Alpha}
use Rattle.net_base.specs.declared.tasks.Side.{Side}
use Rattle.net_base.specs.declared.tasks.Side.TheVariants.{Left, Right}
use Rattle.net_base.specs.declared.tasks.Task.{Task}
use Rattle.net_base.specs.Tokens.{Elements, left_tokens, right_tokens}
use Rattle.token_line.specs.declared.line.Entry.{Entry}
use Rattle.token_line.specs.Bags.{Bag, signs, after}
use Rattle.token_line.specs.Lawful.{IsLawful}
use Rattle.step_core.specs.Machine.{Placing, place_of, Seen, fed_by_all}

-- ---- sums over lines

-- the sums over all of these
abbrev pub total : List Bag → Bag
total [] n s t = pos 0
total (b ∷ bs) n s t = b n s t +ℤ total bs n s t

-- the lines, given by their sums, hold exactly this, each token on its own line
pub record HoldJust (line : Placing) (b : Bag) (bags : List Bag) : Type 0 where
  pub all : (n : ℕ) (s : Side) (t : List ℕ) → total bags n s t ≡ b n s t
  pub apart : (i : ℕ) (c : Bag) → slice_get bags i ≡ Some c → (n : ℕ) (s : Side) (t : List ℕ) → line n s t ≢ i → c n s t ≡ pos 0

-- the sums at each side of each node over working memory
abbrev pub sums_over : List Element → List Alpha → List Node → Bag
sums_over wm alphas nodes n Left t = pos (left_tokens wm alphas nodes n t)
sums_over wm alphas nodes n Right t = pos (right_tokens wm alphas nodes n t)

-- ---- a line's phase

abbrev pub tasks_of : List Entry → List Task
tasks_of es = map (λ e. e.task) es

abbrev pub children_of : List Entry → List Task
children_of es = flat_map (λ e. e.children) es

-- the sums now
abbrev pub now : Seen → Bag
now l n s t = l.sums n s t

-- the sums at the start of the phase: the current ones less the signs of the entries' tasks
abbrev pub before : Seen → Bag
before l n s t = l.sums n s t -ℤ signs n s t (tasks_of l.entries)

-- the entries, each lawful over the sums left by those before it
abbrev pub AreLawful : Elements → List Node → Bag → List Entry → Type 0
AreLawful elements nodes b [] = Unit {0}
AreLawful elements nodes b (e ∷ es) = IsLawful elements nodes b e × AreLawful elements nodes (after b e.task) es

-- the phase of line i is lawful, and its tasks belong to that line
pub record IsPhase (elements : Elements) (nodes : List Node) (line : Placing) (i : ℕ) (l : Seen) : Type 0 where
  pub lawful : AreLawful elements nodes (before l) l.entries
  pub placed : All (λ x. place_of line x ≡ i) (tasks_of l.entries)

-- ---- a bundle

abbrev pub entries_of : List Seen → List Entry
entries_of ls = flat_map (λ l. l.entries) ls

-- the same items, each the same number of times, in any order
abbrev pub AreSame : {X : Type 0} → List X → List X → Type 0
AreSame {X = X} xs ys = (h : X → ℕ) → sum_by h xs ≡ sum_by h ys

-- The bundle of lawful changes. At the start, the lines hold exactly the tokens over wm. Each line's phase is lawful.
-- The tasks of all entries are those that the changes feed together with the children of all entries. There is no
-- order between lines.
pub record IsBundle (elements : Elements) (alphas : List Alpha) (nodes : List Node) (line : Placing) (wm : List Element) (changes : List Change) (ls : List Seen) : Type 0 where
  pub start : HoldJust line (sums_over wm alphas nodes) (map before ls)
  pub phases : (i : ℕ) (l : Seen) → slice_get ls i ≡ Some l → IsPhase elements nodes line i l
  pub tasks : AreSame (tasks_of (entries_of ls)) (fed_by_all elements alphas nodes changes ++ children_of (entries_of ls))
