-- The rule of a deque with one owner and one thief.
use Rattle.std.specs.Prelude.{◌≡◌, ℕ, Bool, true, false, List, [], ◌++◌, sum_by, All}
use mathlib.Core.Option.{some}
use lib.ListN.{get_elem?}
use Rattle.net_base.specs.declared.tasks.Task.{Task}
use Rattle.task_deque.specs.declared.plays.Known.{Known}

-- the same items, each the same number of times, in any order
abbrev pub AreSame : {T : Type 0} → List T → List T → Type 0
AreSame {T = T} xs ys = (h : T → ℕ) → sum_by h xs ≡ sum_by h ys

abbrev pub known : Bool → Bool → List Task → List Task → List Task → Known
known a b pushed popped stolen = record { owns = a; steals = b; pushed = pushed; popped = popped; stolen = stolen }

-- Of all that was pushed, popped and stolen, the owner knows the first two, and the thief knows the third. At most
-- one pass is the owner's, and at most one is the thief's.
pub record Knows (owner thief : ℕ) (pushed popped stolen : List Task) (port : ℕ) (v : Known) : Type 0 where
  pub owns : v.owns ≡ true → (port ≡ owner) × (v.pushed ≡ pushed) × (v.popped ≡ popped)
  pub steals : v.steals ≡ true → (port ≡ thief) × (v.stolen ≡ stolen)

-- what was pushed is what was taken together with what is in the deque, and each task there fits
pub record IsFair (fits : Task → Type 0) (items : List Task) (views : List Known) : Type 0 where
  pub owner : ℕ
  pub thief : ℕ
  pub pushed : List Task
  pub popped : List Task
  pub stolen : List Task
  pub fit : All fits items
  pub balance : AreSame pushed ((popped ++ stolen) ++ items)
  pub each : (port : ℕ) (v : Known) → get_elem? views port ≡ some v → Knows owner thief pushed popped stolen port v

-- ---- parts

abbrev pub no_part : Known
no_part = known false false [] [] []

abbrev pub owner_part : Known → Known
owner_part v = known v.owns false v.pushed v.popped []

abbrev pub thief_part : Known → Known
thief_part v = known false v.steals [] [] v.stolen

abbrev pub both_parts : Known → Known → Known
both_parts v w = known v.owns w.steals v.pushed v.popped w.stolen

-- ---- steps

abbrev pub Pushed : Known → List Task → Known → Type 0
Pushed v xs w = w ≡ known v.owns v.steals (v.pushed ++ xs) v.popped v.stolen

abbrev pub Popped : (Task → Type 0) → Known → List Task → Known → Type 0
Popped fits v xs w = (w ≡ known v.owns v.steals v.pushed (v.popped ++ xs) v.stolen) × All fits xs

abbrev pub Stolen : (Task → Type 0) → Known → List Task → Known → Type 0
Stolen fits v xs w = (w ≡ known v.owns v.steals v.pushed v.popped (v.stolen ++ xs)) × All fits xs

-- an owner whose thief's end is back knows that all was taken
abbrev pub Sum : Known → Type 0
Sum v = v.steals ≡ true → AreSame v.pushed (v.popped ++ v.stolen)
