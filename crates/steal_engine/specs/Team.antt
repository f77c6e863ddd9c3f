-- What all ends of a team know together.
use Rattle.std.specs.Prelude.{◌≡◌, ℕ, List, [], sum_by, map}
use Rattle.net_base.specs.declared.tasks.Task.{Task}
use Rattle.task_deque.specs.declared.handles.OwnEnd.{OwnEnd}
use Rattle.task_deque.specs.declared.handles.ThiefEnd.{ThiefEnd}
use Rattle.task_deque.specs.Ends.{IsWhole, of, pushed, popped, stolen, thief_of, thief_stolen}

module _ {J : Type 0} where
  -- no thief has its end, and nothing was taken
  pub record IsFresh (e : OwnEnd J) : Type 0 where
    pub whole : IsWhole e
    pub popped_none : popped e ≡ []
    pub stolen_none : stolen e ≡ []

  -- the sum of the weights of all tasks that were pushed
  abbrev pub weigh_pushed : (Task → ℕ) → List (OwnEnd J) → ℕ
  weigh_pushed h owns = sum_by (λ (e : OwnEnd J). sum_by h (pushed e)) owns

  abbrev pub weigh_popped : (Task → ℕ) → List (OwnEnd J) → ℕ
  weigh_popped h owns = sum_by (λ (e : OwnEnd J). sum_by h (popped e)) owns

  abbrev pub weigh_stolen : (Task → ℕ) → List (ThiefEnd J) → ℕ
  weigh_stolen h thieves = sum_by (λ (e : ThiefEnd J). sum_by h (thief_stolen e)) thieves

  -- each thief's end is that of the deque of the owner at the same place
  abbrev pub AreOf : List (OwnEnd J) → List (ThiefEnd J) → Type 0
  AreOf owns thieves = map of owns ≡ map thief_of thieves

  abbrev pub HasPoppedNone : OwnEnd J → Type 0
  HasPoppedNone e = popped e ≡ []

  abbrev pub HasStolenNone : ThiefEnd J → Type 0
  HasStolenNone e = thief_stolen e ≡ []
