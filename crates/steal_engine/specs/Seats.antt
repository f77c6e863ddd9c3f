-- What a worker begins with, and its state when it has finished.
use Rattle.std.specs.Prelude.{◌≡◌, ◌<◌, ℕ, List, [], IsTrue, length, slice_index_or}
use Rattle.steal_engine.specs.declared.rounds.Round.{Round}
use Rattle.steal_engine.specs.declared.seats.Seat.{Seat}
use Rattle.steal_engine.specs.declared.seats.Worked.{Worked}
use Rattle.task_deque.specs.Ends.{own_of, pushed, popped, thief_of, thief_stolen}
use Rattle.steal_engine.specs.Sums.{AreFair}

module _ {J P : Type 0} (ready : P → Type 0) (number : P → ℕ) (rounds : P → List Round) where
  -- nothing has been done, popped or stolen yet
  pub record CanBegin (s : Seat J P) : Type 0 where
    pub is_ready : ready s.pass
    pub fresh : rounds s.pass ≡ []
    pub popped_none : popped s.own ≡ []
    pub stolen_none : thief_stolen s.thief ≡ []

  -- The pass and the ends are back. If memory did not run out, every task that the worker took was performed or
  -- pushed.
  pub record HasEnded (s : Seat J P) (e : Worked J P) : Type 0 where
    pub is_ready : ready e.pass
    pub same_number : number e.pass ≡ number s.pass
    pub same_own : own_of e.own ≡ own_of s.own
    pub same_thief : thief_of e.thief ≡ thief_of s.thief
    pub fair : IsTrue e.whole → AreFair (rounds e.pass) (pushed s.own) (pushed e.own) (popped e.own) (thief_stolen e.thief) []

  abbrev pub AllCanBegin : List (Seat J P) → Type 0
  AllCanBegin seats = (i : ℕ) (d : Seat J P) → i < length seats → CanBegin (slice_index_or seats i d)

  abbrev pub AllHaveEnded : List (Seat J P) → List (Worked J P) → Type 0
  AllHaveEnded seats ended = (i : ℕ) (d : Seat J P) (e : Worked J P) → i < length seats → HasEnded (slice_index_or seats i d) (slice_index_or ended i e)
