-- A phase that settles its changes piece by piece.
use Rattle.std.specs.Prelude.{◌≡◌, ℕ, ◌+◌, ◌≤◌, ◌++◌, List, length, take, true, Result, Ok, Err, Option, Some, None}
use Rattle.ops_base.specs.declared.actions.Action.{Action}
use Rattle.ops_base.specs.declared.elements.Change.{Change}
use Rattle.ops_base.specs.declared.elements.Element.{Element}
use Rattle.ops_base.specs.declared.rules.Inst.{Inst}
use Rattle.ops_base.specs.declared.rules.Rule.{Rule}
use Rattle.ops_base.specs.WorkingMemory.{Lawful, done, last_after}
use Rattle.ops_meaning.specs.Acting.{has_tag, in_action, action_done}
use Rattle.ops_meaning.specs.Effects.{told_as}
use Rattle.act_phase.specs.Changed.{memory_of}
use Rattle.act_phase.specs.Deeds.{Scene, Does}
use Rattle.act_phase.specs.Outcomes.{failure_of, is_read}
use Rattle.act_phase.specs.State.{Between, State, doing_of}
use Rattle.act_phase.specs.declared.outcome.ActFault.{ActFault}
use Rattle.act_phase.specs.declared.outcome.ActFault.TheVariants as fault
use Rattle.work_store.specs.Settling.{IsSettled}
use Rattle.work_store.specs.Stored.{Stored}
use Rattle.feed_engine.specs.declared.feed.Feed.{Feed}

-- These changes are settled. If `come` and `gone` were the change in what is found since the phase began, they still
-- are, and the matcher still implements the programs that it implemented before.
pub record IsFed {M : Type 0} (stored : M → Stored) (found : M → List Inst) (stands_for : M → List Rule → Type 0) (more : List Change) (old new : Feed M) : Type 0 where
  pub elements : (stored new.matcher).elements ≡ done (stored old.matcher).elements more
  pub last : (stored new.matcher).last ≡ last_after (stored old.matcher).last more
  pub changed : (before : List Inst) → IsSettled before (found old.matcher) old.gone.items old.come.items → IsSettled before (found new.matcher) new.gone.items new.come.items
  pub stands : (rules : List Rule) → stands_for old.matcher rules → stands_for new.matcher rules

-- Some more of these changes are settled: the first `settled` of them were before, and the first `now` are.
pub record IsFurther {M : Type 0} (stored : M → Stored) (found : M → List Inst) (stands_for : M → List Rule → Type 0) (changes : List Change) (settled : ℕ) (old : Feed M) (now : ℕ) (new : Feed M) : Type 0 where
  pub more : List Change
  pub first : take now changes ≡ take settled changes ++ more
  pub within : now ≤ length changes
  pub fed : IsFed stored found stands_for more old new

-- The fault to report of an action if the settle beside it ran out of memory: a device's fault comes first.
abbrev pub told_with_short : {Z : Type 0} → Result Z ActFault → ActFault
told_with_short (Ok u) = fault.OutOfMemory
told_with_short (Err (fault.Bad action kind)) = fault.OutOfMemory
told_with_short (Err fault.Read) = fault.Read
told_with_short (Err fault.Write) = fault.Write
told_with_short (Err fault.OutOfMemory) = fault.OutOfMemory

-- The fault to report of a settle and an action that ran beside each other: first a device's fault, then out of memory
-- in the settle, and then any other fault of the action. None if both succeeded.
abbrev pub told_of_both : {X Y Z : Type 0} → Result X Y → Result Z ActFault → Option ActFault
told_of_both (Ok x) (Ok u) = None
told_of_both (Ok x) (Err f) = Some f
told_of_both (Err short) acted = Some (told_with_short acted)

-- The effect of a call that executes this action, the next one of a right side: it is the defined one.
pub record DoesNext {X : Type 0} (a : Action) (before after : Between) (r : Result X ActFault) (old new : Scene) : Type 0 where
  pub does : Does (λ x c. doing_of after.state new.names c) failure_of is_read r old new
      (λ c. told_as (λ d. d) (in_action (before.done + 1)) (action_done before.state.setting old.port.out.column a (doing_of before.state old.names c)))

-- The first `settled` of these changes are settled, beginning with this matcher.
pub record IsUpTo {M : Type 0} (stored : M → Stored) (found : M → List Inst) (stands_for : M → List Rule → Type 0) (before : M) (changes : List Change) (settled : ℕ) (feed : Feed M) : Type 0 where
  pub within : settled ≤ length changes
  pub elements : (stored feed.matcher).elements ≡ done (stored before).elements (take settled changes)
  pub last : (stored feed.matcher).last ≡ last_after (stored before).last (take settled changes)
  pub changed : IsSettled (found before) (found feed.matcher) feed.gone.items feed.come.items
  pub stands : (rules : List Rule) → stands_for before rules → stands_for feed.matcher rules

-- A right side runs over a part of this working memory. Over that part and with this last tag, its changes so far are
-- lawful.
pub record GoesOver (whole : List Element) (first : ℕ) (now : State) : Type 0 where
  pub part : List Element
  pub within : (t : ℕ) → has_tag part t ≡ true → has_tag whole t ≡ true
  pub lawful : Lawful part first now.working.changes
  pub memory : done part now.working.changes ≡ memory_of now.working
  pub last_tag : last_after first now.working.changes ≡ now.working.last
