-- What settles a matcher. It is a closure, so that an engine with threads can pass it what it needs for them.
use Rattle.std.specs.Prelude.{◌≡◌, List, Result, IfOk}
use Rattle.std.specs.Borrow.{Bor}
use Rattle.ops_base.specs.declared.elements.Change.{Change}
use Rattle.ops_base.specs.declared.memory.OutOfMemory.{OutOfMemory}
use Rattle.ops_base.specs.declared.rules.Inst.{Inst}
use Rattle.ops_base.specs.declared.rules.Rule.{Rule}
use Rattle.ops_base.specs.WorkingMemory.{Lawful, done, last_after}
use Rattle.work_store.specs.declared.matcher.Settled.{Settled}
use Rattle.work_store.specs.Settling.{IsSettled}
use Rattle.work_store.specs.Stored.{Stored}

-- It may be called with every lawful list of changes. If it succeeds, the matcher stores what the changes make, what
-- came and went is the difference in what is found, and the matcher still implements the programs that it implemented
-- before.
pub record Settles {M : Type 0} (stored : M → Stored) (found : M → List Inst) (stands_for : M → List Rule → Type 0)
    (pre : M → Bor (List Change) → Type 0) (post : M → Bor (List Change) → Result (Settled M) OutOfMemory → Type 0) : Type 0 where
  pub able : (m : M) (cs : Bor (List Change)) → Lawful (stored m).elements (stored m).last cs.now → pre m cs
  pub elements : (m : M) (cs : Bor (List Change)) (r : Result (Settled M) OutOfMemory) → post m cs r → IfOk r (λ s. (stored s.matcher).elements ≡ done (stored m).elements cs.now)
  pub last : (m : M) (cs : Bor (List Change)) (r : Result (Settled M) OutOfMemory) → post m cs r → IfOk r (λ s. (stored s.matcher).last ≡ last_after (stored m).last cs.now)
  pub settled : (m : M) (cs : Bor (List Change)) (r : Result (Settled M) OutOfMemory) → post m cs r → IfOk r (λ s. IsSettled (found m) (found s.matcher) s.gone.items s.come.items)
  pub stands : (m : M) (cs : Bor (List Change)) (r : Result (Settled M) OutOfMemory) → post m cs r → IfOk r (λ s. (rules : List Rule) → stands_for m rules → stands_for s.matcher rules)
