-- What does right sides and settles matchers by their changes: a closure, so that it may start threads.
use Rattle.std.specs.Prelude.{◌≡◌, ℕ, ◌<◌, ◌^◌, List, [], All, true, false, Option, Result, IfOk, IsTrue}
use Rattle.std.specs.Borrow.{Bor, MutBor}
use Rattle.ops_base.specs.declared.programs.Program.{Program}
use Rattle.ops_base.specs.declared.rules.Inst.{Inst}
use Rattle.ops_base.specs.declared.rules.Rule.{Rule}
use Rattle.ops_base.specs.Names.{Spellings}
use Rattle.ops_base.specs.WorkingMemory.{Lawful, done, last_after, tags_of}
use Rattle.ops_io.specs.Coming.{inlet}
use Rattle.ops_io.specs.Input.{InputState}
use Rattle.ops_io.specs.Output.{OutState}
use Rattle.ops_io.specs.Ports.{port}
use Rattle.ops_meaning.specs.Acting.{acted}
use Rattle.ops_meaning.specs.Effects.{PerformsOn, CountsReads}
use Rattle.ops_meaning.specs.Kept.{AreFilledFrom, KeepsNames, WellKept}
use Rattle.act_phase.specs.Asking.{right_side_asks}
use Rattle.act_phase.specs.Held.{HoldsProgram, HoldsElements, HoldsMade, HoldsRules}
use Rattle.act_phase.specs.Outcomes.{acted_of, failure_of, is_unread, setting_of}
use Rattle.act_phase.specs.declared.outcome.ActFault.{ActFault}
use Rattle.act_phase.specs.declared.outcome.Acted.{Acted}
use Rattle.work_store.specs.declared.matcher.Settled.{Settled}
use Rattle.work_store.specs.Settling.{IsSettled}
use Rattle.work_store.specs.Stored.{Stored}

-- how a contract sees a matcher: what it stores, what it finds, and for which rules it stands
pub record Matching (M : Type 0) : Type 1 where
  pub stored : M → Stored
  pub found : M → List Inst
  pub stands_for : M → List Rule → Type 0

abbrev pub matching : {M : Type 0} → (M → Stored) → (M → List Inst) → (M → List Rule → Type 0) → Matching M
matching stored found stands_for = record { stored = stored; found = found; stands_for = stands_for }

-- how a contract sees a source and a sink: what is left of the source and how many of its reads have failed, and what
-- the sink has taken and how many of its writes have failed
pub record Streams (I K : Type 0) : Type 0 where
  pub left : I → Option (List ℕ)
  pub unread : I → ℕ
  pub taken : K → Option (List ℕ)
  pub unwritten : K → ℕ

abbrev pub streams : {I K : Type 0} → (I → Option (List ℕ)) → (I → ℕ) → (K → Option (List ℕ)) → (K → ℕ) → Streams I K
streams left unread taken unwritten = record { left = left; unread = unread; taken = taken; unwritten = unwritten }

-- what a right side changes besides working memory
pub record Around (I K : Type 0) : Type 0 where
  pub names : Spellings
  pub input : InputState
  pub source : I
  pub out : OutState
  pub sink : K

abbrev pub around : {I K : Type 0} → Spellings → InputState → I → OutState → K → Around I K
around names input source out sink = record { names = names; input = input; source = source; out = out; sink = sink }

-- A right side may be done with this matcher and these streams.
pub record MayAct {M I K : Type 0} (m : Matching M) (s : Streams I K) (matcher : M) (before : Around I K) : Type 0 where
  pub whole : IsTrue before.out.whole
  pub writes : s.unwritten before.sink < 2 ^ 63
  pub reads : s.unread before.source < 2 ^ 63
  pub tags : (m.stored matcher).last < 2 ^ 63
  pub kept : WellKept (m.stored matcher).elements (m.stored matcher).last
  pub above : All (λ t. 0 < t) (tags_of (m.stored matcher).elements)

-- The right side of an instantiation was done, and the matcher settled by its changes, as an actor does it (`cycle`,
-- `Actor`).
pub record ActsAs {M I K : Type 0} (m : Matching M) (s : Streams I K) (program : Program) (matcher : M) (inst : Inst) (watch : ℕ) (before after : Around I K) (r : Result (Acted × Settled M) ActFault) : Type 0 where
  pub acts : PerformsOn (λ r c. acted_of r.0 after.names c) failure_of r
      (inlet before.input (s.left before.source) (s.unread before.source)) (inlet after.input (s.left after.source) (s.unread after.source))
      (port (s.taken before.sink) (s.unwritten before.sink) before.out) (port (s.taken after.sink) (s.unwritten after.sink) after.out)
      (λ c. acted (setting_of program watch) before.out.column inst
      (record { wm = (m.stored matcher).elements; last = (m.stored matcher).last; names = before.names; coming = c }))
  pub reads : CountsReads (is_unread r) (s.unread before.source) (s.unread after.source)
  pub written : is_unread r ≡ true → after.out.held ≡ []
  pub untouched : right_side_asks program.rules inst.rule ≡ false → (after.input ≡ before.input) × (after.source ≡ before.source)
  pub names_kept : KeepsNames before.names after.names
  pub held : HoldsProgram before.names program → HoldsElements before.names (m.stored matcher).elements
      → HoldsProgram after.names program × HoldsElements after.names (m.stored matcher).elements × IfOk r (λ r. HoldsMade after.names r.0.changes × HoldsRules after.names r.0.built)
  pub built : IfOk r (λ r. AreFilledFrom program.templates r.0.built)
  pub lawful : IfOk r (λ r. Lawful (m.stored matcher).elements (m.stored matcher).last r.0.changes)
  pub elements : IfOk r (λ r. (m.stored r.1.matcher).elements ≡ done (m.stored matcher).elements r.0.changes)
  pub last : IfOk r (λ r. (m.stored r.1.matcher).last ≡ last_after (m.stored matcher).last r.0.changes)
  pub settled : IfOk r (λ r. IsSettled (m.found matcher) (m.found r.1.matcher) r.1.gone.items r.1.come.items)
  pub stands : IfOk r (λ r. (rules : List Rule) → m.stands_for matcher rules → m.stands_for r.1.matcher rules)

-- What may be asked wherever an actor may be, and does what an actor does.
pub record ActsBy {A M I K : Type 0} (m : Matching M) (s : Streams I K)
    (pre : A → Bor Program → MutBor Spellings → M → Bor Inst → ℕ → MutBor InputState → MutBor I → MutBor OutState → MutBor K → Type 0)
    (post : A → Bor Program → MutBor Spellings → M → Bor Inst → ℕ → MutBor InputState → MutBor I → MutBor OutState → MutBor K
    → Result (Acted × Settled M) ActFault → MutBor Spellings → MutBor InputState → MutBor I → MutBor OutState → MutBor K → Type 0) : Type 0 where
  pub able : (alloc : A) (program : Bor Program) (names : MutBor Spellings) (matcher : M) (inst : Bor Inst) (watch : ℕ)
      (input : MutBor InputState) (source : MutBor I) (out : MutBor OutState) (sink : MutBor K)
      → MayAct m s matcher (around names.now input.now source.now out.now sink.now) → pre alloc program names matcher inst watch input source out sink
  pub acts : (alloc : A) (program : Bor Program) (names : MutBor Spellings) (matcher : M) (inst : Bor Inst) (watch : ℕ)
      (input : MutBor InputState) (source : MutBor I) (out : MutBor OutState) (sink : MutBor K) (r : Result (Acted × Settled M) ActFault)
      (names' : MutBor Spellings) (input' : MutBor InputState) (source' : MutBor I) (out' : MutBor OutState) (sink' : MutBor K)
      → post alloc program names matcher inst watch input source out sink r names' input' source' out' sink'
      → ActsAs m s program.now matcher inst.now watch (around names.now input.now source.now out.now sink.now) (around names'.now input'.now source'.now out'.now sink'.now) r
