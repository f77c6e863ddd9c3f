-- One action more of a right side, and a right side as a whole.
use Rattle.std.proofs.Common.{◌≡◌, ℕ, suc, ◌+◌, ◌-◌, ◌<◌, ◌≤◌, List, [], ◌∷◌, ◌++◌, length, drop, get_or, Bool, true, Result, MatchResult, Ok, Err, IfOk, refl, ap, sym, ◌∙◌, IsTrue, subst, arith}
use Rattle.std.specs.Prelude.{Contains, IsErrAnd}
use Rattle.std.specs.List.{list_all}
use Rattle.std.proofs.lemmas.List.{append-nil, drop_more, map-append}
use Rattle.std.proofs.lemmas.List.Elements.{All-contains, All-contains_itself, Contains-append_left}
use Rattle.ops_base.specs.declared.actions.Action.{Action}
use Rattle.ops_base.specs.declared.elements.Element.{Element}
use Rattle.ops_base.specs.declared.rules.Inst.{Inst}
use Rattle.ops_base.specs.Names.{Spellings}
use Rattle.ops_base.specs.Symbols.{rule_held}
use Rattle.ops_base.specs.WorkingMemory.{tags_of, Lawful}
use Rattle.ops_io.specs.Coming.{Coming, preceded_by}
use Rattle.ops_io.proofs.ComingLemmas.{may_end, steady_comes}
use Rattle.ops_meaning.specs.Acting.{Setting, ActionError as Missed, Misdeed, ActState as Meant, Given, Acted as Done, action_done, actions_done, in_action, begun, left_by, acted, actions_of}
use Rattle.ops_meaning.specs.Effects.{Effect, writes, silent, going_on, followed_by, and_then, told_as, outcome_as, failure_as, Failure, CountsReads}
use Rattle.ops_meaning.specs.Kept.{WellKept, IsLawfulOver, AreFilledFrom}
use Rattle.ops_meaning.proofs.Doings.{EndsActions, KeptActed, acted_kept}
use Rattle.ops_meaning.proofs.InletLemmas.{FailsOn, leaves_on, fails_on, on_ok, on_err, told_leaves_on, told_fails_on}
use Rattle.ops_meaning.proofs.RisingTags.{acts_lawfully}
use Rattle.work_store.specs.Stored.{Stored, IsStored}
use Rattle.act_phase.specs.Deeds.{Scene, Does, Acts, StillDoes}
use Rattle.act_phase.specs.Held.{element_held, change_held}
use Rattle.act_phase.specs.Outcomes.{acted_of, failure_of, mishap_of, is_read, is_read_mishap}
use Rattle.act_phase.specs.State.{State, doing_of}
use Rattle.act_phase.specs.declared.outcome.Acted.{Acted}
use Rattle.act_phase.specs.declared.outcome.ActFault.{ActFault}
use Rattle.act_phase.specs.declared.outcome.ActFault.TheVariants as fault
use Rattle.act_phase.specs.declared.outcome.ActionError.{ActionError}
use Rattle.act_phase.specs.declared.outcome.ActionError.TheVariants as mishap
use Rattle.act_phase.proofs.HeldDoings.{HeldActed, Any, acted_held}
use Rattle.act_phase.proofs.Deeds.{does_nothing, still_all, still_then, still_fails, still_done, still_short, silent_step, silent_fails}

-- ---- what follows from evaluated values

module _ {S T : Type 0} (left : Coming → Result S Missed) (next : S → T) {a b : Scene} (w : IsTrue a.port.out.whole) where
  -- it is done
  pub then_done : {X Y : Type 0} {view : X → Coming → S} {x : X} (y : Y) (seen : Y → Coming → T) → Acts view (Ok x) a b (λ d. silent (left d)) → ((d : Coming) → seen y d ≡ next (view x d)) → Acts seen (Ok y) a b (λ d. silent (followed_by (left d) (λ s. Ok (next s))))
  then_done {view = view} {x = x} y seen p is =
      still_done y (silent_step (λ s. Ok (next s)) (still_all a (λ d. silent (followed_by (left d) (λ s. Ok (next s)))) w) p (λ d. refl)) (λ d. ap (λ s. writes [] s) (sym (is d)))

  -- memory ran out
  pub then_short : {X Y : Type 0} {view : X → Coming → S} {x : X} (seen : Y → Coming → T) (r : Result Y ActionError) → Acts view (Ok x) a b (λ d. silent (left d)) → IsErrAnd r (λ g. g ≡ mishap.OutOfMemory) → Acts seen r a b (λ d. silent (followed_by (left d) (λ s. Ok (next s))))
  then_short seen r p h = still_short r mishap.OutOfMemory h refl refl (silent_step (λ s. Ok (next s)) (still_all a (λ d. silent (followed_by (left d) (λ s. Ok (next s)))) w) p (λ d. refl))

  -- the values are missing
  pub then_fails : {X Y : Type 0} {view : X → Coming → S} {f : ActionError} (seen : Y → Coming → T) (r : Result Y ActionError) → Acts view (Err f) a b (λ d. silent (left d)) → IsErrAnd r (λ g. g ≡ f) → Acts seen r a b (λ d. silent (followed_by (left d) (λ s. Ok (next s))))
  then_fails seen r p h = silent_fails seen r (λ s. Ok (next s)) h (still_all a (λ d. silent (followed_by (left d) (λ s. Ok (next s)))) w) p (λ d. refl)

-- an action that neither reads nor puts
pub action_quiet : {X : Type 0} (y : X) (s : Setting) (x known : Action) (now next : State) (a : Scene) → IsTrue a.port.out.whole → x ≡ known → ((names : Spellings) (d : Coming) → action_done s a.port.out.column known (doing_of now names d) ≡ writes [] (doing_of next names d))
    → Acts (λ _ d. doing_of next a.names d) (Ok y) a a (λ d. action_done s a.port.out.column x (doing_of now a.names d))
action_quiet y s x known now next a w is does =
    does_nothing y a _ w (λ d. ap (λ x. action_done s a.port.out.column x (doing_of now a.names d)) is ∙ does a.names d)

-- an action that is known to be this one
pub same_action : {X : Type 0} {view : X → Coming → Meant} {r : Result X ActionError} {a b : Scene} (s : Setting) (doing : State) (x y : Action) → x ≡ y
    → Acts view r a b (λ d. action_done s a.port.out.column y (doing_of doing a.names d)) → Acts view r a b (λ d. action_done s a.port.out.column x (doing_of doing a.names d))
same_action {view = view} {r = r} {a = a} {b = b} s doing x y is p =
    let P : Action → Type 0 = λ x. Acts view r a b (λ d. action_done s a.port.out.column x (doing_of doing a.names d)) in subst P (sym is) p

-- ---- the action with this number

-- it is done
pub numbered_ok : {X S : Type 0} {view : X → Coming → S} {x : X} (number : ℕ) {a b : Scene} {e : Coming → Effect Missed S} → Acts view (Ok x) a b e → Does view failure_of is_read (Ok x) a b (λ d. told_as (λ s. s) (in_action number) (e d))
numbered_ok {view = view} {x = x} number {a = a} {b = b} {e = e} p = record {
  performs = on_ok view failure_of x a.inlet b.inlet a.port b.port (λ d. told_as (λ s. s) (in_action number) (e d))
      (told_leaves_on (λ s. s) (in_action number) (view x) a.inlet b.inlet a.port b.port e (leaves_on view mishap_of x a.inlet b.inlet a.port b.port e p.reads p.performs));
  reads = p.reads;
  names = p.names;
  goes_on = p.goes_on;
}

-- it has failed
pub numbered_err : {X S : Type 0} {view : X → Coming → S} {m : ActionError} (number : ℕ) (f : ActFault) {a b : Scene} {e : Coming → Effect Missed S} → failure_of f ≡ failure_as (in_action number) (mishap_of m) → is_read f ≡ is_read_mishap m
    → Acts view (Err m) a b e → Does view failure_of is_read (Err f) a b (λ d. told_as (λ s. s) (in_action number) (e d))
numbered_err {view = view} {m = m} number f {a = a} {b = b} {e = e} of same p = record {
  performs =
      let told : Coming → Effect Misdeed _ = λ d. told_as (λ s. s) (in_action number) (e d) in
      let P : Failure Misdeed → Type 0 = λ g. FailsOn g a.inlet b.inlet a.port b.port told in
      on_err view failure_of f a.inlet b.inlet a.port b.port told
      (subst P (sym of) (told_fails_on (λ s. s) (in_action number) (mishap_of m) a.inlet b.inlet a.port b.port e (fails_on view mishap_of m a.inlet b.inlet a.port b.port e p.performs)));
  reads = let P : Bool → Type 0 = λ t. CountsReads t a.inlet.faults b.inlet.faults in subst P (sym same) p.reads;
  names = p.names;
  goes_on = tt;
}

-- ---- one action after another

module _ (s : Setting) (actions : List Action) (i : ℕ) (x : Action) (within : i < length actions) (is : x ≡ get_or actions i x) where
  abbrev behind : ℕ → Meant → Effect Misdeed Meant
  behind n d = actions_done s n (i + 1 + 1) (drop (i + 1) actions) d

  actions_here : (column : ℕ) (d : Meant) → actions_done s column (i + 1) (drop i actions) d ≡ and_then column (told_as (λ d. d) (in_action (i + 1)) (action_done s column x d)) behind
  actions_here column d =
      let more : suc (i + 1) ≡ i + 1 + 1 = omega arith in
      ap (λ rest. actions_done s column (i + 1) rest d) (drop_more actions i x within ∙ ap (λ y. y ∷ drop (i + 1) actions) (sym is))
      ∙ ap (λ n. and_then {T = Meant} column (told_as (λ d. d) (in_action (i + 1)) (action_done s column x d)) (λ next d. actions_done s next n (drop (i + 1) actions) d)) more

  module _ (now next : State) {a b c : Scene} {whole : Coming → Effect Misdeed Meant} (p : StillDoes a b whole (λ d. actions_done s b.port.out.column (i + 1) (drop i actions) (doing_of now b.names d))) where
    pub action_ok : {X : Type 0} {y : X} → Does (λ _ d. doing_of next c.names d) failure_of is_read (Ok y) b c (λ d. told_as (λ d. d) (in_action (i + 1)) (action_done s b.port.out.column x (doing_of now b.names d)))
        → StillDoes a c whole (λ d. actions_done s c.port.out.column (i + 1 + 1) (drop (i + 1) actions) (doing_of next c.names d))
    action_ok q = still_then behind p q (λ d. actions_here b.port.out.column (doing_of now b.names d))

    pub action_err : {X Y : Type 0} {view : X → Coming → Meant} {f : ActFault} (seen : Y → Coming → Meant) (r : Result Y ActFault) → IsErrAnd r (λ g. g ≡ f)
        → Does view failure_of is_read (Err f) b c (λ d. told_as (λ d. d) (in_action (i + 1)) (action_done s b.port.out.column x (doing_of now b.names d))) → Does seen failure_of is_read r a c whole
    action_err seen r h q = still_fails seen r behind h p q (λ d. actions_here b.port.out.column (doing_of now b.names d))

-- ---- the whole

-- working memory in a store is well kept where the next tag is above all that were added
pub well_kept : (s : Stored) (next : ℕ) → IsStored s → s.last < next → WellKept s.elements (next - 1)
well_kept s next stored lt = (stored.rising, λ k d within. by (get_or (tags_of s.elements) k d) (All-contains_itself (tags_of s.elements) k d within))
  where
    by : (t : ℕ) → Contains (tags_of s.elements) t → t ≤ next - 1
    by t there =
        let P : List ℕ → Type 0 = λ tags. Contains tags t in
        let among : Contains (tags_of (s.elements ++ s.kept)) t = subst P (sym (map-append (λ e. e.tag) s.elements s.kept)) (Contains-append_left (tags_of s.elements) (tags_of s.kept) t there) in
        let le = All-contains (λ t. t ≤ s.last) (tags_of (s.elements ++ s.kept)) t stored.below among in omega arith

told_then : {E S T : Type 0} (column : ℕ) (left : S → T) (e : Effect E S) → told_as left (λ f. f) e ≡ and_then column e (λ _ s. writes [] (left s))
told_then {E} {S} {T} column left e = by e.outcome
  where
    by : (o : Result S E) → (let told : Effect E T = record { bytes = e.bytes; outcome = outcome_as left (λ f. f) o } in told) ≡ going_on e.bytes o (λ s. writes [] (left s))
    by (Ok s) = let with_bytes : List ℕ → Effect E T = λ bytes. record { bytes = bytes; outcome = Ok (left s) } in ap with_bytes (sym (append-nil e.bytes))
    by (Err f) = refl

module _ (s : Setting) (inst : Inst) (wm : List Element) (last : ℕ) (a : Scene) where
  abbrev pub right_side : Coming → Effect Misdeed Done
  right_side d = acted s a.port.out.column inst (record { wm = wm; last = last; names = a.names; coming = d })

  -- memory ran out before the first action
  pub whole_short : {Y : Type 0} (seen : Y → Coming → Done) (r : Result Y ActFault) → IsErrAnd r (λ g. g ≡ fault.OutOfMemory) → IsTrue a.port.out.whole → Does seen failure_of is_read r a a right_side
  whole_short seen r h w = still_short r fault.OutOfMemory h refl refl (still_all a right_side w)

  module _ (actions : List Action) (same : actions ≡ actions_of s.rules inst.rule) (start : State) (begin : (names : Spellings) (d : Coming) → doing_of start names d ≡ begun s inst (record { wm = wm; last = last; names = names; coming = d })) where
    abbrev done : Coming → Effect Misdeed Meant
    done d = actions_done s a.port.out.column 1 actions (doing_of start a.names d)

    whole_here : (d : Coming) → right_side d ≡ and_then a.port.out.column (done d) (λ _ d. writes [] (left_by d))
    whole_here d =
        let given : Given = record { wm = wm; last = last; names = a.names; coming = d } in
        ap (λ xs. told_as left_by (λ f. f) (actions_done s a.port.out.column 1 xs (begun s inst given))) (sym same)
        ∙ ap (λ d. told_as left_by (λ f. f) (actions_done s a.port.out.column 1 actions d)) (sym (begin a.names d))
        ∙ told_then a.port.out.column left_by (done d)

    -- all actions were done
    pub whole_ok : {X : Type 0} {x : X} {b : Scene} (end : State) (r : Acted) → Does (λ _ d. doing_of end b.names d) failure_of is_read (Ok x) a b done → ((names : Spellings) (d : Coming) → acted_of r names d ≡ left_by (doing_of end names d)) → IsTrue a.port.out.whole
        → Does (λ r d. acted_of r b.names d) failure_of is_read (Ok r) a b right_side
    whole_ok {b = b} end r p left w =
        still_done r (still_then (λ _ d. writes [] (left_by d)) (still_all a right_side w) p whole_here) (λ d. ap (λ s. writes [] s) (sym (left b.names d)))

    -- an action has failed
    pub whole_err : {X Y : Type 0} {view : X → Coming → Meant} {f : ActFault} {b : Scene} (seen : Y → Coming → Done) (r : Result Y ActFault) → IsErrAnd r (λ g. g ≡ f) → Does view failure_of is_read (Err f) a b done → IsTrue a.port.out.whole → Does seen failure_of is_read r a b right_side
    whole_err seen r h p w = still_fails seen r (λ _ d. writes [] (left_by d)) h (still_all a right_side w) p whole_here

  -- what was done is lawful, and no tag has fallen, since something may always come
  pub whole_lawful : {b : Scene} (r : Acted) → Does (λ r d. acted_of r b.names d) failure_of is_read (Ok r) a b right_side → WellKept wm last → Lawful wm last r.changes × (last ≤ r.next_tag - 1)
  whole_lawful {b = b} r p well =
      let end = may_end b.inlet in
      let all = preceded_by p.performs.taken end.0 in
      let given : Given = record { wm = wm; last = last; names = a.names; coming = all } in
      let P : Result Done Misdeed → Type 0 = λ o. IfOk o (IsLawfulOver wm last) in
      let answer = (p.performs.performs end.0 (steady_comes a.inlet b.inlet end.0 p.reads end.1)).0 in
      let lawful = subst P answer (acts_lawfully s a.port.out.column inst given well) in
      (lawful.changes, lawful.risen)

  -- what was built are templates with other constants
  pub whole_built : {b : Scene} (r : Acted) → Does (λ r d. acted_of r b.names d) failure_of is_read (Ok r) a b right_side → AreFilledFrom s.templates r.built
  whole_built {b = b} r p =
      let end = may_end b.inlet in
      let all = preceded_by p.performs.taken end.0 in
      let given : Given = record { wm = wm; last = last; names = a.names; coming = all } in
      let P : Result Done Misdeed → Type 0 = λ o. MatchResult o (KeptActed s.templates wm last a.names all.fails) (EndsActions all.fails) in
      let answer = (p.performs.performs end.0 (steady_comes a.inlet b.inlet end.0 p.reads end.1)).0 in
      (subst P answer (acted_kept s a.port.out.column inst given)).built

  -- What was made and built is held, where the rest was.
  pub whole_held : {b : Scene} (r : Acted) → Does (λ r d. acted_of r b.names d) failure_of is_read (Ok r) a b right_side → 0 < length a.names.held → list_all (rule_held (length a.names.held)) s.rules ≡ true
      → list_all (rule_held (length a.names.held)) s.templates ≡ true → list_all (element_held (length a.names.held)) wm ≡ true
      → (list_all (change_held (length b.names.held)) r.changes ≡ true) × (list_all (rule_held (length b.names.held)) r.built ≡ true)
  whole_held {b = b} r p some rules templates memory =
      let end = may_end b.inlet in
      let all = preceded_by p.performs.taken end.0 in
      let given : Given = record { wm = wm; last = last; names = a.names; coming = all } in
      let P : Result Done Misdeed → Type 0 = λ o. MatchResult o (HeldActed (length a.names.held)) Any in
      let answer = (p.performs.performs end.0 (steady_comes a.inlet b.inlet end.0 p.reads end.1)).0 in
      let left = subst P answer (acted_held s a.port.out.column inst given some rules templates memory) in
      (left.changes, left.built)
