-- What was removed and made since, as it is printed.
use Rattle.std.proofs.Common.{◌≡◌, ℕ, ◌+◌, ◌<◌, List, [], ◌∷◌, ◌++◌, length, take, drop, fold, get_or, true, cond, nat_le, Result, Ok, Err, refl, ap, sym, ◌∙◌, IsTrue}
use Rattle.std.specs.Prelude.{IsErrAnd}
use Rattle.std.proofs.Math.Seq.{take-append_seam}
use Rattle.std.proofs.lemmas.List.{drop_more, take_more}
use Rattle.ops_base.specs.declared.actions.Action.{Action}
use Rattle.ops_base.specs.declared.actions.Action.TheVariants as action
use Rattle.ops_base.specs.declared.elements.Change.{Change}
use Rattle.ops_base.specs.declared.elements.Class.{Class}
use Rattle.ops_base.specs.declared.elements.Element.{Element}
use Rattle.ops_base.specs.Names.{Spellings}
use Rattle.ops_base.specs.WorkingMemory.{change_done, done}
use Rattle.ops_base.proofs.Changes.{done_push}
use Rattle.ops_io.specs.Coming.{Coming}
use Rattle.ops_io.specs.Output.{column_after}
use Rattle.ops_io.proofs.Known.{column-append}
use Rattle.ops_meaning.specs.Acting.{Setting, ActionError as Missed, ActState as Meant, change_text, change_lines, action_done, cell_of, removed}
use Rattle.ops_meaning.specs.Effects.{Effect, writes, and_then}
use Rattle.ops_meaning.specs.Layout.{fresh_line, line_at, lines_at, traced}
use Rattle.act_phase.specs.Changed.{Changed, GoesOnTo, memory_of}
use Rattle.act_phase.specs.Deeds.{Scene, Acts, StillDoes}
use Rattle.act_phase.specs.State.{State, doing_of}
use Rattle.act_phase.specs.declared.outcome.ActionError.{ActionError}
use Rattle.act_phase.proofs.Deeds.{still_all, still_same, still_then, still_fails}

-- ---- the lines

-- a line ends at column 0
line_ends : (column : ℕ) (text : List ℕ) → column_after column (line_at column text) ≡ 0
line_ends column text =
    column-append column (fresh_line column) (text ++ 10 ∷ []) ∙ column-append (column_after column (fresh_line column)) text (10 ∷ [])

-- the lines from a change on begin with the line of the change there
pub line_here : (names : Spellings) (classes : List Class) (start : List Element) (cs : List Change) (i column next : ℕ) (x : Change) → i < length cs → x ≡ get_or cs i x
    → next ≡ column_after column (line_at column (change_text names classes (done start (take i cs)) x))
    → lines_at column (change_lines names classes (done start (take i cs)) (drop i cs))
    ≡ line_at column (change_text names classes (done start (take i cs)) x) ++ lines_at next (change_lines names classes (done start (take (i + 1) cs)) (drop (i + 1) cs))
line_here names classes start cs i column next x within is at =
    let memory = done start (take i cs) in
    let line = line_at column (change_text names classes memory x) in
    let more : change_done memory x ≡ done start (take (i + 1) cs) =
    sym (done_push start (take i cs) x) ∙ ap (λ y. done start (take i cs ++ y ∷ [])) is ∙ ap (done start) (sym (take_more cs i x within)) in
    ap (λ rest. lines_at column (change_lines names classes memory rest)) (drop_more cs i x within ∙ ap (λ y. y ∷ drop (i + 1) cs) (sym is))
    ∙ ap (λ wm. line ++ lines_at 0 (change_lines names classes wm (drop (i + 1) cs))) more
    ∙ ap (λ n. line ++ lines_at n (change_lines names classes (done start (take (i + 1) cs)) (drop (i + 1) cs))) (sym (at ∙ line_ends column (change_text names classes memory x)))

-- elements are traced
pub all_traced : (watch column : ℕ) (lines : List (List ℕ)) → nat_le 2 watch ≡ true → traced watch column lines ≡ lines_at column lines
all_traced watch column lines is = ap (λ b. cond b (lines_at column lines) []) is

-- ---- after an action

-- what tells the changes since these
abbrev pub told : Setting → Changed → ℕ → Meant → Effect Missed Meant
told s w column d = writes (traced s.watch column (change_lines d.names s.classes (memory_of w) (drop (length w.changes) d.changes))) d

-- the lines of the changes, without this many from the front
abbrev pub lines_since : Spellings → List Class → ℕ → Changed → List (List ℕ)
lines_since names classes n w = change_lines names classes (done w.start (take n w.changes)) (drop n w.changes)

same_lines : (names : Spellings) (classes : List Class) (old new : Changed) (n : ℕ) → GoesOnTo old new → n ≡ length old.changes
    → lines_since names classes n new ≡ change_lines names classes (memory_of old) (drop (length old.changes) new.changes)
same_lines names classes old new n g is =
    let long = length old.changes in
    ap (λ n. lines_since names classes n new) is
    ∙ ap (λ start. change_lines names classes (done start (take long new.changes)) (drop long new.changes)) g.start
    ∙ ap (λ cs. change_lines names classes (done old.start (take long cs)) (drop long new.changes)) g.changes
    ∙ ap (λ cs. change_lines names classes (done old.start cs) (drop long new.changes)) (take-append_seam old.changes g.more)

-- an action from a column on, and then its changes
abbrev pub with_lines : Setting → Changed → ℕ → (Coming → Effect Missed Meant) → Coming → Effect Missed Meant
with_lines s w column part d = and_then column (part d) (told s w)

module _ (s : Setting) (old new : State) {a b : Scene} {part : Coming → Effect Missed Meant} (w : IsTrue a.port.out.whole) where
  -- the action is done, and its changes are still to be printed
  pub still_told : {X : Type 0} {x : X} (n : ℕ) → Acts (λ _ d. doing_of new b.names d) (Ok x) a b part → GoesOnTo old.working new.working → n ≡ length old.working.changes
      → StillDoes a b (with_lines s old.working a.port.out.column part) (λ d. writes (traced s.watch b.port.out.column (lines_since b.names s.classes n new.working)) (doing_of new b.names d))
  still_told n p g is =
      still_same _ (still_then (told s old.working) (still_all a (with_lines s old.working a.port.out.column part) w) p (λ d. refl))
      (λ d. ap (λ lines. writes (traced s.watch b.port.out.column lines) (doing_of new b.names d)) (sym (same_lines b.names s.classes old.working new.working n g is)))

  -- it has failed
  pub never_told : {X Y : Type 0} {view : X → Coming → Meant} {f : ActionError} (seen : Y → Coming → Meant) (r : Result Y ActionError) → IsErrAnd r (λ g. g ≡ f) → Acts view (Err f) a b part → Acts seen r a b (with_lines s old.working a.port.out.column part)
  never_told seen r h p = still_fails seen r (told s old.working) h (still_all a (with_lines s old.working a.port.out.column part) w) p (λ d. refl)

-- elements were removed, which is still to be printed
pub removal_told : (s : Setting) (old new : State) (a : Scene) (x : Action) (n : ℕ) (cells all : List ℕ) → IsTrue a.port.out.whole → x ≡ action.Remove cells → all ≡ cells
    → ((names : Spellings) (coming : Coming) → doing_of new names coming ≡ fold (λ d c. removed d (cell_of d c).tag) (doing_of old names coming) all)
    → GoesOnTo old.working new.working → n ≡ length old.working.changes
    → StillDoes a a (λ d. action_done s a.port.out.column x (doing_of old a.names d))
    (λ d. writes (traced s.watch a.port.out.column (lines_since a.names s.classes n new.working)) (doing_of new a.names d))
removal_told s old new a x n cells all w is same does g long =
    let column = a.port.out.column in
    still_same _ (still_all a (λ d. action_done s column x (doing_of old a.names d)) w)
    (λ d. ap (λ x. action_done s column x (doing_of old a.names d)) is
    ∙ ap (λ cells. told s old.working column (fold (λ d c. removed d (cell_of d c).tag) (doing_of old a.names d) cells)) (sym same)
    ∙ ap (told s old.working column) (sym (does a.names d))
    ∙ ap (λ lines. writes (traced s.watch column lines) (doing_of new a.names d)) (sym (same_lines a.names s.classes old.working new.working n g long)))
