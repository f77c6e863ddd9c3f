-- A right side over a part of working memory, as a whole, and its phase.
use Rattle.std.proofs.Common.{◌≡◌, ◌∙◌, ℕ, ◌+◌, ◌-◌, ◌<◌, List, [], length, take, true, false, Result, Ok, Err, IfOk, refl, sym, ap, subst, arith}
use Rattle.std.specs.Prelude.{◌≤◌, IsErrAnd, drop}
use Rattle.std.specs.List.{list_all}
use Rattle.ops_base.specs.Symbols.{rule_held}
use Rattle.std.specs.List.{All}
use Rattle.std.proofs.lemmas.List.{take_all}
use Rattle.ops_base.specs.declared.elements.Change.{Change}
use Rattle.ops_base.specs.declared.elements.Element.{Element}
use Rattle.ops_base.specs.declared.rules.Inst.{Inst}
use Rattle.ops_base.specs.declared.rules.Rule.{Rule}
use Rattle.ops_base.specs.Names.{Spellings}
use Rattle.ops_base.specs.WorkingMemory.{Lawful, done, last_after, tags_of}
use Rattle.ops_io.specs.Coming.{Coming}
use Rattle.ops_meaning.specs.Acting.{Setting, ActState as Meant, Acted as Done, Misdeed, begun, left_by}
use Rattle.ops_meaning.specs.Effects.{Effect}
use Rattle.ops_meaning.specs.Kept.{AreFilledFrom, WellKept}
use Rattle.act_phase.specs.Deeds.{Scene, Does}
use Rattle.act_phase.specs.Excerpts.{IsExcerpt}
use Rattle.act_phase.specs.Outcomes.{acted_of, failure_of, is_read}
use Rattle.act_phase.specs.State.{State, doing_of}
use Rattle.act_phase.specs.declared.outcome.Acted.{Acted}
use Rattle.act_phase.specs.declared.outcome.ActFault.{ActFault}
use Rattle.act_phase.specs.declared.outcome.ActFault.TheVariants as fault
use Rattle.act_phase.specs.Held.{element_held, change_held}
use Rattle.act_phase.proofs.Enough.{excerpt_acts}
use Rattle.act_phase.proofs.Steps.{right_side, whole_built, whole_held, whole_lawful}
use Rattle.work_store.specs.Stored.{Stored}
use Rattle.feed_engine.specs.declared.feed.Feed.{Feed}
use Rattle.feed_engine.specs.Feeding.{GoesOver, IsFurther, IsUpTo}
use Rattle.feed_engine.proofs.Going.{goes_lawful}
use Rattle.feed_engine.proofs.Pieces.{rest_is_lawful, further_up}
use Rattle.feed_engine.proofs.Told.{both_err}

-- over a part of working memory that has the elements of its instantiation, a right side does what it does over the
-- whole
pub over_whole : {X : Type 0} {view : X → Coming → Done} {r : Result X ActFault} {a b : Scene} (s : Setting) (i : Inst) (whole part : List Element) (last : ℕ) → WellKept whole last → All (λ t. 0 < t) (tags_of whole) → IsExcerpt whole part i.tags
    → Does view failure_of is_read r a b (right_side s i part last a) → Does view failure_of is_read r a b (right_side s i whole last a)
over_whole {view = view} {r = r} {a = a} {b = b} s i whole part last well above excerpt p =
    let P : (Coming → Effect Misdeed Done) → Type 0 = Does view failure_of is_read r a b in
    let same : (d : Coming) → right_side s i part last a d ≡ right_side s i whole last a d = λ d. sym (excerpt_acts s a.port.out.column i whole part last a.names d well above excerpt) in
    subst P (λ n d. same d n) p

-- what was done, as a part of a larger result
pub does_seen : {X : Type 0} (seen : X → Acted) {x : X} {names : Spellings} {a b : Scene} {e : Coming → Effect Misdeed Done} → (let r : Result Acted ActFault = Ok (seen x) in Does (λ y d. acted_of y names d) failure_of is_read r a b e)
    → (let r : Result X ActFault = Ok x in Does (λ x d. acted_of (seen x) names d) failure_of is_read r a b e)
does_seen seen p = record {
  performs = record { taken = p.performs.taken; took = p.performs.took; performs = p.performs.performs };
  reads = p.reads;
  names = p.names;
  goes_on = p.goes_on;
}

pub does_told : {X : Type 0} (seen : X → Acted) {x : X} {names : Spellings} {a b : Scene} {e : Coming → Effect Misdeed Done} → (let r : Result X ActFault = Ok x in Does (λ x d. acted_of (seen x) names d) failure_of is_read r a b e)
    → (let r : Result Acted ActFault = Ok (seen x) in Does (λ y d. acted_of y names d) failure_of is_read r a b e)
does_told seen p = record {
  performs = record { taken = p.performs.taken; took = p.performs.took; performs = p.performs.performs };
  reads = p.reads;
  names = p.names;
  goes_on = p.goes_on;
}

-- the same, with something else beside it
pub does_paired : {X Y : Type 0} {x : Acted × X} {y : Acted × Y} {names : Spellings} {a b : Scene} {e : Coming → Effect Misdeed Done} → y.0 ≡ x.0
    → (let r : Result (Acted × X) ActFault = Ok x in Does (λ r d. acted_of r.0 names d) failure_of is_read r a b e) → (let r : Result (Acted × Y) ActFault = Ok y in Does (λ r d. acted_of r.0 names d) failure_of is_read r a b e)
does_paired {X = X} {Y = Y} {x = x} {y = y} {names = names} {a = a} {b = b} {e = e} same p = record {
  performs = record {
    taken = p.performs.taken;
    took = p.performs.took;
    performs = λ c comes. ((p.performs.performs c comes).0 ∙ ap (λ z. Ok (acted_of z names c)) (sym same), (p.performs.performs c comes).1);
  };
  reads = p.reads;
  names = p.names;
  goes_on = p.goes_on;
}

-- a fault is that of the call that returns it
pub does_err : {X Y : Type 0} {view : X → Coming → Done} {f : ActFault} {a b : Scene} {e : Coming → Effect Misdeed Done} (seen : Y → Coming → Done) (r : Result Y ActFault) → IsErrAnd r (λ g. g ≡ f)
    → (let given : Result X ActFault = Err f in Does view failure_of is_read given a b e) → Does seen failure_of is_read r a b e
does_err {X = X} {view = view} {f = f} {a = a} {b = b} {e = e} seen r h p =
    let fine : Result (Unit {0}) (Unit {0}) = Ok tt in
    let given : Result X ActFault = Err f in
    both_err view a b e seen r fine given f h refl p

-- memory ran out after everything was done
pub does_short : {X Y : Type 0} {view : X → Coming → Done} {x : X} {a b : Scene} {e : Coming → Effect Misdeed Done} (seen : Y → Coming → Done) (r : Result Y ActFault) → IsErrAnd r (λ g. g ≡ fault.OutOfMemory)
    → (let given : Result X ActFault = Ok x in Does view failure_of is_read given a b e) → Does seen failure_of is_read r a b e
does_short {X = X} {view = view} {x = x} {a = a} {b = b} {e = e} seen r h p =
    let short : Result (Unit {0}) (Unit {0}) = Err tt in
    let given : Result X ActFault = Ok x in
    both_err view a b e seen r short given fault.OutOfMemory h refl p

-- the changes are lawful, and their symbols are held if the others were
pub made_lawful : {X : Type 0} (s : Setting) (i : Inst) (wm : List Element) (last : ℕ) {a b : Scene} (r : Result (Acted × X) ActFault) → Does (λ r d. acted_of r.0 b.names d) failure_of is_read r a b (right_side s i wm last a) → WellKept wm last
    → IfOk r (λ r. Lawful wm last r.0.changes)
made_lawful {X = X} s i wm last {a = a} (Ok r) p well = (whole_lawful s i wm last a r.0 (does_told {X = Acted × X} (λ r. r.0) p) well).0
made_lawful s i wm last (Err f) p well = tt

pub made_held : {X : Type 0} (s : Setting) (i : Inst) (wm : List Element) (last : ℕ) {a b : Scene} (r : Result (Acted × X) ActFault) → Does (λ r d. acted_of r.0 b.names d) failure_of is_read r a b (right_side s i wm last a) → 0 < length a.names.held
    → list_all (rule_held (length a.names.held)) s.rules ≡ true → list_all (rule_held (length a.names.held)) s.templates ≡ true → list_all (element_held (length a.names.held)) wm ≡ true
    → IfOk r (λ r. (list_all (change_held (length b.names.held)) r.0.changes ≡ true) × (list_all (rule_held (length b.names.held)) r.0.built ≡ true))
made_held {X = X} s i wm last {a = a} (Ok r) p some rules templates memory = whole_held s i wm last a r.0 (does_told {X = Acted × X} (λ r. r.0) p) some rules templates memory
made_held s i wm last (Err f) p some rules templates memory = tt

-- what was built are templates with other constants
pub made_built : {X : Type 0} (s : Setting) (i : Inst) (wm : List Element) (last : ℕ) {a b : Scene} (r : Result (Acted × X) ActFault) → Does (λ r d. acted_of r.0 b.names d) failure_of is_read r a b (right_side s i wm last a)
    → IfOk r (λ r. AreFilledFrom s.templates r.0.built)
made_built {X = X} s i wm last {a = a} (Ok r) p = whole_built s i wm last a r.0 (does_told {X = Acted × X} (λ r. r.0) p)
made_built s i wm last (Err f) p = tt

-- ---- the start

no_names : Spellings
no_names = record { held = []; made = 0 }

no_input : Coming
no_input = record { bytes = []; fails = false }

module _ (s : Setting) (i : Inst) (now : State) (whole part : List Element) (last tag : ℕ) (next : tag ≡ last + 1) where
  abbrev Begins : ℕ → Type 0
  Begins n = (names : Spellings) (coming : Coming) → doing_of now names coming ≡ begun s i (record { wm = part; last = n; names = names; coming = coming })

  -- the tag before the next one is the last
  pub begins_at : Begins (tag - 1) → Begins last
  begins_at begins = let same : tag - 1 ≡ last = omega (arith, next) in subst Begins same begins

  module _ (begins : Begins (tag - 1)) where
    begun_so : doing_of now no_names no_input ≡ begun s i (record { wm = part; last = last; names = no_names; coming = no_input })
    begun_so = begins_at begins no_names no_input

    pub unchanged : now.working.changes ≡ []
    unchanged = ap (λ (d : Meant). d.changes) begun_so

    -- nothing is done yet
    pub goes_begin : IsExcerpt whole part i.tags → GoesOver whole last now
    goes_begin excerpt =
        let P : List Change → Type 0 = Lawful part last in
        let memory = ap (λ (d : Meant). d.wm) begun_so in
        let given = ap (λ (d : Meant). d.last) begun_so in
        record {
          part = part;
          within = excerpt.within;
          lawful = subst P (sym unchanged) tt;
          memory = ap (done part) unchanged ∙ sym memory;
          last_tag = ap (last_after last) unchanged ∙ sym given;
        }

-- ---- the end

-- the changes that were made
pub made_changes : (r : Acted) (d : State) → ((names : Spellings) (coming : Coming) → acted_of r names coming ≡ left_by (doing_of d names coming)) → r.changes ≡ d.working.changes
made_changes r d left = ap (λ (a : Done). a.changes) (left no_names no_input)

module _ {M : Type 0} (stored : M → Stored) (found : M → List Inst) (stands_for : M → List Rule → Type 0) (before : M) (changes : List Change) (feed : Feed M) (up : IsUpTo stored found stands_for before changes (length changes) feed) where
  all_taken : take (length changes) changes ≡ changes
  all_taken = take_all (length changes) changes (omega arith)

  pub all_elements : (stored feed.matcher).elements ≡ done (stored before).elements changes
  all_elements = up.elements ∙ ap (done (stored before).elements) all_taken

  pub all_last : (stored feed.matcher).last ≡ last_after (stored before).last changes
  all_last = up.last ∙ ap (last_after (stored before).last) all_taken

-- the rest, which is settled at the end
module _ {M : Type 0} (stored : M → Stored) (found : M → List Inst) (stands_for : M → List Rule → Type 0) (before : M) (now : State) (r : Acted) (left : (names : Spellings) (coming : Coming) → acted_of r names coming ≡ left_by (doing_of now names coming))
    (cs : List Change) (is : cs ≡ r.changes) (settled : ℕ) (feed : Feed M) (up : IsUpTo stored found stands_for before now.working.changes settled feed) where
  same_list : now.working.changes ≡ cs
  same_list = sym (is ∙ made_changes r now left)

  up_there : IsUpTo stored found stands_for before cs settled feed
  up_there = let P : List Change → Type 0 = λ xs. IsUpTo stored found stands_for before xs settled feed in subst P same_list up

  pub rest_within : settled ≤ length cs
  rest_within = up_there.within

  pub rest_lawful : GoesOver (stored before).elements (stored before).last now → Lawful (stored feed.matcher).elements (stored feed.matcher).last (drop settled cs)
  rest_lawful over =
      let P : List Change → Type 0 = λ xs. Lawful (stored before).elements (stored before).last xs in
      rest_is_lawful stored found stands_for before cs settled feed up_there (subst P same_list (goes_lawful (stored before).elements (stored before).last now over))

  pub rest_up : (new : Feed M) → IsFurther stored found stands_for cs settled feed (length cs) new → IsUpTo stored found stands_for before r.changes (length r.changes) new
  rest_up new further =
      let P : List Change → Type 0 = λ xs. IsUpTo stored found stands_for before xs (length xs) new in
      subst P is (further_up stored found stands_for before cs settled (length cs) feed new up_there further)
