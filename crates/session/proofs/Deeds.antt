-- What commands leave that read no input.
use Rattle.std.proofs.Common.{◌≡◌, ◌∙◌, ap, sym, subst, refl, ℕ, List, false, Result, Ok, Err, IsTrue}
use Rattle.ops_base.specs.declared.commands.Command.{Command}
use Rattle.ops_base.specs.declared.endings.Ending.{Ending}
use Rattle.ops_base.specs.declared.endings.Ending.TheVariants as ending
use Rattle.ops_base.specs.declared.rules.Rule.{Rule}
use Rattle.ops_base.specs.Names.{Spellings}
use Rattle.ops_io.specs.Coming.{Coming}
use Rattle.ops_io.specs.Ports.{Port, Put, Stopped}
use Rattle.ops_io.specs.declared.stop.Stop.TheVariants as stop
use Rattle.ops_meaning.specs.Acting.{Setting}
use Rattle.ops_meaning.specs.Effects.{Effect, writes, Fails, Performs, of_ending}
use Rattle.ops_meaning.specs.Layout.{lines_at}
use Rattle.ops_meaning.specs.Running.{Session as Meant, command_done, lists}
use Rattle.ops_meaning.proofs.EffectLemmas.{fails_short, fails_behind}
use Rattle.work_store.specs.Stored.{Stored}
use Rattle.session.specs.Courses.{IsUnderWay, meant_by, ends_unread}
use Rattle.session.specs.Deeds.{Does}
use Rattle.session.specs.declared.session.Session.{Session}

-- what a command does to what the session has come to
abbrev Deed : Type 0
Deed = Meant → Effect Ending Meant

module _ {M H : Type 0} (stored : M → Stored) (stands_for : M → List Rule → Type 0) (rules : List Rule) (names : Spellings) where
  abbrev DoesSo : Session M H → Result (Session M H) Ending → Port → Port → Deed → Type 0
  DoesSo s r a b e = Does stored stands_for rules names s r a b e

  -- what the session has come to
  abbrev pub come : Session M H → Coming → Meant
  come s z = meant_by stored rules s names z

  module _ (s : Session M H) (e : Deed) where
    -- memory ran out before anything was put
    pub does_short : (f : Ending) (a : Port) → f ≡ ending.OutOfMemory → IsTrue a.out.whole → DoesSo s (Err f) a a e
    does_short f a is w =
        let P : Ending → Type 0 = λ f. DoesSo s (Err f) a a e in
        subst P (sym is) (record { performs = λ z. fails_short a (e (come s z)) w; reads = refl; under_way = tt })

    -- memory ran out after all was put
    pub does_behind : (f : Ending) (a b : Port) (bytes : List ℕ) → f ≡ ending.OutOfMemory → ((z : Coming) → bytes ≡ (e (come s z)).bytes) → Put a b bytes → DoesSo s (Err f) a b e
    does_behind f a b bytes is all put =
        let P : Ending → Type 0 = λ f. DoesSo s (Err f) a b e in
        let Q : List ℕ → Type 0 = Put a b in
        subst P (sym is) (record { performs = λ z. fails_behind a b (e (come s z)) (subst Q (all z) put); reads = refl; under_way = tt })

    -- the sink refused
    pub does_refused : (f : Ending) (a b : Port) (bytes : List ℕ) → f ≡ ending.WriteFault → ((z : Coming) → bytes ≡ (e (come s z)).bytes) → Stopped stop.Write a b bytes → DoesSo s (Err f) a b e
    does_refused f a b bytes is all stopped =
        let P : Ending → Type 0 = λ f. DoesSo s (Err f) a b e in
        let Q : List ℕ → Type 0 = Stopped stop.Write a b in
        subst P (sym is) (record { performs = λ z. subst Q (all z) stopped; reads = refl; under_way = tt })

    -- all was put, and the session has come to what is meant
    pub does_all : (t : Session M H) (a b : Port) (bytes : List ℕ) → ((z : Coming) → e (come s z) ≡ writes bytes (come t z)) → Put a b bytes → IsUnderWay stored stands_for rules t → DoesSo s (Ok t) a b e
    does_all t a b bytes is put under_way = record {
      performs = λ z. let P : Effect Ending Meant → Type 0 = Performs (λ t. meant_by stored rules t names z) of_ending (let r : Result (Session M H) Ending = Ok t in r) a b in subst P (sym (is z)) (refl, put);
      reads = refl;
      under_way = under_way;
    }

  -- the same of a session that has come to the same, where the same is meant
  pub does_as : (s t : Session M H) (r : Result (Session M H) Ending) (a b : Port) (e f : Deed) → ((z : Coming) → come s z ≡ come t z) → ((z : Coming) → e (come s z) ≡ f (come s z)) → DoesSo s r a b e → DoesSo t r a b f
  does_as s t r a b e f same meant p = record {
    performs = λ z. let P : Effect Ending Meant → Type 0 = Performs (λ t. meant_by stored rules t names z) of_ending r a b in subst P (meant z ∙ ap f (same z)) (p.performs z);
    reads = p.reads;
    under_way = p.under_way;
  }

  -- ---- lists of lines

  module _ (s t : Session M H) (same : (z : Coming) → come t z ≡ come s z) (a b : Port) (lines : Meant → List (List ℕ)) (told : List (List ℕ)) (is : (z : Coming) → told ≡ lines (come t z)) where
    abbrev listing : Deed
    listing k = lists a.out.column (lines k) k

    -- the lines are put, and the session has come to the same
    pub listed : Put a b (lines_at a.out.column told) → IsUnderWay stored stands_for rules t → DoesSo s (Ok t) a b listing
    listed put under_way =
        does_all s listing t a b (lines_at a.out.column told)
        (λ z. ap listing (sym (same z)) ∙ ap (λ ls. writes (lines_at a.out.column ls) (come t z)) (sym (is z))) put under_way

    -- they are refused
    pub unlisted : (f : Ending) → f ≡ ending.WriteFault → Stopped stop.Write a b (lines_at a.out.column told) → DoesSo s (Err f) a b listing
    unlisted f refused stopped =
        does_refused s listing f a b (lines_at a.out.column told) refused
        (λ z. ap (lines_at a.out.column) (is z ∙ ap lines (same z))) stopped

    -- the call that puts them gives up
    pub given_up : (f : Ending) → (let r : Result (Session M H) Ending = Err f in ends_unread r ≡ false) → ((k : Meant) → Fails (of_ending f) a b (lists a.out.column told k)) → DoesSo s (Err f) a b listing
    given_up f quiet fails = record {
      performs = λ z. let P : List (List ℕ) → Type 0 = λ ls. Fails (of_ending f) a b (lists a.out.column ls (come s z)) in subst P (is z ∙ ap lines (same z)) (fails (come s z));
      reads = quiet;
      under_way = tt;
    }

-- ---- commands

-- the same of a command that is this one
pub does_command : {M H : Type 0} (stored : M → Stored) (stands_for : M → List Rule → Type 0) (rules : List Rule) (names : Spellings) (at : Setting) (limit : ℕ) (c x : Command) (s : Session M H) (r : Result (Session M H) Ending) (a b : Port) → c ≡ x
    → Does stored stands_for rules names s r a b (λ k. command_done at limit a.out.column x k) → Does stored stands_for rules names s r a b (λ k. command_done at limit a.out.column c k)
does_command stored stands_for rules names at limit c x s r a b is p =
    subst (λ d. Does stored stands_for rules names s r a b (λ k. command_done at limit a.out.column d k)) (sym is) p

-- the same of one that empties a trail, as there is none here
pub does_phase : {M H : Type 0} (stored : M → Stored) (stands_for : M → List Rule → Type 0) (rules : List Rule) (names : Spellings) (at : Setting) (limit : ℕ) (c x : Command) (s : Session M H) (r : Result (Session M H) Ending) (a b : Port) (e : Deed) → c ≡ x
    → Does stored stands_for rules names s r a b e → ((z : Coming) → e (meant_by stored rules s names z) ≡ command_done at limit a.out.column x (meant_by stored rules s names z)) → Does stored stands_for rules names s r a b (λ k. command_done at limit a.out.column c k)
does_phase stored stands_for rules names at limit c x s r a b e is p same =
    does_command stored stands_for rules names at limit c x s r a b is
    (does_as stored stands_for rules names s s r a b e (λ k. command_done at limit a.out.column x k) (λ z. refl) same p)
