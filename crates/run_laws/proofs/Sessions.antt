-- In each firing of a session of a valid program, the elements are whole, and the right side finds everything that it
-- names.
use Rattle.std.proofs.Common.{slice_get, ◌≡◌, ℕ, zero, suc, ◌+◌, ◌-◌, List, [], ◌∷◌, ◌++◌, map, fold, length, Bool, true, false, cond, not, ◌&&◌, Option, Some, None, IfOk, refl, ap, sym, ◌∙◌, subst, inl, inr, nat_lt, unwrap_or, option_map, arith}
use Rattle.std.specs.Prelude.{Contains, MatchOption}
use Rattle.std.specs.Bool.{MatchBool}
use Rattle.std.specs.List.{list_any, list_all}
use Rattle.std.proofs.lemmas.Bool.{and_parts, and_from, not-true}
use Rattle.std.proofs.lemmas.List.Elements.{All-nil}
use Rattle.std.proofs.lemmas.List.Folds.{list_all-append}
use Rattle.ops_base.specs.declared.actions.Action.{Action}
use Rattle.ops_base.specs.declared.actions.Action.TheVariants as action
use Rattle.ops_base.specs.declared.commands.Command.{Command}
use Rattle.ops_base.specs.declared.commands.Command.TheVariants as command
use Rattle.ops_base.specs.declared.commands.Fixed.{Fixed}
use Rattle.ops_base.specs.declared.commands.Strategy.{Strategy}
use Rattle.ops_base.specs.declared.elements.Change.TheVariants as change
use Rattle.ops_base.specs.declared.elements.Class.{Class}
use Rattle.ops_base.specs.declared.elements.Element.{Element}
use Rattle.ops_base.specs.declared.endings.Ending.{Ending}
use Rattle.ops_base.specs.declared.filling.Filling.{Filling}
use Rattle.ops_base.specs.declared.rules.Inst.{Inst}
use Rattle.ops_base.specs.declared.rules.Rule.{Rule}
use Rattle.ops_base.specs.declared.values.Sym.{Sym}
use Rattle.ops_base.specs.ConflictSet.{conflict_set}
use Rattle.ops_base.specs.Filling.{each, total, in_action, in_part, action_filled}
use Rattle.ops_base.specs.Names.{Spellings}
use Rattle.ops_base.specs.Refraction.{unfired, IsDominant}
use Rattle.ops_base.specs.Valid.{class_of, no_class, class_is_valid, is_build, builds_from, rule_is_valid, rule_builds_from, template_is_valid, command_is_valid, command_builds_from, fits, fixed_is_valid, fixed_are_valid, actions_are_valid, known_of}
use Rattle.ops_base.specs.WorkingMemory.{tags_of, without_tag}
use Rattle.ops_base.proofs.ConflictSetLaws.{conflict_set-is}
use Rattle.ops_base.proofs.DominanceLaws.{dominant_is}
use Rattle.ops_base.proofs.FilledValid.{rule_valid}
use Rattle.ops_base.proofs.Members.{IsMember, all_from_members}
use Rattle.ops_base.proofs.RefractionLaws.{member-unfired}
use Rattle.ops_base.proofs.WalkFinds.{meets-matches_of}
use Rattle.ops_io.specs.Coming.{Coming}
use Rattle.ops_io.specs.Output.{column_after}
use Rattle.ops_meaning.specs.Acting.{Setting, Acted, acted, actions_of, actions_done, conditions_of, elements_of, left_by, has_tag}
use Rattle.ops_meaning.specs.Acting as acting
use Rattle.ops_meaning.specs.Effects.{Effect, writes, and_then}
use Rattle.ops_meaning.specs.Kept.{WellKept, IsLawfulOver, IsFilledFrom, AreFilledFrom}
use Rattle.ops_meaning.proofs.Doings.{ok_goes, EndsActions, KeptActed, acted_kept}
use Rattle.ops_meaning.specs.Layout.{rule_name}
use Rattle.ops_meaning.specs.Running.{Course, Turned, Session, LastFiring, begun, turn, line_of_pause, last_of, one_less, given_by, ended_in, turned_of, element_made, removals, strategy_given, level_given, breaks_given, is_exit, in_force, rule_named, taken_out, taken_out_named, added, all_added, turned_on, firing, run_on, next_to_fire, command_done, commands_done, session_of, Earlier, back_given, earlier, fired_on, is_back, restored, states_kept}
use Rattle.ops_meaning.proofs.Trails.{AreKept, back_leaves, firing_kept_too, is_kept, none_kept, none_yet, those_before}
use Rattle.ops_meaning.proofs.Lawful.{added_kept, kept_after, removals_lawful, removals_last, clearing_lawful, clearing_last}
use Rattle.ops_meaning.proofs.RisingTags.{acts_lawfully}
use Rattle.run_laws.specs.Elements.{IsWhole, AreWhole}
use Rattle.ops_base.specs.Live.{without}
use Rattle.run_laws.specs.Programs.{AreValid}
use Rattle.run_laws.specs.Finding.{AllFind}
use Rattle.run_laws.specs.Firings.{IfGoesOn, EachOfRun, EachOfCommand, EachOfCommands, EachFiring, FindsAll, HoldWhole, column_after_line}
use Rattle.run_laws.proofs.Beginnings.{begins_as_matched, whole_match}
use Rattle.run_laws.proofs.Knowing.{Holds, there, all_at, actions_find}
use Rattle.run_laws.proofs.Parts.{if_ok, ok_on, ok_as, ok_more, ok_both}
use Rattle.run_laws.proofs.Rooms.{fits_class, fixed_fields_room}
use Rattle.run_laws.proofs.Sights.{each_at, sides_valid, begun_knows}
use Rattle.run_laws.proofs.Untrailed.{or_none}
use Rattle.run_laws.proofs.Wholes.{EachWhole, MakesWhole, Wholes, AreWholes, one_more, done_whole, actions_whole, actions_hold_whole}

-- the valid parts of a setting: its classes, both sides of its rules, and the templates that these name
pub record IsSound (s : Setting) : Type 0 where
  classes : list_all class_is_valid s.classes ≡ true
  rules : list_all (rule_is_valid s.classes (length s.text)) s.rules ≡ true
  builds : list_all (rule_builds_from (length s.templates)) s.rules ≡ true

-- working memory is well kept, and its elements are whole
record IsGood (classes : List Class) (m : Course) : Type 0 where
  kept : WellKept m.wm m.last
  whole : EachWhole classes m.wm

all_whole : (s : Setting) (m : Course) → IsGood s.classes m → AreWhole s.classes m.wm
all_whole s m g = all_from_members (IsWhole s.classes) m.wm g.whole

-- ---- a firing

-- the next instantiation is in the conflict set
next_there : (s : Setting) (m : Course) (i : Inst) → next_to_fire s.rules m ≡ Some i → Contains (conflict_set s.rules m.wm) i
next_there s m i is = by (next_to_fire s.rules m) (dominant_is m.strategy s.rules (unfired (conflict_set s.rules m.wm) m.fired)) is
  where
    by : (o : Option Inst) → MatchOption o (unfired (conflict_set s.rules m.wm) m.fired ≡ []) (λ i. IsDominant m.strategy s.rules (unfired (conflict_set s.rules m.wm) m.fired) i) → o ≡ Some i → Contains (conflict_set s.rules m.wm) i
    by None p is = absurd (cc)
    by (Some j) p is =
        let same : j ≡ i = cc in
        let P : Inst → Type 0 = Contains (conflict_set s.rules m.wm) in
        subst P same ((member-unfired (conflict_set s.rules m.wm) m.fired j).0 p.member).0

-- what holds when the right side of an instantiation begins
record Beginning (s : Setting) (m : Course) (i : Inst) : Type 0 where
  rule : Rule
  actions : actions_of s.rules i.rule ≡ rule.actions
  valid : actions_are_valid s.classes (known_of rule.conditions) rule.actions ≡ true
  builds : list_all (builds_from (length s.templates)) rule.actions ≡ true
  knows : Holds s.classes (known_of rule.conditions) (acting.begun s i (given_by m)).bindings (acting.begun s i (given_by m)).cells []
  cells : EachWhole s.classes (acting.begun s i (given_by m)).cells

beginning : (s : Setting) (m : Course) (i : Inst) → IsSound s → IsGood s.classes m → Contains (conflict_set s.rules m.wm) i → Beginning s m i
beginning s m i sound good in_set =
    let is = (conflict_set-is s.rules m.wm good.kept.0).sound i in_set in
    let r = is.0 in
    let sides = sides_valid s.classes (length s.text) r (each_at (rule_is_valid s.classes (length s.text)) s.rules i.rule r sound.rules is.1) in
    let conditions : conditions_of s.rules i.rule ≡ r.conditions = ap (λ o. unwrap_or (option_map (λ (r : Rule). r.conditions) o) []) is.1 in
    let f = meets-matches_of m.wm r.conditions i.tags is.2 in
    let w = whole_match m.wm good.kept.0 r.conditions f.0 f.1 in
    let P : List ℕ → Type 0 = λ ts. (e : Element) → IsMember e (elements_of m.wm ts) → IsMember e m.wm in
    let among = subst P f.2 w.elements in
    record {
      rule = r;
      actions = ap (λ o. unwrap_or (option_map (λ (r : Rule). r.actions) o) []) is.1;
      valid = sides.1;
      builds = each_at (rule_builds_from (length s.templates)) s.rules i.rule r sound.builds is.1;
      knows = begun_knows s (given_by m) i r good.kept.0 conditions sides.0 f.0 f.1 f.2;
      cells = λ e k. good.whole e (among e k);
    }

finds_all : (s : Setting) (column : ℕ) (i : Inst) (m : Course) → IsSound s → IsGood s.classes m → Contains (conflict_set s.rules m.wm) i → FindsAll s column i m
finds_all s column i m sound good in_set =
    let b = beginning s m i sound good in_set in
    let start = acting.begun s i (given_by m) in
    let P : List Action → Type 0 = λ as_. AllFind s (column_after_line s column i m) as_ start in
    let Q : List Action → Type 0 = λ as_. HoldWhole s (column_after_line s column i m) as_ start in
    let w : Wholes s.classes start.cells [] = record { cells = b.cells; made = λ e m. absurd m } in
    record {
      whole = all_whole s m good;
      begins = begins_as_matched s (given_by m) i good.kept.0 in_set;
      finds = subst P (sym b.actions) (actions_find s (column_after_line s column i m) (known_of b.rule.conditions) b.rule.actions start b.knows b.valid b.builds);
      cells = subst Q (sym b.actions) (actions_hold_whole s sound.classes (column_after_line s column i m) (known_of b.rule.conditions) b.rule.actions start b.knows w b.valid);
    }

acted_whole : (s : Setting) (column : ℕ) (i : Inst) (m : Course) → IsSound s → IsGood s.classes m → Contains (conflict_set s.rules m.wm) i → IfOk (acted s column i (given_by m)).outcome (λ a. MakesWhole s.classes a.changes)
acted_whole s column i m sound good in_set =
    let b = beginning s m i sound good in_set in
    let start = acting.begun s i (given_by m) in
    let P : List Action → Type 0 = λ as_. IfOk (actions_done s column 1 as_ start).outcome (AreWholes s.classes sound.classes) in
    let w : Wholes s.classes start.cells [] = record { cells = b.cells; made = λ e m. absurd m } in
    ok_as (AreWholes s.classes sound.classes) (λ (a : Acted). MakesWhole s.classes a.changes) left_by (λ f. f) (actions_done s column 1 (actions_of s.rules i.rule) start).outcome
    (subst P (sym b.actions) (actions_whole s sound.classes column 1 (known_of b.rule.conditions) b.rule.actions start b.knows w b.valid))
    (λ d q. q.made)

-- what a firing leaves whose productions come from these templates
record GoodTurned (classes : List Class) (templates : List Rule) (t : Turned) : Type 0 where
  course : IsGood classes t.course
  built : AreFilledFrom templates t.built

pub acted_filled : (s : Setting) (column : ℕ) (i : Inst) (m : Course) → IfOk (acted s column i (given_by m)).outcome (λ a. AreFilledFrom s.templates a.built)
acted_filled s column i m =
    ok_goes (KeptActed s.templates m.wm m.last m.names m.coming.fails) (λ (a : Acted). AreFilledFrom s.templates a.built) (EndsActions m.coming.fails) (acted s column i (given_by m)).outcome (acted_kept s column i (given_by m)) (λ a p. p.built)

firing_good : (s : Setting) (column : ℕ) (i : Inst) (m : Course) → IsSound s → IsGood s.classes m → Contains (conflict_set s.rules m.wm) i → IfOk (firing s column i m).outcome (GoodTurned s.classes s.templates)
firing_good s column i m sound good in_set =
    let start = column_after_line s column i m in
    let a = acted s start i (given_by m) in
    let L : Acted → Type 0 = IsLawfulOver m.wm m.last in
    let M : Acted → Type 0 = λ a. MakesWhole s.classes a.changes in
    let F : Acted → Type 0 = λ a. AreFilledFrom s.templates a.built in
    let P : Acted → Type 0 = λ a. L a × M a in
    let Q : Acted → Type 0 = λ a. P a × F a in
    ok_as Q (GoodTurned s.classes s.templates) (turned_of s.rules i m) (ended_in (m.firings + 1) i.rule (rule_name s.rules i.rule)) a.outcome
    (ok_both P F a.outcome (ok_both L M a.outcome (acts_lawfully s start i (given_by m) good.kept) (acted_whole s start i m sound good in_set)) (acted_filled s start i m))
    (λ a q. let lawful = q.0.0 in record { course = record { kept = lawful.kept; whole = done_whole s.classes m.wm a.changes good.whole q.0.1 }; built = q.1 })

-- what holds of the next instantiation if working memory is good
abbrev HoldsNext : (Setting → ℕ → Inst → Course → Type 0) → Type 0
HoldsNext P = (s : Setting) (column : ℕ) (i : Inst) (m : Course) → IsSound s → IsGood s.classes m → Contains (conflict_set s.rules m.wm) i → P s column i m

-- ---- a run

-- the same of the state before a firing
record GoodEarlier (classes : List Class) (e : Earlier) : Type 0 where
  kept : WellKept e.wm e.last
  whole : EachWhole classes e.wm

turn_good : (s : Setting) (column : ℕ) (line : Option (List ℕ)) (R : Session → Type 0) (k : Session) (next : Option Inst) (go_on : Inst → Effect Ending Session) (Q : Inst → Type 0) → R k
    → ((i : Inst) → next ≡ Some i → Q i × IfOk (go_on i).outcome R) → IfGoesOn line next Q × IfOk (turn column line k next go_on).outcome R
turn_good s column (Some line) R k next go_on Q good on = (tt, good)
turn_good s column None R k None go_on Q good on = (tt, good)
turn_good s column None R k (Some i) go_on Q good on = on i refl

without_all : {X : Type 0} (p : X → Bool) (n : ℕ) (xs : List X) → list_all p xs ≡ true → list_all p (without n xs) ≡ true
without_all p n [] h = refl
without_all p zero (x ∷ xs) h = (and_parts (p x) (list_all p xs) h).1
without_all p (suc n) (x ∷ xs) h =
    let parts = and_parts (p x) (list_all p xs) h in and_from _ _ parts.0 (without_all p n xs parts.1)

with_all : {X : Type 0} (p : X → Bool) (xs : List X) (x : X) → list_all p xs ≡ true → p x ≡ true → list_all p (xs ++ x ∷ []) ≡ true
with_all p [] x h k = and_from _ _ k refl
with_all p (y ∷ xs) x h k =
    let parts = and_parts (p y) (list_all p xs) h in and_from _ _ parts.0 (with_all p xs x parts.1 k)

pub all_both : {X : Type 0} (p : X → Bool) (xs ys : List X) → list_all p (xs ++ ys) ≡ true → (list_all p xs ≡ true) × (list_all p ys ≡ true)
all_both p xs ys h = and_parts (list_all p xs) (list_all p ys) (sym (list_all-append p xs ys) ∙ h)

-- what a run or a command leaves of a session: its productions in force are valid, and so are the templates that they name
pub record StillGood (classes : List Class) (templates : List Rule) (text : ℕ) (k : Session) : Type 0 where
  course : IsGood classes k.course
  trail : AreKept (GoodEarlier classes) k
  pub rules : list_all (rule_is_valid classes text) k.rules ≡ true
  pub builds : list_all (rule_builds_from (length templates)) k.rules ≡ true

-- a production that comes from a template builds none
filled_alone : (n m : ℕ) (fs : List Filling) (actions : List Action) → list_any is_build actions ≡ false → list_all (builds_from n) (each in_action (action_filled fs) m actions) ≡ true
filled_alone n m fs [] h = refl
filled_alone n m fs (a ∷ rest) h =
    let parts = or_none (is_build a) (list_any is_build rest) h in
    and_from _ _ (one a parts.0) (filled_alone n (m + in_action a) fs rest parts.1)
  where
    one : (a : Action) → is_build a ≡ false → builds_from n (action_filled fs m a) ≡ true
    one (action.Make class puts) h = refl
    one (action.Modify cell puts) h = refl
    one (action.Remove cells) h = refl
    one (action.Write items) h = refl
    one (action.Bind variable t) h = refl
    one (action.Cbind cell) h = refl
    one action.Halt h = refl
    one (action.Build template holes) h = absurd (cc)

module _ (classes : List Class) (templates : List Rule) (text : ℕ) where
  abbrev Still : Session → Type 0
  Still k = StillGood classes templates text k

  taken_good : (n : ℕ) (k : Session) → Still k → Still (taken_out n k)
  taken_good n k g = record {
    course = record { kept = g.course.kept; whole = g.course.whole };
    trail = none_kept (GoodEarlier classes) k;
    rules = without_all (rule_is_valid classes text) n k.rules g.rules;
    builds = without_all (rule_builds_from (length templates)) n k.rules g.builds;
  }

  named_good : (name : Sym) (k : Session) → Still k → Still (taken_out_named name k)
  named_good name k g = by (rule_named k.rules name)
    where
      by : (at : Option ℕ) → Still (unwrap_or (option_map (λ n. taken_out n k) at) k)
      by None = g
      by (Some n) = taken_good n k g

  added_good : (r : Rule) (k : Session) → rule_is_valid classes text r ≡ true → rule_builds_from (length templates) r ≡ true → Still k → Still (added r k)
  added_good r k h b g =
      let others = taken_out_named r.name k in
      let left = named_good r.name k g in
      record {
        course = left.course;
        trail = none_kept (GoodEarlier classes) others;
        rules = with_all (rule_is_valid classes text) others.rules r left.rules h;
        builds = with_all (rule_builds_from (length templates)) others.rules r left.builds b;
      }

  -- a production is as valid as the template that gives it
  filled_good : (r : Rule) (k : Session) → list_all (template_is_valid classes text) templates ≡ true → IsFilledFrom templates r → Still k → Still (added r k)
  filled_good r k h f g =
      let whole = each_at (template_is_valid classes text) templates f.number f.template h f.there in
      let parts = and_parts (rule_is_valid classes text f.template) (not (list_any is_build f.template.actions)) whole in
      let alone = filled_alone (length templates) (total in_part f.template.conditions) f.values f.template.actions (not-true _ parts.1) in
      added_good r k (ap (rule_is_valid classes text) f.filled ∙ rule_valid f.values classes text f.template ∙ parts.0)
      (ap (rule_builds_from (length templates)) f.filled ∙ alone) g

  all_added_good : (built : List Rule) (k : Session) → list_all (template_is_valid classes text) templates ≡ true → AreFilledFrom templates built → Still k → Still (all_added built k)
  all_added_good [] k h f g = g
  all_added_good (r ∷ built) k h f g = all_added_good built (added r k) h f.1 (filled_good r k h f.0 g)

  turned_good : (t : Turned) (k : Session) → list_all (template_is_valid classes text) templates ≡ true → Still k → GoodTurned classes templates t → Still (turned_on t k)
  turned_good t k h g q =
      let was : GoodEarlier classes (earlier k.course) = record { kept = g.course.kept; whole = g.course.whole } in
      all_added_good t.built (fired_on t.course k) h q.built
      (record { course = q.course; trail = firing_kept_too (GoodEarlier classes) t.course k was g.trail; rules = g.rules; builds = g.builds })

-- the same with the classes, the templates and the text of a setting
abbrev pub StillIn : Setting → Session → Type 0
StillIn s k = StillGood s.classes s.templates (length s.text) k

run_good : (P : Setting → ℕ → Inst → Course → Type 0) → HoldsNext P → (left : ℕ) (s : Setting) (column : ℕ) (last : Option LastFiring) (count : Option ℕ) (k : Session) → list_all class_is_valid s.classes ≡ true
    → list_all (template_is_valid s.classes (length s.text)) s.templates ≡ true → StillIn s k → EachOfRun P left s column last count k × IfOk (run_on left s column last count k).outcome (StillIn s)
run_good P holds zero s column last count k classes templates r =
    (tt, (turn_good s column (line_of_pause k.course.names k.rules k.breaks last count) (StillIn s) k (next_to_fire k.rules k.course) _ (λ i. Unit {0}) r (λ i is. (tt, tt))).1)
run_good P holds (suc left) s column last count k classes templates r =
    turn_good s column (line_of_pause k.course.names k.rules k.breaks last count) (StillIn s) k (next_to_fire k.rules k.course) _ _ r
    (λ i is.
    let at = in_force s k in
    let sound : IsSound at = record { classes = classes; rules = r.rules; builds = r.builds } in
    let in_set = next_there at k.course i is in
    let e = firing at column i k.course in
    let Good : Turned → Type 0 = GoodTurned s.classes s.templates in
    let on : Turned → Session = λ t. turned_on t k in
    let rest : Turned → Type 0 = λ t. EachOfRun P left s (column_after column e.bytes) (last_of k.rules i t) (one_less count) (on t) in
    let one = firing_good at column i k.course sound r.course in_set in
    let next_keeps : (t : Turned) → Good t → StillIn s (on t) = λ t g. turned_good s.classes s.templates (length s.text) t k templates r g in (
      (
        holds at column i k.course sound r.course in_set,
        ok_more Good rest e.outcome one (λ t g. (run_good P holds left s (column_after column e.bytes) (last_of k.rules i t) (one_less count) (on t) classes templates (next_keeps t g)).0),
      ),
      ok_on Good (StillIn s) e.bytes e.outcome (λ t. run_on left s (column_after column e.bytes) (last_of k.rules i t) (one_less count) (on t)) one
          (λ t g. (run_good P holds left s (column_after column e.bytes) (last_of k.rules i t) (one_less count) (on t) classes templates (next_keeps t g)).1),
    ))

-- ---- commands

removals_make : (classes : List Class) (wm : List Element) (tags : List ℕ) → MakesWhole classes (removals wm tags)
removals_make classes wm [] = λ e m. absurd m
removals_make classes wm (t ∷ ts) = by (has_tag wm t) (removals_make classes (without_tag t wm) ts) (removals_make classes wm ts)
  where
    by : (b : Bool) → MakesWhole classes (removals (without_tag t wm) ts) → MakesWhole classes (removals wm ts)
        → MakesWhole classes (cond b (change.Remove t ∷ removals (without_tag t wm) ts) (removals wm ts))
    by true one none = λ e m. first e m
      where
        first : (e : Element) → IsMember (change.Add e) (change.Remove t ∷ removals (without_tag t wm) ts) → IsWhole classes e
        first e (inl same) = absurd (cc)
        first e (inr m) = one e m
    by false one none = none

clearing_make : (classes : List Class) (tags : List ℕ) → MakesWhole classes (map change.Remove tags)
clearing_make classes [] e m = absurd m
clearing_make classes (t ∷ ts) e (inl same) = absurd (cc)
clearing_make classes (t ∷ ts) e (inr m) = clearing_make classes ts e m

-- the element that a valid command makes is whole
made_whole : (s : Setting) (class : ℕ) (puts : List Fixed) (m : Course) → IsSound s → fixed_are_valid s.classes class puts ≡ true → IsWhole s.classes (element_made s.classes class puts m)
made_whole s class puts m sound h =
    let whole = and_parts (nat_lt class (length s.classes) && fits puts) (list_all (fixed_is_valid (class_of s.classes class)) puts) h in
    let front = and_parts (nat_lt class (length s.classes)) (fits puts) whole.0 in
    record {
      class = there s.classes class front.0;
      fields = fixed_fields_room (class_of s.classes class) puts (fits_class (class_of s.classes class) (all_at class_is_valid s.classes class no_class sound.classes front.0)) whole.1;
    }

module _ (P : Setting → ℕ → Inst → Course → Type 0) (holds : HoldsNext P) (s : Setting) (classes_valid : list_all class_is_valid s.classes ≡ true) (templates_valid : list_all (template_is_valid s.classes (length s.text)) s.templates ≡ true) (limit : ℕ) where
  abbrev GoodSession : Session → Type 0
  GoodSession k = StillIn s k

  sound_in : (k : Session) → GoodSession k → IsSound (in_force s k)
  sound_in k g = record { classes = classes_valid; rules = g.rules; builds = g.builds }

  strategy_good : (column : ℕ) (set : Option Strategy) (k : Session) → GoodSession k → IfOk (strategy_given column set k).outcome GoodSession
  strategy_good column None k g = g
  strategy_good column (Some x) k g = record { course = record { kept = g.course.kept; whole = g.course.whole }; trail = g.trail; rules = g.rules; builds = g.builds }

  level_good : (column : ℕ) (set : Option ℕ) (k : Session) → GoodSession k → IfOk (level_given column set k).outcome GoodSession
  level_good column None k g = g
  level_good column (Some n) k g = record { course = g.course; trail = g.trail; rules = g.rules; builds = g.builds }

  breaks_good : (t : Setting) (column : ℕ) (names : List Sym) (k : Session) → GoodSession k → IfOk (breaks_given t column names k).outcome GoodSession
  breaks_good t column [] k g = g
  breaks_good t column (n ∷ ns) k g = record { course = g.course; trail = g.trail; rules = g.rules; builds = g.builds }

  excised_good : (names : List Sym) (k : Session) → GoodSession k → GoodSession (fold (λ k name. taken_out_named name k) k names)
  excised_good [] k g = g
  excised_good (name ∷ names) k g = excised_good names (taken_out_named name k) (named_good s.classes s.templates (length s.text) name k g)

  back_good : (n : ℕ) (e : Earlier) (k : Session) → GoodSession k → slice_get (states_kept k) n ≡ Some e → GoodSession (restored n k e)
  back_good n e k g is =
      let was : GoodEarlier s.classes e = is_kept (GoodEarlier s.classes) k n e g.trail is in
      record { course = record { kept = was.kept; whole = was.whole }; trail = those_before (GoodEarlier s.classes) n k e g.trail; rules = g.rules; builds = g.builds }

  command_good : (column : ℕ) (c : Command) (k : Session) → command_is_valid s.classes (length s.text) c ≡ true → command_builds_from (length s.templates) c ≡ true → GoodSession k
      → EachOfCommand P (in_force s k) limit column c k × IfOk (command_done (in_force s k) limit column c k).outcome GoodSession
  command_good column (command.Make class puts) k h b g =
      let e = element_made s.classes class puts k.course in (
        tt,
        record {
          course = record { kept = added_kept k.course.wm k.course.last e (omega arith) g.course.kept; whole = one_more s.classes k.course.wm e g.course.whole (made_whole (in_force s k) class puts k.course (sound_in k g) h) };
          trail = none_kept (GoodEarlier s.classes) k;
          rules = g.rules;
          builds = g.builds;
        },
      )
  command_good column (command.Remove tags) k h b g = (
    tt,
    record {
      course = record {
        kept = kept_after k.course.wm k.course.last (removals k.course.wm tags) g.course.kept (removals_lawful k.course.wm k.course.last tags) (removals_last k.course.wm k.course.last tags);
        whole = done_whole s.classes k.course.wm (removals k.course.wm tags) g.course.whole (removals_make s.classes k.course.wm tags);
      };
      trail = none_kept (GoodEarlier s.classes) k;
      rules = g.rules;
      builds = g.builds;
    },
  )
  command_good column command.RemoveAll k h b g = (
    tt,
    record {
      course = record {
        kept = kept_after k.course.wm k.course.last (map change.Remove (tags_of k.course.wm)) g.course.kept (clearing_lawful k.course.wm k.course.last g.course.kept.0) (clearing_last k.course.last (tags_of k.course.wm));
        whole = done_whole s.classes k.course.wm (map change.Remove (tags_of k.course.wm)) g.course.whole (clearing_make s.classes (tags_of k.course.wm));
      };
      trail = none_kept (GoodEarlier s.classes) k;
      rules = g.rules;
      builds = g.builds;
    },
  )
  command_good column (command.Run count) k h b g =
      run_good P holds (limit - k.course.firings) (record (in_force s k) { watch = k.watch }) column None count k classes_valid templates_valid g
  command_good column (command.Wm tags) k h b g = (tt, g)
  command_good column (command.Ppwm pattern) k h b g = (tt, g)
  command_good column command.Cs k h b g = (tt, g)
  command_good column (command.Pm names) k h b g = (tt, g)
  command_good column (command.Strategy set) k h b g = (tt, strategy_good column set k g)
  command_good column (command.Watch set) k h b g = (tt, level_good column set k g)
  command_good column (command.Pbreak names) k h b g = (tt, breaks_good (in_force s k) column names k g)
  command_good column (command.Add r) k h b g = (tt, added_good s.classes s.templates (length s.text) r k h b g)
  command_good column (command.Excise names) k h b g = (tt, excised_good names k g)
  command_good column (command.Back count) k h b g =
      (tt, if_ok GoodSession (λ (e : Ending). Unit {0}) (back_given column count k).outcome (back_leaves GoodSession (λ e. Unit {0}) column count k g (λ n e is. back_good n e k g is)))
  command_good column (command.Matches names) k h b g = (tt, g)
  command_good column command.Exit k h b g = (tt, g)

  commands_good : (column : ℕ) (commands : List Command) (k : Session) → list_all (command_is_valid s.classes (length s.text)) commands ≡ true
      → list_all (command_builds_from (length s.templates)) commands ≡ true → GoodSession k → EachOfCommands P s limit column commands k × IfOk (commands_done s limit column commands k).outcome GoodSession
  commands_good column [] k h b g = (tt, g)
  commands_good column (c ∷ rest) k h b g =
      let parts = and_parts (command_is_valid s.classes (length s.text) c) (list_all (command_is_valid s.classes (length s.text)) rest) h in
      let builds = and_parts (command_builds_from (length s.templates) c) (list_all (command_builds_from (length s.templates)) rest) b in
      let e = command_done (in_force s k) limit column c k in
      let one = command_good column c k parts.0 builds.0 g in
      let More : Session → Type 0 = λ next. EachOfCommands P s limit (column_after column e.bytes) rest next in
      by (is_exit c)
      (one.0, ok_more GoodSession More e.outcome one.1 (λ next q. (commands_good (column_after column e.bytes) rest next parts.1 builds.1 q).0))
      (ok_on GoodSession GoodSession e.bytes e.outcome (λ next. commands_done s limit (column_after column e.bytes) rest next) one.1
      (λ next q. (commands_good (column_after column e.bytes) rest next parts.1 builds.1 q).1))
    where
      by : (b : Bool) → (let e = command_done (in_force s k) limit column c k in EachOfCommand P (in_force s k) limit column c k × IfOk e.outcome (λ next. EachOfCommands P s limit (column_after column e.bytes) rest next))
          → IfOk (and_then column (command_done (in_force s k) limit column c k) (λ next k. commands_done s limit next rest k)).outcome GoodSession
          → MatchBool b (Unit {0}) (let e = command_done (in_force s k) limit column c k in EachOfCommand P (in_force s k) limit column c k × IfOk e.outcome (λ next. EachOfCommands P s limit (column_after column e.bytes) rest next))
          × IfOk (cond b (writes [] k) (and_then column (command_done (in_force s k) limit column c k) (λ next k. commands_done s limit next rest k))).outcome GoodSession
      by true each rest = (tt, g)
      by false each rest = (each, rest)

-- ---- a session

-- the valid parts of a program
pub record ValidParts (s : Setting) (cs : List Command) : Type 0 where
  pub classes : list_all class_is_valid s.classes ≡ true
  rules : list_all (rule_is_valid s.classes (length s.text)) s.rules ≡ true
  pub templates : list_all (template_is_valid s.classes (length s.text)) s.templates ≡ true
  pub commands : list_all (command_is_valid s.classes (length s.text)) cs ≡ true
  builds : list_all (rule_builds_from (length s.templates)) s.rules ≡ true
  pub command_builds : list_all (command_builds_from (length s.templates)) cs ≡ true

pub valid_parts : (s : Setting) (commands : List Command) → AreValid s commands → ValidParts s commands
valid_parts s commands h =
    let ninth = and_parts _ _ (and_parts _ _ (and_parts _ _ h).0).0 in
    let eighth = and_parts _ _ ninth.0 in
    let seventh = and_parts _ _ eighth.0 in
    let sixth = and_parts _ _ seventh.0 in
    let fifth = and_parts _ _ sixth.0 in
    record {
      classes = (and_parts _ _ fifth.0).1;
      rules = fifth.1;
      templates = sixth.1;
      commands = seventh.1;
      builds = eighth.1;
      command_builds = ninth.1;
    }

-- the same with fewer commands
pub first_parts : (s : Setting) (before after : List Command) → ValidParts s (before ++ after) → ValidParts s before
first_parts s before after v = record {
  classes = v.classes;
  rules = v.rules;
  templates = v.templates;
  commands = (all_both (command_is_valid s.classes (length s.text)) before after v.commands).0;
  builds = v.builds;
  command_builds = (all_both (command_builds_from (length s.templates)) before after v.command_builds).0;
}

session_good : (P : Setting → ℕ → Inst → Course → Type 0) → HoldsNext P → (s : Setting) (limit : ℕ) (commands : List Command) (names : Spellings) (coming : Coming) → ValidParts s commands
    → EachFiring P s limit commands names coming × IfOk (session_of s limit commands names coming).outcome (StillIn s)
session_good P holds s limit commands names coming valid =
    commands_good P holds s valid.classes valid.templates limit 0 commands (begun commands s.rules names coming) valid.commands valid.command_builds
    (record {
      course = record { kept = (λ k within. absurd (omega arith), All-nil _); whole = λ e m. absurd m };
      trail = none_yet (GoodEarlier s.classes) (list_any is_back commands);
      rules = valid.rules;
      builds = valid.builds;
    })

pub session_still : (s : Setting) (limit : ℕ) (commands : List Command) (names : Spellings) (coming : Coming) → ValidParts s commands
    → IfOk (session_of s limit commands names coming).outcome (StillIn s)
session_still s limit commands names coming valid =
    (session_good (λ s column i m. Unit {0}) (λ s column i m sound good in_set. tt) s limit commands names coming valid).1

pub each_firing_finds : (s : Setting) (limit : ℕ) (commands : List Command) (names : Spellings) (coming : Coming) → AreValid s commands → EachFiring FindsAll s limit commands names coming
each_firing_finds s limit commands names coming h = (session_good FindsAll finds_all s limit commands names coming (valid_parts s commands h)).0

-- the same for any column
pub each_firing_finds_anywhere : (s : Setting) (limit : ℕ) (commands : List Command) (names : Spellings) (coming : Coming) → AreValid s commands
    → EachFiring (λ s column i m. (at : ℕ) → FindsAll s at i m) s limit commands names coming
each_firing_finds_anywhere s limit commands names coming h =
    (session_good (λ s column i m. (at : ℕ) → FindsAll s at i m) (λ s column i m sound good in_set at. finds_all s at i m sound good in_set) s limit commands names coming (valid_parts s commands h)).0

pub session_whole : (s : Setting) (limit : ℕ) (commands : List Command) (names : Spellings) (coming : Coming) → AreValid s commands
    → IfOk (session_of s limit commands names coming).outcome (λ k. AreWhole s.classes k.course.wm)
session_whole s limit commands names coming h =
    ok_more (StillIn s) (λ (k : Session). AreWhole s.classes k.course.wm) (session_of s limit commands names coming).outcome
    (session_still s limit commands names coming (valid_parts s commands h)) (λ k g. all_whole s k.course g.course)
