-- The recognise-act cycle and the session.
use Rattle.std.specs.Prelude.{ℕ, zero, suc, ◌+◌, ◌-◌, List, [], ◌∷◌, ◌++◌, length, map, filter, find, position, fold, take, drop, nat_lt, slice_get, slice_set, if◌then◌else◌, Bool, true, false, not, ◌==◌, ◌&&◌, Option, Some, None, is_some, option_map, option_and_then, unwrap_or, Result, Ok, Err}
use Rattle.std.specs.List.{list_all, list_any, filter_map, flat_map}
use Rattle.std.specs.Option.{option_or}
use Rattle.ops_base.specs.declared.values.Sym.{Sym}
use Rattle.ops_base.specs.declared.values.Value.{Value}
use Rattle.ops_base.specs.declared.elements.Class.{Class}
use Rattle.ops_base.specs.declared.elements.Element.{Element}
use Rattle.ops_base.specs.declared.elements.Change.{Change}
use Rattle.ops_base.specs.declared.elements.Change.TheVariants as change
use Rattle.ops_base.specs.declared.rules.Rule.{Rule}
use Rattle.ops_base.specs.declared.rules.Inst.{Inst}
use Rattle.ops_base.specs.declared.commands.Fixed.{Fixed}
use Rattle.ops_base.specs.declared.commands.Command.{Command}
use Rattle.ops_base.specs.declared.commands.Command.TheVariants as command
use Rattle.ops_base.specs.declared.commands.Strategy.{Strategy}
use Rattle.ops_base.specs.declared.commands.Strategy.TheVariants.{Lex}
use Rattle.ops_base.specs.declared.endings.Ending.{Ending}
use Rattle.ops_base.specs.declared.endings.Ending.TheVariants as ending
use Rattle.ops_base.specs.Valid.{class_of, is_vector}
use Rattle.ops_base.specs.Values.{are_same}
use Rattle.ops_base.specs.WorkingMemory.{done, field_of, no_fields, tags_of, without_tag}
use Rattle.ops_base.specs.ConflictSet.{conflict_set}
use Rattle.ops_base.specs.Live.{without, moved, moved_insts}
use Rattle.ops_base.specs.Refraction.{unfired, still_fired, dominant, is_same_inst}
use Rattle.ops_io.specs.Output.{column_after}
use Rattle.ops_meaning.specs.Effects.{Effect, writes, ends_with, and_then, told_as, led_by}
use Rattle.ops_meaning.specs.Layout.{line_at, lines_at, traced, firing_bytes, tagged_text, inst_text, rule_name, strategy_line, level_line, break_line, unknown_line, halted_line, no_more_line, counted_line, broken_line, kept_line}
use Rattle.ops_base.specs.Names.{Spellings}
use Rattle.ops_io.specs.Coming.{Coming}
use Rattle.ops_meaning.specs.Partials.{left_side, all_partial_lines}
use Rattle.ops_meaning.specs.Acting.{Setting, Misdeed, Bad, NoInput, Given, Acted, acted, emptied, first_of, element_of, has_tag, change_lines}

-- what a session has come to: working memory, the strategy, the instantiations that are marked as fired, how many
-- firings were made, the greatest tag that was given and not undone, the spellings in use with the number of the last
-- fresh atom, and the input that is still to come
pub record Course : Type 0 where
  pub wm : List Element
  pub strategy : Strategy
  pub fired : List Inst
  pub firings : ℕ
  pub last : ℕ
  pub names : Spellings
  pub coming : Coming

-- what a firing leaves, whether `halt` was done in it, and the productions that it built
pub record Turned : Type 0 where
  pub course : Course
  pub halted : Bool
  pub built : List Rule

-- nothing was done yet, with these names in use, and this input to come
abbrev pub nothing_yet : Spellings → Coming → Course
nothing_yet names coming = record { wm = []; strategy = Lex; fired = []; firings = 0; last = 0; names = names; coming = coming }

-- ---- what is found

-- what finds the instantiations for working memory
abbrev pub Finder : Type 0
Finder = List Element → List Inst

-- the same, for each list of productions
abbrev pub Find : Type 0
Find = List Rule → Finder

-- the dominant one of those found that have not fired
abbrev pub next_by : Finder → List Rule → Course → Option Inst
next_by found rules m = dominant m.strategy rules (unfired (found m.wm) m.fired)

-- A phase ends, with these changes and this many firings: they are done, and a mark is forgotten where its
-- instantiation is not found in the working memory that they leave.
abbrev pub phase_by : Finder → List Change → ℕ → ℕ → Course → Course
phase_by found changes firings last m =
    let wm = done m.wm changes in record m { wm = wm; fired = still_fired (found wm) m.fired; firings = firings; last = last }

-- ---- one firing

-- the instantiation is marked as fired
abbrev pub marked : Inst → Course → Course
marked i m = record m { fired = m.fired ++ i ∷ [] }

-- what a firing leaves whose right side did this
abbrev pub turned_by : Finder → Inst → Course → Acted → Turned
turned_by found i m a =
    record {
      course = record (phase_by found a.changes (m.firings + 1) a.last (marked i m)) { names = a.names; coming = a.coming };
      halted = a.halted;
      built = a.built;
    }

-- a fault of a right side, which is that of the production with this number and this name, ends the session, and so does
-- an input that fails
abbrev pub ended_in : ℕ → ℕ → Sym → Misdeed → Ending
ended_in firing rule name (Bad action kind) = ending.Act firing rule name action kind
ended_in firing rule name NoInput = ending.ReadFault

-- what a right side begins with
abbrev pub given_by : Course → Given
given_by m = record { wm = m.wm; last = m.last; names = m.names; coming = m.coming }

-- A firing is traced by its line, does its right side, and is then one phase.
abbrev pub firing_by : Finder → Setting → ℕ → Inst → Course → Effect Ending Turned
firing_by found s column i m =
    let line = firing_bytes s.watch column m.names s.rules (m.firings + 1) i in
    led_by line (told_as (turned_by found i m) (ended_in (m.firings + 1) i.rule (rule_name s.rules i.rule)) (acted s (column_after column line) i (given_by m)))

-- ---- the trail

-- what comes back where a firing is undone: working memory, the marks, the last tag and the names, as they were before it
pub record Earlier : Type 0 where
  pub wm : List Element
  pub fired : List Inst
  pub last : ℕ
  pub names : Spellings

-- this many firings can be undone at most
abbrev pub most_kept : ℕ
most_kept = 32

-- what a firing from here on changes
abbrev pub earlier : Course → Earlier
earlier m = record { wm = m.wm; fired = m.fired; last = m.last; names = m.names }

-- the same as it was, and all else as it is
abbrev pub gone_back : Earlier → Course → Course
gone_back e m = record m { wm = e.wm; fired = e.fired; last = e.last; names = e.names }

-- the last of them, as many as are kept
abbrev pub last_kept : List Earlier → List Earlier
last_kept es = drop (length es - most_kept) es

-- what a session has come to: its course, the productions in force, the trace level, whether each of these productions
-- has a break, and the trail, which is what was before each of the last firings. Where no `back` stands among the
-- commands there is no trail.
pub record Session : Type 0 where
  pub course : Course
  pub rules : List Rule
  pub watch : ℕ
  pub breaks : List Bool
  pub trail : Option (List Earlier)

-- the setting, with the productions in force
abbrev pub in_force : Setting → Session → Setting
in_force s k = record s { rules = k.rules }

-- the course goes on
abbrev pub with_course : Session → Course → Session
with_course k m = record k { course = m }

-- no firing before this can be undone
abbrev pub trail_emptied : Session → Session
trail_emptied k = record k { trail = option_map (λ es. []) k.trail }

-- A firing leaves this course. What was before it joins the trail, and of more than are kept the oldest is dropped.
abbrev pub fired_on : Course → Session → Session
fired_on m k = record k { course = m; trail = option_map (λ es. last_kept (es ++ earlier k.course ∷ [])) k.trail }

-- ---- productions that come and go

-- the number of the production of this name
abbrev pub rule_named : List Rule → Sym → Option ℕ
rule_named rules name = position (λ r. r.name.0 == name.0) rules

-- these without the production of this name, where there is one
abbrev pub without_named : List Rule → Sym → List Rule
without_named rules name = unwrap_or (option_map (λ n. without n rules) (rule_named rules name)) rules

-- The production of this number is taken out, with its break and its marks. The others keep theirs. The trail is emptied.
abbrev pub taken_out : ℕ → Session → Session
taken_out n k = record (trail_emptied k) {
  rules = without n k.rules;
  breaks = without n k.breaks;
  course = record k.course { fired = moved_insts n k.course.fired };
}

-- the same of the production of this name, where there is one
abbrev pub taken_out_named : Sym → Session → Session
taken_out_named name k = unwrap_or (option_map (λ n. taken_out n k) (rule_named k.rules name)) k

-- A production stands last, without a break and without marks. One of its name is taken out first. The trail is emptied.
abbrev pub added : Rule → Session → Session
added r k = let left = taken_out_named r.name k in record (trail_emptied left) { rules = left.rules ++ r ∷ []; breaks = left.breaks ++ false ∷ [] }

-- these are added, one after the other
abbrev pub all_added : List Rule → Session → Session
all_added built k = fold (λ k r. added r k) k built

-- After the phase of a firing the productions that it built are added, in their order.
abbrev pub turned_on : Turned → Session → Session
turned_on t k = all_added t.built (fired_on t.course k)

-- the number of a production after this one is added, none where it is taken out for it
abbrev pub place_beside : List Rule → Rule → Option ℕ → Option ℕ
place_beside rules r place = unwrap_or (option_map (λ n. option_and_then (moved n) place) (rule_named rules r.name)) place

-- the same after each of these is added in turn
abbrev pub place_after : List Rule → List Rule → Option ℕ → Option ℕ
place_after rules [] place = place
place_after rules (r ∷ built) place = place_after (without_named rules r.name ++ r ∷ []) built (place_beside rules r place)

-- ---- a run

-- the last firing of a run: its production, none where the firing built another one of its name, and whether `halt` was
-- done in it
pub record LastFiring : Type 0 where
  pub rule : Option ℕ
  pub halted : Bool

-- the production with this number has a break, where this tells which have one
abbrev pub has_break : List Bool → ℕ → Bool
has_break breaks n = unwrap_or (slice_get breaks n) false

-- the line of a run that has made all its firings, where it has a number of them
abbrev pub line_of_count : Option ℕ → Option (List ℕ)
line_of_count (Some zero) = Some counted_line
line_of_count _ = None

-- the line of a run whose last firing was of this production, where that has a break
abbrev pub line_of_break : Spellings → List Rule → List Bool → Option ℕ → Option (List ℕ)
line_of_break names rules breaks None = None
line_of_break names rules breaks (Some n) = if has_break breaks n then Some (broken_line names (rule_name rules n)) else None

-- The line of a run that pauses or ends whatever is next: after a firing that did `halt`, after one whose production
-- has a break, and where it has made all its firings.
abbrev pub line_of_pause : Spellings → List Rule → List Bool → Option LastFiring → Option ℕ → Option (List ℕ)
line_of_pause names rules breaks None count = line_of_count count
line_of_pause names rules breaks (Some last) count =
    if last.halted then Some halted_line else option_or (line_of_break names rules breaks last.rule) (line_of_count count)

-- A run ends with its line where it has one, and where nothing is left to fire; otherwise it goes on with what is next.
abbrev pub turn : ℕ → Option (List ℕ) → Session → Option Inst → (Inst → Effect Ending Session) → Effect Ending Session
turn column (Some line) k next go_on = writes (line_at column line) k
turn column None k None go_on = writes (line_at column no_more_line) k
turn column None k (Some i) go_on = go_on i

-- one firing less is left to the run
abbrev pub one_less : Option ℕ → Option ℕ
one_less count = option_map (λ n. n - 1) count

-- a firing of this instantiation was the last one, where these productions were in force
abbrev pub last_of : List Rule → Inst → Turned → Option LastFiring
last_of rules i t = Some (record { rule = place_after rules t.built (Some i.rule); halted = t.halted })

-- A run from here on, where this many firings are left to the session, this was its last firing, if it made one, and
-- this many are left to it, if it has a number of them. Each turn goes by the productions that are in force in it.
abbrev pub run_by : Find → ℕ → Setting → ℕ → Option LastFiring → Option ℕ → Session → Effect Ending Session
run_by find zero s column last count k =
    turn column (line_of_pause k.course.names k.rules k.breaks last count) k (next_by (find k.rules) k.rules k.course) (λ i. ends_with (ending.Limit k.course.firings))
run_by find (suc left) s column last count k =
    turn column (line_of_pause k.course.names k.rules k.breaks last count) k (next_by (find k.rules) k.rules k.course)
    (λ i. and_then column (firing_by (find k.rules) (in_force s k) column i k.course)
    (λ next t. run_by find left s next (last_of k.rules i t) (one_less count) (turned_on t k)))

-- ---- commands

-- lines are written, and nothing else is done
abbrev pub lists : ℕ → List (List ℕ) → Session → Effect Ending Session
lists column lines k = writes (lines_at column lines) k

-- One phase, whose changes are printed where elements are traced.
abbrev pub phase_told : Finder → Setting → ℕ → List Change → ℕ → Session → Effect Ending Session
phase_told found s column changes last k =
    writes (traced k.watch column (change_lines k.course.names s.classes k.course.wm changes))
    (with_course k (phase_by found changes k.course.firings last k.course))

-- One attribute is given by a command: a scalar one the value, and the vector attribute all of them, in the place of
-- those that it had.
abbrev pub with_values : Class → List Value → ℕ → List Value → List Value
with_values c fields field values =
    if is_vector c field then emptied c field fields ++ values else slice_set fields field (first_of values)

-- the fields of an element of which a command gives these
abbrev pub fixed_fields : Class → List Fixed → List Value
fixed_fields c puts = fold (λ fields p. with_values c fields p.field p.values) (no_fields c) puts

-- the element that a command makes
abbrev pub element_made : List Class → ℕ → List Fixed → Course → Element
element_made classes class puts m = record { tag = m.last + 1; class = class; fields = fixed_fields (class_of classes class) puts }

-- the removals of these tags in their order, where an absent one, or one that is removed already, is none
abbrev pub removals : List Element → List ℕ → List Change
removals wm [] = []
removals wm (t ∷ ts) = if has_tag wm t then change.Remove t ∷ removals (without_tag t wm) ts else removals wm ts

-- The elements of these tags, in the order of the tags, where an absent one is none; all where no tag is given.
abbrev pub elements_listed : List Element → List ℕ → List Element
elements_listed wm [] = wm
elements_listed wm (t ∷ ts) = filter_map (element_of wm) (t ∷ ts)

-- the element has these values from this field on, where a field past its end is nil
abbrev pub has_values : Element → ℕ → List Value → Bool
has_values e f [] = true
has_values e f (v ∷ vs) = are_same (field_of e f) v && has_values e (suc f) vs

-- the element is of the class and has each of the values; without a pattern each element meets it
abbrev pub meets : Option (ℕ × List Fixed) → Element → Bool
meets None e = true
meets (Some p) e = (e.class == p.0) && list_all (λ g. has_values e g.field g.values) p.1

abbrev pub element_lines : Spellings → List Class → List Element → List (List ℕ)
element_lines names classes es = map (tagged_text names classes) es

-- these without this one
abbrev pub without_inst : Inst → List Inst → List Inst
without_inst i insts = filter (λ j. not (is_same_inst i j)) insts

-- at most this many of them, the dominant one first, and then the rest likewise
abbrev pub ranked : ℕ → Strategy → List Rule → List Inst → List Inst
ranked zero strategy rules insts = []
ranked (suc n) strategy rules insts =
    unwrap_or (option_map (λ i. i ∷ ranked n strategy rules (without_inst i insts)) (dominant strategy rules insts)) []

-- those that have not fired, the dominant one first
abbrev pub standing_by : Finder → List Rule → Course → List Inst
standing_by found rules m = let insts = unfired (found m.wm) m.fired in ranked (length insts) m.strategy rules insts

-- the bytes of a production, from its bracket to its bracket
abbrev pub rule_text : List ℕ → Rule → List ℕ
rule_text text r = drop r.first (take r.past text)

-- the production of this name as it stands in the text
abbrev pub production_line : Setting → Spellings → Sym → List ℕ
production_line s names name = unwrap_or (option_map (rule_text s.text) (find (λ r. r.name.0 == name.0) s.rules)) (unknown_line names name)

-- the lines of the partial matches of the production of this name, or the line that there is none
abbrev pub matches_told : Spellings → List Rule → List Element → Sym → List (List ℕ)
matches_told names rules wm name =
    unwrap_or (option_map (λ n. all_partial_lines names name wm (left_side rules n)) (rule_named rules name)) (unknown_line names name ∷ [])

-- A strategy is set, or printed where none is given.
abbrev pub strategy_given : ℕ → Option Strategy → Session → Effect Ending Session
strategy_given column None k = lists column (strategy_line k.course.strategy ∷ []) k
strategy_given column (Some g) k = writes [] (with_course k (record k.course { strategy = g }))

-- A trace level is set, or printed where none is given.
abbrev pub level_given : ℕ → Option ℕ → Session → Effect Ending Session
level_given column None k = lists column (level_line k.watch ∷ []) k
level_given column (Some n) k = writes [] (record k { watch = n })

-- the production of this number gets a break, or loses it
abbrev pub toggled : Option ℕ → List Bool → List Bool
toggled None breaks = breaks
toggled (Some n) breaks = slice_set breaks n (not (has_break breaks n))

-- the same of each production that has one of these names
abbrev pub all_toggled : List Rule → List Sym → List Bool → List Bool
all_toggled rules names breaks = fold (λ b name. toggled (rule_named rules name) b) breaks names

-- the names that no production has
abbrev pub unknown_of : List Rule → List Sym → List Sym
unknown_of rules names = filter (λ name. not (is_some (rule_named rules name))) names

-- the lines of the productions that have a break; the first of these has this number
abbrev pub break_lines : Spellings → List Bool → ℕ → List Rule → List (List ℕ)
break_lines names breaks n [] = []
break_lines names breaks n (r ∷ rs) =
    if has_break breaks n then break_line names r.name ∷ break_lines names breaks (suc n) rs else break_lines names breaks (suc n) rs

-- Breaks are set or cleared by names, or listed where no name is given.
abbrev pub breaks_given : Setting → ℕ → List Sym → Session → Effect Ending Session
breaks_given s column [] k = lists column (break_lines k.course.names k.breaks 0 s.rules) k
breaks_given s column (n ∷ ns) k =
    writes (lines_at column (map (unknown_line k.course.names) (unknown_of s.rules (n ∷ ns)))) (record k { breaks = all_toggled s.rules (n ∷ ns) k.breaks })

-- ---- excise

-- the names of which no production is left when their turn comes, where each takes its own out
abbrev pub left_unknown : List Rule → List Sym → List Sym
left_unknown rules [] = []
left_unknown rules (name ∷ names) =
    if is_some (rule_named rules name) then left_unknown (without_named rules name) names else name ∷ left_unknown rules names

-- The productions of these names are taken out, one after the other, and a name of none is told. Where none is taken
-- out the trail stays.
abbrev pub excised : ℕ → List Sym → Session → Effect Ending Session
excised column names k =
    writes (lines_at column (map (unknown_line k.course.names) (left_unknown k.rules names))) (fold (λ k name. taken_out_named name k) k names)

-- ---- each command

-- A run, in a session that makes at most this many firings.
abbrev pub run_given : Find → Setting → ℕ → ℕ → Option ℕ → Session → Effect Ending Session
run_given find s limit column count k = run_by find (limit - k.course.firings) (record s { watch = k.watch }) column None count k

-- ---- back

-- the states of the trail, the oldest first
abbrev pub states_kept : Session → List Earlier
states_kept k = unwrap_or k.trail []

-- This state, which has this number on the trail, comes back, and the trail ends before it. All that it does not have
-- stays: the strategy, the number of firings, the input, the productions in force, the trace level and the breaks.
abbrev pub restored : ℕ → Session → Earlier → Session
restored n k e = record k { course = gone_back e k.course; trail = option_map (take n) k.trail }

-- the state with this number on the trail comes back, where there is one
abbrev pub gone_back_to : ℕ → Session → Session
gone_back_to n k = unwrap_or (option_map (restored n k) (slice_get (states_kept k) n)) k

-- The last firings, this many, are undone. Where fewer are kept, none is, and it is told how many are.
abbrev pub back_given : ℕ → ℕ → Session → Effect Ending Session
back_given column count k =
    let kept = length (states_kept k) in
    if nat_lt kept count then lists column (kept_line kept ∷ []) k else writes [] (gone_back_to (kept - count) k)

-- ---- one command

-- What one command does from a column on, in a session that makes at most this many firings, where the productions of
-- the setting are in force. A top-level `make` is one phase, and so is a `remove`. Each of them empties the trail, also
-- a `remove` of tags that no element has.
abbrev pub command_by : Find → Setting → ℕ → ℕ → Command → Session → Effect Ending Session
command_by find s limit column (command.Make class puts) k =
    phase_told (find s.rules) s column (change.Add (element_made s.classes class puts k.course) ∷ []) (k.course.last + 1) (trail_emptied k)
command_by find s limit column (command.Remove tags) k =
    phase_told (find s.rules) s column (removals k.course.wm tags) k.course.last (trail_emptied k)
command_by find s limit column command.RemoveAll k =
    phase_told (find s.rules) s column (map change.Remove (tags_of k.course.wm)) k.course.last (trail_emptied k)
command_by find s limit column (command.Run count) k = run_given find s limit column count k
command_by find s limit column (command.Wm tags) k =
    lists column (element_lines k.course.names s.classes (elements_listed k.course.wm tags)) k
command_by find s limit column (command.Ppwm pattern) k =
    lists column (element_lines k.course.names s.classes (filter (meets pattern) k.course.wm)) k
command_by find s limit column command.Cs k =
    lists column (map (inst_text k.course.names s.rules) (standing_by (find s.rules) s.rules k.course)) k
command_by find s limit column (command.Pm names) k = lists column (map (production_line s k.course.names) names) k
command_by find s limit column (command.Strategy set) k = strategy_given column set k
command_by find s limit column (command.Watch set) k = level_given column set k
command_by find s limit column (command.Pbreak names) k = breaks_given s column names k
command_by find s limit column (command.Add r) k = writes [] (added r k)
command_by find s limit column (command.Excise names) k = excised column names k
command_by find s limit column (command.Back count) k = back_given column count k
command_by find s limit column (command.Matches names) k =
    lists column (flat_map (matches_told k.course.names s.rules k.course.wm) names) k
command_by find s limit column command.Exit k = writes [] k

-- nothing after it is done
abbrev pub is_exit : Command → Bool
is_exit command.Exit = true
is_exit _ = false

abbrev pub is_back : Command → Bool
is_back (command.Back count) = true
is_back _ = false

-- the commands in their order, up to the first `exit`
abbrev pub commands_by : Find → Setting → ℕ → ℕ → List Command → Session → Effect Ending Session
commands_by find s limit column [] k = writes [] k
commands_by find s limit column (c ∷ rest) k =
    if is_exit c then writes [] k
    else and_then column (command_by find (in_force s k) limit column c k) (λ next k. commands_by find s limit next rest k)

-- ---- the session

abbrev pub ending_of : Result Session Ending → Ending
ending_of (Ok k) = ending.Done k.course.firings (length k.course.wm) k.course.last
ending_of (Err e) = e

-- no firing was made yet, where this tells whether any is kept
abbrev pub trail_begun : Bool → Option (List Earlier)
trail_begun keeps = if keeps then Some [] else None

-- Nothing was done yet: these productions are in force, with no trace, and no break. There is a trail where a `back`
-- stands among these commands.
abbrev pub begun : List Command → List Rule → Spellings → Coming → Session
begun commands rules names coming = record {
  course = nothing_yet names coming;
  rules = rules;
  watch = 0;
  breaks = map (λ r. false) rules;
  trail = trail_begun (list_any is_back commands);
}

-- the whole session, from column 0 and nothing, where the productions of the setting are in force at first, it makes at
-- most this many firings, these names are in use and this input is to come
abbrev pub session_by : Find → Setting → ℕ → List Command → Spellings → Coming → Effect Ending Session
session_by find s limit commands names coming = commands_by find s limit 0 commands (begun commands s.rules names coming)

-- ---- the same, by the conflict set of the productions in force

abbrev pub next_to_fire : List Rule → Course → Option Inst
next_to_fire rules m = next_by (conflict_set rules) rules m

abbrev pub turned_of : List Rule → Inst → Course → Acted → Turned
turned_of rules i m a = turned_by (conflict_set rules) i m a

abbrev pub firing : Setting → ℕ → Inst → Course → Effect Ending Turned
firing s column i m = firing_by (conflict_set s.rules) s column i m

abbrev pub run_on : ℕ → Setting → ℕ → Option LastFiring → Option ℕ → Session → Effect Ending Session
run_on left s column last count k = run_by conflict_set left s column last count k

abbrev pub phase_done : Setting → ℕ → List Change → ℕ → Session → Effect Ending Session
phase_done s column changes last k = phase_told (conflict_set s.rules) s column changes last k

abbrev pub command_done : Setting → ℕ → ℕ → Command → Session → Effect Ending Session
command_done s limit column c k = command_by conflict_set s limit column c k

abbrev pub commands_done : Setting → ℕ → ℕ → List Command → Session → Effect Ending Session
commands_done s limit column commands k = commands_by conflict_set s limit column commands k

abbrev pub session_of : Setting → ℕ → List Command → Spellings → Coming → Effect Ending Session
session_of s limit commands names coming = session_by conflict_set s limit commands names coming
