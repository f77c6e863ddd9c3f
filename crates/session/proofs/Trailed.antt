-- What commands leave of a session with a trail, by what they leave of it without one.
use Rattle.std.proofs.Common.{◌≡◌, ◌∙◌, ap, sym, subst, refl, ℕ, zero, suc, ◌≤◌, ◌<◌, List, [], ◌∷◌, ◌++◌, length, fold, Bool, true, false, cond, Option, Some, None, option_map, unwrap_or, Result, Ok, Err, IfOk, inl, inr, ◌⊎◌, arith, nat_lt}
use Rattle.std.specs.Prelude.{position, ◌==◌}
use Rattle.std.specs.List.{list_any}
use Rattle.std.specs.List.{position_or_len}
use Rattle.std.proofs.lemmas.Bool.{ltb-true}
use Rattle.ops_base.specs.declared.commands.Command.{Command}
use Rattle.ops_base.specs.declared.commands.Command.TheVariants as command
use Rattle.ops_base.specs.declared.endings.Ending.{Ending}
use Rattle.ops_base.specs.declared.endings.Ending.TheVariants as ending
use Rattle.ops_base.specs.declared.rules.Rule.{Rule}
use Rattle.ops_base.specs.declared.values.Sym.{Sym}
use Rattle.ops_base.specs.Live.{without}
use Rattle.ops_base.specs.Names.{Spellings}
use Rattle.ops_io.specs.Coming.{Coming}
use Rattle.ops_io.specs.Ports.{Port, Put}
use Rattle.ops_meaning.specs.Acting.{Setting}
use Rattle.ops_meaning.specs.Effects.{Effect, Failure, OfPort, OfEffect, Fails, of_ending, outcome_as, told_as}
use Rattle.ops_meaning.specs.Running.{Course, Earlier, Session as Meant, added, begun, command_done, is_back, trail_begun, rule_named, taken_out, taken_out_named}
use Rattle.cycle.specs.States.{no_names, no_input}
use Rattle.work_store.specs.Stored.{Stored}
use Rattle.back_trail.specs.Trails.{Trailed, nothing_kept}
use Rattle.session.specs.Courses.{course_of, ends_unread, meant_by}
use Rattle.session.specs.Deeds.{Does}
use Rattle.session.specs.Trailing.{DoesWith, IsNamedFrom, IsTrailOf, IsUndoable, empties, is_plain, meant_with, standing_of, trail_by}
use Rattle.session.specs.declared.session.Session.{Session}
use Rattle.session.specs.declared.undoable.Undoable.{Undoable}
use Rattle.session.proofs.Points.{named_bound}

-- ---- effects

-- the session with this trail
abbrev pub trailed : Option (List Earlier) → Meant → Meant
trailed t k = record k { trail = t }

abbrev pub with_trail : Option (List Earlier) → Effect Ending Meant → Effect Ending Meant
with_trail t e = told_as (trailed t) (λ f. f) e

pub told_ok : (t : Option (List Earlier)) (e : Effect Ending Meant) (k : Meant) → e.outcome ≡ Ok k → (with_trail t e).outcome ≡ Ok (trailed t k)
told_ok t e k is = ap (outcome_as (trailed t) (λ f. f)) is

told_fails : (t : Option (List Earlier)) (f : Failure Ending) (a b : Port) (e : Effect Ending Meant) → Fails f a b e → Fails f a b (with_trail t e)
told_fails t (OfPort why) a b e p = p
told_fails t (OfEffect f) a b e p = (ap (outcome_as (trailed t) (λ f. f)) p.0, p.1)

-- ---- commands that are plain

-- what is left of a trail
abbrev pub left_after : Command → Option (List Earlier) → Option (List Earlier)
left_after c t = cond (empties c) (option_map (λ es. []) t) t

command_trailed : (s : Setting) (limit column : ℕ) (c : Command) (t : Option (List Earlier)) (k : Meant) → is_plain c ≡ true → command_done s limit column c (trailed t k) ≡ with_trail (left_after c t) (command_done s limit column c k)
command_trailed s limit column (command.Make class puts) t k h = refl
command_trailed s limit column (command.Remove tags) t k h = refl
command_trailed s limit column command.RemoveAll t k h = refl
command_trailed s limit column (command.Run count) t k h = absurd (cc)
command_trailed s limit column (command.Wm tags) t k h = refl
command_trailed s limit column (command.Ppwm pattern) t k h = refl
command_trailed s limit column command.Cs t k h = refl
command_trailed s limit column (command.Pm names) t k h = refl
command_trailed s limit column (command.Strategy None) t k h = refl
command_trailed s limit column (command.Strategy (Some g)) t k h = refl
command_trailed s limit column (command.Watch None) t k h = refl
command_trailed s limit column (command.Watch (Some n)) t k h = refl
command_trailed s limit column (command.Pbreak []) t k h = refl
command_trailed s limit column (command.Pbreak (n ∷ ns)) t k h = refl
command_trailed s limit column (command.Add r) t k h = absurd (cc)
command_trailed s limit column (command.Excise names) t k h = absurd (cc)
command_trailed s limit column (command.Back count) t k h = absurd (cc)
command_trailed s limit column (command.Matches names) t k h = refl
command_trailed s limit column command.Exit t k h = refl

-- where the trail stays, so does what it keeps of a course
command_stays : (s : Setting) (limit column : ℕ) (c : Command) (k : Meant) → is_plain c ≡ true → empties c ≡ false → IfOk (command_done s limit column c k).outcome (λ j. standing_of j.course ≡ standing_of k.course)
command_stays s limit column (command.Make class puts) k h e = absurd (cc)
command_stays s limit column (command.Remove tags) k h e = absurd (cc)
command_stays s limit column command.RemoveAll k h e = absurd (cc)
command_stays s limit column (command.Run count) k h e = absurd (cc)
command_stays s limit column (command.Wm tags) k h e = refl
command_stays s limit column (command.Ppwm pattern) k h e = refl
command_stays s limit column command.Cs k h e = refl
command_stays s limit column (command.Pm names) k h e = refl
command_stays s limit column (command.Strategy None) k h e = refl
command_stays s limit column (command.Strategy (Some g)) k h e = refl
command_stays s limit column (command.Watch None) k h e = refl
command_stays s limit column (command.Watch (Some n)) k h e = refl
command_stays s limit column (command.Pbreak []) k h e = refl
command_stays s limit column (command.Pbreak (n ∷ ns)) k h e = refl
command_stays s limit column (command.Add r) k h e = absurd (cc)
command_stays s limit column (command.Excise names) k h e = absurd (cc)
command_stays s limit column (command.Back count) k h e = absurd (cc)
command_stays s limit column (command.Matches names) k h e = refl
command_stays s limit column command.Exit k h e = refl

-- ---- the trail that the code keeps

abbrev pub emptied_by : Option Trailed → Option Trailed
emptied_by trail = option_map (λ t. nothing_kept) trail

pub emptied_means : (names : Spellings) (trail : Option Trailed) → trail_by names (emptied_by trail) ≡ option_map (λ es. []) (trail_by names trail)
emptied_means names None = refl
emptied_means names (Some t) = refl

-- a trail without firings is that of any course
pub emptied_of : (rules : List Rule) (m : Course) (trail : Option Trailed) → IsTrailOf rules m (emptied_by trail)
emptied_of rules m None = tt
emptied_of rules m (Some t) = (λ s e. absurd (cc), tt)

pub emptied_named : (least : ℕ) (names : Spellings) (trail : Option Trailed) → IsNamedFrom least names trail → IsNamedFrom least names (emptied_by trail)
emptied_named least names None h = tt
emptied_named least names (Some t) h = named_bound least names t.states h

-- a trail is of each course that has come to the same
pub trail_moved : (rules : List Rule) (m n : Course) (trail : Option Trailed) → standing_of n ≡ standing_of m → IsTrailOf rules m trail → IsTrailOf rules n trail
trail_moved rules m n None same h = tt
trail_moved rules m n (Some t) same h = (λ s e. h.0 s e ∙ sym same, h.1)

-- whether the input failed does not depend on what else might have been left
pub unread_too : (X Y : Type 0) (f : Ending) → (let r : Result X Ending = Err f in ends_unread r ≡ false) → (let r : Result Y Ending = Err f in ends_unread r ≡ false)
unread_too X Y ending.ReadFault h = h
unread_too X Y ending.WriteFault h = refl
unread_too X Y ending.OutOfMemory h = refl
unread_too X Y (ending.Done n m l) h = refl
unread_too X Y (ending.Limit n) h = refl
unread_too X Y (ending.Act n r x i k) h = refl

module _ {M H : Type 0} (stored : M → Stored) (stands_for : M → List Rule → Type 0) (rules : List Rule) (names : Spellings) (at : Setting) (limit : ℕ) (c : Command) (plain : is_plain c ≡ true) (u : Undoable M H) (kept : IsUndoable stored stands_for rules u) (a b : Port) where
  abbrev done : Meant → Effect Ending Meant
  done k = command_done at limit a.out.column c k

  done_is : (z : Coming) → with_trail (left_after c (trail_by names u.trail)) (done (meant_by stored rules u.session names z)) ≡ done (meant_with stored rules u names z)
  done_is z = sym (command_trailed at limit a.out.column c (trail_by names u.trail) (meant_by stored rules u.session names z) plain)

  -- what the trail is after it
  abbrev left : Option Trailed
  left = cond (empties c) (emptied_by u.trail) u.trail

  left_means : trail_by names left ≡ left_after c (trail_by names u.trail)
  left_means = by (empties c)
    where
      by : (e : Bool) → trail_by names (cond e (emptied_by u.trail) u.trail) ≡ cond e (option_map (λ es. []) (trail_by names u.trail)) (trail_by names u.trail)
      by true = emptied_means names u.trail
      by false = refl

  left_named : (least : ℕ) → IsNamedFrom least names u.trail → IsNamedFrom least names left
  left_named least h = by (empties c)
    where
      by : (e : Bool) → IsNamedFrom least names (cond e (emptied_by u.trail) u.trail)
      by true = emptied_named least names u.trail h
      by false = h

  pub plain_ok : (t : Session M H) (trail : Option Trailed) → trail ≡ left → Does stored stands_for rules names u.session (let r : Result (Session M H) Ending = Ok t in r) a b done
      → (let r : Result (Undoable M H) Ending = Ok (record { session = t; trail = trail }) in DoesWith stored stands_for rules rules names u r a b done)
  plain_ok t trail is p = record {
    performs = λ z.
        let told = p.performs z in
        let P : Effect Ending Meant → Type 0 = λ e. (e.outcome ≡ Ok (meant_with stored rules (record { session = t; trail = trail }) names z)) × Put a b e.bytes in
        let last : Option (List Earlier) → Meant = λ x. trailed x (meant_by stored rules t names z) in
        subst P (done_is z) (
          told_ok (left_after c (trail_by names u.trail)) (done (meant_by stored rules u.session names z)) (meant_by stored rules t names z) told.0
              ∙ ap (λ x. Ok (last x)) (sym left_means ∙ ap (trail_by names) (sym is)),
          told.1,
        );
    reads = refl;
    undoable = record { under_way = p.under_way; trail = subst (IsTrailOf rules (course_of stored t no_names no_input)) (sym is) (by (empties c) refl) };
    named = λ least h. subst (IsNamedFrom least names) (sym is) (left_named least h);
  }
    where
      stays : empties c ≡ false → standing_of (course_of stored t no_names no_input) ≡ standing_of (course_of stored u.session no_names no_input)
      stays e =
          let Q : Result Meant Ending → Type 0 = λ o. IfOk o (λ j. standing_of j.course ≡ standing_of (course_of stored u.session names no_input)) in
          subst Q (p.performs no_input).0 (command_stays at limit a.out.column c (meant_by stored rules u.session names no_input) plain e)

      by : (e : Bool) → empties c ≡ e → IsTrailOf rules (course_of stored t no_names no_input) (cond e (emptied_by u.trail) u.trail)
      by true e = emptied_of rules (course_of stored t no_names no_input) u.trail
      by false e = trail_moved rules (course_of stored u.session no_names no_input) (course_of stored t no_names no_input) u.trail (stays e) kept.trail

  pub plain_err : (f : Ending) → Does stored stands_for rules names u.session (let r : Result (Session M H) Ending = Err f in r) a b done
      → (let r : Result (Undoable M H) Ending = Err f in DoesWith stored stands_for rules rules names u r a b done)
  plain_err f p = record {
    performs = λ z. subst (Fails (of_ending f) a b) (done_is z) (told_fails (left_after c (trail_by names u.trail)) (of_ending f) a b (done (meant_by stored rules u.session names z)) (p.performs z));
    reads = unread_too (Session M H) (Undoable M H) f p.reads;
    undoable = tt;
    named = tt;
  }

-- ---- productions that come and go

pub added_trailed : (r : Rule) (t : Option (List Earlier)) (k : Meant) → added r (trailed t k) ≡ trailed (option_map (λ es. []) t) (added r k)
added_trailed r t k = by (rule_named k.rules r.name) t
  where
    by : (o : Option ℕ) (t : Option (List Earlier))
        → (let left = unwrap_or (option_map (λ n. taken_out n (trailed t k)) o) (trailed t k) in let m : Meant = record left { rules = left.rules ++ r ∷ []; breaks = left.breaks ++ false ∷ []; trail = option_map (λ es. []) left.trail } in m)
        ≡ (let left = unwrap_or (option_map (λ n. taken_out n k) o) k in let m : Meant = record left { rules = left.rules ++ r ∷ []; breaks = left.breaks ++ false ∷ []; trail = option_map (λ es. []) t } in m)
    by None t = refl
    by (Some n) None = refl
    by (Some n) (Some es) = refl

-- the productions of these names are taken out
abbrev pub all_out : List Sym → Meant → Meant
all_out names k = fold (λ k name. taken_out_named name k) k names

position_within : {X : Type 0} (p : X → Bool) (xs : List X) (n : ℕ) → position p xs ≡ Some n → n < length xs
position_within p xs n e = by (nat_lt (position_or_len p xs) (length xs)) refl e
  where
    by : (b : Bool) → nat_lt (position_or_len p xs) (length xs) ≡ b → cond b (Some (position_or_len p xs)) None ≡ Some n → n < length xs
    by true t e = let same : position_or_len p xs ≡ n = cc in subst (λ m. m < length xs) same (ltb-true _ _ t)
    by false t e = absurd (cc)

fewer : (n : ℕ) (rules : List Rule) → n < length rules → length (without n rules) < length rules
fewer n [] low = absurd (omega (arith, low))
fewer zero (r ∷ rules) low = omega arith
fewer (suc n) (r ∷ rules) low = let rest = fewer n rules (omega (arith, low)) in omega (arith, rest)

emptied_twice : (t : Option (List Earlier)) → (let e : Option (List Earlier) → Option (List Earlier) = λ t. option_map (λ es. []) t in e (e t) ≡ e t)
emptied_twice None = refl
emptied_twice (Some es) = refl

-- Either none is taken out, or there are fewer, and the trail is emptied.
abbrev pub TakesNone : List Sym → Meant → Option (List Earlier) → Type 0
TakesNone names k t = (all_out names k ≡ k) × (all_out names (trailed t k) ≡ trailed t k)

abbrev pub TakesSome : List Sym → Meant → Option (List Earlier) → Type 0
TakesSome names k t = (length (all_out names k).rules < length k.rules) × (all_out names (trailed t k) ≡ trailed (option_map (λ es. []) t) (all_out names k))

-- where one is taken out, those after it leave the trail empty
out_empty : (names : List Sym) (k : Meant) (t : Option (List Earlier)) → option_map (λ es. []) t ≡ t → all_out names (trailed t k) ≡ trailed t (all_out names k)
out_empty [] k t e = refl
out_empty (name ∷ names) k t e =
    ap (all_out names) (by (rule_named k.rules name)) ∙ out_empty names (taken_out_named name k) t e
  where
    by : (o : Option ℕ) → unwrap_or (option_map (λ n. taken_out n (trailed t k)) o) (trailed t k) ≡ trailed t (unwrap_or (option_map (λ n. taken_out n k) o) k)
    by None = refl
    by (Some n) = ap (λ x. trailed x (taken_out n k)) e

out_fewer : (names : List Sym) (k : Meant) → length (all_out names k).rules ≤ length k.rules
out_fewer [] k = omega arith
out_fewer (name ∷ names) k = let rest = out_fewer names (taken_out_named name k) in let one = by (rule_named k.rules name) in omega (arith, rest, one)
  where
    no_more : (n : ℕ) (rules : List Rule) → length (without n rules) ≤ length rules
    no_more n [] = omega arith
    no_more zero (r ∷ rules) = omega arith
    no_more (suc n) (r ∷ rules) = let rest = no_more n rules in omega (arith, rest)

    by : (o : Option ℕ) → length (unwrap_or (option_map (λ n. taken_out n k) o) k).rules ≤ length k.rules
    by None = omega arith
    by (Some n) = no_more n k.rules

pub none_or_some : (names : List Sym) (k : Meant) (t : Option (List Earlier)) → TakesNone names k t ⊎ TakesSome names k t
none_or_some [] k t = inl (refl, refl)
none_or_some (name ∷ names) k t = by (rule_named k.rules name) refl (none_or_some names k t)
  where
    by : (o : Option ℕ) → rule_named k.rules name ≡ o → TakesNone names k t ⊎ TakesSome names k t → TakesNone (name ∷ names) k t ⊎ TakesSome (name ∷ names) k t
    by None e rest =
        let same : taken_out_named name k ≡ k = ap (λ o. unwrap_or (option_map (λ n. taken_out n k) o) k) e in
        let same_too : taken_out_named name (trailed t k) ≡ trailed t k = ap (λ o. unwrap_or (option_map (λ n. taken_out n (trailed t k)) o) (trailed t k)) e in
        let P : Meant → Meant → Type 0 = λ a b. ((all_out names a ≡ k) × (all_out names b ≡ trailed t k)) ⊎ ((length (all_out names a).rules < length k.rules) × (all_out names b ≡ trailed (option_map (λ es. []) t) (all_out names a))) in
        subst (λ a. P a (taken_out_named name (trailed t k))) (sym same) (subst (P k) (sym same_too) rest)
    by (Some n) e rest =
        let same : taken_out_named name k ≡ taken_out n k = ap (λ o. unwrap_or (option_map (λ n. taken_out n k) o) k) e in
        let same_too : taken_out_named name (trailed t k) ≡ taken_out n (trailed t k) = ap (λ o. unwrap_or (option_map (λ n. taken_out n (trailed t k)) o) (trailed t k)) e in
        let fewest = out_fewer names (taken_out n k) in
        let one = fewer n k.rules (position_within (λ r. r.name.0 == name.0) k.rules n e) in
        let P : Meant → Meant → Type 0 = λ a b. (length (all_out names a).rules < length k.rules) × (all_out names b ≡ trailed (option_map (λ es. []) t) (all_out names a)) in
        inr (subst (λ a. P a (taken_out_named name (trailed t k))) (sym same) (subst (P (taken_out n k)) (sym same_too)
        (omega (arith, fewest, one), out_empty names (taken_out n k) (option_map (λ es. []) t) (emptied_twice t))))

-- ---- the beginning

pub begun_with : (n : Spellings) (z : Coming) (commands : List Command) (rules : List Rule) (k : Meant) (trail : Option Trailed) → k ≡ begun [] rules n z → trail ≡ cond (list_any is_back commands) (Some nothing_kept) None
    → trailed (trail_by n trail) k ≡ begun commands rules n z
begun_with n z commands rules k trail is kept =
    ap (trailed (trail_by n trail)) is ∙ ap (λ t. trailed (trail_by n t) (begun [] rules n z)) kept ∙ by (list_any is_back commands)
  where
    by : (b : Bool) → trailed (trail_by n (cond b (Some nothing_kept) None)) (begun [] rules n z) ≡ record (begun [] rules n z) { trail = trail_begun b }
    by true = refl
    by false = refl
