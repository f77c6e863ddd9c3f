-- What `excise` leaves, and which names it reports.
use Rattle.std.proofs.Common.{◌≡◌, ℕ, zero, suc, ◌+◌, ◌-◌, List, [], ◌∷◌, ◌++◌, map, length, fold, Bool, true, false, cond, not, ◌==◌, ◌&&◌, ◌||◌, if◌then◌else◌, Option, Some, None, is_some, option_map, unwrap_or, Result, Ok, Err, IfOk, refl, ap, sym, ◌∙◌, subst, arith, nat_lt, ⊎_elim}
use Rattle.std.specs.Prelude.{filter, slice_get, option_and_then}
use Rattle.std.specs.List.{cons_option, filter_map, list_any, position, position_or_len}
use Rattle.std.proofs.lemmas.Bool.{and_parts, and_from, cond_both, or_parts, true≢false, lt-ltb, ltb-true, le-ltb, cases_lt}
use Rattle.std.proofs.lemmas.Bool.Decides.{Decides-eqb}
use Rattle.ops_base.specs.declared.commands.Command.{Command}
use Rattle.ops_base.specs.declared.commands.Command.TheVariants as command
use Rattle.ops_base.specs.declared.commands.Strategy.{Strategy}
use Rattle.ops_base.specs.declared.endings.Ending.{Ending}
use Rattle.ops_base.specs.declared.rules.Inst.{Inst}
use Rattle.ops_base.specs.declared.rules.Rule.{Rule}
use Rattle.ops_base.specs.declared.values.Sym.{Sym}
use Rattle.ops_base.specs.Live.{without, moved, renumbered, moved_insts}
use Rattle.ops_base.specs.Valid.{are_distinct, is_in}
use Rattle.ops_base.specs.Names.{Spellings}
use Rattle.ops_base.specs.WorkingMemory.{HasRisingTags}
use Rattle.ops_io.specs.Coming.{Coming}
use Rattle.ops_io.specs.Output.{column_after}
use Rattle.ops_meaning.specs.Acting.{Setting}
use Rattle.ops_meaning.specs.Effects.{Effect, writes, and_then}
use Rattle.ops_meaning.specs.Layout.{lines_at, unknown_line}
use Rattle.ops_meaning.specs.Running.{Session, added, all_added, begun, breaks_given, command_done, commands_done, in_force, is_exit, left_unknown, level_given, rule_named, run_on, session_of, strategy_given, taken_out, taken_out_named, without_named, Earlier, LastFiring, Turned, back_given, fired_on, firing, last_of, line_of_pause, next_to_fire, one_less, trail_emptied, turn, turned_on}
use Rattle.ops_meaning.proofs.Trails.{back_leaves}
use Rattle.run_laws.specs.Excising.{AreNamedApart, has_name, is_given, is_named, left_beside, left_by, left_inst, left_number, names_told, trail_left}
use Rattle.run_laws.specs.Programs.{AreValid}
use Rattle.run_laws.specs.Standing.{ranking_in}
use Rattle.run_laws.proofs.Orders.{taken_order}
use Rattle.run_laws.proofs.Parts.{if_ok, ok_on}

-- ---- the first that passes

pub position_head : {X : Type 0} (p : X → Bool) (x : X) (xs : List X) → p x ≡ true → position p (x ∷ xs) ≡ Some 0
position_head p x xs e = rw (e, lt-ltb 0 (length (x ∷ xs)) (omega arith)) refl

pub position_next : {X : Type 0} (p : X → Bool) (x : X) (xs : List X) → p x ≡ false → position p (x ∷ xs) ≡ option_map suc (position p xs)
position_next p x xs e = go (nat_lt (position_or_len p xs) (length xs)) refl
  where
    go : (b : Bool) → nat_lt (position_or_len p xs) (length xs) ≡ b → position p (x ∷ xs) ≡ option_map suc (position p xs)
    go true t =
        let lt = ltb-true _ _ t in
        let one : 1 + position_or_len p xs ≡ suc (position_or_len p xs) = omega arith in
        rw (e, t, lt-ltb (1 + position_or_len p xs) (suc (length xs)) (omega arith)) (ap Some one)
    go false t = ⊎_elim
        (λ lt. absurd (true≢false (sym (lt-ltb _ _ lt) ∙ t)))
        (λ ge.
        let inner = le-ltb (1 + position_or_len p xs) (suc (length xs)) (omega arith) in
        rw (e, t, inner) refl)
        (cases_lt (position_or_len p xs) (length xs))

position_some : {X : Type 0} (p : X → Bool) (xs : List X) → is_some (position p xs) ≡ list_any p xs
position_some p [] = refl
position_some p (x ∷ xs) = by (p x) refl (position_some p xs)
  where
    suc_some : (o : Option ℕ) → is_some (option_map suc o) ≡ is_some o
    suc_some None = refl
    suc_some (Some n) = refl

    by : (b : Bool) → p x ≡ b → is_some (position p xs) ≡ list_any p xs → is_some (position p (x ∷ xs)) ≡ list_any p (x ∷ xs)
    by true e rest = ap is_some (position_head p x xs e) ∙ sym (ap (λ b. b || list_any p xs) e)
    by false e rest =
        ap is_some (position_next p x xs e) ∙ suc_some (position p xs) ∙ rest ∙ sym (ap (λ b. b || list_any p xs) e)

-- ---- nothing goes

module _ (p : Rule → Bool) where
  abbrev Stay : List Rule → Type 0
  Stay rules = list_any p rules ≡ false

  head_stays : (r : Rule) (rules : List Rule) → Stay (r ∷ rules) → p r ≡ false
  head_stays r rules h = (or_parts (p r) (list_any p rules) h).0

  tail_stays : (r : Rule) (rules : List Rule) → Stay (r ∷ rules) → Stay rules
  tail_stays r rules h = (or_parts (p r) (list_any p rules) h).1

  all_stay : (rules : List Rule) → Stay rules → filter (λ r. not (p r)) rules ≡ rules
  all_stay [] h = refl
  all_stay (r ∷ rules) h =
      ap (λ b. if not b then r ∷ filter (λ r. not (p r)) rules else filter (λ r. not (p r)) rules) (head_stays r rules h)
      ∙ ap (λ rs. r ∷ rs) (all_stay rules (tail_stays r rules h))

  beside_stays : {X : Type 0} (rules : List Rule) (xs : List X) → Stay rules → left_beside p rules xs ≡ xs
  beside_stays rules [] h = refl
  beside_stays [] (x ∷ xs) h = refl
  beside_stays (r ∷ rules) (x ∷ xs) h =
      ap (λ b. if b then left_beside p rules xs else x ∷ left_beside p rules xs) (head_stays r rules h)
      ∙ ap (λ ys. x ∷ ys) (beside_stays rules xs (tail_stays r rules h))

  number_stays : (rules : List Rule) (n : ℕ) → Stay rules → left_number p rules n ≡ Some n
  number_stays [] n h = refl
  number_stays (r ∷ rules) zero h = ap (λ b. if b then None else Some zero) (head_stays r rules h)
  number_stays (r ∷ rules) (suc n) h =
      ap (λ b. if b then left_number p rules n else option_map suc (left_number p rules n)) (head_stays r rules h)
      ∙ ap (option_map suc) (number_stays rules n (tail_stays r rules h))

  marks_stay : (rules : List Rule) (insts : List Inst) → Stay rules → filter_map (left_inst p rules) insts ≡ insts
  marks_stay rules [] h = refl
  marks_stay rules (i ∷ insts) h =
      ap (λ o. cons_option (option_map (renumbered i) o) (filter_map (left_inst p rules) insts)) (number_stays rules i.rule h)
      ∙ ap (λ is. i ∷ is) (marks_stay rules insts h)

  -- at most one of them passes
  abbrev Once : List Rule → Type 0
  Once [] = Unit {0}
  Once (r ∷ rules) = (p r ≡ true → Stay rules) × Once rules

  -- the one at this place goes
  abbrev Goes : ℕ → List Rule → Type 0
  Goes a rules =
      (without a rules ≡ filter (λ r. not (p r)) rules) × ((xs : List Bool) → without a xs ≡ left_beside p rules xs) × ((n : ℕ) → moved a n ≡ left_number p rules n)

  one_goes : (rules : List Rule) (a : ℕ) → Once rules → position p rules ≡ Some a → Goes a rules
  one_goes [] a once e = absurd (cc)
  one_goes (r ∷ rules) a once e = by (p r) refl (position p rules) refl (λ b f. one_goes rules b once.1 f)
    where
      first_beside : p r ≡ true → Stay rules → (xs : List Bool) → without 0 xs ≡ left_beside p (r ∷ rules) xs
      first_beside g stay [] = refl
      first_beside g stay (x ∷ xs) =
          sym (ap (λ b. if b then left_beside p rules xs else x ∷ left_beside p rules xs) g ∙ beside_stays rules xs stay)

      first_number : p r ≡ true → Stay rules → (n : ℕ) → moved 0 n ≡ left_number p (r ∷ rules) n
      first_number g stay zero = sym (ap (λ b. if b then None else Some zero) g)
      first_number g stay (suc n) =
          sym (ap (λ b. if b then left_number p rules n else option_map suc (left_number p rules n)) g ∙ number_stays rules n stay)

      first : p r ≡ true → Stay rules → Goes 0 (r ∷ rules)
      first g stay = (
        sym (ap (λ b. if not b then r ∷ filter (λ r. not (p r)) rules else filter (λ r. not (p r)) rules) g ∙ all_stay rules stay),
        first_beside g stay,
        first_number g stay,
      )

      later_beside : (b : ℕ) → p r ≡ false → Goes b rules → (xs : List Bool) → without (suc b) xs ≡ left_beside p (r ∷ rules) xs
      later_beside b g rest [] = refl
      later_beside b g rest (x ∷ xs) =
          ap (λ ys. x ∷ ys) (rest.1 xs) ∙ sym (ap (λ c. if c then left_beside p rules xs else x ∷ left_beside p rules xs) g)

      later_number : (b : ℕ) → p r ≡ false → Goes b rules → (n : ℕ) → moved (suc b) n ≡ left_number p (r ∷ rules) n
      later_number b g rest zero = sym (ap (λ c. if c then None else Some zero) g)
      later_number b g rest (suc n) =
          ap (option_map suc) (rest.2 n) ∙ sym (ap (λ c. if c then left_number p rules n else option_map suc (left_number p rules n)) g)

      later : (b : ℕ) → p r ≡ false → Goes b rules → Goes (suc b) (r ∷ rules)
      later b g rest = (
        ap (λ rs. r ∷ rs) rest.0 ∙ sym (ap (λ c. if not c then r ∷ filter (λ r. not (p r)) rules else filter (λ r. not (p r)) rules) g),
        later_beside b g rest,
        later_number b g rest,
      )

      by : (t : Bool) → p r ≡ t → (o : Option ℕ) → position p rules ≡ o → ((b : ℕ) → position p rules ≡ Some b → Goes b rules) → Goes a (r ∷ rules)
      by true g o f rest =
          let one : Some 0 ≡ Some a = sym (position_head p r rules g) ∙ e in
          let same : 0 ≡ a = cc in
          let P : ℕ → Type 0 = λ b. Goes b (r ∷ rules) in
          subst P same (first g (once.0 g))
      by false g None f rest =
          let none : None ≡ Some a = sym (position_next p r rules g ∙ ap (option_map suc) f) ∙ e in
          absurd (cc)
      by false g (Some b) f rest =
          let one : Some (suc b) ≡ Some a = sym (position_next p r rules g ∙ ap (option_map suc) f) ∙ e in
          let same : suc b ≡ a = cc in
          let P : ℕ → Type 0 = λ c. Goes c (r ∷ rules) in
          subst P same (later b g (rest b f))

  same_marks : (a : ℕ) (rules : List Rule) → ((n : ℕ) → moved a n ≡ left_number p rules n) → (insts : List Inst) → moved_insts a insts ≡ filter_map (left_inst p rules) insts
  same_marks a rules h [] = refl
  same_marks a rules h (i ∷ insts) =
      ap (λ o. cons_option (option_map (renumbered i) o) (moved_insts a insts)) (h i.rule)
      ∙ ap (cons_option (left_inst p rules i)) (same_marks a rules h insts)

  -- the parts of what is left
  same_parts : (k : Session) (rules : List Rule) (breaks : List Bool) (fired : List Inst) (trail : Option (List Earlier)) → rules ≡ filter (λ r. not (p r)) k.rules → breaks ≡ left_beside p k.rules k.breaks → fired ≡ filter_map (left_inst p k.rules) k.course.fired
      → trail ≡ trail_left p k.rules k.trail
      → record k { rules = rules; breaks = breaks; course = record k.course { fired = fired }; trail = trail } ≡ left_by p k
  same_parts k rules breaks fired trail e f g h =
      ap (λ rs. record k { rules = rs; breaks = breaks; course = record k.course { fired = fired }; trail = trail }) e
      ∙ ap (λ bs. record k { rules = filter (λ r. not (p r)) k.rules; breaks = bs; course = record k.course { fired = fired }; trail = trail }) f
      ∙ ap (λ is. record k { rules = filter (λ r. not (p r)) k.rules; breaks = left_beside p k.rules k.breaks; course = record k.course { fired = is }; trail = trail }) g
      ∙ ap (λ t. record k { rules = filter (λ r. not (p r)) k.rules; breaks = left_beside p k.rules k.breaks; course = record k.course { fired = filter_map (left_inst p k.rules) k.course.fired }; trail = t }) h

  none_left_by : (k : Session) → Stay k.rules → k ≡ left_by p k
  none_left_by k h =
      same_parts k k.rules k.breaks k.course.fired k.trail (sym (all_stay k.rules h)) (sym (beside_stays k.rules k.breaks h)) (sym (marks_stay k.rules k.course.fired h))
      (sym (ap (λ b. cond b (trail_emptied k).trail k.trail) h))

  one_left_by : (k : Session) (a : ℕ) → Once k.rules → position p k.rules ≡ Some a → taken_out a k ≡ left_by p k
  one_left_by k a once e =
      let goes = one_goes k.rules a once e in
      let there : list_any p k.rules ≡ true = sym (position_some p k.rules) ∙ ap is_some e in
      same_parts k (without a k.rules) (without a k.breaks) (moved_insts a k.course.fired) (trail_emptied k).trail goes.0 (goes.1 k.breaks) (same_marks a k.rules goes.2 k.course.fired)
      (sym (ap (λ b. cond b (trail_emptied k).trail k.trail) there))

  left_by_place : (k : Session) → Once k.rules → unwrap_or (option_map (λ n. taken_out n k) (position p k.rules)) k ≡ left_by p k
  left_by_place k once = by (position p k.rules) refl
    where
      by : (o : Option ℕ) → position p k.rules ≡ o → unwrap_or (option_map (λ n. taken_out n k) (position p k.rules)) k ≡ left_by p k
      by None e =
          let P : Option ℕ → Session = λ o. unwrap_or (option_map (λ n. taken_out n k) o) k in
          ap P e ∙ none_left_by k (sym (position_some p k.rules) ∙ ap is_some e)
      by (Some a) e =
          let P : Option ℕ → Session = λ o. unwrap_or (option_map (λ n. taken_out n k) o) k in
          ap P e ∙ one_left_by k a once e

  rules_by_place : (rules : List Rule) → Once rules → unwrap_or (option_map (λ n. without n rules) (position p rules)) rules ≡ filter (λ r. not (p r)) rules
  rules_by_place rules once = by (position p rules) refl
    where
      P : Option ℕ → List Rule
      P o = unwrap_or (option_map (λ n. without n rules) o) rules

      by : (o : Option ℕ) → position p rules ≡ o → unwrap_or (option_map (λ n. without n rules) (position p rules)) rules ≡ filter (λ r. not (p r)) rules
      by None e = ap P e ∙ sym (all_stay rules (sym (position_some p rules) ∙ ap is_some e))
      by (Some a) e = ap P e ∙ (one_goes rules a once e).0

  -- under its new number is the same production
  pub beside_found : {X : Type 0} (rules : List Rule) (xs : List X) (n m : ℕ) → left_number p rules n ≡ Some m → slice_get (left_beside p rules xs) m ≡ slice_get xs n
  beside_found rules [] n m e = refl
  beside_found [] (x ∷ xs) n m e =
      let same : n ≡ m = cc in ap (slice_get (x ∷ xs)) (sym same)
  beside_found {X} (r ∷ rules) (x ∷ xs) zero m e = by (p r) refl
    where
      by : (b : Bool) → p r ≡ b → slice_get (left_beside p (r ∷ rules) (x ∷ xs)) m ≡ Some x
      by true g =
          let none : None ≡ Some m = sym (ap (λ b. if b then None else Some zero) g) ∙ e in
          absurd (cc)
      by false g =
          let one : Some 0 ≡ Some m = sym (ap (λ b. if b then None else Some zero) g) ∙ e in
          let same : 0 ≡ m = cc in
          ap (λ b. slice_get (if b then left_beside p rules xs else x ∷ left_beside p rules xs) m) g
          ∙ ap (slice_get (x ∷ left_beside p rules xs)) (sym same)
  beside_found {X} (r ∷ rules) (x ∷ xs) (suc n) m e =
      by (p r) refl (left_number p rules n) refl (λ j f. beside_found rules xs n j f)
    where
      shown : (b : Bool) → p r ≡ b → (if b then left_number p rules n else option_map suc (left_number p rules n)) ≡ Some m
      shown b g =
          sym (ap (λ b. if b then left_number p rules n else option_map suc (left_number p rules n)) g) ∙ e

      by : (b : Bool) → p r ≡ b → (o : Option ℕ) → left_number p rules n ≡ o
          → ((j : ℕ) → left_number p rules n ≡ Some j → slice_get (left_beside p rules xs) j ≡ slice_get xs n)
          → slice_get (left_beside p (r ∷ rules) (x ∷ xs)) m ≡ slice_get xs n
      by true g o f later =
          ap (λ b. slice_get (if b then left_beside p rules xs else x ∷ left_beside p rules xs) m) g ∙ later m (shown true g)
      by false g None f later =
          let none : None ≡ Some m = sym (ap (option_map suc) f) ∙ shown false g in
          absurd (cc)
      by false g (Some j) f later =
          let one : Some (suc j) ≡ Some m = sym (ap (option_map suc) f) ∙ shown false g in
          let same : suc j ≡ m = cc in
          ap (λ b. slice_get (if b then left_beside p rules xs else x ∷ left_beside p rules xs) m) g
          ∙ ap (slice_get (x ∷ left_beside p rules xs)) (sym same) ∙ later j f

  -- exactly those that do not go have a number
  pub numbered : (rules : List Rule) (n : ℕ) (r : Rule) → slice_get rules n ≡ Some r → is_some (left_number p rules n) ≡ not (p r)
  numbered [] n r e = absurd (cc)
  numbered (s ∷ rules) zero r e =
      let same : s ≡ r = cc in by (p s) ∙ ap (λ (x : Rule). not (p x)) same
    where
      by : (b : Bool) → is_some (cond b None (Some zero)) ≡ not b
      by true = refl
      by false = refl
  numbered (s ∷ rules) (suc n) r e = by (p s) (left_number p rules n) (numbered rules n r e)
    where
      by : (b : Bool) (o : Option ℕ) → is_some o ≡ not (p r) → is_some (cond b o (option_map suc o)) ≡ not (p r)
      by true o rest = rest
      by false None rest = rest
      by false (Some m) rest = rest

  -- the same of the productions themselves
  pub filter_beside : (rules : List Rule) → filter (λ r. not (p r)) rules ≡ left_beside p rules rules
  filter_beside [] = refl
  filter_beside (r ∷ rules) = by (p r) (filter_beside rules)
    where
      by : (b : Bool) → filter (λ r. not (p r)) rules ≡ left_beside p rules rules
          → (if not b then r ∷ filter (λ r. not (p r)) rules else filter (λ r. not (p r)) rules) ≡ (if b then left_beside p rules rules else r ∷ left_beside p rules rules)
      by true rest = rest
      by false rest = ap (λ rs. r ∷ rs) rest

-- ---- these go first, and then those

or_true : (b : Bool) → (b || true) ≡ true
or_true true = refl
or_true false = refl

module _ (p q t : Rule → Bool) (both : (r : Rule) → t r ≡ (p r || q r)) where
  abbrev first_left : List Rule → List Rule
  first_left rules = filter (λ r. not (p r)) rules

  both_gone : (r : Rule) → p r ≡ true → t r ≡ true
  both_gone r e = both r ∙ ap (λ b. b || q r) e

  both_as : (r : Rule) (b : Bool) → p r ≡ false → q r ≡ b → t r ≡ b
  both_as r b e f = both r ∙ ap (λ c. c || q r) e ∙ f

  then_rules : (rules : List Rule) → filter (λ r. not (q r)) (first_left rules) ≡ filter (λ r. not (t r)) rules
  then_rules [] = refl
  then_rules (r ∷ rules) = by (p r) refl (q r) refl (then_rules rules)
    where
      by : (a : Bool) → p r ≡ a → (b : Bool) → q r ≡ b → filter (λ r. not (q r)) (first_left rules) ≡ filter (λ r. not (t r)) rules
          → filter (λ r. not (q r)) (first_left (r ∷ rules)) ≡ filter (λ r. not (t r)) (r ∷ rules)
      by true e b f rest = rw (e, both_gone r e) rest
      by false e true f rest = rw (e, f, both_as r true e f) rest
      by false e false f rest = rw (e, f, both_as r false e f) (ap (λ rs. r ∷ rs) rest)

  then_beside : {X : Type 0} (rules : List Rule) (xs : List X) → left_beside q (first_left rules) (left_beside p rules xs) ≡ left_beside t rules xs
  then_beside rules [] = refl
  then_beside [] (x ∷ xs) = refl
  then_beside {X} (r ∷ rules) (x ∷ xs) = by (p r) refl (q r) refl (then_beside rules xs)
    where
      by : (a : Bool) → p r ≡ a → (b : Bool) → q r ≡ b → left_beside q (first_left rules) (left_beside p rules xs) ≡ left_beside t rules xs
          → left_beside q (first_left (r ∷ rules)) (left_beside p (r ∷ rules) (x ∷ xs)) ≡ left_beside t (r ∷ rules) (x ∷ xs)
      by true e b f rest = rw (e, both_gone r e) rest
      by false e true f rest = rw (e, f, both_as r true e f) rest
      by false e false f rest = rw (e, f, both_as r false e f) (ap (λ ys. x ∷ ys) rest)

  shifted : (r : Rule) (rules : List Rule) (b : Bool) (o : Option ℕ) → q r ≡ b
      → option_and_then (left_number q (r ∷ rules)) (option_map suc o) ≡ cond b (option_and_then (left_number q rules) o) (option_map suc (option_and_then (left_number q rules) o))
  shifted r rules true None f = refl
  shifted r rules false None f = refl
  shifted r rules b (Some m) f =
      ap (λ c. if c then left_number q rules m else option_map suc (left_number q rules m)) f

  then_number : (rules : List Rule) (n : ℕ) → option_and_then (left_number q (first_left rules)) (left_number p rules n) ≡ left_number t rules n
  then_number [] n = refl
  then_number (r ∷ rules) zero = by (p r) refl (q r) refl
    where
      by : (a : Bool) → p r ≡ a → (b : Bool) → q r ≡ b → option_and_then (left_number q (first_left (r ∷ rules))) (left_number p (r ∷ rules) zero) ≡ left_number t (r ∷ rules) zero
      by true e b f = rw (e, both_gone r e) refl
      by false e true f = rw (e, f, both_as r true e f) refl
      by false e false f = rw (e, f, both_as r false e f) refl
  then_number (r ∷ rules) (suc n) = by (p r) refl (q r) refl (then_number rules n)
    where
      by : (a : Bool) → p r ≡ a → (b : Bool) → q r ≡ b → option_and_then (left_number q (first_left rules)) (left_number p rules n) ≡ left_number t rules n
          → option_and_then (left_number q (first_left (r ∷ rules))) (left_number p (r ∷ rules) (suc n)) ≡ left_number t (r ∷ rules) (suc n)
      by true e b f rest = rw (e, both_gone r e) rest
      by false e true f rest =
          rw (e, both_as r true e f) (shifted r (first_left rules) true (left_number p rules n) f ∙ rest)
      by false e false f rest =
          rw (e, both_as r false e f) (shifted r (first_left rules) false (left_number p rules n) f ∙ ap (option_map suc) rest)

  then_marks : (rules : List Rule) (insts : List Inst) → filter_map (left_inst q (first_left rules)) (filter_map (left_inst p rules) insts) ≡ filter_map (left_inst t rules) insts
  then_marks rules [] = refl
  then_marks rules (i ∷ insts) = by (left_number p rules i.rule) refl (then_marks rules insts)
    where
      rest_left : List Inst
      rest_left = filter_map (left_inst p rules) insts

      by : (o : Option ℕ) → left_number p rules i.rule ≡ o → filter_map (left_inst q (first_left rules)) rest_left ≡ filter_map (left_inst t rules) insts
          → filter_map (left_inst q (first_left rules)) (cons_option (option_map (renumbered i) (left_number p rules i.rule)) rest_left)
          ≡ cons_option (option_map (renumbered i) (left_number t rules i.rule)) (filter_map (left_inst t rules) insts)
      by o e rest =
          ap (λ x. filter_map (left_inst q (first_left rules)) (cons_option (option_map (renumbered i) x) rest_left)) e
          ∙ at o ∙ ap (cons_option (option_map (renumbered i) (option_and_then (left_number q (first_left rules)) o))) rest
          ∙ ap (λ x. cons_option (option_map (renumbered i) x) (filter_map (left_inst t rules) insts)) (ap (option_and_then (left_number q (first_left rules))) (sym e) ∙ then_number rules i.rule)
        where
          at : (o : Option ℕ) → filter_map (left_inst q (first_left rules)) (cons_option (option_map (renumbered i) o) rest_left)
              ≡ cons_option (option_map (renumbered i) (option_and_then (left_number q (first_left rules)) o)) (filter_map (left_inst q (first_left rules)) rest_left)
          at None = refl
          at (Some m) = refl

  -- one of either goes
  then_any : (rules : List Rule) → list_any t rules ≡ (list_any p rules || list_any q (first_left rules))
  then_any [] = refl
  then_any (r ∷ rules) = by (p r) refl (q r) refl (then_any rules)
    where
      by : (a : Bool) → p r ≡ a → (b : Bool) → q r ≡ b → list_any t rules ≡ (list_any p rules || list_any q (first_left rules))
          → list_any t (r ∷ rules) ≡ (list_any p (r ∷ rules) || list_any q (first_left (r ∷ rules)))
      by true e b f rest = rw (e, both_gone r e) refl
      by false e true f rest = rw (e, f, both_as r true e f) (sym (or_true (list_any p rules)))
      by false e false f rest = rw (e, f, both_as r false e f) rest

  then_trail : (rules : List Rule) (trail : Option (List Earlier)) → trail_left q (first_left rules) (trail_left p rules trail) ≡ trail_left t rules trail
  then_trail rules trail =
      by (list_any p rules) (list_any q (first_left rules)) trail
      ∙ sym (ap (λ b. cond b (option_map (λ es. []) trail) trail) (then_any rules))
    where
      by : (a b : Bool) (trail : Option (List Earlier))
          → cond b (option_map (λ es. []) (cond a (option_map (λ es. []) trail) trail)) (cond a (option_map (λ es. []) trail) trail) ≡ cond (a || b) (option_map (λ es. []) trail) trail
      by true true None = refl
      by true true (Some es) = refl
      by true false trail = refl
      by false true trail = refl
      by false false trail = refl

  then_left : (k : Session) → left_by q (left_by p k) ≡ left_by t k
  then_left k =
      same_parts t k _ _ _ _ (then_rules k.rules) (then_beside k.rules k.breaks) (then_marks k.rules k.course.fired) (then_trail k.rules k.trail)

-- ---- names

abbrev has_this : Sym → Rule → Bool
has_this name r = r.name.0 == name.0

abbrev numbers_of : List Rule → List ℕ
numbers_of rules = map (λ (r : Rule). r.name.0) rules

same_turned : (n m : ℕ) → (n == m) ≡ (m == n)
same_turned n m = by (n == m) (m == n) refl refl
  where
    by : (a b : Bool) → (n == m) ≡ a → (m == n) ≡ b → a ≡ b
    by true true e f = refl
    by false false e f = refl
    by true false e f = sym ((Decides-eqb m n).1 (sym ((Decides-eqb n m).0 e))) ∙ f
    by false true e f = sym e ∙ (Decides-eqb n m).1 (sym ((Decides-eqb m n).0 f))

named_in : (n : ℕ) (rules : List Rule) → list_any (λ (r : Rule). r.name.0 == n) rules ≡ is_in n (numbers_of rules)
named_in n [] = refl
named_in n (r ∷ rules) = ap (λ b. (r.name.0 == n) || b) (named_in n rules)

not_true : (b : Bool) → not b ≡ true → b ≡ false
not_true true h = absurd (cc)
not_true false h = refl

apart_once : (name : Sym) (rules : List Rule) → AreNamedApart rules → Once (has_this name) rules
apart_once name [] h = tt
apart_once name (r ∷ rules) h =
    let parts = and_parts (not (is_in r.name.0 (numbers_of rules))) (are_distinct (numbers_of rules)) h in (
      λ e. (let same : r.name.0 ≡ name.0 = (Decides-eqb r.name.0 name.0).0 e in
          ap (λ n. list_any (λ (r : Rule). r.name.0 == n) rules) (sym same) ∙ named_in r.name.0 rules ∙ not_true (is_in r.name.0 (numbers_of rules)) parts.0),
      apart_once name rules parts.1,
    )

in_filter : (q : Rule → Bool) (n : ℕ) (rules : List Rule) → is_in n (numbers_of rules) ≡ false → is_in n (numbers_of (filter q rules)) ≡ false
in_filter q n [] h = refl
in_filter q n (r ∷ rules) h =
    let parts = or_parts (r.name.0 == n) (is_in n (numbers_of rules)) h in
    by (q r) parts.0 (in_filter q n rules parts.1)
  where
    by : (b : Bool) → (r.name.0 == n) ≡ false → is_in n (numbers_of (filter q rules)) ≡ false → is_in n (numbers_of (cond b (r ∷ filter q rules) (filter q rules))) ≡ false
    by true e rest = ap (λ b. b || is_in n (numbers_of (filter q rules))) e ∙ rest
    by false e rest = rest

apart_filter : (q : Rule → Bool) (rules : List Rule) → AreNamedApart rules → AreNamedApart (filter q rules)
apart_filter q [] h = h
apart_filter q (r ∷ rules) h =
    let parts = and_parts (not (is_in r.name.0 (numbers_of rules))) (are_distinct (numbers_of rules)) h in
    by (q r) (in_filter q r.name.0 rules (not_true (is_in r.name.0 (numbers_of rules)) parts.0)) (apart_filter q rules parts.1)
  where
    by : (b : Bool) → is_in r.name.0 (numbers_of (filter q rules)) ≡ false → AreNamedApart (filter q rules) → AreNamedApart (cond b (r ∷ filter q rules) (filter q rules))
    by true e rest = and_from _ _ (ap not e) rest
    by false e rest = rest

-- ---- what is left

none_named : (rules : List Rule) → list_any (is_named []) rules ≡ false
none_named [] = refl
none_named (r ∷ rules) = none_named rules

one_out : (name : Sym) (k : Session) → AreNamedApart k.rules → taken_out_named name k ≡ left_by (has_this name) k
one_out name k apart = left_by_place (has_this name) k (apart_once name k.rules apart)

all_out : (names : List Sym) (k : Session) → AreNamedApart k.rules → fold (λ k name. taken_out_named name k) k names ≡ left_by (is_named names) k
all_out [] k apart = none_left_by (is_named []) k (none_named k.rules)
all_out (name ∷ names) k apart =
    ap (λ j. fold (λ k name. taken_out_named name k) j names) (one_out name k apart)
    ∙ all_out names (left_by (has_this name) k) (apart_filter (λ r. not (has_this name r)) k.rules apart)
    ∙ then_left (has_this name) (is_named names) (is_named (name ∷ names)) (λ r. refl) k

-- ---- which names are reported

or_turned : (a b : Bool) → (a || b) ≡ (b || a)
or_turned true true = refl
or_turned true false = refl
or_turned false true = refl
or_turned false false = refl

not_both : (h g : Bool) → (not h || g) ≡ not (h && not g)
not_both true true = refl
not_both true false = refl
not_both false g = refl

none_of : (h g : Bool) → g ≡ true → (h && not g) ≡ false
none_of true g e = ap not e
none_of false g e = refl

among_left : (before : List Sym) (name : Sym) (rules : List Rule) → list_any (has_this name) (filter (λ r. not (is_named before r)) rules) ≡ (has_name rules name && not (is_given before name))
among_left before name [] = refl
among_left before name (r ∷ rules) =
    by (has_this name r) refl (is_named before r) refl (among_left before name rules)
  where
    left : List Rule
    left = filter (λ r. not (is_named before r)) rules

    given_as : has_this name r ≡ true → is_given before name ≡ is_named before r
    given_as e =
        ap (λ n. list_any (λ (given : Sym). n == given.0) before) (sym ((Decides-eqb r.name.0 name.0).0 e))

    by : (a : Bool) → has_this name r ≡ a → (b : Bool) → is_named before r ≡ b → list_any (has_this name) left ≡ (has_name rules name && not (is_given before name))
        → list_any (has_this name) (cond (not (is_named before r)) (r ∷ left) left) ≡ ((has_this name r || has_name rules name) && not (is_given before name))
    by true e true f rest =
        let given = given_as e ∙ f in
        ap (λ b. list_any (has_this name) (cond (not b) (r ∷ left) left)) f
        ∙ rest ∙ none_of (has_name rules name) (is_given before name) given
        ∙ sym (none_of (has_this name r || has_name rules name) (is_given before name) given)
    by true e false f rest =
        let given = given_as e ∙ f in
        ap (λ b. list_any (has_this name) (cond (not b) (r ∷ left) left)) f
        ∙ ap (λ b. b || list_any (has_this name) left) e
        ∙ sym (ap (λ b. (b || has_name rules name) && not (is_given before name)) e ∙ ap not given)
    by false e true f rest =
        ap (λ b. list_any (has_this name) (cond (not b) (r ∷ left) left)) f
        ∙ rest
        ∙ sym (ap (λ b. (b || has_name rules name) && not (is_given before name)) e)
    by false e false f rest =
        ap (λ b. list_any (has_this name) (cond (not b) (r ∷ left) left)) f
        ∙ ap (λ b. b || list_any (has_this name) left) e
        ∙ rest
        ∙ sym (ap (λ b. (b || has_name rules name) && not (is_given before name)) e)

all_told : (rules : List Rule) (before names : List Sym) → AreNamedApart rules → left_unknown (filter (λ r. not (is_named before r)) rules) names ≡ names_told rules before names
all_told rules before [] apart = refl
all_told rules before (name ∷ names) apart =
    by (is_some (rule_named left name)) refl (all_told rules (name ∷ before) names apart)
  where
    left : List Rule
    left = filter (λ r. not (is_named before r)) rules

    left_apart : AreNamedApart left
    left_apart = apart_filter (λ r. not (is_named before r)) rules apart

    next : filter (λ r. not (has_this name r)) left ≡ filter (λ r. not (is_named (name ∷ before) r)) rules
    next =
        then_rules (is_named before) (has_this name) (is_named (name ∷ before)) (λ r. or_turned (has_this name r) (is_named before r)) rules

    tested : (b : Bool) → is_some (rule_named left name) ≡ b → (not (has_name rules name) || is_given before name) ≡ not b
    tested b e =
        not_both (has_name rules name) (is_given before name)
        ∙ ap not (sym (among_left before name rules) ∙ sym (position_some (has_this name) left) ∙ e)

    by : (b : Bool) → is_some (rule_named left name) ≡ b → left_unknown (filter (λ r. not (is_named (name ∷ before) r)) rules) names ≡ names_told rules (name ∷ before) names
        → (if is_some (rule_named left name) then left_unknown (without_named left name) names else name ∷ left_unknown left names)
        ≡ (if not (has_name rules name) || is_given before name then name ∷ names_told rules (name ∷ before) names else names_told rules (name ∷ before) names)
    by true e rest =
        ap (λ b. if b then left_unknown (without_named left name) names else name ∷ left_unknown left names) e
        ∙ ap (λ rs. left_unknown rs names) (rules_by_place (has_this name) left (apart_once name left left_apart) ∙ next)
        ∙ rest
        ∙ sym (ap (λ b. if b then name ∷ names_told rules (name ∷ before) names else names_told rules (name ∷ before) names) (tested true e))
    by false e rest =
        let stay : list_any (has_this name) left ≡ false = sym (position_some (has_this name) left) ∙ e in
        ap (λ b. if b then left_unknown (without_named left name) names else name ∷ left_unknown left names) e
        ∙ ap (λ rs. name ∷ left_unknown rs names) (sym (all_stay (has_this name) left stay) ∙ next)
        ∙ ap (λ ns. name ∷ ns) rest
        ∙ sym (ap (λ b. if b then name ∷ names_told rules (name ∷ before) names else names_told rules (name ∷ before) names) (tested false e))

all_there : (rules : List Rule) → filter (λ r. not (is_named [] r)) rules ≡ rules
all_there rules = all_stay (is_named []) rules (none_named rules)

pub told : (rules : List Rule) (names : List Sym) → AreNamedApart rules → left_unknown rules names ≡ names_told rules [] names
told rules names apart = ap (λ rs. left_unknown rs names) (sym (all_there rules)) ∙ all_told rules [] names apart

pub excised_is : (s : Setting) (limit column : ℕ) (names : List Sym) (k : Session) → AreNamedApart k.rules
    → command_done s limit column (command.Excise names) k ≡ writes (lines_at column (map (unknown_line k.course.names) (names_told k.rules [] names))) (left_by (is_named names) k)
excised_is s limit column names k apart =
    let written : List Sym → List ℕ = λ ns. lines_at column (map (unknown_line k.course.names) ns) in
    ap (λ ns. writes (written ns) (fold (λ k name. taken_out_named name k) k names)) (told k.rules names apart)
    ∙ ap (λ j. writes (written (names_told k.rules [] names)) j) (all_out names k apart)

-- ---- names stay distinct

not_left : (name : Sym) (rules : List Rule) → list_any (has_this name) (filter (λ r. not (has_this name r)) rules) ≡ false
not_left name [] = refl
not_left name (r ∷ rules) = by (has_this name r) refl (not_left name rules)
  where
    left : List Rule
    left = filter (λ r. not (has_this name r)) rules

    by : (b : Bool) → has_this name r ≡ b → list_any (has_this name) left ≡ false → list_any (has_this name) (cond (not (has_this name r)) (r ∷ left) left) ≡ false
    by true e rest = ap (λ b. list_any (has_this name) (cond (not b) (r ∷ left) left)) e ∙ rest
    by false e rest =
        ap (λ b. list_any (has_this name) (cond (not b) (r ∷ left) left)) e
        ∙ ap (λ b. b || list_any (has_this name) left) e ∙ rest

not_in_more : (n : ℕ) (r : Rule) (rules : List Rule) → is_in n (numbers_of rules) ≡ false → (r.name.0 == n) ≡ false → is_in n (numbers_of (rules ++ r ∷ [])) ≡ false
not_in_more n r [] h e = ap (λ b. b || false) e
not_in_more n r (s ∷ rules) h e =
    let parts = or_parts (s.name.0 == n) (is_in n (numbers_of rules)) h in
    ap (λ b. b || is_in n (numbers_of (rules ++ r ∷ []))) parts.0 ∙ not_in_more n r rules parts.1 e

apart_more : (r : Rule) (rules : List Rule) → AreNamedApart rules → list_any (has_this r.name) rules ≡ false → AreNamedApart (rules ++ r ∷ [])
apart_more r [] h none = refl
apart_more r (s ∷ rules) h none =
    let parts = and_parts (not (is_in s.name.0 (numbers_of rules))) (are_distinct (numbers_of rules)) h in
    let others = or_parts (has_this r.name s) (list_any (has_this r.name) rules) none in
    and_from _ _
    (ap not (not_in_more s.name.0 r rules (not_true (is_in s.name.0 (numbers_of rules)) parts.0) (same_turned r.name.0 s.name.0 ∙ others.0)))
    (apart_more r rules parts.1 others.1)

abbrev Apart : Session → Type 0
Apart k = AreNamedApart k.rules

one_apart : (name : Sym) (k : Session) → Apart k → Apart (taken_out_named name k)
one_apart name k h =
    subst Apart (sym (one_out name k h)) (apart_filter (λ r. not (has_this name r)) k.rules h)

added_apart : (r : Rule) (k : Session) → Apart k → Apart (added r k)
added_apart r k h =
    let P : Session → Type 0 = λ j. AreNamedApart (j.rules ++ r ∷ []) in
    subst P (sym (one_out r.name k h))
    (apart_more r (filter (λ s. not (has_this r.name s)) k.rules) (apart_filter (λ s. not (has_this r.name s)) k.rules h) (not_left r.name k.rules))

all_apart : (given : List Sym) (k : Session) → Apart k → Apart (fold (λ k name. taken_out_named name k) k given)
all_apart [] k h = h
all_apart (name ∷ given) k h = all_apart given (taken_out_named name k) (one_apart name k h)

any_ok : {E S : Type 0} (o : Result S E) → IfOk o (λ s. Unit {0})
any_ok (Ok s) = tt
any_ok (Err e) = tt

strategy_apart : (column : ℕ) (set : Option Strategy) (k : Session) → Apart k → IfOk (strategy_given column set k).outcome Apart
strategy_apart column None k h = h
strategy_apart column (Some g) k h = h

level_apart : (column : ℕ) (set : Option ℕ) (k : Session) → Apart k → IfOk (level_given column set k).outcome Apart
level_apart column None k h = h
level_apart column (Some n) k h = h

breaks_apart : (s : Setting) (column : ℕ) (names : List Sym) (k : Session) → Apart k → IfOk (breaks_given s column names k).outcome Apart
breaks_apart s column [] k h = h
breaks_apart s column (n ∷ ns) k h = h

turn_apart : (column : ℕ) (line : Option (List ℕ)) (k : Session) (next : Option Inst) (go_on : Inst → Effect Ending Session) → Apart k
    → ((i : Inst) → IfOk (go_on i).outcome Apart) → IfOk (turn column line k next go_on).outcome Apart
turn_apart column (Some line) k next go_on p q = p
turn_apart column None k None go_on p q = p
turn_apart column None k (Some i) go_on p q = q i

all_added_apart : (built : List Rule) (k : Session) → Apart k → Apart (all_added built k)
all_added_apart [] k h = h
all_added_apart (r ∷ built) k h = all_added_apart built (added r k) (added_apart r k h)

run_apart : (left : ℕ) (s : Setting) (column : ℕ) (last : Option LastFiring) (count : Option ℕ) (k : Session) → Apart k
    → IfOk (run_on left s column last count k).outcome Apart
run_apart zero s column last count k h =
    turn_apart column (line_of_pause k.course.names k.rules k.breaks last count) k (next_to_fire k.rules k.course) _ h (λ i. tt)
run_apart (suc left) s column last count k h =
    turn_apart column (line_of_pause k.course.names k.rules k.breaks last count) k (next_to_fire k.rules k.course) _ h
    (λ i. let e = firing (in_force s k) column i k.course in
    ok_on (λ (t : Turned). Unit {0}) Apart e.bytes e.outcome (λ t. run_on left s (column_after column e.bytes) (last_of k.rules i t) (one_less count) (turned_on t k)) (any_ok e.outcome)
    (λ t q. run_apart left s (column_after column e.bytes) (last_of k.rules i t) (one_less count) (turned_on t k) (all_added_apart t.built (fired_on t.course k) h)))

command_apart : (s : Setting) (limit column : ℕ) (c : Command) (k : Session) → Apart k → IfOk (command_done s limit column c k).outcome Apart
command_apart s limit column (command.Make class puts) k h = h
command_apart s limit column (command.Remove tags) k h = h
command_apart s limit column command.RemoveAll k h = h
command_apart s limit column (command.Run count) k h =
    run_apart (limit - k.course.firings) (record s { watch = k.watch }) column None count k h
command_apart s limit column (command.Wm tags) k h = h
command_apart s limit column (command.Ppwm pattern) k h = h
command_apart s limit column command.Cs k h = h
command_apart s limit column (command.Pm names) k h = h
command_apart s limit column (command.Strategy set) k h = strategy_apart column set k h
command_apart s limit column (command.Watch set) k h = level_apart column set k h
command_apart s limit column (command.Pbreak names) k h = breaks_apart s column names k h
command_apart s limit column (command.Add r) k h = added_apart r k h
command_apart s limit column (command.Excise given) k h = all_apart given k h
command_apart s limit column (command.Back count) k h =
    if_ok Apart (λ (e : Ending). Unit {0}) (back_given column count k).outcome (back_leaves Apart (λ e. Unit {0}) column count k h (λ n e is. h))
command_apart s limit column (command.Matches given) k h = h
command_apart s limit column command.Exit k h = h

commands_apart : (s : Setting) (limit column : ℕ) (commands : List Command) (k : Session) → Apart k → IfOk (commands_done s limit column commands k).outcome Apart
commands_apart s limit column [] k h = h
commands_apart s limit column (c ∷ rest) k h =
    let e = command_done (in_force s k) limit column c k in
    let go_on : ℕ → Session → Effect Ending Session = λ next k. commands_done s limit next rest k in
    cond_both (is_exit c) (writes [] k) (and_then column e go_on) (λ f. IfOk f.outcome Apart) (λ _. h)
    (λ _. ok_on Apart Apart e.bytes e.outcome (go_on (column_after column e.bytes)) (command_apart (in_force s k) limit column c k h)
    (λ k q. commands_apart s limit (column_after column e.bytes) rest k q))

pub session_apart : (s : Setting) (limit : ℕ) (before after : List Command) (names : Spellings) (coming : Coming) → AreValid s (before ++ after)
    → IfOk (session_of s limit before names coming).outcome (λ k. AreNamedApart k.rules)
session_apart s limit before after names coming h =
    commands_apart s limit 0 before (begun before s.rules names coming) (and_parts _ _ h).1

-- ---- their order

one_order : (name : Sym) (k : Session) → HasRisingTags k.course.wm → AreNamedApart k.rules → ranking_in (left_by (has_this name) k) ≡ filter_map (left_inst (has_this name) k.rules) (ranking_in k)
one_order name k rising apart = by (position (has_this name) k.rules) refl
  where
    by : (o : Option ℕ) → position (has_this name) k.rules ≡ o → ranking_in (left_by (has_this name) k) ≡ filter_map (left_inst (has_this name) k.rules) (ranking_in k)
    by None e =
        let stay : list_any (has_this name) k.rules ≡ false = sym (position_some (has_this name) k.rules) ∙ ap is_some e in
        ap ranking_in (sym (none_left_by (has_this name) k stay)) ∙ sym (marks_stay (has_this name) k.rules (ranking_in k) stay)
    by (Some a) e =
        let once = apart_once name k.rules apart in
        let goes = one_goes (has_this name) k.rules a once e in
        ap ranking_in (sym (one_left_by (has_this name) k a once e)) ∙ taken_order a k rising
        ∙ same_marks (has_this name) a k.rules goes.2 (ranking_in k)

pub excised_order : (names : List Sym) (k : Session) → HasRisingTags k.course.wm → AreNamedApart k.rules → ranking_in (left_by (is_named names) k) ≡ filter_map (left_inst (is_named names) k.rules) (ranking_in k)
excised_order [] k rising apart =
    ap ranking_in (sym (none_left_by (is_named []) k (none_named k.rules))) ∙ sym (marks_stay (is_named []) k.rules (ranking_in k) (none_named k.rules))
excised_order (name ∷ names) k rising apart =
    let both : (r : Rule) → is_named (name ∷ names) r ≡ (has_this name r || is_named names r) = λ r. refl in
    ap ranking_in (sym (then_left (has_this name) (is_named names) (is_named (name ∷ names)) both k))
    ∙ excised_order names (left_by (has_this name) k) rising (apart_filter (λ r. not (has_this name r)) k.rules apart)
    ∙ ap (filter_map (left_inst (is_named names) (filter (λ r. not (has_this name r)) k.rules))) (one_order name k rising apart)
    ∙ then_marks (has_this name) (is_named names) (is_named (name ∷ names)) both k.rules (ranking_in k)
