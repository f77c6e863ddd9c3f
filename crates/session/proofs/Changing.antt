-- What a session has come to where productions come and go.
use Rattle.std.proofs.Common.{◌≡◌, ◌∙◌, ap, sym, subst, refl, ℕ, ◌+◌, ◌<◌, List, [], ◌∷◌, ◌++◌, length, map, drop, fold, get_or, Bool, false, cond, Option, Some, None, Result, Ok, Err, is_some, option_map, unwrap_or, IsTrue}
use Rattle.std.specs.Prelude.{option_and_then, slice_get}
use Rattle.std.specs.List.{cons_option}
use Rattle.std.proofs.lemmas.List.{drop_more, map-append}
use Rattle.std.proofs.lemmas.Option.{slice_get-map}
use Rattle.ops_base.specs.declared.endings.Ending.{Ending}
use Rattle.ops_base.specs.declared.endings.Ending.TheVariants as ending
use Rattle.ops_base.specs.declared.programs.Program.{Program}
use Rattle.ops_base.specs.declared.rules.Inst.{Inst}
use Rattle.ops_base.specs.declared.rules.Rule.{Rule}
use Rattle.ops_base.specs.declared.values.Sym.{Sym}
use Rattle.ops_base.specs.Live.{without, moved, renumbered, moved_insts}
use Rattle.ops_base.specs.Names.{Spellings}
use Rattle.ops_io.specs.Coming.{Coming}
use Rattle.ops_io.specs.Output.{column_after}
use Rattle.ops_io.specs.Ports.{Port, Put, Stopped}
use Rattle.ops_io.specs.declared.stop.Stop.TheVariants as stop
use Rattle.ops_meaning.specs.Effects.{Effect, Pending, writes, and_then, of_ending}
use Rattle.ops_meaning.specs.Layout.{lines_at, unknown_line}
use Rattle.ops_meaning.specs.Running.{Session as Meant, added, excised, left_unknown, rule_named, taken_out, taken_out_named, trail_emptied, without_named}
use Rattle.ops_meaning.proofs.EffectLemmas.{fails_short, pending_start, pending_last, pending_step, pending_stop}
use Rattle.ops_io.proofs.PortLemmas.{put_nothing}
use Rattle.work_store.specs.Stored.{Stored}
use Rattle.cycle.specs.States.{no_input, state_course}
use Rattle.live_rules.specs.Moves.{IsWith, Places, goes, comes, places_moved, places_moved_any, place_of, insts_moved, without_any}
use Rattle.session.specs.Changing.{Excises}
use Rattle.session.specs.Courses.{meant_by, IsUnderWay}
use Rattle.session.specs.declared.session.Session.{Session}
use Rattle.session.proofs.Lines.{lines-append}

-- ---- marks

place_of_moved : (k n : ℕ) (places : Places) → place_of (places_moved k places) n ≡ option_and_then (moved k) (place_of places n)
place_of_moved k n places =
    ap (option_and_then (λ (o : Option ℕ). o)) (slice_get-map (λ (o : Option ℕ). option_and_then (moved k) o) places n)
    ∙ by (slice_get places n)
  where
    by : (o : Option (Option ℕ)) → option_and_then (λ (p : Option ℕ). p) (option_map (λ (p : Option ℕ). option_and_then (moved k) p) o)
        ≡ option_and_then (moved k) (option_and_then (λ (p : Option ℕ). p) o)
    by None = refl
    by (Some p) = refl

-- the marks move once more where a production goes
insts_of_moved : (k : ℕ) (places : Places) (insts : List Inst) → insts_moved (places_moved k places) insts ≡ moved_insts k (insts_moved places insts)
insts_of_moved k places [] = refl
insts_of_moved k places (i ∷ insts) =
    ap (λ o. cons_option (option_map (renumbered i) o) (insts_moved (places_moved k places) insts)) (place_of_moved k i.rule places)
    ∙ by (place_of places i.rule) (insts_of_moved k places insts)
  where
    by : (o : Option ℕ) → insts_moved (places_moved k places) insts ≡ moved_insts k (insts_moved places insts)
        → cons_option (option_map (renumbered i) (option_and_then (moved k) o)) (insts_moved (places_moved k places) insts) ≡ moved_insts k (cons_option (option_map (renumbered i) o) (insts_moved places insts))
    by None rest = rest
    by (Some m) rest = ap (cons_option (option_map (renumbered i) (moved k m))) rest

-- ---- a production goes

module _ {M H : Type 0} (stored : M → Stored) (stands_for : M → List Rule → Type 0) (rules : List Rule) (s : Session M H) (places : Places) where
  abbrev numbered : Session M H
  numbered = record s { moved = Some places }

  -- the one of this number goes, if it is one
  abbrev pub without_one : Option ℕ → Session M H
  without_one o = record s { breaks = without_any o s.breaks; moved = Some (places_moved_any o places) }

  pub without_meant : (o : Option ℕ) (n : Spellings) (z : Coming)
      → meant_by stored (without_any o rules) (without_one o) n z ≡ (let k = meant_by stored rules numbered n z in unwrap_or (option_map (λ a. taken_out a k) o) k)
  without_meant None n z = refl
  without_meant (Some a) n z =
      let k = meant_by stored rules numbered n z in
      let by : List Inst → Meant = λ fired. record k { rules = without a rules; breaks = without a s.breaks; course = record k.course { fired = fired } } in
      ap by (insts_of_moved a places (state_course stored s.state n z).fired)

  pub without_under_way : (o : Option ℕ) → IsUnderWay stored stands_for rules numbered → IsUnderWay stored stands_for (without_any o rules) (without_one o)
  without_under_way None p = record { state = p.state; unmarked = p.unmarked; none_waits = p.none_waits; lawful = p.lawful; last = p.last }
  without_under_way (Some a) p = record {
    state = record { old = p.state.old; leads = goes a p.state.leads; stands = p.state.stands; specificities = p.state.specificities };
    unmarked = p.unmarked;
    none_waits = p.none_waits;
    lawful = p.lawful;
    last = p.last;
  }

-- the same by its name
named_is : (rules : List Rule) (o : Option ℕ) → without_any o rules ≡ unwrap_or (option_map (λ n. without n rules) o) rules
named_is rules None = refl
named_is rules (Some n) = refl

module _ {M H : Type 0} (stored : M → Stored) (stands_for : M → List Rule → Type 0) (old new : Program) (s apart : Session M H) (places : Places) (name : Sym) (number : Option ℕ)
    (apart_is : apart ≡ record s { moved = None }) (is : number ≡ rule_named old.rules name) (numbers : Places) (moves : numbers ≡ places_moved_any number places)
    (same : (n : Spellings) (z : Coming) → meant_by stored old.rules (record s { moved = Some places }) n z ≡ meant_by stored old.rules s n z)
    (p : IsUnderWay stored stands_for old.rules (record s { moved = Some places })) where
  -- the session with these breaks
  abbrev pub changed : List Bool → Session M H
  changed breaks = record apart { breaks = breaks; moved = Some numbers }

  changed_is : (breaks : List Bool) → changed breaks ≡ record (without_one stored stands_for old.rules s places number) { breaks = breaks }
  changed_is breaks =
      ap (λ (t : Session M H). let u : Session M H = record t { breaks = breaks; moved = Some numbers } in u) apart_is
      ∙ ap (λ ps. let u : Session M H = record s { breaks = breaks; moved = Some ps } in u) moves

  left_rules : without_any number old.rules ≡ without_named old.rules name
  left_rules = named_is old.rules number ∙ ap (λ o. unwrap_or (option_map (λ n. without n old.rules) o) old.rules) is

  -- ---- it is taken out

  module _ (breaks : List Bool) (cut : breaks ≡ without_any number s.breaks) (rules : new.rules ≡ without_named old.rules name) where
    pub taken_meant : (n : Spellings) (z : Coming) → meant_by stored new.rules (changed breaks) n z ≡ taken_out_named name (meant_by stored old.rules s n z)
    taken_meant n z =
        ap (λ rs. meant_by stored rs (changed breaks) n z) (rules ∙ sym left_rules)
        ∙ ap (λ (t : Session M H). meant_by stored (without_any number old.rules) t n z) (changed_is breaks ∙ ap (λ bs. let u : Session M H = record (without_one stored stands_for old.rules s places number) { breaks = bs } in u) cut)
        ∙ without_meant stored stands_for old.rules s places number n z
        ∙ ap (λ o. let k = meant_by stored old.rules (record s { moved = Some places }) n z in unwrap_or (option_map (λ a. taken_out a k) o) k) is
        ∙ ap (taken_out_named name) (same n z)

    pub taken_under_way : IsUnderWay stored stands_for new.rules (changed breaks)
    taken_under_way =
        let P : List Rule → Type 0 = λ rs. IsUnderWay stored stands_for rs (changed breaks) in
        let Q : Session M H → Type 0 = IsUnderWay stored stands_for (without_any number old.rules) in
        subst P (left_rules ∙ sym rules)
        (subst Q (sym (changed_is breaks ∙ ap (λ bs. let u : Session M H = record (without_one stored stands_for old.rules s places number) { breaks = bs } in u) cut)) (without_under_way stored stands_for old.rules s places number p))

  -- ---- another one stands last

  module _ (r : Rule) (breaks : List Bool) (cut : breaks ≡ without_any number s.breaks ++ false ∷ []) (called : r.name ≡ name) (rules : new.rules ≡ without_named old.rules name ++ r ∷ []) where
    with_last : Meant → Meant
    with_last k = record (trail_emptied k) { rules = k.rules ++ r ∷ []; breaks = k.breaks ++ false ∷ [] }

    pub added_meant : (n : Spellings) (z : Coming) → meant_by stored new.rules (changed breaks) n z ≡ added r (meant_by stored old.rules s n z)
    unfolding with_last
    added_meant n z =
        ap (λ rs. meant_by stored rs (changed breaks) n z) (rules ∙ ap (λ (rs : List Rule). rs ++ r ∷ []) (sym left_rules))
        ∙ ap (λ (t : Session M H). meant_by stored (without_any number old.rules ++ r ∷ []) t n z) (changed_is breaks ∙ ap (λ bs. let u : Session M H = record (without_one stored stands_for old.rules s places number) { breaks = bs } in u) cut)
        ∙ ap with_last
        (without_meant stored stands_for old.rules s places number n z
        ∙ ap (λ o. let k = meant_by stored old.rules (record s { moved = Some places }) n z in unwrap_or (option_map (λ a. taken_out a k) o) k) is
        ∙ ap (taken_out_named name) (same n z)
        ∙ ap (λ x. taken_out_named x (meant_by stored old.rules s n z)) (sym called))

    pub added_under_way : IsUnderWay stored stands_for new.rules (changed breaks)
    added_under_way =
        let P : List Rule → Type 0 = λ rs. IsUnderWay stored stands_for rs (changed breaks) in
        let Q : Session M H → Type 0 = IsUnderWay stored stands_for (without_any number old.rules ++ r ∷ []) in
        let q = without_under_way stored stands_for old.rules s places number p in
        subst P (ap (λ (rs : List Rule). rs ++ r ∷ []) left_rules ∙ sym rules)
        (subst Q (sym (changed_is breaks)) (record {
          state = record { old = q.state.old; leads = comes r q.state.leads; stands = q.state.stands; specificities = q.state.specificities };
          unmarked = q.unmarked;
          none_waits = q.none_waits;
          lawful = q.lawful;
          last = q.last;
        }))

-- ---- names of one

module _ (rules : List Rule) (name : Sym) where
  pub unknown_alone : rule_named rules name ≡ None → left_unknown rules (name ∷ []) ≡ name ∷ []
  unknown_alone none = ap (λ o. cond (is_some o) [] (name ∷ [])) none

  pub known_alone : (a : ℕ) → rule_named rules name ≡ Some a → left_unknown rules (name ∷ []) ≡ []
  known_alone a is = ap (λ o. cond (is_some o) [] (name ∷ [])) is

module _ {M H : Type 0} (stored : M → Stored) (stands_for : M → List Rule → Type 0) (old : Program) (names : Spellings) (s : Session M H) (p : IsUnderWay stored stands_for old.rules s) (name : Sym) where
  abbrev come : Coming → Meant
  come z = meant_by stored old.rules s names z

  abbrev deed : ℕ → Coming → Effect Ending Meant
  deed column z = excised column (name ∷ []) (come z)

  unknown_bytes : (column : ℕ) (z : Coming) → rule_named old.rules name ≡ None → lines_at column (unknown_line names name ∷ []) ≡ (deed column z).bytes
  unknown_bytes column z none = ap (λ ns. lines_at column (map (unknown_line names) ns)) (sym (unknown_alone old.rules name none))

  -- a name of none is told
  pub told_unknown : (a b : Port) → rule_named old.rules name ≡ None → Put a b (lines_at a.out.column (unknown_line names name ∷ [])) → (let r : Result (Session M H) Ending = Ok s in Excises stored stands_for old old names (name ∷ []) s r a b)
  told_unknown a b none put = record {
    performs = λ z. (
      ap (λ o. let r : Result Meant Ending = Ok (unwrap_or (option_map (λ n. taken_out n (come z)) o) (come z)) in r) none,
      (let P : List ℕ → Type 0 = Put a b in subst P (unknown_bytes a.out.column z none) put),
    );
    reads = refl;
    under_way = p;
    program = record { rules_are = refl; commands_are = refl; classes = refl; templates = refl; text = refl };
  }

  -- its line is refused
  pub untold_unknown : (f : Ending) (a b : Port) → f ≡ ending.WriteFault → rule_named old.rules name ≡ None → Stopped stop.Write a b (lines_at a.out.column (unknown_line names name ∷ [])) → (let r : Result (Session M H) Ending = Err f in Excises stored stands_for old old names (name ∷ []) s r a b)
  untold_unknown f a b is none stopped =
      let P : Ending → Type 0 = λ f. (let r : Result (Session M H) Ending = Err f in Excises stored stands_for old old names (name ∷ []) s r a b) in
      let Q : List ℕ → Type 0 = Stopped stop.Write a b in
      subst P (sym is) (record { performs = λ z. subst Q (unknown_bytes a.out.column z none) stopped; reads = refl; under_way = tt; program = tt })

  -- memory runs out before anything is put
  pub excise_short : (new : Program) (f : Ending) (a : Port) → f ≡ ending.OutOfMemory → IsTrue a.out.whole → (let r : Result (Session M H) Ending = Err f in Excises stored stands_for old new names (name ∷ []) s r a a)
  excise_short new f a is w =
      let P : Ending → Type 0 = λ f. (let r : Result (Session M H) Ending = Err f in Excises stored stands_for old new names (name ∷ []) s r a a) in
      subst P (sym is) (record { performs = λ z. fails_short a (deed a.out.column z) w; reads = refl; under_way = tt; program = tt })

  -- the production of the name is taken out
  pub taken_known : (new : Program) (t : Session M H) (a : Port) (number : ℕ) → rule_named old.rules name ≡ Some number → IsTrue a.out.whole
      → ((n : Spellings) (z : Coming) → meant_by stored new.rules t n z ≡ taken_out_named name (meant_by stored old.rules s n z)) → IsUnderWay stored stands_for new.rules t → IsWith new.rules old.commands old new
      → (let r : Result (Session M H) Ending = Ok t in Excises stored stands_for old new names (name ∷ []) s r a a)
  taken_known new t a number is w meant under_way program = record {
    performs = λ z. (
      ap (λ k. let r : Result Meant Ending = Ok k in r) (sym (meant names z)),
      (let P : List ℕ → Type 0 = Put a a in subst P (ap (λ ns. lines_at a.out.column (map (unknown_line names) ns)) (sym (known_alone old.rules name number is))) (put_nothing a w)),
    );
    reads = refl;
    under_way = under_way;
    program = program;
  }

-- ---- names one after another

pub taken_rules : (name : Sym) (k : Meant) → (taken_out_named name k).rules ≡ without_named k.rules name
taken_rules name k = by (rule_named k.rules name)
  where
    by : (o : Option ℕ) → (unwrap_or (option_map (λ n. taken_out n k) o) k).rules ≡ unwrap_or (option_map (λ n. without n k.rules) o) k.rules
    by None = refl
    by (Some n) = refl

taken_names : (name : Sym) (k : Meant) → (taken_out_named name k).course.names ≡ k.course.names
taken_names name k = by (rule_named k.rules name)
  where
    by : (o : Option ℕ) → (unwrap_or (option_map (λ n. taken_out n k) o) k).course.names ≡ k.course.names
    by None = refl
    by (Some n) = refl

-- names that are unknown begin with the first one, where it is
unknown_first : (rules : List Rule) (x : Sym) (rest : List Sym) → left_unknown rules (x ∷ rest) ≡ left_unknown rules (x ∷ []) ++ left_unknown (without_named rules x) rest
unknown_first rules x rest = by (rule_named rules x)
  where
    by : (o : Option ℕ) → cond (is_some o) (left_unknown (unwrap_or (option_map (λ n. without n rules) o) rules) rest) (x ∷ left_unknown rules rest)
        ≡ cond (is_some o) [] (x ∷ []) ++ left_unknown (unwrap_or (option_map (λ n. without n rules) o) rules) rest
    by None = refl
    by (Some n) = refl

-- the first name, and then the others
excised_first : (column : ℕ) (x : Sym) (rest : List Sym) (k : Meant) → excised column (x ∷ rest) k ≡ and_then column (excised column (x ∷ []) k) (λ next k. excised next rest k)
excised_first column x rest k =
    let line = unknown_line k.course.names in
    let t = taken_out_named x k in
    let here = map line (left_unknown k.rules (x ∷ [])) in
    let told : List ℕ → Effect Ending Meant = λ bytes. writes bytes (fold (λ k name. taken_out_named name k) t rest) in
    let others : Spellings → List Rule → List (List ℕ) = λ ns rules. map (unknown_line ns) (left_unknown rules rest) in
    let next = column_after column (lines_at column here) in
    ap told
    (ap (λ ns. lines_at column (map line ns)) (unknown_first k.rules x rest)
    ∙ ap (lines_at column) (map-append line (left_unknown k.rules (x ∷ [])) (left_unknown (without_named k.rules x) rest))
    ∙ lines-append column here (others k.course.names (without_named k.rules x))
    ∙ ap (λ rules. lines_at column here ++ lines_at next (others k.course.names rules)) (sym (taken_rules x k))
    ∙ ap (λ ns. lines_at column here ++ lines_at next (others ns t.rules)) (sym (taken_names x k)))

-- the names from a place on begin with the one there
excised_here : (column : ℕ) (given : List Sym) (i : ℕ) (d x : Sym) (k : Meant) → i < length given → x ≡ get_or given i d
    → excised column (drop i given) k ≡ and_then column (excised column (x ∷ []) k) (λ next k. excised next (drop (i + 1) given) k)
excised_here column given i d x k within is =
    ap (λ names. excised column names k) (drop_more given i d within ∙ ap (λ y. y ∷ drop (i + 1) given) (sym is)) ∙ excised_first column x (drop (i + 1) given) k

-- The names up to this place were done with, which led from the old program and the first session to these.
pub record Excising {M H : Type 0} (stored : M → Stored) (stands_for : M → List Rule → Type 0) (old now : Program) (names : Spellings) (given : List Sym) (i : ℕ) (first s : Session M H) (a b : Port) : Type 0 where
  pub pending : (z : Coming) → Pending a b (excised a.out.column given (meant_by stored old.rules first names z)) (excised b.out.column (drop i given) (meant_by stored now.rules s names z))
  pub under_way : IsUnderWay stored stands_for now.rules s
  pub program : IsWith now.rules old.commands old now
  pub whole : IsTrue b.out.whole
  pub faults : b.faults ≡ a.faults

pub excising_start : {M H : Type 0} (stored : M → Stored) (stands_for : M → List Rule → Type 0) (old : Program) (names : Spellings) (given : List Sym) (s : Session M H) (a : Port)
    → IsUnderWay stored stands_for old.rules s → IsTrue a.out.whole → Excising stored stands_for old old names given 0 s s a a
excising_start stored stands_for old names given s a p w = record {
  pending = λ z. pending_start a (excised a.out.column given (meant_by stored old.rules s names z)) w;
  under_way = p;
  program = record { rules_are = refl; commands_are = refl; classes = refl; templates = refl; text = refl };
  whole = w;
  faults = refl;
}

module _ {M H : Type 0} (stored : M → Stored) (stands_for : M → List Rule → Type 0) (old now : Program) (names : Spellings) (given : List Sym) (i : ℕ) (first s : Session M H) (a b : Port) where
  abbrev meant_first : Coming → Meant
  meant_first z = meant_by stored old.rules first names z

  abbrev meant_now : Coming → Meant
  meant_now z = meant_by stored now.rules s names z

  pub excising_done : Excising stored stands_for old now names given i first s a b → drop i given ≡ [] → (let r : Result (Session M H) Ending = Ok s in Excises stored stands_for old now names given first r a b)
  excising_done p none = record {
    performs = λ z.
        let seen : Session M H → Meant = λ s. meant_by stored now.rules s names z in
        let rest : Effect Ending Meant = writes [] (meant_now z) in
        pending_last seen of_ending (Ok s) a b b (excised a.out.column given (meant_first z)) rest
        (let P : List Sym → Type 0 = λ ns. Pending a b (excised a.out.column given (meant_first z)) (excised b.out.column ns (meant_now z)) in subst P none (p.pending z))
        (refl, put_nothing b p.whole);
    reads = refl;
    under_way = p.under_way;
    program = p.program;
  }

  module _ (d x : Sym) (within : i < length given) (is : x ≡ get_or given i d) (p : Excising stored stands_for old now names given i first s a b) (next : Program) (c : Port) where
    pub excising_step : (t : Session M H) → (let r : Result (Session M H) Ending = Ok t in Excises stored stands_for now next names (x ∷ []) s r b c) → Excising stored stands_for old next names given (i + 1) first t a c
    excising_step t q = record {
      pending = λ z.
          pending_step (meant_by stored next.rules t names z) a b c (excised a.out.column given (meant_first z)) (excised b.out.column (drop i given) (meant_now z)) (excised b.out.column (x ∷ []) (meant_now z)) (λ column k. excised column (drop (i + 1) given) k)
          (p.pending z) (excised_here b.out.column given i d x (meant_now z) within is) (q.performs z);
      under_way = q.under_way;
      program = record {
        rules_are = refl;
        commands_are = q.program.commands_are ∙ p.program.commands_are;
        classes = q.program.classes ∙ p.program.classes;
        templates = q.program.templates ∙ p.program.templates;
        text = q.program.text ∙ p.program.text;
      };
      whole = (q.performs no_input).1.whole;
      faults = (q.performs no_input).1.faults ∙ p.faults;
    }

    pub excising_stop : (f : Ending) → (let r : Result (Session M H) Ending = Err f in Excises stored stands_for now next names (x ∷ []) s r b c) → (let r : Result (Session M H) Ending = Err f in Excises stored stands_for old next names given first r a c)
    excising_stop f q = record {
      performs = λ z.
          pending_stop (of_ending f) a b c (excised a.out.column given (meant_first z)) (excised b.out.column (drop i given) (meant_now z)) (excised b.out.column (x ∷ []) (meant_now z)) (λ column k. excised column (drop (i + 1) given) k)
          (p.pending z) (excised_here b.out.column given i d x (meant_now z) within is) (q.performs z);
      reads = q.reads;
      under_way = tt;
      program = tt;
    }
