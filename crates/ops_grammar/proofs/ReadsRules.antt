-- What is spelled of the left side of a production is read back.
use Rattle.std.proofs.Common.{◌≡◌, ℕ, suc, ◌-◌, ◌<◌, ◌≤◌, Bool, true, false, List, [], ◌∷◌, ◌++◌, length, refl, sym, ap, subst, ◌∙◌, arith, Option, append-nil, append_assoc, length-append, true≢false, nat_le, not, ◌&&◌, ◌+◌}
use Rattle.std.specs.Prelude.{if◌then◌else◌}
use Rattle.std.proofs.lemmas.Bool.{and_parts, lt-ltb, le-leb, leb-true, not-true}
use Rattle.ops_base.specs.declared.values.Sym.{Sym}
use Rattle.ops_base.specs.declared.conditions.Test.{Test}
use Rattle.ops_base.specs.declared.conditions.Condition.{Condition}
use Rattle.ops_base.specs.declared.conditions.Part.{Part}
use Rattle.ops_base.specs.declared.conditions.Part.TheVariants.{One, Group}
use Rattle.ops_base.specs.declared.actions.Hole.{Hole}
use Rattle.ops_base.specs.Filling.{in_test, in_condition, in_part, total}
use Rattle.ops_base.specs.Valid.{most_conditions, class_of, cells_of, elements_of}
use Rattle.ops_grammar.specs.declared.words.Word.{Word}
use Rattle.ops_grammar.specs.declared.words.Named.{Named}
use Rattle.ops_grammar.specs.declared.words.Keyword.TheVariants as keyword
use Rattle.ops_grammar.specs.Grammar.{InPattern, Wanted, FirstPattern, Patterns, Pattern, Braced, ClosesBrace, ClassName, Terms, State, Outcome, number_of, element_at, with_bound_element, step, goes, Members, group_begun, with_group}
use Rattle.ops_grammar.specs.Spelling.{Numbered, opening, opening_brace, closing_brace, spelled_operator, spelled_variable, spelled_pattern, spelled_condition, spelled_conditions, after_condition, condition_is_plain, conditions_are_plain, after_part, after_conditions, spelled_group, spelled_member, spelled_counted, members_are_plain, after_members, after_tests, part_is_plain}
use Rattle.ops_grammar.proofs.Holed.{upto, AreHeld}
use Rattle.ops_grammar.proofs.Places.{numbered, numbered-push, number_out}
use Rattle.ops_grammar.proofs.Numbering.{are_given, after_condition-given, below, below_apart, cells-append, after_group-given, after_tests-given}
use Rattle.ops_grammar.proofs.Parts.{elements-append}
use Rattle.ops_grammar.proofs.ReadsBack.{by_word}
use Rattle.ops_grammar.proofs.ReadsFacts.{AreNamed}
use Rattle.ops_grammar.proofs.ReadsPatterns.{pattern-read, member-read, around_members}

-- ---- conditions

-- what conditions leave: the class, the count around the last negated one, the last element variable, and how many cells
pub record Left : Type 0 where
  pub class : ℕ
  pub around : ℕ
  pub element : Sym
  pub cell : ℕ

abbrev pub left_after : Left → Numbered → Condition → Left
left_after l k c =
    record {
      class = c.class;
      around = if c.negated then length (numbered k.sight) else l.around;
      element = if c.negated then l.element else record { 0 = l.cell };
      cell = if c.negated then l.cell else suc l.cell;
    }

-- the class of the last of some members
abbrev pub class_behind : ℕ → List Condition → ℕ
class_behind class [] = class
class_behind class (c ∷ cs) = class_behind c.class cs

abbrev pub left_past : Left → Numbered → Part → Left
left_past l k (One c) = left_after l k c
left_past l k (Group cs) = record { class = class_behind l.class cs; around = length (numbered k.sight); element = l.element; cell = l.cell }

abbrev pub left_behind : Left → Numbered → List Part → Left
left_behind l k [] = l
left_behind l k (p ∷ ps) = left_behind (left_past l k p) (after_part k p) ps

-- after these conditions and so many constants
abbrev pub matched : State → List Hole → ℕ → Left → Numbered → List Part → State
matched s hs n l k done =
    record s {
      class = l.class;
      values = numbered k.sight;
      variables = k.given;
      elements = numbered (below l.cell);
      element = l.element;
      negated = false;
      around = l.around;
      grouped = false;
      members = [];
      tests = [];
      choice = [];
      terms = [];
      constants = [];
      conditions = done;
      counted = n;
      holes = upto hs n;
    }

-- one more condition has a cell where it is positive
cells_count : (b : Bool) (class : ℕ) (tests : List Test) (done : List Part) (cell : ℕ) → length (cells_of done) ≡ cell → length (cells_of (done ++ One (record { class = class; negated = b; tests = tests }) ∷ [])) ≡ (if b then cell else suc cell)
cells_count true class tests done cell e =
    ap (λ (xs : List ℕ). length xs) (cells-append done (One (record { class = class; negated = true; tests = tests }) ∷ []) ∙ append-nil (cells_of done)) ∙ e
cells_count false class tests done cell e =
    let all = ap (λ (xs : List ℕ). length xs) (cells-append done (One (record { class = class; negated = false; tests = tests }) ∷ [])) in
    let sum = length-append (cells_of done) (class ∷ []) in omega (arith, all, sum, e)

pub cells_behind : (cs : List Part) (l : Left) (k : Numbered) (done : List Part) → length (cells_of done) ≡ l.cell → length (cells_of (done ++ cs)) ≡ (left_behind l k cs).cell
cells_behind [] l k done e = ap (λ (xs : List Part). length (cells_of xs)) (append-nil done) ∙ e
cells_behind (Group ms ∷ cs) l k done e =
    ap (λ (xs : List Part). length (cells_of xs)) (sym (append_assoc done (Group ms ∷ []) cs))
    ∙ cells_behind cs (left_past l k (Group ms)) (after_part k (Group ms)) (done ++ Group ms ∷ [])
    (ap (λ (xs : List ℕ). length xs) (cells-append done (Group ms ∷ []) ∙ append-nil (cells_of done)) ∙ e)
cells_behind (One c ∷ cs) l k done e =
    ap (λ (xs : List Part). length (cells_of xs)) (sym (append_assoc done (One c ∷ []) cs))
    ∙ cells_behind cs (left_after l k c) (after_condition k c) (done ++ One c ∷ []) (cells_count c.negated c.class c.tests done l.cell e)

module _ (words : List Word) (ws : List Wanted) (s : State) where
  first_begun : goes (opening_brace ∷ words) (FirstPattern ∷ ws) s ≡ goes words (Braced ∷ ws) s
  unfolding goes step
  first_begun = refl

  braced_begun : length (elements_of s.conditions) < most_conditions → goes (opening_brace ∷ words) (Patterns ∷ ws) s ≡ goes words (Braced ∷ Patterns ∷ ws) s
  unfolding goes step
  braced_begun lt = rw (lt-ltb _ _ lt) refl

  negated_begun : length (elements_of s.conditions) < most_conditions
      → goes (spelled_operator keyword.Minus ∷ opening ∷ words) (Patterns ∷ ws) s ≡ goes words (ClassName ∷ Terms InPattern ∷ Patterns ∷ ws) (record s { negated = true; around = length s.values })
  unfolding goes step
  negated_begun lt = rw (lt-ltb _ _ lt) refl

  pattern_begun : goes (opening ∷ words) (Pattern ∷ ws) s ≡ goes words (ClassName ∷ Terms InPattern ∷ ws) s
  unfolding goes step
  pattern_begun = refl

  brace_closed : goes (closing_brace ∷ words) (ClosesBrace ∷ ws) s ≡ goes words ws (with_bound_element s)
  unfolding goes step
  brace_closed = refl

name_step : (n : ℕ) (ws : List Wanted) (s : State) → step (spelled_variable n) (Braced ∷ ws) s ≡ element_at (number_of (record { 0 = n }) s.elements) (record { 0 = n }) (Pattern ∷ ClosesBrace ∷ ws) s
unfolding step
name_step n ws s = refl

-- a name that is given to the next cell
name_read : (n : ℕ) (words : List Word) (ws : List Wanted) (s : State) → s.elements ≡ numbered (below n) → goes (spelled_variable n ∷ opening ∷ words) (Braced ∷ ws) s ≡ goes words (ClassName ∷ Terms InPattern ∷ ClosesBrace ∷ ws) (record s { element = record { 0 = n } })
name_read n words ws s e =
    let apart = ap (number_of (record { 0 = n })) e ∙ number_out (below n) n (below_apart n n (omega arith)) in
    by_word (spelled_variable n) (opening ∷ words) (Braced ∷ ws) (Pattern ∷ ClosesBrace ∷ ws) s (record s { element = record { 0 = n } })
    (name_step n ws s ∙ ap (λ (o : Option ℕ). element_at o (record { 0 = n }) (Pattern ∷ ClosesBrace ∷ ws) s) apart)
    ∙ pattern_begun words (ClosesBrace ∷ ws) (record s { element = record { 0 = n } })

-- what led up to the closing brace leads on
name_bound : (n : ℕ) (words : List Word) (ws : List Wanted) (s : State) (from : Outcome) → s.element ≡ record { 0 = n } → s.elements ≡ numbered (below n) → length (cells_of s.conditions) ≡ suc n → from ≡ goes (closing_brace ∷ words) (ClosesBrace ∷ ws) s
    → from ≡ goes words ws (record s { elements = numbered (below (suc n)) })
name_bound n words ws s from named e count led =
    let last : length (cells_of s.conditions) - 1 ≡ n = omega (arith, count) in
    led
    ∙ brace_closed words ws s
    ∙ ap (λ (m : ℕ). goes words ws (record s { elements = s.elements ++ record { name = s.element; number = m } ∷ [] })) last
    ∙ ap (λ (name : Sym). goes words ws (record s { elements = s.elements ++ record { name = name; number = n } ∷ [] })) named
    ∙ ap (λ (ns : List Named). goes words ws (record s { elements = ns ++ record { name = record { 0 = n }; number = n } ∷ [] })) e
    ∙ ap (λ (ns : List Named). goes words ws (record s { elements = ns })) (sym (numbered-push (below n) n))

module _ (hs : List Hole) (n : ℕ) (class : ℕ) (tests : List Test) (more : List Word) (ws : List Wanted) (s : State) (l : Left) (k : Numbered) (done : List Part) (h : AreHeld hs s.outer) (names : AreNamed s.classes) (given : are_given k ≡ true) where
  negated_read : length (elements_of done) < most_conditions → condition_is_plain s.classes k (record { class = class; negated = true; tests = tests }) ≡ true
      → goes (spelled_operator keyword.Minus ∷ opening ∷ spelled_pattern hs n (class_of s.classes class) tests ++ more) (Patterns ∷ ws) (matched s hs n l k done)
      ≡ goes more (Patterns ∷ ws) (matched s hs (n + total in_test tests) (left_after l k (record { class = class; negated = true; tests = tests })) (after_condition k (record { class = class; negated = true; tests = tests })) (done ++ One (record { class = class; negated = true; tests = tests }) ∷ []))
  negated_read few plain =
      let c : Condition = record { class = class; negated = true; tests = tests } in
      ◌∙◌ {c = goes more (Patterns ∷ ws) (matched s hs (n + total in_test tests) (left_after l k c) (after_condition k c) (done ++ One c ∷ []))} (negated_begun (spelled_pattern hs n (class_of s.classes class) tests ++ more) ws (matched s hs n l k done) few)
      (pattern-read hs n c k more (Patterns ∷ ws) (record (matched s hs n l k done) { around = length (numbered k.sight) }) h names given (λ _. refl) plain)

  -- the element variable has the next cell
  braced_read : length (cells_of done) ≡ l.cell → condition_is_plain s.classes k (record { class = class; negated = false; tests = tests }) ≡ true
      → goes (spelled_variable l.cell ∷ opening ∷ spelled_pattern hs n (class_of s.classes class) tests ++ closing_brace ∷ more) (Braced ∷ ws) (matched s hs n l k done)
      ≡ goes more ws (matched s hs (n + total in_test tests) (left_after l k (record { class = class; negated = false; tests = tests })) (after_condition k (record { class = class; negated = false; tests = tests })) (done ++ One (record { class = class; negated = false; tests = tests }) ∷ []))
  braced_read cells plain =
      let c : Condition = record { class = class; negated = false; tests = tests } in
      let body = spelled_pattern hs n (class_of s.classes class) tests in
      let named : State = record (matched s hs n l k done) { element = record { 0 = l.cell } } in
      let count : length (cells_of (done ++ One c ∷ [])) ≡ suc l.cell = cells_count false class tests done l.cell cells in
      let end : State = matched s hs (n + total in_test tests) (left_after l k c) (after_condition k c) (done ++ One c ∷ []) in
      ◌∙◌ {c = goes more ws end} (name_read l.cell (body ++ closing_brace ∷ more) ws (matched s hs n l k done) refl) (
      name_bound l.cell more ws (record end { elements = numbered (below l.cell) }) (goes (body ++ closing_brace ∷ more) (ClassName ∷ Terms InPattern ∷ ClosesBrace ∷ ws) named) refl refl count
      (pattern-read hs n c k (closing_brace ∷ more) (ClosesBrace ∷ ws) named h names given (λ e. absurd (true≢false (sym e))) plain)
      )

  -- The first condition is read back.
  pub first-read : (b : Bool) → b ≡ false → length (cells_of done) ≡ l.cell → condition_is_plain s.classes k (record { class = class; negated = b; tests = tests }) ≡ true
      → goes (spelled_condition hs n s.classes l.cell (record { class = class; negated = b; tests = tests }) ++ more) (FirstPattern ∷ ws) (matched s hs n l k done)
      ≡ goes more ws (matched s hs (n + total in_test tests) (left_after l k (record { class = class; negated = b; tests = tests })) (after_condition k (record { class = class; negated = b; tests = tests })) (done ++ One (record { class = class; negated = b; tests = tests }) ∷ []))
  first-read true positive cells plain = absurd (true≢false positive)
  first-read false positive cells plain =
      let body = spelled_pattern hs n (class_of s.classes class) tests in
      let front : List Word = spelled_variable l.cell ∷ opening ∷ body in
      first_begun (front ++ closing_brace ∷ [] ++ more) ws (matched s hs n l k done)
      ∙ ap (λ (x : List Word). goes x (Braced ∷ ws) (matched s hs n l k done)) (append_assoc front (closing_brace ∷ []) more)
      ∙ braced_read cells plain

module _ (hs : List Hole) (n : ℕ) (class : ℕ) (tests : List Test) (more : List Word) (ws : List Wanted) (s : State) (l : Left) (k : Numbered) (done : List Part) (h : AreHeld hs s.outer) (names : AreNamed s.classes) (given : are_given k ≡ true) where
  -- A condition after the first is read back.
  condition-read : (b : Bool) → length (elements_of done) < most_conditions → length (cells_of done) ≡ l.cell → condition_is_plain s.classes k (record { class = class; negated = b; tests = tests }) ≡ true
      → goes (spelled_condition hs n s.classes l.cell (record { class = class; negated = b; tests = tests }) ++ more) (Patterns ∷ ws) (matched s hs n l k done)
      ≡ goes more (Patterns ∷ ws) (matched s hs (n + total in_test tests) (left_after l k (record { class = class; negated = b; tests = tests })) (after_condition k (record { class = class; negated = b; tests = tests })) (done ++ One (record { class = class; negated = b; tests = tests }) ∷ []))
  condition-read true few cells plain = negated_read hs n class tests more ws s l k done h names given few plain
  condition-read false few cells plain =
      let body = spelled_pattern hs n (class_of s.classes class) tests in
      let front : List Word = spelled_variable l.cell ∷ opening ∷ body in
      braced_begun (front ++ closing_brace ∷ [] ++ more) ws (matched s hs n l k done) few
      ∙ ap (λ (x : List Word). goes x (Braced ∷ Patterns ∷ ws) (matched s hs n l k done)) (append_assoc front (closing_brace ∷ []) more)
      ∙ braced_read hs n class tests more (Patterns ∷ ws) s l k done h names given cells plain

-- ---- groups

-- among the members of a group, after these
abbrev grouped_at : State → List Hole → ℕ → Left → Numbered → List Part → ℕ → List Condition → Numbered → State
grouped_at s hs n l k done class ms inner =
    record (matched s hs n l k done) {
      class = class;
      values = numbered inner.sight;
      variables = inner.given;
      around = length (numbered k.sight);
      grouped = true;
      members = ms;
    }

module _ (words : List Word) (ws : List Wanted) (s : State) where
  group_opened : goes (spelled_operator keyword.GroupMinus ∷ opening_brace ∷ words) (Patterns ∷ ws) s ≡ goes words (Members 0 ∷ Patterns ∷ ws) (group_begun s)
  unfolding goes step
  group_opened = refl

  member_begun : (n : ℕ) → length (elements_of s.conditions) + length s.members < most_conditions → goes (opening ∷ words) (Members n ∷ ws) s ≡ goes words (ClassName ∷ Terms InPattern ∷ Members (suc n) ∷ ws) s
  unfolding goes step
  member_begun n lt = rw (lt-ltb _ _ lt) refl

  group_closed : (n : ℕ) → 2 ≤ n → goes (closing_brace ∷ words) (Members n ∷ ws) s ≡ goes words ws (with_group s)
  unfolding goes step
  group_closed n le = rw (le-leb 2 n le) refl

members-read : (hs : List Hole) (n : ℕ) (cs : List Condition) (more : List Word) (ws : List Wanted) (s : State) (l : Left) (k : Numbered) (done : List Part) (class : ℕ) (ms : List Condition) (inner : Numbered) → AreHeld hs s.outer → AreNamed s.classes → are_given inner ≡ true
    → length (elements_of done) + length (ms ++ cs) ≤ most_conditions → members_are_plain s.classes inner cs ≡ true
    → goes (spelled_counted in_condition (spelled_member hs s.classes) n cs ++ more) (Members (length ms) ∷ ws) (grouped_at s hs n l k done class ms inner)
    ≡ goes more (Members (length (ms ++ cs)) ∷ ws) (grouped_at s hs (n + total in_condition cs) l k done (class_behind class cs) (ms ++ cs) (after_members inner cs))
members-read hs n [] more ws s l k done class ms inner h names given few plain =
    let none : n ≡ n + 0 = omega arith in
    ap (λ (xs : List Condition). goes more (Members (length xs) ∷ ws) (grouped_at s hs n l k done class xs inner)) (sym (append-nil ms))
    ∙ ap (λ (m : ℕ). goes more (Members (length (ms ++ [])) ∷ ws) (grouped_at s hs m l k done class (ms ++ []) inner)) none
members-read hs n (c ∷ cs) more ws s l k done class ms inner h names given few plain =
    let each = and_parts (not c.negated && condition_is_plain s.classes inner c) (members_are_plain s.classes (after_tests inner c.tests) cs) plain in
    let parts = and_parts (not c.negated) (condition_is_plain s.classes inner c) each.0 in
    let positive : record { class = c.class; negated = false; tests = c.tests } ≡ c = ap (λ (b : Bool). let d : Condition = record { class = c.class; negated = b; tests = c.tests } in d) (sym (not-true c.negated parts.0)) in
    let body = spelled_pattern hs n (class_of s.classes c.class) c.tests in
    let m = n + in_condition c in
    let rest = spelled_counted in_condition (spelled_member hs s.classes) m cs in
    let here : State = grouped_at s hs n l k done class ms inner in
    let next : Numbered = after_tests inner c.tests in
    let count : suc (length ms) ≡ length (ms ++ c ∷ []) = omega (arith, length-append ms (c ∷ [])) in
    let all : m + total in_condition cs ≡ n + (in_condition c + total in_condition cs) = omega arith in
    ap (λ (x : List Word). goes x (Members (length ms) ∷ ws) here) (append_assoc (opening ∷ body) rest more)
    ∙ member_begun (body ++ (rest ++ more)) ws here (length ms) (omega (arith, few, length-append ms (c ∷ cs)))
    ∙ member-read hs n c.class c.tests inner (rest ++ more) (Members (suc (length ms)) ∷ ws) here h names given (ap (condition_is_plain s.classes inner) positive ∙ parts.1)
    ∙ ap (λ (d : Condition). goes (rest ++ more) (Members (suc (length ms)) ∷ ws) (grouped_at s hs m l k done c.class (ms ++ d ∷ []) next)) positive
    ∙ ap (λ (i : ℕ). goes (rest ++ more) (Members i ∷ ws) (grouped_at s hs m l k done c.class (ms ++ c ∷ []) next)) count
    ∙ members-read hs m cs more ws s l k done c.class (ms ++ c ∷ []) next h names (after_tests-given c.tests inner given)
    (subst (λ (xs : List Condition). length (elements_of done) + length xs ≤ most_conditions) (sym (append_assoc ms (c ∷ []) cs)) few) each.1
    ∙ ap (λ (xs : List Condition). goes more (Members (length xs) ∷ ws) (grouped_at s hs (m + total in_condition cs) l k done (class_behind c.class cs) xs (after_members next cs))) (append_assoc ms (c ∷ []) cs)
    ∙ ap (λ (i : ℕ). goes more (Members (length (ms ++ c ∷ cs)) ∷ ws) (grouped_at s hs i l k done (class_behind c.class cs) (ms ++ c ∷ cs) (after_members next cs))) all

-- A group is read back.
group-read : (hs : List Hole) (n : ℕ) (cs : List Condition) (more : List Word) (ws : List Wanted) (s : State) (l : Left) (k : Numbered) (done : List Part) → AreHeld hs s.outer → AreNamed s.classes → are_given k ≡ true
    → length (elements_of done) + length cs ≤ most_conditions → 2 ≤ length cs → members_are_plain s.classes k cs ≡ true
    → goes (spelled_group hs n s.classes cs ++ more) (Patterns ∷ ws) (matched s hs n l k done) ≡ goes more (Patterns ∷ ws) (matched s hs (n + in_part (Group cs)) (left_past l k (Group cs)) (after_part k (Group cs)) (done ++ Group cs ∷ []))
group-read hs n cs more ws s l k done h names given few two plain =
    let each = spelled_counted in_condition (spelled_member hs s.classes) n cs in
    let m = n + in_part (Group cs) in
    let end : State = matched s hs m (left_past l k (Group cs)) (after_part k (Group cs)) (done ++ Group cs ∷ []) in
    group_opened ((each ++ closing_brace ∷ []) ++ more) ws (matched s hs n l k done)
    ∙ ap (λ (x : List Word). goes x (Members 0 ∷ Patterns ∷ ws) (group_begun (matched s hs n l k done))) (append_assoc each (closing_brace ∷ []) more)
    ∙ members-read hs n cs (closing_brace ∷ more) (Patterns ∷ ws) s l k done l.class [] k h names given few plain
    ∙ group_closed more (Patterns ∷ ws) (grouped_at s hs m l k done (class_behind l.class cs) cs (after_members k cs)) (length cs) two
    ∙ ap (λ (vs : List Named). goes more (Patterns ∷ ws) (record end { values = vs })) (around_members k cs)

-- The conditions after the first are read back.
pub conditions-read : (hs : List Hole) (n : ℕ) (cs : List Part) (more : List Word) (ws : List Wanted) (s : State) (l : Left) (k : Numbered) (done : List Part) → AreHeld hs s.outer → AreNamed s.classes → are_given k ≡ true
    → length (cells_of done) ≡ l.cell → length (elements_of (done ++ cs)) ≤ most_conditions → conditions_are_plain s.classes k cs ≡ true
    → goes (spelled_conditions hs n s.classes l.cell cs ++ more) (Patterns ∷ ws) (matched s hs n l k done) ≡ goes more (Patterns ∷ ws) (matched s hs (n + total in_part cs) (left_behind l k cs) (after_conditions k cs) (done ++ cs))
conditions-read hs n [] more ws s l k done h names given cells few plain =
    let none : n ≡ n + 0 = omega arith in
    ap (λ (xs : List Part). goes more (Patterns ∷ ws) (matched s hs n l k xs)) (sym (append-nil done)) ∙ ap (λ (m : ℕ). goes more (Patterns ∷ ws) (matched s hs m l k (done ++ []))) none
conditions-read hs n (Group ms ∷ cs) more ws s l k done h names given cells few plain =
    let each = and_parts (part_is_plain s.classes k (Group ms)) (conditions_are_plain s.classes (after_part k (Group ms)) cs) plain in
    let parts = and_parts (nat_le 2 (length ms)) (members_are_plain s.classes k ms) each.0 in
    let after : Left = left_past l k (Group ms) in
    let next : Numbered = after_part k (Group ms) in
    let m = n + in_part (Group ms) in
    let rest = spelled_conditions hs m s.classes l.cell cs in
    let all : done ++ Group ms ∷ [] ++ cs ≡ done ++ Group ms ∷ cs = append_assoc done (Group ms ∷ []) cs in
    let count : m + total in_part cs ≡ n + (in_part (Group ms) + total in_part cs) = omega arith in
    ap (λ (x : List Word). goes x (Patterns ∷ ws) (matched s hs n l k done)) (append_assoc (spelled_group hs n s.classes ms) rest more)
    ∙ group-read hs n ms (rest ++ more) ws s l k done h names given
    (omega (arith, few, ap (λ (xs : List Condition). length xs) (elements-append done (Group ms ∷ cs)), length-append (elements_of done) (elements_of (Group ms ∷ cs)), length-append ms (elements_of cs)))
    (leb-true _ _ parts.0) parts.1
    ∙ conditions-read hs m cs more ws s after next (done ++ Group ms ∷ []) h names (after_group-given k ms given)
    (ap (λ (xs : List ℕ). length xs) (cells-append done (Group ms ∷ []) ∙ append-nil (cells_of done)) ∙ cells)
    (subst (λ (xs : List Part). length (elements_of xs) ≤ most_conditions) (sym all) few) each.1
    ∙ ap (λ (xs : List Part). goes more (Patterns ∷ ws) (matched s hs (m + total in_part cs) (left_behind after next cs) (after_conditions next cs) xs)) all
    ∙ ap (λ (i : ℕ). goes more (Patterns ∷ ws) (matched s hs i (left_behind after next cs) (after_conditions next cs) (done ++ Group ms ∷ cs))) count
conditions-read hs n (One c ∷ cs) more ws s l k done h names given cells few plain =
    let each = and_parts (condition_is_plain s.classes k c) (conditions_are_plain s.classes (after_condition k c) cs) plain in
    let after : Left = left_after l k c in
    let m = n + in_condition c in
    let rest = spelled_conditions hs m s.classes after.cell cs in
    let all : done ++ One c ∷ [] ++ cs ≡ done ++ One c ∷ cs = append_assoc done (One c ∷ []) cs in
    let count : m + total in_part cs ≡ n + (in_condition c + total in_part cs) = omega arith in
    ap (λ (x : List Word). goes x (Patterns ∷ ws) (matched s hs n l k done)) (append_assoc (spelled_condition hs n s.classes l.cell c) rest more)
    ∙ condition-read hs n c.class c.tests (rest ++ more) ws s l k done h names given c.negated (omega (arith, few, ap (λ (xs : List Condition). length xs) (elements-append done (One c ∷ cs)), length-append (elements_of done) (elements_of (One c ∷ cs)))) cells each.0
    ∙ conditions-read hs m cs more ws s after (after_condition k c) (done ++ One c ∷ []) h names (after_condition-given k c given) (cells_count c.negated c.class c.tests done l.cell cells)
    (subst (λ (xs : List Part). length (elements_of xs) ≤ most_conditions) (sym all) few) each.1
    ∙ ap (λ (xs : List Part). goes more (Patterns ∷ ws) (matched s hs (m + total in_part cs) (left_behind after (after_condition k c) cs) (after_conditions (after_condition k c) cs) xs)) all
    ∙ ap (λ (i : ℕ). goes more (Patterns ∷ ws) (matched s hs i (left_behind after (after_condition k c) cs) (after_conditions (after_condition k c) cs) (done ++ One c ∷ cs))) count
