-- What is spelled of a command is read back.
use Rattle.std.proofs.Common.{◌&&◌, ◌≡◌, ℕ, zero, suc, ◌+◌, ◌<◌, ◌≤◌, Bool, true, false, ◌||◌, ◌==◌, List, [], ◌∷◌, ◌++◌, length, map, refl, sym, ap, subst, ◌∙◌, arith, Option, Some, None, pos, nat_lt, nat_le, slice_get, append-nil, append_assoc, length-append, true≢false}
use Rattle.std.specs.Prelude.{if◌then◌else◌}
use Rattle.std.specs.List.{list_all}
use Rattle.std.proofs.lemmas.Bool.{and_parts, ltb-true, lt-ltb, leb-true, eqb-true, cond-true, cond-false}
use Rattle.ops_base.specs.declared.values.Sym.{Sym}
use Rattle.ops_base.specs.declared.values.Value.{Value}
use Rattle.ops_base.specs.declared.values.Value.TheVariants as value
use Rattle.ops_base.specs.declared.elements.Class.{Class}
use Rattle.ops_base.specs.declared.commands.Fixed.{Fixed}
use Rattle.ops_base.specs.declared.commands.Command.TheVariants as command
use Rattle.ops_base.specs.declared.commands.Strategy.{Strategy}
use Rattle.ops_base.specs.declared.commands.Strategy.TheVariants.{Lex, Mea}
use Rattle.ops_base.specs.Valid.{most_fields, are_distinct, class_is_valid, no_class, class_of, is_attribute, is_vector, is_natural, fixed_is_valid}
use Rattle.ops_grammar.specs.declared.words.Word.{Word}
use Rattle.ops_grammar.specs.declared.words.Keyword.TheVariants as keyword
use Rattle.ops_grammar.specs.Grammar.{Use, InFixed, TagUse, ToRemove, ToShow, NameUse, ToPrint, ToBreak, Wanted, Forms, ClassName, Terms, Attribute, Several, ValueFor, ToFixed, TagOrAll, Tags, Shown, NamedRule, NamedRules, State, Next, is_right, is_caret, behind_attribute, field_at, terms, one_of_several, with_fixed, with_several, fixed_command, with_element, with_tags, with_named, step, after, goes, ToExcise, ToMatch}
use Rattle.ops_grammar.specs.Spelling.{unnamed, opening, closing, caret, spelled_keyword, spelled_name, spelled_value, spelled_each, attribute_name, spelled_attribute, spelled_fixed, spelled_constants, spelled_short, spelled_fact, spelled_shown, spelled_tags, spelled_count, spelled_strategy}
use Rattle.ops_grammar.proofs.Places.{place_found}
use Rattle.ops_grammar.proofs.ReadsBack.{by_word, class_parts}

-- ---- classes and attributes by their names

-- the classes have names of their own, and their attributes too
pub record AreNamed (classes : List Class) : Type 0 where
  pub classes_apart : are_distinct (map (λ c. c.name.0) classes) ≡ true
  pub classes_valid : (i : ℕ) → class_is_valid (class_of classes i) ≡ true

pub class_step : (class : ℕ) (ws : List Wanted) (s : State) → AreNamed s.classes → class < length s.classes → step (spelled_name (class_of s.classes class).name) (ClassName ∷ ws) s ≡ Next ws (record s { class = class })
unfolding step
class_step class ws s names lt =
    let found = place_found (λ (c : Class). c.name.0) no_class s.classes class (class_of s.classes class).name.0 refl names.classes_apart lt in rw found refl

attributes_are : (classes : List Class) (class : ℕ) → class < length classes → slice_get classes class ≡ Some (class_of classes class)
attributes_are [] class lt = absurd (omega arith)
attributes_are (c ∷ cs) zero lt = refl
attributes_are (c ∷ cs) (suc i) lt = attributes_are cs i (omega arith)

attribute_found : (u : Use) (f : ℕ) (ws : List Wanted) (s : State) → AreNamed s.classes → s.class < length s.classes → is_attribute (class_of s.classes s.class) f ≡ true
    → step (spelled_name (attribute_name (class_of s.classes s.class) f)) (Attribute u ∷ ws) s ≡ field_at u (Some f) ws s
unfolding step
attribute_found u f ws s names lt is =
    let c = class_of s.classes s.class in
    let apart = (class_parts c (names.classes_valid s.class)).1 in
    let found = place_found (λ (a : Sym). a.0) unnamed c.attrs f (attribute_name c f).0 refl apart (ltb-true _ _ is) in
    rw (attributes_are s.classes s.class lt) (rw found refl)

caret_step : (u : Use) (ws : List Wanted) (s : State) → step caret (Terms u ∷ ws) s ≡ Next (Attribute u ∷ ws) s
unfolding step
caret_step u ws s = refl

-- with no values of a vector attribute
abbrev pub settled : State → State
settled s = record s { terms = []; constants = [] }

module _ (u : Use) (f : ℕ) (values more : List Word) (ws : List Wanted) (s : State) (names : AreNamed s.classes) (lt : s.class < length s.classes) (is : is_attribute (class_of s.classes s.class) f ≡ true) where
  attribute_read : (ws' : List Wanted) (s' : State) → field_at u (Some f) ws s ≡ Next ws' s' → goes (spelled_attribute (class_of s.classes s.class) f values ++ more) (Terms u ∷ ws) s ≡ goes (values ++ more) ws' s'
  attribute_read ws' s' leads =
      let name = spelled_name (attribute_name (class_of s.classes s.class) f) in
      by_word caret (name ∷ values ++ more) (Terms u ∷ ws) (Attribute u ∷ ws) s s (caret_step u ws s)
      ∙ by_word name (values ++ more) (Attribute u ∷ ws) ws' s s' (attribute_found u f ws s names lt is ∙ leads)

  -- up to what stands after a scalar attribute
  pub scalar_read : is_vector (class_of s.classes s.class) f ≡ false → goes (spelled_attribute (class_of s.classes s.class) f values ++ more) (Terms u ∷ ws) s ≡ goes (values ++ more) (behind_attribute u f ∷ Terms u ∷ ws) s
  scalar_read scalar = attribute_read (behind_attribute u f ∷ Terms u ∷ ws) s (cond-false _ _ _ scalar)

  -- up to what stands after the vector attribute
  pub vector_read : is_vector (class_of s.classes s.class) f ≡ true → goes (spelled_attribute (class_of s.classes s.class) f values ++ more) (Terms u ∷ ws) s ≡ goes (values ++ more) (Several u f ∷ ws) (settled s)
  vector_read vector = attribute_read (Several u f ∷ ws) (settled s) (cond-true _ _ _ vector)

-- ---- what ends the values of a vector attribute

-- words that begin with `)` or `^`
abbrev pub EndValues : List Word → Type 0
EndValues [] = ⊥
EndValues (w ∷ words) = (is_right w.kind || is_caret w.kind) ≡ true

several_step : (u : Use) (f : ℕ) (w : Word) (ws : List Wanted) (s : State) → (is_right w.kind || is_caret w.kind) ≡ true → step w (Several u f ∷ ws) s ≡ step w (Terms u ∷ ws) (with_several u f s)
unfolding step
several_step u f w ws s h = cond-true _ (terms u w ws (with_several u f s)) (one_of_several u f w ws s) h

pub several_ended : (u : Use) (f : ℕ) (words : List Word) (ws : List Wanted) (s : State) → EndValues words → goes words (Several u f ∷ ws) s ≡ goes words (Terms u ∷ ws) (with_several u f s)
unfolding goes
several_ended u f [] ws s h = absurd h
several_ended u f (w ∷ words) ws s h = ap (after (goes words) w) (several_step u f w ws s h)

-- ---- commands

fixed_step : (f : ℕ) (v : Value) (ws : List Wanted) (s : State) → step (spelled_value v) (ValueFor (ToFixed f) ∷ ws) s ≡ Next ws (with_fixed s f v)
unfolding step
fixed_step f (value.Whole n) ws s = refl
fixed_step f (value.Symbol name) ws s = refl

fixed_values : (f : ℕ) (values : List Value) (more : List Word) (ws : List Wanted) (s : State) → length values ≡ 1
    → goes (map spelled_value values ++ more) (ValueFor (ToFixed f) ∷ ws) s ≡ goes more ws (record s { fixed = s.fixed ++ record { field = f; values = values } ∷ [] })
fixed_values f [] more ws s e = absurd (omega arith)
fixed_values f (v ∷ []) more ws s e = by_word (spelled_value v) more (ValueFor (ToFixed f) ∷ ws) ws s (with_fixed s f v) (fixed_step f v ws s)
fixed_values f (v ∷ w ∷ vs) more ws s e = absurd (omega arith)

fixed_several : (f : ℕ) (v : Value) (ws : List Wanted) (s : State) → f + length s.constants < most_fields → step (spelled_value v) (Several InFixed f ∷ ws) s ≡ Next (Several InFixed f ∷ ws) (record s { constants = s.constants ++ v ∷ [] })
unfolding step
fixed_several f (value.Whole n) ws s lt = rw (lt-ltb _ _ lt) refl
fixed_several f (value.Symbol name) ws s lt = rw (lt-ltb _ _ lt) refl

constants_read : (f : ℕ) (vs : List Value) (more : List Word) (ws : List Wanted) (s : State) → f + length (s.constants ++ vs) ≤ most_fields
    → goes (map spelled_value vs ++ more) (Several InFixed f ∷ ws) s ≡ goes more (Several InFixed f ∷ ws) (record s { constants = s.constants ++ vs })
constants_read f [] more ws s few = ap (λ (xs : List Value). goes more (Several InFixed f ∷ ws) (record s { constants = xs })) (sym (append-nil s.constants))
constants_read f (v ∷ vs) more ws s few =
    let next : State = record s { constants = s.constants ++ v ∷ [] } in
    let all : s.constants ++ v ∷ [] ++ vs ≡ s.constants ++ v ∷ vs = append_assoc s.constants (v ∷ []) vs in
    by_word (spelled_value v) (map spelled_value vs ++ more) (Several InFixed f ∷ ws) (Several InFixed f ∷ ws) s next (fixed_several f v ws s (omega (arith, few, length-append s.constants (v ∷ vs))))
    ∙ constants_read f vs more ws next (subst (λ (xs : List Value). f + length xs ≤ most_fields) (sym all) few)
    ∙ ap (λ (xs : List Value). goes more (Several InFixed f ∷ ws) (record s { constants = xs })) all

fixed_end : (c : Class) (puts : List Fixed) (more : List Word) → EndValues more → EndValues (spelled_each (spelled_fixed c) puts ++ more)
fixed_end c [] more h = h
fixed_end c (p ∷ ps) more h = refl

module _ (more : List Word) (ws : List Wanted) (s : State) (names : AreNamed s.classes) (lt : s.class < length s.classes) (ends : EndValues more) where
  one_fixed_read : (v : Bool) (p : Fixed) → is_vector (class_of s.classes s.class) p.field ≡ v → fixed_is_valid (class_of s.classes s.class) p ≡ true
      → goes (spelled_fixed (class_of s.classes s.class) p ++ more) (Terms InFixed ∷ ws) (settled s) ≡ goes more (Terms InFixed ∷ ws) (settled (record s { fixed = s.fixed ++ p ∷ [] }))
  one_fixed_read true p is plain =
      let c = class_of s.classes s.class in
      let choice : Bool → Bool = λ b. if b then nat_le (p.field + length p.values) most_fields else length p.values == 1 in
      let parts = and_parts (is_attribute c p.field) (choice (is_vector c p.field)) plain in
      let few : p.field + length p.values ≤ most_fields = leb-true _ _ (ap choice (sym is) ∙ parts.1) in
      vector_read InFixed p.field (map spelled_value p.values) more ws (settled s) names lt parts.0 is
      ∙ constants_read p.field p.values more ws (settled s) few
      ∙ several_ended InFixed p.field more ws (record s { terms = []; constants = p.values }) ends
  one_fixed_read false p is plain =
      let c = class_of s.classes s.class in
      let choice : Bool → Bool = λ b. if b then nat_le (p.field + length p.values) most_fields else length p.values == 1 in
      let parts = and_parts (is_attribute c p.field) (choice (is_vector c p.field)) plain in
      let one : length p.values ≡ 1 = eqb-true _ _ (ap choice (sym is) ∙ parts.1) in
      scalar_read InFixed p.field (map spelled_value p.values) more ws (settled s) names lt parts.0 is
      ∙ fixed_values p.field p.values more (Terms InFixed ∷ ws) (settled s) one

fixed_read : (puts : List Fixed) (more : List Word) (ws : List Wanted) (s : State) → AreNamed s.classes → s.class < length s.classes → EndValues more → list_all (fixed_is_valid (class_of s.classes s.class)) puts ≡ true
    → goes (spelled_each (spelled_fixed (class_of s.classes s.class)) puts ++ more) (Terms InFixed ∷ ws) (settled s) ≡ goes more (Terms InFixed ∷ ws) (settled (record s { fixed = s.fixed ++ puts }))
fixed_read [] more ws s names lt ends plain = ap (λ (xs : List Fixed). goes more (Terms InFixed ∷ ws) (settled (record s { fixed = xs }))) (sym (append-nil s.fixed))
fixed_read (p ∷ ps) more ws s names lt ends plain =
    let c = class_of s.classes s.class in
    let each = and_parts (fixed_is_valid c p) (list_all (fixed_is_valid c) ps) plain in
    let rest = spelled_each (spelled_fixed c) ps in
    let next : State = record s { fixed = s.fixed ++ p ∷ [] } in
    ap (λ (x : List Word). goes x (Terms InFixed ∷ ws) (settled s)) (append_assoc (spelled_fixed c p) rest more)
    ∙ one_fixed_read (rest ++ more) ws s names lt (fixed_end c ps more ends) (is_vector c p.field) p refl each.0
    ∙ fixed_read ps more ws next names lt ends each.1
    ∙ ap (λ (xs : List Fixed). goes more (Terms InFixed ∷ ws) (settled (record s { fixed = xs }))) (append_assoc s.fixed (p ∷ []) ps)

pub element_closed : (u : Use) (words : List Word) (ws : List Wanted) (s : State) → goes (closing ∷ words) (Terms u ∷ ws) s ≡ goes words ws (with_element u s)
unfolding goes step
element_closed u words ws s = refl

-- after the name of the class of a `make` or a `ppwm`
element_read : (shows : Bool) (class : ℕ) (puts : List Fixed) (more : List Word) (ws : List Wanted) (s : State) → AreNamed s.classes → class < length s.classes → list_all (fixed_is_valid (class_of s.classes class)) puts ≡ true
    → goes (spelled_each (spelled_fixed (class_of s.classes class)) puts ++ closing ∷ [] ++ more) (Terms InFixed ∷ ws) (settled (record s { first = 0; class = class; fixed = []; shows = shows }))
    ≡ goes more ws (settled (record s { first = 0; class = class; fixed = []; shows = shows; commands = s.commands ++ fixed_command shows class puts ∷ [] }))
element_read shows class puts more ws s names lt plain =
    let named : State = record s { first = 0; class = class; fixed = []; shows = shows } in
    let body = spelled_each (spelled_fixed (class_of s.classes class)) puts in
    ap (λ (x : List Word). goes x (Terms InFixed ∷ ws) (settled named)) (append_assoc body (closing ∷ []) more)
    ∙ fixed_read puts (closing ∷ more) ws named names lt refl plain
    ∙ element_closed InFixed more ws (settled (record named { fixed = puts }))

module _ (words : List Word) (ws : List Wanted) (s : State) where
  fact_begun : goes (opening ∷ spelled_keyword keyword.Make ∷ words) (Forms ∷ ws) s ≡ goes words (ClassName ∷ Terms InFixed ∷ Forms ∷ ws) (record s { first = 0; fixed = []; shows = false })
  unfolding goes step
  fact_begun = refl

  shown_begun : goes (opening ∷ spelled_keyword keyword.Ppwm ∷ words) (Forms ∷ ws) s ≡ goes words (Shown ∷ Forms ∷ ws) (record s { first = 0 })
  unfolding goes step
  shown_begun = refl

shown_step : (name : Sym) (ws : List Wanted) (s : State) → step (spelled_name name) (Shown ∷ ws) s ≡ step (spelled_name name) (ClassName ∷ Terms InFixed ∷ ws) (record s { fixed = []; shows = true })
unfolding step
shown_step name ws s = refl

-- A command `make` is read back.
pub fact-read : (class : ℕ) (puts : List Fixed) (more : List Word) (ws : List Wanted) (s : State) → AreNamed s.classes → class < length s.classes → list_all (fixed_is_valid (class_of s.classes class)) puts ≡ true
    → goes (spelled_fact (class_of s.classes class) puts ++ more) (Forms ∷ ws) (settled s) ≡ goes more (Forms ∷ ws) (settled (record s { first = 0; class = class; fixed = []; shows = false; commands = s.commands ++ command.Make class puts ∷ [] }))
fact-read class puts more ws s names lt plain =
    let c = class_of s.classes class in
    let begun : State = record s { first = 0; fixed = []; shows = false } in
    let behind : List Word = spelled_each (spelled_fixed c) puts ++ closing ∷ [] ++ more in
    let wanted : List Wanted = Terms InFixed ∷ Forms ∷ ws in
    fact_begun (spelled_name c.name ∷ behind) ws (settled s)
    ∙ by_word (spelled_name c.name) behind (ClassName ∷ wanted) wanted (settled begun) (settled (record begun { class = class })) (class_step class wanted (settled begun) names lt)
    ∙ element_read false class puts more (Forms ∷ ws) s names lt plain

-- So is a command `ppwm` of a class.
pub shown-read : (class : ℕ) (puts : List Fixed) (more : List Word) (ws : List Wanted) (s : State) → AreNamed s.classes → class < length s.classes → list_all (fixed_is_valid (class_of s.classes class)) puts ≡ true
    → goes (spelled_short keyword.Ppwm (spelled_constants (class_of s.classes class) puts) ++ more) (Forms ∷ ws) (settled s)
    ≡ goes more (Forms ∷ ws) (settled (record s { first = 0; class = class; fixed = []; shows = true; commands = s.commands ++ command.Ppwm (Some (class, puts)) ∷ [] }))
shown-read class puts more ws s names lt plain =
    let c = class_of s.classes class in
    let begun : State = record s { first = 0 } in
    let named : State = record s { first = 0; fixed = []; shows = true } in
    let behind : List Word = spelled_each (spelled_fixed c) puts ++ closing ∷ [] ++ more in
    let wanted : List Wanted = Terms InFixed ∷ Forms ∷ ws in
    shown_begun (spelled_name c.name ∷ behind) ws (settled s)
    ∙ by_word (spelled_name c.name) behind (Shown ∷ Forms ∷ ws) wanted (settled begun) (settled (record named { class = class })) (shown_step c.name (Forms ∷ ws) (settled begun) ∙ class_step class wanted (settled named) names lt)
    ∙ element_read true class puts more (Forms ∷ ws) s names lt plain

-- ---- commands of tags

tag_step : (u : TagUse) (n : ℕ) (ws : List Wanted) (s : State) → is_natural n ≡ true → step (spelled_value (value.Whole (pos n))) (Tags u ∷ ws) s ≡ Next (Tags u ∷ ws) (record s { tags = s.tags ++ n ∷ [] })
unfolding step
tag_step u n ws s is = rw is refl

first_tag : (n : ℕ) (ws : List Wanted) (s : State) → is_natural n ≡ true → step (spelled_value (value.Whole (pos n))) (TagOrAll ∷ ws) s ≡ Next (Tags ToRemove ∷ ws) (record s { tags = s.tags ++ n ∷ [] })
unfolding step
first_tag n ws s is = rw is refl

tags_read : (u : TagUse) (ns : List ℕ) (more : List Word) (ws : List Wanted) (s : State) → list_all is_natural ns ≡ true → goes (spelled_tags ns ++ more) (Tags u ∷ ws) s ≡ goes more (Tags u ∷ ws) (record s { tags = s.tags ++ ns })
tags_read u [] more ws s natural = ap (λ (xs : List ℕ). goes more (Tags u ∷ ws) (record s { tags = xs })) (sym (append-nil s.tags))
tags_read u (n ∷ ns) more ws s natural =
    let each = and_parts (is_natural n) (list_all is_natural ns) natural in
    let next : State = record s { tags = s.tags ++ n ∷ [] } in
    by_word (spelled_value (value.Whole (pos n))) (spelled_tags ns ++ more) (Tags u ∷ ws) (Tags u ∷ ws) s next (tag_step u n ws s each.0)
    ∙ tags_read u ns more ws next each.1
    ∙ ap (λ (xs : List ℕ). goes more (Tags u ∷ ws) (record s { tags = xs })) (append_assoc s.tags (n ∷ []) ns)

tags_closed : (u : TagUse) (words : List Word) (ws : List Wanted) (s : State) → goes (closing ∷ words) (Tags u ∷ ws) s ≡ goes words ws (with_tags u s)
unfolding goes step
tags_closed u words ws s = refl

-- up to their bracket
tags_done : (u : TagUse) (ns : List ℕ) (more : List Word) (ws : List Wanted) (s : State) → list_all is_natural ns ≡ true → goes (spelled_tags ns ++ closing ∷ [] ++ more) (Tags u ∷ ws) s ≡ goes more ws (with_tags u (record s { tags = s.tags ++ ns }))
tags_done u ns more ws s natural =
    ap (λ (x : List Word). goes x (Tags u ∷ ws) s) (append_assoc (spelled_tags ns) (closing ∷ []) more)
    ∙ tags_read u ns (closing ∷ more) ws s natural
    ∙ tags_closed u more ws (record s { tags = s.tags ++ ns })

module _ (words : List Word) (ws : List Wanted) (s : State) where
  remove_begun : goes (opening ∷ spelled_keyword keyword.Remove ∷ words) (Forms ∷ ws) s ≡ goes words (TagOrAll ∷ Forms ∷ ws) (record s { first = 0; tags = [] })
  unfolding goes step
  remove_begun = refl

  wm_begun : goes (opening ∷ spelled_keyword keyword.Wm ∷ words) (Forms ∷ ws) s ≡ goes words (Tags ToShow ∷ Forms ∷ ws) (record s { first = 0; tags = [] })
  unfolding goes step
  wm_begun = refl

pub remove-read : (ns : List ℕ) (more : List Word) (ws : List Wanted) (s : State) → nat_lt 0 (length ns) ≡ true → list_all is_natural ns ≡ true
    → goes (spelled_short keyword.Remove (spelled_tags ns) ++ more) (Forms ∷ ws) s ≡ goes more (Forms ∷ ws) (record s { first = 0; tags = []; commands = s.commands ++ command.Remove ns ∷ [] })
remove-read [] more ws s some natural = absurd (true≢false (sym some))
remove-read (n ∷ ns) more ws s some natural =
    let each = and_parts (is_natural n) (list_all is_natural ns) natural in
    let behind : List Word = spelled_tags ns ++ closing ∷ [] ++ more in
    let begun : State = record s { first = 0; tags = [] } in
    let next : State = record s { first = 0; tags = n ∷ [] } in
    remove_begun (spelled_value (value.Whole (pos n)) ∷ behind) ws s
    ∙ by_word (spelled_value (value.Whole (pos n))) behind (TagOrAll ∷ Forms ∷ ws) (Tags ToRemove ∷ Forms ∷ ws) begun next (first_tag n (Forms ∷ ws) begun each.0)
    ∙ tags_done ToRemove ns more (Forms ∷ ws) next each.1

pub remove_all-read : (more : List Word) (ws : List Wanted) (s : State)
    → goes (spelled_short keyword.Remove (spelled_keyword keyword.Times ∷ []) ++ more) (Forms ∷ ws) s ≡ goes more (Forms ∷ ws) (record s { first = 0; tags = []; commands = s.commands ++ command.RemoveAll ∷ [] })
unfolding goes step
remove_all-read more ws s = refl

pub wm-read : (ns : List ℕ) (more : List Word) (ws : List Wanted) (s : State) → list_all is_natural ns ≡ true
    → goes (spelled_short keyword.Wm (spelled_tags ns) ++ more) (Forms ∷ ws) s ≡ goes more (Forms ∷ ws) (record s { first = 0; tags = []; commands = s.commands ++ command.Wm ns ∷ [] })
wm-read ns more ws s natural = wm_begun (spelled_tags ns ++ closing ∷ [] ++ more) ws s ∙ tags_done ToShow ns more (Forms ∷ ws) (record s { first = 0; tags = [] }) natural

-- ---- commands of names

name_step : (u : NameUse) (n : Sym) (ws : List Wanted) (s : State) → step (spelled_name n) (NamedRules u ∷ ws) s ≡ Next (NamedRules u ∷ ws) (record s { named = s.named ++ n ∷ [] })
unfolding step
name_step u n ws s = refl

first_name : (n : Sym) (ws : List Wanted) (s : State) → step (spelled_name n) (NamedRule ∷ ws) s ≡ Next ws (record s { named = s.named ++ n ∷ [] })
unfolding step
first_name n ws s = refl

names_read : (u : NameUse) (ns : List Sym) (more : List Word) (ws : List Wanted) (s : State) → goes (map spelled_name ns ++ more) (NamedRules u ∷ ws) s ≡ goes more (NamedRules u ∷ ws) (record s { named = s.named ++ ns })
names_read u [] more ws s = ap (λ (xs : List Sym). goes more (NamedRules u ∷ ws) (record s { named = xs })) (sym (append-nil s.named))
names_read u (n ∷ ns) more ws s =
    let next : State = record s { named = s.named ++ n ∷ [] } in
    by_word (spelled_name n) (map spelled_name ns ++ more) (NamedRules u ∷ ws) (NamedRules u ∷ ws) s next (name_step u n ws s)
    ∙ names_read u ns more ws next
    ∙ ap (λ (xs : List Sym). goes more (NamedRules u ∷ ws) (record s { named = xs })) (append_assoc s.named (n ∷ []) ns)

names_closed : (u : NameUse) (words : List Word) (ws : List Wanted) (s : State) → goes (closing ∷ words) (NamedRules u ∷ ws) s ≡ goes words ws (with_named u s)
unfolding goes step
names_closed u words ws s = refl

-- up to their bracket
names_done : (u : NameUse) (ns : List Sym) (more : List Word) (ws : List Wanted) (s : State) → goes (map spelled_name ns ++ closing ∷ [] ++ more) (NamedRules u ∷ ws) s ≡ goes more ws (with_named u (record s { named = s.named ++ ns }))
names_done u ns more ws s =
    ap (λ (x : List Word). goes x (NamedRules u ∷ ws) s) (append_assoc (map spelled_name ns) (closing ∷ []) more)
    ∙ names_read u ns (closing ∷ more) ws s
    ∙ names_closed u more ws (record s { named = s.named ++ ns })

module _ (words : List Word) (ws : List Wanted) (s : State) where
  pm_begun : goes (opening ∷ spelled_keyword keyword.Pm ∷ words) (Forms ∷ ws) s ≡ goes words (NamedRule ∷ NamedRules ToPrint ∷ Forms ∷ ws) (record s { first = 0; named = [] })
  unfolding goes step
  pm_begun = refl

  excise_begun : goes (opening ∷ spelled_keyword keyword.Excise ∷ words) (Forms ∷ ws) s ≡ goes words (NamedRule ∷ NamedRules ToExcise ∷ Forms ∷ ws) (record s { first = 0; named = [] })
  unfolding goes step
  excise_begun = refl

  matches_begun : goes (opening ∷ spelled_keyword keyword.Matches ∷ words) (Forms ∷ ws) s ≡ goes words (NamedRule ∷ NamedRules ToMatch ∷ Forms ∷ ws) (record s { first = 0; named = [] })
  unfolding goes step
  matches_begun = refl

  pbreak_begun : goes (opening ∷ spelled_keyword keyword.Pbreak ∷ words) (Forms ∷ ws) s ≡ goes words (NamedRules ToBreak ∷ Forms ∷ ws) (record s { first = 0; named = [] })
  unfolding goes step
  pbreak_begun = refl

pub pm-read : (ns : List Sym) (more : List Word) (ws : List Wanted) (s : State) → nat_lt 0 (length ns) ≡ true
    → goes (spelled_short keyword.Pm (map spelled_name ns) ++ more) (Forms ∷ ws) s ≡ goes more (Forms ∷ ws) (record s { first = 0; named = []; commands = s.commands ++ command.Pm ns ∷ [] })
pm-read [] more ws s some = absurd (true≢false (sym some))
pm-read (n ∷ ns) more ws s some =
    let behind : List Word = map spelled_name ns ++ closing ∷ [] ++ more in
    let wanted : List Wanted = NamedRules ToPrint ∷ Forms ∷ ws in
    let begun : State = record s { first = 0; named = [] } in
    let next : State = record s { first = 0; named = n ∷ [] } in
    pm_begun (spelled_name n ∷ behind) ws s
    ∙ by_word (spelled_name n) behind (NamedRule ∷ wanted) wanted begun next (first_name n wanted begun)
    ∙ names_done ToPrint ns more (Forms ∷ ws) next

pub excise-read : (ns : List Sym) (more : List Word) (ws : List Wanted) (s : State) → nat_lt 0 (length ns) ≡ true
    → goes (spelled_short keyword.Excise (map spelled_name ns) ++ more) (Forms ∷ ws) s ≡ goes more (Forms ∷ ws) (record s { first = 0; named = []; commands = s.commands ++ command.Excise ns ∷ [] })
excise-read [] more ws s some = absurd (true≢false (sym some))
excise-read (n ∷ ns) more ws s some =
    let behind : List Word = map spelled_name ns ++ closing ∷ [] ++ more in
    let wanted : List Wanted = NamedRules ToExcise ∷ Forms ∷ ws in
    let begun : State = record s { first = 0; named = [] } in
    let next : State = record s { first = 0; named = n ∷ [] } in
    excise_begun (spelled_name n ∷ behind) ws s
    ∙ by_word (spelled_name n) behind (NamedRule ∷ wanted) wanted begun next (first_name n wanted begun)
    ∙ names_done ToExcise ns more (Forms ∷ ws) next

pub matches-read : (ns : List Sym) (more : List Word) (ws : List Wanted) (s : State) → nat_lt 0 (length ns) ≡ true
    → goes (spelled_short keyword.Matches (map spelled_name ns) ++ more) (Forms ∷ ws) s ≡ goes more (Forms ∷ ws) (record s { first = 0; named = []; commands = s.commands ++ command.Matches ns ∷ [] })
matches-read [] more ws s some = absurd (true≢false (sym some))
matches-read (n ∷ ns) more ws s some =
    let behind : List Word = map spelled_name ns ++ closing ∷ [] ++ more in
    let wanted : List Wanted = NamedRules ToMatch ∷ Forms ∷ ws in
    let begun : State = record s { first = 0; named = [] } in
    let next : State = record s { first = 0; named = n ∷ [] } in
    matches_begun (spelled_name n ∷ behind) ws s
    ∙ by_word (spelled_name n) behind (NamedRule ∷ wanted) wanted begun next (first_name n wanted begun)
    ∙ names_done ToMatch ns more (Forms ∷ ws) next

pub pbreak-read : (ns : List Sym) (more : List Word) (ws : List Wanted) (s : State)
    → goes (spelled_short keyword.Pbreak (map spelled_name ns) ++ more) (Forms ∷ ws) s ≡ goes more (Forms ∷ ws) (record s { first = 0; named = []; commands = s.commands ++ command.Pbreak ns ∷ [] })
pbreak-read ns more ws s = pbreak_begun (map spelled_name ns ++ closing ∷ [] ++ more) ws s ∙ names_done ToBreak ns more (Forms ∷ ws) (record s { first = 0; named = [] })

-- ---- commands of one word, with an argument or none

pub run-read : (more : List Word) (ws : List Wanted) (s : State) → goes (spelled_short keyword.Run (spelled_count None) ++ more) (Forms ∷ ws) s ≡ goes more (Forms ∷ ws) (record s { first = 0; commands = s.commands ++ command.Run None ∷ [] })
unfolding goes step
run-read more ws s = refl

pub run_so_often-read : (n : ℕ) (more : List Word) (ws : List Wanted) (s : State) → is_natural n ≡ true
    → goes (spelled_short keyword.Run (spelled_count (Some n)) ++ more) (Forms ∷ ws) s ≡ goes more (Forms ∷ ws) (record s { first = 0; commands = s.commands ++ command.Run (Some n) ∷ [] })
unfolding goes step
run_so_often-read n more ws s is = rw is refl

pub strategy-read : (set : Option Strategy) (more : List Word) (ws : List Wanted) (s : State)
    → goes (spelled_short keyword.Strategy (spelled_strategy set) ++ more) (Forms ∷ ws) s ≡ goes more (Forms ∷ ws) (record s { first = 0; commands = s.commands ++ command.Strategy set ∷ [] })
unfolding goes step
strategy-read None more ws s = refl
strategy-read (Some Lex) more ws s = refl
strategy-read (Some Mea) more ws s = refl

pub watch-read : (more : List Word) (ws : List Wanted) (s : State) → goes (spelled_short keyword.Watch (spelled_count None) ++ more) (Forms ∷ ws) s ≡ goes more (Forms ∷ ws) (record s { first = 0; commands = s.commands ++ command.Watch None ∷ [] })
unfolding goes step
watch-read more ws s = refl

pub watch_at-read : (n : ℕ) (more : List Word) (ws : List Wanted) (s : State) → nat_le n 2 ≡ true
    → goes (spelled_short keyword.Watch (spelled_count (Some n)) ++ more) (Forms ∷ ws) s ≡ goes more (Forms ∷ ws) (record s { first = 0; commands = s.commands ++ command.Watch (Some n) ∷ [] })
unfolding goes step
watch_at-read n more ws s is = rw is refl

pub back-read : (n : ℕ) (more : List Word) (ws : List Wanted) (s : State) → (nat_le 1 n && nat_le n 32) ≡ true
    → goes (spelled_short keyword.Back (spelled_count (Some n)) ++ more) (Forms ∷ ws) s ≡ goes more (Forms ∷ ws) (record s { first = 0; commands = s.commands ++ command.Back n ∷ [] })
unfolding goes step
back-read n more ws s is = rw is refl

pub all_shown-read : (classes : List Class) (more : List Word) (ws : List Wanted) (s : State)
    → goes (spelled_short keyword.Ppwm (spelled_shown classes None) ++ more) (Forms ∷ ws) s ≡ goes more (Forms ∷ ws) (record s { first = 0; commands = s.commands ++ command.Ppwm None ∷ [] })
unfolding goes step
all_shown-read classes more ws s = refl

pub cs-read : (more : List Word) (ws : List Wanted) (s : State) → goes (spelled_short keyword.Cs [] ++ more) (Forms ∷ ws) s ≡ goes more (Forms ∷ ws) (record s { first = 0; commands = s.commands ++ command.Cs ∷ [] })
unfolding goes step
cs-read more ws s = refl

pub exit-read : (more : List Word) (ws : List Wanted) (s : State) → goes (spelled_short keyword.Exit [] ++ more) (Forms ∷ ws) s ≡ goes more (Forms ∷ ws) (record s { first = 0; commands = s.commands ++ command.Exit ∷ [] })
unfolding goes step
exit-read more ws s = refl
