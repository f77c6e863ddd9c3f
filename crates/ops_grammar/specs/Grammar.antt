-- The grammar of program texts, as what a word does where something is wanted.
use Rattle.std.specs.Prelude.{ℕ, suc, ◌+◌, ◌-◌, List, [], ◌∷◌, ◌++◌, length, take, map, filter, position, Bool, true, false, not, ◌==◌, ◌&&◌, ◌||◌, nat_lt, nat_le, if◌then◌else◌, Option, Some, None, is_some, Result, Ok, Err, ℤ, pos, negsuc, slice_get, unwrap_or}
use Rattle.std.specs.List.{list_any, list_all, flat_map}
use Rattle.ops_base.specs.declared.values.Sym.{Sym}
use Rattle.ops_base.specs.declared.values.Value.{Value}
use Rattle.ops_base.specs.declared.values.Value.TheVariants as value
use Rattle.ops_base.specs.declared.values.Pred.{Pred}
use Rattle.ops_base.specs.declared.values.Pred.TheVariants as pred
use Rattle.ops_base.specs.declared.elements.Class.{Class}
use Rattle.ops_base.specs.declared.conditions.Operand.{Operand}
use Rattle.ops_base.specs.declared.conditions.Operand.TheVariants as operand
use Rattle.ops_base.specs.declared.conditions.Test.{Test}
use Rattle.ops_base.specs.declared.conditions.Condition.{Condition}
use Rattle.ops_base.specs.declared.conditions.Part.{Part}
use Rattle.ops_base.specs.declared.conditions.Part.TheVariants as part
use Rattle.ops_base.specs.declared.expression.Op.{Op}
use Rattle.ops_base.specs.declared.expression.Op.TheVariants as op
use Rattle.ops_base.specs.declared.actions.Term.{Term}
use Rattle.ops_base.specs.declared.actions.Term.TheVariants as term
use Rattle.ops_base.specs.declared.actions.Put.{Put}
use Rattle.ops_base.specs.declared.actions.Item.{Item}
use Rattle.ops_base.specs.declared.actions.Item.TheVariants as item
use Rattle.ops_base.specs.declared.actions.Hole.{Hole}
use Rattle.ops_base.specs.declared.actions.Action.{Action}
use Rattle.ops_base.specs.declared.actions.Action.TheVariants as action
use Rattle.ops_base.specs.declared.rules.Rule.{Rule}
use Rattle.ops_base.specs.declared.commands.Fixed.{Fixed}
use Rattle.ops_base.specs.declared.commands.Command.{Command}
use Rattle.ops_base.specs.declared.commands.Command.TheVariants as command
use Rattle.ops_base.specs.declared.commands.Strategy.{Strategy}
use Rattle.ops_base.specs.declared.commands.Strategy.TheVariants.{Lex, Mea}
use Rattle.ops_base.specs.declared.endings.Fault.{Fault}
use Rattle.ops_base.specs.declared.endings.Fault.TheVariants as fault
use Rattle.ops_base.specs.declared.endings.Limit.TheVariants as limit
use Rattle.ops_base.specs.Expression.{Formula}
use Rattle.ops_base.specs.Expression as formula
use Rattle.ops_base.specs.Valid.{most_fields, most_conditions, class_of, is_vector, is_column, is_natural, specificity, cells_of, elements_of}
use Rattle.ops_tokens.specs.declared.token.TokenKind.{TokenKind}
use Rattle.ops_tokens.specs.declared.token.TokenKind.TheVariants as kind
use Rattle.ops_grammar.specs.declared.words.Word.{Word}
use Rattle.ops_grammar.specs.declared.words.Named.{Named}
use Rattle.ops_grammar.specs.declared.words.Keyword.{Keyword}
use Rattle.ops_grammar.specs.declared.words.Keyword.TheVariants as keyword

-- where attributes with values stand: in a pattern, in an action `make`, in a command `make`
pub data Use : Type 0 where
  InPattern : Use
  InPut : Use
  InFixed : Use

-- where a value goes: into a test, to a scalar attribute of an action or of a command, among the values of the vector
-- attribute of an action or of a command, to `write`, or to `bind`
pub data Target : Type 0 where
  ToTest : (field : ℕ) → (p : Pred) → Target
  ToPut : (field : ℕ) → Target
  ToFixed : (field : ℕ) → Target
  ToTerms : Target
  ToConstants : Target
  ToItem : Target
  ToBind : Target

-- what a closing bracket ends: an action, an item or a command that has nothing in it, or something that is done already
pub data Ends : Type 0 where
  EndsHalt : Ends
  EndsCrlf : Ends
  EndsCs : Ends
  EndsExit : Ends
  EndsWhole : Ends

-- what a number of columns is for
pub data Column : Type 0 where
  ToTab : Column
  ToRight : Column

-- what the tags of a command are for: its elements are removed, or shown
pub data TagUse : Type 0 where
  ToRemove : TagUse
  ToShow : TagUse

-- what the names of a command are for: its productions are printed, get a break or lose it, or are taken out
pub data NameUse : Type 0 where
  ToPrint : NameUse
  ToBreak : NameUse
  ToExcise : NameUse
  ToMatch : NameUse

-- an operand of `compute` and the operation after it, which wait for what stands after them
pub record Waiting : Type 0 where
  pub left : Formula
  pub op : Op

-- what the grammar wants next, one a line of the grammar
pub data Wanted : Type 0 where
  -- form*
  Forms : Wanted
  -- literalize NAME NAME* ) | vector-attribute NAME NAME* ) | p NAME first condition* --> action* ) | make CLASS fixed* )
  -- | remove NAT NAT* ) | remove * ) | run [NAT] ) | wm NAT* ) | ppwm ) | ppwm CLASS fixed* ) | cs ) | pm NAME NAME* )
  -- | strategy ) | strategy lex ) | strategy mea ) | watch ) | watch 0 ) | watch 1 ) | watch 2 ) | pbreak NAME* )
  -- | excise NAME NAME* ) | matches NAME NAME* ) | back [UNDONE] ) | exit )
  Form : Wanted
  -- NAME
  ClassDeclared : Wanted
  -- NAME* )
  Attributes : Wanted
  -- NAME
  VectorName : Wanted
  -- NAME* )
  VectorNames : Wanted
  -- NAME
  RuleName : Wanted
  -- positive
  FirstPattern : Wanted
  -- condition* -->
  Patterns : Wanted
  -- ( CLASS term* )
  Pattern : Wanted
  -- { pattern pattern pattern* }
  GroupBrace : Wanted
  -- pattern* }, after this many members of the group, which has two or more
  Members : (count : ℕ) → Wanted
  -- VARIABLE pattern } | pattern VARIABLE }
  Braced : Wanted
  -- VARIABLE
  ElementName : Wanted
  -- }
  ClosesBrace : Wanted
  -- CLASS
  ClassName : Wanted
  -- term* ), put* ) or fixed* )
  Terms : (use_of : Use) → Wanted
  -- ATTR place* term* ), ATTR value* put* ) or ATTR value* fixed* )
  Attribute : (use_of : Use) → Wanted
  -- place* term* ) after the vector attribute, of which the next place is that field; or value* put* ) or value* fixed* ) after
  -- that attribute
  Several : (use_of : Use) → (field : ℕ) → Wanted
  -- test | { test* }
  Place : (field : ℕ) → Wanted
  -- test* }
  Tests : (field : ℕ) → Wanted
  -- constant | VARIABLE
  Tested : (field : ℕ) → (p : Pred) → Wanted
  -- atom* >>
  Choice : (field : ℕ) → Wanted
  -- atom
  Atom : (target : Target) → Wanted
  -- rconstant | VARIABLE | ( compute expr ) | ( genatom ) | ( accept ) | ( substr VARIABLE ATTR ATTR ) | ( substr
  -- VARIABLE ATTR inf )
  ValueFor : (target : Target) → Wanted
  -- compute expr ) | genatom ) | accept ) | substr VARIABLE ATTR ATTR ) | substr VARIABLE ATTR inf )
  Function : (target : Target) → Wanted
  -- unit, where this many brackets are open
  ExpressionUnit : (depth : ℕ) → Wanted
  -- OP expr ) | ), after a unit and what waits for the rest; the value of a `compute` goes to its target
  ExpressionRest : (depth : ℕ) → (waiting : List Waiting) → (into : Option Target) → Wanted
  -- expr ) | compute expr )
  Bracketed : (depth : ℕ) → Wanted
  -- VARIABLE
  SourceCell : Wanted
  -- ATTR ATTR ) | ATTR inf )
  SourceAttribute : (target : Target) → Wanted
  -- ATTR | inf, after this name
  SourceEnd : (target : Target) → (name : Sym) → Wanted
  -- action* ), of a production that is built or of one of the text
  Actions : (built : Bool) → Wanted
  -- make CLASS put* ) | modify DESIGNATOR put* ) | remove DESIGNATOR DESIGNATOR* ) | write item* ) | bind VARIABLE [value] )
  -- | cbind VARIABLE ) | halt ), and in a production of the text
  -- | build NAME first condition* --> action* )
  ActionWord : (built : Bool) → Wanted
  -- NAME, of a production that is built
  BuiltName : Wanted
  -- DESIGNATOR, before put*
  Modified : Wanted
  -- VARIABLE, before a value or none
  BoundName : Wanted
  -- value ) | )
  BoundValue : Wanted
  -- VARIABLE
  CellName : Wanted
  -- DESIGNATOR
  Cell : Wanted
  -- DESIGNATOR* )
  Cells : Wanted
  -- item* )
  Items : Wanted
  -- crlf ) | tabto SMALL ) | rjust SMALL ) | compute expr ) | genatom ) | accept ) | substr VARIABLE ATTR ATTR )
  -- | substr VARIABLE ATTR inf )
  ItemWord : Wanted
  -- SMALL
  Columns : (what : Column) → Wanted
  -- NAT ) | )
  Count : Wanted
  -- lex ) | mea ) | )
  StrategyName : Wanted
  -- NAT NAT* ) | * )
  TagOrAll : Wanted
  -- NAT* )
  Tags : (use_of : TagUse) → Wanted
  -- CLASS fixed* ) | )
  Shown : Wanted
  -- NAME
  NamedRule : Wanted
  -- NAME* )
  NamedRules : (use_of : NameUse) → Wanted
  -- 0 ) | 1 ) | 2 ) | )
  Level : Wanted
  -- UNDONE ) | )
  Undone : Wanted
  -- )
  Closes : (what : Ends) → Wanted

-- What is kept of a production while one that it builds is read.
pub record Outer : Type 0 where
  pub name : Sym
  pub first : ℕ
  pub values : List Named
  pub elements : List Named
  pub variables : ℕ
  pub conditions : List Part
  pub actions : List Action
  pub made : Option ℕ
  pub further : List ℕ

-- What was read so far.
pub record State : Type 0 where
  pub classes : List Class
  pub rules : List Rule
  -- the productions that actions build
  pub templates : List Rule
  pub commands : List Command
  -- the names of vector attributes
  pub vectors : List Sym
  -- of the form that is being read
  pub name : Sym
  pub first : ℕ
  pub attrs : List Sym
  pub class : ℕ
  pub tests : List Test
  pub choice : List Value
  -- the values of a vector attribute of an action, and those of one of a command
  pub terms : List Term
  pub constants : List Value
  pub puts : List Put
  pub fixed : List Fixed
  pub cells : List ℕ
  pub items : List Item
  -- the variables in sight with their numbers, the element variables with their cells, and the one of the condition
  -- that is read
  pub values : List Named
  pub elements : List Named
  pub element : Sym
  -- how many variables were given a number, whether the condition is negated, and how many variables are in sight around it
  pub variables : ℕ
  pub negated : Bool
  pub around : ℕ
  -- whether a group is read, and its members
  pub grouped : Bool
  pub members : List Condition
  pub conditions : List Part
  pub actions : List Action
  -- the first byte of the action that is read; the cell that a `modify` names, none in a `make`; the class of the element that this right side made last; the
  -- classes of the cells that its `cbind` named; the variable of a `bind`; the cell and the field of a `substr`; and
  -- the operand of a `compute` that was read last
  pub begun : ℕ
  pub modified : Option ℕ
  pub made : Option ℕ
  pub further : List ℕ
  pub variable : Sym
  pub source : ℕ
  pub source_field : ℕ
  pub formula : Formula
  -- of a production, how many constants of it were read; the holes of one that is built, and the production around it
  pub counted : ℕ
  pub holes : List Hole
  pub outer : Option Outer
  -- of a command: whether it shows the elements that its constants fit, in place of making one; its tags; and its names
  pub shows : Bool
  pub tags : List ℕ
  pub named : List Sym

-- what a word does: something else is wanted now, or the word is refused
pub data Step : Type 0 where
  Next : (ws : List Wanted) → (s : State) → Step
  Refuses : (f : Fault) → Step

-- ---- words

abbrev pub is_left : TokenKind → Bool
is_left kind.Left = true
is_left _ = false

abbrev pub is_right : TokenKind → Bool
is_right kind.Right = true
is_right _ = false

abbrev pub is_left_brace : TokenKind → Bool
is_left_brace kind.LeftBrace = true
is_left_brace _ = false

abbrev pub is_right_brace : TokenKind → Bool
is_right_brace kind.RightBrace = true
is_right_brace _ = false

abbrev pub is_caret : TokenKind → Bool
is_caret kind.Caret = true
is_caret _ = false

abbrev pub is_name : TokenKind → Bool
is_name kind.Symbol = true
is_name kind.Quoted = true
is_name _ = false

abbrev pub is_variable : TokenKind → Bool
is_variable kind.Variable = true
is_variable _ = false

abbrev pub is_arrow : Keyword → Bool
is_arrow keyword.Arrow = true
is_arrow _ = false

-- // before an atom
abbrev pub is_literal : Keyword → Bool
is_literal keyword.Literal = true
is_literal _ = false

-- - before a pattern
abbrev pub is_minus : Keyword → Bool
is_minus keyword.Minus = true
is_minus _ = false

-- - before { and a group
abbrev pub begins_group : Keyword → Bool
begins_group keyword.GroupMinus = true
begins_group _ = false

-- << before constants
abbrev pub opens_choice : Keyword → Bool
opens_choice keyword.OpenChoice = true
opens_choice _ = false

-- >> after them
abbrev pub closes_choice : Keyword → Bool
closes_choice keyword.CloseChoice = true
closes_choice _ = false

-- inf, after the vector attribute
abbrev pub is_inf : Keyword → Bool
is_inf keyword.Inf = true
is_inf _ = false

-- compute, after a bracket
abbrev pub is_compute : Keyword → Bool
is_compute keyword.Compute = true
is_compute _ = false

abbrev pub operation_of : Keyword → Option Op
operation_of keyword.Plus = Some op.Add
operation_of keyword.Minus = Some op.Sub
operation_of keyword.GroupMinus = Some op.Sub
operation_of keyword.Times = Some op.Mul
operation_of keyword.Literal = Some op.Div
operation_of keyword.Remainder = Some op.Rem
operation_of _ = None

abbrev pub pred_of : Keyword → Option Pred
pred_of keyword.Equal = Some pred.Eq
pred_of keyword.NotEqual = Some pred.Ne
pred_of keyword.Less = Some pred.Lt
pred_of keyword.AtMost = Some pred.Le
pred_of keyword.Greater = Some pred.Gt
pred_of keyword.AtLeast = Some pred.Ge
pred_of keyword.SameKind = Some pred.SameKind
pred_of _ = None

-- the constant that a name or a whole number is
abbrev pub constant_of : TokenKind → Sym → Option Value
constant_of (kind.Whole n) name = Some (value.Whole n)
constant_of kind.Symbol name = Some (value.Symbol name)
constant_of kind.Quoted name = Some (value.Symbol name)
constant_of _ name = None

-- the constant that an atom is, whatever it spells
abbrev pub atom_of : TokenKind → Sym → Option Value
atom_of (kind.Whole n) name = Some (value.Whole n)
atom_of kind.Symbol name = Some (value.Symbol name)
atom_of kind.Quoted name = Some (value.Symbol name)
atom_of kind.Operator name = Some (value.Symbol name)
atom_of kind.Variable name = Some (value.Symbol name)
atom_of _ name = None

-- the constant that a value is: an atom, but a variable and //
abbrev pub value_of : TokenKind → Sym → Option Value
value_of (kind.Whole n) name = Some (value.Whole n)
value_of kind.Symbol name = Some (value.Symbol name)
value_of kind.Quoted name = Some (value.Symbol name)
value_of kind.Operator name = Some (value.Symbol name)
value_of _ name = None

-- the number that a whole number from 1 on is
abbrev pub natural_of : ℤ → Option ℕ
natural_of (pos n) = if n == 0 then None else Some n
natural_of (negsuc n) = None

-- the number that a whole number from 1 to 1,024 is
abbrev pub small_of : TokenKind → Option ℕ
small_of (kind.Whole (pos n)) = if is_column n then Some n else None
small_of _ = None

abbrev pub is_one_of : Sym → List Sym → Bool
is_one_of name names = list_any (λ n. n.0 == name.0) names

-- the number of a variable of that name
abbrev pub number_of : Sym → List Named → Option ℕ
number_of name [] = None
number_of name (n ∷ ns) = if n.name.0 == name.0 then Some n.number else number_of name ns

-- the name has this number from here on
abbrev pub renumbered : Sym → ℕ → List Named → List Named
renumbered name number [] = record { name = name; number = number } ∷ []
renumbered name number (n ∷ ns) = if n.name.0 == name.0 then record n { number = number } ∷ ns else n ∷ renumbered name number ns

-- ---- declarations

-- a class may be declared after this command
abbrev pub precedes_classes : Command → Bool
precedes_classes (command.Make class puts) = false
precedes_classes (command.Run count) = false
precedes_classes (command.Ppwm pattern) = false
precedes_classes (command.Add r) = false
precedes_classes (command.Remove tags) = true
precedes_classes command.RemoveAll = true
precedes_classes (command.Wm tags) = true
precedes_classes command.Cs = true
precedes_classes (command.Pm names) = true
precedes_classes (command.Strategy set) = true
precedes_classes (command.Watch set) = true
precedes_classes (command.Pbreak names) = true
precedes_classes (command.Excise names) = true
precedes_classes (command.Back count) = true
precedes_classes (command.Matches names) = true
precedes_classes command.Exit = true

-- a production that stands after this command may be one of the beginning
abbrev pub precedes_rules : Command → Bool
precedes_rules (command.Make class puts) = false
precedes_rules (command.Run count) = false
precedes_rules (command.Remove tags) = true
precedes_rules command.RemoveAll = true
precedes_rules (command.Wm tags) = true
precedes_rules (command.Ppwm pattern) = true
precedes_rules command.Cs = true
precedes_rules (command.Pm names) = true
precedes_rules (command.Strategy set) = true
precedes_rules (command.Watch set) = true
precedes_rules (command.Pbreak names) = true
precedes_rules (command.Add r) = false
precedes_rules (command.Excise names) = true
precedes_rules (command.Back count) = true
precedes_rules (command.Matches names) = true
precedes_rules command.Exit = true

-- no production was read, and no command after which a declaration is late
abbrev pub may_declare : State → Bool
may_declare s = (length s.rules == 0) && list_all precedes_classes s.commands

-- no `make` and no `run` was read: a production that stands here is one of the beginning
abbrev pub is_beginning : State → Bool
is_beginning s = list_all precedes_rules s.commands

abbrev pub is_class : State → Sym → Bool
is_class s name = list_any (λ c. c.name.0 == name.0) s.classes

-- the production that a command adds, if it adds one
abbrev pub added : Command → List Rule
added (command.Add r) = r ∷ []
added _ = []

-- the productions that commands add, in order
abbrev pub added_by : List Command → List Rule
added_by commands = flat_map added commands

-- one of the productions has that name
abbrev pub has_title : Sym → List Rule → Bool
has_title name rules = list_any (λ r. r.name.0 == name.0) rules

-- a production of that name was read, whether it stands at the beginning or is added
abbrev pub is_rule : State → Sym → Bool
is_rule s name = has_title name s.rules || has_title name (added_by s.commands)

abbrev pub form : Word → Keyword → List Wanted → State → Step
form w keyword.Literalize ws s =
    if may_declare s then Next (ClassDeclared ∷ Attributes ∷ ws) s else Refuses fault.LateDeclaration
form w keyword.VectorAttribute ws s = if may_declare s then Next (VectorName ∷ VectorNames ∷ ws) s else Refuses fault.LateDeclaration
form w keyword.Production ws s = Next (RuleName ∷ FirstPattern ∷ Patterns ∷ Actions false ∷ ws) s
form w keyword.Make ws s = Next (ClassName ∷ Terms InFixed ∷ ws) (record s { fixed = []; shows = false })
form w keyword.Remove ws s = Next (TagOrAll ∷ ws) (record s { tags = [] })
form w keyword.Run ws s = Next (Count ∷ ws) s
form w keyword.Wm ws s = Next (Tags ToShow ∷ ws) (record s { tags = [] })
form w keyword.Ppwm ws s = Next (Shown ∷ ws) s
form w keyword.Cs ws s = Next (Closes EndsCs ∷ ws) s
form w keyword.Pm ws s = Next (NamedRule ∷ NamedRules ToPrint ∷ ws) (record s { named = [] })
form w keyword.Strategy ws s = Next (StrategyName ∷ ws) s
form w keyword.Watch ws s = Next (Level ∷ ws) s
form w keyword.Pbreak ws s = Next (NamedRules ToBreak ∷ ws) (record s { named = [] })
form w keyword.Excise ws s = Next (NamedRule ∷ NamedRules ToExcise ∷ ws) (record s { named = [] })
form w keyword.Matches ws s = Next (NamedRule ∷ NamedRules ToMatch ∷ ws) (record s { named = [] })
form w keyword.Back ws s = Next (Undone ∷ ws) s
form w keyword.Exit ws s = Next (Closes EndsExit ∷ ws) s
form w _ ws s = Refuses fault.UnknownCommand

abbrev pub class_declared : Word → List Wanted → State → Step
class_declared w ws s =
    if is_name w.kind then (if is_class s w.name then Refuses fault.DeclaredTwice else Next ws (record s { name = w.name; attrs = [] }))
    else Refuses fault.BadForm

-- the attributes of a class, those of these names after the others
abbrev pub arranged : List Sym → List Sym → List Sym
arranged vectors attrs = filter (λ a. not (is_one_of a vectors)) attrs ++ filter (λ a. is_one_of a vectors) attrs

-- one of the attributes has one of these names
abbrev pub has_vector : List Sym → List Sym → Bool
has_vector vectors attrs = list_any (λ a. is_one_of a vectors) attrs

-- a class ends; its vector attribute stands last
abbrev pub with_class : State → State
with_class s =
    record s {
      classes = s.classes ++ record { name = s.name; attrs = arranged s.vectors s.attrs; vector = has_vector s.vectors s.attrs } ∷ [];
      attrs = [];
    }

-- the class that is read would have a second vector attribute by this name
abbrev pub is_second : Sym → State → Bool
is_second name s = is_one_of name s.vectors && has_vector s.vectors s.attrs

abbrev pub attribute_declared : Word → List Wanted → State → Step
attribute_declared w ws s =
    if is_one_of w.name s.attrs then Refuses fault.DeclaredTwice
    else if is_second w.name s then Refuses fault.TwoVectors
    else if nat_lt (length s.attrs) most_fields then Next (Attributes ∷ ws) (record s { attrs = s.attrs ++ w.name ∷ [] })
    else Refuses (fault.LimitPassed limit.Fields)

abbrev pub attributes : Word → List Wanted → State → Step
attributes w ws s =
    if is_right w.kind then Next ws (with_class s)
    else if is_name w.kind then attribute_declared w ws s
    else Refuses fault.BadForm

-- a class that has an attribute of this name has it as its vector attribute
abbrev pub with_vector_last : Sym → Class → Class
with_vector_last name c =
    if is_one_of name c.attrs then record c { attrs = arranged (name ∷ []) c.attrs; vector = true } else c

-- a name becomes one of a vector attribute
abbrev pub with_vector : State → Sym → State
with_vector s name = record s { vectors = s.vectors ++ name ∷ []; classes = map (with_vector_last name) s.classes }

-- a class would get a second vector attribute by this name
abbrev pub makes_second : Sym → List Class → Bool
makes_second name classes = list_any (λ c. c.vector && is_one_of name c.attrs) classes

-- A name that is one of a vector attribute already says nothing new, nor does one that no class has.
abbrev pub vector_declared : Word → List Wanted → State → Step
vector_declared w ws s =
    if is_one_of w.name s.vectors then Next ws s
    else if makes_second w.name s.classes then Refuses fault.TwoVectors
    else Next ws (with_vector s w.name)

abbrev pub vector_name : Word → List Wanted → State → Step
vector_name w ws s = if is_name w.kind then vector_declared w ws s else Refuses fault.BadForm

abbrev pub vector_names : Word → List Wanted → State → Step
vector_names w ws s = if is_right w.kind then Next ws s else vector_name w (VectorNames ∷ ws) s

-- ---- elements: a class with attributes and values

abbrev pub class_at : Option ℕ → List Wanted → State → Step
class_at (Some c) ws s = Next ws (record s { class = c })
class_at None ws s = Refuses fault.UnknownClass

abbrev pub class_name : Word → List Wanted → State → Step
class_name w ws s =
    if is_name w.kind then class_at (position (λ c. c.name.0 == w.name.0) s.classes) ws s else Refuses fault.BadForm

-- the attributes of a class
abbrev pub attributes_of : Option Class → List Sym
attributes_of (Some c) = c.attrs
attributes_of None = []

-- what stands after the name of a scalar attribute
abbrev pub behind_attribute : Use → ℕ → Wanted
behind_attribute InPattern f = Place f
behind_attribute InPut f = ValueFor (ToPut f)
behind_attribute InFixed f = ValueFor (ToFixed f)

-- After a scalar attribute stands one place or value, and after the vector attribute stand as many as come.
abbrev pub field_at : Use → Option ℕ → List Wanted → State → Step
field_at u (Some f) ws s =
    if is_vector (class_of s.classes s.class) f then Next (Several u f ∷ ws) (record s { terms = []; constants = [] })
    else Next (behind_attribute u f ∷ Terms u ∷ ws) s
field_at u None ws s = Refuses fault.UnknownAttribute

abbrev pub attribute : Use → Word → List Wanted → State → Step
attribute u w ws s =
    if is_name w.kind then field_at u (position (λ a. a.0 == w.name.0) (attributes_of (slice_get s.classes s.class))) ws s
    else Refuses fault.BadForm

abbrev pub with_test : State → ℕ → Pred → Operand → Bool → State
with_test s f p o binds = record s { tests = s.tests ++ record { field = f; pred = p; operand = o; binds = binds } ∷ [] }

abbrev pub with_put : State → ℕ → Term → State
with_put s f t = record s { puts = s.puts ++ record { field = f; terms = t ∷ [] } ∷ [] }

abbrev pub with_fixed : State → ℕ → Value → State
with_fixed s f v = record s { fixed = s.fixed ++ record { field = f; values = v ∷ [] } ∷ [] }

abbrev pub with_item : State → Item → State
with_item s i = record s { items = s.items ++ i ∷ [] }

abbrev pub with_action : State → Action → State
with_action s a = record s { actions = s.actions ++ a ∷ [] }

-- A variable that is in sight keeps its number when it is bound again; another gets the next one, and is in sight from here on.
abbrev pub with_bind : Option ℕ → State → Term → State
with_bind (Some n) s t = with_action s (action.Bind n t)
with_bind None s t =
    record (with_action s (action.Bind s.variables t)) {
      values = s.values ++ record { name = s.variable; number = s.variables } ∷ [];
      variables = s.variables + 1;
    }

-- one more constant of a production
abbrev pub counting : State → State
counting s = record s { counted = suc s.counted }

abbrev pub with_constant : Target → State → Value → State
with_constant (ToTest f p) s v = counting (with_test s f p (operand.Constant v) false)
with_constant (ToPut f) s v = counting (with_put s f (term.Constant v))
with_constant (ToFixed f) s v = with_fixed s f v
with_constant ToTerms s v = counting (record s { terms = s.terms ++ term.Constant v ∷ [] })
with_constant ToConstants s v = record s { constants = s.constants ++ v ∷ [] }
with_constant ToItem s v = counting (with_item s (item.Print (term.Constant v)))
with_constant ToBind s v = counting (with_bind (number_of s.variable s.values) s (term.Constant v))

-- ---- holes

-- the variables in sight around the production that is read
abbrev pub values_around : Option Outer → List Named
values_around None = []
values_around (Some o) = o.values

-- the next constant is a hole for this variable of the production around
abbrev pub with_hole : State → ℕ → State
with_hole s n = record s { holes = s.holes ++ record { number = s.counted; variable = n } ∷ [] }

abbrev pub filled : Option ℕ → (State → Step) → State → Step
filled (Some n) next s = next (with_hole s n)
filled None next s = Refuses fault.UnboundVariable

-- the variable of a hole
abbrev pub hole_of : Keyword → Option Sym
hole_of (keyword.Hole variable at) = Some variable
hole_of _ = None

-- what a constant does, which may be a hole: its variable must be bound in the production around
abbrev pub constant_by : Keyword → (State → Step) → State → Step
constant_by (keyword.Hole variable at) next s = filled (number_of variable (values_around s.outer)) next s
constant_by _ next s = next s

-- ---- tests

-- the first place of a variable
abbrev pub with_bound : State → ℕ → Sym → State
with_bound s f name =
    with_test (record s { values = s.values ++ record { name = name; number = s.variables } ∷ []; variables = s.variables + 1 }) f pred.Eq (operand.Variable s.variables) true

-- The first place of a variable binds it, by an equality.
abbrev pub variable_tested : ℕ → Pred → Option ℕ → Sym → List Wanted → State → Step
variable_tested f p (Some n) name ws s = Next ws (with_test s f p (operand.Variable n) false)
variable_tested f pred.Eq None name ws s = Next ws (with_bound s f name)
variable_tested f p None name ws s = Refuses fault.UnboundVariable

abbrev pub constant_tested : ℕ → Pred → Word → Option Value → List Wanted → State → Step
constant_tested f p w (Some v) ws s = constant_by w.keyword (λ t. Next ws (with_constant (ToTest f p) t v)) s
constant_tested f p w None ws s =
    if is_variable w.kind then variable_tested f p (number_of w.name s.values) w.name ws s else Refuses fault.BadForm

-- an operand after a predicate, or where none is written
abbrev pub tested : ℕ → Pred → Word → List Wanted → State → Step
tested f p w ws s =
    if is_literal w.keyword then Next (Atom (ToTest f p) ∷ ws) s else constant_tested f p w (constant_of w.kind w.name) ws s

abbrev pub predicated : ℕ → Word → Option Pred → List Wanted → State → Step
predicated f w (Some p) ws s = Next (Tested f p ∷ ws) s
predicated f w None ws s = tested f pred.Eq w ws s

abbrev pub test : ℕ → Word → List Wanted → State → Step
test f w ws s =
    if opens_choice w.keyword then Next (Choice f ∷ ws) (record s { choice = [] }) else predicated f w (pred_of w.keyword) ws s

abbrev pub place : ℕ → Word → List Wanted → State → Step
place f w ws s = if is_left_brace w.kind then Next (Tests f ∷ ws) s else test f w ws s

abbrev pub tests : ℕ → Word → List Wanted → State → Step
tests f w ws s = if is_right_brace w.kind then Next ws s else test f w (Tests f ∷ ws) s

-- a disjunction ends
abbrev pub with_choice : State → ℕ → State
with_choice s f = record (with_test s f pred.Eq (operand.OneOf s.choice) false) { choice = [] }

-- one more constant of it
abbrev pub with_choice_of : State → Value → State
with_choice_of s v = counting (record s { choice = s.choice ++ v ∷ [] })

abbrev pub chosen : Keyword → Option Value → List Wanted → State → Step
chosen k (Some v) ws s = constant_by k (λ t. Next ws (with_choice_of t v)) s
chosen k None ws s = Refuses fault.BadForm

abbrev pub choice : ℕ → Word → List Wanted → State → Step
choice f w ws s = if closes_choice w.keyword then Next ws (with_choice s f) else chosen w.keyword (atom_of w.kind w.name) (Choice f ∷ ws) s

abbrev pub atom_at : Target → Keyword → Option Value → List Wanted → State → Step
atom_at t k (Some v) ws s = constant_by k (λ r. Next ws (with_constant t r v)) s
atom_at t k None ws s = Refuses fault.BadForm

-- ---- values

-- a variable of a right side, which a condition or a `bind` before it must bind
abbrev pub term_at : Target → Term → List Wanted → State → Step
term_at (ToPut f) t ws s = Next ws (with_put s f t)
term_at ToTerms t ws s = Next ws (record s { terms = s.terms ++ t ∷ [] })
term_at ToItem t ws s = Next ws (with_item s (item.Print t))
term_at ToBind t ws s = Next ws (with_bind (number_of s.variable s.values) s t)
term_at _ t ws s = Refuses fault.UnboundVariable

abbrev pub bound_at : Target → Option ℕ → List Wanted → State → Step
bound_at t (Some n) ws s = term_at t (term.Variable n) ws s
bound_at t None ws s = Refuses fault.UnboundVariable

abbrev pub constant_at : Target → Word → Option Value → List Wanted → State → Step
constant_at t w (Some v) ws s = constant_by w.keyword (λ r. Next ws (with_constant t r v)) s
constant_at t w None ws s =
    if is_variable w.kind then bound_at t (number_of w.name s.values) ws s else Refuses fault.BadForm

-- a value of an action
abbrev pub is_of_action : Target → Bool
is_of_action (ToPut f) = true
is_of_action ToTerms = true
is_of_action ToItem = true
is_of_action ToBind = true
is_of_action _ = false

-- A variable in a command is bound nowhere, and no function stands there.
abbrev pub value_for : Target → Word → List Wanted → State → Step
value_for t w ws s =
    if is_literal w.keyword then Next (Atom t ∷ ws) s
    else if is_left w.kind && is_of_action t then Next (Function t ∷ ws) s
    else constant_at t w (value_of w.kind w.name) ws s

-- ---- compute

-- how many brackets may be open at once
abbrev pub most_brackets : ℕ
most_brackets = 32

-- how many are open in a function: those of the production, of the action and its own, and of the production around
abbrev pub function_depth : Bool → ℕ
function_depth false = 3
function_depth true = 4

-- a production that is built is read
abbrev pub is_built : State → Bool
is_built s = is_some s.outer

-- the operand where none is read
abbrev pub no_formula : Formula
no_formula = formula.number (pos 0)

abbrev pub with_formula : State → Formula → State
with_formula s f = record s { formula = f }

-- What waits gets its right operand, the last one first: there is no precedence.
abbrev pub completed : Formula → List Waiting → Formula
completed f [] = f
completed f (w ∷ waiting) = completed (formula.apply w.op w.left f) waiting

abbrev pub unit_bound : Option ℕ → List Wanted → State → Step
unit_bound (Some n) ws s = Next ws (with_formula s (formula.variable n))
unit_bound None ws s = Refuses fault.UnboundVariable

-- WHOLE | VARIABLE
abbrev pub unit_at : TokenKind → Sym → List Wanted → State → Step
unit_at (kind.Whole n) name ws s = Next ws (with_formula s (formula.number n))
unit_at kind.Variable name ws s = unit_bound (number_of name s.values) ws s
unit_at _ name ws s = Refuses fault.BadForm

abbrev pub bracket_at : ℕ → List Wanted → State → Step
bracket_at depth ws s =
    if nat_lt depth most_brackets then Next (Bracketed (suc depth) ∷ ws) s else Refuses (fault.LimitPassed limit.Nesting)

abbrev pub expression_unit : ℕ → Word → List Wanted → State → Step
expression_unit depth w ws s = if is_left w.kind then bracket_at depth ws s else unit_at w.kind w.name ws s

-- expr ) | compute expr )
abbrev pub bracketed : ℕ → Word → List Wanted → State → Step
bracketed depth w ws s =
    if is_compute w.keyword then Next (ExpressionUnit depth ∷ ExpressionRest depth [] None ∷ ws) s
    else expression_unit depth w (ExpressionRest depth [] None ∷ ws) s

-- the operation waits, with the unit before it
abbrev pub operation_at : ℕ → List Waiting → Option Target → Option Op → List Wanted → State → Step
operation_at depth waiting into (Some o) ws s =
    Next (ExpressionUnit depth ∷ ExpressionRest depth (record { left = s.formula; op = o } ∷ waiting) into ∷ ws) s
operation_at depth waiting into None ws s = Refuses fault.BadForm

-- An expression ends, which is a unit of another, or the value of a function, of which nothing else is left.
abbrev pub expression_ended : Option Target → Formula → List Wanted → State → Step
expression_ended (Some t) f ws s = term_at t (term.Compute f) ws (with_formula s no_formula)
expression_ended None f ws s = Next ws (with_formula s f)

abbrev pub expression_rest : ℕ → List Waiting → Option Target → Word → List Wanted → State → Step
expression_rest depth waiting into w ws s =
    if is_right w.kind then expression_ended into (completed s.formula waiting) ws s
    else operation_at depth waiting into (operation_of w.keyword) ws s

-- ---- substr

-- the classes of the cells: those of the positive conditions, and then those that `cbind` named
abbrev pub classes_of_cells : State → List ℕ
classes_of_cells s = cells_of s.conditions ++ s.further

abbrev pub function : Target → Keyword → List Wanted → State → Step
function t keyword.Substr ws s = Next (SourceCell ∷ SourceAttribute t ∷ ws) s
function t keyword.Compute ws s = Next (ExpressionUnit (function_depth (is_built s)) ∷ ExpressionRest (function_depth (is_built s)) [] (Some t) ∷ ws) s
function t keyword.Genatom ws s = term_at t term.Fresh (Closes EndsWhole ∷ ws) s
function t keyword.Accept ws s = term_at t term.Accept (Closes EndsWhole ∷ ws) s
function t _ ws s = Refuses fault.BadForm

abbrev pub source_named : Option ℕ → List Wanted → State → Step
source_named (Some c) ws s = Next ws (record s { source = c })
source_named None ws s = Refuses fault.BadDesignator

-- an element variable
abbrev pub source_cell : Word → List Wanted → State → Step
source_cell w ws s = if is_variable w.kind then source_named (number_of w.name s.elements) ws s else Refuses fault.BadForm

-- the class of the cell that `substr` reads
abbrev pub source_class : State → Class
source_class s = class_of s.classes (unwrap_or (slice_get (classes_of_cells s) s.source) 0)

abbrev pub source_at : Target → Sym → Option ℕ → List Wanted → State → Step
source_at t name (Some f) ws s = Next (SourceEnd t name ∷ Closes EndsWhole ∷ ws) (record s { source_field = f })
source_at t name None ws s = Refuses fault.UnknownAttribute

abbrev pub source_attribute : Target → Word → List Wanted → State → Step
source_attribute t w ws s =
    if is_name w.kind then source_at t w.name (position (λ a. a.0 == w.name.0) (source_class s).attrs) ws s else Refuses fault.BadForm

-- several values may stand there: among the values of the vector attribute, and in `write`
abbrev pub takes_several : Target → Bool
takes_several ToTerms = true
takes_several ToItem = true
takes_several _ = false

-- After the vector attribute `inf` stands for all its values, also where the attribute has this name.
abbrev pub ends_at_inf : Word → State → Bool
ends_at_inf w s = is_inf w.keyword && is_vector (source_class s) s.source_field

-- the same attribute again, or `inf`
abbrev pub source_end : Target → Sym → Word → List Wanted → State → Step
source_end t name w ws s =
    if ends_at_inf w s then (if takes_several t then term_at t (term.Rest s.source) ws s else Refuses fault.BadForm)
    else if is_name w.kind && (w.name.0 == name.0) then term_at t (term.One s.source s.source_field) ws s
    else Refuses fault.BadForm

abbrev pub with_command : State → Command → State
with_command s c = record s { commands = s.commands ++ c ∷ [] }

-- a member of a group ends
abbrev pub with_member : State → State
with_member s =
    record s { members = s.members ++ record { class = s.class; negated = false; tests = s.tests } ∷ []; tests = [] }

-- A condition ends. The variables of a negated one are out of sight after it.
abbrev pub with_one : State → State
with_one s =
    record s {
      conditions = s.conditions ++ part.One (record { class = s.class; negated = s.negated; tests = s.tests }) ∷ [];
      tests = [];
      values = if s.negated then take s.around s.values else s.values;
      negated = false;
    }

abbrev pub with_condition : State → State
with_condition s = if s.grouped then with_member s else with_one s

-- A group ends. The variables that it bound are out of sight after it.
abbrev pub with_group : State → State
with_group s =
    record s {
      conditions = s.conditions ++ part.Group s.members ∷ [];
      values = take s.around s.values;
      negated = false;
      grouped = false;
      members = [];
    }

-- a `make` of this class, or a `modify` of the cell
abbrev pub put_action : Option ℕ → ℕ → List Put → Action
put_action None class puts = action.Make class puts
put_action (Some cell) class puts = action.Modify cell puts

-- a `make` of this class, or a `ppwm` of the elements that have these values
abbrev pub fixed_command : Bool → ℕ → List Fixed → Command
fixed_command false class puts = command.Make class puts
fixed_command true class puts = command.Ppwm (Some (class, puts))

-- an element form ends
abbrev pub with_element : Use → State → State
with_element InPattern s = with_condition s
with_element InPut s = record (with_action s (put_action s.modified s.class s.puts)) { puts = []; made = Some s.class }
with_element InFixed s = record (with_command s (fixed_command s.shows s.class s.fixed)) { fixed = [] }

abbrev pub terms : Use → Word → List Wanted → State → Step
terms u w ws s =
    if is_right w.kind then Next ws (with_element u s)
    else if is_caret w.kind then Next (Attribute u ∷ ws) s
    else Refuses fault.BadForm

-- ---- the vector attribute

-- a value that would take the 128th field of an element, its class counted, passes the limit
abbrev pub within : Bool → Step → Step
within true step = step
within false (Next ws s) = Refuses (fault.LimitPassed limit.Fields)
within false (Refuses f) = Refuses f

-- one place or value more; the limit of those of an action is looked at when it is done
abbrev pub one_of_several : Use → ℕ → Word → List Wanted → State → Step
one_of_several InPattern f w ws s = within (nat_lt f most_fields) (place f w (Several InPattern (f + 1) ∷ ws) s)
one_of_several InPut f w ws s = value_for ToTerms w (Several InPut f ∷ ws) s
one_of_several InFixed f w ws s =
    within (nat_lt (f + length s.constants) most_fields) (value_for ToConstants w (Several InFixed f ∷ ws) s)

-- the values of the vector attribute end
abbrev pub with_several : Use → ℕ → State → State
with_several InPattern f s = s
with_several InPut f s = record s { puts = s.puts ++ record { field = f; terms = s.terms } ∷ []; terms = [] }
with_several InFixed f s = record s { fixed = s.fixed ++ record { field = f; values = s.constants } ∷ []; constants = [] }

abbrev pub several : Use → ℕ → Word → List Wanted → State → Step
several u f w ws s =
    if is_right w.kind || is_caret w.kind then terms u w ws (with_several u f s) else one_of_several u f w ws s

-- ---- productions

-- a left side begins, and nothing is in sight
abbrev pub left_begun : State → State
left_begun s =
    record s {
      class = 0;
      tests = [];
      choice = [];
      terms = [];
      constants = [];
      values = [];
      elements = [];
      element = record { 0 = 0 };
      variables = 0;
      negated = false;
      around = 0;
      grouped = false;
      members = [];
      conditions = [];
      counted = 0;
      holes = [];
      outer = None;
    }

-- a left side ends: its conditions, and the variables that they bind, are all that it leaves
abbrev pub left_ended : State → State
left_ended s =
    record s { class = 0; tests = []; choice = []; terms = []; constants = []; element = record { 0 = 0 }; negated = false; around = 0; grouped = false; members = [] }

-- a right side begins, or has ended: nothing of another is left
abbrev pub right_begun : State → State
right_begun s =
    record s {
      class = 0;
      terms = [];
      puts = [];
      cells = [];
      items = [];
      actions = [];
      begun = 0;
      modified = None;
      made = None;
      further = [];
      variable = record { 0 = 0 };
      source = 0;
      source_field = 0;
      formula = no_formula;
    }

abbrev pub rule_name : Word → List Wanted → State → Step
rule_name w ws s =
    if is_name w.kind
    then (if is_rule s w.name then Refuses fault.DeclaredTwice else Next ws (record (left_begun s) { name = w.name }))
    else Refuses fault.BadForm

-- the first condition is positive
abbrev pub first_pattern : Word → List Wanted → State → Step
first_pattern w ws s =
    if is_left w.kind then Next (ClassName ∷ Terms InPattern ∷ ws) s
    else if is_left_brace w.kind then Next (Braced ∷ ws) s
    else if is_minus w.keyword || begins_group w.keyword then Refuses fault.FirstNegated
    else Refuses fault.BadForm

-- one more condition, where there is room for one
abbrev pub one_more : List Wanted → State → Step
one_more ws s = if nat_lt (length (elements_of s.conditions)) most_conditions then Next ws s else Refuses (fault.LimitPassed limit.Conditions)

-- positive | - pattern | - { pattern pattern pattern* }
abbrev pub more_patterns : Word → List Wanted → State → Step
more_patterns w ws s =
    if is_left w.kind then one_more (ClassName ∷ Terms InPattern ∷ ws) s
    else if is_left_brace w.kind then one_more (Braced ∷ ws) s
    else if is_minus w.keyword then one_more (Pattern ∷ ws) (record s { negated = true; around = length s.values })
    else if begins_group w.keyword then Next (GroupBrace ∷ ws) s
    else Refuses fault.BadForm

-- a group begins, and has no member yet
abbrev pub group_begun : State → State
group_begun s = record s { grouped = true; around = length s.values; members = []; tests = [] }

-- { pattern pattern pattern* }
abbrev pub group : Word → List Wanted → State → Step
group w ws s = if is_left_brace w.kind then Next (Members 0 ∷ ws) (group_begun s) else Refuses fault.BadForm

-- there is room for one more member
abbrev pub has_room : State → Bool
has_room s = nat_lt (length (elements_of s.conditions) + length s.members) most_conditions

abbrev pub one_member : List Wanted → State → Step
one_member ws s = if has_room s then Next ws s else Refuses (fault.LimitPassed limit.Conditions)

-- pattern
abbrev pub member : Word → List Wanted → State → Step
member w ws s = if is_left w.kind then one_member (ClassName ∷ Terms InPattern ∷ ws) s else Refuses fault.BadForm

-- pattern* }
abbrev pub members : ℕ → Word → List Wanted → State → Step
members n w ws s =
    if is_right_brace w.kind && nat_le 2 n then Next ws (with_group s) else member w (Members (suc n) ∷ ws) s

abbrev pub patterns : Word → List Wanted → State → Step
patterns w ws s = if is_arrow w.keyword then Next ws (right_begun (left_ended s)) else more_patterns w (Patterns ∷ ws) s

abbrev pub pattern : Word → List Wanted → State → Step
pattern w ws s = if is_left w.kind then Next (ClassName ∷ Terms InPattern ∷ ws) s else Refuses fault.BadForm

-- An element variable is bound once in a left side.
abbrev pub element_at : Option ℕ → Sym → List Wanted → State → Step
element_at (Some c) name ws s = Refuses fault.BadDesignator
element_at None name ws s = Next ws (record s { element = name })

abbrev pub element_name : Word → List Wanted → State → Step
element_name w ws s =
    if is_variable w.kind then element_at (number_of w.name s.elements) w.name ws s else Refuses fault.BadForm

-- VARIABLE pattern } | pattern VARIABLE }
abbrev pub braced : Word → List Wanted → State → Step
braced w ws s =
    if is_left w.kind then Next (ClassName ∷ Terms InPattern ∷ ElementName ∷ ClosesBrace ∷ ws) s
    else element_name w (Pattern ∷ ClosesBrace ∷ ws) s

-- the element variable names the cell of the condition that was read last
abbrev pub with_bound_element : State → State
with_bound_element s =
    record s { elements = s.elements ++ record { name = s.element; number = length (cells_of s.conditions) - 1 } ∷ [] }

abbrev pub closes_brace : Word → List Wanted → State → Step
closes_brace w ws s = if is_right_brace w.kind then Next ws (with_bound_element s) else Refuses fault.BadForm

-- a production of the beginning stands with the others
abbrev pub rules_with : Bool → List Rule → Rule → List Rule
rules_with true rules r = rules ++ r ∷ []
rules_with false rules r = rules

-- a later one is added where it stands among the commands
abbrev pub commands_with : Bool → List Command → Rule → List Command
commands_with true commands r = commands
commands_with false commands r = commands ++ command.Add r ∷ []

abbrev pub with_production : State → Rule → State
with_production s r =
    record s { rules = rules_with (is_beginning s) s.rules r; commands = commands_with (is_beginning s) s.commands r }

-- the production that was read up to its last bracket
abbrev pub rule_of : State → ℕ → Rule
rule_of s past =
    record {
      name = s.name;
      conditions = s.conditions;
      actions = s.actions;
      specificity = specificity s.conditions;
      variables = s.variables;
      cells = length (classes_of_cells s);
      first = s.first;
      past = past;
    }

-- a production ends
abbrev pub with_rule : State → ℕ → State
with_rule s past = with_production (record (right_begun s) { conditions = []; counted = 0; holes = [] }) (rule_of s past)

-- ---- build

-- what is kept of the production that is read
abbrev pub outer_of : State → Outer
outer_of s =
    record {
      name = s.name;
      first = s.first;
      values = s.values;
      elements = s.elements;
      variables = s.variables;
      conditions = s.conditions;
      actions = s.actions;
      made = s.made;
      further = s.further;
    }

-- the production that is built begins with its action, and nothing of the one around is in sight
abbrev pub build_begun : State → State
build_begun s = record (right_begun (left_begun s)) { first = s.begun; outer = Some (outer_of s) }

abbrev pub built_name : Word → List Wanted → State → Step
built_name w ws s = if is_name w.kind then Next ws (record s { name = w.name }) else Refuses fault.BadForm

-- one more template, and what was kept of the production around it, with an action that builds from the template
abbrev pub with_template : Outer → State → Rule → State
with_template o s r =
    record (right_begun s) {
      templates = s.templates ++ r ∷ [];
      name = o.name;
      first = o.first;
      values = o.values;
      elements = o.elements;
      variables = o.variables;
      conditions = o.conditions;
      actions = o.actions ++ action.Build (length s.templates) s.holes ∷ [];
      made = o.made;
      further = o.further;
      counted = 0;
      holes = [];
      outer = None;
    }

abbrev pub build_ended : Option Outer → State → Rule → State
build_ended (Some o) s r = with_template o s r
build_ended None s r = s

-- the production ends that is built, or one of the text
abbrev pub side_ended : Bool → State → ℕ → State
side_ended true s past = build_ended s.outer s (rule_of s past)
side_ended false s past = with_rule s past

abbrev pub actions : Bool → Word → List Wanted → State → Step
actions built w ws s =
    if is_right w.kind then Next ws (side_ended built s w.past)
    else if is_left w.kind then Next (ActionWord built ∷ Actions built ∷ ws) (record s { begun = w.first })
    else Refuses fault.BadForm

-- A production that is built builds none.
abbrev pub build_word : Bool → List Wanted → State → Step
build_word true ws s = Refuses fault.BadForm
build_word false ws s = Next (BuiltName ∷ FirstPattern ∷ Patterns ∷ Actions true ∷ ws) (build_begun s)

abbrev pub action_word : Bool → Keyword → List Wanted → State → Step
action_word built keyword.Make ws s = Next (ClassName ∷ Terms InPut ∷ ws) (record s { puts = []; modified = None })
action_word built keyword.Modify ws s = Next (Modified ∷ Terms InPut ∷ ws) (record s { puts = [] })
action_word built keyword.Remove ws s = Next (Cell ∷ Cells ∷ ws) (record s { cells = [] })
action_word built keyword.Write ws s = Next (Items ∷ ws) (record s { items = [] })
action_word built keyword.Bind ws s = Next (BoundName ∷ BoundValue ∷ ws) s
action_word built keyword.Cbind ws s = Next (CellName ∷ Closes EndsWhole ∷ ws) s
action_word built keyword.Halt ws s = Next (Closes EndsHalt ∷ ws) s
action_word built keyword.Build ws s = build_word built ws s
action_word built _ ws s = Refuses fault.BadForm

-- ---- designators

-- no cell comes with this part
abbrev pub is_absent : Part → Bool
is_absent (part.One c) = c.negated
is_absent (part.Group cs) = true

-- The condition that is designated is positive, and so is each before it; its cell has the number of conditions before it.
abbrev pub designated : ℕ → Option Part → State → Result ℕ Fault
designated before (Some p) s =
    if is_absent p then Err fault.BadDesignator
    else if list_any is_absent (take before s.conditions) then Err fault.AmbiguousDesignator
    else Ok before
designated before None s = Err fault.BadDesignator

-- a number of a condition, counted from 1
abbrev pub numbered_cell : Option ℕ → State → Result ℕ Fault
numbered_cell (Some n) s = designated (n - 1) (slice_get s.conditions (n - 1)) s
numbered_cell None s = Err fault.BadDesignator

-- an element variable, which a condition or a `cbind` before it must bind
abbrev pub named_cell : Option ℕ → Result ℕ Fault
named_cell (Some c) = Ok c
named_cell None = Err fault.BadDesignator

-- the cell that a word designates, WHOLE | VARIABLE
abbrev pub cell_of : TokenKind → Sym → State → Result ℕ Fault
cell_of (kind.Whole n) name s = numbered_cell (natural_of n) s
cell_of kind.Variable name s = named_cell (number_of name s.elements)
cell_of _ name s = Err fault.BadForm

abbrev pub with_designated : Result ℕ Fault → List Wanted → State → Step
with_designated (Ok c) ws s = Next ws (record s { cells = s.cells ++ c ∷ [] })
with_designated (Err f) ws s = Refuses f

abbrev pub cell : TokenKind → Sym → List Wanted → State → Step
cell k name ws s = with_designated (cell_of k name s) ws s

-- the attributes of a `modify` are those of the cell's class
abbrev pub with_modified : Result ℕ Fault → List Wanted → State → Step
with_modified (Ok c) ws s = Next ws (record s { modified = Some c; class = unwrap_or (slice_get (classes_of_cells s) c) 0 })
with_modified (Err f) ws s = Refuses f

abbrev pub modified : Word → List Wanted → State → Step
modified w ws s = with_modified (cell_of w.kind w.name s) ws s

-- ---- bind, cbind

abbrev pub bound_name : Word → List Wanted → State → Step
bound_name w ws s = if is_variable w.kind then Next ws (record s { variable = w.name }) else Refuses fault.BadForm

-- Without a value it is a fresh atom.
abbrev pub bound_value : Word → List Wanted → State → Step
bound_value w ws s =
    if is_right w.kind then Next ws (with_bind (number_of s.variable s.values) s term.Fresh) else value_for ToBind w (Closes EndsWhole ∷ ws) s

-- the element variable names a further cell, with the element that was made last
abbrev pub with_cell : State → ℕ → Sym → State
with_cell s class name =
    let cell = length (classes_of_cells s) in
    record (with_action s (action.Cbind cell)) { elements = renumbered name cell s.elements; further = s.further ++ class ∷ [] }

abbrev pub cell_bound : Option ℕ → Sym → List Wanted → State → Step
cell_bound (Some class) name ws s = Next ws (with_cell s class name)
cell_bound None name ws s = Refuses fault.BadDesignator

abbrev pub cell_name : Word → List Wanted → State → Step
cell_name w ws s = if is_variable w.kind then cell_bound s.made w.name ws s else Refuses fault.BadForm

-- ---- remove, write

-- an action `remove` ends
abbrev pub with_remove : State → State
with_remove s = record (with_action s (action.Remove s.cells)) { cells = [] }

abbrev pub cells : Word → List Wanted → State → Step
cells w ws s = if is_right w.kind then Next ws (with_remove s) else cell w.kind w.name (Cells ∷ ws) s

-- an action `write` ends
abbrev pub with_write : State → State
with_write s = record (with_action s (action.Write s.items)) { items = [] }

abbrev pub items : Word → List Wanted → State → Step
items w ws s =
    if is_right w.kind then Next ws (with_write s)
    else if is_left w.kind then Next (ItemWord ∷ Items ∷ ws) s
    else value_for ToItem w (Items ∷ ws) s

abbrev pub item_word : Keyword → List Wanted → State → Step
item_word keyword.Crlf ws s = Next (Closes EndsCrlf ∷ ws) s
item_word keyword.Tabto ws s = Next (Columns ToTab ∷ Closes EndsWhole ∷ ws) s
item_word keyword.Rjust ws s = Next (Columns ToRight ∷ Closes EndsWhole ∷ ws) s
item_word keyword.Substr ws s = function ToItem keyword.Substr ws s
item_word keyword.Compute ws s = function ToItem keyword.Compute ws s
item_word keyword.Genatom ws s = function ToItem keyword.Genatom ws s
item_word keyword.Accept ws s = function ToItem keyword.Accept ws s
item_word _ ws s = Refuses fault.BadForm

abbrev pub column_item : Column → ℕ → Item
column_item ToTab n = item.TabTo n
column_item ToRight n = item.RightIn n

abbrev pub columns_at : Column → Option ℕ → List Wanted → State → Step
columns_at c (Some n) ws s = Next ws (with_item s (column_item c n))
columns_at c None ws s = Refuses fault.BadForm

abbrev pub ended : Ends → State → State
ended EndsHalt s = with_action s action.Halt
ended EndsCrlf s = with_item s item.Crlf
ended EndsCs s = with_command s command.Cs
ended EndsExit s = with_command s command.Exit
ended EndsWhole s = s

abbrev pub closes : Ends → Word → List Wanted → State → Step
closes e w ws s = if is_right w.kind then Next ws (ended e s) else Refuses fault.BadForm

-- ---- commands

-- NAT
abbrev pub count_of : TokenKind → Option ℕ
count_of (kind.Whole (pos n)) = if is_natural n then Some n else None
count_of _ = None

abbrev pub counted : Option ℕ → List Wanted → State → Step
counted (Some n) ws s = Next (Closes EndsWhole ∷ ws) (with_command s (command.Run (Some n)))
counted None ws s = Refuses fault.BadForm

-- NAT ) | )
abbrev pub count : Word → List Wanted → State → Step
count w ws s = if is_right w.kind then Next ws (with_command s (command.Run None)) else counted (count_of w.kind) ws s

-- lex | mea
abbrev pub strategy_of : Keyword → Option Strategy
strategy_of keyword.Lex = Some Lex
strategy_of keyword.Mea = Some Mea
strategy_of _ = None

abbrev pub strategy_set : Option Strategy → List Wanted → State → Step
strategy_set (Some g) ws s = Next (Closes EndsWhole ∷ ws) (with_command s (command.Strategy (Some g)))
strategy_set None ws s = Refuses fault.BadForm

-- lex ) | mea ) | )
abbrev pub strategy_name : Word → List Wanted → State → Step
strategy_name w ws s =
    if is_right w.kind then Next ws (with_command s (command.Strategy None)) else strategy_set (strategy_of w.keyword) ws s

abbrev pub tag_at : Option ℕ → List Wanted → State → Step
tag_at (Some n) ws s = Next ws (record s { tags = s.tags ++ n ∷ [] })
tag_at None ws s = Refuses fault.BadForm

-- all elements, where they are removed
abbrev pub is_all : Keyword → Bool
is_all keyword.Times = true
is_all _ = false

-- NAT NAT* ) | * )
abbrev pub tag_or_all : Word → List Wanted → State → Step
tag_or_all w ws s =
    if is_all w.keyword then Next (Closes EndsWhole ∷ ws) (with_command s command.RemoveAll) else tag_at (count_of w.kind) (Tags ToRemove ∷ ws) s

abbrev pub tag_command : TagUse → List ℕ → Command
tag_command ToRemove tags = command.Remove tags
tag_command ToShow tags = command.Wm tags

-- a command of tags ends
abbrev pub with_tags : TagUse → State → State
with_tags u s = record (with_command s (tag_command u s.tags)) { tags = [] }

-- NAT* )
abbrev pub tags : TagUse → Word → List Wanted → State → Step
tags u w ws s = if is_right w.kind then Next ws (with_tags u s) else tag_at (count_of w.kind) (Tags u ∷ ws) s

-- CLASS fixed* ) | )
abbrev pub shown : Word → List Wanted → State → Step
shown w ws s =
    if is_right w.kind then Next ws (with_command s (command.Ppwm None))
    else class_name w (Terms InFixed ∷ ws) (record s { fixed = []; shows = true })

-- NAME, which need not be one of a production
abbrev pub named_rule : Word → List Wanted → State → Step
named_rule w ws s = if is_name w.kind then Next ws (record s { named = s.named ++ w.name ∷ [] }) else Refuses fault.BadForm

abbrev pub name_command : NameUse → List Sym → Command
name_command ToPrint names = command.Pm names
name_command ToBreak names = command.Pbreak names
name_command ToExcise names = command.Excise names
name_command ToMatch names = command.Matches names

-- a command of names ends
abbrev pub with_named : NameUse → State → State
with_named u s = record (with_command s (name_command u s.named)) { named = [] }

-- NAME* )
abbrev pub named_rules : NameUse → Word → List Wanted → State → Step
named_rules u w ws s = if is_right w.kind then Next ws (with_named u s) else named_rule w (NamedRules u ∷ ws) s

-- a trace level
abbrev pub level_of : TokenKind → Option ℕ
level_of (kind.Whole (pos n)) = if nat_le n 2 then Some n else None
level_of _ = None

abbrev pub level_set : Option ℕ → List Wanted → State → Step
level_set (Some n) ws s = Next (Closes EndsWhole ∷ ws) (with_command s (command.Watch (Some n)))
level_set None ws s = Refuses fault.BadForm

-- 0 ) | 1 ) | 2 ) | )
abbrev pub level : Word → List Wanted → State → Step
level w ws s = if is_right w.kind then Next ws (with_command s (command.Watch None)) else level_set (level_of w.kind) ws s

-- how many firings are undone, from 1 to 32
abbrev pub undone_of : TokenKind → Option ℕ
undone_of (kind.Whole (pos n)) = if nat_le 1 n && nat_le n 32 then Some n else None
undone_of _ = None

abbrev pub undone_set : Option ℕ → List Wanted → State → Step
undone_set (Some n) ws s = Next (Closes EndsWhole ∷ ws) (with_command s (command.Back n))
undone_set None ws s = Refuses fault.BadForm

-- UNDONE ) | ), which is one
abbrev pub undone : Word → List Wanted → State → Step
undone w ws s = if is_right w.kind then Next ws (with_command s (command.Back 1)) else undone_set (undone_of w.kind) ws s

-- ---- the walk over the words

-- a form begins at its bracket
abbrev pub forms : Word → List Wanted → State → Step
forms w ws s = if is_left w.kind then Next (Form ∷ Forms ∷ ws) (record s { first = w.first }) else Refuses fault.Stray

-- What a word does where this is wanted. Where nothing is, it does not belong there.
unfoldable pub step : Word → List Wanted → State → Step
step w [] s = Refuses fault.Stray
step w (Forms ∷ ws) s = forms w ws s
step w (Form ∷ ws) s = form w w.keyword ws s
step w (ClassDeclared ∷ ws) s = class_declared w ws s
step w (Attributes ∷ ws) s = attributes w ws s
step w (VectorName ∷ ws) s = vector_name w ws s
step w (VectorNames ∷ ws) s = vector_names w ws s
step w (RuleName ∷ ws) s = rule_name w ws s
step w (FirstPattern ∷ ws) s = first_pattern w ws s
step w (Patterns ∷ ws) s = patterns w ws s
step w (Pattern ∷ ws) s = pattern w ws s
step w (GroupBrace ∷ ws) s = group w ws s
step w (Members n ∷ ws) s = members n w ws s
step w (Braced ∷ ws) s = braced w ws s
step w (ElementName ∷ ws) s = element_name w ws s
step w (ClosesBrace ∷ ws) s = closes_brace w ws s
step w (ClassName ∷ ws) s = class_name w ws s
step w (Terms u ∷ ws) s = terms u w ws s
step w (Attribute u ∷ ws) s = attribute u w ws s
step w (Several u f ∷ ws) s = several u f w ws s
step w (Place f ∷ ws) s = place f w ws s
step w (Tests f ∷ ws) s = tests f w ws s
step w (Tested f p ∷ ws) s = tested f p w ws s
step w (Choice f ∷ ws) s = choice f w ws s
step w (Atom t ∷ ws) s = atom_at t w.keyword (atom_of w.kind w.name) ws s
step w (ValueFor t ∷ ws) s = value_for t w ws s
step w (Function t ∷ ws) s = function t w.keyword ws s
step w (ExpressionUnit d ∷ ws) s = expression_unit d w ws s
step w (ExpressionRest d waiting into ∷ ws) s = expression_rest d waiting into w ws s
step w (Bracketed d ∷ ws) s = bracketed d w ws s
step w (SourceCell ∷ ws) s = source_cell w ws s
step w (SourceAttribute t ∷ ws) s = source_attribute t w ws s
step w (SourceEnd t name ∷ ws) s = source_end t name w ws s
step w (Actions b ∷ ws) s = actions b w ws s
step w (ActionWord b ∷ ws) s = action_word b w.keyword ws s
step w (BuiltName ∷ ws) s = built_name w ws s
step w (Modified ∷ ws) s = modified w ws s
step w (BoundName ∷ ws) s = bound_name w ws s
step w (BoundValue ∷ ws) s = bound_value w ws s
step w (CellName ∷ ws) s = cell_name w ws s
step w (Cell ∷ ws) s = cell w.kind w.name ws s
step w (Cells ∷ ws) s = cells w ws s
step w (Items ∷ ws) s = items w ws s
step w (ItemWord ∷ ws) s = item_word w.keyword ws s
step w (Columns c ∷ ws) s = columns_at c (small_of w.kind) ws s
step w (Count ∷ ws) s = count w ws s
step w (StrategyName ∷ ws) s = strategy_name w ws s
step w (TagOrAll ∷ ws) s = tag_or_all w ws s
step w (Tags u ∷ ws) s = tags u w ws s
step w (Shown ∷ ws) s = shown w ws s
step w (NamedRule ∷ ws) s = named_rule w ws s
step w (NamedRules u ∷ ws) s = named_rules u w ws s
step w (Level ∷ ws) s = level w ws s
step w (Undone ∷ ws) s = undone w ws s
step w (Closes e ∷ ws) s = closes e w ws s

-- the state that was reached, or the fault at the word that goes on to nothing, and at none where the words end too early
abbrev pub Outcome : Type 0
Outcome = Result State (Fault × Option Word)

-- where no word is left, a form may not be open
unfoldable pub ends : List Wanted → State → Outcome
ends [] s = Ok s
ends (Forms ∷ ws) s = ends ws s
ends (w ∷ ws) s = Err (fault.Unclosed, None)

abbrev pub after : (List Wanted → State → Outcome) → Word → Step → Outcome
after rest w (Next ws s) = rest ws s
after rest w (Refuses f) = Err (f, Some w)

-- The words, from what is wanted on.
unfoldable pub goes : List Word → List Wanted → State → Outcome
goes [] ws s = ends ws s
goes (w ∷ words) ws s = after (goes words) w (step w ws s)

abbrev pub nothing_read : State
nothing_read =
    record {
      classes = [];
      rules = [];
      templates = [];
      commands = [];
      vectors = [];
      name = record { 0 = 0 };
      first = 0;
      attrs = [];
      class = 0;
      tests = [];
      choice = [];
      terms = [];
      constants = [];
      puts = [];
      fixed = [];
      cells = [];
      items = [];
      values = [];
      elements = [];
      element = record { 0 = 0 };
      variables = 0;
      negated = false;
      around = 0;
      grouped = false;
      members = [];
      conditions = [];
      actions = [];
      begun = 0;
      modified = None;
      made = None;
      further = [];
      variable = record { 0 = 0 };
      source = 0;
      source_field = 0;
      formula = no_formula;
      counted = 0;
      holes = [];
      outer = None;
      shows = false;
      tags = [];
      named = [];
    }
