-- How a program is spelled in words, and which programs have a spelling.
use Rattle.std.specs.Prelude.{ℕ, zero, suc, ◌+◌, ◌-◌, find, List, [], ◌∷◌, ◌++◌, map, take, length, unwrap_or, slice_get, Bool, true, false, not, ◌&&◌, ◌||◌, ◌==◌, nat_lt, nat_le, if◌then◌else◌, Option, Some, None, is_some, pos}
use Rattle.std.specs.List.{list_all, flat_map}
use Rattle.ops_base.specs.declared.values.Sym.{Sym}
use Rattle.ops_base.specs.declared.values.Value.{Value}
use Rattle.ops_base.specs.declared.values.Value.TheVariants as value
use Rattle.ops_base.specs.declared.values.Pred.{Pred}
use Rattle.ops_base.specs.declared.values.Pred.TheVariants as pred
use Rattle.ops_base.specs.declared.elements.Class.{Class}
use Rattle.ops_base.specs.declared.commands.Fixed.{Fixed}
use Rattle.ops_base.specs.declared.commands.Command.{Command}
use Rattle.ops_base.specs.declared.commands.Command.TheVariants as command
use Rattle.ops_base.specs.declared.commands.Strategy.{Strategy}
use Rattle.ops_base.specs.declared.commands.Strategy.TheVariants.{Lex, Mea}
use Rattle.ops_base.specs.declared.conditions.Operand.{Operand}
use Rattle.ops_base.specs.declared.conditions.Operand.TheVariants as operand
use Rattle.ops_base.specs.declared.conditions.Test.{Test}
use Rattle.ops_base.specs.declared.conditions.Condition.{Condition}
use Rattle.ops_base.specs.declared.conditions.Part.{Part}
use Rattle.ops_base.specs.declared.conditions.Part.TheVariants.{One, Group}
use Rattle.ops_base.specs.declared.expression.Op.{Op}
use Rattle.ops_base.specs.declared.expression.Op.TheVariants as op
use Rattle.ops_base.specs.Expression.{Formula, all_variables}
use Rattle.ops_base.specs.Expression as formula
use Rattle.ops_base.specs.declared.actions.Term.{Term}
use Rattle.ops_base.specs.declared.actions.Term.TheVariants as term
use Rattle.ops_base.specs.declared.actions.Put.{Put}
use Rattle.ops_base.specs.declared.actions.Item.{Item}
use Rattle.ops_base.specs.declared.actions.Item.TheVariants as item
use Rattle.ops_base.specs.declared.actions.Action.{Action}
use Rattle.ops_base.specs.declared.actions.Action.TheVariants as action
use Rattle.ops_base.specs.declared.actions.Hole.{Hole}
use Rattle.ops_base.specs.declared.rules.Rule.{Rule}
use Rattle.ops_base.specs.Filling.{in_test, in_condition, in_part, in_term, in_put, in_item, in_action, total}
use Rattle.ops_base.specs.Valid.{most_conditions, are_distinct, class_is_valid, class_of, is_attribute, is_vector, is_field, is_equality, is_in, is_column, is_natural, first_is_positive, cells_of, specificity, fixed_is_valid, elements_of}
use Rattle.ops_tokens.specs.declared.token.TokenKind.TheVariants as kind
use Rattle.ops_grammar.specs.declared.words.Word.{Word}
use Rattle.ops_grammar.specs.declared.words.Keyword.{Keyword}
use Rattle.ops_grammar.specs.declared.words.Keyword.TheVariants as keyword
use Rattle.ops_grammar.specs.Grammar.{is_one_of, most_brackets, function_depth, is_absent, precedes_rules, added_by}

-- ---- words, where their places do not matter

abbrev pub unnamed : Sym
unnamed = record { 0 = 0 }

abbrev pub opening : Word
opening = record { kind = kind.Left; keyword = keyword.Other; name = unnamed; first = 0; past = 0 }

abbrev pub closing : Word
closing = record { kind = kind.Right; keyword = keyword.Other; name = unnamed; first = 0; past = 0 }

abbrev pub spelled_keyword : Keyword → Word
spelled_keyword k = record { kind = kind.Symbol; keyword = k; name = unnamed; first = 0; past = 0 }

-- in bars, so that it is no keyword
abbrev pub spelled_name : Sym → Word
spelled_name name = record { kind = kind.Quoted; keyword = keyword.Other; name = name; first = 0; past = 0 }

abbrev pub spelled_value : Value → Word
spelled_value (value.Whole n) = record { kind = kind.Whole n; keyword = keyword.Other; name = unnamed; first = 0; past = 0 }
spelled_value (value.Symbol name) = spelled_name name

-- a constant in whose place a variable stands, which is named by its number
abbrev pub marked : Option Hole → Word → Word
marked None w = w
marked (Some h) w = record w { keyword = keyword.Hole (record { 0 = h.variable }) 0 }

-- the constant with this number of a production that has these holes
abbrev pub spelled_constant : List Hole → ℕ → Value → Word
spelled_constant hs n v = marked (find (λ h. h.number == n) hs) (spelled_value v)

-- a variable, named by its number
abbrev pub spelled_variable : ℕ → Word
spelled_variable n = record { kind = kind.Variable; keyword = keyword.Other; name = record { 0 = n }; first = 0; past = 0 }

abbrev pub caret : Word
caret = record { kind = kind.Caret; keyword = keyword.Other; name = unnamed; first = 0; past = 0 }

abbrev pub spelled_each : {X : Type 0} → (X → List Word) → List X → List Word
spelled_each spelled [] = []
spelled_each spelled (x ∷ xs) = spelled x ++ spelled_each spelled xs

-- the same, where the first constant of the first has number n
abbrev pub spelled_counted : {X : Type 0} → (X → ℕ) → (ℕ → X → List Word) → ℕ → List X → List Word
spelled_counted count spelled n [] = []
spelled_counted count spelled n (x ∷ xs) = spelled n x ++ spelled_counted count spelled (n + count x) xs

abbrev pub spelled_values : List Hole → ℕ → List Value → List Word
spelled_values hs n [] = []
spelled_values hs n (v ∷ vs) = spelled_constant hs n v ∷ spelled_values hs (n + 1) vs

-- ---- declarations

-- ( literalize NAME NAME* )
abbrev pub spelled_class : Class → List Word
spelled_class c = opening ∷ spelled_keyword keyword.Literalize ∷ spelled_name c.name ∷ map spelled_name c.attrs ++ closing ∷ []

abbrev pub attribute_name : Class → ℕ → Sym
attribute_name c f = unwrap_or (slice_get c.attrs f) unnamed

-- the last attribute
abbrev pub last_field : Class → ℕ
last_field c = length c.attrs - 1

-- ( vector-attribute NAME ), where the class has a vector attribute
abbrev pub spelled_vector : Class → List Word
spelled_vector c =
    if c.vector then opening ∷ spelled_keyword keyword.VectorAttribute ∷ spelled_name (attribute_name c (last_field c)) ∷ closing ∷ [] else []

-- ---- attributes with values

-- ^ ATTR value
abbrev pub spelled_attribute : Class → ℕ → List Word → List Word
spelled_attribute c f values = caret ∷ spelled_name (attribute_name c f) ∷ values

-- ---- commands

abbrev pub spelled_fixed : Class → Fixed → List Word
spelled_fixed c p = spelled_attribute c p.field (map spelled_value p.values)

-- CLASS fixed*
abbrev pub spelled_constants : Class → List Fixed → List Word
spelled_constants c puts = spelled_name c.name ∷ spelled_each (spelled_fixed c) puts

-- a command of one word and what stands after it
abbrev pub spelled_short : Keyword → List Word → List Word
spelled_short k argument = opening ∷ spelled_keyword k ∷ argument ++ closing ∷ []

-- ( make CLASS fixed* )
abbrev pub spelled_fact : Class → List Fixed → List Word
spelled_fact c puts = spelled_short keyword.Make (spelled_constants c puts)

-- ( ppwm ) | ( ppwm CLASS fixed* )
abbrev pub spelled_shown : List Class → Option (ℕ × List Fixed) → List Word
spelled_shown classes None = []
spelled_shown classes (Some p) = spelled_constants (class_of classes p.0) p.1

-- NAT*
abbrev pub spelled_tags : List ℕ → List Word
spelled_tags tags = map (λ n. spelled_value (value.Whole (pos n))) tags

-- [NAT], or a trace level, or how many firings are undone
abbrev pub spelled_count : Option ℕ → List Word
spelled_count None = []
spelled_count (Some n) = spelled_value (value.Whole (pos n)) ∷ []

abbrev pub keyword_of_strategy : Strategy → Keyword
keyword_of_strategy Lex = keyword.Lex
keyword_of_strategy Mea = keyword.Mea

-- ( strategy ) | ( strategy lex ) | ( strategy mea )
abbrev pub spelled_strategy : Option Strategy → List Word
spelled_strategy None = []
spelled_strategy (Some g) = spelled_keyword (keyword_of_strategy g) ∷ []

-- ---- left sides, of a production that has these holes, from the constant with this number on

abbrev pub spelled_operator : Keyword → Word
spelled_operator k = record { kind = kind.Operator; keyword = k; name = unnamed; first = 0; past = 0 }

abbrev pub keyword_of_pred : Pred → Keyword
keyword_of_pred pred.Eq = keyword.Equal
keyword_of_pred pred.Ne = keyword.NotEqual
keyword_of_pred pred.Lt = keyword.Less
keyword_of_pred pred.Le = keyword.AtMost
keyword_of_pred pred.Gt = keyword.Greater
keyword_of_pred pred.Ge = keyword.AtLeast
keyword_of_pred pred.SameKind = keyword.SameKind

-- PRED constant | PRED VARIABLE | << atom* >>
abbrev pub spelled_operand : List Hole → ℕ → Pred → Operand → List Word
spelled_operand hs n p (operand.Constant v) = spelled_operator (keyword_of_pred p) ∷ spelled_constant hs n v ∷ []
spelled_operand hs n p (operand.Variable v) = spelled_operator (keyword_of_pred p) ∷ spelled_variable v ∷ []
spelled_operand hs n p (operand.OneOf vs) = spelled_operator keyword.OpenChoice ∷ spelled_values hs n vs ++ spelled_operator keyword.CloseChoice ∷ []

abbrev pub opening_brace : Word
opening_brace = record { kind = kind.LeftBrace; keyword = keyword.Other; name = unnamed; first = 0; past = 0 }

abbrev pub closing_brace : Word
closing_brace = record { kind = kind.RightBrace; keyword = keyword.Other; name = unnamed; first = 0; past = 0 }

-- this many places of a vector attribute that test nothing: { }
abbrev pub untested : ℕ → List Word
untested zero = []
untested (suc n) = opening_brace ∷ closing_brace ∷ untested n

-- the attribute of a field, which for each place of the vector attribute is that
abbrev pub attribute_of : Class → ℕ → ℕ
attribute_of c f = if is_attribute c f then f else last_field c

abbrev pub spelled_test : List Hole → Class → ℕ → Test → List Word
spelled_test hs c n t =
    spelled_attribute c (attribute_of c t.field) (untested (t.field - last_field c) ++ spelled_operand hs n t.pred t.operand)

-- ( CLASS term* )
abbrev pub spelled_pattern : List Hole → ℕ → Class → List Test → List Word
spelled_pattern hs n c tests = spelled_name c.name ∷ spelled_counted in_test (spelled_test hs c) n tests ++ closing ∷ []

-- - pattern | { VARIABLE pattern }, where the element variable is named by its cell
abbrev pub spelled_condition : List Hole → ℕ → List Class → ℕ → Condition → List Word
spelled_condition hs n classes cell c =
    if c.negated then spelled_operator keyword.Minus ∷ opening ∷ spelled_pattern hs n (class_of classes c.class) c.tests
    else opening_brace ∷ spelled_variable cell ∷ opening ∷ spelled_pattern hs n (class_of classes c.class) c.tests ++ closing_brace ∷ []

-- pattern
abbrev pub spelled_member : List Hole → List Class → ℕ → Condition → List Word
spelled_member hs classes n c = opening ∷ spelled_pattern hs n (class_of classes c.class) c.tests

-- - { pattern pattern pattern* }
abbrev pub spelled_group : List Hole → ℕ → List Class → List Condition → List Word
spelled_group hs n classes cs =
    spelled_operator keyword.GroupMinus ∷ opening_brace ∷ spelled_counted in_condition (spelled_member hs classes) n cs ++ closing_brace ∷ []

abbrev pub spelled_part : List Hole → ℕ → List Class → ℕ → Part → List Word
spelled_part hs n classes cell (One c) = spelled_condition hs n classes cell c
spelled_part hs n classes cell (Group cs) = spelled_group hs n classes cs

-- parts, of which the next positive condition has that cell
abbrev pub spelled_conditions : List Hole → ℕ → List Class → ℕ → List Part → List Word
spelled_conditions hs n classes cell [] = []
spelled_conditions hs n classes cell (p ∷ ps) =
    spelled_part hs n classes cell p ++ spelled_conditions hs (n + in_part p) classes (if is_absent p then cell else suc cell) ps

-- the numbers of the variables in sight, in the order in which they came, and how many were given
pub record Numbered : Type 0 where
  pub sight : List ℕ
  pub given : ℕ

-- A constant; constants, one of which is equal; a variable in sight; or a variable that is bound here, with an equality and the
-- next number.
abbrev pub operand_is_plain : Numbered → Pred → Bool → Operand → Bool
operand_is_plain k p binds (operand.Constant v) = not binds
operand_is_plain k p binds (operand.Variable n) = if binds then is_equality p && (n == k.given) else is_in n k.sight
operand_is_plain k p binds (operand.OneOf vs) = not binds && is_equality p

abbrev pub test_is_plain : Class → Numbered → Test → Bool
test_is_plain c k t = is_field c t.field && operand_is_plain k t.pred t.binds t.operand

-- what is in sight after it
abbrev pub after_test : Numbered → Test → Numbered
after_test k t = if t.binds then record { sight = k.sight ++ k.given ∷ []; given = suc k.given } else k

abbrev pub tests_are_plain : Class → Numbered → List Test → Bool
tests_are_plain c k [] = true
tests_are_plain c k (t ∷ ts) = test_is_plain c k t && tests_are_plain c (after_test k t) ts

abbrev pub after_tests : Numbered → List Test → Numbered
after_tests k [] = k
after_tests k (t ∷ ts) = after_tests (after_test k t) ts

-- What a negated condition binds is out of sight after it, and its numbers are not given again.
abbrev pub after_condition : Numbered → Condition → Numbered
after_condition k c = if c.negated then record { sight = k.sight; given = (after_tests k c.tests).given } else after_tests k c.tests

abbrev pub condition_is_plain : List Class → Numbered → Condition → Bool
condition_is_plain classes k c = nat_lt c.class (length classes) && tests_are_plain (class_of classes c.class) k c.tests

-- a member sees what those before it bind
abbrev pub after_members : Numbered → List Condition → Numbered
after_members k [] = k
after_members k (c ∷ cs) = after_members (after_tests k c.tests) cs

abbrev pub members_are_plain : List Class → Numbered → List Condition → Bool
members_are_plain classes k [] = true
members_are_plain classes k (c ∷ cs) = not c.negated && condition_is_plain classes k c && members_are_plain classes (after_tests k c.tests) cs

-- What a group binds is out of sight after it.
abbrev pub after_part : Numbered → Part → Numbered
after_part k (One c) = after_condition k c
after_part k (Group cs) = record { sight = k.sight; given = (after_members k cs).given }

abbrev pub part_is_plain : List Class → Numbered → Part → Bool
part_is_plain classes k (One c) = condition_is_plain classes k c
part_is_plain classes k (Group cs) = nat_le 2 (length cs) && members_are_plain classes k cs

abbrev pub conditions_are_plain : List Class → Numbered → List Part → Bool
conditions_are_plain classes k [] = true
conditions_are_plain classes k (p ∷ ps) = part_is_plain classes k p && conditions_are_plain classes (after_part k p) ps

abbrev pub after_conditions : Numbered → List Part → Numbered
after_conditions k [] = k
after_conditions k (p ∷ ps) = after_conditions (after_part k p) ps

abbrev pub nothing_numbered : Numbered
nothing_numbered = record { sight = []; given = 0 }

-- ---- right sides

-- what is in sight in a right side: the variables, the class of each cell, and that of the element made last; and whether
-- the production is built by another
pub record InSight : Type 0 where
  pub built : Bool
  pub variables : Numbered
  pub cells : List ℕ
  pub made : Option ℕ

-- after the arrow
abbrev pub at_arrow : Bool → List Part → InSight
at_arrow built conditions = record { built = built; variables = after_conditions nothing_numbered conditions; cells = cells_of conditions; made = None }

abbrev pub class_of_cell : InSight → ℕ → ℕ
class_of_cell k cell = unwrap_or (slice_get k.cells cell) 0

-- A variable that is bound again keeps its number.
abbrev pub after_action : InSight → Action → InSight
after_action k (action.Make class puts) = record k { made = Some class }
after_action k (action.Modify cell puts) = record k { made = Some (class_of_cell k cell) }
after_action k (action.Bind variable t) =
    if is_in variable k.variables.sight then k
    else record k { variables = record { sight = k.variables.sight ++ k.variables.given ∷ []; given = suc k.variables.given } }
after_action k (action.Cbind cell) = record k { cells = k.cells ++ unwrap_or k.made 0 ∷ [] }
after_action k (action.Remove cells) = k
after_action k (action.Write items) = k
after_action k action.Halt = k
after_action k (action.Build template holes) = k

abbrev pub after_actions : InSight → List Action → InSight
after_actions k [] = k
after_actions k (a ∷ rest) = after_actions (after_action k a) rest

-- ( substr VARIABLE ATTR END ), of a cell and a field
abbrev pub spelled_substr : Class → ℕ → ℕ → Word → List Word
spelled_substr c cell field end =
    opening ∷ spelled_keyword keyword.Substr ∷ spelled_variable cell ∷ spelled_name (attribute_name c field) ∷ end ∷ closing ∷ []

abbrev pub spelled_operation : Op → Word
spelled_operation op.Add = spelled_keyword keyword.Plus
spelled_operation op.Sub = spelled_operator keyword.Minus
spelled_operation op.Mul = spelled_keyword keyword.Times
spelled_operation op.Div = spelled_operator keyword.Literal
spelled_operation op.Rem = spelled_keyword keyword.Remainder

-- in brackets, where it is the left operand of another
abbrev pub bracketed : Bool → List Word → List Word
bracketed true words = opening ∷ words ++ closing ∷ []
bracketed false words = words

-- unit | unit OP expr
abbrev pub spelled_formula : Bool → Formula → List Word
spelled_formula is_left (formula.number n) = spelled_value (value.Whole n) ∷ []
spelled_formula is_left (formula.variable n) = spelled_variable n ∷ []
spelled_formula is_left (formula.apply o left right) = bracketed is_left (spelled_formula true left ++ spelled_operation o ∷ spelled_formula false right)

-- ( KEYWORD )
abbrev pub spelled_call : Keyword → List Word
spelled_call k = opening ∷ spelled_keyword k ∷ closing ∷ []

-- rconstant | VARIABLE | ( compute expr ) | ( genatom ) | ( accept ) | ( substr VARIABLE ATTR ATTR ) | ( substr
-- VARIABLE ATTR inf )
abbrev pub spelled_term : List Hole → List Class → InSight → ℕ → Term → List Word
spelled_term hs classes k n (term.Constant v) = spelled_constant hs n v ∷ []
spelled_term hs classes k n (term.Variable v) = spelled_variable v ∷ []
spelled_term hs classes k n (term.One cell field) =
    let c = class_of classes (class_of_cell k cell) in spelled_substr c cell field (spelled_name (attribute_name c field))
spelled_term hs classes k n (term.Rest cell) =
    let c = class_of classes (class_of_cell k cell) in spelled_substr c cell (last_field c) (spelled_keyword keyword.Inf)
spelled_term hs classes k n (term.Compute f) = opening ∷ spelled_keyword keyword.Compute ∷ spelled_formula false f ++ closing ∷ []
spelled_term hs classes k n term.Fresh = spelled_call keyword.Genatom
spelled_term hs classes k n term.Accept = spelled_call keyword.Accept

abbrev pub spelled_terms : List Hole → List Class → InSight → ℕ → List Term → List Word
spelled_terms hs classes k n terms = spelled_counted in_term (spelled_term hs classes k) n terms

abbrev pub spelled_put : List Hole → List Class → InSight → Class → ℕ → Put → List Word
spelled_put hs classes k c n p = spelled_attribute c p.field (spelled_terms hs classes k n p.terms)

-- ( KEYWORD SMALL )
abbrev pub spelled_columns : Keyword → ℕ → List Word
spelled_columns k n = opening ∷ spelled_keyword k ∷ spelled_value (value.Whole (pos n)) ∷ closing ∷ []

abbrev pub spelled_item : List Hole → List Class → InSight → ℕ → Item → List Word
spelled_item hs classes k n (item.Print t) = spelled_term hs classes k n t
spelled_item hs classes k n item.Crlf = opening ∷ spelled_keyword keyword.Crlf ∷ closing ∷ []
spelled_item hs classes k n (item.TabTo m) = spelled_columns keyword.Tabto m
spelled_item hs classes k n (item.RightIn m) = spelled_columns keyword.Rjust m

-- put*
abbrev pub spelled_puts : List Hole → List Class → InSight → Class → ℕ → List Put → List Word
spelled_puts hs classes k c n puts = spelled_counted in_put (spelled_put hs classes k c) n puts

-- ( make CLASS put* ) | ( modify VARIABLE put* ) | ( remove VARIABLE VARIABLE* ) | ( write item* ) | ( bind VARIABLE value )
-- | ( cbind VARIABLE ) | ( halt ), where an element variable is named by its cell, and a `build` is spelled so
abbrev pub spelled_action : (ℕ → List Hole → List Word) → List Hole → List Class → InSight → ℕ → Action → List Word
spelled_action build hs classes k n (action.Make class puts) =
    opening ∷ spelled_keyword keyword.Make ∷ spelled_name (class_of classes class).name ∷ spelled_puts hs classes k (class_of classes class) n puts ++ closing ∷ []
spelled_action build hs classes k n (action.Modify cell puts) =
    opening ∷ spelled_keyword keyword.Modify ∷ spelled_variable cell ∷ spelled_puts hs classes k (class_of classes (class_of_cell k cell)) n puts ++ closing ∷ []
spelled_action build hs classes k n (action.Remove cells) = opening ∷ spelled_keyword keyword.Remove ∷ map spelled_variable cells ++ closing ∷ []
spelled_action build hs classes k n (action.Write items) = opening ∷ spelled_keyword keyword.Write ∷ spelled_counted in_item (spelled_item hs classes k) n items ++ closing ∷ []
spelled_action build hs classes k n (action.Bind variable t) = opening ∷ spelled_keyword keyword.Bind ∷ spelled_variable variable ∷ spelled_term hs classes k n t ++ closing ∷ []
spelled_action build hs classes k n (action.Cbind cell) = opening ∷ spelled_keyword keyword.Cbind ∷ spelled_variable cell ∷ closing ∷ []
spelled_action build hs classes k n action.Halt = opening ∷ spelled_keyword keyword.Halt ∷ closing ∷ []
spelled_action build hs classes k n (action.Build template holes) = build template holes

abbrev pub spelled_actions : (ℕ → List Hole → List Word) → List Hole → List Class → InSight → ℕ → List Action → List Word
spelled_actions build hs classes k n [] = []
spelled_actions build hs classes k n (a ∷ rest) =
    spelled_action build hs classes k n a ++ spelled_actions build hs classes (after_action k a) (n + in_action a) rest

-- the cell is there, of a class that is there
abbrev pub cell_is_plain : List Class → InSight → ℕ → Bool
cell_is_plain classes k cell = nat_lt cell (length k.cells) && nat_lt (class_of_cell k cell) (length classes)

-- The brackets that are written round left operands are not too many, where this many are open.
abbrev pub nests_within : ℕ → Bool → Formula → Bool
nests_within depth is_left (formula.number n) = true
nests_within depth is_left (formula.variable n) = true
nests_within depth true (formula.apply o left right) = nat_lt depth most_brackets && nests_within (suc depth) true left && nests_within (suc depth) false right
nests_within depth false (formula.apply o left right) = nests_within depth true left && nests_within depth false right

-- a constant, a variable in sight, an expression of such, a fresh or an accepted atom, or what a cell's element has,
-- where `several` tells that several values may stand there
abbrev pub term_is_plain : List Class → InSight → Bool → Term → Bool
term_is_plain classes k several (term.Constant v) = true
term_is_plain classes k several (term.Variable n) = is_in n k.variables.sight
term_is_plain classes k several (term.One cell field) = cell_is_plain classes k cell && is_attribute (class_of classes (class_of_cell k cell)) field
term_is_plain classes k several (term.Rest cell) = several && cell_is_plain classes k cell && (class_of classes (class_of_cell k cell)).vector
term_is_plain classes k several (term.Compute f) = nests_within (function_depth k.built) false f && all_variables (λ n. is_in n k.variables.sight) f
term_is_plain classes k several term.Fresh = true
term_is_plain classes k several term.Accept = true

abbrev pub put_is_plain : List Class → InSight → Class → Put → Bool
put_is_plain classes k c p =
    is_attribute c p.field && (is_vector c p.field || (length p.terms == 1)) && list_all (term_is_plain classes k (is_vector c p.field)) p.terms

abbrev pub item_is_plain : List Class → InSight → Item → Bool
item_is_plain classes k (item.Print t) = term_is_plain classes k true t
item_is_plain classes k item.Crlf = true
item_is_plain classes k (item.TabTo n) = is_column n
item_is_plain classes k (item.RightIn n) = is_column n

-- a variable in sight, or the one with the next number
abbrev pub can_be_bound : Numbered → ℕ → Bool
can_be_bound k n = is_in n k.sight || (n == k.given)

-- a `build` is plain by this
abbrev pub action_is_plain : (InSight → ℕ → List Hole → Bool) → List Class → InSight → Action → Bool
action_is_plain builds classes k (action.Make class puts) =
    nat_lt class (length classes) && list_all (put_is_plain classes k (class_of classes class)) puts
action_is_plain builds classes k (action.Modify cell puts) =
    cell_is_plain classes k cell && list_all (put_is_plain classes k (class_of classes (class_of_cell k cell))) puts
action_is_plain builds classes k (action.Remove cells) = nat_lt 0 (length cells) && list_all (λ c. nat_lt c (length k.cells)) cells
action_is_plain builds classes k (action.Write items) = list_all (item_is_plain classes k) items
action_is_plain builds classes k (action.Bind variable t) = can_be_bound k.variables variable && term_is_plain classes k false t
action_is_plain builds classes k (action.Cbind cell) = is_some k.made && (cell == length k.cells)
action_is_plain builds classes k action.Halt = true
action_is_plain builds classes k (action.Build template holes) = builds k template holes

abbrev pub actions_are_plain : (InSight → ℕ → List Hole → Bool) → List Class → InSight → List Action → Bool
actions_are_plain builds classes k [] = true
actions_are_plain builds classes k (a ∷ rest) = action_is_plain builds classes k a && actions_are_plain builds classes (after_action k a) rest

-- ---- productions

abbrev pub arrow : Word
arrow = record { kind = kind.Operator; keyword = keyword.Arrow; name = unnamed; first = 0; past = 0 }

-- NAME first condition* --> action* ), at the place of the rule
abbrev pub spelled_sides : (ℕ → List Hole → List Word) → Bool → List Hole → List Class → Rule → List Word
spelled_sides build built hs classes r =
    spelled_name r.name ∷ spelled_conditions hs 0 classes 0 r.conditions
    ++ arrow ∷ spelled_actions build hs classes (at_arrow built r.conditions) (total in_part r.conditions) r.actions
    ++ record closing { past = r.past } ∷ []

-- a production that is built builds none
abbrev pub spelled_no_build : ℕ → List Hole → List Word
spelled_no_build template holes = []

-- ( build NAME first condition* --> action* ), which has these holes
abbrev pub spelled_template : List Class → List Hole → Option Rule → List Word
spelled_template classes holes None = []
spelled_template classes holes (Some r) =
    record opening { first = r.first } ∷ spelled_keyword keyword.Build ∷ spelled_sides spelled_no_build true holes classes r

abbrev pub spelled_build : List Class → List Rule → ℕ → List Hole → List Word
spelled_build classes templates template holes = spelled_template classes holes (slice_get templates template)

-- ( p NAME first condition* --> action* )
abbrev pub spelled_rule : List Class → List Rule → Rule → List Word
spelled_rule classes templates r =
    record opening { first = r.first } ∷ spelled_keyword keyword.Production ∷ spelled_sides (spelled_build classes templates) false [] classes r

abbrev pub rule_is_plain_by : (InSight → ℕ → List Hole → Bool) → Bool → List Class → Rule → Bool
rule_is_plain_by builds built classes r =
    first_is_positive r.conditions && nat_le (length (elements_of r.conditions)) most_conditions && conditions_are_plain classes nothing_numbered r.conditions
    && actions_are_plain builds classes (at_arrow built r.conditions) r.actions
    && (r.variables == (after_actions (at_arrow built r.conditions) r.actions).variables.given) && (r.specificity == specificity r.conditions)
    && (r.cells == length (after_actions (at_arrow built r.conditions) r.actions).cells)

-- a production that builds none
abbrev pub builds_none : InSight → ℕ → List Hole → Bool
builds_none k template holes = false

-- how many constants a production has
abbrev pub constants_of : Rule → ℕ
constants_of r = total in_part r.conditions + total in_action r.actions

-- holes for variables in sight, in order, with numbers from n up to below m
abbrev pub holes_are_plain : List ℕ → ℕ → ℕ → List Hole → Bool
holes_are_plain sight n m [] = true
holes_are_plain sight n m (h ∷ hs) =
    nat_le n h.number && nat_lt h.number m && is_in h.variable sight && holes_are_plain sight (suc h.number) m hs

abbrev pub template_is_plain : List Class → List ℕ → List Hole → Option Rule → Bool
template_is_plain classes sight holes None = false
template_is_plain classes sight holes (Some r) = rule_is_plain_by builds_none true classes r && holes_are_plain sight 0 (constants_of r) holes

abbrev pub build_is_plain : List Class → List Rule → InSight → ℕ → List Hole → Bool
build_is_plain classes templates k template holes = template_is_plain classes k.variables.sight holes (slice_get templates template)

abbrev pub rule_is_plain : List Class → List Rule → Rule → Bool
rule_is_plain classes templates r = rule_is_plain_by (build_is_plain classes templates) false classes r

-- the number of the template from which an action builds
abbrev pub template_of : Action → List ℕ
template_of (action.Build template holes) = template ∷ []
template_of _ = []

-- the numbers of the templates from which actions build
abbrev pub templates_in : List Action → List ℕ
templates_in actions = flat_map template_of actions

abbrev pub templates_by : List Rule → List ℕ
templates_by rules = flat_map (λ r. templates_in r.actions) rules

-- these are the numbers from n on
abbrev pub are_next : ℕ → List ℕ → Bool
are_next n [] = true
are_next n (m ∷ ms) = (m == n) && are_next (suc n) ms

-- each template has one action that builds from it, in order
abbrev pub builds_in_order : List Rule → List Rule → Bool
builds_in_order rules templates = are_next 0 (templates_by rules) && (length (templates_by rules) == length templates)

-- ---- programs

-- a production that is added is spelled as any other
abbrev pub spelled_command : List Class → List Rule → Command → List Word
spelled_command classes templates (command.Make class puts) = spelled_fact (class_of classes class) puts
spelled_command classes templates (command.Remove tags) = spelled_short keyword.Remove (spelled_tags tags)
spelled_command classes templates command.RemoveAll = spelled_short keyword.Remove (spelled_keyword keyword.Times ∷ [])
spelled_command classes templates (command.Run count) = spelled_short keyword.Run (spelled_count count)
spelled_command classes templates (command.Wm tags) = spelled_short keyword.Wm (spelled_tags tags)
spelled_command classes templates (command.Ppwm pattern) = spelled_short keyword.Ppwm (spelled_shown classes pattern)
spelled_command classes templates command.Cs = spelled_short keyword.Cs []
spelled_command classes templates (command.Pm names) = spelled_short keyword.Pm (map spelled_name names)
spelled_command classes templates (command.Strategy set) = spelled_short keyword.Strategy (spelled_strategy set)
spelled_command classes templates (command.Watch set) = spelled_short keyword.Watch (spelled_count set)
spelled_command classes templates (command.Pbreak names) = spelled_short keyword.Pbreak (map spelled_name names)
spelled_command classes templates command.Exit = spelled_short keyword.Exit []
spelled_command classes templates (command.Add r) = spelled_rule classes templates r
spelled_command classes templates (command.Excise names) = spelled_short keyword.Excise (map spelled_name names)
spelled_command classes templates (command.Matches names) = spelled_short keyword.Matches (map spelled_name names)
spelled_command classes templates (command.Back count) = spelled_short keyword.Back (spelled_count (Some count))

-- the names of the classes' vector attributes
abbrev pub vectors_of : List Class → List Sym
vectors_of [] = []
vectors_of (c ∷ cs) = if c.vector then attribute_name c (last_field c) ∷ vectors_of cs else vectors_of cs

-- the attributes of a class without its vector attribute
abbrev pub scalars_of : Class → List Sym
scalars_of c = if c.vector then take (last_field c) c.attrs else c.attrs

-- where these are the names of vector attributes, none of the scalar attributes has one of them
abbrev pub class_is_plain : List Sym → Class → Bool
class_is_plain vectors c = class_is_valid c && list_all (λ a. not (is_one_of a vectors)) (scalars_of c)

-- the class is there, and the values fit its attributes
abbrev pub constants_are_plain : List Class → ℕ → List Fixed → Bool
constants_are_plain classes class puts = nat_lt class (length classes) && list_all (fixed_is_valid (class_of classes class)) puts

abbrev pub command_is_plain : List Class → List Rule → Command → Bool
command_is_plain classes templates (command.Make class puts) = constants_are_plain classes class puts
command_is_plain classes templates (command.Remove tags) = nat_lt 0 (length tags) && list_all is_natural tags
command_is_plain classes templates (command.Run None) = true
command_is_plain classes templates (command.Run (Some n)) = is_natural n
command_is_plain classes templates (command.Wm tags) = list_all is_natural tags
command_is_plain classes templates (command.Ppwm None) = true
command_is_plain classes templates (command.Ppwm (Some p)) = constants_are_plain classes p.0 p.1
command_is_plain classes templates (command.Pm names) = nat_lt 0 (length names)
command_is_plain classes templates (command.Watch None) = true
command_is_plain classes templates (command.Watch (Some n)) = nat_le n 2
command_is_plain classes templates command.RemoveAll = true
command_is_plain classes templates command.Cs = true
command_is_plain classes templates (command.Strategy set) = true
command_is_plain classes templates (command.Pbreak names) = true
command_is_plain classes templates command.Exit = true
command_is_plain classes templates (command.Add r) = rule_is_plain classes templates r
command_is_plain classes templates (command.Excise names) = nat_lt 0 (length names)
command_is_plain classes templates (command.Matches names) = nat_lt 0 (length names)
command_is_plain classes templates (command.Back count) = nat_le 1 count && nat_le count 32

-- none of the productions has the name of another, whether it stands at the beginning or is added
abbrev pub titles_are_distinct : List Rule → List Command → Bool
titles_are_distinct rules commands = are_distinct (map (λ r. r.name.0) (rules ++ added_by commands))

abbrev pub is_add : Command → Bool
is_add (command.Add r) = true
is_add _ = false

-- each production that is added stands after a `make` or a `run`
abbrev pub adds_late : List Command → Bool
adds_late [] = true
adds_late (c ∷ cs) = not (is_add c) && (if precedes_rules c then adds_late cs else true)

-- the program has a spelling
abbrev pub is_plain : List Class → List Rule → List Rule → List Command → Bool
is_plain classes rules templates commands =
    list_all (class_is_plain (vectors_of classes)) classes && list_all (rule_is_plain classes templates) rules
    && list_all (command_is_plain classes templates) commands && are_distinct (map (λ c. c.name.0) classes)
    && titles_are_distinct rules commands && adds_late commands && builds_in_order (rules ++ added_by commands) templates

abbrev pub spelled_program : List Class → List Rule → List Rule → List Command → List Word
spelled_program classes rules templates commands =
    spelled_each spelled_vector classes ++ spelled_each spelled_class classes ++ spelled_each (spelled_rule classes templates) rules
    ++ spelled_each (spelled_command classes templates) commands
