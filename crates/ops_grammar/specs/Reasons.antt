-- Why a word is refused: what each fault says of the word, of what is wanted there and of what was read before.
use Rattle.std.specs.Prelude.{◌≡◌, ◌⊎◌, ℕ, ◌+◌, ◌-◌, List, [], ◌∷◌, length, take, Bool, true, false, not, ◌&&◌, ◌||◌, nat_lt, Option, Some, None, is_some, slice_get}
use Rattle.std.specs.List.{list_any}
use Rattle.ops_base.specs.declared.values.Sym.{Sym}
use Rattle.ops_base.specs.declared.conditions.Part.{Part}
use Rattle.ops_base.specs.declared.endings.Fault.{Fault}
use Rattle.ops_base.specs.declared.endings.Fault.TheVariants as fault
use Rattle.ops_base.specs.declared.endings.Limit.TheVariants as limit
use Rattle.ops_base.specs.Valid.{most_fields, most_conditions, is_equality, elements_of}
use Rattle.ops_tokens.specs.declared.token.TokenKind.{TokenKind}
use Rattle.ops_tokens.specs.declared.token.TokenKind.TheVariants as kind
use Rattle.ops_grammar.specs.declared.words.Word.{Word}
use Rattle.ops_grammar.specs.declared.words.Keyword.{Keyword}
use Rattle.ops_grammar.specs.declared.words.Keyword.TheVariants as keyword
use Rattle.ops_grammar.specs.Grammar.{InPattern, InPut, InFixed, ToTest, ToFixed, ToConstants, Wanted, Forms, Form, ClassDeclared, Attributes, VectorName, VectorNames, RuleName, FirstPattern, Patterns, Braced, ElementName, ClassName, Attribute, Several, Shown, Place, Tests, Tested, Choice, Atom, ValueFor, ExpressionUnit, Bracketed, SourceCell, SourceAttribute, Modified, BoundValue, CellName, Cell, Cells, Items, State, most_brackets, is_left, is_name, is_variable, is_minus, natural_of, is_one_of, number_of, may_declare, is_class, is_rule, is_second, makes_second, attributes_of, source_class, is_absent, Members, has_room, begins_group, values_around}
use Rattle.ops_grammar.specs.Derivation.{is_designator}

-- The numbers of the faults, by which one of several at a word is chosen. No text has a late production any more: one
-- after the first `make` or `run` is added. Its number stays free.
abbrev pub fault_number : Fault → ℕ
fault_number fault.BadByte = 1
fault_number fault.Unclosed = 2
fault_number fault.Stray = 3
fault_number fault.FractionNumber = 4
fault_number fault.NumberRange = 5
fault_number fault.UnknownCommand = 6
fault_number fault.BadForm = 7
fault_number fault.UnknownClass = 8
fault_number fault.UnknownAttribute = 9
fault_number fault.DeclaredTwice = 10
fault_number fault.TwoVectors = 11
fault_number fault.LateDeclaration = 12
fault_number fault.LateProduction = 13
fault_number fault.FirstNegated = 14
fault_number fault.UnboundVariable = 15
fault_number fault.BadDesignator = 16
fault_number fault.AmbiguousDesignator = 17
fault_number (fault.LimitPassed l) = 18
fault_number fault.TooLong = 19

-- the fault of a word that continues no form
abbrev pub no_form_fault : List Wanted → Fault
no_form_fault [] = fault.Stray
no_form_fault (Forms ∷ ws) = fault.Stray
no_form_fault (Form ∷ ws) = fault.UnknownCommand
no_form_fault (w ∷ ws) = fault.BadForm

-- the word of a form
abbrev pub wants_form : List Wanted → Bool
wants_form (Form ∷ ws) = true
wants_form ws = false

-- a literalize or a vector-attribute
abbrev pub is_declaration : Keyword → Bool
is_declaration keyword.Literalize = true
is_declaration keyword.VectorAttribute = true
is_declaration _ = false

abbrev pub wants_class : List Wanted → Bool
wants_class (ClassName ∷ ws) = true
wants_class (Shown ∷ ws) = true
wants_class ws = false

abbrev pub wants_attribute : List Wanted → Bool
wants_attribute (Attribute u ∷ ws) = true
wants_attribute (SourceAttribute t ∷ ws) = true
wants_attribute ws = false

-- the attributes of which one is wanted: those of the class that was named, or of the cell that a `substr` reads
abbrev pub attributes_wanted : List Wanted → State → List Sym
attributes_wanted (SourceAttribute t ∷ ws) s = (source_class s).attrs
attributes_wanted ws s = attributes_of (slice_get s.classes s.class)

-- such a name was declared already
abbrev pub is_declared : List Wanted → Sym → State → Bool
is_declared (ClassDeclared ∷ ws) name s = is_class s name
is_declared (Attributes ∷ ws) name s = is_one_of name s.attrs
is_declared (RuleName ∷ ws) name s = is_rule s name
is_declared ws name s = false

-- a class would get its second vector attribute by this name
abbrev pub gives_second : List Wanted → Sym → State → Bool
gives_second (Attributes ∷ ws) name s = is_second name s
gives_second (VectorName ∷ ws) name s = not (is_one_of name s.vectors) && makes_second name s.classes
gives_second (VectorNames ∷ ws) name s = not (is_one_of name s.vectors) && makes_second name s.classes
gives_second ws name s = false

-- an attribute or a value more would take the 128th field
abbrev pub is_full : List Wanted → State → Bool
is_full (Attributes ∷ ws) s = not (nat_lt (length s.attrs) most_fields)
is_full (Several InPattern f ∷ ws) s = not (nat_lt f most_fields)
is_full (Several InFixed f ∷ ws) s = not (nat_lt (f + length s.constants) most_fields)
is_full ws s = false

-- one more open bracket would be too many
abbrev pub nests_deepest : List Wanted → Bool
nests_deepest (ExpressionUnit d ∷ ws) = not (nat_lt d most_brackets)
nests_deepest (Bracketed d ∷ ws) = not (nat_lt d most_brackets)
nests_deepest ws = false

-- a further condition
abbrev pub wants_condition : List Wanted → Bool
wants_condition (Patterns ∷ ws) = true
wants_condition (Members n ∷ ws) = true
wants_condition ws = false

-- there is no room for one more
abbrev pub is_crowded : List Wanted → State → Bool
is_crowded (Members n ∷ ws) s = not (has_room s)
is_crowded ws s = not (nat_lt (length (elements_of s.conditions)) most_conditions)

-- the first condition of a production
abbrev pub wants_first : List Wanted → Bool
wants_first (FirstPattern ∷ ws) = true
wants_first ws = false

-- a variable that stands here must be bound: after another predicate than an equality, and where a value is wanted
abbrev pub wants_bound : List Wanted → Bool
wants_bound (Tested f p ∷ ws) = not (is_equality p)
wants_bound (ValueFor t ∷ ws) = true
wants_bound (ExpressionUnit d ∷ ws) = true
wants_bound (Bracketed d ∷ ws) = true
wants_bound (BoundValue ∷ ws) = true
wants_bound (Several InPut f ∷ ws) = true
wants_bound (Several InFixed f ∷ ws) = true
wants_bound (Items ∷ ws) = true
wants_bound ws = false

-- a constant may stand here
abbrev pub wants_constant : List Wanted → Bool
wants_constant (Place f ∷ ws) = true
wants_constant (Tests f ∷ ws) = true
wants_constant (Tested f p ∷ ws) = true
wants_constant (Choice f ∷ ws) = true
wants_constant (Atom t ∷ ws) = true
wants_constant (ValueFor t ∷ ws) = true
wants_constant (Several u f ∷ ws) = true
wants_constant (BoundValue ∷ ws) = true
wants_constant (Items ∷ ws) = true
wants_constant ws = false

-- the word is a hole for a variable that the production around does not bind
abbrev pub is_unfilled : Keyword → State → Bool
is_unfilled (keyword.Hole variable at) s = not (is_some (number_of variable (values_around s.outer)))
is_unfilled _ s = false

-- A command sees no variable. (Nor does a value that is wanted for a test, which no text comes to.)
abbrev pub is_bound : List Wanted → Sym → State → Bool
is_bound (ValueFor (ToTest f p) ∷ ws) name s = false
is_bound (ValueFor (ToFixed f) ∷ ws) name s = false
is_bound (ValueFor ToConstants ∷ ws) name s = false
is_bound (Several InFixed f ∷ ws) name s = false
is_bound ws name s = is_some (number_of name s.values)

abbrev pub is_positive : Option Part → Bool
is_positive (Some p) = not (is_absent p)
is_positive None = false

abbrev pub is_condition : State → Option ℕ → Bool
is_condition s (Some n) = is_positive (slice_get s.conditions (n - 1))
is_condition s None = false

-- the number of a positive condition, or an element variable
abbrev pub designates : TokenKind → Sym → State → Bool
designates (kind.Whole n) name s = is_condition s (natural_of n)
designates kind.Variable name s = is_some (number_of name s.elements)
designates _ name s = false

abbrev pub is_unclear : State → Option ℕ → Bool
is_unclear s (Some n) = list_any is_absent (take (n - 1) s.conditions)
is_unclear s None = false

-- the number of a condition after a negated one
abbrev pub designates_unclearly : TokenKind → State → Bool
designates_unclearly (kind.Whole n) s = is_unclear s (natural_of n)
designates_unclearly _ s = false

-- a designator
abbrev pub wants_cell : List Wanted → Bool
wants_cell (Modified ∷ ws) = true
wants_cell (Cell ∷ ws) = true
wants_cell (Cells ∷ ws) = true
wants_cell ws = false

-- the word designates no cell, it binds an element variable of a left side once more, or it is to name an element where
-- none was made
abbrev pub is_bad_designator : List Wanted → Word → State → Bool
is_bad_designator (Modified ∷ ws) w s = is_designator w.kind && not (designates w.kind w.name s)
is_bad_designator (CellName ∷ ws) w s = is_variable w.kind && not (is_some s.made)
is_bad_designator (Cell ∷ ws) w s = is_designator w.kind && not (designates w.kind w.name s)
is_bad_designator (Cells ∷ ws) w s = is_designator w.kind && not (designates w.kind w.name s)
is_bad_designator (SourceCell ∷ ws) w s = is_variable w.kind && not (is_some (number_of w.name s.elements))
is_bad_designator (Braced ∷ ws) w s = is_variable w.kind && is_some (number_of w.name s.elements)
is_bad_designator (ElementName ∷ ws) w s = is_variable w.kind && is_some (number_of w.name s.elements)
is_bad_designator ws w s = false

-- the reason why the word is refused with this fault
abbrev pub Because : Fault → Word → List Wanted → State → Type 0
Because fault.UnknownClass w ws s = (wants_class ws ≡ true) × (is_name w.kind ≡ true) × (is_class s w.name ≡ false)
Because fault.UnknownAttribute w ws s = (wants_attribute ws ≡ true) × (is_name w.kind ≡ true) × (is_one_of w.name (attributes_wanted ws s) ≡ false)
Because fault.DeclaredTwice w ws s = (is_name w.kind ≡ true) × (is_declared ws w.name s ≡ true)
Because fault.TwoVectors w ws s = (is_name w.kind ≡ true) × (gives_second ws w.name s ≡ true)
Because fault.LateDeclaration w ws s = (wants_form ws ≡ true) × (is_declaration w.keyword ≡ true) × (may_declare s ≡ false)
Because fault.UnboundVariable w ws s =
    ((wants_bound ws ≡ true) × (is_variable w.kind ≡ true) × (is_bound ws w.name s ≡ false)) ⊎ ((wants_constant ws ≡ true) × (is_unfilled w.keyword s ≡ true))
Because fault.BadDesignator w ws s = is_bad_designator ws w s ≡ true
Because (fault.LimitPassed limit.Fields) w ws s = is_full ws s ≡ true
Because (fault.LimitPassed limit.Conditions) w ws s = (wants_condition ws ≡ true) × (is_crowded ws s ≡ true)
Because (fault.LimitPassed limit.Nesting) w ws s = (is_left w.kind ≡ true) × (nests_deepest ws ≡ true)
Because fault.Stray w ws s = no_form_fault ws ≡ fault.Stray
Because fault.UnknownCommand w ws s = no_form_fault ws ≡ fault.UnknownCommand
Because fault.BadForm w ws s = no_form_fault ws ≡ fault.BadForm
Because fault.FirstNegated w ws s = ((is_minus w.keyword || begins_group w.keyword) ≡ true) × (wants_first ws ≡ true)
Because fault.AmbiguousDesignator w ws s = (wants_cell ws ≡ true) × (designates w.kind w.name s ≡ true) × (designates_unclearly w.kind s ≡ true)
Because _ w ws s = ⊥
