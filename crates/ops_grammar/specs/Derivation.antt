-- The grammar alone: which words may stand where something is wanted, whatever was declared and bound before them.
use Rattle.std.specs.Prelude.{◌≡◌, ℕ, suc, List, [], ◌∷◌, ◌++◌, if◌then◌else◌, Bool, true, false, not, ◌&&◌, ◌||◌, ◌==◌, Option, Some, None, is_some, nat_le}
use Rattle.ops_base.specs.declared.values.Sym.{Sym}
use Rattle.ops_base.specs.declared.values.Pred.{Pred}
use Rattle.ops_base.specs.declared.values.Pred.TheVariants as pred
use Rattle.ops_base.specs.declared.endings.Fault.{Fault}
use Rattle.ops_base.specs.declared.endings.Fault.TheVariants as fault
use Rattle.ops_tokens.specs.declared.token.TokenKind.{TokenKind}
use Rattle.ops_tokens.specs.declared.token.TokenKind.TheVariants as kind
use Rattle.ops_grammar.specs.declared.words.Word.{Word}
use Rattle.ops_grammar.specs.declared.words.Keyword.TheVariants as keyword
use Rattle.ops_grammar.specs.Grammar.{Use, InPattern, InPut, InFixed, Target, ToTest, ToTerms, ToConstants, ToItem, ToBind, Ends, EndsHalt, EndsCrlf, EndsCs, EndsExit, EndsWhole, TagUse, ToRemove, ToShow, NameUse, ToPrint, ToBreak, ToExcise, ToMatch, Column, ToTab, ToRight, Wanted, Forms, Form, ClassDeclared, Attributes, VectorName, VectorNames, RuleName, FirstPattern, Patterns, Pattern, Braced, ElementName, ClosesBrace, ClassName, Terms, Attribute, Several, Place, Tests, Tested, Choice, Atom, ValueFor, Function, Waiting, ExpressionUnit, ExpressionRest, Bracketed, SourceCell, SourceAttribute, SourceEnd, Actions, ActionWord, BuiltName, Modified, BoundName, BoundValue, CellName, Cell, Cells, Items, ItemWord, Columns, Count, StrategyName, TagOrAll, Tags, Shown, NamedRule, NamedRules, Level, Undone, Closes, is_left, is_right, is_left_brace, is_right_brace, is_caret, is_name, is_variable, is_literal, is_inf, operation_of, is_of_action, takes_several, is_minus, opens_choice, closes_choice, pred_of, constant_of, value_of, atom_of, small_of, count_of, strategy_of, is_all, level_of, undone_of, is_one_of, behind_attribute, GroupBrace, Members, begins_group}

-- WHOLE
abbrev pub is_whole : TokenKind → Bool
is_whole (kind.Whole n) = true
is_whole _ = false

-- WHOLE | VARIABLE
abbrev pub is_designator : TokenKind → Bool
is_designator k = is_whole k || is_variable k

-- WHOLE | NAME | VARIABLE
abbrev pub is_operand : Word → Bool
is_operand w = is_some (constant_of w.kind w.name) || is_variable w.kind

-- any atom, but //
abbrev pub is_value : Word → Bool
is_value w = not (is_literal w.keyword) && (is_some (value_of w.kind w.name) || is_variable w.kind)

-- any atom
abbrev pub is_atom : Word → Bool
is_atom w = is_some (atom_of w.kind w.name)

-- any atom, but the operator >>
abbrev pub is_choice : Word → Bool
is_choice w = not (closes_choice w.keyword) && is_atom w

-- these names with one more, where it is none of them
abbrev pub with_name : Sym → List Sym → List Sym
with_name name names = if is_one_of name names then names else names ++ name ∷ []

-- The words derive from what is wanted, where these are the names of vector attributes: a case for each choice of each
-- line of the grammar.
pub data Derives : List Sym → List Wanted → List Word → Type 0 where
  nothing : {vs : List Sym} → Derives vs [] []
  -- text = form*
  no_form : {vs : List Sym} {ws : List Wanted} {ts : List Word} → Derives vs ws ts → Derives vs (Forms ∷ ws) ts
  a_form : {vs : List Sym} {ws : List Wanted} {w : Word} {ts : List Word} → is_left w.kind ≡ true → Derives vs (Form ∷ Forms ∷ ws) ts → Derives vs (Forms ∷ ws) (w ∷ ts)
  -- form = ( literalize NAME NAME* )
  a_literalize : {vs : List Sym} {ws : List Wanted} {w : Word} {ts : List Word} → w.keyword ≡ keyword.Literalize → Derives vs (ClassDeclared ∷ Attributes ∷ ws) ts → Derives vs (Form ∷ ws) (w ∷ ts)
  a_class : {vs : List Sym} {ws : List Wanted} {w : Word} {ts : List Word} → is_name w.kind ≡ true → Derives vs ws ts → Derives vs (ClassDeclared ∷ ws) (w ∷ ts)
  an_attribute : {vs : List Sym} {ws : List Wanted} {w : Word} {ts : List Word} → is_name w.kind ≡ true → Derives vs (Attributes ∷ ws) ts → Derives vs (Attributes ∷ ws) (w ∷ ts)
  no_attribute : {vs : List Sym} {ws : List Wanted} {w : Word} {ts : List Word} → is_right w.kind ≡ true → Derives vs ws ts → Derives vs (Attributes ∷ ws) (w ∷ ts)
  -- form = ( vector-attribute NAME NAME* )
  a_vector_declaration : {vs : List Sym} {ws : List Wanted} {w : Word} {ts : List Word} → w.keyword ≡ keyword.VectorAttribute → Derives vs (VectorName ∷ VectorNames ∷ ws) ts → Derives vs (Form ∷ ws) (w ∷ ts)
  a_vector : {vs : List Sym} {ws : List Wanted} {w : Word} {ts : List Word} → is_name w.kind ≡ true → Derives (with_name w.name vs) ws ts → Derives vs (VectorName ∷ ws) (w ∷ ts)
  one_more_vector : {vs : List Sym} {ws : List Wanted} {w : Word} {ts : List Word} → is_name w.kind ≡ true → Derives (with_name w.name vs) (VectorNames ∷ ws) ts → Derives vs (VectorNames ∷ ws) (w ∷ ts)
  no_more_vectors : {vs : List Sym} {ws : List Wanted} {w : Word} {ts : List Word} → is_right w.kind ≡ true → Derives vs ws ts → Derives vs (VectorNames ∷ ws) (w ∷ ts)
  -- form = ( p NAME first condition* --> action* ); a first that is negated continues the grammar, and is refused as that
  a_production : {vs : List Sym} {ws : List Wanted} {w : Word} {ts : List Word} → w.keyword ≡ keyword.Production → Derives vs (RuleName ∷ FirstPattern ∷ Patterns ∷ Actions false ∷ ws) ts → Derives vs (Form ∷ ws) (w ∷ ts)
  a_rule : {vs : List Sym} {ws : List Wanted} {w : Word} {ts : List Word} → is_name w.kind ≡ true → Derives vs ws ts → Derives vs (RuleName ∷ ws) (w ∷ ts)
  a_first : {vs : List Sym} {ws : List Wanted} {w : Word} {ts : List Word} → is_left w.kind ≡ true → Derives vs (ClassName ∷ Terms InPattern ∷ ws) ts → Derives vs (FirstPattern ∷ ws) (w ∷ ts)
  a_braced_first : {vs : List Sym} {ws : List Wanted} {w : Word} {ts : List Word} → is_left_brace w.kind ≡ true → Derives vs (Braced ∷ ws) ts → Derives vs (FirstPattern ∷ ws) (w ∷ ts)
  a_negated_first : {vs : List Sym} {ws : List Wanted} {w : Word} {ts : List Word} → is_minus w.keyword ≡ true → Derives vs (Pattern ∷ ws) ts → Derives vs (FirstPattern ∷ ws) (w ∷ ts)
  a_pattern : {vs : List Sym} {ws : List Wanted} {w : Word} {ts : List Word} → is_left w.kind ≡ true → Derives vs (ClassName ∷ Terms InPattern ∷ Patterns ∷ ws) ts → Derives vs (Patterns ∷ ws) (w ∷ ts)
  a_braced_pattern : {vs : List Sym} {ws : List Wanted} {w : Word} {ts : List Word} → is_left_brace w.kind ≡ true → Derives vs (Braced ∷ Patterns ∷ ws) ts → Derives vs (Patterns ∷ ws) (w ∷ ts)
  a_negated_pattern : {vs : List Sym} {ws : List Wanted} {w : Word} {ts : List Word} → is_minus w.keyword ≡ true → Derives vs (Pattern ∷ Patterns ∷ ws) ts → Derives vs (Patterns ∷ ws) (w ∷ ts)
  a_group_first : {vs : List Sym} {ws : List Wanted} {w : Word} {ts : List Word} → begins_group w.keyword ≡ true → Derives vs (GroupBrace ∷ ws) ts → Derives vs (FirstPattern ∷ ws) (w ∷ ts)
  a_group_pattern : {vs : List Sym} {ws : List Wanted} {w : Word} {ts : List Word} → begins_group w.keyword ≡ true → Derives vs (GroupBrace ∷ Patterns ∷ ws) ts → Derives vs (Patterns ∷ ws) (w ∷ ts)
  -- - { pattern pattern pattern* }
  a_group : {vs : List Sym} {ws : List Wanted} {w : Word} {ts : List Word} → is_left_brace w.kind ≡ true → Derives vs (Members 0 ∷ ws) ts → Derives vs (GroupBrace ∷ ws) (w ∷ ts)
  a_member : {vs : List Sym} {n : ℕ} {ws : List Wanted} {w : Word} {ts : List Word} → is_left w.kind ≡ true → Derives vs (ClassName ∷ Terms InPattern ∷ Members (suc n) ∷ ws) ts → Derives vs (Members n ∷ ws) (w ∷ ts)
  no_member : {vs : List Sym} {n : ℕ} {ws : List Wanted} {w : Word} {ts : List Word} → is_right_brace w.kind ≡ true → nat_le 2 n ≡ true → Derives vs ws ts → Derives vs (Members n ∷ ws) (w ∷ ts)
  a_whole_pattern : {vs : List Sym} {ws : List Wanted} {w : Word} {ts : List Word} → is_left w.kind ≡ true → Derives vs (ClassName ∷ Terms InPattern ∷ ws) ts → Derives vs (Pattern ∷ ws) (w ∷ ts)
  -- positive = { VARIABLE pattern } | { pattern VARIABLE }
  a_name_before : {vs : List Sym} {ws : List Wanted} {w : Word} {ts : List Word} → is_variable w.kind ≡ true → Derives vs (Pattern ∷ ClosesBrace ∷ ws) ts → Derives vs (Braced ∷ ws) (w ∷ ts)
  a_name_behind : {vs : List Sym} {ws : List Wanted} {w : Word} {ts : List Word} → is_left w.kind ≡ true → Derives vs (ClassName ∷ Terms InPattern ∷ ElementName ∷ ClosesBrace ∷ ws) ts → Derives vs (Braced ∷ ws) (w ∷ ts)
  an_element_name : {vs : List Sym} {ws : List Wanted} {w : Word} {ts : List Word} → is_variable w.kind ≡ true → Derives vs ws ts → Derives vs (ElementName ∷ ws) (w ∷ ts)
  a_closed_brace : {vs : List Sym} {ws : List Wanted} {w : Word} {ts : List Word} → is_right_brace w.kind ≡ true → Derives vs ws ts → Derives vs (ClosesBrace ∷ ws) (w ∷ ts)
  an_arrow : {vs : List Sym} {ws : List Wanted} {w : Word} {ts : List Word} → w.keyword ≡ keyword.Arrow → Derives vs ws ts → Derives vs (Patterns ∷ ws) (w ∷ ts)
  -- form = ( make CLASS fixed* ), form = ( run [NAT] ), form = ( strategy ) | ( strategy lex ) | ( strategy mea )
  a_make : {vs : List Sym} {ws : List Wanted} {w : Word} {ts : List Word} → w.keyword ≡ keyword.Make → Derives vs (ClassName ∷ Terms InFixed ∷ ws) ts → Derives vs (Form ∷ ws) (w ∷ ts)
  a_run : {vs : List Sym} {ws : List Wanted} {w : Word} {ts : List Word} → w.keyword ≡ keyword.Run → Derives vs (Count ∷ ws) ts → Derives vs (Form ∷ ws) (w ∷ ts)
  a_count : {vs : List Sym} {ws : List Wanted} {w : Word} {ts : List Word} → is_some (count_of w.kind) ≡ true → Derives vs (Closes EndsWhole ∷ ws) ts → Derives vs (Count ∷ ws) (w ∷ ts)
  no_count : {vs : List Sym} {ws : List Wanted} {w : Word} {ts : List Word} → is_right w.kind ≡ true → Derives vs ws ts → Derives vs (Count ∷ ws) (w ∷ ts)
  a_strategy : {vs : List Sym} {ws : List Wanted} {w : Word} {ts : List Word} → w.keyword ≡ keyword.Strategy → Derives vs (StrategyName ∷ ws) ts → Derives vs (Form ∷ ws) (w ∷ ts)
  a_strategy_name : {vs : List Sym} {ws : List Wanted} {w : Word} {ts : List Word} → is_some (strategy_of w.keyword) ≡ true → Derives vs (Closes EndsWhole ∷ ws) ts → Derives vs (StrategyName ∷ ws) (w ∷ ts)
  no_strategy_name : {vs : List Sym} {ws : List Wanted} {w : Word} {ts : List Word} → is_right w.kind ≡ true → Derives vs ws ts → Derives vs (StrategyName ∷ ws) (w ∷ ts)
  -- form = ( remove NAT NAT* ) | ( remove * ), form = ( wm NAT* )
  a_remove_command : {vs : List Sym} {ws : List Wanted} {w : Word} {ts : List Word} → w.keyword ≡ keyword.Remove → Derives vs (TagOrAll ∷ ws) ts → Derives vs (Form ∷ ws) (w ∷ ts)
  all_tags : {vs : List Sym} {ws : List Wanted} {w : Word} {ts : List Word} → is_all w.keyword ≡ true → Derives vs (Closes EndsWhole ∷ ws) ts → Derives vs (TagOrAll ∷ ws) (w ∷ ts)
  a_first_tag : {vs : List Sym} {ws : List Wanted} {w : Word} {ts : List Word} → is_some (count_of w.kind) ≡ true → Derives vs (Tags ToRemove ∷ ws) ts → Derives vs (TagOrAll ∷ ws) (w ∷ ts)
  a_wm : {vs : List Sym} {ws : List Wanted} {w : Word} {ts : List Word} → w.keyword ≡ keyword.Wm → Derives vs (Tags ToShow ∷ ws) ts → Derives vs (Form ∷ ws) (w ∷ ts)
  one_more_tag : {vs : List Sym} {u : TagUse} {ws : List Wanted} {w : Word} {ts : List Word} → is_some (count_of w.kind) ≡ true → Derives vs (Tags u ∷ ws) ts → Derives vs (Tags u ∷ ws) (w ∷ ts)
  no_more_tags : {vs : List Sym} {u : TagUse} {ws : List Wanted} {w : Word} {ts : List Word} → is_right w.kind ≡ true → Derives vs ws ts → Derives vs (Tags u ∷ ws) (w ∷ ts)
  -- form = ( ppwm ) | ( ppwm CLASS fixed* )
  a_ppwm : {vs : List Sym} {ws : List Wanted} {w : Word} {ts : List Word} → w.keyword ≡ keyword.Ppwm → Derives vs (Shown ∷ ws) ts → Derives vs (Form ∷ ws) (w ∷ ts)
  a_shown_class : {vs : List Sym} {ws : List Wanted} {w : Word} {ts : List Word} → is_name w.kind ≡ true → Derives vs (Terms InFixed ∷ ws) ts → Derives vs (Shown ∷ ws) (w ∷ ts)
  all_shown : {vs : List Sym} {ws : List Wanted} {w : Word} {ts : List Word} → is_right w.kind ≡ true → Derives vs ws ts → Derives vs (Shown ∷ ws) (w ∷ ts)
  -- form = ( cs ), form = ( exit )
  a_cs : {vs : List Sym} {ws : List Wanted} {w : Word} {ts : List Word} → w.keyword ≡ keyword.Cs → Derives vs (Closes EndsCs ∷ ws) ts → Derives vs (Form ∷ ws) (w ∷ ts)
  an_exit : {vs : List Sym} {ws : List Wanted} {w : Word} {ts : List Word} → w.keyword ≡ keyword.Exit → Derives vs (Closes EndsExit ∷ ws) ts → Derives vs (Form ∷ ws) (w ∷ ts)
  -- form = ( pm NAME NAME* ), form = ( pbreak NAME* ), form = ( excise NAME NAME* ), form = ( matches NAME NAME* )
  a_pm : {vs : List Sym} {ws : List Wanted} {w : Word} {ts : List Word} → w.keyword ≡ keyword.Pm → Derives vs (NamedRule ∷ NamedRules ToPrint ∷ ws) ts → Derives vs (Form ∷ ws) (w ∷ ts)
  a_pbreak : {vs : List Sym} {ws : List Wanted} {w : Word} {ts : List Word} → w.keyword ≡ keyword.Pbreak → Derives vs (NamedRules ToBreak ∷ ws) ts → Derives vs (Form ∷ ws) (w ∷ ts)
  an_excise : {vs : List Sym} {ws : List Wanted} {w : Word} {ts : List Word} → w.keyword ≡ keyword.Excise → Derives vs (NamedRule ∷ NamedRules ToExcise ∷ ws) ts → Derives vs (Form ∷ ws) (w ∷ ts)
  a_matches : {vs : List Sym} {ws : List Wanted} {w : Word} {ts : List Word} → w.keyword ≡ keyword.Matches → Derives vs (NamedRule ∷ NamedRules ToMatch ∷ ws) ts → Derives vs (Form ∷ ws) (w ∷ ts)
  a_named_rule : {vs : List Sym} {ws : List Wanted} {w : Word} {ts : List Word} → is_name w.kind ≡ true → Derives vs ws ts → Derives vs (NamedRule ∷ ws) (w ∷ ts)
  one_more_rule : {vs : List Sym} {u : NameUse} {ws : List Wanted} {w : Word} {ts : List Word} → is_name w.kind ≡ true → Derives vs (NamedRules u ∷ ws) ts → Derives vs (NamedRules u ∷ ws) (w ∷ ts)
  no_more_rules : {vs : List Sym} {u : NameUse} {ws : List Wanted} {w : Word} {ts : List Word} → is_right w.kind ≡ true → Derives vs ws ts → Derives vs (NamedRules u ∷ ws) (w ∷ ts)
  -- form = ( watch ) | ( watch 0 ) | ( watch 1 ) | ( watch 2 )
  a_watch : {vs : List Sym} {ws : List Wanted} {w : Word} {ts : List Word} → w.keyword ≡ keyword.Watch → Derives vs (Level ∷ ws) ts → Derives vs (Form ∷ ws) (w ∷ ts)
  a_level : {vs : List Sym} {ws : List Wanted} {w : Word} {ts : List Word} → is_some (level_of w.kind) ≡ true → Derives vs (Closes EndsWhole ∷ ws) ts → Derives vs (Level ∷ ws) (w ∷ ts)
  no_level : {vs : List Sym} {ws : List Wanted} {w : Word} {ts : List Word} → is_right w.kind ≡ true → Derives vs ws ts → Derives vs (Level ∷ ws) (w ∷ ts)
  -- form = ( back ) | ( back UNDONE )
  a_back : {vs : List Sym} {ws : List Wanted} {w : Word} {ts : List Word} → w.keyword ≡ keyword.Back → Derives vs (Undone ∷ ws) ts → Derives vs (Form ∷ ws) (w ∷ ts)
  some_undone : {vs : List Sym} {ws : List Wanted} {w : Word} {ts : List Word} → is_some (undone_of w.kind) ≡ true → Derives vs (Closes EndsWhole ∷ ws) ts → Derives vs (Undone ∷ ws) (w ∷ ts)
  one_undone : {vs : List Sym} {ws : List Wanted} {w : Word} {ts : List Word} → is_right w.kind ≡ true → Derives vs ws ts → Derives vs (Undone ∷ ws) (w ∷ ts)
  -- CLASS; term = ^ ATTR place*; put = ^ ATTR value*; fixed = ^ ATTR value*
  a_class_name : {vs : List Sym} {ws : List Wanted} {w : Word} {ts : List Word} → is_name w.kind ≡ true → Derives vs ws ts → Derives vs (ClassName ∷ ws) (w ∷ ts)
  a_term : {vs : List Sym} {u : Use} {ws : List Wanted} {w : Word} {ts : List Word} → is_caret w.kind ≡ true → Derives vs (Attribute u ∷ ws) ts → Derives vs (Terms u ∷ ws) (w ∷ ts)
  no_term : {vs : List Sym} {u : Use} {ws : List Wanted} {w : Word} {ts : List Word} → is_right w.kind ≡ true → Derives vs ws ts → Derives vs (Terms u ∷ ws) (w ∷ ts)
  -- after a scalar attribute one place or value, after a vector attribute as many as come
  a_scalar_attribute : {vs : List Sym} {u : Use} (f : ℕ) {ws : List Wanted} {w : Word} {ts : List Word} → is_name w.kind ≡ true → is_one_of w.name vs ≡ false → Derives vs (behind_attribute u f ∷ Terms u ∷ ws) ts → Derives vs (Attribute u ∷ ws) (w ∷ ts)
  a_vector_attribute : {vs : List Sym} {u : Use} (f : ℕ) {ws : List Wanted} {w : Word} {ts : List Word} → is_name w.kind ≡ true → is_one_of w.name vs ≡ true → Derives vs (Several u f ∷ ws) ts → Derives vs (Attribute u ∷ ws) (w ∷ ts)
  one_more_place : {vs : List Sym} {f : ℕ} {ws : List Wanted} {ts : List Word} → Derives vs (Place f ∷ Several InPattern (suc f) ∷ ws) ts → Derives vs (Several InPattern f ∷ ws) ts
  one_more_term : {vs : List Sym} {f : ℕ} {ws : List Wanted} {ts : List Word} → Derives vs (ValueFor ToTerms ∷ Several InPut f ∷ ws) ts → Derives vs (Several InPut f ∷ ws) ts
  one_more_constant : {vs : List Sym} {f : ℕ} {ws : List Wanted} {ts : List Word} → Derives vs (ValueFor ToConstants ∷ Several InFixed f ∷ ws) ts → Derives vs (Several InFixed f ∷ ws) ts
  no_more_of_several : {vs : List Sym} {u : Use} {f : ℕ} {ws : List Wanted} {ts : List Word} → Derives vs (Terms u ∷ ws) ts → Derives vs (Several u f ∷ ws) ts
  a_value : {vs : List Sym} {t : Target} {ws : List Wanted} {w : Word} {ts : List Word} → is_value w ≡ true → Derives vs ws ts → Derives vs (ValueFor t ∷ ws) (w ∷ ts)
  a_literal_value : {vs : List Sym} {t : Target} {ws : List Wanted} {w : Word} {ts : List Word} → is_literal w.keyword ≡ true → Derives vs (Atom t ∷ ws) ts → Derives vs (ValueFor t ∷ ws) (w ∷ ts)
  a_function : {vs : List Sym} {t : Target} {ws : List Wanted} {w : Word} {ts : List Word} → is_left w.kind ≡ true → is_of_action t ≡ true → Derives vs (Function t ∷ ws) ts → Derives vs (ValueFor t ∷ ws) (w ∷ ts)
  -- ( compute expr ) | ( genatom ) | ( accept )
  a_compute : {vs : List Sym} {t : Target} (d : ℕ) {ws : List Wanted} {w : Word} {ts : List Word} → w.keyword ≡ keyword.Compute → Derives vs (ExpressionUnit d ∷ ExpressionRest d [] (Some t) ∷ ws) ts → Derives vs (Function t ∷ ws) (w ∷ ts)
  a_genatom : {vs : List Sym} {t : Target} {ws : List Wanted} {w : Word} {ts : List Word} → w.keyword ≡ keyword.Genatom → Derives vs (Closes EndsWhole ∷ ws) ts → Derives vs (Function t ∷ ws) (w ∷ ts)
  an_accept : {vs : List Sym} {t : Target} {ws : List Wanted} {w : Word} {ts : List Word} → w.keyword ≡ keyword.Accept → Derives vs (Closes EndsWhole ∷ ws) ts → Derives vs (Function t ∷ ws) (w ∷ ts)
  -- expr = unit | unit OP expr
  a_unit : {vs : List Sym} {d : ℕ} {ws : List Wanted} {w : Word} {ts : List Word} → is_designator w.kind ≡ true → Derives vs ws ts → Derives vs (ExpressionUnit d ∷ ws) (w ∷ ts)
  a_bracketed_unit : {vs : List Sym} {d : ℕ} {ws : List Wanted} {w : Word} {ts : List Word} → is_left w.kind ≡ true → Derives vs (Bracketed (suc d) ∷ ws) ts → Derives vs (ExpressionUnit d ∷ ws) (w ∷ ts)
  a_bracketed_compute : {vs : List Sym} {d : ℕ} {ws : List Wanted} {w : Word} {ts : List Word} → w.keyword ≡ keyword.Compute → Derives vs (ExpressionUnit d ∷ ExpressionRest d [] None ∷ ws) ts → Derives vs (Bracketed d ∷ ws) (w ∷ ts)
  a_bracketed_expression : {vs : List Sym} {d : ℕ} {ws : List Wanted} {ts : List Word} → Derives vs (ExpressionUnit d ∷ ExpressionRest d [] None ∷ ws) ts → Derives vs (Bracketed d ∷ ws) ts
  an_operation : {vs : List Sym} {d : ℕ} {waiting : List Waiting} (more : List Waiting) {into : Option Target} {ws : List Wanted} {w : Word} {ts : List Word} → is_some (operation_of w.keyword) ≡ true → Derives vs (ExpressionUnit d ∷ ExpressionRest d more into ∷ ws) ts → Derives vs (ExpressionRest d waiting into ∷ ws) (w ∷ ts)
  no_operation : {vs : List Sym} {d : ℕ} {waiting : List Waiting} {into : Option Target} {ws : List Wanted} {w : Word} {ts : List Word} → is_right w.kind ≡ true → Derives vs ws ts → Derives vs (ExpressionRest d waiting into ∷ ws) (w ∷ ts)
  -- ( substr VARIABLE ATTR ATTR ) | ( substr VARIABLE ATTR inf ), the latter after the vector attribute alone
  a_substr : {vs : List Sym} {t : Target} {ws : List Wanted} {w : Word} {ts : List Word} → w.keyword ≡ keyword.Substr → Derives vs (SourceCell ∷ SourceAttribute t ∷ ws) ts → Derives vs (Function t ∷ ws) (w ∷ ts)
  a_source : {vs : List Sym} {ws : List Wanted} {w : Word} {ts : List Word} → is_variable w.kind ≡ true → Derives vs ws ts → Derives vs (SourceCell ∷ ws) (w ∷ ts)
  a_source_attribute : {vs : List Sym} {t : Target} {ws : List Wanted} {w : Word} {ts : List Word} → is_name w.kind ≡ true → Derives vs (SourceEnd t w.name ∷ Closes EndsWhole ∷ ws) ts → Derives vs (SourceAttribute t ∷ ws) (w ∷ ts)
  the_same_again : {vs : List Sym} {t : Target} {name : Sym} {ws : List Wanted} {w : Word} {ts : List Word} → is_name w.kind ≡ true → (w.name.0 == name.0) ≡ true → (is_inf w.keyword && is_one_of name vs) ≡ false → Derives vs ws ts → Derives vs (SourceEnd t name ∷ ws) (w ∷ ts)
  up_to_inf : {vs : List Sym} {t : Target} {name : Sym} {ws : List Wanted} {w : Word} {ts : List Word} → is_inf w.keyword ≡ true → is_one_of name vs ≡ true → takes_several t ≡ true → Derives vs ws ts → Derives vs (SourceEnd t name ∷ ws) (w ∷ ts)
  an_atom : {vs : List Sym} {t : Target} {ws : List Wanted} {w : Word} {ts : List Word} → is_atom w ≡ true → Derives vs ws ts → Derives vs (Atom t ∷ ws) (w ∷ ts)
  -- place = test | { test* }
  a_conjunction : {vs : List Sym} {f : ℕ} {ws : List Wanted} {w : Word} {ts : List Word} → is_left_brace w.kind ≡ true → Derives vs (Tests f ∷ ws) ts → Derives vs (Place f ∷ ws) (w ∷ ts)
  no_more_tests : {vs : List Sym} {f : ℕ} {ws : List Wanted} {w : Word} {ts : List Word} → is_right_brace w.kind ≡ true → Derives vs ws ts → Derives vs (Tests f ∷ ws) (w ∷ ts)
  -- test = constant | VARIABLE | PRED constant | PRED VARIABLE | << atom* >>, alone and among others
  an_operand : {vs : List Sym} {f : ℕ} {ws : List Wanted} {w : Word} {ts : List Word} → is_operand w ≡ true → Derives vs ws ts → Derives vs (Place f ∷ ws) (w ∷ ts)
  a_literal : {vs : List Sym} {f : ℕ} {ws : List Wanted} {w : Word} {ts : List Word} → is_literal w.keyword ≡ true → Derives vs (Atom (ToTest f pred.Eq) ∷ ws) ts → Derives vs (Place f ∷ ws) (w ∷ ts)
  a_predicate : {vs : List Sym} {f : ℕ} {p : Pred} {ws : List Wanted} {w : Word} {ts : List Word} → pred_of w.keyword ≡ Some p → Derives vs (Tested f p ∷ ws) ts → Derives vs (Place f ∷ ws) (w ∷ ts)
  a_disjunction : {vs : List Sym} {f : ℕ} {ws : List Wanted} {w : Word} {ts : List Word} → opens_choice w.keyword ≡ true → Derives vs (Choice f ∷ ws) ts → Derives vs (Place f ∷ ws) (w ∷ ts)
  one_more_operand : {vs : List Sym} {f : ℕ} {ws : List Wanted} {w : Word} {ts : List Word} → is_operand w ≡ true → Derives vs (Tests f ∷ ws) ts → Derives vs (Tests f ∷ ws) (w ∷ ts)
  one_more_literal : {vs : List Sym} {f : ℕ} {ws : List Wanted} {w : Word} {ts : List Word} → is_literal w.keyword ≡ true → Derives vs (Atom (ToTest f pred.Eq) ∷ Tests f ∷ ws) ts → Derives vs (Tests f ∷ ws) (w ∷ ts)
  one_more_predicate : {vs : List Sym} {f : ℕ} {p : Pred} {ws : List Wanted} {w : Word} {ts : List Word} → pred_of w.keyword ≡ Some p → Derives vs (Tested f p ∷ Tests f ∷ ws) ts → Derives vs (Tests f ∷ ws) (w ∷ ts)
  one_more_disjunction : {vs : List Sym} {f : ℕ} {ws : List Wanted} {w : Word} {ts : List Word} → opens_choice w.keyword ≡ true → Derives vs (Choice f ∷ Tests f ∷ ws) ts → Derives vs (Tests f ∷ ws) (w ∷ ts)
  -- constant | VARIABLE, after a predicate
  a_tested_operand : {vs : List Sym} {f : ℕ} {p : Pred} {ws : List Wanted} {w : Word} {ts : List Word} → is_operand w ≡ true → Derives vs ws ts → Derives vs (Tested f p ∷ ws) (w ∷ ts)
  a_tested_literal : {vs : List Sym} {f : ℕ} {p : Pred} {ws : List Wanted} {w : Word} {ts : List Word} → is_literal w.keyword ≡ true → Derives vs (Atom (ToTest f p) ∷ ws) ts → Derives vs (Tested f p ∷ ws) (w ∷ ts)
  -- atom* >>
  one_more_choice : {vs : List Sym} {f : ℕ} {ws : List Wanted} {w : Word} {ts : List Word} → is_choice w ≡ true → Derives vs (Choice f ∷ ws) ts → Derives vs (Choice f ∷ ws) (w ∷ ts)
  no_more_choices : {vs : List Sym} {f : ℕ} {ws : List Wanted} {w : Word} {ts : List Word} → closes_choice w.keyword ≡ true → Derives vs ws ts → Derives vs (Choice f ∷ ws) (w ∷ ts)
  -- action = ( make CLASS put* ) | ( modify DESIGNATOR put* ) | ( remove DESIGNATOR DESIGNATOR* ) | ( write item* )
  -- | ( bind VARIABLE [value] ) | ( cbind VARIABLE ) | ( halt ) | ( build NAME first condition* --> action* ), the last but
  -- in one that is built
  an_action : {vs : List Sym} {b : Bool} {ws : List Wanted} {w : Word} {ts : List Word} → is_left w.kind ≡ true → Derives vs (ActionWord b ∷ Actions b ∷ ws) ts → Derives vs (Actions b ∷ ws) (w ∷ ts)
  no_action : {vs : List Sym} {b : Bool} {ws : List Wanted} {w : Word} {ts : List Word} → is_right w.kind ≡ true → Derives vs ws ts → Derives vs (Actions b ∷ ws) (w ∷ ts)
  to_make : {vs : List Sym} {b : Bool} {ws : List Wanted} {w : Word} {ts : List Word} → w.keyword ≡ keyword.Make → Derives vs (ClassName ∷ Terms InPut ∷ ws) ts → Derives vs (ActionWord b ∷ ws) (w ∷ ts)
  to_modify : {vs : List Sym} {b : Bool} {ws : List Wanted} {w : Word} {ts : List Word} → w.keyword ≡ keyword.Modify → Derives vs (Modified ∷ Terms InPut ∷ ws) ts → Derives vs (ActionWord b ∷ ws) (w ∷ ts)
  to_bind : {vs : List Sym} {b : Bool} {ws : List Wanted} {w : Word} {ts : List Word} → w.keyword ≡ keyword.Bind → Derives vs (BoundName ∷ BoundValue ∷ ws) ts → Derives vs (ActionWord b ∷ ws) (w ∷ ts)
  to_cbind : {vs : List Sym} {b : Bool} {ws : List Wanted} {w : Word} {ts : List Word} → w.keyword ≡ keyword.Cbind → Derives vs (CellName ∷ Closes EndsWhole ∷ ws) ts → Derives vs (ActionWord b ∷ ws) (w ∷ ts)
  to_remove : {vs : List Sym} {b : Bool} {ws : List Wanted} {w : Word} {ts : List Word} → w.keyword ≡ keyword.Remove → Derives vs (Cell ∷ Cells ∷ ws) ts → Derives vs (ActionWord b ∷ ws) (w ∷ ts)
  to_write : {vs : List Sym} {b : Bool} {ws : List Wanted} {w : Word} {ts : List Word} → w.keyword ≡ keyword.Write → Derives vs (Items ∷ ws) ts → Derives vs (ActionWord b ∷ ws) (w ∷ ts)
  to_halt : {vs : List Sym} {b : Bool} {ws : List Wanted} {w : Word} {ts : List Word} → w.keyword ≡ keyword.Halt → Derives vs (Closes EndsHalt ∷ ws) ts → Derives vs (ActionWord b ∷ ws) (w ∷ ts)
  to_build : {vs : List Sym} {ws : List Wanted} {w : Word} {ts : List Word} → w.keyword ≡ keyword.Build → Derives vs (BuiltName ∷ FirstPattern ∷ Patterns ∷ Actions true ∷ ws) ts → Derives vs (ActionWord false ∷ ws) (w ∷ ts)
  a_built_name : {vs : List Sym} {ws : List Wanted} {w : Word} {ts : List Word} → is_name w.kind ≡ true → Derives vs ws ts → Derives vs (BuiltName ∷ ws) (w ∷ ts)
  a_modified : {vs : List Sym} {ws : List Wanted} {w : Word} {ts : List Word} → is_designator w.kind ≡ true → Derives vs ws ts → Derives vs (Modified ∷ ws) (w ∷ ts)
  a_bound_name : {vs : List Sym} {ws : List Wanted} {w : Word} {ts : List Word} → is_variable w.kind ≡ true → Derives vs ws ts → Derives vs (BoundName ∷ ws) (w ∷ ts)
  a_bound_value : {vs : List Sym} {ws : List Wanted} {ts : List Word} → Derives vs (ValueFor ToBind ∷ Closes EndsWhole ∷ ws) ts → Derives vs (BoundValue ∷ ws) ts
  no_bound_value : {vs : List Sym} {ws : List Wanted} {w : Word} {ts : List Word} → is_right w.kind ≡ true → Derives vs ws ts → Derives vs (BoundValue ∷ ws) (w ∷ ts)
  a_cell_name : {vs : List Sym} {ws : List Wanted} {w : Word} {ts : List Word} → is_variable w.kind ≡ true → Derives vs ws ts → Derives vs (CellName ∷ ws) (w ∷ ts)
  a_cell : {vs : List Sym} {ws : List Wanted} {w : Word} {ts : List Word} → is_designator w.kind ≡ true → Derives vs ws ts → Derives vs (Cell ∷ ws) (w ∷ ts)
  one_more_cell : {vs : List Sym} {ws : List Wanted} {w : Word} {ts : List Word} → is_designator w.kind ≡ true → Derives vs (Cells ∷ ws) ts → Derives vs (Cells ∷ ws) (w ∷ ts)
  no_more_cells : {vs : List Sym} {ws : List Wanted} {w : Word} {ts : List Word} → is_right w.kind ≡ true → Derives vs ws ts → Derives vs (Cells ∷ ws) (w ∷ ts)
  -- item = value | ( crlf ) | ( tabto SMALL ) | ( rjust SMALL )
  an_item : {vs : List Sym} {ws : List Wanted} {w : Word} {ts : List Word} → is_value w ≡ true → Derives vs (Items ∷ ws) ts → Derives vs (Items ∷ ws) (w ∷ ts)
  a_literal_item : {vs : List Sym} {ws : List Wanted} {w : Word} {ts : List Word} → is_literal w.keyword ≡ true → Derives vs (Atom ToItem ∷ Items ∷ ws) ts → Derives vs (Items ∷ ws) (w ∷ ts)
  an_item_form : {vs : List Sym} {ws : List Wanted} {w : Word} {ts : List Word} → is_left w.kind ≡ true → Derives vs (ItemWord ∷ Items ∷ ws) ts → Derives vs (Items ∷ ws) (w ∷ ts)
  no_item : {vs : List Sym} {ws : List Wanted} {w : Word} {ts : List Word} → is_right w.kind ≡ true → Derives vs ws ts → Derives vs (Items ∷ ws) (w ∷ ts)
  a_crlf : {vs : List Sym} {ws : List Wanted} {w : Word} {ts : List Word} → w.keyword ≡ keyword.Crlf → Derives vs (Closes EndsCrlf ∷ ws) ts → Derives vs (ItemWord ∷ ws) (w ∷ ts)
  a_tab : {vs : List Sym} {ws : List Wanted} {w : Word} {ts : List Word} → w.keyword ≡ keyword.Tabto → Derives vs (Columns ToTab ∷ Closes EndsWhole ∷ ws) ts → Derives vs (ItemWord ∷ ws) (w ∷ ts)
  a_right : {vs : List Sym} {ws : List Wanted} {w : Word} {ts : List Word} → w.keyword ≡ keyword.Rjust → Derives vs (Columns ToRight ∷ Closes EndsWhole ∷ ws) ts → Derives vs (ItemWord ∷ ws) (w ∷ ts)
  a_function_item : {vs : List Sym} {ws : List Wanted} {ts : List Word} → Derives vs (Function ToItem ∷ ws) ts → Derives vs (ItemWord ∷ ws) ts
  some_columns : {vs : List Sym} {c : Column} {ws : List Wanted} {w : Word} {ts : List Word} → is_some (small_of w.kind) ≡ true → Derives vs ws ts → Derives vs (Columns c ∷ ws) (w ∷ ts)
  -- )
  a_closing : {vs : List Sym} {e : Ends} {ws : List Wanted} {w : Word} {ts : List Word} → is_right w.kind ≡ true → Derives vs ws ts → Derives vs (Closes e ∷ ws) (w ∷ ts)

-- the words are a text of the grammar, at whose begin no vector attribute was declared
abbrev pub IsText : List Word → Type 0
IsText words = Derives [] (Forms ∷ []) words

-- the fault says that a word continues no form of the grammar
abbrev pub is_no_form : Fault → Bool
is_no_form fault.Stray = true
is_no_form fault.UnknownCommand = true
is_no_form fault.BadForm = true
is_no_form _ = false
