-- How the code's walk over the words follows the definition's walk.
use Rattle.std.specs.Prelude.{◌≡◌, Bool, true, false, ◌||◌, ◌&&◌, not, is_some, List, [], ◌∷◌, ◌++◌, Some, None, Result, Ok, Err}
use Rattle.ops_grammar.specs.declared.words.Word.{Word}
use Rattle.ops_grammar.specs.Grammar.{Target as Goal, ToFixed, ToConstants, TagUse as TagGoal, ToRemove, ToShow, NameUse as NameGoal, ToPrint, ToBreak, ToExcise, ToMatch, Forms, State, is_literal, value_of, hole_of, no_formula, goes}
use Rattle.ops_forms.specs.declared.refusals.Refusal.{Refusal}
use Rattle.ops_forms.specs.declared.refusals.Refusal.TheVariants as refusal
use Rattle.ops_check.specs.declared.draft.Draft.{Draft}
use Rattle.ops_check.specs.declared.draft.Target.{Target}
use Rattle.ops_check.specs.declared.draft.Target.TheVariants as target
use Rattle.ops_check.specs.declared.draft.TagUse.{TagUse}
use Rattle.ops_check.specs.declared.draft.TagUse.TheVariants as tag_use
use Rattle.ops_check.specs.declared.draft.ElementUse.{ElementUse}
use Rattle.ops_check.specs.declared.draft.ElementUse.TheVariants as element_use
use Rattle.ops_check.specs.declared.draft.NameUse.{NameUse}
use Rattle.ops_check.specs.declared.draft.NameUse.TheVariants as name_use

-- whether the elements of a command are shown
abbrev pub shows : ElementUse → Bool
shows element_use.Make = false
shows element_use.Show = true

-- what a draft holds: nothing of a side of a production that is being read
abbrev pub view : Draft → State
view d =
    record {
      classes = d.classes;
      rules = d.rules;
      templates = d.templates.items;
      commands = d.commands;
      vectors = d.vectors;
      name = d.name;
      first = d.first;
      attrs = d.attrs.items;
      class = d.class;
      tests = [];
      choice = [];
      terms = [];
      constants = d.constants.items;
      puts = [];
      fixed = d.fixed.items;
      cells = [];
      items = [];
      values = d.values;
      elements = d.elements;
      element = record { 0 = 0 };
      variables = d.variables;
      negated = false;
      around = 0;
      grouped = false;
      members = [];
      conditions = [];
      actions = [];
      begun = 0;
      modified = None;
      made = None;
      further = [];
      variable = record { 0 = 0 };
      source = 0;
      source_field = 0;
      formula = no_formula;
      counted = 0;
      holes = [];
      outer = None;
      shows = shows d.element_use;
      tags = d.tags.items;
      named = d.named.items;
    }

abbrev pub target_of : Target → Goal
target_of (target.Fixed f) = ToFixed f
target_of target.Constants = ToConstants

abbrev pub tag_use_of : TagUse → TagGoal
tag_use_of tag_use.Remove = ToRemove
tag_use_of tag_use.Show = ToShow

abbrev pub name_use_of : NameUse → NameGoal
name_use_of name_use.Print = ToPrint
name_use_of name_use.Break = ToBreak
name_use_of name_use.Excise = ToExcise
name_use_of name_use.Match = ToMatch

-- the call read all words as forms
abbrev pub ReadsAll : State → State → List Word → Result Unit Refusal → Type 0
ReadsAll old new words (Ok x) = (more : List Word) → goes (words ++ more) (Forms ∷ []) old ≡ goes more (Forms ∷ []) new
ReadsAll old new words (Err refusal.OutOfMemory) = Unit {0}
ReadsAll old new words (Err (refusal.At f None)) = goes (words ++ []) (Forms ∷ []) old ≡ Err (f, None)
ReadsAll old new words (Err (refusal.At f (Some w))) = (more : List Word) → goes (words ++ more) (Forms ∷ []) old ≡ Err (f, Some w)

-- the word begins a constant, which is no hole
abbrev pub begins_value : Word → Bool
begins_value w = is_literal w.keyword || (is_some (value_of w.kind w.name) && not (is_some (hole_of w.keyword)))
