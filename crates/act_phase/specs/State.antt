-- What the state of a right side in the code means.
use Rattle.std.specs.Prelude.{ℕ, List, [], ◌∷◌, Bool, true, nat_lt, slice_get, option_map, unwrap_or}
use Rattle.ops_base.specs.Names.{Spellings}
use Rattle.ops_base.specs.declared.actions.Action.{Action}
use Rattle.ops_base.specs.declared.elements.Element.{Element}
use Rattle.ops_base.specs.declared.elements.Change.{Change}
use Rattle.ops_base.specs.declared.matching.Binding.{Binding}
use Rattle.ops_base.specs.declared.rules.Rule.{Rule}
use Rattle.ops_base.specs.declared.values.Value.{Value}
use Rattle.ops_io.specs.Coming.{Coming}
use Rattle.ops_meaning.specs.Acting.{ActState as Meant, Setting, Valued, Filled, no_element, made_by}
use Rattle.act_phase.specs.Changed.{Changed, memory_of}
use Rattle.act_phase.specs.declared.state.Cell.{Cell}
use Rattle.act_phase.specs.declared.state.Cell.TheVariants as cell
use Rattle.act_phase.specs.declared.values.Values.{Values}
use Rattle.act_phase.specs.declared.values.Values.TheVariants as values

-- the setting of the right side, working memory and its changes so far, the bindings of the variables, the elements
-- that the cells hold, whether a `halt` was done, and the productions that were built
pub record State : Type 0 where
  pub setting : Setting
  pub working : Changed
  pub bindings : List Binding
  pub cells : List Element
  pub halted : Bool
  pub built : List Rule

-- the element that the change at this place adds
abbrev pub made_at : List Change → ℕ → Element
made_at changes place = unwrap_or (option_map (made_by no_element) (slice_get changes place)) no_element

-- the element that a cell holds, if these are the changes made so far
abbrev pub held_by : List Change → Cell → Element
held_by changes (cell.Matched e) = e.now
held_by changes (cell.Made place) = made_at changes place
held_by changes cell.Nothing = no_element

-- if the cell refers to a change, it is among the first `n`
abbrev pub is_there : ℕ → Cell → Bool
is_there n (cell.Matched e) = true
is_there n (cell.Made place) = nat_lt place n
is_there n cell.Nothing = true

-- a right side between two of its actions: its state, all its actions, and how many of them are done
pub record Between : Type 0 where
  pub state : State
  pub actions : List Action
  pub done : ℕ

-- the meaning of the state, with these names in use and this input still to come
abbrev pub doing_of : State → Spellings → Coming → Meant
doing_of d names coming =
    record {
      wm = memory_of d.working;
      changes = d.working.changes;
      last = d.working.last;
      bindings = d.bindings;
      cells = d.cells;
      halted = d.halted;
      built = d.built;
      names = names;
      coming = coming;
    }

-- the element of a cell, which does not depend on the names
abbrev pub held_in : State → ℕ → Element
held_in d cell = unwrap_or (slice_get d.cells cell) no_element

abbrev pub values_in : Values → List Value
values_in (values.One v) = v ∷ []
values_in (values.Row vs) = vs.now

abbrev pub valued_of : Values → Meant → Valued
valued_of values d = record { values = values_in values; doing = d }

abbrev pub filled_of : List Value → Meant → Filled
filled_of fields d = record { fields = fields; doing = d }
