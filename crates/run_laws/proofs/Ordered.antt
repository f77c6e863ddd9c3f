-- Valid commands find what they name.
use Rattle.std.proofs.Common.{◌≡◌, ℕ, ◌+◌, List, [], ◌∷◌, length, Bool, true, false, cond, ◌&&◌, ◌||◌, ◌==◌, Some, None, is_some, refl, nat_lt, nat_le, slice_get, arith}
use Rattle.std.specs.List.{list_all}
use Rattle.std.proofs.lemmas.Bool.{and_parts, and_from, eqb-true}
use Rattle.ops_base.specs.declared.commands.Command.{Command}
use Rattle.ops_base.specs.declared.commands.Command.TheVariants as command
use Rattle.ops_base.specs.declared.commands.Fixed.{Fixed}
use Rattle.ops_base.specs.declared.elements.Class.{Class}
use Rattle.ops_base.specs.declared.values.Value.{Value}
use Rattle.ops_base.specs.Valid.{class_of, is_attribute, is_vector, most_fields, fits, fixed_is_valid, fixed_are_valid, command_is_valid}
use Rattle.ops_meaning.specs.Acting.{Setting}
use Rattle.run_laws.specs.Programs.{AreValid}
use Rattle.run_laws.specs.Finding.{is_class, fixed_finds, command_finds}
use Rattle.run_laws.proofs.Knowing.{there}
use Rattle.run_laws.proofs.Parts.{all_such}
use Rattle.run_laws.proofs.Sessions.{valid_parts}

fixed_found : (c : Class) (p : Fixed) → fixed_is_valid c p ≡ true → fixed_finds c p ≡ true
fixed_found c p h =
    let parts = and_parts (is_attribute c p.field) (cond (is_vector c p.field) (nat_le (p.field + length p.values) most_fields) (length p.values == 1)) h in
    and_from _ _ parts.0 (by (is_vector c p.field) parts.1)
  where
    first : (vs : List Value) → length vs ≡ 1 → is_some (slice_get vs 0) ≡ true
    first [] one = absurd (omega arith)
    first (v ∷ vs) one = refl

    by : (b : Bool) → cond b (nat_le (p.field + length p.values) most_fields) (length p.values == 1) ≡ true → (b || is_some (slice_get p.values 0)) ≡ true
    by true few = refl
    by false one = first p.values (eqb-true (length p.values) 1 one)

puts_found : (classes : List Class) (class : ℕ) (puts : List Fixed) → fixed_are_valid classes class puts ≡ true → (is_class classes class && list_all (fixed_finds (class_of classes class)) puts) ≡ true
puts_found classes class puts h =
    let whole = and_parts (nat_lt class (length classes) && fits puts) (list_all (fixed_is_valid (class_of classes class)) puts) h in
    let front = and_parts (nat_lt class (length classes)) (fits puts) whole.0 in
    and_from _ _ (there classes class front.0) (all_such (fixed_is_valid (class_of classes class)) (fixed_finds (class_of classes class)) (fixed_found (class_of classes class)) puts whole.1)

command_found : (classes : List Class) (text : ℕ) (c : Command) → command_is_valid classes text c ≡ true → command_finds classes c ≡ true
command_found classes text (command.Make class puts) h = puts_found classes class puts h
command_found classes text (command.Remove tags) h = refl
command_found classes text command.RemoveAll h = refl
command_found classes text (command.Run count) h = refl
command_found classes text (command.Wm tags) h = refl
command_found classes text (command.Ppwm None) h = refl
command_found classes text (command.Ppwm (Some p)) h = puts_found classes p.0 p.1 h
command_found classes text command.Cs h = refl
command_found classes text (command.Pm names) h = refl
command_found classes text (command.Strategy set) h = refl
command_found classes text (command.Watch set) h = refl
command_found classes text (command.Pbreak names) h = refl
command_found classes text (command.Add r) h = refl
command_found classes text (command.Excise names) h = refl
command_found classes text (command.Back count) h = refl
command_found classes text (command.Matches names) h = refl
command_found classes text command.Exit h = refl

pub commands_found : (s : Setting) (commands : List Command) → AreValid s commands → list_all (command_finds s.classes) commands ≡ true
commands_found s commands h =
    all_such (command_is_valid s.classes (length s.text)) (command_finds s.classes) (command_found s.classes (length s.text)) commands (valid_parts s commands h).commands
