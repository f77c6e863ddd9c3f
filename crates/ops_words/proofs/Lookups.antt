-- The arguments of the command line once it is built, and which of them a name finds.
use Rattle.std.proofs.Common.{◌≡◌, ◌&&◌, ◌||◌, Bool, cond, true, false, List, [], ◌∷◌, ◌++◌, Some, None, codes, refl}
use Rattle.std.specs.Str.{bytes_eq}
use Rattle.std.proofs.lemmas.Bool.{true≢false}
use Rattle.clap.specs.Walk.{Rule, Text, arg_by_id, arg_by_long}
use Rattle.clap.specs.Simple.{Shape, built, new_rule}
use Rattle.clap.specs.declared.builder.action.ArgAction.TheVariants.{Append, Set, SetTrue}
use Rattle.clap.specs.declared.builder.value_parser.ValueParser.TheVariants as parser
use Rattle.ops_jobs.specs.CommandLine.{is_flag, is_option}
use Rattle.ops_jobs.proofs.EachOption.{each_flag, each_option}
use Rattle.ops_words.specs.Command.{app}

-- an option, a flag and the files, as building leaves them
abbrev pub built_option : Text → Rule
built_option name = record (new_rule name) {
  long = Some name;
  action = Some Set;
  parser = Some parser.String;
  range = Some (record { start_inclusive = 1; end_inclusive = 1 });
}

abbrev pub built_flag : Text → Rule
built_flag name = record (new_rule name) {
  long = Some name;
  action = Some SetTrue;
  defaults = codes "false" ∷ [];
  missing = codes "true" ∷ [];
  parser = Some parser.Bool;
  range = Some (record { start_inclusive = 0; end_inclusive = 0 });
}

abbrev pub built_files : Rule
built_files = record (new_rule (codes "file")) {
  action = Some Append;
  index = Some 1;
  parser = Some parser.String;
  range = Some (record { start_inclusive = 1; end_inclusive = 1 });
  required = true;
}

abbrev pub options : List Rule
options = built_option (codes "match") ∷ built_option (codes "workers") ∷ built_option (codes "lines") ∷ built_option (codes "limit") ∷ []

abbrev pub arguments : List Rule
arguments = options ++ built_flag (codes "gen") ∷ built_flag (codes "net") ∷ built_flag (codes "why") ∷ built_flag (codes "overlap") ∷ built_files ∷ []

abbrev pub top : Shape
top = (built app).top

-- ---- by name

pub long_option : (name : Text) → is_option name ≡ true → arg_by_long top.rules name ≡ Some (built_option name)
long_option = each_option (λ name. arg_by_long top.rules name ≡ Some (built_option name)) refl refl refl refl

pub id_option : (name : Text) → is_option name ≡ true → arg_by_id top.rules name ≡ Some (built_option name)
id_option = each_option (λ name. arg_by_id top.rules name ≡ Some (built_option name)) refl refl refl refl

pub long_flag : (name : Text) → is_flag name ≡ true → arg_by_long top.rules name ≡ Some (built_flag name)
long_flag = each_flag (λ name. arg_by_long top.rules name ≡ Some (built_flag name)) refl refl refl refl

pub not_flag : (name : Text) → is_option name ≡ true → is_flag name ≡ false
not_flag = each_option (λ name. is_flag name ≡ false) refl refl refl refl

pub flag_not_files : (name : Text) → is_flag name ≡ true → bytes_eq (codes "file") name ≡ false
flag_not_files = each_flag (λ name. bytes_eq (codes "file") name ≡ false) refl refl refl refl

pub not_files : (name : Text) → is_option name ≡ true → bytes_eq (codes "file") name ≡ false
not_files = each_option (λ name. bytes_eq (codes "file") name ≡ false) refl refl refl refl

pub no_argument : (name : Text) → is_option name ≡ false → is_flag name ≡ false → arg_by_long top.rules name ≡ None
no_argument name = go (bytes_eq (codes "match") name) (bytes_eq (codes "workers") name) (bytes_eq (codes "lines") name) (bytes_eq (codes "limit") name)
    (bytes_eq (codes "gen") name) (bytes_eq (codes "net") name) (bytes_eq (codes "why") name) (bytes_eq (codes "overlap") name)
  where
    go : (s t u v w x y z : Bool) → (s || (t || (u || (v || false)))) ≡ false → (w || (x || (y || (z || false)))) ≡ false
        → cond (true && (s || false)) (Some (built_option (codes "match"))) (cond (true && (t || false)) (Some (built_option (codes "workers")))
        (cond (true && (u || false)) (Some (built_option (codes "lines"))) (cond (true && (v || false)) (Some (built_option (codes "limit")))
        (cond (true && (w || false)) (Some (built_flag (codes "gen"))) (cond (true && (x || false)) (Some (built_flag (codes "net"))) (cond (true && (y || false)) (Some (built_flag (codes "why"))) (cond (true && (z || false)) (Some (built_flag (codes "overlap"))) None))))))) ≡ None
    go true t u v w x y z e f = absurd (true≢false e)
    go false true u v w x y z e f = absurd (true≢false e)
    go false false true v w x y z e f = absurd (true≢false e)
    go false false false true w x y z e f = absurd (true≢false e)
    go false false false false true x y z e f = absurd (true≢false f)
    go false false false false false true y z e f = absurd (true≢false f)
    go false false false false false false true z e f = absurd (true≢false f)
    go false false false false false false false true e f = absurd (true≢false f)
    go false false false false false false false false e f = refl
